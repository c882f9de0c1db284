use Rattle.std.proofs.Common.{◌++◌, ℕ, List, Err, refl, sym, ap, subst, arith}
use Rattle.std.specs.Prelude.{codes}
use Rattle.sv_journal.specs.Outcome.{IsOrNoMemory}
use Rattle.sv_journal.specs.declared.fault.LineFault.{LineFault}
use Rattle.sv_journal.specs.declared.fault.LineFault.TheVariants.{BadLine}
use Rattle.sv_judge.proofs.FoundLines.{misplaced_mark}
use Rattle.sv_judge.specs.JournalPlaces.Line.{Noted}
use Rattle.sv_out.specs.declared.order.Order.{Order}
use Rattle.sv_judge.proofs.judging.judge_noted.Goals as goal

pub returns : goal.returns
returns c = λ m. record {
  line = Noted c.in-Ok.field-0;
  fits = c.in-Ok.ensures.fits;
  spelled = ap (λ (rest : List ℕ). codes "> " ++ rest) (sym c.in-Ok.ensures.found);
  short = omega (arith, c.if-order.false);
  stands = refl;
}

pub returns-in-Err-BadLine : goal.returns-in-Err-BadLine
returns-in-Err-BadLine c = λ m.
    misplaced_mark m c.args.order.now
    (λ o fits spelled short. never o
    (subst (λ (fault : LineFault). IsOrNoMemory (Err fault) o) c.in-Err-BadLine.field-0-is
    (c.in-Err-BadLine.ensures.only o fits spelled (omega (arith, short)))))
  where
    never : (o : Order) → IsOrNoMemory (Err (BadLine c.in-Err-BadLine.field-0-0)) o → ⊥
    never o wrong = wrong
