use Rattle.std.proofs.Common.{Err, subst}
use Rattle.sv_journal.specs.Outcome.{IsOrNoMemory}
use Rattle.sv_journal.specs.declared.fault.LineFault.{LineFault}
use Rattle.sv_journal.specs.declared.fault.LineFault.TheVariants.{BadLine}
use Rattle.sv_journal.specs.declared.header.Header.{Header}
use Rattle.sv_judge.proofs.FoundLines.{before_go, no_head_there, stood_by_head}
use Rattle.sv_judge.proofs.judging.JournalProgress.judge_header.Goals as goal

pub returns-in-Ok : goal.returns-in-Ok
returns-in-Ok c = λ at is.
    stood_by_head c.in_ok-self-in-Ok.field-0 at c.in-Ok.header c.args.line.now c.in-Ok.ensures.fits c.in-Ok.ensures.found c.in-Ok.ensures.short
    (c.in_ok-self-in-Ok.ensures at (rw c.replace-place.ensures.value is))

pub returns-in-Err-BadLine : goal.returns-in-Err-BadLine
returns-in-Err-BadLine c = λ at is.
    no_head_there at c.args.line.now (before_go c.args.self.now at is c.requires)
    (λ h fits spelled short. never h
    (subst (λ (fault : LineFault). IsOrNoMemory (Err fault) h) c.in-Err-BadLine.field-0-is
    (c.in-Err-BadLine.ensures.only h fits spelled short)))
  where
    never : (h : Header) → IsOrNoMemory (Err (BadLine c.in-Err-BadLine.field-0-0)) h → ⊥
    never h wrong = wrong
