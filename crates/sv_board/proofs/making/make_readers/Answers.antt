use Rattle.std.proofs.Common.{rules, sym, subst, List, refl}
use Rattle.sv_board.proofs.NewReaders.{more_readers}
use Rattle.sv_board.proofs.RuleKept.{admits}
use Rattle.sv_board.specs.Ends.{AreNewReaders}
use Rattle.sv_board.specs.declared.home.Home.{Home}
use Rattle.sv_board.specs.declared.reader.BoardReader.{BoardReader}
use Rattle.sv_board.proofs.making.make_readers.Goals as goal

pub reader-requires : goal.reader-requires
reader-requires c = admits

pub loop-preserved : goal.loop-preserved
loop-preserved c = let home : Home = record { from = c.in_ok-another.field-0 } in (
  search rules,
  search rules,
  subst (λ (l : List BoardReader). AreNewReaders home l) (sym c.push_reserved.ensures.items) (more_readers home c.loop.made.items _ c.loop.invariant.2 (c.of.ensures, refl, refl)),
)
