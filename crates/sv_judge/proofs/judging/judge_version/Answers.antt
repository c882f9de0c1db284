use Rattle.std.proofs.Common.{[], refl}
use Rattle.sv_judge.specs.JournalPlaces.Stage.{Named, Long}
use Rattle.sv_judge.specs.declared.long.LongPlace.TheVariants.{Titled}
use Rattle.sv_judge.proofs.judging.judge_version.Goals as goal

pub returns-in-0-clause-judged : goal.returns-in-0-clause-judged
returns-in-0-clause-judged c = (Named [], rw (← c.get.ensures.value, c.in-0.is) refl, c.none.ensures)

pub returns-in-1-clause-judged : goal.returns-in-1-clause-judged
returns-in-1-clause-judged c = (Long Titled, rw (← c.get.ensures.value, c.in-1.is) refl, refl)
