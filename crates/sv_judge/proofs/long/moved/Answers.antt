use Rattle.std.proofs.Common.{refl}
use Rattle.sv_judge.specs.JournalPlaces.Stage.{Long}
use Rattle.sv_judge.proofs.long.moved.Goals as goal

pub returns-in-Some-clause-judged : goal.returns-in-Some-clause-judged
returns-in-Some-clause-judged c = (Long c.in-Some.place, rw c.in-Some.is refl, refl)
