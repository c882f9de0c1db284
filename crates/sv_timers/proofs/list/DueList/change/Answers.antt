use Rattle.sv_timers.proofs.NextLaws.{changed}
use Rattle.sv_timers.proofs.list.DueList.change.Goals as goal

pub returns : goal.returns
returns c = changed c.args.self.now c.rest_past-self.result c.args.place c.rest_past-self.ensures
