use Rattle.std.proofs.Common.{None, ap}
use Rattle.sv_core.proofs.Left.{made_at, wanting_none}
use Rattle.sv_core.proofs.Shown.{at_same}
use Rattle.sv_core.specs.Left.{wanting, wanting_answered}
use Rattle.sv_core.specs.Requests.{start_answered}
use Rattle.sv_core.specs.declared.place.Wanting.{Wanting}
use Rattle.sv_core.proofs.machine.Machine.go_on_wanting.Goals as goal

pub returns-in_ok-answer_start-in-Start-clause-goes : goal.returns-in_ok-answer_start-in-Start-clause-goes
returns-in_ok-answer_start-in-Start-clause-goes c = λ older w k s.
    let link = c.args.link in
    let asked = c.in-Start.asked in
    let v = start_answered link asked.child asked.run c.args.reply w in
    at_same c.answer_start.new.self older _ (k v) _ (ap (λ (p : Wanting). wanting_answered link p c.args.reply w k) c.in-Start.is)
    (made_at c.answer_start.new.self older v k (wanting link None k) (wanting_none link k)
    (c.in_ok-answer_start-in-Start.ensures.answered older w s))
