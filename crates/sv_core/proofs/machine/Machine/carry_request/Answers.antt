use Rattle.std.proofs.Common.{None, false, ap}
use Rattle.sv_base.specs.declared.kind.Kind.TheVariants as kind
use Rattle.sv_core.proofs.Left.{made_at, wanting_none}
use Rattle.sv_core.proofs.Shown.{at_same}
use Rattle.sv_core.specs.Events.{offers}
use Rattle.sv_core.specs.Left.{wanting}
use Rattle.sv_core.specs.Moves.{kills}
use Rattle.sv_core.specs.Requests.{carries_request, writes}
use Rattle.sv_core.specs.Shutdown.{begins_shutdown}
use Rattle.sv_core.specs.Stops.{stops}
use Rattle.sv_events.specs.declared.fact.Fact.TheVariants as fact
use Rattle.sv_methods.specs.declared.planned.Request.{Request}
use Rattle.sv_core.proofs.machine.Machine.carry_request.Goals as goal

pub returns-in_ok-stop-in-Stop-clause-carries : goal.returns-in_ok-stop-in-Stop-clause-carries
returns-in_ok-stop-in-Stop-clause-carries c = λ older w k s.
    let link = c.args.link in
    let v = stops c.in-Stop.child.0 w in
    at_same c.stop.new.self older _ (k v) _ (ap (λ (what : Request). carries_request link what w k) c.in-Stop.is)
    (made_at c.stop.new.self older v k (wanting link None k) (wanting_none link k) (c.in_ok-stop-in-Stop.ensures.stops older w s))

pub returns-in_ok-kill-in-Kill-clause-carries : goal.returns-in_ok-kill-in-Kill-clause-carries
returns-in_ok-kill-in-Kill-clause-carries c = λ older w k s.
    let link = c.args.link in
    let v = kills c.in-Kill.child.0 c.in-Kill.signal false w in
    at_same c.kill.new.self older _ (k v) _ (ap (λ (what : Request). carries_request link what w k) c.in-Kill.is)
    (made_at c.kill.new.self older v k (wanting link None k) (wanting_none link k) (c.in_ok-kill-in-Kill.ensures.kills older w s))

pub returns-in_ok-write-in-Stdin-clause-carries : goal.returns-in_ok-write-in-Stdin-clause-carries
returns-in_ok-write-in-Stdin-clause-carries c = λ older w k s.
    let link = c.args.link in
    let v = writes c.in-Stdin.child.0 c.in-Stdin.bytes w in
    at_same c.write.new.self older _ (k v) _ (ap (λ (what : Request). carries_request link what w k) c.in-Stdin.is)
    (made_at c.write.new.self older v k (wanting link None k) (wanting_none link k) (c.in_ok-write-in-Stdin.ensures.writes older w s))

pub returns-in_ok-offer-in-Remote-clause-carries : goal.returns-in_ok-offer-in-Remote-clause-carries
returns-in_ok-offer-in-Remote-clause-carries c = λ older w k s.
    let link = c.args.link in
    let v = offers kind.RemoteCommunication (fact.Remote c.in-Remote.sort c.in-Remote.bytes) w in
    at_same c.offer.new.self older _ (k v) _ (ap (λ (what : Request). carries_request link what w k) c.in-Remote.is)
    (made_at c.offer.new.self older v k (wanting link None k) (wanting_none link k) (c.in_ok-offer-in-Remote.ensures.offers older w s))

pub returns-in_ok-begin_shutdown-in-Shutdown-clause-carries : goal.returns-in_ok-begin_shutdown-in-Shutdown-clause-carries
returns-in_ok-begin_shutdown-in-Shutdown-clause-carries c = λ older w k s.
    let link = c.args.link in
    let v = begins_shutdown w in
    at_same c.begin_shutdown.new.self older _ (k v) _ (ap (λ (what : Request). carries_request link what w k) c.in-Shutdown.is)
    (made_at c.begin_shutdown.new.self older v k (wanting link None k) (wanting_none link k) (c.in_ok-begin_shutdown-in-Shutdown.ensures.begins older w s))
