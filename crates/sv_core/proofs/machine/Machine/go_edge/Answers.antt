use Rattle.std.proofs.Common.{[], ◌∷◌, ◌++◌, Some, refl}
use Rattle.sv_children.specs.Orders.{reports_at}
use Rattle.sv_core.proofs.Shown.{edge_gone, given_there, made}
use Rattle.sv_core.specs.Moves.{goes_edge}
use Rattle.sv_core.specs.StandsFor.{shown}
use Rattle.sv_core.proofs.machine.Machine.go_edge.Goals as goal

pub returns-clause-goes : goal.returns-clause-goes
returns-clause-goes c = made (goes_edge c.args.how c.args.child c.args.pid c.args.edge) c.args.self.now c.offer_if.new.self (λ older pools runs streams links calls kept alive written bound called.
    let w = shown c.args.self.now older pools runs streams links calls in
    let told = reports_at w.children c.args.child (Some c.args.edge ∷ []) in
    edge_gone c.offer_if.new.self older c.args.how c.args.child c.args.pid c.args.edge w c.kind_of.result c.in_ok-fact.fact c.in_ok-line.line
    c.kind_of.ensures c.in_ok-fact.ensures c.in_ok-line.ensures
    (c.in_ok-offer_if.ensures.offers older _
    (c.in_ok-note_if.ensures.notes older (record w { given = w.given ++ told })
    (record { pools = pools; runs = runs; is = given_there w older c.args.self.now.hand.given.items _ told refl c.in_ok-report.ensures; pools_kept = kept; runs_kept = alive; streams = streams; streams_kept = written; links = links; links_kept = bound; calls = calls; calls_kept = called }))))
