use Rattle.std.proofs.Common.{arith, rules, ◌∙◌}
use Rattle.sv_core.proofs.Shown.{edges_next}
use Rattle.sv_core.proofs.machine.Machine.go_edges.Goals as goal

pub loop-edge-preserved : goal.loop-edge-preserved
loop-edge-preserved c = record {
  kept = search rules;
  goes = λ older w s.
      let at = c.loop-edge.invariant.goes older w s in
      let within = c.loop-edge-test.true in
      record {
        world = _;
        shows = c.in_ok-go_edge_if.ensures.goes older at.world at.shows;
        is = at.is ∙ edges_next c.args.how.now c.args.child c.args.pid c.args.edges.now c.loop-edge.edge-index _ at.world (omega (arith, within));
      };
}
