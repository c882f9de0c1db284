use Rattle.std.proofs.Common.{Some, None, arith, refl, sym, ◌∙◌, ◌+◌, ◌++◌}
use Rattle.sv_base.specs.declared.ids.Run.{Run}
use Rattle.sv_core.proofs.Left.{made_at, starting_none}
use Rattle.sv_core.proofs.Moved.{no_number, nothing_started, start_there}
use Rattle.sv_core.proofs.Shown.{at_same, stops}
use Rattle.sv_core.specs.Left.{starting}
use Rattle.sv_core.specs.Requests.{spawns_for, start_fails}
use Rattle.sv_core.specs.StandsFor.{shown}
use Rattle.sv_core.proofs.machine.Machine.spawn_for.Goals as goal

pub returns-then-self-gt-LAST_RUN-clause-spawns : goal.returns-then-self-gt-LAST_RUN-clause-spawns
returns-then-self-gt-LAST_RUN-clause-spawns c =
    let link = c.args.link in
    stops (spawns_for link c.args.child) (starting link None) c.args.self.now c.fail_start.new.self (λ older pools runs streams links calls k kept alive written bound called.
    let w = shown c.args.self.now older pools runs streams links calls in
    let after = start_fails link c.args.child w in
    at_same c.fail_start.new.self older _ (k after) _ (no_number link w c.args.child k (omega (arith, c.if-self-gt-LAST_RUN.true)))
    (made_at c.fail_start.new.self older after k (starting link None k) (starting_none link k)
    (c.in_ok-fail_start.ensures.fails older w (record { pools = pools; runs = runs; is = refl; pools_kept = kept; runs_kept = alive; streams = streams; streams_kept = written; links = links; links_kept = bound; calls = calls; calls_kept = called }))))

pub returns-in-None-clause-spawns : goal.returns-in-None-clause-spawns
returns-in-None-clause-spawns c =
    let link = c.args.link in
    stops (spawns_for link c.args.child) (starting link None) c.args.self.now c.args.self.now (λ older pools runs streams links calls k kept alive written bound called.
    let w = shown c.args.self.now older pools runs streams links calls in
    at_same c.args.self.now older _ (k w) _
    (nothing_started link w c.args.child k (omega arith) (sym c.in-None.is ∙ c.in_ok-spawn_order.ensures))
    (made_at c.args.self.now older w k (starting link None k) (starting_none link k) (record { pools = pools; runs = runs; is = refl; pools_kept = kept; runs_kept = alive; streams = streams; streams_kept = written; links = links; links_kept = bound; calls = calls; calls_kept = called })))

pub returns-in_ok-push-in-Some-clause-spawns : goal.returns-in_ok-push-in-Some-clause-spawns
unfolding starting
returns-in_ok-push-in-Some-clause-spawns c =
    let link = c.args.link in
    let run : Run = record { 0 = c.args.self.now.numbers.next_run } in
    stops (spawns_for link c.args.child) (starting link (Some (record { child = c.args.child; run = run }))) c.args.self.now _ (λ older pools runs streams links calls k kept alive written bound called.
    let w = shown c.args.self.now older pools runs streams links calls in
    record {
      world = record w { next_run = w.next_run + 1; given = older ++ c.push.new.self.items };
      shows = record { pools = pools; runs = runs; is = refl; pools_kept = kept; runs_kept = alive; streams = streams; streams_kept = written; links = links; links_kept = bound; calls = calls; calls_kept = called };
      is = start_there link w older _ _ c.args.child c.in-Some.spawning k
          refl (omega arith) (sym c.in-Some.is ∙ c.in_ok-spawn_order.ensures) c.in_ok-push-in-Some.ensures.items;
    })
