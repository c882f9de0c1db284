use Rattle.std.proofs.Common.{ℕ, List, Some, None, arith, refl, subst, sym, ◌∙◌, ◌+◌, ◌++◌}
use Rattle.sv_base.specs.declared.ids.Run.{Run}
use Rattle.sv_core.proofs.Moved.{nothing_spawned, none_left, spawned_there}
use Rattle.sv_core.proofs.Shown.{at_same, done_at, stops}
use Rattle.sv_core.specs.Moves.{answered, fails}
use Rattle.sv_core.specs.StandsFor.{Shows, shown, stopped}
use Rattle.sv_core.specs.Sweeps.{spawns}
use Rattle.sv_core.specs.declared.part.Reply.TheVariants.{Refused}
use Rattle.sv_core.proofs.machine.Machine.spawn.Goals as goal

pub returns-then-self-gt-LAST_RUN-clause-spawns : goal.returns-then-self-gt-LAST_RUN-clause-spawns
returns-then-self-gt-LAST_RUN-clause-spawns c =
    stops (spawns c.args.child) (stopped None) c.args.self.now c.answer.new.self (λ older pools runs streams links calls k kept alive written bound called.
    let w = shown c.args.self.now older pools runs streams links calls in
    at_same c.answer.new.self older _ (k (fails c.args.child w)) _ (none_left w c.args.child k (omega (arith, c.if-self-gt-LAST_RUN.true)))
    (done_at c.answer.new.self older (fails c.args.child w) k
    (subst (λ (text : List ℕ). Shows c.answer.new.self older (answered c.args.child (record { 0 = 0 }) (Refused text) w)) c.fixed.ensures
    (c.in_ok-answer.ensures.answered older w (record { pools = pools; runs = runs; is = refl; pools_kept = kept; runs_kept = alive; streams = streams; streams_kept = written; links = links; links_kept = bound; calls = calls; calls_kept = called })))))

pub returns-in-None-clause-spawns : goal.returns-in-None-clause-spawns
returns-in-None-clause-spawns c =
    stops (spawns c.args.child) (stopped None) c.args.self.now c.args.self.now (λ older pools runs streams links calls k kept alive written bound called.
    let w = shown c.args.self.now older pools runs streams links calls in
    at_same c.args.self.now older _ (k w) _
    (nothing_spawned w c.args.child k (omega arith) (sym c.in-None.is ∙ c.in_ok-spawn_order.ensures))
    (done_at c.args.self.now older w k (record { pools = pools; runs = runs; is = refl; pools_kept = kept; runs_kept = alive; streams = streams; streams_kept = written; links = links; links_kept = bound; calls = calls; calls_kept = called })))

pub returns-in_ok-push-in-Some-clause-spawns : goal.returns-in_ok-push-in-Some-clause-spawns
unfolding stopped
returns-in_ok-push-in-Some-clause-spawns c =
    let run : Run = record { 0 = c.args.self.now.numbers.next_run } in
    stops (spawns c.args.child) (stopped (Some (record { child = c.args.child; run = run }))) c.args.self.now _ (λ older pools runs streams links calls k kept alive written bound called.
    let w = shown c.args.self.now older pools runs streams links calls in
    record {
      world = record w { next_run = w.next_run + 1; given = older ++ c.push.new.self.items };
      shows = record { pools = pools; runs = runs; is = refl; pools_kept = kept; runs_kept = alive; streams = streams; streams_kept = written; links = links; links_kept = bound; calls = calls; calls_kept = called };
      is = spawned_there w older _ _ c.args.child c.in-Some.spawning k
          refl (omega arith) (sym c.in-Some.is ∙ c.in_ok-spawn_order.ensures) c.in_ok-push-in-Some.ensures.items;
    })
