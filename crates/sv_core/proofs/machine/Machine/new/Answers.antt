use Rattle.std.proofs.Common.{◌≡◌, ℕ, [], arith, length, List, refl, subst, ap, ◌∙◌}
use Rattle.std.proofs.lemmas.List.{length-replicate}
use Rattle.sv_base.specs.declared.spec.GroupSpec.{GroupSpec}
use Rattle.sv_calls.specs.CallBook.{no_calls}
use Rattle.sv_child.specs.Moves.{new_child}
use Rattle.sv_children.specs.Crew.{Crew}
use Rattle.sv_core.specs.MachineState.{opening}
use Rattle.sv_core.specs.StandsFor.{rest}
use Rattle.sv_groups.specs.StartOrder.{processes}
use Rattle.sv_pool.specs.EventPools as all_pools
use Rattle.sv_pool.specs.StandsFor as kept_pools
use Rattle.sv_runs.specs.RunBook as all_runs
use Rattle.sv_runs.specs.StandsFor as kept_runs
use Rattle.sv_core.proofs.machine.Machine.new.Goals as goal

pub returns : goal.returns
unfolding rest
returns c =
    let groups = c.args.config.groups in
    let roster : c.roster.result.now ≡ groups =
    c.roster.ensures ∙ ap (λ (crew : Crew). crew.roster) c.in_ok-children.ensures in
    let size : length c.groups.result.now ≡ length groups =
    ap (λ (gs : List GroupSpec). length gs)
    (c.groups.ensures.value ∙ c.roster-2.ensures ∙ ap (λ (crew : Crew). crew.roster) c.in_ok-children.ensures) in
    let count : c.len.result ≡ length (processes groups) =
    c.len.ensures ∙ ap (λ (crew : Crew). length crew.all) c.in_ok-children.ensures ∙ length-replicate (length (processes groups)) new_child in
    record {
      whole = refl;
      idle = c.new-10.ensures.items;
      older = [];
      hand_at = record {
        world = (opening c.args.config c.args.sizes.items c.args.host.now).base;
        shows = record {
          pools = all_pools.opening groups;
          runs = all_runs.opening (length (processes groups));
          is = rw (c.in_ok-children.ensures, size, c.in_ok-sizes.ensures, c.new-6.ensures, c.new-10.ensures.items) refl;
          pools_kept = subst (λ (gs : List GroupSpec). kept_pools.StandsFor c.in_ok-pools.pools (all_pools.opening gs)) roster c.in_ok-pools.ensures;
          runs_kept = subst (λ (n : ℕ). kept_runs.StandsFor c.in_ok-runs.runs (all_runs.opening n)) count c.in_ok-runs.ensures;
          streams = [];
          streams_kept = c.new-7.ensures;
          links = [];
          links_kept = c.new-8.ensures;
          calls = no_calls;
          calls_kept = c.new-9.ensures;
        };
        is = refl;
      };
      names = record { within = omega arith; first = refl; failures = c.new-5.ensures.items; above = λ number. refl };
    }
