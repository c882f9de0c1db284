use Rattle.std.proofs.Common.{◌≡◌, ◌∙◌, ◌+◌, ◌≤◌, ap, arith, length, sym, List}
use Rattle.sv_base.specs.declared.spec.Spec.{Spec}
use Rattle.sv_groups.proofs.Processes.{group_within, rest_is, window}
use Rattle.sv_groups.specs.StartOrder.{first_members, members_at}
use Rattle.sv_groups.proofs.changes.still_running.Goals as goal

pub slice_bounds-first_running-end : goal.slice_bounds-first_running-end
slice_bounds-first_running-end c =
    let size : length c.first_members-members.result.now ≡ length (members_at c.args.place c.args.groups.now) = ap (λ (ms : List Spec). length ms) (c.first_members-members.ensures ∙ ap first_members (rest_is c.args.place c.args.groups.now)) in
    let within : c.count-first.result + length c.first_members-members.result.now ≤ length c.args.children.now = omega (arith, group_within c.args.place c.args.groups.now, c.count-first.ensures, c.requires.children) in
    sym (window c.count-first.result (length c.first_members-members.result.now) c.args.children.now within)

pub first_running-requires : goal.first_running-requires
first_running-requires c =
    let size : length c.first_members-members.result.now ≡ length (members_at c.args.place c.args.groups.now) = ap (λ (ms : List Spec). length ms) (c.first_members-members.ensures ∙ ap first_members (rest_is c.args.place c.args.groups.now)) in
    let within : c.count-first.result + length c.first_members-members.result.now ≤ length c.args.children.now = omega (arith, group_within c.args.place c.args.groups.now, c.count-first.ensures, c.requires.children) in
    omega (arith, window c.count-first.result (length c.first_members-members.result.now) c.args.children.now within)
