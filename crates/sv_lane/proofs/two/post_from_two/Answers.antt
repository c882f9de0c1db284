use Rattle.std.proofs.Common.{List, subst, IfOk}
use Rattle.sv_lane.proofs.Together.{all_of, two_lists}
use Rattle.sv_lane.proofs.two.post_from_two.Goals as goal
use Rattle.sv_lane.specs.Interleaving.{Interleaves}

pub returns : goal.returns
returns g c =
    let one = all_of _ c.args.first.items _ c.in_ok-one.ensures.posted c.join-one.ensures.first.0 in
    let two = all_of _ c.args.second.items _ c.in_ok-two.ensures.posted c.join-one.ensures.first.2 in
    let row = two_lists _ _ _ _ _ _ _ c.in_ok-posters.ensures.items c.push_reserved.ensures.items c.push_reserved-2.ensures.items one two in
    record { whole = subst (λ (lists : List (List g.row.T.Denot)). IfOk c.finish_behind.result (λ all. Interleaves lists all.items)) row c.finish_behind.ensures }
