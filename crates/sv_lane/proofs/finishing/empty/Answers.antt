use Rattle.std.proofs.Common.{rules, arith, ap, ◌∙◌, ◌++◌, ◌∷◌, [], List, ℕ, append_assoc}
use Rattle.sv_lane.proofs.AnyRole.{empties_as, settles_as}
use Rattle.sv_lane.proofs.Ending.{finishing_still, one_less}
use Rattle.sv_lane.proofs.Seated.{items_of-append}
use Rattle.sv_lane.specs.Roles.{closed_in, left_in, taken_in}
use Rattle.sv_lane.proofs.finishing.empty.Goals as goal

pub try_recv_as-requires-clause-rule : goal.try_recv_as-requires-clause-rule
try_recv_as-requires-clause-rule g c = (empties_as _ _ c.loop.invariant.all, settles_as _ _ c.loop.invariant.all)

pub loop-preserved : goal.loop-preserved
loop-preserved g c =
    let old = c.loop.invariant in
    let step = c.in-Ok.ensures.rule in
    let last : List (ℕ × g.row.T.Denot) = (step.0, c.in-Ok.item) ∷ [] in
    let now = one_less _ _ step.0 c.in-Ok.item old.all step.2 in
    let some = step.1 in
    let fewer = ap left_in now in
    let room = old.room in
    record {
      seated = search rules;
      all = finishing_still _ _ _ _ now;
      closed = ap closed_in now ∙ old.closed;
      room = omega (arith, c.push_reserved.ensures.len, c.push_reserved.ensures.capacity);
      taken = (
        old.taken.0 ++ last,
        items_of-append old.taken.0 last ∙ ap (λ (l : List g.row.T.Denot). l ++ c.in-Ok.item ∷ []) old.taken.1 ∙ search rules,
        ap taken_in now ∙ ap (λ (l : List (ℕ × g.row.T.Denot)). l ++ last) old.taken.2 ∙ append_assoc _ old.taken.0 last,
      );
    }
