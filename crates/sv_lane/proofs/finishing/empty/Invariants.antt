use Rattle.std.proofs.Common.{◌≡◌, ◌+◌, ◌≤◌, ◌++◌, ℕ, List, vec_len, vec_capacity}
use Rattle.crossbeam_channel.specs.Claims.{view, IsSeatAt}
use Rattle.crossbeam_channel.specs.Ends.{receives_on}
use Rattle.sv_lane.specs.Order.{items_of}
use Rattle.sv_lane.specs.Roles.{IsFinishing, closed_in, left_in, taken_in}
use Rattle.sv_lane.proofs.finishing.empty.Given as goal

abbrev pub invariant-loop : goal.invariant-loop
invariant-loop g l = record {
  seated : IsSeatAt (receives_on l.receiver) l.pass;
  all : IsFinishing (view l.pass);
  closed : closed_in (view l.pass) ≡ closed_in (view l.fn.pass);
  room : vec_len l.rest + left_in (view l.pass) ≤ vec_capacity l.rest;
  taken : (seated : List (ℕ × g.row.T.Denot)) × (items_of seated ≡ l.rest.items)
      × (taken_in (view l.pass) ≡ taken_in (view l.fn.pass) ++ seated);
}
