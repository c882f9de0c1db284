use Rattle.std.proofs.Common.{◌≡◌, ◌≤◌, ◌++◌, vec_len, vec_capacity}
use Rattle.sv_lane.specs.Ends.{IsSameTaker, taken}
use Rattle.sv_lane.specs.Order.{items_of}
use Rattle.sv_lane.proofs.parts.take_some.Given as goal

abbrev pub invariant-loop : goal.invariant-loop
invariant-loop g l = record {
  room : vec_capacity l.fn.room ≤ vec_capacity l.all;
  count : vec_len l.all ≡ l.counter;
  taken : items_of (taken l.taker) ≡ items_of (taken l.fn.taker) ++ l.all.items;
  same : IsSameTaker l.fn.taker l.taker;
}
