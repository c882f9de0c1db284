use Rattle.std.proofs.Common.{◌≡◌, ◌++◌, map, take, drop, None}
use Rattle.sv_pool.proofs.pool.forget_held.Given as goal

abbrev pub invariant-loop-place : goal.invariant-loop-place
invariant-loop-place l =
    l.place-items ≡ map (λ _. None) (take l.place-index l.initial.place-items) ++ drop l.place-index l.initial.place-items
