use Rattle.std.proofs.Common.{◌≡◌, ◌≤◌, ◌<◌, MatchOption, ℕ, ◌+◌, ◌-◌, ◌*◌, length, Some, slice_get}
use Rattle.sv_sockets.specs.Idle.{HasLongest, claim}
use Rattle.sv_sockets.specs.declared.idle.Standing.{Standing}
use Rattle.sv_sockets.proofs.idle.longest_idle.Given as goal

abbrev pub invariant-loop-place : goal.invariant-loop-place
invariant-loop-place l = record {
  below : (i : ℕ) (other : Standing) → i < l.place → slice_get l.links i ≡ Some other → claim l.now other ≤ l.most;
  held : MatchOption l.found (l.most ≡ 0)
      (λ k. (link : Standing) × (slice_get l.links k ≡ Some link) × (claim l.now link ≡ l.most) × (0 < l.most));
}
