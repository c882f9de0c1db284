-- Which link loses its place, where all places are taken.
use Rattle.std.specs.Prelude.{ℕ, Bool, true, false, ◌≡◌, ◌+◌, ◌-◌, ◌^◌, ◌<◌, ◌≤◌, List, Option, None}
use Rattle.std.specs.Prelude.{Some, min, nat_lt, slice_get, if◌then◌else◌}
use Rattle.sv_sockets.specs.declared.idle.Standing.{Standing}

-- how much a link has to lose its place that waits for its peer and was idle for so long: one that was served keeps it for
-- two seconds, any other for a quarter of a second, and loses it before all that were served
abbrev pub idle_claim : Bool → ℕ → ℕ
idle_claim true idle = if nat_lt idle 2000 then 0 else idle
idle_claim false idle = if nat_lt idle 250 then 0 else min (idle + 1000000) (2 ^ 64 - 1)

-- how much a link has to lose its place; nothing while its peer waits for a reply
abbrev pub claim : ℕ → Standing → ℕ
claim now link = if link.waits then idle_claim link.served (now - link.since) else 0

-- the place is that of a link with the greatest claim, or none has any
abbrev pub HasLongest : ℕ → List Standing → Option ℕ → Type 0
HasLongest now links None =
    (i : ℕ) (other : Standing) → slice_get links i ≡ Some other → claim now other ≡ 0
HasLongest now links (Some place) =
    (link : Standing) × (slice_get links place ≡ Some link) × (0 < claim now link)
    × ((i : ℕ) (other : Standing) → slice_get links i ≡ Some other → claim now other ≤ claim now link)
