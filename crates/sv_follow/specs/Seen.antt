-- What a reader sees of a log that it follows (the manual's action `tail -f`), given the log's bytes
-- at each poll.
use Rattle.std.specs.Prelude.{◌-◌, ◌∷◌, ℕ, List, [], Bool, true, false, drop, length, nat_lt}
use Rattle.std.specs.Prelude.{if◌then◌else◌}
use Rattle.sv_follow.specs.Follower.{first_bytes, most_bytes}

-- what it sees at a poll: bytes, how many were lost before them, and whether the log was rotated
pub record Sight : Type 0 where
  pub bytes : List ℕ
  pub lost : ℕ
  pub rotated : Bool

-- the last so many of these bytes
abbrev pub last : ℕ → List ℕ → List ℕ
last count bytes = drop (length bytes - count) bytes

-- at the first poll it sees the end of the log
abbrev pub seen_first : List ℕ → Sight
seen_first bytes = record { bytes = last first_bytes bytes; lost = 0; rotated = false }

-- at a later poll it sees what was appended to so many bytes, of which all but the last ones are
-- lost; nothing where the log is shorter
abbrev pub seen_from : ℕ → List ℕ → Sight
seen_from offset bytes =
    if nat_lt (length bytes) offset then record { bytes = []; lost = 0; rotated = true }
    else record {
      bytes = last most_bytes (drop offset bytes);
      lost = length bytes - offset - most_bytes;
      rotated = false;
    }

-- so many bytes the next poll begins at: those that the log had, or none where it was rotated
abbrev pub seen_to : Sight → List ℕ → ℕ
seen_to sight bytes = if sight.rotated then 0 else length bytes

-- what it sees at later polls
abbrev pub seen_later : ℕ → List (List ℕ) → List Sight
seen_later offset [] = []
seen_later offset (bytes ∷ polls) =
    seen_from offset bytes ∷ seen_later (seen_to (seen_from offset bytes) bytes) polls

-- what it sees at all polls
abbrev pub seen : List (List ℕ) → List Sight
seen [] = []
seen (bytes ∷ polls) = seen_first bytes ∷ seen_later (length bytes) polls
