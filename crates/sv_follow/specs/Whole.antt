-- That of a log which is followed no byte is missing but those that are told as lost.
use Rattle.std.specs.Prelude.{◌≡◌, ◌++◌, ◌∷◌, ℕ, List, [], length, if◌then◌else◌}
use Rattle.sv_follow.specs.Seen.{Sight}

-- these bytes were appended: those that were lost, and those that are seen
pub record Appended (appended : List ℕ) (sight : Sight) : Type 0 where
  pub missing : List ℕ
  pub parts : appended ≡ missing ++ sight.bytes
  pub lost : length missing ≡ sight.lost

-- the bytes with which the log is to begin at the next poll: none where it was found rotated
abbrev pub begun_with : Sight → List ℕ → List ℕ
begun_with sight bytes = if sight.rotated then [] else bytes

-- at each of these polls at which the log begins with the bytes of the poll before, what was
-- appended to them is seen, but for what is told as lost
abbrev pub IsWhole : List ℕ → List (List ℕ) → List Sight → Type 0
IsWhole before [] [] = Unit {0}
IsWhole before [] (sight ∷ sights) = ⊥
IsWhole before (bytes ∷ polls) [] = ⊥
IsWhole before (bytes ∷ polls) (sight ∷ sights) =
    ((appended : List ℕ) → bytes ≡ before ++ appended → Appended appended sight)
    × IsWhole (begun_with sight bytes) polls sights
