-- A prefix of a text was written, and then some more of its rest.
use Rattle.std.proofs.Common.{◌≡◌, ℕ, List, ◌++◌, Option, take, drop, append_assoc}
use Rattle.std.proofs.lemmas.List.{take-append-drop}
use Rattle.std.proofs.KnownBytes.{Appends-trans}
use Rattle.std.specs.Io.KnownBytes.{Appends}

pub wrote_more : (a b c : Option (List ℕ)) (text rest : List ℕ) (n : ℕ)
    → (front : List ℕ) × (text ≡ front ++ rest) × Appends a b front → Appends b c (take n rest)
    → (front : List ℕ) × (text ≡ front ++ drop n rest) × Appends a c front
wrote_more a b c text rest n wrote more =
    (wrote.0 ++ take n rest, rw (append_assoc, take-append-drop n rest) wrote.1, Appends-trans a b c wrote.0 (take n rest) wrote.2 more)
