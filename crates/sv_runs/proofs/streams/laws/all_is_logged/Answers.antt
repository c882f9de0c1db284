use Rattle.std.proofs.Common.{◌≡◌, ℕ, List, [], ◌∷◌, ◌++◌, refl, ap, ◌∙◌, append-nil}
use Rattle.std.proofs.lemmas.Grind.{flat_map-append}
use Rattle.std.specs.List.{flat_map}
use Rattle.sv_pipes.specs.Kept.{logged_part}
use Rattle.sv_runs.specs.Streams.StreamBook.{logged_by, logged_in, parts_through}
use Rattle.sv_runs.proofs.streams.laws.all_is_logged.Goals as goal

logged_once : (bytes : List ℕ) → logged_in (logged_part bytes) ≡ bytes
logged_once [] = refl
logged_once (byte ∷ bytes) = append-nil (byte ∷ bytes)

logged_all : (pieces : List (List ℕ)) (stream : List ℕ) → logged_in (parts_through 0 stream pieces) ≡ flat_map (λ (piece : List ℕ). piece) pieces
logged_all [] stream = refl
logged_all (piece ∷ pieces) stream =
    flat_map-append logged_by (logged_part piece) (parts_through 0 (stream ++ piece) pieces)
    ∙ ap (λ front. front ++ logged_in (parts_through 0 (stream ++ piece) pieces)) (logged_once piece)
    ∙ ap (λ back. piece ++ back) (logged_all pieces (stream ++ piece))

pub returns : goal.returns
returns c = λ pieces. logged_all pieces []
