-- The words that follow a log (the manual's action `tail -f`).
use Rattle.std.specs.Prelude.{◌&&◌, ◌∷◌, ℕ, List, [], Bool, Option, Some, None, codes}
use Rattle.std.specs.Prelude.{if◌then◌else◌}
use Rattle.std.specs.Option.{option_map}
use Rattle.std.specs.Str.{bytes_eq}
use Rattle.sv_base.specs.declared.state.Stream.{Stream}
use Rattle.sv_base.specs.declared.state.Stream.TheVariants.{Out, Err}

-- the action and its option
abbrev pub is_following : List ℕ → List ℕ → Bool
is_following action option = bytes_eq action (codes "tail") && bytes_eq option (codes "-f")

-- a stream by its word
abbrev pub stream_of : List ℕ → Option Stream
stream_of word =
    if bytes_eq word (codes "stdout") then Some Out
    else if bytes_eq word (codes "stderr") then Some Err
    else None

-- the name of a process and its stream, which is the output where none is told; none where the words
-- are others
abbrev pub log_in : List (List ℕ) → Option (List ℕ × Stream)
log_in (action ∷ option ∷ name ∷ []) =
    if is_following action option then Some (name, Out) else None
log_in (action ∷ option ∷ name ∷ channel ∷ []) =
    if is_following action option then option_map (λ s. (name, s)) (stream_of channel) else None
log_in words = None
