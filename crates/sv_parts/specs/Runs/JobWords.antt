-- The jobs of a run that a gate was handed.
use Rattle.std.specs.Prelude.{◌≡◌, ◌<◌, ◌++◌, ◌∷◌, ℕ, Bool, true, false, List, [], Option, length}
use Rattle.std.specs.Prelude.{option_map, take}
use Rattle.sv_base.specs.declared.ids.Run.{Run}
use Rattle.sv_base.specs.declared.state.Stream.TheVariants as streams
use Rattle.sv_outside.specs.declared.jobs.JobWord.{JobWord}
use Rattle.sv_outside.specs.declared.jobs.JobWord.TheVariants.{Pump, Stdin, Watch}

-- a gate that tells its words tells these besides
abbrev pub grown : List JobWord → Option (List JobWord) → Option (List JobWord)
grown words kept = option_map (λ (told : List JobWord). told ++ words) kept

-- the words of the jobs of a run, in the order in which they are handed over
abbrev pub words_of_run : Run → List JobWord
words_of_run run = Stdin run ∷ Pump run streams.Out ∷ Pump run streams.Err ∷ Watch run ∷ []

-- the jobs were kept in order, up to the first that came back
pub record Starts (words : List JobWord) (all : Bool) (old new : Option (List JobWord)) : Type 0
  where
    pub count : ℕ
    pub kept : new ≡ grown (take count words) old
    pub whole : all ≡ true → count ≡ length words
    pub short : all ≡ false → count < length words
