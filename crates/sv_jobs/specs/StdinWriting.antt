-- What is written to a run's standard input, and what is told of it.
use Rattle.std.specs.Prelude.{◌≡◌, ◌++◌, ◌∷◌, ℕ, List, [], Option, length, map, replicate}
use Rattle.std.specs.Io.KnownBytes.{Appends}
use Rattle.std.specs.List.{concat}
use Rattle.sv_base.specs.declared.ids.Run.{Run}
use Rattle.sv_jobs.specs.declared.notes.Note.{Note}
use Rattle.sv_jobs.specs.declared.notes.Note.TheVariants as note
use Rattle.sv_jobs.specs.declared.notes.StdinWord.{StdinWord}
use Rattle.sv_jobs.specs.declared.notes.StdinWord.TheVariants.{Write, Close}
use Rattle.sv_outside.specs.declared.jobs.PumpEnd.{PumpEnd}
use Rattle.sv_outside.specs.declared.jobs.PumpEnd.TheVariants.{Ended, Failed, OutOfMemory}

-- texts that were taken, each with the seat that it came from, as words
abbrev pub writes : List (ℕ × List ℕ) → List (ℕ × StdinWord)
writes texts = map (λ (text : ℕ × List ℕ). (text.0, Write text.1)) texts

-- these texts, one after the other
abbrev pub joined : List (ℕ × List ℕ) → List ℕ
joined texts = concat (map (λ (text : ℕ × List ℕ). text.1) texts)

-- known bytes grew by these, and then by a prefix of this text
pub record AppendsFrontBehind (old new : Option (List ℕ)) (bytes text : List ℕ) : Type 0 where
  pub front : List ℕ
  pub rest : List ℕ
  pub parts : text ≡ front ++ rest
  pub appends : Appends old new (bytes ++ front)

-- what is written by the end: all texts, and of the last word, where its write failed, a prefix
abbrev pub EndsAt : PumpEnd → StdinWord → Option (List ℕ) → Option (List ℕ) → List ℕ → Type 0
EndsAt Ended Close old new bytes = Appends old new bytes
EndsAt Failed (Write text) old new bytes = AppendsFrontBehind old new bytes text
EndsAt Ended (Write text) old new bytes = ⊥
EndsAt Failed Close old new bytes = ⊥
EndsAt OutOfMemory word old new bytes = ⊥

-- the bytes of the words that were taken were written, in order, and one note posted for each that
-- was written whole; the last word is a Close, or the one whose write failed
pub record Writing (run : Run) (end : PumpEnd) (written written_after : Option (List ℕ))
    (taken taken_after : List (ℕ × StdinWord)) (posted posted_after : List Note) : Type 0 where
  pub texts : List (ℕ × List ℕ)
  pub seat : ℕ
  pub word : StdinWord
  pub words : taken_after ≡ (taken ++ writes texts) ++ (seat, word) ∷ []
  pub bytes : EndsAt end word written written_after (joined texts)
  pub told : posted_after ≡ posted ++ replicate (length texts) (note.Wrote run)

-- and the last note is that nothing more is written
pub record Wrote (run : Run) (end : PumpEnd) (written written_after : Option (List ℕ))
    (taken taken_after : List (ℕ × StdinWord)) (posted posted_after : List Note) : Type 0 where
  pub texts : List (ℕ × List ℕ)
  pub seat : ℕ
  pub word : StdinWord
  pub words : taken_after ≡ (taken ++ writes texts) ++ (seat, word) ∷ []
  pub bytes : EndsAt end word written written_after (joined texts)
  pub told : posted_after ≡ (posted ++ replicate (length texts) (note.Wrote run))
      ++ note.StdinEnd run ∷ []
