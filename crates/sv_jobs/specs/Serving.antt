-- What is read and written over a link, and what is told of it.
use Rattle.std.specs.Prelude.{◌≡◌, ◌++◌, ◌∷◌, ℕ, List, [], true, Option, map, option_map}
use Rattle.std.specs.List.{flat_map}
use Rattle.sv_base.specs.declared.ids.LinkId.{LinkId}
use Rattle.sv_jobs.specs.LastNotes.{last_notes}
use Rattle.sv_jobs.specs.declared.notes.LinkWord.{LinkWord}
use Rattle.sv_jobs.specs.declared.notes.LinkWord.TheVariants.{Send, More, Close}
use Rattle.sv_jobs.specs.declared.notes.Note.{Note}
use Rattle.sv_jobs.specs.declared.notes.Note.TheVariants as note
use Rattle.sv_out.specs.Exchanges.{SentFront}
use Rattle.sv_out.specs.declared.connection.Exchange.{Exchange}
use Rattle.sv_outside.specs.declared.jobs.PumpEnd.{PumpEnd}
use Rattle.sv_outside.specs.declared.jobs.PumpEnd.TheVariants.{Ended, Failed, OutOfMemory}

-- a word that was worked off: bytes that were written whole, or a piece that was read
pub data Deed : Type 0 where
  Wrote : List ℕ → Deed
  Heard : List ℕ → Deed

-- the word that it was
abbrev pub word_of : Deed → LinkWord
word_of (Wrote bytes) = Send bytes
word_of (Heard piece) = More

-- the note that was posted of it
abbrev pub note_of : LinkId → Deed → Note
note_of link (Wrote bytes) = note.Sent link
note_of link (Heard piece) = note.Piece link piece

-- the bytes that were written by it
abbrev pub written_by : Deed → List ℕ
written_by (Wrote bytes) = bytes
written_by (Heard piece) = []

-- the bytes that were read by it
abbrev pub read_by : Deed → List ℕ
read_by (Wrote bytes) = []
read_by (Heard piece) = piece

-- what went over the link after these deeds
abbrev pub after_deeds : List Deed → Exchange → Exchange
after_deeds deeds exchange = record exchange {
  sent = exchange.sent ++ flat_map written_by deeds;
  heard = exchange.heard ++ flat_map read_by deeds;
}

-- the words of these deeds, each with the seat that it came from
abbrev pub words_of : List (ℕ × Deed) → List (ℕ × LinkWord)
words_of deeds = map (λ (deed : ℕ × Deed). (deed.0, word_of deed.1)) deeds

-- the deeds alone
abbrev pub deeds_of : List (ℕ × Deed) → List Deed
deeds_of deeds = map (λ (deed : ℕ × Deed). deed.1) deeds

-- a read gave the end
abbrev pub ended : Exchange → Exchange
ended exchange = record exchange { ended = true }

-- what the last word did, by how the work ended
abbrev pub EndsAt : PumpEnd → LinkWord → Option Exchange → Option Exchange → Type 0
EndsAt Ended Close before after = after ≡ before
EndsAt Ended More before after = after ≡ option_map ended before
EndsAt Ended (Send bytes) before after = ⊥
EndsAt Failed Close before after = ⊥
EndsAt Failed More before after = after ≡ before
EndsAt Failed (Send bytes) before after = SentFront before after bytes
EndsAt OutOfMemory Close before after = ⊥
EndsAt OutOfMemory More before after = after ≡ before
EndsAt OutOfMemory (Send bytes) before after = ⊥

-- each word that was taken was worked off, in order, with its note; the last one ended the work
pub record Serving (link : LinkId) (end : PumpEnd) (told told_after : Option Exchange)
    (taken taken_after : List (ℕ × LinkWord)) (posted posted_after : List Note) : Type 0 where
  pub deeds : List (ℕ × Deed)
  pub seat : ℕ
  pub word : LinkWord
  pub words : taken_after ≡ (taken ++ words_of deeds) ++ (seat, word) ∷ []
  pub bytes : EndsAt end word (option_map (after_deeds (deeds_of deeds)) told) told_after
  pub notes : posted_after ≡ posted ++ map (note_of link) (deeds_of deeds)

-- and the last note is that the link is over
pub record Served (link : LinkId) (end : PumpEnd) (told told_after : Option Exchange)
    (taken taken_after : List (ℕ × LinkWord)) (posted posted_after : List Note) : Type 0 where
  pub deeds : List (ℕ × Deed)
  pub seat : ℕ
  pub word : LinkWord
  pub words : taken_after ≡ (taken ++ words_of deeds) ++ (seat, word) ∷ []
  pub bytes : EndsAt end word (option_map (after_deeds (deeds_of deeds)) told) told_after
  pub notes : posted_after ≡ (posted ++ map (note_of link) (deeds_of deeds))
      ++ last_notes end (note.LinkEnd link)
