-- What is accepted, and what is posted of it.
use Rattle.std.specs.Prelude.{◌≡◌, ◌≤◌, ◌+◌, ◌-◌, ◌^◌, ◌==◌, ◌++◌, ℕ, List, Option, length, min}
use Rattle.std.specs.Prelude.{option_map, replicate, if◌then◌else◌}
use Rattle.sv_base.specs.declared.state.Side.{Side}
use Rattle.sv_jobs.specs.declared.notes.Note.{Note}
use Rattle.sv_jobs.specs.declared.notes.Note.TheVariants.{Open}
use Rattle.sv_outside.specs.Listening.{Accepts}

-- a count that rose so many times, as far as it goes
abbrev pub counted_more : ℕ → ℕ → ℕ
counted_more times count = if times == 0 then count else min (count + times) (2 ^ 64 - 1)

-- so many calls more, of which so many gave a link
abbrev pub accepts_more : ℕ → ℕ → Accepts → Accepts
accepts_more calls given accepts = record {
  calls = counted_more calls accepts.calls;
  given = counted_more given accepts.given;
}

-- there were so many calls; each link that was given was posted, in order, and one open for each
pub record Accepted {L : Type 0} (side : Side) (turns : ℕ) (told told_after : Option Accepts)
    (links links_after : List L) (notes notes_after : List Note) : Type 0 where
  pub given : List L
  pub posted : links_after ≡ links ++ given
  pub opened : notes_after ≡ notes ++ replicate (length given) (Open side)
  pub called : told_after ≡ option_map (accepts_more turns (length given)) told
  pub few : length given ≤ turns
