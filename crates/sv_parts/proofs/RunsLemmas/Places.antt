-- The life of a run, found by its place.
use Rattle.std.proofs.Common.{◌≡◌, ◌++◌, ◌∷◌, ℕ, Bool, true, false, List, [], Option, None, Some, Ok, Err, MatchOption, get_or, length, refl, slice_get, slice_set, subst, sym}
use Rattle.std.proofs.lemmas.List.Quantifiers.{position-Some}
use Rattle.std.proofs.lemmas.Option.{slice_get_read}
use Rattle.sv_base.specs.declared.signal.Signal.{Signal}
use Rattle.sv_jobs.specs.declared.notes.StdinWord.{StdinWord}
use Rattle.sv_jobs.specs.declared.notes.StdinWord.TheVariants.{Close}
use Rattle.sv_lane.specs.Ends.{IsSameSeat, posted}
use Rattle.sv_lane.specs.declared.poster.Poster.{Poster}
use Rattle.sv_outside.specs.Spawning.{kill_asked, with_one}
use Rattle.sv_outside.specs.declared.spawner.Asked.{Asked}
use Rattle.sv_outside.specs.declared.spawner.Asked.TheVariants.{Kill}
use Rattle.sv_outside.specs.declared.spawner.KillFault.{KillFault}
use Rattle.sv_outside.specs.declared.spawner.KillFault.TheVariants as kills
use Rattle.sv_parts.specs.Runs.Killing.{Kills, KillsAt}
use Rattle.sv_parts.specs.Runs.Lives.{ChangesAt, Posts, is_full, is_of, place_of}
use Rattle.sv_parts.specs.Runs.Noting.{WasClosed}
use Rattle.sv_parts.specs.Runs.Writing.{Writes, WritesAt}
use Rattle.sv_parts.specs.declared.runs.life.Life.{Life}
use Rattle.sv_outside.specs.declared.handing.Handed.TheVariants.{Done, Failed}

here : (run : ℕ) (lives : List Life) (place : ℕ) (life : Life) → Some place ≡ place_of run lives → life ≡ get_or lives place life
    → slice_get lives place ≡ Some life
here run lives place life found is =
    slice_get_read lives (length lives) place life refl (position-Some (is_of run) lives place life (sym found)).0 is

changes : (change : Life → Life → Type 0) (run : ℕ) (lives new : List Life) (place : ℕ) (before after : Life) → Some place ≡ place_of run lives
    → before ≡ get_or lives place before → new ≡ slice_set lives place after → change before after → ChangesAt place change lives new
changes change run lives new place before after found is set changed =
    record { before = before; after = after; here = here run lives place before found is; others = set; changed = changed }

pub changed_at : (P : Type 0) (change : Life → Life → Type 0) (run : ℕ) (lives new : List Life) (place : ℕ) (before after : Life)
    → Some place ≡ place_of run lives → before ≡ get_or lives place before → new ≡ slice_set lives place after → change before after
    → MatchOption (place_of run lives) P (λ p. ChangesAt p change lives new)
changed_at P change run lives new place before after found is set changed =
    subst (λ (o : Option ℕ). MatchOption o P (λ p. ChangesAt p change lives new)) found
    (changes change run lives new place before after found is set changed)

pub written : (E : Type 0) (run : ℕ) (bytes : List ℕ) (lives new : List Life) (place : ℕ) (before after : Life) → Some place ≡ place_of run lives
    → before ≡ get_or lives place before → new ≡ slice_set lives place after → Posts bytes before after
    → Writes {E = E} run bytes lives new (Ok Done)
written E run bytes lives new place before after found is set posts =
    subst (λ (o : Option ℕ). WritesAt {E = E} o bytes lives new (Ok Done)) found
    (changes (Posts bytes) run lives new place before after found is set posts)

pub unwritten : (E : Type 0) (run : ℕ) (bytes : List ℕ) (lives : List Life) (place : ℕ) (life : Life) → Some place ≡ place_of run lives
    → life ≡ get_or lives place life → is_full life ≡ true → Writes {E = E} run bytes lives lives (Ok Failed)
unwritten E run bytes lives place life found is full =
    subst (λ (o : Option ℕ). WritesAt {E = E} o bytes lives lives (Ok Failed)) found
    (record { life = life; here = here run lives place life found is; full = full }, refl)

pub sent : (E : Type 0) (run : ℕ) (signal : Signal) (group : Bool) (lives : List Life) (old new : Option (List Asked)) (place : ℕ) (life : Life)
    → Some place ≡ place_of run lives → life ≡ get_or lives place life → new ≡ with_one (Kill life.pid signal group true) old
    → Kills {E = E} run signal group lives (Ok Done) old new
sent E run signal group lives old new place life found is asked =
    subst (λ (o : Option ℕ). KillsAt {E = E} o signal group lives (Ok Done) old new) found
    (record { life = life; here = here run lives place life found is; asked = asked })

-- a kill that failed is told as one that wasn't sent
pub told_unsent : (pid : ℕ) (signal : Signal) (group : Bool) (fault : KillFault) (old new : Option (List Asked)) → fault ≡ kills.Failed
    → new ≡ kill_asked pid signal group (Err fault) old → new ≡ with_one (Kill pid signal group false) old
told_unsent pid signal group fault old new is asked = subst (λ (f : KillFault). new ≡ kill_asked pid signal group (Err f) old) is asked

pub unsent : (E : Type 0) (run : ℕ) (signal : Signal) (group : Bool) (lives : List Life) (old new : Option (List Asked)) (place : ℕ) (life : Life)
    → Some place ≡ place_of run lives → life ≡ get_or lives place life → new ≡ with_one (Kill life.pid signal group false) old
    → Kills {E = E} run signal group lives (Ok Failed) old new
unsent E run signal group lives old new place life found is asked =
    subst (λ (o : Option ℕ). KillsAt {E = E} o signal group lives (Ok Failed) old new) found
    (record { life = life; here = here run lives place life found is; asked = asked })

pub was_closed : (run : ℕ) (lives : List Life) (place : ℕ) (life : Life) (words : Poster StdinWord) → Some place ≡ place_of run lives
    → life ≡ get_or lives place life → posted words ≡ posted life.words ++ Close ∷ [] → IsSameSeat life.words words
    → MatchOption (place_of run lives) (Some words ≡ None) (λ p. WasClosed p lives (Some words))
was_closed run lives place life words found is posts same =
    subst (λ (o : Option ℕ). MatchOption o (Some words ≡ None) (λ p. WasClosed p lives (Some words))) found
    (record { life = life; words = words; here = here run lives place life found is; given = refl; close = posts; same = same })
