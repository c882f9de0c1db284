-- A link, found by its place.
use Rattle.std.proofs.Common.{◌≡◌, ℕ, Bool, true, false, List, Option, None, Some, Result, Ok, Err, MatchOption, ap, get_or, inl, inr, length, refl, slice_get, slice_set, subst, sym, ◌∙◌}
use Rattle.std.proofs.lemmas.List.Quantifiers.{position-Some}
use Rattle.std.proofs.lemmas.Option.{slice_get_read}
use Rattle.sv_base.specs.declared.ids.LinkId.{LinkId}
use Rattle.sv_outside.specs.declared.handing.Handed.{Handed}
use Rattle.sv_outside.specs.declared.handing.Handed.TheVariants.{Done, Failed}
use Rattle.sv_jobs.specs.declared.notes.LinkWord.TheVariants.{Close, More}
use Rattle.sv_parts.specs.Links.Closing.{Closes, ClosesAt, IsClosed}
use Rattle.sv_parts.specs.Links.Links.{ChangesAt, Fails, HadFailed, PostsSend, PostsWord, is_full, is_lost, is_of, place_of}
use Rattle.sv_parts.specs.Links.Sending.{Asks, AsksAt, IsAsked, Overflows, Sends, SendsAt, Takes}
use Rattle.sv_parts.specs.declared.links.life.LinkLife.{LinkLife}
use Rattle.sv_parts.specs.declared.links.live_links.Waiting.{Waiting}

here : (link : ℕ) (lives : List LinkLife) (place : ℕ) (life : LinkLife) → Some place ≡ place_of link lives → life ≡ get_or lives place life
    → slice_get lives place ≡ Some life
here link lives place life found is =
    slice_get_read lives (length lives) place life refl (position-Some (is_of link) lives place life (sym found)).0 is

abbrev of_some : LinkLife → Option LinkLife → LinkLife
of_some other None = other
of_some other (Some life) = life

-- two reads of one place give one link
one_life : (link : ℕ) (lives : List LinkLife) (place : ℕ) (a b : LinkLife) → Some place ≡ place_of link lives → a ≡ get_or lives place a
    → b ≡ get_or lives place b → a ≡ b
one_life link lives place a b found one two =
    ap (of_some a) (sym (here link lives place a found one) ∙ here link lives place b found two)

changes : (change : LinkLife → LinkLife → Type 0) (link : ℕ) (lives new : List LinkLife) (place : ℕ) (before after : LinkLife)
    → Some place ≡ place_of link lives → before ≡ get_or lives place before → new ≡ slice_set lives place after → change before after
    → ChangesAt place change lives new
changes change link lives new place before after found is set changed =
    record { before = before; after = after; here = here link lives place before found is; others = set; changed = changed }

pub changed_at : (P : Type 0) (change : LinkLife → LinkLife → Type 0) (link : ℕ) (lives new : List LinkLife) (place : ℕ) (before after : LinkLife)
    → Some place ≡ place_of link lives → before ≡ get_or lives place before → new ≡ slice_set lives place after → change before after
    → MatchOption (place_of link lives) P (λ p. ChangesAt p change lives new)
changed_at P change link lives new place before after found is set changed =
    subst (λ (o : Option ℕ). MatchOption o P (λ p. ChangesAt p change lives new)) found
    (changes change link lives new place before after found is set changed)

had_failed : (link : ℕ) (lives : List LinkLife) (place : ℕ) (life : LinkLife) → Some place ≡ place_of link lives → life ≡ get_or lives place life
    → life.failed ≡ true → HadFailed place lives
had_failed link lives place life found is failed = record { life = life; here = here link lives place life found is; failed = failed }

-- ---- orders to send

sends : (E : Type 0) (link : ℕ) (bytes : List ℕ) (lost : List LinkId) (lives new : List LinkLife) (place : ℕ) (result : Result Handed E)
    → is_lost link lost ≡ false → Some place ≡ place_of link lives → SendsAt {E = E} false (Some place) bytes lives new result
    → Sends {E = E} link bytes lost lives new result
sends E link bytes lost lives new place result kept found is =
    subst (λ (b : Bool). SendsAt {E = E} b (place_of link lives) bytes lives new result) (sym kept)
    (subst (λ (o : Option ℕ). SendsAt {E = E} false o bytes lives new result) found is)

pub sends_after_failure : (E : Type 0) (link : ℕ) (bytes : List ℕ) (lost : List LinkId) (lives : List LinkLife) (place : ℕ) (life : LinkLife)
    → is_lost link lost ≡ false → Some place ≡ place_of link lives → life ≡ get_or lives place life → life.failed ≡ true
    → Sends {E = E} link bytes lost lives lives (Ok Failed)
sends_after_failure E link bytes lost lives place life kept found is failed =
    sends E link bytes lost lives lives place (Ok Failed) kept found (inl (had_failed link lives place life found is failed, refl))

pub overflows : (E : Type 0) (link : ℕ) (bytes : List ℕ) (lost : List LinkId) (lives new : List LinkLife) (place : ℕ) (first second before after : LinkLife)
    → is_lost link lost ≡ false → Some place ≡ place_of link lives → first ≡ get_or lives place first → first.failed ≡ false
    → second ≡ get_or lives place second → is_full second ≡ true → before ≡ get_or lives place before → new ≡ slice_set lives place after
    → Fails before after → Sends {E = E} link bytes lost lives new (Ok Failed)
overflows E link bytes lost lives new place first second before after kept found one sound two full is set fails =
    sends E link bytes lost lives new place (Ok Failed) kept found
    (inr (changes Overflows link lives new place before after found is set (record {
      sound = subst (λ (l : LinkLife). l.failed ≡ false) (one_life link lives place first before found one is) sound;
      full = subst (λ (l : LinkLife). is_full l ≡ true) (one_life link lives place second before found two is) full;
      fails = fails;
    })))

pub takes : (E : Type 0) (link : ℕ) (bytes : List ℕ) (lost : List LinkId) (lives new : List LinkLife) (place : ℕ) (first second before after : LinkLife)
    → is_lost link lost ≡ false → Some place ≡ place_of link lives → first ≡ get_or lives place first → first.failed ≡ false
    → second ≡ get_or lives place second → is_full second ≡ false → before ≡ get_or lives place before → new ≡ slice_set lives place after
    → PostsSend bytes before after → Sends {E = E} link bytes lost lives new (Ok Done)
takes E link bytes lost lives new place first second before after kept found one sound two free is set posts =
    sends E link bytes lost lives new place (Ok Done) kept found
    (changes (Takes bytes) link lives new place before after found is set (record {
      sound = subst (λ (l : LinkLife). l.failed ≡ false) (one_life link lives place first before found one is) sound;
      free = subst (λ (l : LinkLife). is_full l ≡ false) (one_life link lives place second before found two is) free;
      posts = posts;
    }))

-- ---- orders to read on

asks : (link : ℕ) (lost : List LinkId) (lives new : List LinkLife) (place : ℕ) (result : Handed) → is_lost link lost ≡ false
    → Some place ≡ place_of link lives → AsksAt false (Some place) lives new result → Asks link lost lives new result
asks link lost lives new place result kept found is =
    subst (λ (b : Bool). AsksAt b (place_of link lives) lives new result) (sym kept)
    (subst (λ (o : Option ℕ). AsksAt false o lives new result) found is)

pub asks_after_failure : (link : ℕ) (lost : List LinkId) (lives : List LinkLife) (place : ℕ) (life : LinkLife) → is_lost link lost ≡ false
    → Some place ≡ place_of link lives → life ≡ get_or lives place life → life.failed ≡ true → Asks link lost lives lives Failed
asks_after_failure link lost lives place life kept found is failed =
    asks link lost lives lives place Failed kept found (had_failed link lives place life found is failed, refl)

pub asked : (link : ℕ) (lost : List LinkId) (lives new : List LinkLife) (place : ℕ) (first before after : LinkLife) → is_lost link lost ≡ false
    → Some place ≡ place_of link lives → first ≡ get_or lives place first → first.failed ≡ false → before ≡ get_or lives place before
    → new ≡ slice_set lives place after → PostsWord More before after → Asks link lost lives new Done
asked link lost lives new place first before after kept found one sound is set posts =
    asks link lost lives new place Done kept found
    (changes IsAsked link lives new place before after found is set (record {
      sound = subst (λ (l : LinkLife). l.failed ≡ false) (one_life link lives place first before found one is) sound;
      posts = posts;
    }))

-- ---- orders to close

closes : (K : Type 0) (link : ℕ) (lost : List LinkId) (waiting left : List (Waiting K)) (lives new : List LinkLife) (place : ℕ) (result : Handed)
    → is_lost link lost ≡ false → Some place ≡ place_of link lives → ClosesAt {K = K} false (Some place) link waiting left lives new result
    → Closes {K = K} link lost waiting left lives new result
closes K link lost waiting left lives new place result kept found is =
    subst (λ (b : Bool). ClosesAt {K = K} b (place_of link lives) link waiting left lives new result) (sym kept)
    (subst (λ (o : Option ℕ). ClosesAt {K = K} false o link waiting left lives new result) found is)

pub closes_after_failure : (K : Type 0) (link : ℕ) (lost : List LinkId) (waiting : List (Waiting K)) (lives : List LinkLife) (place : ℕ) (life : LinkLife)
    → is_lost link lost ≡ false → Some place ≡ place_of link lives → life ≡ get_or lives place life → life.failed ≡ true
    → Closes {K = K} link lost waiting waiting lives lives Failed
closes_after_failure K link lost waiting lives place life kept found is failed =
    closes K link lost waiting waiting lives lives place Failed kept found (refl, had_failed link lives place life found is failed, refl)

pub closed : (K : Type 0) (link : ℕ) (lost : List LinkId) (waiting : List (Waiting K)) (lives new : List LinkLife) (place : ℕ) (first before after : LinkLife)
    → is_lost link lost ≡ false → Some place ≡ place_of link lives → first ≡ get_or lives place first → first.failed ≡ false
    → before ≡ get_or lives place before → new ≡ slice_set lives place after → PostsWord Close before after
    → Closes {K = K} link lost waiting waiting lives new Done
closed K link lost waiting lives new place first before after kept found one sound is set posts =
    closes K link lost waiting waiting lives new place Done kept found (
      refl,
      changes IsClosed link lives new place before after found is set (record {
        sound = subst (λ (l : LinkLife). l.failed ≡ false) (one_life link lives place first before found one is) sound;
        posts = posts;
      }),
    )
