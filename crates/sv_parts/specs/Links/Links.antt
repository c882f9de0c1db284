-- The links of the loop: where each stands, and what is posted to its job.
use Rattle.std.specs.Prelude.{◌≡◌, ◌==◌, ◌+◌, ◌-◌, ◌^◌, ◌++◌, ◌∷◌, ℕ, Bool, true, List, [], Option}
use Rattle.std.specs.Prelude.{Some, min, nat_le, position, slice_get, slice_set}
use Rattle.std.specs.List.{list_any}
use Rattle.sv_base.specs.declared.ids.LinkId.{LinkId}
use Rattle.sv_jobs.specs.declared.notes.LinkWord.{LinkWord}
use Rattle.sv_jobs.specs.declared.notes.LinkWord.TheVariants.{Close, Send}
use Rattle.sv_lane.specs.Ends.{IsSameSeat, posted}
use Rattle.sv_parts.specs.declared.links.life.LinkLife.{LinkLife}
use Rattle.sv_parts.specs.declared.links.live_links.Waiting.{Waiting}

-- the link of this number
abbrev pub is_of : ℕ → LinkLife → Bool
is_of link life = life.link.0 == link

-- where a link whose job was started stands
abbrev pub place_of : ℕ → List LinkLife → Option ℕ
place_of link lives = position (is_of link) lives

-- where a link that waits for its first order stands
abbrev pub waiting_at : {K : Type 0} → ℕ → List (Waiting K) → Option ℕ
waiting_at {K} link waiting = position (λ (w : Waiting K). w.link.0 == link) waiting

-- its job came back
abbrev pub is_lost : ℕ → List LinkId → Bool
is_lost link lost = list_any (λ (other : LinkId). other.0 == link) lost

-- 16 Sends are unwritten
abbrev pub is_full : LinkLife → Bool
is_full life = nat_le 16 life.unwritten

-- the same link
pub record IsSameLink (old new : LinkLife) : Type 0 where
  pub link : new.link ≡ old.link
  pub seat : IsSameSeat old.words new.words

-- a word was posted
pub record PostsWord (word : LinkWord) (old new : LinkLife) : Type 0 where
  pub same : IsSameLink old new
  pub posts : posted new.words ≡ posted old.words ++ word ∷ []
  pub unwritten : new.unwritten ≡ old.unwritten
  pub failed : new.failed ≡ old.failed

-- bytes were posted, which are unwritten
pub record PostsSend (bytes : List ℕ) (old new : LinkLife) : Type 0 where
  pub same : IsSameLink old new
  pub posts : posted new.words ≡ posted old.words ++ Send bytes ∷ []
  pub unwritten : new.unwritten ≡ min (old.unwritten + 1) (2 ^ 32 - 1)
  pub failed : new.failed ≡ old.failed

-- an order failed, and its job is told to end
pub record Fails (old new : LinkLife) : Type 0 where
  pub same : IsSameLink old new
  pub posts : posted new.words ≡ posted old.words ++ Close ∷ []
  pub unwritten : new.unwritten ≡ old.unwritten
  pub failed : new.failed ≡ true

-- the link at one place changed so, and no other
pub record ChangesAt (place : ℕ) (change : LinkLife → LinkLife → Type 0) (old new : List LinkLife)
    : Type 0 where
  pub before : LinkLife
  pub after : LinkLife
  pub here : slice_get old place ≡ Some before
  pub others : new ≡ slice_set old place after
  pub changed : change before after

-- an order of the link at this place failed before
pub record HadFailed (place : ℕ) (lives : List LinkLife) : Type 0 where
  pub life : LinkLife
  pub here : slice_get lives place ≡ Some life
  pub failed : life.failed ≡ true
