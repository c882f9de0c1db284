-- What the first order of a link comes to.
use Rattle.std.specs.Prelude.{◌≡◌, ◌++◌, ◌∷◌, ℕ, Bool, true, false, List, [], Option, None, Some}
use Rattle.std.specs.Prelude.{Result, Ok, Err, remove}
use Rattle.sv_base.specs.declared.ids.LinkId.{LinkId}
use Rattle.sv_lane.specs.Ends.{posted}
use Rattle.sv_parts.specs.Links.Links.{waiting_at}
use Rattle.sv_parts.specs.declared.links.life.LinkLife.{LinkLife}
use Rattle.sv_parts.specs.declared.links.live_links.LiveLinks.{LiveLinks}
use Rattle.sv_outside.specs.Gates.{kept_more}
use Rattle.sv_outside.specs.declared.jobs.JobWord.{JobWord}
use Rattle.sv_outside.specs.declared.jobs.JobWord.TheVariants.{Link}

-- a life of this link stands after the others, to whose job nothing was posted
pub record Begins (link : LinkId) (old new : List LinkLife) : Type 0 where
  pub life : LinkLife
  pub last : new ≡ old ++ life ∷ []
  pub link_is : life.link ≡ link
  pub none : posted life.words ≡ []
  pub unwritten : life.unwritten ≡ 0
  pub failed : life.failed ≡ false

-- the gate was handed the link's job, and kept it
pub record IsStarted (K : Type 0) (place : ℕ) (link : LinkId) (old new : LiveLinks K)
    (kept kept_after : Option (List JobWord)) : Type 0 where
  pub job : kept_after ≡ kept_more (Link link) true kept
  pub count : new.count ≡ old.count
  pub waiting : new.waiting.items ≡ remove old.waiting.items place
  pub lives : Begins link old.lives.items new.lives.items
  pub lost : new.lost.items ≡ old.lost.items

-- the gate gave the link's job back, and the link is lost
pub record IsLost (K : Type 0) (place : ℕ) (link : LinkId) (old new : LiveLinks K)
    (kept kept_after : Option (List JobWord)) : Type 0 where
  pub job : kept_after ≡ kept_more (Link link) false kept
  pub count : new.count ≡ old.count
  pub waiting : new.waiting.items ≡ remove old.waiting.items place
  pub lives : new.lives.items ≡ old.lives.items
  pub lost : new.lost.items ≡ old.lost.items ++ link ∷ []

-- nothing changed
pub record IsSame (K : Type 0) (old new : LiveLinks K) : Type 0 where
  pub count : new.count ≡ old.count
  pub waiting : new.waiting.items ≡ old.waiting.items
  pub lives : new.lives.items ≡ old.lives.items
  pub lost : new.lost.items ≡ old.lost.items

-- by the place of the link among those that wait for their first order
abbrev pub StartsAt : {K E : Type 0} → Option ℕ → LinkId → LiveLinks K → LiveLinks K
    → Option (List JobWord) → Option (List JobWord) → Result Bool E → Type 0
StartsAt None link old new kept kept_after result =
    (result ≡ Ok true) × (new ≡ old) × (kept_after ≡ kept)
StartsAt {K} (Some place) link old new kept kept_after (Ok true) =
    IsStarted K place link old new kept kept_after
StartsAt {K} (Some place) link old new kept kept_after (Ok false) =
    IsLost K place link old new kept kept_after
StartsAt {K} (Some place) link old new kept kept_after (Err error) =
    IsSame K old new × (kept_after ≡ kept)

-- for this link
abbrev pub Starts : {K E : Type 0} → LinkId → LiveLinks K → LiveLinks K → Option (List JobWord)
    → Option (List JobWord) → Result Bool E → Type 0
Starts link old new kept kept_after result =
    StartsAt (waiting_at link.0 old.waiting.items) link old new kept kept_after result
