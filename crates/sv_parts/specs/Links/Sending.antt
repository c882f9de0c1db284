-- What an order to send over a link, or to read on, comes to.
use Rattle.std.specs.Prelude.{◌≡◌, ◌⊎◌, ℕ, Bool, true, false, List, Option, None, Some, Result, Ok}
use Rattle.std.specs.Prelude.{Err}
use Rattle.sv_base.specs.declared.ids.LinkId.{LinkId}
use Rattle.sv_outside.specs.declared.handing.Handed.{Handed}
use Rattle.sv_outside.specs.declared.handing.Handed.TheVariants.{Done, Failed}
use Rattle.sv_jobs.specs.declared.notes.LinkWord.TheVariants.{More}
use Rattle.sv_parts.specs.Links.Links.{ChangesAt, Fails, HadFailed, PostsSend, PostsWord, is_full}
use Rattle.sv_parts.specs.Links.Links.{is_lost, place_of}
use Rattle.sv_parts.specs.declared.links.life.LinkLife.{LinkLife}

-- no order of the link failed, and it took one Send more
pub record Takes (bytes : List ℕ) (old new : LinkLife) : Type 0 where
  pub sound : old.failed ≡ false
  pub free : is_full old ≡ false
  pub posts : PostsSend bytes old new

-- no order of the link failed before, and it could take no further Send
pub record Overflows (old new : LinkLife) : Type 0 where
  pub sound : old.failed ≡ false
  pub full : is_full old ≡ true
  pub fails : Fails old new

-- an order of it failed before, or this one is the first
abbrev pub FailsAt : ℕ → List LinkLife → List LinkLife → Type 0
FailsAt place old new = (HadFailed place old × (new ≡ old)) ⊎ ChangesAt place Overflows old new

-- by whether the link's job came back, and by its place: one Send is posted, or the order fails. Of
-- a link without a job, and where memory was refused, nothing changes
abbrev pub SendsAt : {E : Type 0} → Bool → Option ℕ → List ℕ → List LinkLife → List LinkLife
    → Result Handed E → Type 0
SendsAt true place bytes old new result = (result ≡ Ok Failed) × (new ≡ old)
SendsAt false None bytes old new result = (result ≡ Ok Done) × (new ≡ old)
SendsAt false (Some place) bytes old new (Ok Done) = ChangesAt place (Takes bytes) old new
SendsAt false (Some place) bytes old new (Ok Failed) = FailsAt place old new
SendsAt false (Some place) bytes old new (Err error) = new ≡ old

-- for the link of this number
abbrev pub Sends : {E : Type 0} → ℕ → List ℕ → List LinkId → List LinkLife → List LinkLife
    → Result Handed E → Type 0
Sends link bytes lost old new result =
    SendsAt (is_lost link lost) (place_of link old) bytes old new result

-- no order of the link failed, and it was asked for more
pub record IsAsked (old new : LinkLife) : Type 0 where
  pub sound : old.failed ≡ false
  pub posts : PostsWord More old new

-- one More is posted, or the order fails
abbrev pub AsksAt : Bool → Option ℕ → List LinkLife → List LinkLife → Handed → Type 0
AsksAt true place old new handed = (handed ≡ Failed) × (new ≡ old)
AsksAt false None old new handed = (handed ≡ Done) × (new ≡ old)
AsksAt false (Some place) old new Done = ChangesAt place IsAsked old new
AsksAt false (Some place) old new Failed = HadFailed place old × (new ≡ old)

-- for the link of this number
abbrev pub Asks : ℕ → List LinkId → List LinkLife → List LinkLife → Handed → Type 0
Asks link lost old new handed = AsksAt (is_lost link lost) (place_of link old) old new handed
