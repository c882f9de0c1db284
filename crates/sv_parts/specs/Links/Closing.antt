-- What an order to close a link comes to.
use Rattle.std.specs.Prelude.{◌≡◌, ℕ, Bool, true, false, List, MatchOption, Option, None, Some}
use Rattle.std.specs.Prelude.{remove}
use Rattle.sv_base.specs.declared.ids.LinkId.{LinkId}
use Rattle.sv_outside.specs.declared.handing.Handed.{Handed}
use Rattle.sv_outside.specs.declared.handing.Handed.TheVariants.{Done, Failed}
use Rattle.sv_jobs.specs.declared.notes.LinkWord.TheVariants.{Close}
use Rattle.sv_parts.specs.Links.Links.{ChangesAt, HadFailed, PostsWord, is_lost, place_of}
use Rattle.sv_parts.specs.Links.Links.{waiting_at}
use Rattle.sv_parts.specs.declared.links.life.LinkLife.{LinkLife}
use Rattle.sv_parts.specs.declared.links.live_links.Waiting.{Waiting}

-- no order of the link failed, and its job is told to end
pub record IsClosed (old new : LinkLife) : Type 0 where
  pub sound : old.failed ≡ false
  pub posts : PostsWord Close old new

-- a link that waits for its first order is let go
abbrev pub LetsGo : {K : Type 0} → ℕ → List (Waiting K) → List (Waiting K) → Type 0
LetsGo link old new =
    MatchOption (waiting_at link old) (new ≡ old) (λ place. new ≡ remove old place)

-- by whether the link's job came back, and by its place: one Close is posted, or the order fails
abbrev pub ClosesAt : {K : Type 0} → Bool → Option ℕ → ℕ → List (Waiting K) → List (Waiting K)
    → List LinkLife → List LinkLife → Handed → Type 0
ClosesAt true place link waiting left old new handed =
    (handed ≡ Failed) × (left ≡ waiting) × (new ≡ old)
ClosesAt false None link waiting left old new handed =
    (handed ≡ Done) × LetsGo link waiting left × (new ≡ old)
ClosesAt false (Some place) link waiting left old new Done =
    (left ≡ waiting) × ChangesAt place IsClosed old new
ClosesAt false (Some place) link waiting left old new Failed =
    (left ≡ waiting) × HadFailed place old × (new ≡ old)

-- for the link of this number
abbrev pub Closes : {K : Type 0} → ℕ → List LinkId → List (Waiting K) → List (Waiting K)
    → List LinkLife → List LinkLife → Handed → Type 0
Closes link lost waiting left old new handed =
    ClosesAt (is_lost link lost) (place_of link old) link waiting left old new handed
