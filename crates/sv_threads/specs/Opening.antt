-- How an accepted link is taken in.
use Rattle.std.specs.Prelude.{◌≡◌, ◌-◌, ◌^◌, ◌++◌, ◌∷◌, ℕ, [], Option, None, Some, Result, Ok, Err}
use Rattle.std.specs.Option.{ForSome}
use Rattle.sv_base.specs.declared.ids.LinkId.{LinkId}
use Rattle.sv_base.specs.declared.state.Side.{Side}
use Rattle.sv_base.specs.declared.state.Side.TheVariants.{Inet, Unix}
use Rattle.sv_lane.specs.Ends.{taken}
use Rattle.sv_parts.specs.Links.Opening.{Numbered}
use Rattle.sv_parts.specs.declared.links.live_links.LiveLinks.{LiveLinks}
use Rattle.sv_out.specs.declared.input.Input.{Input}
use Rattle.sv_out.specs.declared.input.Input.TheVariants as inputs
use Rattle.sv_threads.specs.declared.world.Accepted.{Accepted}

-- the next link of a side was taken, and none of the other
abbrev pub TakesLink : {K : Type 0} → Side → K → Accepted K → Accepted K → Type 0
TakesLink Inet link old new =
    ((seat : ℕ) × (taken new.inet ≡ taken old.inet ++ (seat, link) ∷ [])) × (new.unix ≡ old.unix)
TakesLink Unix link old new =
    ((seat : ℕ) × (taken new.unix ≡ taken old.unix ++ (seat, link) ∷ [])) × (new.inet ≡ old.inet)

-- the link got the next number, and an open of it is told with the moment of the clock
pub record Opened (K : Type 0) (side : Side) (next : Option ℕ) (old new : LiveLinks K)
    (input : Input) : Type 0 where
  pub object : K
  pub link : LinkId
  pub at : ℕ
  pub numbered : Numbered K object old new link
  pub moment : ForSome next (λ told. at ≡ told)
  pub told : input ≡ inputs.Open at link side

-- nothing is told where all numbers are given, and where memory was refused
abbrev pub OpensAt : {K E : Type 0} → Side → Option ℕ → LiveLinks K → LiveLinks K
    → Result (Option Input) E → Type 0
OpensAt {K} side next old new (Ok (Some input)) = Opened K side next old new input
OpensAt side next old new (Ok None) = (old.count ≡ 2 ^ 32 - 1) × (new ≡ old)
OpensAt side next old new (Err error) =
    (new ≡ record old { waiting = new.waiting }) × (new.waiting.items ≡ old.waiting.items)

-- nothing is told
abbrev pub IsSilent : {E : Type 0} → Result (Option Input) E → Type 0
IsSilent (Ok (Some input)) = ⊥
IsSilent (Ok None) = Unit {0}
IsSilent (Err error) = Unit {0}

-- the link that was taken is the one that got the number
pub record AcceptsLink (K : Type 0) (side : Side) (before after : Accepted K)
    (old new : LiveLinks K) : Type 0 where
  pub object : K
  pub link : LinkId
  pub takes : TakesLink side object before after
  pub waits : new.waiting.items ≡ old.waiting.items ++ record { link = link; object = object } ∷ []

-- a link was taken, and let go
pub record LetsLinkGo (K : Type 0) (side : Side) (before after : Accepted K) : Type 0 where
  pub object : K
  pub takes : TakesLink side object before after

-- the next link of its side is taken in, or let go where nothing is told
abbrev pub AcceptsAt : {K E : Type 0} → Side → Accepted K → Accepted K → LiveLinks K → LiveLinks K
    → Result (Option Input) E → Type 0
AcceptsAt {K} side before after old new (Ok (Some input)) = AcceptsLink K side before after old new
AcceptsAt {K} side before after old new (Ok None) = LetsLinkGo K side before after
AcceptsAt {K} side before after old new (Err error) = LetsLinkGo K side before after
