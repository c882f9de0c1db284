-- What an accepted link comes to.
use Rattle.std.specs.Prelude.{◌≡◌, ◌+◌, ◌-◌, ◌^◌, ◌++◌, ◌∷◌, ℕ, List, [], Option, None, Some}
use Rattle.std.specs.Prelude.{Result, Ok, Err}
use Rattle.sv_base.specs.declared.ids.LinkId.{LinkId}
use Rattle.sv_parts.specs.declared.links.live_links.LiveLinks.{LiveLinks}
use Rattle.sv_parts.specs.declared.links.live_links.Waiting.{Waiting}

-- it got the next number, and waits for its first order
pub record Numbered (K : Type 0) (object : K) (old new : LiveLinks K) (link : LinkId) : Type 0 where
  pub number : link.0 ≡ old.count + 1
  pub count : new.count ≡ old.count + 1
  pub waiting : new.waiting.items ≡ old.waiting.items ++ record { link = link; object = object }
      ∷ []
  pub lives : new.lives ≡ old.lives
  pub lost : new.lost ≡ old.lost

-- where all numbers are given, or memory was refused, nothing changes
abbrev pub Opens : {K E : Type 0} → K → LiveLinks K → LiveLinks K → Result (Option LinkId) E
    → Type 0
Opens {K} object old new (Ok (Some link)) = Numbered K object old new link
Opens object old new (Ok None) = (old.count ≡ 2 ^ 32 - 1) × (new ≡ old)
Opens object old new (Err error) =
    (new ≡ record old { waiting = new.waiting }) × (new.waiting.items ≡ old.waiting.items)
