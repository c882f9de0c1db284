-- What orders to send over a link and to read on come to, of which the first starts the link's job.
use Rattle.std.specs.Prelude.{◌≡◌, ℕ, Bool, false, List, IsErr, Option, Result, Ok, Err}
use Rattle.sv_base.specs.declared.ids.LinkId.{LinkId}
use Rattle.sv_outside.specs.declared.handing.Handed.{Handed}
use Rattle.sv_parts.specs.Links.Sending.{Asks, Sends}
use Rattle.sv_parts.specs.declared.links.live_links.LiveLinks.{LiveLinks}
use Rattle.sv_parts.specs.Links.Starting.{Starts}
use Rattle.sv_out.specs.Faults.{RisesWhere}
use Rattle.sv_outside.specs.declared.jobs.JobWord.{JobWord}

module _ {K E : Type 0} where
  -- bytes are sent, once the job was started
  abbrev pub ThenSends : Result Bool E → LinkId → List ℕ → LiveLinks K → LiveLinks K
      → Result Handed E → Type 0
  ThenSends (Ok started) link bytes middle new result =
      Sends link.0 bytes middle.lost.items middle.lives.items new.lives.items result
      × (new ≡ record middle { lives = new.lives })
  ThenSends (Err error) link bytes middle new result = (new ≡ middle) × IsErr result

  -- a Send that is a link's first order starts its job; it comes back only where the gate's count
  -- rose
  pub record StartsAndSends (link : LinkId) (bytes : List ℕ) (old new : LiveLinks K)
      (gate gate_after : Option (List JobWord) × ℕ) (result : Result Handed E) : Type 0 where
    pub middle : LiveLinks K
    pub given : Result Bool E
    pub starts : Starts link old middle gate.0 gate_after.0 given
    pub cause : RisesWhere gate.1 gate_after.1 (given ≡ Ok false)
    pub sends : ThenSends given link bytes middle new result

  -- more is asked for, once the job was started
  abbrev pub ThenAsks : Result Bool E → LinkId → LiveLinks K → LiveLinks K → Result Handed E
      → Type 0
  ThenAsks (Ok started) link middle new (Ok handed) =
      Asks link.0 middle.lost.items middle.lives.items new.lives.items handed
      × (new ≡ record middle { lives = new.lives })
  ThenAsks (Ok started) link middle new (Err error) = ⊥
  ThenAsks (Err error) link middle new result = (new ≡ middle) × IsErr result

  -- a More that is a link's first order starts its job; it comes back only where the gate's count
  -- rose
  pub record StartsAndAsks (link : LinkId) (old new : LiveLinks K)
      (gate gate_after : Option (List JobWord) × ℕ) (result : Result Handed E) : Type 0 where
    pub middle : LiveLinks K
    pub given : Result Bool E
    pub starts : Starts link old middle gate.0 gate_after.0 given
    pub cause : RisesWhere gate.1 gate_after.1 (given ≡ Ok false)
    pub asks : ThenAsks given link middle new result
