-- Orders of a link, of which the first starts its job.
use Rattle.std.proofs.Common.{◌≡◌, ℕ, Bool, false, List, IsErr, Option, Result, Ok, Err, refl}
use Rattle.sv_base.specs.declared.ids.LinkId.{LinkId}
use Rattle.sv_outside.specs.declared.handing.Handed.{Handed}
use Rattle.sv_parts.specs.Links.Sending.{Asks, Sends}
use Rattle.sv_parts.specs.declared.links.live_links.LiveLinks.{LiveLinks}
use Rattle.sv_parts.specs.Links.Starting.{Starts}
use Rattle.sv_out.specs.Faults.{RisesWhere}
use Rattle.sv_outside.specs.declared.jobs.JobWord.{JobWord}
use Rattle.sv_threads.specs.LinkWords.{StartsAndAsks, StartsAndSends}

module _ (K E : Type 0) (link : LinkId) (old middle new : LiveLinks K) (gate gate_after : Option (List JobWord) × ℕ) where
  -- the job stands, and bytes are sent
  pub sends_on : (bytes : List ℕ) (started : Bool) (result : Result Handed E)
      → Starts {E = E} link old middle gate.0 gate_after.0 (Ok started)
      → RisesWhere gate.1 gate_after.1 (◌≡◌ {A = Result Bool E} (Ok started) (Ok false))
      → Sends link.0 bytes middle.lost.items middle.lives.items new.lives.items result
      → new ≡ record middle { lives = new.lives } → StartsAndSends link bytes old new gate gate_after result
  sends_on bytes started result starts cause sends same =
      record { middle = middle; given = Ok started; starts = starts; cause = cause; sends = (sends, same) }

  -- the job stands, and more is asked for
  pub asks_on : (started : Bool) (handed : Handed)
      → Starts {E = E} link old middle gate.0 gate_after.0 (Ok started)
      → RisesWhere gate.1 gate_after.1 (◌≡◌ {A = Result Bool E} (Ok started) (Ok false))
      → Asks link.0 middle.lost.items middle.lives.items new.lives.items handed
      → new ≡ record middle { lives = new.lives } → StartsAndAsks {E = E} link old new gate gate_after (Ok handed)
  asks_on started handed starts cause asks same =
      record { middle = middle; given = Ok started; starts = starts; cause = cause; asks = (asks, same) }

module _ (K E : Type 0) (link : LinkId) (old new : LiveLinks K) (gate gate_after : Option (List JobWord) × ℕ) where
  -- memory was refused before
  pub sends_none : (bytes : List ℕ) (error : E) (result : Result Handed E)
      → Starts {E = E} link old new gate.0 gate_after.0 (Err error)
      → RisesWhere gate.1 gate_after.1 (◌≡◌ {A = Result Bool E} (Err error) (Ok false))
      → IsErr result → StartsAndSends link bytes old new gate gate_after result
  sends_none bytes error result starts cause is =
      record { middle = new; given = Err error; starts = starts; cause = cause; sends = (refl, is) }

  -- memory was refused before
  pub asks_none : (error : E) (result : Result Handed E)
      → Starts {E = E} link old new gate.0 gate_after.0 (Err error)
      → RisesWhere gate.1 gate_after.1 (◌≡◌ {A = Result Bool E} (Err error) (Ok false))
      → IsErr result → StartsAndAsks link old new gate gate_after result
  asks_none error result starts cause is =
      record { middle = new; given = Err error; starts = starts; cause = cause; asks = (refl, is) }
