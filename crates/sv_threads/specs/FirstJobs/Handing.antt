-- What a gate that is handed a job of the beginning keeps.
use Rattle.std.specs.Prelude.{◌≡◌, ℕ, Bool, true, false, List, Option}
use Rattle.sv_base.specs.declared.state.Side.{Side}
use Rattle.sv_out.specs.Faults.{RisesWhere}
use Rattle.sv_outside.specs.Gates.{kept_more}
use Rattle.sv_outside.specs.declared.jobs.JobWord.{JobWord}
use Rattle.sv_outside.specs.declared.jobs.JobWord.TheVariants.{Links}

-- one job of this word was handed over: it was kept, or came back where the count of faults rose
pub record Hands (word : JobWord) (kept : Option (List JobWord)) (faults : ℕ)
    (kept_after : Option (List JobWord)) (faults_after : ℕ) : Type 0 where
  pub is_kept : Bool
  pub told : kept_after ≡ kept_more word is_kept kept
  pub cause : RisesWhere faults faults_after (is_kept ≡ false)

-- the job of a server was handed over, where there is one
abbrev pub HandsLinks : Side → Bool → Option (List JobWord) → ℕ → Option (List JobWord) → ℕ → Type 0
HandsLinks side false kept faults kept_after faults_after =
    (kept_after ≡ kept) × (faults_after ≡ faults)
HandsLinks side true kept faults kept_after faults_after =
    Hands (Links side) kept faults kept_after faults_after
