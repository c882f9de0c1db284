-- What is told where a configuration isn't read.
use Rattle.std.proofs.Common.{◌≡◌, List, ℕ, Option, Err, inl, inr, refl, sym, subst}
use Rattle.std.specs.Option.{ForSome}
use Rattle.sv_base.specs.declared.config.Host.{Host}
use Rattle.sv_load.specs.Loading.{Loads}
use Rattle.sv_load.specs.Loading as reading
use Rattle.sv_load.specs.declared.fault.LoadFault.{LoadFault}
use Rattle.sv_load.specs.declared.fault.LoadFault.TheVariants as fault_is
use Rattle.sv_load.specs.declared.loading.Loaded.{Loaded}
use Rattle.sv_out.specs.Files.{Files}
use Rattle.sv_supervise.specs.declared.outcome.Outcome.{Outcome}
use Rattle.sv_supervise.specs.Begin.Beginnings.{BeginsWith, IsOfReading, IsTold, IsUnread}
use Rattle.sv_supervise.specs.declared.begin.beginning.Beginning.{Beginning}

told_begins : (files : Files) (file : List ℕ) (host : Host) (fault : LoadFault) (outcome : Outcome) → Loads files file host (Err fault) → IsTold file fault outcome
    → BeginsWith files file host (Err outcome)
told_begins files file host fault_is.Missing outcome loads told = elim told [
  | inl e ↦ subst (λ (o : Outcome). BeginsWith files file host (Err o)) (sym e) (refl, loads)
  | inr e ↦ subst (λ (o : Outcome). BeginsWith files file host (Err o)) (sym e) tt
]
told_begins files file host (fault_is.Refused fault) outcome loads told = elim told [
  | inl e ↦ subst (λ (o : Outcome). BeginsWith files file host (Err o)) (sym e) (fault, refl, loads)
  | inr e ↦ subst (λ (o : Outcome). BeginsWith files file host (Err o)) (sym e) tt
]
told_begins files file host (fault_is.Failed name) outcome loads told =
    subst (λ (o : Outcome). BeginsWith files file host (Err o)) (sym told) (inl loads)
told_begins files file host fault_is.OutOfMemory outcome loads told =
    subst (λ (o : Outcome). BeginsWith files file host (Err o)) (sym told) tt

-- why a daemon doesn't begin, by what its shelf tells
pub not_begun : (shelf : Option Files) (name file : List ℕ) (host : Host) (fault : LoadFault) (outcome : Outcome) → name ≡ file
    → ForSome shelf (λ files. Loads files name host (Err fault)) → IsTold file fault outcome → ForSome shelf (λ files. BeginsWith files file host (Err outcome))
not_begun shelf name file host fault outcome is loads told =
    λ files holds. told_begins files file host fault outcome (subst (λ (n : List ℕ). Loads files n host (Err fault)) is (loads files holds)) told

-- an outcome that comes of reading
pub told_reading : (file : List ℕ) (fault : LoadFault) (outcome : Outcome) → IsTold file fault outcome → IsOfReading outcome
told_reading file fault_is.Missing outcome told = elim told [
  | inl e ↦ subst IsOfReading (sym e) tt
  | inr e ↦ subst IsOfReading (sym e) tt
]
told_reading file (fault_is.Refused fault) outcome told = elim told [
  | inl e ↦ subst IsOfReading (sym e) tt
  | inr e ↦ subst IsOfReading (sym e) tt
]
told_reading file (fault_is.Failed name) outcome told = subst IsOfReading (sym told) tt
told_reading file fault_is.OutOfMemory outcome told = subst IsOfReading (sym told) tt

-- the shelf failed where that is told
pub told_unread : (file : List ℕ) (fault : LoadFault) (outcome : Outcome) → IsTold file fault outcome → IsUnread {A = Beginning} (Err outcome)
    → reading.IsUnreadable {A = Loaded} (Err fault)
told_unread file fault_is.Missing outcome told unread = elim told [
  | inl e ↦ absurd (subst (λ (o : Outcome). IsUnread {A = Beginning} (Err o)) e unread)
  | inr e ↦ absurd (subst (λ (o : Outcome). IsUnread {A = Beginning} (Err o)) e unread)
]
told_unread file (fault_is.Refused fault) outcome told unread = elim told [
  | inl e ↦ absurd (subst (λ (o : Outcome). IsUnread {A = Beginning} (Err o)) e unread)
  | inr e ↦ absurd (subst (λ (o : Outcome). IsUnread {A = Beginning} (Err o)) e unread)
]
told_unread file (fault_is.Failed name) outcome told unread = tt
told_unread file fault_is.OutOfMemory outcome told unread =
    absurd (subst (λ (o : Outcome). IsUnread {A = Beginning} (Err o)) told unread)
