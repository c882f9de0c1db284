-- What a status tells of the outcome, and what a daemon comes to where nothing fails.
use Rattle.std.proofs.Common.{◌≡◌, ◌⊎◌, ℕ, List, Option, None, Some, Err, inl, inr, refl, sym, ◌∙◌, subst, arith}
use Rattle.sv_supervise.specs.Arguments.{arguments_of}
use Rattle.sv_supervise.specs.declared.arguments.Arguments.{Arguments}
use Rattle.sv_base.specs.declared.config.Host.{Host}
use Rattle.sv_supervise.specs.Begin.Beginnings.{BeginsWith}
use Rattle.sv_supervise.specs.MainLoop.Telling.{Told}
use Rattle.sv_out.specs.Faults.{Rose}
use Rattle.sv_out.specs.Files.{Files}
use Rattle.sv_supervise.specs.Outcomes.{Tells, status_of}
use Rattle.sv_supervise.specs.declared.outcome.Outcome.{Outcome}
use Rattle.sv_supervise.specs.declared.outcome.Outcome.TheVariants.{Usage, NoFile, Refused, Unreadable, NoMemory, Unwritten, Halted, WorldFailed, InputEnded, Full, Misplaced}
use Rattle.sv_supervise.specs.Journal.Lines.{texts_of}
use Rattle.sv_supervise.specs.Completeness.{IsAccepted, IsComplete, IsDone, IsDoneOrStopped, LeadsToHalt}
use Rattle.sv_supervise.specs.Machines.{core_rules}
use Rattle.sv_supervise.specs.Supervising.{CantBegin, ComesTo, IsMisused, lines_of, machine_of}
use Rattle.sv_supervise.proofs.Scripts.{ended_halted, full_halted, refused_taken}

-- which outcome has this status, where it is that of one alone
status_failed : (outcome : Outcome) → status_of outcome ≡ 4 → outcome ≡ WorldFailed
status_failed Usage is = cc
status_failed (NoFile file) is = cc
status_failed (Refused fault) is = cc
status_failed (Unreadable name) is = cc
status_failed NoMemory is = cc
status_failed Unwritten is = cc
status_failed Halted is = cc
status_failed WorldFailed is = refl
status_failed InputEnded is = cc
status_failed Full is = cc
status_failed (Misplaced number) is = cc

status_unwritten : (outcome : Outcome) → status_of outcome ≡ 7 → outcome ≡ Unwritten
status_unwritten Usage is = cc
status_unwritten (NoFile file) is = cc
status_unwritten (Refused fault) is = cc
status_unwritten (Unreadable name) is = cc
status_unwritten NoMemory is = cc
status_unwritten Unwritten is = refl
status_unwritten Halted is = cc
status_unwritten WorldFailed is = cc
status_unwritten InputEnded is = cc
status_unwritten Full is = cc
status_unwritten (Misplaced number) is = cc

status_unread : (outcome : Outcome) → status_of outcome ≡ 8 → (name : List ℕ) × (outcome ≡ Unreadable name)
status_unread Usage is = cc
status_unread (NoFile file) is = cc
status_unread (Refused fault) is = cc
status_unread (Unreadable name) is = (name, refl)
status_unread NoMemory is = cc
status_unread Unwritten is = cc
status_unread Halted is = cc
status_unread WorldFailed is = cc
status_unread InputEnded is = cc
status_unread Full is = cc
status_unread (Misplaced number) is = cc

-- status 4 is told where the world failed
pub tells_failed : (outcome : Outcome) (old new : Option (List ℕ)) (faults faults_now status : ℕ) → Tells outcome old new faults faults_now status
    → status ≡ 4 → outcome ≡ WorldFailed
tells_failed outcome old new faults faults_now status tells is = elim tells [
  | inl own ↦ status_failed outcome (sym own.0 ∙ is)
  | inr other ↦ elim other [
    | inl memory ↦ let clash : ◌≡◌ {A = ℕ} 3 4 = sym memory.0 ∙ is in cc
    | inr written ↦ let clash : ◌≡◌ {A = ℕ} 7 4 = sym written.0 ∙ is in cc
  ]
]

-- status 7 where the journal couldn't be written, or the output
pub tells_unwritten : (outcome : Outcome) (old new : Option (List ℕ)) (faults faults_now status : ℕ) → Tells outcome old new faults faults_now status
    → status ≡ 7 → (outcome ≡ Unwritten) ⊎ Rose faults faults_now
tells_unwritten outcome old new faults faults_now status tells is = elim tells [
  | inl own ↦ inl (status_unwritten outcome (sym own.0 ∙ is))
  | inr other ↦ elim other [
    | inl memory ↦ let clash : ◌≡◌ {A = ℕ} 3 7 = sym memory.0 ∙ is in cc
    | inr written ↦ inr written.2
  ]
]

-- and status 8 where the shelf failed
pub tells_unread : (outcome : Outcome) (old new : Option (List ℕ)) (faults faults_now status : ℕ) → Tells outcome old new faults faults_now status
    → status ≡ 8 → (name : List ℕ) × (outcome ≡ Unreadable name)
tells_unread outcome old new faults faults_now status tells is = elim tells [
  | inl own ↦ status_unread outcome (sym own.0 ∙ is)
  | inr other ↦ elim other [
    | inl memory ↦ let clash : ◌≡◌ {A = ℕ} 3 8 = sym memory.0 ∙ is in cc
    | inr written ↦ let clash : ◌≡◌ {A = ℕ} 7 8 = sym written.0 ∙ is in cc
  ]
]

-- the words are taken
no_misuse : (words : List (List ℕ)) (host : Host) (files : Files) (old new : Told) → IsAccepted words host files → IsMisused words old new → ⊥
no_misuse words host files old new accepted misused =
    let clash : Some accepted.arguments ≡ None = sym accepted.said ∙ misused.refused in cc

same_arguments : (told : Option Arguments) (a b : Arguments) → told ≡ Some a → told ≡ Some b → a ≡ b
same_arguments told a b is was = cc

-- and what they say is read from the file that they name
begins_with : (words : List (List ℕ)) (host : Host) (files : Files) (old new : Told) (outcome : Outcome) (accepted : IsAccepted words host files)
    → CantBegin words host files old new outcome → BeginsWith files accepted.arguments.file host (Err outcome)
begins_with words host files old new outcome accepted cant =
    subst (λ (a : Arguments). BeginsWith files a.file host (Err outcome)) (same_arguments (arguments_of words) cant.arguments accepted.arguments cant.said accepted.said) cant.because

-- the status of an outcome where nothing fails
stopped_by : (words : List (List ℕ)) (host : Host) (files : Files) (old new : Told) (outcome : Outcome) → IsAccepted words host files → ComesTo words host files old new outcome
    → (status_of outcome ≡ 4 → ⊥) → (status_of outcome ≡ 7 → ⊥) → (status_of outcome ≡ 8 → ⊥) → IsDoneOrStopped (status_of outcome)
stopped_by words host files old new Usage accepted comes no4 no7 no8 = absurd (no_misuse words host files old new accepted comes)
stopped_by words host files old new (NoFile name) accepted comes no4 no7 no8 =
    absurd (accepted.there (begins_with words host files old new (NoFile name) accepted comes).1)
stopped_by words host files old new (Refused text) accepted comes no4 no7 no8 =
    let because = begins_with words host files old new (Refused text) accepted comes in absurd (accepted.good because.0 because.2)
stopped_by words host files old new (Unreadable name) accepted comes no4 no7 no8 = absurd (no8 refl)
stopped_by words host files old new NoMemory accepted comes no4 no7 no8 = inl (inr refl)
stopped_by words host files old new Unwritten accepted comes no4 no7 no8 = absurd (no7 refl)
stopped_by words host files old new Halted accepted comes no4 no7 no8 = inl (inl refl)
stopped_by words host files old new WorldFailed accepted comes no4 no7 no8 = absurd (no4 refl)
stopped_by words host files old new InputEnded accepted comes no4 no7 no8 = inr (inl refl)
stopped_by words host files old new Full accepted comes no4 no7 no8 = inr (inr (inl refl))
stopped_by words host files old new (Misplaced number) accepted comes no4 no7 no8 = inr (inr (inr refl))

-- no other status is left
done_unless : (status : ℕ) → (status ≡ 5 → ⊥) → (status ≡ 6 → ⊥) → (status ≡ 9 → ⊥) → IsDoneOrStopped status → IsDone status
done_unless status no5 no6 no9 stopped = elim stopped [
  | inl done ↦ done
  | inr other ↦ elim other [ inl is ↦ absurd (no5 is) | inr more ↦ elim more [ inl is ↦ absurd (no6 is) | inr is ↦ absurd (no9 is) ] ]
]

-- and where the inputs lead to the halt
done_by : (words : List (List ℕ)) (host : Host) (files : Files) (old new : Told) (outcome : Outcome) → LeadsToHalt words host files old.left → ComesTo words host files old new outcome
    → IsDoneOrStopped (status_of outcome) → IsDone (status_of outcome)
done_by words host files old new Usage leads comes stopped =
    done_unless 2 (λ e. omega (arith, e)) (λ e. omega (arith, e)) (λ e. omega (arith, e)) stopped
done_by words host files old new (NoFile name) leads comes stopped =
    done_unless 2 (λ e. omega (arith, e)) (λ e. omega (arith, e)) (λ e. omega (arith, e)) stopped
done_by words host files old new (Refused text) leads comes stopped =
    done_unless 2 (λ e. omega (arith, e)) (λ e. omega (arith, e)) (λ e. omega (arith, e)) stopped
done_by words host files old new (Unreadable name) leads comes stopped =
    done_unless 8 (λ e. omega (arith, e)) (λ e. omega (arith, e)) (λ e. omega (arith, e)) stopped
done_by words host files old new NoMemory leads comes stopped = inr refl
done_by words host files old new Unwritten leads comes stopped =
    done_unless 7 (λ e. omega (arith, e)) (λ e. omega (arith, e)) (λ e. omega (arith, e)) stopped
done_by words host files old new Halted leads comes stopped = inl refl
done_by words host files old new WorldFailed leads comes stopped =
    done_unless 4 (λ e. omega (arith, e)) (λ e. omega (arith, e)) (λ e. omega (arith, e)) stopped
done_by words host files old new InputEnded leads comes stopped =
    let serves = comes.runs in
    absurd (ended_halted core_rules (texts_of (lines_of comes.reads.arguments.journal)) (machine_of comes.reads.beginning host) serves.mid new leads.inputs serves.stops.0
    (serves.still.left ∙ leads.all) (leads.halts comes.reads).1 serves.stops.1 serves.stops.2)
done_by words host files old new Full leads comes stopped =
    let serves = comes.runs in
    absurd (full_halted core_rules (texts_of (lines_of comes.reads.arguments.journal)) (machine_of comes.reads.beginning host) serves.mid new leads.inputs serves.stops.0
    (serves.still.left ∙ leads.all) leads.few (leads.halts comes.reads).1 serves.stops.1 serves.stops.2)
done_by words host files old new (Misplaced number) leads comes stopped =
    let serves = comes.runs in
    absurd (refused_taken core_rules (texts_of (lines_of comes.reads.arguments.journal)) (machine_of comes.reads.beginning host) serves.mid new leads.inputs serves.stops.0
    (serves.still.left ∙ leads.all) (leads.halts comes.reads).0 serves.stops.1)

-- what a daemon comes to where nothing fails
pub completes : (words : List (List ℕ)) (host : Host) (files : Files) (old new : Told) (outcome : Outcome) (written written_now : Option (List ℕ)) (faults faults_now status : ℕ)
    → IsAccepted words host files → ComesTo words host files old new outcome → Tells outcome written written_now faults faults_now status
    → (status ≡ 4 → ⊥) → (status ≡ 7 → ⊥) → (status ≡ 8 → ⊥) → IsComplete words host files old.left status
completes words host files old new outcome written written_now faults faults_now status accepted comes tells no4 no7 no8 = elim tells [
  | inl own ↦
      let stopped : IsDoneOrStopped (status_of outcome) =
      stopped_by words host files old new outcome accepted comes (λ e. no4 (own.0 ∙ e)) (λ e. no7 (own.0 ∙ e)) (λ e. no8 (own.0 ∙ e)) in
      record {
        stopped = subst IsDoneOrStopped (sym own.0) stopped;
        done = λ leads. subst IsDone (sym own.0) (done_by words host files old new outcome leads comes stopped);
      }
  | inr other ↦ elim other [
    | inl memory ↦ record { stopped = inl (inr memory.0); done = λ leads. inr memory.0 }
    | inr unwritten ↦ absurd (no7 unwritten.0)
  ]
]
