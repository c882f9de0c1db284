-- What is given first: a failure, then the answer, then a note.
use Rattle.std.proofs.Common.{Err, ◌≡◌, ◌||◌, ℕ, Bool, true, List, [], ◌∷◌, Option, None, Some, Result, Ok, IfOk, OnErr, ap, append-nil, refl, subst, sym, ◌∙◌}
use Rattle.std.proofs.lemmas.Bool.{eq-eqb}
use Rattle.sv_jobs.specs.declared.notes.Note.{Note}
use Rattle.sv_jobs.specs.declared.notes.Note.TheVariants as notes
use Rattle.sv_parts.specs.declared.links.live_links.LiveLinks.{LiveLinks}
use Rattle.sv_out.specs.declared.input.Input.{Input}
use Rattle.sv_out.specs.declared.input.Input.TheVariants.{Failed}
use Rattle.sv_parts.specs.declared.runs.live_runs.LiveRuns.{LiveRuns}
use Rattle.sv_threads.specs.Answers.{input_of_answer}
use Rattle.sv_threads.specs.Giving.{Gives, answer_left, failures_left, tells}
use Rattle.sv_threads.specs.Hearing.{Hears, Refuses, SettlesTaken, count_after, count_after_call, stamped}
use Rattle.sv_threads.specs.declared.answers.Answer.{Answer}
use Rattle.sv_threads.specs.declared.answers.Answer.TheVariants as answers

pub gives_failure : (E : Type 0) (failures later : List ℕ) (number : ℕ) (answer : Option Answer) (next : Option ℕ) (count : ℕ)
    (taken : List (ℕ × Note)) → failures ≡ number ∷ later
    → Gives {E = E} failures answer next count taken taken (Ok (Failed number))
gives_failure E failures later number answer next count taken is =
    subst (λ (f : List ℕ). Gives {E = E} f answer next count taken taken (Ok (Failed number))) (sym is) (refl, refl)

pub later_left : (failures later : List ℕ) (number : ℕ) → failures ≡ number ∷ later → later ≡ failures_left failures
later_left failures later number is = sym (ap failures_left is)

pub answer_kept : (failures later : List ℕ) (number : ℕ) (answer : Option Answer) → failures ≡ number ∷ later
    → answer ≡ answer_left failures answer
answer_kept failures later number answer is = sym (ap (λ (f : List ℕ). answer_left f answer) is)

pub gives_answer : (E : Type 0) (failures : List ℕ) (given : Answer) (answer : Option Answer) (next : Option ℕ) (count : ℕ)
    (taken : List (ℕ × Note)) (input : Input) → failures ≡ [] → answer ≡ Some given → input ≡ input_of_answer given
    → Gives {E = E} failures answer next count taken taken (Ok input)
gives_answer E failures given answer next count taken input none is told =
    subst (λ (f : List ℕ). Gives {E = E} f answer next count taken taken (Ok input)) (sym none)
    (subst (λ (a : Option Answer). Gives {E = E} [] a next count taken taken (Ok input)) (sym is) (ap Ok told, refl))

pub gives_note : (E : Type 0) (failures : List ℕ) (answer : Option Answer) (next : Option ℕ) (count : ℕ)
    (taken after : List (ℕ × Note)) (result : Result Input E) → failures ≡ [] → answer ≡ None
    → IfOk result (Hears next count taken after) → OnErr result (Refuses count taken after)
    → Gives {E = E} failures answer next count taken after result
gives_note E failures answer next count taken after result none is hears refuses =
    subst (λ (f : List ℕ). Gives {E = E} f answer next count taken after result) (sym none)
    (subst (λ (a : Option Answer). Gives {E = E} [] a next count taken after result) (sym is) (hears, refuses))

no_failure : (answer : Answer) (n : ℕ) → input_of_answer answer ≡ Failed n → ⊥
no_failure (answers.Pid pid) n is = cc
no_failure answers.NoFile n is = cc
no_failure answers.NotExecutable n is = cc
no_failure (answers.Refused reason) n is = cc
no_failure (answers.Read bytes) n is = cc
no_failure answers.Done n is = cc
no_failure answers.Missing n is = cc
no_failure (answers.Names names) n is = cc
no_failure (answers.Size size) n is = cc

no_note_fails : (at count n : ℕ) (note : Note) → stamped at count note ≡ Some (Failed n) → ⊥
no_note_fails at count n notes.Tick is = cc
no_note_fails at count n (notes.Exit run how) is = cc
no_note_fails at count n (notes.Out run stream bytes) is = cc
no_note_fails at count n (notes.OutEnd run stream) is = cc
no_note_fails at count n (notes.Open side) is = cc
no_note_fails at count n (notes.Piece link bytes) is = cc
no_note_fails at count n (notes.LinkEnd link) is = cc
no_note_fails at count n (notes.Signal signal) is = cc
no_note_fails at count n (notes.Start name) is = cc
no_note_fails at count n (notes.Stop name) is = cc
no_note_fails at count n (notes.Wrote run) is = cc
no_note_fails at count n (notes.StdinEnd run) is = cc
no_note_fails at count n (notes.Sent link) is = cc
no_note_fails at count n notes.NoMemory is = cc

ok_parts : {E : Type 0} (a b : Input) → ◌≡◌ {A = Result Input E} (Ok a) (Ok b) → a ≡ b
ok_parts a b is = cc

failed_parts : (a b : ℕ) → Failed a ≡ Failed b → a ≡ b
failed_parts a b is = cc

-- a failure that is given was told among the failures
pub was_told : (E : Type 0) (failures : List ℕ) (answer : Option Answer) (next : Option ℕ) (count : ℕ) (taken after : List (ℕ × Note))
    (input : Input) (n : ℕ) → Gives {E = E} failures answer next count taken after (Ok input) → input ≡ Failed n → tells n failures ≡ true
was_told E (number ∷ later) answer next count taken after input n gives is =
    let same : number ≡ n = failed_parts number n (sym (ok_parts {E = E} input (Failed number) gives.0) ∙ is) in
    ap (λ (b : Bool). b || tells n later) (eq-eqb number n same)
was_told E [] (Some answer) next count taken after input n gives is =
    absurd (no_failure answer n (sym (ok_parts {E = E} input (input_of_answer answer) gives.0) ∙ is))
was_told E [] None next count taken after input n gives is =
    absurd (no_note_fails gives.0.told.at count n gives.0.note (gives.0.told.told ∙ ap Some is))

opens_none : (answer : Answer) (count : ℕ) → count ≡ count_after (input_of_answer answer) count
opens_none (answers.Pid pid) count = refl
opens_none answers.NoFile count = refl
opens_none answers.NotExecutable count = refl
opens_none (answers.Refused reason) count = refl
opens_none (answers.Read bytes) count = refl
opens_none answers.Done count = refl
opens_none answers.Missing count = refl
opens_none (answers.Names names) count = refl
opens_none (answers.Size size) count = refl

-- an answer opens no link
pub no_link_more : (E : Type 0) (answer : Answer) (input : Input) (count : ℕ) → input ≡ input_of_answer answer
    → count ≡ count_after_call {E = E} (Ok input) count
no_link_more E answer input count is = opens_none answer count ∙ ap (λ (i : Input). count_after i count) (sym is)

-- no note was taken
pub none_taken : (P K : Type 0) (taken : List (ℕ × Note)) (runs : LiveRuns P) (links : LiveLinks K)
    → SettlesTaken taken taken runs runs links links
none_taken P K taken runs links = record {
  heard = [];
  settled = links;
  grew = sym (append-nil taken);
  known = (refl, refl);
  lives = refl;
  lost = refl;
}

err_ok : {E : Type 0} (error : E) (input : Input) → ◌≡◌ {A = Result Input E} (Err error) (Ok input) → ⊥
err_ok error input is = cc

-- the same input, where another error could have come
pub gives_ok : (E F : Type 0) (failures : List ℕ) (answer : Option Answer) (next : Option ℕ) (count : ℕ) (taken after : List (ℕ × Note))
    (input : Input) → Gives {E = E} failures answer next count taken after (Ok input)
    → Gives {E = F} failures answer next count taken after (Ok input)
gives_ok E F (number ∷ later) answer next count taken after input gives =
    (ap (λ (i : Input). Ok i) (ok_parts {E = E} input (Failed number) gives.0), gives.1)
gives_ok E F [] (Some answer) next count taken after input gives =
    (ap (λ (i : Input). Ok i) (ok_parts {E = E} input (input_of_answer answer) gives.0), gives.1)
gives_ok E F [] None next count taken after input gives = gives

-- another error
pub gives_err : (E F : Type 0) (failures : List ℕ) (answer : Option Answer) (next : Option ℕ) (count : ℕ) (taken after : List (ℕ × Note))
    (error : E) (fault : F) → Gives {E = E} failures answer next count taken after (Err error)
    → Gives {E = F} failures answer next count taken after (Err fault)
gives_err E F (number ∷ later) answer next count taken after error fault gives = absurd (err_ok error (Failed number) gives.0)
gives_err E F [] (Some answer) next count taken after error fault gives =
    absurd (err_ok error (input_of_answer answer) gives.0)
gives_err E F [] None next count taken after error fault gives = gives
