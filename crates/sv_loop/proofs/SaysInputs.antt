-- Lines after `go` are inputs and orders, and what they give are the deeds of the inputs.
use Rattle.std.proofs.Common.{◌≡◌, List, [], ◌∷◌, ◌++◌, Bool, true, false, refl, sym, ap, ◌∙◌, if◌then◌else◌}
use Rattle.sv_core.specs.Deeds.{after, deeds}
use Rattle.sv_core.specs.MachineState.{Model, accepts, next, orders}
use Rattle.sv_journal.specs.declared.header.Header.TheVariants as header_is
use Rattle.sv_judge.specs.JournalPlaces.{IsBeforeGo, Line, Stage, Walked, behind, walks_on, walked}
use Rattle.sv_judge.specs.JournalPlaces.Line.{Head, Said, Noted}
use Rattle.sv_judge.specs.JournalPlaces.Stage.{Fresh, Named, Long, Running}
use Rattle.sv_judge.specs.JournalPlaces.Verdict.{Stands, NotAccepted}
use Rattle.sv_judge.specs.JournalPlaces.Walked.{Reaches, Stops}
use Rattle.sv_loop.specs.WholeJournal.{Entry, entry_lines, inputs_in, AllAccepted}
use Rattle.sv_loop.specs.WholeJournal.Entry.{Told, Given}
use Rattle.sv_out.specs.declared.input.Input.{Input}
use Rattle.sv_out.specs.declared.order.Order.{Order}

pub record SaysInputs (m : Model) (lines : List Line) (at : Stage) (given : List Order) : Type 0 where
  pub entries : List Entry
  pub spelled : lines ≡ entry_lines entries
  pub accepted : AllAccepted m (inputs_in entries)
  pub state : at ≡ Running (after m (inputs_in entries))
  pub orders_are : given ≡ deeds m (inputs_in entries)

one_more : (m : Model) (input : Input) (lines : List Line) (at : Stage) (given : List Order) (onward : Walked)
    → ((t : Stage) (g : List Order) → onward ≡ Reaches t g → SaysInputs (next m input) lines t g)
    → accepts m input ≡ true → behind (orders m input) onward ≡ Reaches at given → SaysInputs m (Said input ∷ lines) at given
one_more m input lines at given (Reaches t g) later taken e =
    let rest = later t g refl in
    let there : t ≡ at = cc in
    let all : orders m input ++ g ≡ given = cc in
    record {
      entries = Told input ∷ rest.entries;
      spelled = ap (λ ls. Said input ∷ ls) rest.spelled;
      accepted = (taken, rest.accepted);
      state = rw taken (sym there ∙ rest.state);
      orders_are = rw taken (sym all ∙ ap (λ os. orders m input ++ os) rest.orders_are);
    }
one_more m input lines at given Stops later taken e = cc

by_test : (m : Model) (input : Input) (lines : List Line) (at : Stage) (given : List Order) (accepted : Bool)
    → ((t : Stage) (g : List Order) → walked (Running (next m input)) lines ≡ Reaches t g → SaysInputs (next m input) lines t g)
    → accepts m input ≡ accepted
    → walks_on (if accepted then Stands (Running (next m input)) (orders m input) else NotAccepted) (λ n. walked n lines) ≡ Reaches at given
    → SaysInputs m (Said input ∷ lines) at given
by_test m input lines at given true later taken e = one_more m input lines at given (walked (Running (next m input)) lines) later taken e
by_test m input lines at given false later taken e = cc

-- nothing is given at a line that is passed over
pub quiet : (onward : Walked) (at : Stage) (given : List Order) → behind [] onward ≡ Reaches at given → onward ≡ Reaches at given
quiet (Reaches t g) at given e = e
quiet Stops at given e = e

-- a walk that stops leads nowhere
pub no_way : {A : Type 0} → (m : Model) (given : List Order) → Stops ≡ Reaches (Running m) given → A
no_way m given e = cc

-- before `go` the daemon doesn't run
pub before_go : {A : Type 0} → (at : Stage) → IsBeforeGo at → (m : Model) (given : List Order) → Reaches at [] ≡ Reaches (Running m) given → A
before_go Fresh h m given e = cc
before_go (Named groups) h m given e = cc
before_go (Long place) h m given e = cc
before_go (Running r) h m given e = elim h [ ]

passed_over : (m : Model) (order : Order) (lines : List Line) (at : Stage) (given : List Order) → SaysInputs m lines at given
    → SaysInputs m (Noted order ∷ lines) at given
passed_over m order lines at given rest = record {
  entries = Given order ∷ rest.entries;
  spelled = ap (λ ls. Noted order ∷ ls) rest.spelled;
  accepted = rest.accepted;
  state = rest.state;
  orders_are = rest.orders_are;
}

pub says_inputs : (m : Model) (lines : List Line) (at : Stage) (given : List Order) → walked (Running m) lines ≡ Reaches at given → SaysInputs m lines at given
says_inputs m [] at given e = record { entries = []; spelled = refl; accepted = tt; state = cc; orders_are = cc }
says_inputs m (Said input ∷ lines) at given e =
    by_test m input lines at given (accepts m input) (λ t g reaches. says_inputs (next m input) lines t g reaches) refl e
says_inputs m (Noted order ∷ lines) at given e =
    passed_over m order lines at given (says_inputs m lines at given (quiet (walked (Running m) lines) at given e))
says_inputs m (Head (header_is.Journal version) ∷ lines) at given e = cc
says_inputs m (Head (header_is.Program program) ∷ lines) at given e = cc
says_inputs m (Head (header_is.Host other) ∷ lines) at given e = cc
says_inputs m (Head (header_is.Here other) ∷ lines) at given e = cc
says_inputs m (Head (header_is.Pid other) ∷ lines) at given e = cc
says_inputs m (Head (header_is.Env name value) ∷ lines) at given e = cc
says_inputs m (Head (header_is.Size file size) ∷ lines) at given e = cc
says_inputs m (Head (header_is.Conf text) ∷ lines) at given e = cc
says_inputs m (Head (header_is.Include name more) ∷ lines) at given e = cc
says_inputs m (Head (header_is.Go start) ∷ lines) at given e = cc
