use Rattle.std.proofs.Common.{◌≡◌, List, [], ◌∷◌, ℕ, Bool, true, Option, Some, refl, ap, sym, ◌∙◌, arith}
use Rattle.std.proofs.lemmas.Grind.{common_steps}
use Rattle.std.proofs.lemmas.Slice.Eq.{bytes_eq-Decides}
use Rattle.std.specs.List.{find}
use Rattle.std.specs.Str.{bytes_eq}
use Rattle.sv_base.specs.KindNames.{kind_name, all_kinds}
use Rattle.sv_base.specs.declared.kind.Kind.{Kind}
use Rattle.sv_base.specs.declared.kind.Kind.TheVariants.{Event, ProcessState, ProcessStateStarting, ProcessStateRunning, ProcessStateBackoff, ProcessStateStopping, ProcessStateExited, ProcessStateStopped, ProcessStateFatal, ProcessStateUnknown, ProcessCommunication, ProcessCommunicationStdout, ProcessCommunicationStderr, ProcessLog, ProcessLogStdout, ProcessLogStderr, RemoteCommunication, SupervisorStateChange, SupervisorStateChangeRunning, SupervisorStateChangeStopping, Tick, Tick5, Tick60, Tick3600, ProcessGroup, ProcessGroupAdded, ProcessGroupRemoved}

-- the first event type of this name
abbrev pub first_named : List ℕ → Option Kind
first_named text = find (λ kind. bytes_eq (kind_name kind) text) all_kinds

-- what is found passes the test
pub find_passes : {A : Type 0} (test : A → Bool) (xs : List A) (x : A) → find test xs ≡ Some x → test x ≡ true
find_passes test [] x e = cc
find_passes test (y ∷ ys) x e = grind (arith, common_steps, find_passes test ys x)

-- each name finds its own kind: no two have one name
pub finds_itself : (kind : Kind) → first_named (kind_name kind) ≡ Some kind
finds_itself Event = refl
finds_itself ProcessState = refl
finds_itself ProcessStateStarting = refl
finds_itself ProcessStateRunning = refl
finds_itself ProcessStateBackoff = refl
finds_itself ProcessStateStopping = refl
finds_itself ProcessStateExited = refl
finds_itself ProcessStateStopped = refl
finds_itself ProcessStateFatal = refl
finds_itself ProcessStateUnknown = refl
finds_itself ProcessCommunication = refl
finds_itself ProcessCommunicationStdout = refl
finds_itself ProcessCommunicationStderr = refl
finds_itself ProcessLog = refl
finds_itself ProcessLogStdout = refl
finds_itself ProcessLogStderr = refl
finds_itself RemoteCommunication = refl
finds_itself SupervisorStateChange = refl
finds_itself SupervisorStateChangeRunning = refl
finds_itself SupervisorStateChangeStopping = refl
finds_itself Tick = refl
finds_itself Tick5 = refl
finds_itself Tick60 = refl
finds_itself Tick3600 = refl
finds_itself ProcessGroup = refl
finds_itself ProcessGroupAdded = refl
finds_itself ProcessGroupRemoved = refl

-- a kind is found exactly by its name
pub found_by_name : (text : List ℕ) (kind : Kind) → first_named text ≡ Some kind → text ≡ kind_name kind
found_by_name text kind e =
    sym ((bytes_eq-Decides (kind_name kind) text).0 (find_passes (λ k. bytes_eq (kind_name k) text) all_kinds kind e))

pub finds_the_named : (text : List ℕ) (kind : Kind) → text ≡ kind_name kind → first_named text ≡ Some kind
finds_the_named text kind e = ap first_named e ∙ finds_itself kind

-- kinds of one name are one kind: the name finds both
pub names_differ : (one other : Kind) → kind_name one ≡ kind_name other → one ≡ other
names_differ one other e = some_is_one one other (sym (finds_itself one) ∙ ap first_named e ∙ finds_itself other)
  where
    some_is_one : (x y : Kind) → Some x ≡ Some y → x ≡ y
    some_is_one x y h = cc
