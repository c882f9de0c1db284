-- What is found of a header, an input or an order is found of its line.
use Rattle.std.proofs.Common.{◌≡◌, ◌≢◌, ℕ, List, ◌≤◌, length, sym, refl, [], ◌∷◌, ◌++◌, true, false, ◌==◌, Result, Ok, Err}
use Rattle.std.specs.Prelude.{codes}
use Rattle.sv_journal.proofs.Marks.{marked_input}
use Rattle.sv_journal.specs.JournalLine.{header_line, FitsHeader, input_line, FitsInput, order_line}
use Rattle.sv_journal.specs.Limits.{line_limit}
use Rattle.sv_journal.specs.Orders.{FitsOrder}
use Rattle.sv_journal.specs.declared.header.Header.{Header}
use Rattle.sv_judge.proofs.Headers.{no_header_behind_go}
use Rattle.sv_judge.specs.JournalPlaces.{Line, FitsLine, line_text, Stage, judged, heads, says, passes_over, adds, IsBadLine}
use Rattle.sv_base.specs.Roster.{is_roster}
use Rattle.sv_base.specs.declared.spec.GroupSpec.{GroupSpec}
use Rattle.sv_core.specs.MachineState.{Model, opening}
use Rattle.sv_core.specs.StandsFor.{StandsFor}
use Rattle.sv_core.specs.declared.machine.Machine.{Machine}
use Rattle.sv_journal.specs.declared.header.Header.TheVariants.{Go}
use Rattle.sv_judge.specs.ShortHeader.{config_of, host_at}
use Rattle.sv_judge.specs.JournalPlaces.Stage.{Fresh, Named, Long, Running}
use Rattle.sv_judge.specs.JournalPlaces.Line.{Head, Said, Noted}
use Rattle.sv_judge.specs.JournalPlaces.Verdict.{Stands as As_stands, BadLine as As_bad_line}
use Rattle.sv_judge.specs.Judging.{IsMachine, IsPlace, JudgedAs, JudgedHead, JudgedNoted, LeadsTo}
use Rattle.sv_judge.specs.JournalPlaces.{IsBeforeGo}
use Rattle.sv_judge.specs.Judging.{IsRunning}
use Rattle.sv_judge.specs.declared.judging.JournalProgress.{JournalProgress}
use Rattle.sv_judge.specs.declared.judging.JournalProgress.TheVariants as place_is
use Rattle.sv_judge.specs.declared.judging.Refused.{Refused}
use Rattle.sv_judge.specs.declared.judging.Refused.TheVariants.{BadLine, NotAccepted, NotConfigured, NoMemory}
use Rattle.sv_out.specs.declared.input.Input.{Input}
use Rattle.sv_out.specs.declared.order.Order.{Order}

misplaced_by_head : (at : Stage) (header : Header) (text : List ℕ) (line : Line)
    → ((input : Input) → says at input ≡ As_bad_line)
    → passes_over at ≡ As_bad_line
    → ((h : Header) → FitsHeader h → text ≡ header_line h → length text ≤ line_limit → header ≡ h)
    → heads at header ≡ As_bad_line
    → FitsLine line → line_text line ≡ text → length text ≤ line_limit → judged at line ≡ As_bad_line
misplaced_by_head at header text (Head h) quiet unmarked only out fits spelled short = rw (← only h fits (sym spelled) short) out
misplaced_by_head at header text (Said input) quiet unmarked only out fits spelled short = quiet input
misplaced_by_head at header text (Noted order) quiet unmarked only out fits spelled short = unmarked

-- a header that stands
pub stood_by_head : (place : JournalProgress) (at : Stage) (header : Header) (text : List ℕ)
    → FitsHeader header → text ≡ header_line header → length text ≤ line_limit
    → JudgedHead (Ok place) (heads at header) → LeadsTo at text (IsPlace place) []
stood_by_head place at header text fits spelled short found = record {
  to = found.0;
  leads = record { line = Head header; fits = fits; spelled = sym spelled; short = short; stands = found.1 };
  is_place = found.2;
}

refused_by_head : (refused : Refused) (Is : Stage → Type 0) (at : Stage) (header : Header) (text : List ℕ)
    → ((input : Input) → says at input ≡ As_bad_line)
    → passes_over at ≡ As_bad_line
    → ((h : Header) → FitsHeader h → text ≡ header_line h → length text ≤ line_limit → header ≡ h)
    → FitsHeader header → text ≡ header_line header → length text ≤ line_limit
    → JudgedHead (Err refused) (heads at header) → JudgedAs (Err refused) [] Is at text
refused_by_head BadLine Is at header text quiet unmarked only fits spelled short out =
    λ line. misplaced_by_head at header text line quiet unmarked only out
refused_by_head NotAccepted Is at header text quiet unmarked only fits spelled short found = absurd found
refused_by_head (NotConfigured fault) Is at header text quiet unmarked only fits spelled short found =
    record { header = header; fits = fits; spelled = sym spelled; short = short; judged_so = found }
refused_by_head NoMemory Is at header text quiet unmarked only fits spelled short found = tt

-- a place before `go` whose machine doesn't run
pub before_go : (place : JournalProgress) (at : Stage) → IsPlace place at → (IsRunning place → ⊥) → IsBeforeGo at
before_go place Fresh is not_running = tt
before_go place (Named groups) is not_running = tt
before_go place (Long long) is not_running = tt
before_go place_is.Fresh (Running m) is not_running = absurd is
before_go (place_is.Named kept) (Running m) is not_running = absurd is
before_go (place_is.Long long) (Running m) is not_running = absurd is
before_go (place_is.Running machine) (Running m) is not_running = absurd (not_running tt)

-- before `go` a line is refused where its header is
pub head_refused : (refused : Refused) (Is : Stage → Type 0) (at : Stage) (header : Header) (text : List ℕ) → IsBeforeGo at
    → ((h : Header) → FitsHeader h → text ≡ header_line h → length text ≤ line_limit → header ≡ h)
    → FitsHeader header → text ≡ header_line header → length text ≤ line_limit
    → JudgedHead (Err refused) (heads at header) → JudgedAs (Err refused) [] Is at text
head_refused refused Is Fresh header text before only fits spelled short found =
    refused_by_head refused Is Fresh header text (λ input. refl) refl only fits spelled short found
head_refused refused Is (Named groups) header text before only fits spelled short found =
    refused_by_head refused Is (Named groups) header text (λ input. refl) refl only fits spelled short found
head_refused refused Is (Long place) header text before only fits spelled short found =
    refused_by_head refused Is (Long place) header text (λ input. refl) refl only fits spelled short found
head_refused refused Is (Running m) header text before only fits spelled short found = absurd before

-- behind `go` a line is what the machine takes
pub input_judged : (result : Result (Unit {0}) Refused) (orders : List Order) (old new : Machine) (at : Stage) (text : List ℕ)
    → ((m : Model) → StandsFor old m → JudgedAs result orders (IsMachine new) (Running m) text) → IsMachine old at
    → JudgedAs result orders (IsMachine new) at text
input_judged result orders old new Fresh text each is = absurd is
input_judged result orders old new (Named groups) text each is = absurd is
input_judged result orders old new (Long place) text each is = absurd is
input_judged result orders old new (Running m) text each is = each m is

-- an order's line leads to its own place
pub noted_judged : (result : Result (Unit {0}) Refused) (m : Model) (text : List ℕ) (Is : Stage → Type 0) → JudgedNoted result m text → Is (Running m)
    → JudgedAs result [] Is (Running m) text
noted_judged (Ok done) m text Is leads here = record { to = Running m; leads = leads; is_place = here }
noted_judged (Err BadLine) m text Is bad here = bad
noted_judged (Err NotAccepted) m text Is never here = absurd never
noted_judged (Err (NotConfigured fault)) m text Is never here = absurd never
noted_judged (Err NoMemory) m text Is never here = tt

-- before `go` a text that no header has is out of place
pub no_head_there : (at : Stage) (text : List ℕ) → IsBeforeGo at → ((h : Header) → FitsHeader h → text ≡ header_line h → length text ≤ line_limit → ⊥)
    → IsBadLine at text
no_head_there at text before none = λ line. by_line at line before
  where
    by_line : (at : Stage) (line : Line) → IsBeforeGo at → FitsLine line → line_text line ≡ text → length text ≤ line_limit → judged at line ≡ As_bad_line
    by_line at (Head h) before fits spelled short = absurd (none h fits (sym spelled) short)
    by_line Fresh (Said input) before fits spelled short = refl
    by_line Fresh (Noted order) before fits spelled short = refl
    by_line (Named groups) (Said input) before fits spelled short = refl
    by_line (Named groups) (Noted order) before fits spelled short = refl
    by_line (Long place) (Said input) before fits spelled short = refl
    by_line (Long place) (Noted order) before fits spelled short = refl
    by_line (Running m) (Said input) before fits spelled short = absurd before
    by_line (Running m) (Noted order) before fits spelled short = absurd before

-- `go` after a program
pub go_leads : (groups : List GroupSpec) (start : ℕ) → (length groups == 0) ≡ false
    → heads (Named groups) (Go start) ≡ As_stands (Running (opening (config_of groups) [] (host_at start))) []
go_leads [] start some = cc
go_leads (group ∷ groups) start some = refl

-- a program that a configuration can hold
pub adds_more : (groups : List GroupSpec) → is_roster groups ≡ true → adds groups ≡ As_stands (Named groups) []
adds_more groups whole = rw whole refl

-- after the mark stands no order's line
pub misplaced_mark : (m : Model) (rest : List ℕ) → ((o : Order) → FitsOrder o → rest ≡ order_line o → length (codes "> " ++ rest) ≤ line_limit → ⊥)
    → IsBadLine (Running m) (codes "> " ++ rest)
misplaced_mark m rest none = λ line. by_line line
  where
    order_of : (o : Order) → codes "> " ++ order_line o ≡ codes "> " ++ rest → rest ≡ order_line o
    order_of o same = cc

    by_line : (line : Line) → FitsLine line → line_text line ≡ codes "> " ++ rest → length (codes "> " ++ rest) ≤ line_limit
        → judged (Running m) line ≡ As_bad_line
    by_line (Head header) fits spelled short = no_header_behind_go m header
    by_line (Said input) fits spelled short = absurd (marked_input input rest fits spelled)
    by_line (Noted o) fits spelled short = absurd (none o fits (order_of o spelled) short)

-- without the mark it stands where it is an input's line
pub misplaced_said : (m : Model) (text : List ℕ) → ((rest : List ℕ) → text ≢ codes "> " ++ rest)
    → ((i : Input) → FitsInput i → text ≡ input_line i → length text ≤ line_limit → ⊥) → IsBadLine (Running m) text
misplaced_said m text bare none = λ line. by_line line
  where
    by_line : (line : Line) → FitsLine line → line_text line ≡ text → length text ≤ line_limit → judged (Running m) line ≡ As_bad_line
    by_line (Head header) fits spelled short = no_header_behind_go m header
    by_line (Said input) fits spelled short = absurd (none input fits (sym spelled) short)
    by_line (Noted o) fits spelled short = absurd (bare (order_line o) (sym spelled))
