-- Lines that lead from the title of a long header after `go` are the header's lines, and inputs with orders that are passed over.
use Rattle.std.proofs.Common.{◌≡◌, ℕ, List, [], ◌∷◌, ◌++◌, Bool, true, false, refl, sym, ap, subst, append_assoc, append-nil, Result, Ok, Err}
use Rattle.sv_base.specs.declared.config.Config.{Config}
use Rattle.sv_base.specs.declared.config.Host.{Host}
use Rattle.sv_conf.specs.Configuration.{configuration_of}
use Rattle.sv_sections.specs.declared.fault.ConfFault.{ConfFault}
use Rattle.sv_core.specs.Deeds.{after, deeds}
use Rattle.sv_core.specs.MachineState.{Model, opening}
use Rattle.sv_journal.specs.declared.header.Header.TheVariants as header_is
use Rattle.sv_loop.proofs.SaysInputs.{says_inputs, quiet, no_way, before_go}
use Rattle.sv_judge.specs.JournalPlaces.{Line, begins, described, moved, walked, walks_on}
use Rattle.sv_judge.specs.JournalPlaces.Line.{Head, Said, Noted}
use Rattle.sv_judge.specs.JournalPlaces.Stage.{Long, Running}
use Rattle.sv_judge.specs.JournalPlaces.Walked.{Reaches}
use Rattle.sv_judge.specs.LongHeader.{is_behind, host_of, with_variable, starting_at}
use Rattle.sv_loop.specs.WholeJournal.{Entry, variable_lines, size_lines, include_lines, entry_lines, inputs_in, AllAccepted, IsConfigured}
use Rattle.sv_judge.specs.declared.long.LongPlace.TheVariants.{Titled, Hosted, Located, Described, Configured}
use Rattle.sv_out.specs.declared.input.Input.{Input}
use Rattle.sv_out.specs.declared.order.Order.{Order}

-- what the lines after `go` say from a first state on
record SaysFrom (first : Model) (inputs : List Input) (m : Model) (given : List Order) : Type 0 where
  accepted : AllAccepted first inputs
  state : m ≡ after first inputs
  orders_are : given ≡ deeds first inputs

abbrev go_lines : ℕ → List Entry → List Line
go_lines start entries = Head (header_is.Go start) ∷ entry_lines entries

record SaysIncludes (host : Host) (sizes : List (List ℕ × ℕ)) (conf : List ℕ) (included : List (List ℕ × List ℕ)) (lines : List Line) (m : Model) (given : List Order) : Type 0 where
  more : List (List ℕ × List ℕ)
  start : ℕ
  first : Model
  begun : IsConfigured (starting_at host start) sizes conf (included ++ more) first
  entries : List Entry
  spelled : lines ≡ include_lines more ++ go_lines start entries
  says : SaysFrom first (inputs_in entries) m given

begin_by : (host : Host) (sizes : List (List ℕ × ℕ)) (conf : List ℕ) (included : List (List ℕ × List ℕ)) (config : Result Config ConfFault)
    (lines : List Line) (m : Model) (given : List Order) → configuration_of conf included host ≡ config
    → walks_on (begins host sizes config) (λ next. walked next lines) ≡ Reaches (Running m) given
    → (first : Model) × (entries : List Entry) × IsConfigured host sizes conf included first × (lines ≡ entry_lines entries) × SaysFrom first (inputs_in entries) m given
begin_by host sizes conf included (Ok config) lines m given accepted e =
    let first = opening config sizes host in
    let said = says_inputs first lines (Running m) given (quiet (walked (Running first) lines) (Running m) given e) in
    let state : m ≡ after first (inputs_in said.entries) = let same = said.state in cc in (
      first,
      said.entries,
      record { config = config; accepted = accepted; begins = refl },
      said.spelled,
      record { accepted = said.accepted; state = state; orders_are = said.orders_are },
    )
begin_by host sizes conf included (Err fault) lines m given accepted e = no_way m given e

says_includes : (host : Host) (sizes : List (List ℕ × ℕ)) (conf : List ℕ) (included : List (List ℕ × List ℕ)) (lines : List Line) (m : Model) (given : List Order)
    → walked (Long (Configured host sizes conf included)) lines ≡ Reaches (Running m) given → SaysIncludes host sizes conf included lines m given
says_includes host sizes conf included [] m given e = before_go (Long (Configured host sizes conf included)) tt m given e
says_includes host sizes conf included (Said input ∷ lines) m given e = no_way m given e
says_includes host sizes conf included (Noted order ∷ lines) m given e = no_way m given e
says_includes host sizes conf included (Head (header_is.Journal version) ∷ lines) m given e = no_way m given e
says_includes host sizes conf included (Head (header_is.Program program) ∷ lines) m given e = no_way m given e
says_includes host sizes conf included (Head (header_is.Host other) ∷ lines) m given e = no_way m given e
says_includes host sizes conf included (Head (header_is.Here other) ∷ lines) m given e = no_way m given e
says_includes host sizes conf included (Head (header_is.Pid other) ∷ lines) m given e = no_way m given e
says_includes host sizes conf included (Head (header_is.Env name value) ∷ lines) m given e = no_way m given e
says_includes host sizes conf included (Head (header_is.Size file size) ∷ lines) m given e = no_way m given e
says_includes host sizes conf included (Head (header_is.Conf text) ∷ lines) m given e = no_way m given e
says_includes host sizes conf included (Head (header_is.Include name more) ∷ lines) m given e =
    let onto = Long (Configured host sizes conf (included ++ (name, more) ∷ [])) in
    let rest = says_includes host sizes conf (included ++ (name, more) ∷ []) lines m given (quiet (walked onto lines) (Running m) given e) in
    let P : List (List ℕ × List ℕ) → Type 0 = λ all. IsConfigured (starting_at host rest.start) sizes conf all rest.first in
    record {
      more = (name, more) ∷ rest.more;
      start = rest.start;
      first = rest.first;
      begun = subst P (append_assoc included ((name, more) ∷ []) rest.more) rest.begun;
      entries = rest.entries;
      spelled = ap (λ (ls : List Line). Head (header_is.Include name more) ∷ ls) rest.spelled;
      says = rest.says;
    }
says_includes host sizes conf included (Head (header_is.Go start) ∷ lines) m given e =
    let at = starting_at host start in
    let begun = begin_by at sizes conf included (configuration_of conf included at) lines m given refl e in
    let P : List (List ℕ × List ℕ) → Type 0 = λ all. IsConfigured at sizes conf all begun.0 in
    record {
      more = [];
      start = start;
      first = begun.0;
      begun = subst P (sym (append-nil included)) begun.2;
      entries = begun.1;
      spelled = ap (λ (ls : List Line). Head (header_is.Go start) ∷ ls) begun.3;
      says = begun.4;
    }

record SaysSizes (host : Host) (sizes : List (List ℕ × ℕ)) (lines : List Line) (m : Model) (given : List Order) : Type 0 where
  more : List (List ℕ × ℕ)
  conf : List ℕ
  included : List (List ℕ × List ℕ)
  start : ℕ
  first : Model
  begun : IsConfigured (starting_at host start) (sizes ++ more) conf included first
  entries : List Entry
  spelled : lines ≡ size_lines more ++ Head (header_is.Conf conf) ∷ (include_lines included ++ go_lines start entries)
  says : SaysFrom first (inputs_in entries) m given

-- the configuration's text, after these sizes
says_conf : (host : Host) (sizes : List (List ℕ × ℕ)) (conf : List ℕ) (lines : List Line) (m : Model) (given : List Order)
    → walked (Long (Configured host sizes conf [])) lines ≡ Reaches (Running m) given → SaysSizes host sizes (Head (header_is.Conf conf) ∷ lines) m given
says_conf host sizes conf lines m given e =
    let rest = says_includes host sizes conf [] lines m given e in
    let P : List (List ℕ × ℕ) → Type 0 = λ all. IsConfigured (starting_at host rest.start) all conf rest.more rest.first in
    record {
      more = [];
      conf = conf;
      included = rest.more;
      start = rest.start;
      first = rest.first;
      begun = subst P (sym (append-nil sizes)) rest.begun;
      entries = rest.entries;
      spelled = ap (λ (ls : List Line). Head (header_is.Conf conf) ∷ ls) rest.spelled;
      says = rest.says;
    }

-- one size more
says_size : (host : Host) (sizes : List (List ℕ × ℕ)) (file : List ℕ) (size : ℕ) (lines : List Line) (m : Model) (given : List Order) (fits : Bool)
    → (walked (Long (Described host (sizes ++ (file, size) ∷ []))) lines ≡ Reaches (Running m) given → SaysSizes host (sizes ++ (file, size) ∷ []) lines m given)
    → walks_on (moved (described fits host (sizes ++ (file, size) ∷ []))) (λ next. walked next lines) ≡ Reaches (Running m) given
    → SaysSizes host sizes (Head (header_is.Size file size) ∷ lines) m given
says_size host sizes file size lines m given true later e =
    let onto = Long (Described host (sizes ++ (file, size) ∷ [])) in
    let rest = later (quiet (walked onto lines) (Running m) given e) in
    let P : List (List ℕ × ℕ) → Type 0 = λ all. IsConfigured (starting_at host rest.start) all rest.conf rest.included rest.first in
    record {
      more = (file, size) ∷ rest.more;
      conf = rest.conf;
      included = rest.included;
      start = rest.start;
      first = rest.first;
      begun = subst P (append_assoc sizes ((file, size) ∷ []) rest.more) rest.begun;
      entries = rest.entries;
      spelled = ap (λ (ls : List Line). Head (header_is.Size file size) ∷ ls) rest.spelled;
      says = rest.says;
    }
says_size host sizes file size lines m given false later e = no_way m given e

says_sizes : (host : Host) (one : List ℕ × ℕ) (sizes : List (List ℕ × ℕ)) (lines : List Line) (m : Model) (given : List Order)
    → walked (Long (Described host (one ∷ sizes))) lines ≡ Reaches (Running m) given → SaysSizes host (one ∷ sizes) lines m given
says_sizes host one sizes [] m given e = before_go (Long (Described host (one ∷ sizes))) tt m given e
says_sizes host one sizes (Said input ∷ lines) m given e = no_way m given e
says_sizes host one sizes (Noted order ∷ lines) m given e = no_way m given e
says_sizes host one sizes (Head (header_is.Journal version) ∷ lines) m given e = no_way m given e
says_sizes host one sizes (Head (header_is.Program program) ∷ lines) m given e = no_way m given e
says_sizes host one sizes (Head (header_is.Host other) ∷ lines) m given e = no_way m given e
says_sizes host one sizes (Head (header_is.Here other) ∷ lines) m given e = no_way m given e
says_sizes host one sizes (Head (header_is.Pid other) ∷ lines) m given e = no_way m given e
says_sizes host one sizes (Head (header_is.Env name value) ∷ lines) m given e = no_way m given e
says_sizes host one sizes (Head (header_is.Size file size) ∷ lines) m given e =
    says_size host (one ∷ sizes) file size lines m given (is_behind file (one ∷ sizes))
    (λ reaches. says_sizes host one (sizes ++ (file, size) ∷ []) lines m given reaches) e
says_sizes host one sizes (Head (header_is.Conf text) ∷ lines) m given e =
    says_conf host (one ∷ sizes) text lines m given
    (quiet (walked (Long (Configured host (one ∷ sizes) text [])) lines) (Running m) given e)
says_sizes host one sizes (Head (header_is.Include name more) ∷ lines) m given e = no_way m given e
says_sizes host one sizes (Head (header_is.Go start) ∷ lines) m given e = no_way m given e

record SaysVariables (host : Host) (lines : List Line) (m : Model) (given : List Order) : Type 0 where
  variables : List (List ℕ × List ℕ)
  sizes : List (List ℕ × ℕ)
  conf : List ℕ
  included : List (List ℕ × List ℕ)
  start : ℕ
  first : Model
  begun : IsConfigured (starting_at (record host { environment = host.environment ++ variables }) start) sizes conf included first
  entries : List Entry
  spelled : lines ≡ variable_lines variables ++ (size_lines sizes ++ Head (header_is.Conf conf) ∷ (include_lines included ++ go_lines start entries))
  says : SaysFrom first (inputs_in entries) m given

-- no variable more
says_rest : (host : Host) (lines : List Line) (m : Model) (given : List Order) → SaysSizes host [] lines m given → SaysVariables host lines m given
says_rest host lines m given rest =
    let P : List (List ℕ × List ℕ) → Type 0 =
    λ all. IsConfigured (starting_at (record host { environment = all }) rest.start) rest.more rest.conf rest.included rest.first in
    record {
      variables = [];
      sizes = rest.more;
      conf = rest.conf;
      included = rest.included;
      start = rest.start;
      first = rest.first;
      begun = subst P (sym (append-nil host.environment)) rest.begun;
      entries = rest.entries;
      spelled = rest.spelled;
      says = rest.says;
    }

-- one variable more
says_variable : (host : Host) (name value : List ℕ) (lines : List Line) (m : Model) (given : List Order) (fits : Bool)
    → (walked (Long (Described (with_variable host name value) [])) lines ≡ Reaches (Running m) given → SaysVariables (with_variable host name value) lines m given)
    → walks_on (moved (described fits (with_variable host name value) [])) (λ next. walked next lines) ≡ Reaches (Running m) given
    → SaysVariables host (Head (header_is.Env name value) ∷ lines) m given
says_variable host name value lines m given true later e =
    let onto = Long (Described (with_variable host name value) []) in
    let rest = later (quiet (walked onto lines) (Running m) given e) in
    let P : List (List ℕ × List ℕ) → Type 0 =
    λ all. IsConfigured (starting_at (record host { environment = all }) rest.start) rest.sizes rest.conf rest.included rest.first in
    record {
      variables = (name, value) ∷ rest.variables;
      sizes = rest.sizes;
      conf = rest.conf;
      included = rest.included;
      start = rest.start;
      first = rest.first;
      begun = subst P (append_assoc host.environment ((name, value) ∷ []) rest.variables) rest.begun;
      entries = rest.entries;
      spelled = ap (λ (ls : List Line). Head (header_is.Env name value) ∷ ls) rest.spelled;
      says = rest.says;
    }
says_variable host name value lines m given false later e = no_way m given e

says_first_size : (host : Host) (file : List ℕ) (size : ℕ) (lines : List Line) (m : Model) (given : List Order)
    → walked (Long (Described host [])) (Head (header_is.Size file size) ∷ lines) ≡ Reaches (Running m) given
    → SaysVariables host (Head (header_is.Size file size) ∷ lines) m given
says_first_size host file size lines m given e =
    says_rest host (Head (header_is.Size file size) ∷ lines) m given
    (says_size host [] file size lines m given true (λ reaches. says_sizes host (file, size) [] lines m given reaches) e)

says_variables : (host : Host) (lines : List Line) (m : Model) (given : List Order)
    → walked (Long (Described host [])) lines ≡ Reaches (Running m) given → SaysVariables host lines m given
says_variables host [] m given e = before_go (Long (Described host [])) tt m given e
says_variables host (Said input ∷ lines) m given e = no_way m given e
says_variables host (Noted order ∷ lines) m given e = no_way m given e
says_variables host (Head (header_is.Journal version) ∷ lines) m given e = no_way m given e
says_variables host (Head (header_is.Program program) ∷ lines) m given e = no_way m given e
says_variables host (Head (header_is.Host other) ∷ lines) m given e = no_way m given e
says_variables host (Head (header_is.Here other) ∷ lines) m given e = no_way m given e
says_variables host (Head (header_is.Pid other) ∷ lines) m given e = no_way m given e
says_variables host (Head (header_is.Env name value) ∷ lines) m given e =
    says_variable host name value lines m given (is_behind name host.environment)
    (λ reaches. says_variables (with_variable host name value) lines m given reaches) e
says_variables host (Head (header_is.Size file size) ∷ lines) m given e = says_first_size host file size lines m given e
says_variables host (Head (header_is.Conf text) ∷ lines) m given e =
    says_rest host (Head (header_is.Conf text) ∷ lines) m given
    (says_conf host [] text lines m given (quiet (walked (Long (Configured host [] text [])) lines) (Running m) given e))
says_variables host (Head (header_is.Include name more) ∷ lines) m given e = no_way m given e
says_variables host (Head (header_is.Go start) ∷ lines) m given e = no_way m given e

pub record SaysLong (lines : List Line) (m : Model) (given : List Order) : Type 0 where
  pub host : Host
  pub sizes : List (List ℕ × ℕ)
  pub conf : List ℕ
  pub included : List (List ℕ × List ℕ)
  pub first : Model
  pub begun : IsConfigured host sizes conf included first
  pub entries : List Entry
  pub spelled : lines ≡
      Head (header_is.Host host.name) ∷ Head (header_is.Here host.here) ∷ Head (header_is.Pid host.pid)
      ∷ (variable_lines host.environment ++ (size_lines sizes ++ Head (header_is.Conf conf) ∷ (include_lines included ++ Head (header_is.Go host.start) ∷ entry_lines entries)))
  pub accepted : AllAccepted first (inputs_in entries)
  pub state : m ≡ after first (inputs_in entries)
  pub orders_are : given ≡ deeds first (inputs_in entries)

says_pid : (name here : List ℕ) (pid : ℕ) (lines : List Line) (m : Model) (given : List Order)
    → walked (Long (Described (host_of name here pid) [])) lines ≡ Reaches (Running m) given
    → SaysLong (Head (header_is.Host name) ∷ Head (header_is.Here here) ∷ Head (header_is.Pid pid) ∷ lines) m given
says_pid name here pid lines m given e =
    let rest = says_variables (host_of name here pid) lines m given e in
    record {
      host = record { name = name; here = here; pid = pid; environment = rest.variables; start = rest.start };
      sizes = rest.sizes;
      conf = rest.conf;
      included = rest.included;
      first = rest.first;
      begun = rest.begun;
      entries = rest.entries;
      spelled = ap (λ (ls : List Line). Head (header_is.Host name) ∷ Head (header_is.Here here) ∷ Head (header_is.Pid pid) ∷ ls) rest.spelled;
      accepted = rest.says.accepted;
      state = rest.says.state;
      orders_are = rest.says.orders_are;
    }

says_located : (name here : List ℕ) (lines : List Line) (m : Model) (given : List Order) → walked (Long (Located name here)) lines ≡ Reaches (Running m) given
    → SaysLong (Head (header_is.Host name) ∷ Head (header_is.Here here) ∷ lines) m given
says_located name here [] m given e = before_go (Long (Located name here)) tt m given e
says_located name here (Said input ∷ lines) m given e = no_way m given e
says_located name here (Noted order ∷ lines) m given e = no_way m given e
says_located name here (Head (header_is.Journal version) ∷ lines) m given e = no_way m given e
says_located name here (Head (header_is.Program program) ∷ lines) m given e = no_way m given e
says_located name here (Head (header_is.Host other) ∷ lines) m given e = no_way m given e
says_located name here (Head (header_is.Here other) ∷ lines) m given e = no_way m given e
says_located name here (Head (header_is.Pid pid) ∷ lines) m given e =
    says_pid name here pid lines m given (quiet (walked (Long (Described (host_of name here pid) [])) lines) (Running m) given e)
says_located name here (Head (header_is.Env called value) ∷ lines) m given e = no_way m given e
says_located name here (Head (header_is.Size file size) ∷ lines) m given e = no_way m given e
says_located name here (Head (header_is.Conf text) ∷ lines) m given e = no_way m given e
says_located name here (Head (header_is.Include called more) ∷ lines) m given e = no_way m given e
says_located name here (Head (header_is.Go start) ∷ lines) m given e = no_way m given e

says_hosted : (name : List ℕ) (lines : List Line) (m : Model) (given : List Order) → walked (Long (Hosted name)) lines ≡ Reaches (Running m) given
    → SaysLong (Head (header_is.Host name) ∷ lines) m given
says_hosted name [] m given e = before_go (Long (Hosted name)) tt m given e
says_hosted name (Said input ∷ lines) m given e = no_way m given e
says_hosted name (Noted order ∷ lines) m given e = no_way m given e
says_hosted name (Head (header_is.Journal version) ∷ lines) m given e = no_way m given e
says_hosted name (Head (header_is.Program program) ∷ lines) m given e = no_way m given e
says_hosted name (Head (header_is.Host other) ∷ lines) m given e = no_way m given e
says_hosted name (Head (header_is.Here here) ∷ lines) m given e =
    says_located name here lines m given (quiet (walked (Long (Located name here)) lines) (Running m) given e)
says_hosted name (Head (header_is.Pid other) ∷ lines) m given e = no_way m given e
says_hosted name (Head (header_is.Env called value) ∷ lines) m given e = no_way m given e
says_hosted name (Head (header_is.Size file size) ∷ lines) m given e = no_way m given e
says_hosted name (Head (header_is.Conf text) ∷ lines) m given e = no_way m given e
says_hosted name (Head (header_is.Include called more) ∷ lines) m given e = no_way m given e
says_hosted name (Head (header_is.Go start) ∷ lines) m given e = no_way m given e

pub says_long : (lines : List Line) (m : Model) (given : List Order) → walked (Long Titled) lines ≡ Reaches (Running m) given
    → SaysLong (lines) m given
says_long [] m given e = before_go (Long Titled) tt m given e
says_long (Said input ∷ lines) m given e = no_way m given e
says_long (Noted order ∷ lines) m given e = no_way m given e
says_long (Head (header_is.Journal version) ∷ lines) m given e = no_way m given e
says_long (Head (header_is.Program program) ∷ lines) m given e = no_way m given e
says_long (Head (header_is.Host name) ∷ lines) m given e =
    says_hosted name lines m given (quiet (walked (Long (Hosted name)) lines) (Running m) given e)
says_long (Head (header_is.Here other) ∷ lines) m given e = no_way m given e
says_long (Head (header_is.Pid other) ∷ lines) m given e = no_way m given e
says_long (Head (header_is.Env called value) ∷ lines) m given e = no_way m given e
says_long (Head (header_is.Size file size) ∷ lines) m given e = no_way m given e
says_long (Head (header_is.Conf text) ∷ lines) m given e = no_way m given e
says_long (Head (header_is.Include called more) ∷ lines) m given e = no_way m given e
says_long (Head (header_is.Go start) ∷ lines) m given e = no_way m given e
