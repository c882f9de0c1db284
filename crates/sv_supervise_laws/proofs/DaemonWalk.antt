-- The lines of a daemon's journal lead after `go`, and from there on as its inputs do.
use Rattle.std.proofs.Common.{◌≡◌, ℕ, List, [], ◌∷◌, ◌++◌, Bool, true, false, ◌&&◌, map, refl, sym, ap, subst, ◌∙◌, append_assoc, append-nil, Ok}
use Rattle.std.specs.Prelude.{if◌then◌else◌}
use Rattle.sv_base.specs.declared.config.Config.{Config}
use Rattle.sv_base.specs.declared.config.Host.{Host}
use Rattle.sv_conf.specs.Configuration.{configuration_of}
use Rattle.sv_core.specs.Deeds.{after, deeds}
use Rattle.sv_core.specs.MachineState.{Model, accepts, next, opening, orders}
use Rattle.sv_supervise.specs.MainLoop.Course.{AreTaken}
use Rattle.sv_logs.specs.Sizes.{Sizes, rise}
use Rattle.sv_journal.specs.declared.header.Header.TheVariants as header_is
use Rattle.sv_judge.specs.JournalPlaces.{Line, Stage, Walked, behind, judged, walked, walks_on}
use Rattle.sv_judge.specs.JournalPlaces.Line.{Head, Said}
use Rattle.sv_judge.specs.JournalPlaces.Stage.{Fresh, Long, Running}
use Rattle.sv_judge.specs.JournalPlaces.Verdict.{Stands, NotAccepted}
use Rattle.sv_judge.specs.JournalPlaces.Walked.{Reaches, Stops}
use Rattle.sv_judge.specs.LongHeader.{is_behind, host_of}
use Rattle.sv_loop.specs.WholeJournal.{Entry, entry_lines, include_lines, inputs_in, journal_lines, size_lines, variable_lines}
use Rattle.sv_loop.specs.WholeJournal.Beginning.{Long as Of_configuration}
use Rattle.sv_loop.specs.WholeJournal.Entry.{Told, Given}
use Rattle.sv_judge.specs.declared.long.LongPlace.TheVariants.{Titled, Hosted, Located, Described, Configured}
use Rattle.sv_out.specs.declared.input.Input.{Input}
use Rattle.sv_out.specs.declared.order.Order.{Order}
use Rattle.sv_supervise.specs.Machines.{core_rules}
use Rattle.sv_supervise_laws.specs.Rerun.{entries_of, is_first, names_rise}

and_left : (one other : Bool) → (one && other) ≡ true → one ≡ true
and_left true other e = refl
and_left false other e = cc

and_right : (one other : Bool) → (one && other) ≡ true → other ≡ true
and_right true other e = e
and_right false other e = cc

quiet : (onward : Walked) → behind [] onward ≡ onward
quiet (Reaches at given) = refl
quiet Stops = refl

-- a line that stands and gives nothing
stands : (at to : Stage) (line : Line) (lines : List Line) → judged at line ≡ Stands to [] → walked at (line ∷ lines) ≡ walked to lines
stands at to line lines e = rw e (quiet (walked to lines))

-- ---- rising names

pub names_are_rising : (sizes : Sizes) → rise sizes ≡ true → names_rise sizes ≡ true
names_are_rising [] e = refl
names_are_rising (known ∷ []) e = refl
names_are_rising (known ∷ (next ∷ sizes)) e =
    let rest = names_are_rising (next ∷ sizes) (and_right (is_first known.0 (next ∷ sizes)) (rise (next ∷ sizes)) e) in
    rw (and_left (is_first known.0 (next ∷ sizes)) (rise (next ∷ sizes)) e) rest

behind_done : {A : Type 0} (done more : List (List ℕ × A)) (entry : List ℕ × A) → names_rise (done ++ entry ∷ more) ≡ true → is_behind entry.0 done ≡ true
behind_done [] more entry e = refl
behind_done (first ∷ []) more entry e = and_left (is_first first.0 (entry ∷ more)) (names_rise (entry ∷ more)) e
behind_done (first ∷ (second ∷ done)) more entry e =
    behind_done (second ∷ done) more entry
    (and_right (is_first first.0 (second ∷ (done ++ entry ∷ more))) (names_rise (second ∷ (done ++ entry ∷ more))) e)

one_further : {A : Type 0} (done more : List A) (entry : A) → (done ++ entry ∷ []) ++ more ≡ done ++ entry ∷ more
one_further done more entry = append_assoc done (entry ∷ []) more

-- ---- the header

abbrev with_environment : Host → List (List ℕ × List ℕ) → Host
with_environment host environment = record host { environment = environment }

walk_variables : (host : Host) (done more : List (List ℕ × List ℕ)) (lines : List Line) → names_rise (done ++ more) ≡ true
    → walked (Long (Described (with_environment host done) [])) (variable_lines more ++ lines)
    ≡ walked (Long (Described (with_environment host (done ++ more)) [])) lines
walk_variables host done [] lines rises =
    ap (λ (all : List (List ℕ × List ℕ)). walked (Long (Described (with_environment host all) [])) lines) (sym (append-nil done))
walk_variables host done (entry ∷ more) lines rises =
    let place : is_behind entry.0 done ≡ true = behind_done done more entry rises in
    let here : judged (Long (Described (with_environment host done) [])) (Head (header_is.Env entry.0 entry.1))
    ≡ Stands (Long (Described (with_environment host (done ++ entry ∷ [])) [])) [] = rw place refl in
    let further : names_rise ((done ++ entry ∷ []) ++ more) ≡ true =
    subst (λ (all : List (List ℕ × List ℕ)). names_rise all ≡ true) (sym (one_further done more entry)) rises in
    stands (Long (Described (with_environment host done) [])) (Long (Described (with_environment host (done ++ entry ∷ [])) []))
    (Head (header_is.Env entry.0 entry.1)) (variable_lines more ++ lines) here
    ∙ walk_variables host (done ++ entry ∷ []) more lines further
    ∙ ap (λ (all : List (List ℕ × List ℕ)). walked (Long (Described (with_environment host all) [])) lines) (one_further done more entry)

size_stands : (host : Host) (done : Sizes) (entry : List ℕ × ℕ) → is_behind entry.0 done ≡ true
    → judged (Long (Described host done)) (Head (header_is.Size entry.0 entry.1)) ≡ Stands (Long (Described host (done ++ entry ∷ []))) []
size_stands host [] entry place = refl
size_stands host (first ∷ done) entry place = rw place refl

walk_sizes : (host : Host) (done more : Sizes) (lines : List Line) → names_rise (done ++ more) ≡ true
    → walked (Long (Described host done)) (size_lines more ++ lines) ≡ walked (Long (Described host (done ++ more))) lines
walk_sizes host done [] lines rises = ap (λ (all : Sizes). walked (Long (Described host all)) lines) (sym (append-nil done))
walk_sizes host done (entry ∷ more) lines rises =
    let further : names_rise ((done ++ entry ∷ []) ++ more) ≡ true =
    subst (λ (all : Sizes). names_rise all ≡ true) (sym (one_further done more entry)) rises in
    stands (Long (Described host done)) (Long (Described host (done ++ entry ∷ []))) (Head (header_is.Size entry.0 entry.1)) (size_lines more ++ lines)
    (size_stands host done entry (behind_done done more entry rises))
    ∙ walk_sizes host (done ++ entry ∷ []) more lines further
    ∙ ap (λ (all : Sizes). walked (Long (Described host all)) lines) (one_further done more entry)

conf_stands : (host : Host) (sizes : Sizes) (text : List ℕ)
    → judged (Long (Described host sizes)) (Head (header_is.Conf text)) ≡ Stands (Long (Configured host sizes text [])) []
conf_stands host [] text = refl
conf_stands host (known ∷ sizes) text = refl

walk_includes : (host : Host) (sizes : Sizes) (text : List ℕ) (done more : List (List ℕ × List ℕ)) (lines : List Line)
    → walked (Long (Configured host sizes text done)) (include_lines more ++ lines) ≡ walked (Long (Configured host sizes text (done ++ more))) lines
walk_includes host sizes text done [] lines =
    ap (λ (all : List (List ℕ × List ℕ)). walked (Long (Configured host sizes text all)) lines) (sym (append-nil done))
walk_includes host sizes text done (entry ∷ more) lines =
    stands (Long (Configured host sizes text done)) (Long (Configured host sizes text (done ++ entry ∷ []))) (Head (header_is.Include entry.0 entry.1))
    (include_lines more ++ lines) refl
    ∙ walk_includes host sizes text (done ++ entry ∷ []) more lines
    ∙ ap (λ (all : List (List ℕ × List ℕ)). walked (Long (Configured host sizes text all)) lines) (one_further done more entry)

-- ---- after `go`

walk_given : (m : Model) (given : List Order) (entries : List Entry)
    → walked (Running m) (entry_lines (map Given given ++ entries)) ≡ walked (Running m) (entry_lines entries)
walk_given m [] entries = refl
walk_given m (order ∷ given) entries =
    quiet (walked (Running m) (entry_lines (map Given given ++ entries))) ∙ walk_given m given entries

-- an accepted input gives its orders, and leads on
walk_said : (m : Model) (i : Input) (lines : List Line) (last : Stage) (given : List Order) → accepts m i ≡ true
    → walked (Running (next m i)) lines ≡ Reaches last given → walked (Running m) (Said i ∷ lines) ≡ Reaches last (orders m i ++ given)
walk_said m i lines last given accepted goes = by (accepts m i) accepted
  where
    by : (b : Bool) → b ≡ true
        → walks_on (if b then Stands (Running (next m i)) (orders m i) else NotAccepted) (λ n. walked n lines) ≡ Reaches last (orders m i ++ given)
    by true e = ap (behind (orders m i)) goes
    by false e = cc

entries_next : (m : Model) (i : Input) (is : List Input) → accepts m i ≡ true
    → entries_of m (i ∷ is) ≡ Told i ∷ (map Given (orders m i) ++ entries_of (next m i) is)
entries_next m i is accepted = rw accepted refl

after_next : (m : Model) (i : Input) (is : List Input) → accepts m i ≡ true → after m (i ∷ is) ≡ after (next m i) is
after_next m i is accepted = rw accepted refl

deeds_next : (m : Model) (i : Input) (is : List Input) → accepts m i ≡ true → deeds m (i ∷ is) ≡ orders m i ++ deeds (next m i) is
deeds_next m i is accepted = rw accepted refl

pub walk_inputs : (m : Model) (inputs : List Input) → AreTaken core_rules m inputs
    → walked (Running m) (entry_lines (entries_of m inputs)) ≡ Reaches (Running (after m inputs)) (deeds m inputs)
walk_inputs m [] taken = refl
walk_inputs m (i ∷ is) taken =
    let accepted : accepts m i ≡ true = taken.1 in
    let rest : walked (Running (next m i)) (entry_lines (map Given (orders m i) ++ entries_of (next m i) is))
    ≡ Reaches (Running (after (next m i) is)) (deeds (next m i) is) =
    walk_given (next m i) (orders m i) (entries_of (next m i) is) ∙ walk_inputs (next m i) is taken.2 in
    ap (λ (entries : List Entry). walked (Running m) (entry_lines entries)) (entries_next m i is accepted)
    ∙ walk_said m i (entry_lines (map Given (orders m i) ++ entries_of (next m i) is)) (Running (after (next m i) is)) (deeds (next m i) is) accepted rest
    ∙ ap (λ (given : List Order). Reaches (Running (after (next m i) is)) given) (sym (deeds_next m i is accepted))
    ∙ ap (λ (last : Model). Reaches (Running last) (deeds m (i ∷ is))) (sym (after_next m i is accepted))

passed : (given : List Order) (entries : List Entry) → inputs_in (map Given given ++ entries) ≡ inputs_in entries
passed [] entries = refl
passed (order ∷ given) entries = passed given entries

pub inputs_told : (m : Model) (inputs : List Input) → AreTaken core_rules m inputs → inputs_in (entries_of m inputs) ≡ inputs
inputs_told m [] taken = refl
inputs_told m (i ∷ is) taken =
    ap (λ (entries : List Entry). inputs_in entries) (entries_next m i is taken.1)
    ∙ ap (λ (rest : List Input). i ∷ rest) (passed (orders m i) (entries_of (next m i) is) ∙ inputs_told (next m i) is taken.2)

-- ---- the whole

pub walk_daemon : (host : Host) (sizes : Sizes) (text : List ℕ) (included : List (List ℕ × List ℕ)) (config : Config) (entries : List Entry)
    → names_rise host.environment ≡ true → names_rise sizes ≡ true → configuration_of text included host ≡ Ok config
    → walked Fresh (journal_lines (Of_configuration host sizes text included) entries)
    ≡ walked (Running (opening config sizes host)) (entry_lines entries)
walk_daemon host sizes text included config entries variables_rise sizes_rise configured =
    let bare = host_of host.name host.here host.pid in
    let known : Host = with_environment bare host.environment in
    let behind_go = Head (header_is.Go host.start) ∷ entry_lines entries in
    let behind_conf = include_lines included ++ behind_go in
    let behind_sizes = Head (header_is.Conf text) ∷ behind_conf in
    let behind_variables = size_lines sizes ++ behind_sizes in
    let behind_pid = variable_lines host.environment ++ behind_variables in
    let behind_here = Head (header_is.Pid host.pid) ∷ behind_pid in
    let behind_name = Head (header_is.Here host.here) ∷ behind_here in
    let behind_title = Head (header_is.Host host.name) ∷ behind_name in
    stands Fresh (Long Titled) (Head (header_is.Journal 1)) behind_title refl
    ∙ stands (Long Titled) (Long (Hosted host.name)) (Head (header_is.Host host.name)) behind_name refl
    ∙ stands (Long (Hosted host.name)) (Long (Located host.name host.here)) (Head (header_is.Here host.here)) behind_here refl
    ∙ stands (Long (Located host.name host.here)) (Long (Described bare [])) (Head (header_is.Pid host.pid)) behind_pid refl
    ∙ walk_variables bare [] host.environment behind_variables variables_rise
    ∙ walk_sizes known [] sizes behind_sizes sizes_rise
    ∙ stands (Long (Described known sizes)) (Long (Configured known sizes text [])) (Head (header_is.Conf text)) behind_conf (conf_stands known sizes text)
    ∙ walk_includes known sizes text [] included behind_go
    ∙ goes
  where
    goes : walked (Long (Configured (with_environment (host_of host.name host.here host.pid) host.environment) sizes text included))
        (Head (header_is.Go host.start) ∷ entry_lines entries)
        ≡ walked (Running (opening config sizes host)) (entry_lines entries)
    goes = rw configured (quiet (walked (Running (opening config sizes host)) (entry_lines entries)))
