-- Before `go` no order is given.
use Rattle.std.proofs.Common.{◌≡◌, ℕ, zero, suc, List, [], ◌∷◌, ◌++◌, Bool, true, false, refl, sym, ap, subst, ◌∙◌, Option, Some, None, Result, Ok, Err, if◌then◌else◌}
use Rattle.sv_base.specs.Roster.{is_roster}
use Rattle.sv_base.specs.declared.config.Config.{Config}
use Rattle.sv_base.specs.declared.config.Host.{Host}
use Rattle.sv_base.specs.declared.spec.GroupSpec.{GroupSpec}
use Rattle.sv_conf.specs.Configuration.{configuration_of}
use Rattle.sv_sections.specs.declared.fault.ConfFault.{ConfFault}
use Rattle.sv_core.specs.MachineState.{Model, accepts, next, orders}
use Rattle.sv_groups.specs.Changes.{with_group}
use Rattle.sv_journal.specs.declared.header.Header.{Header}
use Rattle.sv_journal.specs.declared.header.Header.TheVariants as header_is
use Rattle.sv_loop.proofs.OneReading.{no_head, why_misplaced}
use Rattle.sv_judge.proofs.Headers.{no_header_behind_go}
use Rattle.sv_judge.specs.JournalPlaces.{Line, Stage, Verdict, Walked, begins, behind, goes_on, heads, judged, long_heads, moved, titles, walked, walks_on}
use Rattle.sv_judge.specs.JournalPlaces.Line.{Head, Said, Noted}
use Rattle.sv_judge.specs.JournalPlaces.Stage.{Fresh, Named, Long, Running}
use Rattle.sv_judge.specs.JournalPlaces.Verdict.{Stands, BadLine, NotAccepted, NotConfigured}
use Rattle.sv_judge.specs.JournalPlaces.Walked.{Reaches, Stops}
use Rattle.sv_loop.specs.Replaying.{TellsWhy}
use Rattle.sv_judge.specs.JournalPlaces.{IsBeforeGo}
use Rattle.sv_judge.specs.LongHeader.{starting_at}
use Rattle.sv_judge.specs.ShortHeader.{group_of}
use Rattle.sv_judge.specs.declared.long.LongPlace.{LongPlace}
use Rattle.sv_judge.specs.declared.long.LongPlace.TheVariants.{Titled, Hosted, Located, Described, Configured}
use Rattle.sv_out.specs.declared.input.Input.{Input}
use Rattle.sv_out.specs.declared.order.Order.{Order}

titles_quiet : (version : ℕ) (to : Stage) (given : List Order) → titles version ≡ Stands to given → given ≡ []
titles_quiet zero to given e = cc
titles_quiet (suc zero) to given e = cc
titles_quiet (suc (suc version)) to given e = cc

moved_quiet : (next : Option LongPlace) (to : Stage) (given : List Order) → moved next ≡ Stands to given → given ≡ []
moved_quiet (Some place) to given e = cc
moved_quiet None to given e = cc

if_quiet : (test : Bool) (at : Stage) (other : Verdict) (to : Stage) (given : List Order)
    → (other ≡ Stands to given → given ≡ []) → (if test then Stands at [] else other) ≡ Stands to given → given ≡ []
if_quiet true at other to given other_quiet e = cc
if_quiet false at other to given other_quiet e = other_quiet e

begins_quiet : (host : Host) (sizes : List (List ℕ × ℕ)) (config : Result Config ConfFault) (to : Stage) (given : List Order)
    → begins host sizes config ≡ Stands to given → given ≡ []
begins_quiet host sizes (Ok config) to given e = cc
begins_quiet host sizes (Err fault) to given e = cc

go_quiet : (groups : List GroupSpec) (start : ℕ) (to : Stage) (given : List Order)
    → heads (Named groups) (header_is.Go start) ≡ Stands to given → given ≡ []
go_quiet [] start to given e = cc
go_quiet (group ∷ groups) start to given e = cc

configured_quiet : (host : Host) (sizes : List (List ℕ × ℕ)) (conf : List ℕ) (included : List (List ℕ × List ℕ)) (header : Header) (to : Stage) (given : List Order)
    → long_heads (Configured host sizes conf included) header ≡ Stands to given → given ≡ []
configured_quiet host sizes conf included (header_is.Journal version) to given e = moved_quiet (goes_on (Configured host sizes conf included) (header_is.Journal version)) to given e
configured_quiet host sizes conf included (header_is.Program program) to given e = moved_quiet (goes_on (Configured host sizes conf included) (header_is.Program program)) to given e
configured_quiet host sizes conf included (header_is.Host name) to given e = moved_quiet (goes_on (Configured host sizes conf included) (header_is.Host name)) to given e
configured_quiet host sizes conf included (header_is.Here here) to given e = moved_quiet (goes_on (Configured host sizes conf included) (header_is.Here here)) to given e
configured_quiet host sizes conf included (header_is.Pid pid) to given e = moved_quiet (goes_on (Configured host sizes conf included) (header_is.Pid pid)) to given e
configured_quiet host sizes conf included (header_is.Env name value) to given e = moved_quiet (goes_on (Configured host sizes conf included) (header_is.Env name value)) to given e
configured_quiet host sizes conf included (header_is.Size file size) to given e = moved_quiet (goes_on (Configured host sizes conf included) (header_is.Size file size)) to given e
configured_quiet host sizes conf included (header_is.Conf text) to given e = moved_quiet (goes_on (Configured host sizes conf included) (header_is.Conf text)) to given e
configured_quiet host sizes conf included (header_is.Include name more) to given e = moved_quiet (goes_on (Configured host sizes conf included) (header_is.Include name more)) to given e
configured_quiet host sizes conf included (header_is.Go start) to given e =
    begins_quiet (starting_at host start) sizes (configuration_of conf included (starting_at host start)) to given e

-- a header line gives no orders
head_quiet : (at : Stage) (header : Header) (to : Stage) (given : List Order) → heads at header ≡ Stands to given → given ≡ []
head_quiet Fresh (header_is.Journal version) to given e = titles_quiet version to given e
head_quiet Fresh (header_is.Program program) to given e = cc
head_quiet Fresh (header_is.Host name) to given e = cc
head_quiet Fresh (header_is.Here here) to given e = cc
head_quiet Fresh (header_is.Pid pid) to given e = cc
head_quiet Fresh (header_is.Env name value) to given e = cc
head_quiet Fresh (header_is.Size file size) to given e = cc
head_quiet Fresh (header_is.Conf text) to given e = cc
head_quiet Fresh (header_is.Include name more) to given e = cc
head_quiet Fresh (header_is.Go start) to given e = cc
head_quiet (Named groups) (header_is.Journal version) to given e = cc
head_quiet (Named groups) (header_is.Program program) to given e =
    if_quiet (is_roster (with_group (group_of program) groups)) (Named (with_group (group_of program) groups)) BadLine to given (λ same. cc) e
head_quiet (Named groups) (header_is.Host name) to given e = cc
head_quiet (Named groups) (header_is.Here here) to given e = cc
head_quiet (Named groups) (header_is.Pid pid) to given e = cc
head_quiet (Named groups) (header_is.Env name value) to given e = cc
head_quiet (Named groups) (header_is.Size file size) to given e = cc
head_quiet (Named groups) (header_is.Conf text) to given e = cc
head_quiet (Named groups) (header_is.Include name more) to given e = cc
head_quiet (Named groups) (header_is.Go start) to given e = go_quiet groups start to given e
head_quiet (Long Titled) header to given e = moved_quiet (goes_on Titled header) to given e
head_quiet (Long (Hosted name)) header to given e = moved_quiet (goes_on (Hosted name) header) to given e
head_quiet (Long (Located name here)) header to given e = moved_quiet (goes_on (Located name here) header) to given e
head_quiet (Long (Described host sizes)) header to given e = moved_quiet (goes_on (Described host sizes) header) to given e
head_quiet (Long (Configured host sizes conf included)) header to given e = configured_quiet host sizes conf included header to given e
head_quiet (Running m) header to given e = absurd (no_head m header to given e)

said_behind_go : (m : Model) (input : Input) (accepted : Bool) (to : Stage) (given : List Order)
    → (if accepted then Stands (Running (next m input)) (orders m input) else NotAccepted) ≡ Stands to given → IsBeforeGo to → ⊥
said_behind_go m input true to given e before = let same : to ≡ Running (next m input) = cc in subst IsBeforeGo same before
said_behind_go m input false to given e before = cc

-- a line that leads to a place before `go` stands before it, and gives no orders
line_quiet : (from : Stage) (line : Line) (to : Stage) (given : List Order) → judged from line ≡ Stands to given → IsBeforeGo to
    → IsBeforeGo from × (given ≡ [])
line_quiet Fresh (Head header) to given e before = (tt, head_quiet Fresh header to given e)
line_quiet (Named groups) (Head header) to given e before = (tt, head_quiet (Named groups) header to given e)
line_quiet (Long place) (Head header) to given e before = (tt, head_quiet (Long place) header to given e)
line_quiet (Running m) (Head header) to given e before = absurd (no_head m header to given e)
line_quiet Fresh (Said input) to given e before = cc
line_quiet (Named groups) (Said input) to given e before = cc
line_quiet (Long place) (Said input) to given e before = cc
line_quiet (Running m) (Said input) to given e before = absurd (said_behind_go m input (accepts m input) to given e before)
line_quiet Fresh (Noted order) to given e before = cc
line_quiet (Named groups) (Noted order) to given e before = cc
line_quiet (Long place) (Noted order) to given e before = cc
line_quiet (Running m) (Noted order) to given e before =
    let same : to ≡ Running m = cc in absurd (subst IsBeforeGo same before)

behind_quiet : (first : List Order) (onward : Walked) (to at : Stage) (given : List Order)
    → ((more : List Order) → onward ≡ Reaches at more → IsBeforeGo to × (more ≡ []))
    → behind first onward ≡ Reaches at given → IsBeforeGo to × ((first ≡ []) → given ≡ [])
behind_quiet first (Reaches there more) to at given later e =
    let same : there ≡ at = cc in
    let all : first ++ more ≡ given = cc in
    let rest = later more (ap (λ (s : Stage). Reaches s more) same) in
    (rest.0, λ none. sym all ∙ ap (λ (os : List Order). os ++ more) none ∙ rest.1)
behind_quiet first Stops to at given later e = cc

step_quiet : (verdict : Verdict) (from : Stage) (line : Line) (lines : List Line) (at : Stage) (given : List Order) → judged from line ≡ verdict
    → ((to : Stage) (more : List Order) → walked to lines ≡ Reaches at more → IsBeforeGo to × (more ≡ []))
    → walks_on verdict (λ next. walked next lines) ≡ Reaches at given → IsBeforeGo from × (given ≡ [])
step_quiet (Stands to first) from line lines at given stands later e =
    let tail = behind_quiet first (walked to lines) to at given (later to) e in
    let step = line_quiet from line to first stands tail.0 in
    (step.0, tail.1 step.1)
step_quiet BadLine from line lines at given stands later e = cc
step_quiet NotAccepted from line lines at given stands later e = cc
step_quiet (NotConfigured fault) from line lines at given stands later e = cc

-- lines that lead to a place before `go` give no orders
pub quiet_until : (lines : List Line) (from at : Stage) (given : List Order) → walked from lines ≡ Reaches at given → IsBeforeGo at
    → IsBeforeGo from × (given ≡ [])
quiet_until [] from at given e before =
    let same : at ≡ from = cc in
    (subst IsBeforeGo same before, cc)
quiet_until (line ∷ lines) from at given e before =
    step_quiet (judged from line) from line lines at given refl (λ to more reaches. quiet_until lines to at more reaches before) e

-- a configuration is judged before `go`
pub judged_before_go : (at : Stage) (header : Header) (verdict : Verdict) (closing : List ℕ) → heads at header ≡ verdict → TellsWhy verdict closing → IsBeforeGo at
judged_before_go Fresh header verdict closing e why = tt
judged_before_go (Named groups) header verdict closing e why = tt
judged_before_go (Long place) header verdict closing e why = tt
judged_before_go (Running m) header verdict closing e why = absurd (why_misplaced verdict closing (sym e ∙ no_header_behind_go m header) why)
