-- What a daemon wrote of its inputs is what comes of them where the journal is replayed.
use Rattle.std.proofs.Common.{◌≡◌, ℕ, List, [], ◌∷◌, ◌++◌, true, Option, Some, None, Result, Ok, map, refl, sym, ap, subst, ◌∙◌, append_assoc, append-nil}
use Rattle.std.specs.Io.KnownBytes.{Appends, Consumes, IsAtEnd}
use Rattle.sv_base.specs.declared.config.Host.{Host}
use Rattle.sv_supervise.specs.declared.begin.beginning.Beginning.{Beginning}
use Rattle.sv_conf.specs.Configuration.{configuration_of}
use Rattle.sv_core.specs.Deeds.{after, deeds}
use Rattle.sv_core.specs.MachineState.{Model, opening}
use Rattle.sv_supervise.specs.MainLoop.Course.{AreTaken, Whole}
use Rattle.sv_supervise.specs.MainLoop.Journal.{history}
use Rattle.sv_supervise.specs.MainLoop.Telling.{Told}
use Rattle.sv_logs.specs.Opening.{opening_sizes}
use Rattle.sv_logs.specs.Sizes.{Sizes, rise}
use Rattle.sv_loop.proofs.OneReading.{not_empty, plain_line, same_front, same_line}
use Rattle.sv_judge.specs.JournalPlaces.{Line, AllFit, Stage, Verdict, Walked, behind, judged, journal_text, line_text, order_text, walked, walks_on}
use Rattle.sv_judge.specs.JournalPlaces.Stage.{Fresh, Running}
use Rattle.sv_judge.specs.JournalPlaces.Verdict.{Stands, BadLine, NotAccepted, NotConfigured}
use Rattle.sv_judge.specs.JournalPlaces.Walked.{Reaches, Stops}
use Rattle.sv_loop.specs.Replaying.{Done}
use Rattle.sv_loop.specs.WholeJournal.{entry_lines}
use Rattle.sv_out.specs.Files.{Files}
use Rattle.sv_out.specs.declared.input.Input.{Input}
use Rattle.sv_out.specs.declared.order.Order.{Order}
use Rattle.sv_supervise.specs.Journal.Header.{header_text}
use Rattle.sv_supervise.specs.Journal.Lines.{journal_texts, texts_of}
use Rattle.sv_supervise.specs.declared.journal.lines.JournalLines.TheVariants.{Kept}
use Rattle.sv_load.proofs.SizesLemmas.Logs.{names_are, names_rising}
use Rattle.sv_load.specs.Sizes.LogSizes.{is_log_file, is_one_of, log_files, name_of, sizes_on}
use Rattle.sv_load.specs.declared.sizes.fault.SizesFault.{SizesFault}
use Rattle.sv_supervise.specs.Machines.{core_rules}
use Rattle.sv_supervise.specs.Supervising.{Reads, header_of, machine_of}
use Rattle.sv_supervise_laws.proofs.DaemonText.{daemon_text, history_text}
use Rattle.sv_supervise_laws.proofs.DaemonWalk.{inputs_told, names_are_rising, walk_daemon, walk_inputs}
use Rattle.sv_supervise_laws.proofs.NonzeroSizes.{opening_rises, opens_alike, told_rise}
use Rattle.sv_supervise_laws.specs.Rerun.{IsRerun, IsWithinLimits, daemon_lines, entries_of, names_rise, told_sizes}

-- ---- a text is walked in one way

-- the orders of a walk
record Rest (at : Stage) (line : Line) (lines : List Line) (last : Stage) (all : List Order) : Type 0 where
  to : Stage
  given : List Order
  more : List Order
  stands : judged at line ≡ Stands to given
  walks : walked to lines ≡ Reaches last more
  parts : all ≡ given ++ more

rest_in : (at to : Stage) (line : Line) (lines : List Line) (last : Stage) (given all : List Order) (onward : Walked)
    → judged at line ≡ Stands to given → walked to lines ≡ onward → behind given onward ≡ Reaches last all → Rest at line lines last all
rest_in at to line lines last given all (Reaches there more) stands walks e =
    let same : there ≡ last = cc in
    let parts : given ++ more ≡ all = cc in
    record {
      to = to;
      given = given;
      more = more;
      stands = stands;
      walks = walks ∙ ap (λ (s : Stage). Reaches s more) same;
      parts = sym parts;
    }
rest_in at to line lines last given all Stops stands walks e = cc

rest_of : (verdict : Verdict) (at : Stage) (line : Line) (lines : List Line) (last : Stage) (all : List Order)
    → judged at line ≡ verdict → walks_on verdict (λ next. walked next lines) ≡ Reaches last all → Rest at line lines last all
rest_of (Stands to given) at line lines last all stands e = rest_in at to line lines last given all (walked to lines) stands refl e
rest_of BadLine at line lines last all stands e = cc
rest_of NotAccepted at line lines last all stands e = cc
rest_of (NotConfigured fault) at line lines last all stands e = cc

none_behind : (line : Line) (lines : List Line) → [] ≡ journal_text (line ∷ lines) → ⊥
none_behind line lines e = not_empty (line_text line) (journal_text lines) (e ∙ append_assoc (line_text line) (10 ∷ []) (journal_text lines))

same_walk : (lines others : List Line) (at last there : Stage) (given more : List Order) → AllFit lines → AllFit others
    → walked at lines ≡ Reaches last given → walked at others ≡ Reaches there more → journal_text lines ≡ journal_text others → given ≡ more
same_walk [] [] at last there given more fit fits goes walks e =
    let mine : [] ≡ given = cc in
    let its : [] ≡ more = cc in sym mine ∙ its
same_walk [] (other ∷ others) at last there given more fit fits goes walks e = absurd (none_behind other others e)
same_walk (line ∷ lines) [] at last there given more fit fits goes walks e = absurd (none_behind line lines (sym e))
same_walk (line ∷ lines) (other ∷ others) at last there given more fit fits goes walks e =
    let mine = rest_of (judged at line) at line lines last given refl goes in
    let its = rest_of (judged at other) at other others there more refl walks in
    let joined : line_text line ++ 10 ∷ journal_text lines ≡ line_text other ++ 10 ∷ journal_text others =
    sym (append_assoc (line_text line) (10 ∷ []) (journal_text lines)) ∙ e
    ∙ append_assoc (line_text other) (10 ∷ []) (journal_text others) in
    let same = same_front (line_text line) (line_text other) (journal_text lines) (journal_text others) (plain_line line fit.0) (plain_line other fits.0) joined in
    let one : line ≡ other = same_line at mine.to its.to mine.given its.given line other fit.0 fits.0 same.0 mine.stands its.stands in
    let stood : Stands mine.to mine.given ≡ Stands its.to its.given = sym mine.stands ∙ ap (judged at) one ∙ its.stands in
    let to_is : mine.to ≡ its.to = cc in
    let given_is : mine.given ≡ its.given = cc in
    let rest : mine.more ≡ its.more =
    same_walk lines others mine.to last there mine.more its.more fit.2 fits.2 mine.walks
    (subst (λ (s : Stage). walked s others ≡ Reaches there its.more) (sym to_is) its.walks) same.1 in
    mine.parts ∙ ap (λ (os : List Order). os ++ mine.more) given_is ∙ ap (λ (os : List Order). its.given ++ os) rest ∙ sym its.parts

-- ---- the journal of a daemon

-- what is known of the sizes of log files
record AreSizes (beginning : Beginning) : Type 0 where
  rising : rise beginning.sizes.items ≡ true
  files : (name : List ℕ) → is_one_of name (map name_of beginning.sizes.items) ≡ is_log_file beginning.loaded.config name

begins_alike : (beginning : Beginning) (host : Host) → AreSizes beginning
    → opening beginning.loaded.config (told_sizes beginning.sizes.items) host ≡ machine_of beginning host
begins_alike beginning host sizes =
    let begun = opening beginning.loaded.config beginning.sizes.items host in
    ap (λ (known : Sizes). record begun { base = record begun.base { sizes = known } })
    (opens_alike beginning.loaded.config beginning.sizes.items sizes.rising sizes.files)

walks : (beginning : Beginning) (host : Host) (inputs : List Input) → AreSizes beginning → names_rise host.environment ≡ true
    → configuration_of beginning.loaded.main beginning.loaded.included host ≡ Ok beginning.loaded.config
    → AreTaken core_rules (machine_of beginning host) inputs
    → walked Fresh (daemon_lines beginning host inputs)
    ≡ Reaches (Running (after (machine_of beginning host) inputs)) (deeds (machine_of beginning host) inputs)
walks beginning host inputs sizes rising configured taken =
    let m = machine_of beginning host in
    walk_daemon host (told_sizes beginning.sizes.items) beginning.loaded.main beginning.loaded.included beginning.loaded.config
    (entries_of m inputs) rising (names_are_rising (told_sizes beginning.sizes.items) (told_rise beginning.sizes.items sizes.rising)) configured
    ∙ ap (λ (first : Model). walked (Running first) (entry_lines (entries_of m inputs))) (begins_alike beginning host sizes)
    ∙ walk_inputs m inputs taken

text_is : (beginning : Beginning) (host : Host) (inputs : List Input)
    → journal_text (daemon_lines beginning host inputs)
    ≡ header_text host beginning.sizes.items beginning.loaded.main beginning.loaded.included
    ++ history core_rules journal_texts (machine_of beginning host) inputs
text_is beginning host inputs =
    let m = machine_of beginning host in
    daemon_text host beginning.sizes.items beginning.loaded.main beginning.loaded.included (entries_of m inputs)
    ∙ ap (λ (rest : List ℕ). header_text host beginning.sizes.items beginning.loaded.main beginning.loaded.included ++ rest) (history_text m inputs)

written : (first last : List ℕ) (middle journal : Option (List ℕ)) → Appends (Some []) middle first → Appends middle journal last → journal ≡ Some (first ++ last)
written first last None journal p q = absurd p
written first last (Some bytes) None p q = absurd q
written first last (Some bytes) (Some all) p q = ap (λ (text : List ℕ). Some text) (q ∙ ap (λ (front : List ℕ). front ++ last) p)

rerun : (beginning : Beginning) (host : Host) (inputs : List Input) (middle journal : Option (List ℕ))
    → AreSizes beginning → names_rise host.environment ≡ true
    → configuration_of beginning.loaded.main beginning.loaded.included host ≡ Ok beginning.loaded.config
    → AreTaken core_rules (machine_of beginning host) inputs
    → Appends (Some []) middle (header_text host beginning.sizes.items beginning.loaded.main beginning.loaded.included)
    → Appends middle journal (history core_rules journal_texts (machine_of beginning host) inputs)
    → IsWithinLimits (daemon_lines beginning host inputs)
    → IsRerun journal beginning host inputs
rerun beginning host inputs middle journal sizes rising configured taken header more within =
    let lines = daemon_lines beginning host inputs in
    let m = machine_of beginning host in
    let leads = walks beginning host inputs sizes rising configured taken in
    let said : journal ≡ Some (journal_text lines) =
    written _ _ middle journal header more ∙ ap (λ (text : List ℕ). Some text) (sym (text_is beginning host inputs)) in
    record {
      said = said;
      inputs_are = inputs_told m inputs taken;
      good = record {
        lines = lines;
        model = after m inputs;
        given = deeds m inputs;
        fit = within.fit;
        walks = leads;
        short = within.short;
        held = said;
      };
      replayed = λ left old new done. replayed_as left old new lines (after m inputs) (deeds m inputs) within.fit leads
          (subst (λ (held : Option (List ℕ)). Done held left old new) said done);
    }
  where
    whole : (lines : List Line) (left : Option (List ℕ)) (bytes : List ℕ) → Consumes (Some (journal_text lines)) left bytes
        → IsAtEnd left → journal_text lines ≡ bytes
    whole lines None bytes took end = absurd took
    whole lines (Some rest) bytes took end = took ∙ ap (λ (behind : List ℕ). bytes ++ behind) end ∙ append-nil bytes

    replayed_as : (left old new : Option (List ℕ)) (lines : List Line) (last : Model) (given : List Order) → AllFit lines
        → walked Fresh lines ≡ Reaches (Running last) given → Done (Some (journal_text lines)) left old new → Appends old new (order_text given)
    replayed_as left old new lines last given fit leads done =
        let bytes_are : journal_text lines ≡ journal_text done.lines =
        whole lines left done.bytes done.taken.consumed done.at_end ∙ done.read.spelled ∙ append-nil (journal_text done.lines) in
        let orders_are : done.given ≡ given =
        same_walk done.lines lines Fresh (Running done.model) (Running last) done.given given done.read.fit fit done.read.walks leads (sym bytes_are) in
        subst (λ (os : List Order). Appends old new (order_text os)) orders_are done.wrote

-- ---- what a daemon reads

sizes_named : (files : Files) (names : List (List ℕ)) → map name_of (sizes_on files names) ≡ names
sizes_named files [] = refl
sizes_named files (name ∷ names) = ap (λ (rest : List (List ℕ)). name ∷ rest) (sizes_named files names)

are_sizes : (beginning : Beginning) (files : Files) → beginning.sizes.items ≡ sizes_on files (log_files beginning.loaded.config) → AreSizes beginning
are_sizes beginning files are =
    let config = beginning.loaded.config in
    let begun = opening_sizes config [] in
    let result : Result Sizes SizesFault = Ok beginning.sizes.items in
    let named : map name_of beginning.sizes.items ≡ map name_of begun =
    ap (λ (sizes : Sizes). map name_of sizes) are ∙ sizes_named files (log_files config) in
    record {
      rising = names_rising (λ (sizes : Sizes). sizes) begun result named (opening_rises config [] refl);
      files = names_are (λ (sizes : Sizes). sizes) config begun result named refl;
    }

pub a_journal_is_rerun : (words : List (List ℕ)) (host : Host) (files : Files) (reads : Reads words host files) (old mid new : Told) (inputs : List Input)
    → old.journal ≡ Some [] → Appends old.journal mid.journal (header_of Kept reads.beginning host)
    → Whole core_rules (texts_of Kept) (machine_of reads.beginning host) mid new inputs
    → names_rise host.environment ≡ true → IsWithinLimits (daemon_lines reads.beginning host inputs)
    → IsRerun new.journal reads.beginning host inputs
a_journal_is_rerun words host files reads old mid new inputs empty header whole rising within =
    let begins = reads.begins in
    rerun reads.beginning host inputs mid.journal new.journal (are_sizes reads.beginning files begins.1) rising begins.0.2 whole.taken
    (subst (λ (first : Option (List ℕ)). Appends first mid.journal (header_of Kept reads.beginning host)) empty header)
    whole.went.written within
