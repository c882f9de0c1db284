-- Lines that lead after `go` are a journal, and their orders are the deeds of its inputs.
use Rattle.std.proofs.Common.{◌≡◌, ℕ, zero, suc, List, [], ◌∷◌, ◌++◌, Bool, true, false, refl, ap, subst, ◌∙◌, append-nil, Option, if◌then◌else◌}
use Rattle.std.specs.Io.KnownBytes.{Appends, Consumes}
use Rattle.sv_base.specs.Roster.{is_roster}
use Rattle.sv_base.specs.declared.spec.GroupSpec.{GroupSpec}
use Rattle.sv_core.specs.Deeds.{after, deeds}
use Rattle.sv_core.specs.MachineState.{Model, opening}
use Rattle.sv_groups.specs.Changes.{with_group}
use Rattle.sv_journal.specs.declared.header.Header.TheVariants as header_is
use Rattle.sv_journal.specs.declared.header.Program.{Program as Programs_line}
use Rattle.sv_loop.proofs.Quiet.{quiet_until}
use Rattle.sv_loop.proofs.SaysInputs.{says_inputs, quiet, no_way, before_go}
use Rattle.sv_loop.proofs.SaysLong.{says_long}
use Rattle.sv_judge.specs.JournalPlaces.{Line, Stage, titles, walks_on, walked, journal_text, order_text, AllFit}
use Rattle.sv_judge.specs.JournalPlaces.Line.{Head, Said, Noted}
use Rattle.sv_judge.specs.JournalPlaces.Stage.{Fresh, Named, Long, Running}
use Rattle.sv_judge.specs.JournalPlaces.Verdict.{Stands, BadLine}
use Rattle.sv_judge.specs.JournalPlaces.Walked.{Reaches}
use Rattle.sv_loop.specs.Replaying.{Done}
use Rattle.sv_judge.specs.ShortHeader.{config_of, group_of, host_at}
use Rattle.sv_loop.specs.WholeJournal.Beginning.{Short as Of_programs, Long as Of_configuration}
use Rattle.sv_judge.specs.declared.long.LongPlace.TheVariants.{Titled}
use Rattle.sv_loop.specs.WholeJournal.{Entry, program_lines, entry_lines, inputs_in, groups_of, AllAccepted, SaysJournal, TellsDeeds, WritesDeeds}
use Rattle.sv_out.specs.declared.order.Order.{Order}

record SaysPrograms (groups : List GroupSpec) (lines : List Line) (m : Model) (given : List Order) : Type 0 where
  programs : List Programs_line
  start : ℕ
  entries : List Entry
  spelled : lines ≡ program_lines programs ++ Head (header_is.Go start) ∷ entry_lines entries
  accepted : AllAccepted (opening (config_of (groups_of groups programs)) [] (host_at start)) (inputs_in entries)
  state : m ≡ after (opening (config_of (groups_of groups programs)) [] (host_at start)) (inputs_in entries)
  orders_are : given ≡ deeds (opening (config_of (groups_of groups programs)) [] (host_at start)) (inputs_in entries)

says_go : (groups : List GroupSpec) (start : ℕ) (lines : List Line) (m : Model) (given : List Order)
    → walked (Named groups) (Head (header_is.Go start) ∷ lines) ≡ Reaches (Running m) given → SaysPrograms groups (Head (header_is.Go start) ∷ lines) m given
says_go [] start lines m given e = no_way m given e
says_go (group ∷ groups) start lines m given e =
    let first = opening (config_of (group ∷ groups)) [] (host_at start) in
    let said = says_inputs first lines (Running m) given (quiet (walked (Running first) lines) (Running m) given e) in
    let state : m ≡ after first (inputs_in said.entries) = let same = said.state in cc in
    record {
      programs = [];
      start = start;
      entries = said.entries;
      spelled = ap (λ ls. Head (header_is.Go start) ∷ ls) said.spelled;
      accepted = said.accepted;
      state = state;
      orders_are = said.orders_are;
    }

by_roster : (groups : List GroupSpec) (program : Programs_line) (lines : List Line) (m : Model) (given : List Order) (whole : Bool)
    → ((g : List Order) → walked (Named (with_group (group_of program) groups)) lines ≡ Reaches (Running m) g → SaysPrograms (with_group (group_of program) groups) lines m g)
    → walks_on (if whole then Stands (Named (with_group (group_of program) groups)) [] else BadLine) (λ n. walked n lines) ≡ Reaches (Running m) given
    → SaysPrograms groups (Head (header_is.Program program) ∷ lines) m given
by_roster groups program lines m given true later e =
    let rest = later given (quiet (walked (Named (with_group (group_of program) groups)) lines) (Running m) given e) in
    record {
      programs = program ∷ rest.programs;
      start = rest.start;
      entries = rest.entries;
      spelled = ap (λ ls. Head (header_is.Program program) ∷ ls) rest.spelled;
      accepted = rest.accepted;
      state = rest.state;
      orders_are = rest.orders_are;
    }
by_roster groups program lines m given false later e = no_way m given e

says_programs : (groups : List GroupSpec) (lines : List Line) (m : Model) (given : List Order)
    → walked (Named groups) lines ≡ Reaches (Running m) given → SaysPrograms groups lines m given
says_programs groups [] m given e = before_go (Named groups) tt m given e
says_programs groups (Said input ∷ lines) m given e = no_way m given e
says_programs groups (Noted order ∷ lines) m given e = no_way m given e
says_programs groups (Head (header_is.Journal version) ∷ lines) m given e = no_way m given e
says_programs groups (Head (header_is.Host other) ∷ lines) m given e = no_way m given e
says_programs groups (Head (header_is.Here other) ∷ lines) m given e = no_way m given e
says_programs groups (Head (header_is.Pid other) ∷ lines) m given e = no_way m given e
says_programs groups (Head (header_is.Env name value) ∷ lines) m given e = no_way m given e
says_programs groups (Head (header_is.Size file size) ∷ lines) m given e = no_way m given e
says_programs groups (Head (header_is.Conf text) ∷ lines) m given e = no_way m given e
says_programs groups (Head (header_is.Include name more) ∷ lines) m given e = no_way m given e
says_programs groups (Head (header_is.Go start) ∷ lines) m given e = says_go groups start lines m given e
says_programs groups (Head (header_is.Program program) ∷ lines) m given e =
    by_roster groups program lines m given (is_roster (with_group (group_of program) groups))
    (λ g reaches. says_programs (with_group (group_of program) groups) lines m g reaches) e

says_short : (lines : List Line) (m : Model) (given : List Order) → walked (Named []) lines ≡ Reaches (Running m) given
    → SaysJournal (Head (header_is.Journal 0) ∷ lines) m given
says_short lines m given e =
    let said = says_programs [] lines m given e in
    record {
      beginning = Of_programs said.programs said.start;
      first = opening (config_of (groups_of [] said.programs)) [] (host_at said.start);
      begins = refl;
      entries = said.entries;
      spelled = ap (λ (ls : List Line). Head (header_is.Journal 0) ∷ ls) said.spelled;
      accepted = said.accepted;
      state = said.state;
      orders = said.orders_are;
    }

says_configured : (lines : List Line) (m : Model) (given : List Order) → walked (Long Titled) lines ≡ Reaches (Running m) given
    → SaysJournal (Head (header_is.Journal 1) ∷ lines) m given
says_configured lines m given e =
    let said = says_long lines m given e in
    record {
      beginning = Of_configuration said.host said.sizes said.conf said.included;
      first = said.first;
      begins = said.begun;
      entries = said.entries;
      spelled = ap (λ (ls : List Line). Head (header_is.Journal 1) ∷ ls) said.spelled;
      accepted = said.accepted;
      state = said.state;
      orders = said.orders_are;
    }

says_title : (version : ℕ) (lines : List Line) (m : Model) (given : List Order)
    → walks_on (titles version) (λ next. walked next lines) ≡ Reaches (Running m) given → SaysJournal (Head (header_is.Journal version) ∷ lines) m given
says_title zero lines m given e = says_short lines m given (quiet (walked (Named []) lines) (Running m) given e)
says_title (suc zero) lines m given e = says_configured lines m given (quiet (walked (Long Titled) lines) (Running m) given e)
says_title (suc (suc version)) lines m given e = no_way m given e

pub says_journal : (lines : List Line) (m : Model) (given : List Order) → walked Fresh lines ≡ Reaches (Running m) given → SaysJournal lines m given
says_journal [] m given e = before_go Fresh tt m given e
says_journal (Said input ∷ lines) m given e = no_way m given e
says_journal (Noted order ∷ lines) m given e = no_way m given e
says_journal (Head (header_is.Journal version) ∷ lines) m given e = says_title version lines m given e
says_journal (Head (header_is.Program program) ∷ lines) m given e = no_way m given e
says_journal (Head (header_is.Host other) ∷ lines) m given e = no_way m given e
says_journal (Head (header_is.Here other) ∷ lines) m given e = no_way m given e
says_journal (Head (header_is.Pid other) ∷ lines) m given e = no_way m given e
says_journal (Head (header_is.Env name value) ∷ lines) m given e = no_way m given e
says_journal (Head (header_is.Size file size) ∷ lines) m given e = no_way m given e
says_journal (Head (header_is.Conf text) ∷ lines) m given e = no_way m given e
says_journal (Head (header_is.Include name more) ∷ lines) m given e = no_way m given e
says_journal (Head (header_is.Go start) ∷ lines) m given e = no_way m given e

pub tells_deeds : (lines : List Line) (at : Stage) (given : List Order) → walked Fresh lines ≡ Reaches at given → TellsDeeds lines at given
tells_deeds lines Fresh given e = (quiet_until lines Fresh Fresh given e tt).1
tells_deeds lines (Named groups) given e = (quiet_until lines Fresh (Named groups) given e tt).1
tells_deeds lines (Long place) given e = (quiet_until lines Fresh (Long place) given e tt).1
tells_deeds lines (Running m) given e = says_journal lines m given e

pub writes_deeds : (left left_after old new : Option (List ℕ)) → Done left left_after old new → WritesDeeds left left_after old new
writes_deeds left left_after old new done =
    let said = says_journal done.lines done.model done.given done.read.walks in
    let F : List Line → Type 0 = λ ls. AllFit ls in
    let C : List ℕ → Type 0 = λ bs. Consumes left left_after bs in
    let W : List Order → Type 0 = λ os. Appends old new (order_text os) in
    record {
      beginning = said.beginning;
      first = said.first;
      begins = said.begins;
      entries = said.entries;
      fit = subst F said.spelled done.read.fit;
      taken = subst C (done.read.spelled ∙ append-nil (journal_text done.lines) ∙ ap (λ (ls : List Line). journal_text ls) said.spelled) done.taken.consumed;
      at_end = done.at_end;
      accepted = said.accepted;
      wrote = subst W said.orders done.wrote;
    }
