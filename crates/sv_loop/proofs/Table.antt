-- What was read and what was told make the table of statuses.
use Rattle.std.proofs.Common.{◌≡◌, ℕ, ◌+◌, ◌<◌, List, [], ◌∷◌, ◌++◌, ◌⊎◌, inl, inr, length, Option, refl, sym, ap, subst, ◌∙◌, append_assoc, append-nil, arith}
use Rattle.std.proofs.KnownBytes.{Appends-trans}
use Rattle.std.specs.Io.KnownBytes.{Appends, Consumes, IsAtEnd}
use Rattle.sv_core.specs.MachineState.{Model}
use Rattle.sv_judge.proofs.FoundLines.{before_go}
use Rattle.sv_loop.proofs.Quiet.{judged_before_go, quiet_until}
use Rattle.sv_judge.specs.JournalPlaces.{Line, Stage, Verdict, order_text}
use Rattle.sv_judge.specs.JournalPlaces.Stage.{Fresh, Named, Long, Running}
use Rattle.sv_judge.specs.JournalPlaces.Verdict.{NotConfigured as As_not_configured}
use Rattle.sv_judge.specs.Judging.{IsPlace}
use Rattle.sv_loop.specs.Reading.{IsRead, GoesOn, OutsideGrammar, UnacceptedLine, UnconfiguredLine, StopsAt}
use Rattle.sv_loop.specs.Replaying.{bad_line, not_accepted, configuration_fault, TellsWhy, Unconfigured, source_failed, too_long, EndsInLine, EndsTooEarly, Taken, Closed, Overfull, BreaksOff, line_behind, Replays, ReadOn, Ended}
use Rattle.sv_judge.specs.JournalPlaces.{IsBeforeGo}
use Rattle.sv_loop.specs.Telling.{Tells, TellsLine, TellsOf, TellsOfLine, TellsOfWhole}
use Rattle.sv_judge.specs.Judging.{IsRunning}
use Rattle.sv_judge.specs.declared.judging.JournalProgress.{JournalProgress}
use Rattle.sv_judge.specs.declared.judging.JournalProgress.TheVariants as place_is
use Rattle.sv_loop.specs.declared.replaying.Ending.{Ending}
use Rattle.sv_loop.specs.declared.replaying.Ending.TheVariants.{Whole, Broken, Full, Stopped}
use Rattle.sv_loop.specs.declared.replaying.Status.{Status}
use Rattle.sv_loop.specs.declared.replaying.Status.TheVariants as status_is
use Rattle.sv_loop.specs.declared.run.End.{End}
use Rattle.sv_loop.specs.declared.run.End.TheVariants.{BadLine, NotAccepted, NotConfigured, NoMemory, SinkFailed}
use Rattle.sv_loop.specs.declared.run.Run.{Run}
use Rattle.sv_out.specs.Written.{AppendsFront}
use Rattle.sv_out.specs.declared.order.Order.{Order}

closed : (one two : Option (List ℕ)) (Wrote : List ℕ → Type 0) (bytes : List ℕ) (given : List Order) (lines : List Line) (at : Stage) (text rest : List ℕ)
    (closing : List Line → List ℕ) (Cause : Stage → List ℕ → List ℕ → Type 0)
    → Taken one two bytes → IsRead bytes given lines at text rest → Cause at text rest → Wrote (order_text given ++ closing lines)
    → Closed one two Wrote closing Cause
closed one two Wrote bytes given lines at text rest closing Cause taken read cause wrote = record {
  bytes = bytes;
  taken = taken;
  lines = lines;
  at = at;
  given = given;
  text = text;
  rest = rest;
  read = read;
  cause = cause;
  wrote = wrote;
}

-- a text, and after it a prefix of another
front_behind : (old mid new : Option (List ℕ)) (first second : List ℕ) → Appends old mid first → AppendsFront mid new second
    → AppendsFront old new (first ++ second)
front_behind old mid new first second wrote part = record {
  front = first ++ part.front;
  rest = part.rest;
  parts = ap (λ (t : List ℕ). first ++ t) part.parts ∙ sym (append_assoc first part.front part.rest);
  appends = Appends-trans old mid new first part.front wrote part.appends;
}

breaks_off : (want : Status) (one two old new : Option (List ℕ)) → BreaksOff want one two (Appends old new) → Replays want one two old new
breaks_off status_is.Done one two old new row = absurd row
breaks_off status_is.SourceFailed one two old new row = row
breaks_off status_is.WordsRefused one two old new row = absurd row
breaks_off status_is.NoMemory one two old new row = row
breaks_off status_is.SinkFailed one two old new row = absurd row
breaks_off status_is.BadLine one two old new row = row
breaks_off status_is.NotConfigured one two old new row = row
breaks_off status_is.NotAccepted one two old new row = row
breaks_off status_is.TooLong one two old new row = row

told : (one two old mid new : Option (List ℕ)) (bytes : List ℕ) (given : List Order) (lines : List Line) (at : Stage) (text rest shown : List ℕ)
    (want got : Status) (closing : List Line → List ℕ) (Cause : Stage → List ℕ → List ℕ → Type 0)
    → Taken one two bytes → IsRead bytes given lines at text rest → Appends old mid (order_text given) → Cause at text rest
    → shown ≡ closing lines → ((Wrote : List ℕ → Type 0) → Closed one two Wrote closing Cause → BreaksOff want one two Wrote)
    → Tells shown want mid new got → Replays got one two old new
told one two old mid new bytes given lines at text rest shown want got closing Cause taken read wrote cause same row (inl full) =
    let P : List ℕ → Type 0 = λ t. Appends mid new t in
    rw full.0 (breaks_off want one two old new (row (Appends old new)
    (closed one two (Appends old new) bytes given lines at text rest closing Cause taken read cause
    (Appends-trans old mid new (order_text given) (closing lines) wrote (subst P same full.1)))))
told one two old mid new bytes given lines at text rest shown want got closing Cause taken read wrote cause same row (inr part) =
    let P : List ℕ → Type 0 = λ t. AppendsFront mid new t in
    rw part.0 (record {
      other = want;
      row = row (AppendsFront old new) (closed one two (AppendsFront old new) bytes given lines at text rest closing Cause taken read cause
          (front_behind old mid new (order_text given) (closing lines) wrote (subst P same part.1)));
    })

told_line : (one two old mid new : Option (List ℕ)) (bytes : List ℕ) (given : List Order) (lines : List Line) (at : Stage) (text rest shown : List ℕ)
    (want got : Status) (closing : List Line → List ℕ) (Cause : Stage → List ℕ → List ℕ → Type 0)
    → Taken one two bytes → IsRead bytes given lines at text rest → Appends old mid (order_text given) → Cause at text rest
    → shown ≡ closing lines → ((Wrote : List ℕ → Type 0) → Closed one two Wrote closing Cause → BreaksOff want one two Wrote)
    → TellsLine shown want mid new got → Replays got one two old new
told_line one two old mid new bytes given lines at text rest shown want got closing Cause taken read wrote cause same row (inl tells) =
    told one two old mid new bytes given lines at text rest shown want got closing Cause taken read wrote cause same row tells
told_line one two old mid new bytes given lines at text rest shown want got closing Cause taken read wrote cause same row (inr none) =
    rw none.0 (closed one two (Appends old new) bytes given lines at text rest (λ l. []) (λ a t r. Unit {0}) taken read tt
    (Appends-trans old mid new (order_text given) [] wrote none.1))

running_stage : (place : JournalProgress) (at : Stage) → IsPlace place at → IsRunning place → (m : Model) × (at ≡ Running m)
running_stage place_is.Fresh at is running = absurd running
running_stage (place_is.Named groups) at is running = absurd running
running_stage (place_is.Long long) at is running = absurd running
running_stage (place_is.Running machine) Fresh is running = absurd is
running_stage (place_is.Running machine) (Named groups) is running = absurd is
running_stage (place_is.Running machine) (Long place) is running = absurd is
running_stage (place_is.Running machine) (Running m) is running = (m, refl)

too_early : (text : List ℕ) (place : JournalProgress) (at : Stage) → IsPlace place at → ((text ≡ []) × IsRunning place → ⊥) → (0 < length text) ⊎ IsBeforeGo at
too_early [] place at is not_whole = inr (before_go place at is (λ running. not_whole (refl, running)))
too_early (b ∷ bs) place at is not_whole = inl (omega arith)

whole_table : (run : Run) (one two old mid new : Option (List ℕ)) (got : Status) → ReadOn run one two old mid → IsAtEnd two
    → TellsOfWhole run mid new got → Replays got one two old new
whole_table run one two old mid new got reads at_end (inl whole) =
    let goes = reads.goes in
    let stage = running_stage run.place goes.at goes.is_at.place whole.2 in
    let P : Stage → Type 0 = λ a. IsRead reads.bytes goes.more goes.lines a [] [] in
    let Q : List ℕ → Type 0 = λ t. IsRead reads.bytes goes.more goes.lines goes.at t [] in
    let R : List ℕ → Type 0 = λ t. Appends old new t in
    rw whole.0 (record {
      bytes = reads.bytes;
      taken = reads.taken;
      at_end = at_end;
      lines = goes.lines;
      model = stage.0;
      given = goes.more;
      read = subst P stage.1 (subst Q whole.1 goes.is_at.read);
      wrote = subst R (append-nil (order_text goes.more)) (Appends-trans old mid new (order_text goes.more) [] goes.wrote whole.3);
    })
whole_table run one two old mid new got reads at_end (inr early) =
    let goes = reads.goes in
    told_line one two old mid new reads.bytes goes.more goes.lines goes.at run.line.items [] (bad_line (run.lines + 1)) status_is.BadLine got
    (line_behind bad_line) (λ at text rest. OutsideGrammar at text rest ⊎ EndsTooEarly two at text rest)
    reads.taken goes.is_at.read goes.wrote
    (inr (record { at_end = at_end; nothing_behind = refl; cause = too_early run.line.items run.place goes.at goes.is_at.place early.0 }))
    (ap (λ (n : ℕ). bad_line (n + 1)) goes.is_at.count) (λ W c. c) early.1

half_kept : (one two three : Option (List ℕ)) (text : List ℕ) → AppendsFront one two text → Appends two three [] → AppendsFront one three (text ++ [])
half_kept one two three text part kept =
    let P : List ℕ → Type 0 = λ t. Appends one three t in
    record {
      front = part.front;
      rest = part.rest;
      parts = append-nil text ∙ part.parts;
      appends = subst P (append-nil part.front) (Appends-trans one two three part.front [] part.appends kept);
    }

-- no order was given before a configuration is judged
unconfigured_row : (one two : Option (List ℕ)) (Wrote : List ℕ → Type 0) (shown : List ℕ) (verdict : Verdict) → TellsWhy verdict shown
    → Closed one two Wrote (λ lines. shown) (UnconfiguredLine verdict) → Unconfigured one two Wrote
unconfigured_row one two Wrote shown verdict why c =
    let u = c.cause.1 in
    let none = (quiet_until c.lines Fresh c.at c.given c.read.walks (judged_before_go c.at u.header verdict shown u.judged_so why)).1 in
    let P : List Order → Type 0 = λ os. IsRead c.bytes os c.lines c.at c.text c.rest in
    let Q : List Order → Type 0 = λ os. Wrote (order_text os ++ shown) in
    record {
      bytes = c.bytes;
      taken = c.taken;
      lines = c.lines;
      at = c.at;
      text = c.text;
      rest = c.rest;
      read = subst P none c.read;
      verdict = verdict;
      cause = c.cause;
      closing = shown;
      why = why;
      wrote = subst Q none c.wrote;
    }

line_table : (end : End) (run : Run) (one two old mid new : Option (List ℕ)) (got : Status) (bytes : List ℕ) → Taken one two bytes
    → StopsAt end run bytes [] old mid → TellsOfLine end run mid new got → Replays got one two old new
line_table BadLine run one two old mid new got bytes taken stops tells =
    told_line one two old mid new bytes stops.more stops.lines stops.at stops.text stops.rest (bad_line (run.lines + 1)) status_is.BadLine got
    (line_behind bad_line) (λ at text rest. OutsideGrammar at text rest ⊎ EndsTooEarly two at text rest)
    taken stops.read stops.wrote (inl stops.cause) (ap (λ (n : ℕ). bad_line (n + 1)) stops.count) (λ W c. c) tells
line_table NotAccepted run one two old mid new got bytes taken stops tells =
    told_line one two old mid new bytes stops.more stops.lines stops.at stops.text stops.rest (not_accepted (run.lines + 1)) status_is.NotAccepted got
    (line_behind not_accepted) UnacceptedLine
    taken stops.read stops.wrote stops.cause (ap (λ (n : ℕ). not_accepted (n + 1)) stops.count) (λ W c. c) tells
line_table (NotConfigured fault) run one two old mid new got bytes taken stops tells =
    let shown = configuration_fault fault in
    told_line one two old mid new bytes stops.more stops.lines stops.at stops.text stops.rest shown status_is.NotConfigured got
    (λ lines. shown) (UnconfiguredLine (As_not_configured fault)) taken stops.read stops.wrote stops.cause refl
    (λ W c. unconfigured_row one two W shown (As_not_configured fault) refl c) tells
line_table NoMemory run one two old mid new got bytes taken stops tells =
    rw tells.0 (closed one two (Appends old new) bytes stops.more stops.lines stops.at stops.text stops.rest (λ l. []) (λ a t r. Unit {0})
    taken stops.read tt (Appends-trans old mid new (order_text stops.more) [] stops.wrote tells.1))
line_table SinkFailed run one two old mid new got bytes taken stops tells =
    rw tells.0 (record {
      other = status_is.NoMemory;
      row = closed one two (AppendsFront old new) bytes stops.more stops.lines stops.at [] stops.rest (λ l. []) (λ a t r. Unit {0})
          taken stops.read tt (half_kept old mid new (order_text stops.more) stops.wrote tells.1);
    })

overfull : (run : Run) (one two old mid : Option (List ℕ)) (Wrote : List ℕ → Type 0) (bytes : List ℕ) (more : ℕ) → Consumes one two (bytes ++ more ∷ [])
    → length bytes ≡ 67108864 → (goes : GoesOn run bytes [] old mid) → Wrote (order_text goes.more ++ too_long) → Overfull one two Wrote
overfull run one two old mid Wrote bytes more consumed size goes wrote = record {
  bytes = bytes;
  one_more = more;
  consumed = consumed;
  size = size;
  lines = goes.lines;
  at = goes.at;
  given = goes.more;
  text = run.line.items;
  short = goes.is_at.short;
  read = goes.is_at.read;
  wrote = wrote;
}

full_table : (run : Run) (one two old mid new : Option (List ℕ)) (got : Status) (bytes : List ℕ) (more : ℕ) → Consumes one two (bytes ++ more ∷ [])
    → length bytes ≡ 67108864 → GoesOn run bytes [] old mid → Tells too_long status_is.TooLong mid new got → Replays got one two old new
full_table run one two old mid new got bytes more consumed size goes (inl full) =
    rw full.0 (overfull run one two old mid (Appends old new) bytes more consumed size goes
    (Appends-trans old mid new (order_text goes.more) too_long goes.wrote full.1))
full_table run one two old mid new got bytes more consumed size goes (inr part) =
    rw part.0 (record {
      other = status_is.TooLong;
      row = overfull run one two old mid (AppendsFront old new) bytes more consumed size goes
          (front_behind old mid new (order_text goes.more) too_long goes.wrote part.1);
    })

pub table : (ending : Ending) (run : Run) (one two old mid new : Option (List ℕ)) (got : Status)
    → Ended ending run one two old mid → TellsOf ending run mid new got → Replays got one two old new
table Whole run one two old mid new got ended tells = whole_table run one two old mid new got ended.0 ended.1 tells
table Broken run one two old mid new got ended tells =
    let goes = ended.goes in
    told one two old mid new ended.bytes goes.more goes.lines goes.at run.line.items [] source_failed status_is.SourceFailed got
    (λ lines. source_failed) EndsInLine ended.taken goes.is_at.read goes.wrote
    (record { nothing_behind = refl; short = goes.is_at.short }) refl (λ W c. c) tells
table Full run one two old mid new got ended tells = full_table run one two old mid new got ended.0 ended.1 ended.2 ended.3 ended.4 tells
table (Stopped end) run one two old mid new got ended tells = line_table end run one two old mid new got ended.0 ended.1 ended.2 tells
