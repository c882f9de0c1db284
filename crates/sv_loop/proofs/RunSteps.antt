-- The reader of a journal takes a part of a line, or a line, or stops at it.
use Rattle.std.proofs.Common.{◌≡◌, ℕ, ◌+◌, List, [], ◌∷◌, ◌++◌, false, ◌==◌, ◌≤◌, ◌<◌, inl, inr, Err, length, length-append, Option, refl, sym, ap, subst, ◌∙◌, append_assoc, append-nil, arith}
use Rattle.std.proofs.KnownBytes.{Appends-nil, Appends-trans}
use Rattle.std.specs.Io.KnownBytes.{Appends}
use Rattle.sv_journal.specs.Limits.{line_limit}
use Rattle.sv_loop.proofs.Walks.{journal_text_more, order_text_append, all_fit_more, walked_more}
use Rattle.sv_judge.specs.JournalPlaces.{Line, line_text, Stage, Verdict, journal_text, order_text, IsBadLine, IsNotAccepted, IsNotConfigured}
use Rattle.sv_judge.specs.JournalPlaces.Stage.{Fresh}
use Rattle.sv_judge.specs.JournalPlaces.Verdict.{NotConfigured as As_not_configured}
use Rattle.sv_judge.specs.Judging.{IsPlace, JudgedAs, LeadsTo}
use Rattle.sv_judge.specs.declared.judging.Refused.{Refused}
use Rattle.sv_judge.specs.declared.judging.Refused.TheVariants as refused_is
use Rattle.std.proofs.lemmas.List.Folds.{list_any-append}
use Rattle.sv_loop.specs.Reading.{Holds, has_feed, IsCut, IsRead, IsAt, GoesOn, AtFault, IsWhole, end_of, OutsideGrammar, UnacceptedLine, UnconfiguredLine, Anything, HalfWritten, StopsAt, Unwrote}
use Rattle.sv_judge.specs.declared.judging.JournalProgress.{JournalProgress}
use Rattle.sv_loop.specs.declared.run.End.{End}
use Rattle.sv_loop.specs.declared.run.End.TheVariants.{BadLine, NotAccepted, NotConfigured, NoMemory, SinkFailed}
use Rattle.sv_loop.specs.declared.run.Run.{Run}
use Rattle.sv_out.specs.Written.{AppendsFront}
use Rattle.sv_out.specs.declared.order.Order.{Order}

spelled_rest : (bytes front text rest : List ℕ) → bytes ≡ front ++ (text ++ []) → bytes ++ rest ≡ front ++ (text ++ rest)
spelled_rest bytes front text rest e = rw e (simp (append_assoc, append-nil))

spelled_line : (bytes front text : List ℕ) → bytes ≡ front ++ (text ++ []) → bytes ++ 10 ∷ [] ≡ (front ++ (text ++ 10 ∷ [])) ++ ([] ++ [])
spelled_line bytes front text e = rw e (simp (append_assoc, append-nil))

spelled_more : (bytes front text more : List ℕ) → bytes ≡ front ++ (text ++ []) → bytes ++ more ≡ front ++ ((text ++ more) ++ [])
spelled_more bytes front text more e = rw e (simp (append_assoc, append-nil))

-- the bytes up to the end of the line in hand, which is this line
line_spelled : (bytes text : List ℕ) (lines : List Line) (line : Line) → bytes ≡ journal_text lines ++ (text ++ []) → line_text line ≡ text
    → bytes ++ 10 ∷ [] ≡ journal_text (lines ++ line ∷ []) ++ ([] ++ [])
line_spelled bytes text lines line e spelled =
    spelled_line bytes (journal_text lines) text e
    ∙ ap (λ (f : List ℕ). f ++ ([] ++ []))
    (ap (λ (t : List ℕ). journal_text lines ++ (t ++ 10 ∷ [])) (sym spelled) ∙ sym (journal_text_more lines line))

-- what is held of a line is its text
pub holds_of : (run : Run) (lines : List Line) (at : Stage) (given : List Order) (bytes : List ℕ) → IsAt run lines at given bytes
    → Holds run.lines lines at given bytes run.line.items
holds_of run lines at given bytes is = record { read = is.read; short = is.short; count_is = is.count }

-- a line that lies whole after all that was taken
pub holds_line : (run : Run) (lines : List Line) (at : Stage) (given : List Order) (bytes text : List ℕ) → IsAt run lines at given bytes
    → run.line.items ≡ [] → has_feed text ≡ false → length text ≤ line_limit → Holds run.lines lines at given (bytes ++ text) text
holds_line run lines at given bytes text is empty unbroken short = record {
  read = record {
    walks = is.read.walks;
    fit = is.read.fit;
    spelled = rw (is.read.spelled, empty) (simp append-nil);
    unbroken = unbroken;
  };
  short = short;
  count_is = is.count;
}

pub stood : (count : ℕ) (later : Run) (lines : List Line) (at : Stage) (given : List Order) (bytes text : List ℕ) (place : JournalProgress) (orders : List Order)
    (old new : Option (List ℕ)) → Holds count lines at given bytes text → LeadsTo at text (IsPlace place) orders
    → later.place ≡ place → later.lines ≡ count + 1 → later.line.items ≡ [] → Appends old new (order_text orders)
    → GoesOn later (bytes ++ 10 ∷ []) given old new
stood count later lines at given bytes text place orders old new is leads placed counted empty wrote =
    let line = leads.leads.line in
    record {
      lines = lines ++ line ∷ [];
      at = leads.to;
      more = orders;
      is_at = record {
        read = record {
          walks = walked_more Fresh lines line at leads.to given orders is.read.walks leads.leads.stands;
          fit = all_fit_more lines line is.read.fit leads.leads.fits (rw leads.leads.spelled leads.leads.short);
          spelled =
              line_spelled bytes text lines line is.read.spelled leads.leads.spelled
              ∙ ap (λ (r : List ℕ). journal_text (lines ++ line ∷ []) ++ (r ++ [])) (sym empty);
          unbroken = rw empty refl;
        };
        short = rw empty (omega arith);
        count = omega (arith, counted, is.count_is, length-append lines (line ∷ []));
        place = rw placed leads.is_place;
      };
      wrote = wrote;
    }

pub at_fault : (count : ℕ) (later : Run) (Cause : Stage → List ℕ → List ℕ → Type 0) (lines : List Line) (at : Stage) (given : List Order)
    (bytes text rest : List ℕ) (old new : Option (List ℕ)) → Holds count lines at given bytes text → later.lines ≡ count → Cause at text rest
    → Appends old new [] → AtFault later Cause (bytes ++ rest) given old new
at_fault count later Cause lines at given bytes text rest old new is counted cause wrote = record {
  lines = lines;
  at = at;
  more = [];
  text = text;
  rest = rest;
  read = record {
    walks = rw (append-nil given) is.read.walks;
    fit = is.read.fit;
    spelled = spelled_rest bytes (journal_text lines) text rest is.read.spelled;
    unbroken = is.read.unbroken;
  };
  cause = cause;
  count = counted ∙ is.count_is;
  wrote = wrote;
}

unwritten : (count : ℕ) (lines : List Line) (at : Stage) (given : List Order) (bytes text : List ℕ) (place : JournalProgress) (orders : List Order)
    (old new : Option (List ℕ)) → Holds count lines at given bytes text → LeadsTo at text (IsPlace place) orders → AppendsFront old new (order_text orders)
    → HalfWritten (bytes ++ 10 ∷ []) given old new
unwritten count lines at given bytes text place orders old new is leads wrote =
    let line = leads.leads.line in
    record {
      lines = lines ++ line ∷ [];
      at = leads.to;
      more = orders;
      rest = [];
      read = record {
        walks = walked_more Fresh lines line at leads.to given orders is.read.walks leads.leads.stands;
        fit = all_fit_more lines line is.read.fit leads.leads.fits (rw leads.leads.spelled leads.leads.short);
        spelled = line_spelled bytes text lines line is.read.spelled leads.leads.spelled;
        unbroken = refl;
      };
      wrote = wrote;
    }

pub stopped_at_write : (end : End) (count : ℕ) (later : Run) (lines : List Line) (at : Stage) (given : List Order) (bytes text : List ℕ)
    (place : JournalProgress) (orders : List Order) (old new : Option (List ℕ)) → Holds count lines at given bytes text → LeadsTo at text (IsPlace place) orders
    → later.lines ≡ count → Unwrote end (order_text orders) old new → StopsAt end later (bytes ++ 10 ∷ []) given old new
stopped_at_write BadLine count later lines at given bytes text place orders old new is leads counted wrote = absurd wrote
stopped_at_write NotAccepted count later lines at given bytes text place orders old new is leads counted wrote = absurd wrote
stopped_at_write (NotConfigured fault) count later lines at given bytes text place orders old new is leads counted wrote = absurd wrote
stopped_at_write NoMemory count later lines at given bytes text place orders old new is leads counted wrote =
    at_fault count later Anything lines at given bytes text (10 ∷ []) old new is counted tt wrote
stopped_at_write SinkFailed count later lines at given bytes text place orders old new is leads counted wrote =
    unwritten count lines at given bytes text place orders old new is leads wrote

whole : IsWhole (10 ∷ [])
whole = record { behind = []; feed = refl }

pub misplaced : (count : ℕ) (later : Run) (lines : List Line) (at : Stage) (given : List Order) (bytes text : List ℕ) (same : Option (List ℕ))
    → Holds count lines at given bytes text → later.lines ≡ count → IsBadLine at text
    → AtFault later OutsideGrammar (bytes ++ 10 ∷ []) given same same
misplaced count later lines at given bytes text same is counted cause =
    at_fault count later OutsideGrammar lines at given bytes text (10 ∷ []) same same is counted (inl (whole, cause)) (Appends-nil same)

pub refused : (count : ℕ) (later : Run) (lines : List Line) (at : Stage) (given : List Order) (bytes text : List ℕ) (same : Option (List ℕ))
    → Holds count lines at given bytes text → later.lines ≡ count → IsNotAccepted at text
    → AtFault later UnacceptedLine (bytes ++ 10 ∷ []) given same same
refused count later lines at given bytes text same is counted cause =
    at_fault count later UnacceptedLine lines at given bytes text (10 ∷ []) same same is counted (whole, cause) (Appends-nil same)

pub unconfigured : (count : ℕ) (later : Run) (verdict : Verdict) (lines : List Line) (at : Stage) (given : List Order) (bytes text : List ℕ)
    (same : Option (List ℕ)) → Holds count lines at given bytes text → later.lines ≡ count → IsNotConfigured at text verdict
    → AtFault later (UnconfiguredLine verdict) (bytes ++ 10 ∷ []) given same same
unconfigured count later verdict lines at given bytes text same is counted cause =
    at_fault count later (UnconfiguredLine verdict) lines at given bytes text (10 ∷ []) same same is counted (whole, cause) (Appends-nil same)

pub no_memory : (count : ℕ) (later : Run) (lines : List Line) (at : Stage) (given : List Order) (bytes text more : List ℕ) (same : Option (List ℕ))
    → Holds count lines at given bytes text → later.lines ≡ count → AtFault later Anything (bytes ++ more) given same same
no_memory count later lines at given bytes text more same is counted =
    at_fault count later Anything lines at given bytes text more same same is counted tt (Appends-nil same)

-- a line that is refused
pub stopped_refused : (why : Refused) (count : ℕ) (later : Run) (orders : List Order) (Is : Stage → Type 0) (lines : List Line) (at : Stage) (given : List Order)
    (bytes text : List ℕ) (same : Option (List ℕ)) → Holds count lines at given bytes text → later.lines ≡ count → JudgedAs (Err why) orders Is at text
    → StopsAt (end_of why) later (bytes ++ 10 ∷ []) given same same
stopped_refused refused_is.BadLine count later orders Is lines at given bytes text same is counted judged =
    misplaced count later lines at given bytes text same is counted judged
stopped_refused refused_is.NotAccepted count later orders Is lines at given bytes text same is counted judged =
    refused count later lines at given bytes text same is counted judged
stopped_refused (refused_is.NotConfigured fault) count later orders Is lines at given bytes text same is counted judged =
    unconfigured count later (As_not_configured fault) lines at given bytes text same is counted judged
stopped_refused refused_is.NoMemory count later orders Is lines at given bytes text same is counted judged =
    no_memory count later lines at given bytes text (10 ∷ []) same is counted

-- the same of one that lies whole in the piece
pub refused_in_piece : (why : Refused) (run later : Run) (orders : List Order) (Is : Stage → Type 0) (lines : List Line) (at : Stage) (given : List Order)
    (bytes text : List ℕ) (same : Option (List ℕ)) → IsAt run lines at given bytes → run.line.items ≡ [] → has_feed text ≡ false → length text ≤ line_limit
    → later.lines ≡ run.lines → JudgedAs (Err why) orders Is at text → StopsAt (end_of why) later (bytes ++ (text ++ 10 ∷ [])) given same same
refused_in_piece why run later orders Is lines at given bytes text same is empty unbroken short counted judged =
    subst (λ (b : List ℕ). StopsAt (end_of why) later b given same same) (append_assoc bytes text (10 ∷ []))
    (stopped_refused why run.lines later orders Is lines at given (bytes ++ text) text same (holds_line run lines at given bytes text is empty unbroken short) counted judged)

no_feed : (text more : List ℕ) → has_feed text ≡ false → has_feed more ≡ false → has_feed (text ++ more) ≡ false
no_feed text more none others = list_any-append (λ (b : ℕ). b == 10) text more ∙ rw (none, others) refl

pub too_long : (run : Run) (lines : List Line) (at : Stage) (given : List Order) (bytes more : List ℕ) (same : Option (List ℕ))
    → IsAt run lines at given bytes → line_limit < length run.line.items + length more → has_feed more ≡ false
    → AtFault run OutsideGrammar (bytes ++ more) given same same
too_long run lines at given bytes more same is long other = record {
  lines = lines;
  at = at;
  more = [];
  text = run.line.items ++ more;
  rest = [];
  read = record {
    walks = rw (append-nil given) is.read.walks;
    fit = is.read.fit;
    spelled = spelled_more bytes (journal_text lines) run.line.items more is.read.spelled;
    unbroken = no_feed run.line.items more is.read.unbroken other;
  };
  cause = inr (omega (arith, long, length-append run.line.items more));
  count = is.count;
  wrote = Appends-nil same;
}

pub held_more : (run later : Run) (lines : List Line) (at : Stage) (given : List Order) (bytes more : List ℕ) (same : Option (List ℕ))
    → IsAt run lines at given bytes → later.place ≡ run.place → later.lines ≡ run.lines → later.line.items ≡ run.line.items ++ more
    → length run.line.items + length more ≤ line_limit → has_feed more ≡ false
    → GoesOn later (bytes ++ more) given same same
held_more run later lines at given bytes more same is placed count held room other = record {
  lines = lines;
  at = at;
  more = [];
  is_at = record {
    read = record {
      walks = rw (append-nil given) is.read.walks;
      fit = is.read.fit;
      spelled =
          spelled_more bytes (journal_text lines) run.line.items more is.read.spelled
          ∙ ap (λ (t : List ℕ). journal_text lines ++ (t ++ [])) (sym held);
      unbroken = rw held (no_feed run.line.items more is.read.unbroken other);
    };
    short = rw held (omega (arith, room, length-append run.line.items more));
    count = count ∙ is.count;
    place = rw placed is.place;
  };
  wrote = Appends-nil same;
}

wrote_both : (one two three : Option (List ℕ)) (first second : List Order) → Appends one two (order_text first) → Appends two three (order_text second)
    → Appends one three (order_text (first ++ second))
wrote_both one two three first second a b =
    rw (order_text_append first second) (Appends-trans one two three (order_text first) (order_text second) a b)

pub goes_further : (run later : Run) (bytes piece : List ℕ) (given : List Order) (one two three : Option (List ℕ))
    → GoesOn run bytes given one two
    → ((lines : List Line) (at : Stage) (g : List Order) (b : List ℕ) → IsAt run lines at g b → GoesOn later (b ++ piece) g two three)
    → GoesOn later (bytes ++ piece) given one three
goes_further run later bytes piece given one two three first step =
    let next = step first.lines first.at (given ++ first.more) bytes first.is_at in
    record {
      lines = next.lines;
      at = next.at;
      more = first.more ++ next.more;
      is_at = subst (λ (g : List Order). IsAt later next.lines next.at g (bytes ++ piece)) (append_assoc given first.more next.more) next.is_at;
      wrote = wrote_both one two three first.more next.more first.wrote next.wrote;
    }

pub read_later : (bytes more : List ℕ) (given other : List Order) (lines : List Line) (at : Stage) (text rest : List ℕ)
    → IsRead bytes given lines at text rest → given ≡ other → IsRead (bytes ++ more) other lines at text (rest ++ more)
read_later bytes more given other lines at text rest read same = record {
  walks = rw (← same) read.walks;
  fit = read.fit;
  spelled = rw read.spelled (simp append_assoc);
  unbroken = read.unbroken;
}

fault_later : (run : Run) (Cause : Stage → List ℕ → List ℕ → Type 0) (bytes more : List ℕ) (given earlier : List Order) (one two three : Option (List ℕ))
    → ((at : Stage) (text rest : List ℕ) → Cause at text rest → Cause at text (rest ++ more))
    → Appends one two (order_text earlier) → AtFault run Cause bytes (given ++ earlier) two three → AtFault run Cause (bytes ++ more) given one three
fault_later run Cause bytes more given earlier one two three cause_later wrote fault = record {
  lines = fault.lines;
  at = fault.at;
  more = earlier ++ fault.more;
  text = fault.text;
  rest = fault.rest ++ more;
  read = read_later bytes more _ _ fault.lines fault.at fault.text fault.rest fault.read (append_assoc given earlier fault.more);
  cause = cause_later fault.at fault.text fault.rest fault.cause;
  count = fault.count;
  wrote = wrote_both one two three earlier fault.more wrote fault.wrote;
}

wrote_front : (one two three : Option (List ℕ)) (first second : List Order) → Appends one two (order_text first) → AppendsFront two three (order_text second)
    → AppendsFront one three (order_text (first ++ second))
wrote_front one two three first second a b = record {
  front = order_text first ++ b.front;
  rest = b.rest;
  parts = order_text_append first second ∙ ap (λ (t : List ℕ). order_text first ++ t) b.parts ∙ sym (append_assoc (order_text first) b.front b.rest);
  appends = Appends-trans one two three (order_text first) b.front a b.appends;
}

whole_later : (rest more : List ℕ) → IsWhole rest → IsWhole (rest ++ more)
whole_later rest more w = record { behind = w.behind ++ more; feed = ap (λ (r : List ℕ). r ++ more) w.feed }

outside_later : (more : List ℕ) (at : Stage) (text rest : List ℕ) → OutsideGrammar at text rest → OutsideGrammar at text (rest ++ more)
outside_later more at text rest (inl w) = inl (whole_later rest more w.0, w.1)
outside_later more at text rest (inr long) = inr long

pub stops_further : (end : End) (run later : Run) (bytes piece more : List ℕ) (given : List Order) (one two three : Option (List ℕ))
    → GoesOn run bytes given one two
    → ((lines : List Line) (at : Stage) (g : List Order) (b : List ℕ) → IsAt run lines at g b → StopsAt end later (b ++ piece) g two three)
    → StopsAt end later ((bytes ++ piece) ++ more) given one three
stops_further BadLine run later bytes piece more given one two three first step =
    fault_later later OutsideGrammar (bytes ++ piece) more given first.more one two three (outside_later more) first.wrote
    (step first.lines first.at (given ++ first.more) bytes first.is_at)
stops_further NotAccepted run later bytes piece more given one two three first step =
    fault_later later UnacceptedLine (bytes ++ piece) more given first.more one two three (λ at text rest w. (whole_later rest more w.0, w.1)) first.wrote
    (step first.lines first.at (given ++ first.more) bytes first.is_at)
stops_further (NotConfigured fault) run later bytes piece more given one two three first step =
    fault_later later (UnconfiguredLine (As_not_configured fault)) (bytes ++ piece) more given first.more one two three
    (λ at text rest w. (whole_later rest more w.0, w.1)) first.wrote (step first.lines first.at (given ++ first.more) bytes first.is_at)
stops_further NoMemory run later bytes piece more given one two three first step =
    fault_later later Anything (bytes ++ piece) more given first.more one two three (λ at text rest w. tt) first.wrote
    (step first.lines first.at (given ++ first.more) bytes first.is_at)
stops_further SinkFailed run later bytes piece more given one two three first step =
    let half = step first.lines first.at (given ++ first.more) bytes first.is_at in
    record {
      lines = half.lines;
      at = half.at;
      more = first.more ++ half.more;
      rest = half.rest ++ more;
      read = read_later (bytes ++ piece) more _ _ half.lines half.at [] half.rest half.read (append_assoc given first.more half.more);
      wrote = wrote_front one two three first.more half.more first.wrote half.wrote;
    }

-- nothing more was read
pub goes_here : (run : Run) (lines : List Line) (at : Stage) (given : List Order) (bytes : List ℕ) (same : Option (List ℕ))
    → IsAt run lines at given bytes → GoesOn run bytes given same same
goes_here run lines at given bytes same is = record {
  lines = lines;
  at = at;
  more = [];
  is_at = rw (append-nil given) is;
  wrote = Appends-nil same;
}

-- the reading stopped within a line, whose line feed is there too
pub stops_in_line : (end : End) (run later : Run) (lines : List Line) (at : Stage) (given : List Order) (bytes text : List ℕ) (same : Option (List ℕ))
    → IsAt run lines at given bytes
    → ((l : List Line) (a : Stage) (g : List Order) (b : List ℕ) → IsAt run l a g b → StopsAt end later (b ++ text) g same same)
    → StopsAt end later (bytes ++ (text ++ 10 ∷ [])) given same same
stops_in_line end run later lines at given bytes text same is step =
    subst (λ (b : List ℕ). StopsAt end later b given same same) (append_assoc bytes text (10 ∷ []))
    (stops_further end run later bytes text (10 ∷ []) given same same same (goes_here run lines at given bytes same is) step)

-- the reading stopped at the line feed of a line
pub stops_at_feed : (end : End) (run later : Run) (bytes text : List ℕ) (given : List Order) (one two three : Option (List ℕ))
    → GoesOn run (bytes ++ text) given one two
    → ((l : List Line) (a : Stage) (g : List Order) (b : List ℕ) → IsAt run l a g b → StopsAt end later (b ++ 10 ∷ []) g two three)
    → StopsAt end later (bytes ++ (text ++ 10 ∷ [])) given one three
stops_at_feed end run later bytes text given one two three first step =
    subst (λ (b : List ℕ). StopsAt end later b given one three) (append-nil ((bytes ++ text) ++ 10 ∷ []) ∙ append_assoc bytes text (10 ∷ []))
    (stops_further end run later (bytes ++ text) (10 ∷ []) [] given one two three first step)

-- the reading went on past the line feed of a line
pub goes_past_feed : (run later : Run) (bytes text : List ℕ) (given : List Order) (one two three : Option (List ℕ))
    → GoesOn run (bytes ++ text) given one two
    → ((l : List Line) (a : Stage) (g : List Order) (b : List ℕ) → IsAt run l a g b → GoesOn later (b ++ 10 ∷ []) g two three)
    → GoesOn later (bytes ++ (text ++ 10 ∷ [])) given one three
goes_past_feed run later bytes text given one two three first step =
    subst (λ (b : List ℕ). GoesOn later b given one three) (append_assoc bytes text (10 ∷ []))
    (goes_further run later (bytes ++ text) (10 ∷ []) given one two three first step)

-- a piece is what was taken of it, the line that is cut off, and what is after
pub taken_to_line : (piece front rest line behind : List ℕ) → piece ≡ front ++ rest → IsCut rest line behind
    → piece ≡ (front ++ (line ++ 10 ∷ [])) ++ behind
taken_to_line piece front rest line behind split cut = rw (split, cut.is) (simp append_assoc)

pub bytes_to_line : (bytes piece front rest line behind : List ℕ) → piece ≡ front ++ rest → IsCut rest line behind
    → ((bytes ++ front) ++ (line ++ 10 ∷ [])) ++ behind ≡ bytes ++ piece
bytes_to_line bytes piece front rest line behind split cut = rw (split, cut.is) (simp append_assoc)

pub bytes_to_end : (bytes piece front rest : List ℕ) → piece ≡ front ++ rest → (bytes ++ front) ++ rest ≡ bytes ++ piece
bytes_to_end bytes piece front rest split = rw split (append_assoc bytes front rest)
