-- A good journal is cut into lines in one way, so no row of a line at fault fits it.
use Rattle.std.proofs.Common.{◌≡◌, ℕ, ◌≤◌, ◌<◌, ◌+◌, List, [], ◌∷◌, ◌++◌, Bool, true, false, ◌==◌, ◌||◌, ◌⊎◌, inl, inr, length, Option, Some, None, refl, sym, ap, subst, ◌∙◌, append_assoc, append-nil, arith, length-append}
use Rattle.std.specs.Io.KnownBytes.{Consumes}
use Rattle.std.specs.Prelude.{codes}
use Rattle.sv_core.specs.MachineState.{Model}
use Rattle.sv_journal.proofs.NoLineFeed.{plain_input, plain_header}
use Rattle.sv_journal.proofs.Marks.{marked_input}
use Rattle.sv_journal.proofs.OneMeaning.{one_input, one_header}
use Rattle.sv_journal.proofs.PlainOrders.{one_order, plain_order}
use Rattle.sv_journal.specs.JournalLine.{order_line}
use Rattle.sv_journal.specs.Limits.{line_limit}
use Rattle.sv_journal.specs.declared.header.Header.{Header}
use Rattle.sv_judge.proofs.Headers.{no_header_behind_go}
use Rattle.sv_judge.specs.JournalPlaces.{Line, line_text, FitsLine, Stage, Verdict, heads, judged, Walked, behind, walks_on, walked, journal_text, AllFit, IsBadLine, IsNotAccepted, IsNotConfigured}
use Rattle.sv_judge.specs.JournalPlaces.Line.{Head, Said, Noted}
use Rattle.sv_judge.specs.JournalPlaces.Stage.{Fresh, Named, Long, Running}
use Rattle.sv_judge.specs.JournalPlaces.Verdict.{Stands, BadLine, NotAccepted, NotConfigured}
use Rattle.sv_judge.specs.JournalPlaces.Walked.{Reaches, Stops}
use Rattle.sv_loop.specs.Reading.{has_feed, IsRead, IsWhole, OutsideGrammar, UnacceptedLine, UnconfiguredLine}
use Rattle.sv_loop.specs.Replaying.{EndsTooEarly, Replays, TellsWhy, journal_limit, status_number}
use Rattle.sv_judge.specs.JournalPlaces.{IsBeforeGo}
use Rattle.sv_loop.specs.WholeJournal.{HoldsGoodJournal, IsDoneOrHindered}
use Rattle.sv_loop.specs.WholeJournal.IsDoneOrHindered.{Is_done, Source_failed, No_memory, Sink_failed}
use Rattle.sv_loop.specs.declared.replaying.Status.{Status}
use Rattle.sv_loop.specs.declared.replaying.Status.TheVariants as status
use Rattle.sv_out.specs.declared.order.Order.{Order}

pub plain_line : (line : Line) → FitsLine line → has_feed (line_text line) ≡ false
plain_line (Head header) fits = plain_header header fits
plain_line (Said input) fits = plain_input input fits
plain_line (Noted order) fits = plain_order order fits

or_right : (one other : Bool) → (one || other) ≡ false → other ≡ false
or_right false other e = e
or_right true other e = cc

begins_with_feed : (c : ℕ) (bytes : List ℕ) → 10 ≡ c → has_feed (c ∷ bytes) ≡ false → ⊥
begins_with_feed c bytes same none =
    let hit : true ≡ false = subst (λ (z : ℕ). has_feed (z ∷ bytes) ≡ false) (sym same) none in cc

pub feed_in : (front back : List ℕ) → has_feed (front ++ 10 ∷ back) ≡ false → ⊥
feed_in [] back none = cc
feed_in (c ∷ front) back none = feed_in front back (or_right (c == 10) (has_feed (front ++ 10 ∷ back)) none)

pub not_empty : (front back : List ℕ) → [] ≡ front ++ 10 ∷ back → ⊥
not_empty [] back e = cc
not_empty (c ∷ front) back e = cc

pub same_front : (one other x y : List ℕ) → has_feed one ≡ false → has_feed other ≡ false → one ++ 10 ∷ x ≡ other ++ 10 ∷ y → (one ≡ other) × (x ≡ y)
same_front [] [] x y p q e = (refl, cc)
same_front [] (d ∷ other) x y p q e = let same : 10 ≡ d = cc in absurd (begins_with_feed d other same q)
same_front (c ∷ one) [] x y p q e = let same : 10 ≡ c = cc in absurd (begins_with_feed c one same p)
same_front (c ∷ one) (d ∷ other) x y p q e =
    let same : one ++ 10 ∷ x ≡ other ++ 10 ∷ y = cc in
    let rest = same_front one other x y (or_right (c == 10) (has_feed one) p) (or_right (d == 10) (has_feed other) q) same in
    let first : c ≡ d = cc in
    (rw (first, rest.0) refl, rest.1)

-- a text without a line feed goes no further than the line
pub no_longer : (text x line y : List ℕ) → has_feed text ≡ false → line ++ 10 ∷ y ≡ text ++ x → length text ≤ length line
no_longer [] x line y none e = omega arith
no_longer (c ∷ text) x [] y none e = let same : 10 ≡ c = cc in absurd (begins_with_feed c text same none)
no_longer (c ∷ text) x (d ∷ line) y none e =
    let same : line ++ 10 ∷ y ≡ text ++ x = cc in
    let rest : length text ≤ length line = no_longer text x line y (or_right (c == 10) (has_feed text) none) same in omega arith

pub no_head : (m : Model) (header : Header) (to : Stage) (given : List Order) → heads (Running m) header ≡ Stands to given → ⊥
no_head m header to given e = let both : BadLine ≡ Stands to given = sym (no_header_behind_go m header) ∙ e in cc

behind_mark : (one other : List ℕ) → codes "> " ++ one ≡ codes "> " ++ other → one ≡ other
behind_mark one other e = cc

pub same_line : (at to onto : Stage) (given more : List Order) (one other : Line) → FitsLine one → FitsLine other → line_text one ≡ line_text other
    → judged at one ≡ Stands to given → judged at other ≡ Stands onto more → one ≡ other
same_line Fresh to onto given more (Head one) (Head other) f g e p q = ap Head (one_header one other f g e)
same_line Fresh to onto given more (Head one) (Said other) f g e p q = cc
same_line Fresh to onto given more (Head one) (Noted other) f g e p q = cc
same_line Fresh to onto given more (Said one) other f g e p q = cc
same_line Fresh to onto given more (Noted one) other f g e p q = cc
same_line (Named groups) to onto given more (Head one) (Head other) f g e p q = ap Head (one_header one other f g e)
same_line (Named groups) to onto given more (Head one) (Said other) f g e p q = cc
same_line (Named groups) to onto given more (Head one) (Noted other) f g e p q = cc
same_line (Named groups) to onto given more (Said one) other f g e p q = cc
same_line (Named groups) to onto given more (Noted one) other f g e p q = cc
same_line (Long place) to onto given more (Head one) (Head other) f g e p q = ap Head (one_header one other f g e)
same_line (Long place) to onto given more (Head one) (Said other) f g e p q = cc
same_line (Long place) to onto given more (Head one) (Noted other) f g e p q = cc
same_line (Long place) to onto given more (Said one) other f g e p q = cc
same_line (Long place) to onto given more (Noted one) other f g e p q = cc
same_line (Running m) to onto given more (Head one) other f g e p q = absurd (no_head m one to given p)
same_line (Running m) to onto given more (Said one) (Head other) f g e p q = absurd (no_head m other onto more q)
same_line (Running m) to onto given more (Said one) (Said other) f g e p q = ap Said (one_input one other f g e)
same_line (Running m) to onto given more (Said one) (Noted other) f g e p q = absurd (marked_input one (order_line other) f e)
same_line (Running m) to onto given more (Noted one) (Head other) f g e p q = absurd (no_head m other onto more q)
same_line (Running m) to onto given more (Noted one) (Said other) f g e p q = absurd (marked_input other (order_line one) g (sym e))
same_line (Running m) to onto given more (Noted one) (Noted other) f g e p q = ap Noted (one_order one other f g (behind_mark (order_line one) (order_line other) e))

-- the first line of a walk stands
pub record Step (at : Stage) (line : Line) (lines : List Line) (last : Stage) : Type 0 where
  pub to : Stage
  pub given : List Order
  pub stands : judged at line ≡ Stands to given
  pub more : List Order
  pub walks : walked to lines ≡ Reaches last more

step_in : (at to : Stage) (line : Line) (lines : List Line) (last : Stage) (given all : List Order) (onward : Walked)
    → judged at line ≡ Stands to given → walked to lines ≡ onward → behind given onward ≡ Reaches last all → Step at line lines last
step_in at to line lines last given all (Reaches there more) stands walks e =
    let same : there ≡ last = cc in
    record { to = to; given = given; stands = stands; more = more; walks = walks ∙ ap (λ (s : Stage). Reaches s more) same }
step_in at to line lines last given all Stops stands walks e = cc

pub step_of : (verdict : Verdict) (at : Stage) (line : Line) (lines : List Line) (last : Stage) (all : List Order)
    → judged at line ≡ verdict → walks_on verdict (λ next. walked next lines) ≡ Reaches last all → Step at line lines last
step_of (Stands to given) at line lines last all stands e = step_in at to line lines last given all (walked to lines) stands refl e
step_of BadLine at line lines last all stands e = cc
step_of NotAccepted at line lines last all stands e = cc
step_of (NotConfigured fault) at line lines last all stands e = cc

-- from this place on, the bytes are a good journal
record Onward (at : Stage) (bytes : List ℕ) : Type 0 where
  lines : List Line
  fit : AllFit lines
  model : Model
  given : List Order
  walks : walked at lines ≡ Reaches (Running model) given
  spelled : journal_text lines ≡ bytes

onward_from : (lines : List Line) (at last : Stage) (got : List Order) (good : List Line) (m : Model) (given : List Order) (rest : List ℕ)
    → AllFit lines → walked at lines ≡ Reaches last got → AllFit good → walked at good ≡ Reaches (Running m) given
    → journal_text good ≡ journal_text lines ++ rest → Onward last rest
onward_from [] at last got good m given rest fit walks fits goes e =
    let there : at ≡ last = cc in
    record {
      lines = good;
      fit = fits;
      model = m;
      given = given;
      walks = subst (λ (s : Stage). walked s good ≡ Reaches (Running m) given) there goes;
      spelled = e;
    }
onward_from (line ∷ lines) at last got [] m given rest fit walks fits goes e =
    absurd (not_empty (line_text line) (journal_text lines ++ rest)
    (e ∙ ap (λ (z : List ℕ). z ++ rest) (append_assoc (line_text line) (10 ∷ []) (journal_text lines))
    ∙ append_assoc (line_text line) (10 ∷ journal_text lines) rest))
onward_from (line ∷ lines) at last got (good ∷ goods) m given rest fit walks fits goes e =
    let s = step_of (judged at line) at line lines last got refl walks in
    let t = step_of (judged at good) at good goods (Running m) given refl goes in
    let joined : line_text good ++ 10 ∷ journal_text goods ≡ line_text line ++ 10 ∷ (journal_text lines ++ rest) =
    sym (append_assoc (line_text good) (10 ∷ []) (journal_text goods)) ∙ e
    ∙ ap (λ (z : List ℕ). z ++ rest) (append_assoc (line_text line) (10 ∷ []) (journal_text lines))
    ∙ append_assoc (line_text line) (10 ∷ journal_text lines) rest in
    let same = same_front (line_text good) (line_text line) (journal_text goods) (journal_text lines ++ rest)
    (plain_line good fits.0) (plain_line line fit.0) joined in
    let one : line ≡ good = same_line at s.to t.to s.given t.given line good fit.0 fits.0 (sym same.0) s.stands t.stands in
    let stood : Stands s.to s.given ≡ Stands t.to t.given = sym s.stands ∙ ap (judged at) one ∙ t.stands in
    let next : s.to ≡ t.to = cc in
    onward_from lines s.to last s.more goods m t.more rest fit.2 s.walks fits.2
    (subst (λ (z : Stage). walked z goods ≡ Reaches (Running m) t.more) (sym next) t.walks) same.1

-- the next whole line stands
pub record Stood (at : Stage) (text : List ℕ) : Type 0 where
  pub line : Line
  pub fits : FitsLine line
  pub short : length (line_text line) ≤ line_limit
  pub spelled : line_text line ≡ text
  pub to : Stage
  pub given : List Order
  pub stands : judged at line ≡ Stands to given

stood : (lines : List Line) (at : Stage) (m : Model) (given : List Order) (text back : List ℕ) → AllFit lines
    → walked at lines ≡ Reaches (Running m) given → has_feed text ≡ false → journal_text lines ≡ text ++ 10 ∷ back → Stood at text
stood [] at m given text back fit walks none e = absurd (not_empty text back e)
stood (line ∷ lines) at m given text back fit walks none e =
    let s = step_of (judged at line) at line lines (Running m) given refl walks in
    let same = same_front (line_text line) text (journal_text lines) back (plain_line line fit.0) none
    (sym (append_assoc (line_text line) (10 ∷ []) (journal_text lines)) ∙ e) in
    record { line = line; fits = fit.0; short = fit.1; spelled = same.0; to = s.to; given = s.given; stands = s.stands }

not_long : (lines : List Line) (text x : List ℕ) → AllFit lines → has_feed text ≡ false → journal_text lines ≡ text ++ x → length text ≤ line_limit
not_long [] [] x fit none e = omega arith
not_long [] (c ∷ text) x fit none e = cc
not_long (line ∷ lines) text x fit none e =
    let within : length text ≤ length (line_text line) =
    no_longer text x (line_text line) (journal_text lines) none (sym (append_assoc (line_text line) (10 ∷ []) (journal_text lines)) ∙ e) in
    let short : length (line_text line) ≤ line_limit = fit.1 in
    omega arith

pub stands_not : (at : Stage) (text : List ℕ) → Stood at text → IsBadLine at text → ⊥
stands_not at text s misplaced =
    let lost : judged at s.line ≡ BadLine = misplaced s.line s.fits s.spelled (subst (λ (t : List ℕ). length t ≤ line_limit) s.spelled s.short) in
    let stands = s.stands in
    let both : Stands s.to s.given ≡ BadLine = sym stands ∙ lost in cc

pub never_refused : (at : Stage) (text : List ℕ) (line : Line) (to : Stage) (given : List Order) → FitsLine line → line_text line ≡ text
    → judged at line ≡ Stands to given → IsNotAccepted at text → ⊥
never_refused Fresh text line to given fits spelled stands r = let no = r.refused in cc
never_refused (Named groups) text line to given fits spelled stands r = let no = r.refused in cc
never_refused (Long place) text line to given fits spelled stands r = let no = r.refused in cc
never_refused (Running m) text (Head header) to given fits spelled stands r = no_head m header to given stands
never_refused (Running m) text (Said input) to given fits spelled stands r =
    let same : r.input ≡ input = one_input r.input input r.fits fits (r.spelled ∙ sym spelled) in
    let no : judged (Running m) (Said input) ≡ NotAccepted = ap (λ i. judged (Running m) (Said i)) (sym same) ∙ r.refused in
    let both : Stands to given ≡ NotAccepted = sym stands ∙ no in cc
never_refused (Running m) text (Noted order) to given fits spelled stands r =
    marked_input r.input (order_line order) r.fits (r.spelled ∙ sym spelled)

pub whole_line : (text rest left : List ℕ) (w : IsWhole rest) → (text ++ rest) ++ left ≡ text ++ 10 ∷ (w.behind ++ left)
whole_line text rest left w =
    append_assoc text rest left ∙ ap (λ (z : List ℕ). text ++ (z ++ left)) w.feed

outside : (at : Stage) (text rest left : List ℕ) → has_feed text ≡ false → Onward at ((text ++ rest) ++ left) → OutsideGrammar at text rest → ⊥
outside at text rest left none on (inl (whole, misplaced)) =
    stands_not at text (stood on.lines at on.model on.given text (whole.behind ++ left) on.fit on.walks none (on.spelled ∙ whole_line text rest left whole)) misplaced
outside at text rest left none on (inr long) =
    let short : length text ≤ line_limit = not_long on.lines text (rest ++ left) on.fit none (on.spelled ∙ append_assoc text rest left) in
    omega arith

refused : (at : Stage) (text rest left : List ℕ) → has_feed text ≡ false → Onward at ((text ++ rest) ++ left) → UnacceptedLine at text rest → ⊥
refused at text rest left none on (whole, r) =
    let s = stood on.lines at on.model on.given text (whole.behind ++ left) on.fit on.walks none (on.spelled ∙ whole_line text rest left whole) in
    never_refused at text s.line s.to s.given s.fits s.spelled s.stands r

pub why_stands : (verdict : Verdict) (to : Stage) (given : List Order) (closing : List ℕ) → verdict ≡ Stands to given → TellsWhy verdict closing → ⊥
why_stands verdict to given closing e why = subst (λ (v : Verdict). TellsWhy v closing) e why

pub why_misplaced : (verdict : Verdict) (closing : List ℕ) → verdict ≡ BadLine → TellsWhy verdict closing → ⊥
why_misplaced verdict closing e why = subst (λ (v : Verdict). TellsWhy v closing) e why

pub never_unconfigured : (at : Stage) (text closing : List ℕ) (verdict : Verdict) (line : Line) (to : Stage) (given : List Order) → FitsLine line → line_text line ≡ text
    → judged at line ≡ Stands to given → IsNotConfigured at text verdict → TellsWhy verdict closing → ⊥
never_unconfigured at text closing verdict (Head header) to given fits spelled stands u why =
    let same : u.header ≡ header = one_header u.header header u.fits fits (u.spelled ∙ sym spelled) in
    why_stands verdict to given closing (sym u.judged_so ∙ ap (heads at) same ∙ stands) why
never_unconfigured Fresh text closing verdict (Said input) to given fits spelled stands u why = cc
never_unconfigured Fresh text closing verdict (Noted order) to given fits spelled stands u why = cc
never_unconfigured (Named groups) text closing verdict (Said input) to given fits spelled stands u why = cc
never_unconfigured (Named groups) text closing verdict (Noted order) to given fits spelled stands u why = cc
never_unconfigured (Long place) text closing verdict (Said input) to given fits spelled stands u why = cc
never_unconfigured (Long place) text closing verdict (Noted order) to given fits spelled stands u why = cc
never_unconfigured (Running m) text closing verdict (Said input) to given fits spelled stands u why =
    why_misplaced verdict closing (sym u.judged_so ∙ no_header_behind_go m u.header) why
never_unconfigured (Running m) text closing verdict (Noted order) to given fits spelled stands u why =
    why_misplaced verdict closing (sym u.judged_so ∙ no_header_behind_go m u.header) why

unconfigured : (at : Stage) (text rest left closing : List ℕ) (verdict : Verdict) → has_feed text ≡ false → Onward at ((text ++ rest) ++ left)
    → UnconfiguredLine verdict at text rest → TellsWhy verdict closing → ⊥
unconfigured at text rest left closing verdict none on (whole, u) why =
    let s = stood on.lines at on.model on.given text (whole.behind ++ left) on.fit on.walks none (on.spelled ∙ whole_line text rest left whole) in
    never_unconfigured at text closing verdict s.line s.to s.given s.fits s.spelled s.stands u why

-- what is left at the end is no line
none_left : (lines : List Line) (at : Stage) (m : Model) (given : List Order) (text : List ℕ) → walked at lines ≡ Reaches (Running m) given
    → has_feed text ≡ false → journal_text lines ≡ text → (text ≡ []) × (at ≡ Running m)
none_left [] at m given text walks none e = (sym e, cc)
none_left (line ∷ lines) at m given text walks none e =
    absurd (feed_in (line_text line) (journal_text lines)
    (subst (λ (z : List ℕ). has_feed z ≡ false) (sym e ∙ append_assoc (line_text line) (10 ∷ []) (journal_text lines)) none))

at_no_end : (at : Stage) (m : Model) (text : List ℕ) → text ≡ [] → at ≡ Running m → (0 < length text) ⊎ IsBeforeGo at → ⊥
at_no_end at m text empty there (inl some) = let size : length text ≡ 0 = ap length empty in omega arith
at_no_end at m text empty there (inr before) = subst IsBeforeGo there before

early : (at : Stage) (text rest left : List ℕ) → has_feed text ≡ false → Onward at ((text ++ rest) ++ left) → EndsTooEarly (Some left) at text rest → ⊥
early at text rest left none on ends =
    let bare : (text ++ rest) ++ left ≡ text =
    ap (λ (z : List ℕ). (text ++ rest) ++ z) ends.at_end ∙ append-nil (text ++ rest) ∙ ap (λ (z : List ℕ). text ++ z) ends.nothing_behind ∙ append-nil text in
    let found = none_left on.lines at on.model on.given text on.walks none (on.spelled ∙ bare) in
    at_no_end at on.model text found.0 found.1 ends.cause

either : (at : Stage) (text rest left : List ℕ) → has_feed text ≡ false → Onward at ((text ++ rest) ++ left)
    → OutsideGrammar at text rest ⊎ EndsTooEarly (Some left) at text rest → ⊥
either at text rest left none on (inl cause) = outside at text rest left none on cause
either at text rest left none on (inr cause) = early at text rest left none on cause

onward_read : (good : List Line) (m : Model) (given : List Order) (bytes left : List ℕ) (got : List Order) (lines : List Line) (at : Stage) (text rest : List ℕ)
    → AllFit good → walked Fresh good ≡ Reaches (Running m) given → journal_text good ≡ bytes ++ left → IsRead bytes got lines at text rest
    → Onward at ((text ++ rest) ++ left)
onward_read good m given bytes left got lines at text rest fits goes e read =
    onward_from lines Fresh at got good m given ((text ++ rest) ++ left) read.fit read.walks fits goes
    (e ∙ ap (λ (z : List ℕ). z ++ left) read.spelled ∙ append_assoc (journal_text lines) (text ++ rest) left)

too_many : (bytes left : List ℕ) (one : ℕ) (whole : List ℕ) → whole ≡ (bytes ++ one ∷ []) ++ left → length bytes ≡ journal_limit → length whole ≤ journal_limit → ⊥
too_many bytes left one whole e size short =
    let total : length whole ≡ (length bytes + 1) + length left =
    ap length e ∙ length-append (bytes ++ one ∷ []) left ∙ ap (λ (n : ℕ). n + length left) (length-append bytes (one ∷ [])) in
    omega arith

by_row : (good : List Line) (m : Model) (given : List Order) (left : List ℕ) (old new : Option (List ℕ)) (got : Status) → AllFit good
    → walked Fresh good ≡ Reaches (Running m) given → length (journal_text good) ≤ journal_limit
    → Replays got (Some (journal_text good)) (Some left) old new → IsDoneOrHindered (status_number got)
by_row good m given left old new status.Done fits goes short row = Is_done
by_row good m given left old new status.SourceFailed fits goes short row = Source_failed
by_row good m given left old new status.WordsRefused fits goes short row = absurd row
by_row good m given left old new status.NoMemory fits goes short row = No_memory
by_row good m given left old new status.SinkFailed fits goes short row = Sink_failed
by_row good m given left old new status.BadLine fits goes short row =
    let on = onward_read good m given row.bytes left row.given row.lines row.at row.text row.rest fits goes row.taken.consumed row.read in
    absurd (either row.at row.text row.rest left row.read.unbroken on row.cause)
by_row good m given left old new status.NotAccepted fits goes short row =
    let on = onward_read good m given row.bytes left row.given row.lines row.at row.text row.rest fits goes row.taken.consumed row.read in
    absurd (refused row.at row.text row.rest left row.read.unbroken on row.cause)
by_row good m given left old new status.NotConfigured fits goes short row =
    let on = onward_read good m given row.bytes left [] row.lines row.at row.text row.rest fits goes row.taken.consumed row.read in
    absurd (unconfigured row.at row.text row.rest left row.closing row.verdict row.read.unbroken on row.cause row.why)
by_row good m given left old new status.TooLong fits goes short row =
    absurd (too_many row.bytes left row.one_more (journal_text good) row.consumed row.size short)

pub taken_from : (good : List Line) (left_after : Option (List ℕ)) (bytes : List ℕ) → Consumes (Some (journal_text good)) left_after bytes → left_after ≡ None → ⊥
taken_from good None bytes took e = took
taken_from good (Some left) bytes took e = cc

by_left : (good : List Line) (m : Model) (given : List Order) (left_after old new : Option (List ℕ)) (got : Status) → AllFit good
    → walked Fresh good ≡ Reaches (Running m) given → length (journal_text good) ≤ journal_limit
    → Replays got (Some (journal_text good)) left_after old new → IsDoneOrHindered (status_number got)
by_left good m given (Some left) old new got fits goes short row = by_row good m given left old new got fits goes short row
by_left good m given None old new status.Done fits goes short row = Is_done
by_left good m given None old new status.SourceFailed fits goes short row = Source_failed
by_left good m given None old new status.WordsRefused fits goes short row = absurd row
by_left good m given None old new status.NoMemory fits goes short row = No_memory
by_left good m given None old new status.SinkFailed fits goes short row = Sink_failed
by_left good m given None old new status.BadLine fits goes short row = absurd (taken_from good None row.bytes row.taken.consumed refl)
by_left good m given None old new status.NotAccepted fits goes short row = absurd (taken_from good None row.bytes row.taken.consumed refl)
by_left good m given None old new status.NotConfigured fits goes short row = absurd (taken_from good None row.bytes row.taken.consumed refl)
by_left good m given None old new status.TooLong fits goes short row = absurd (taken_from good None (row.bytes ++ row.one_more ∷ []) row.consumed refl)

pub good_is_done : (left left_after old new : Option (List ℕ)) (got : Status) → HoldsGoodJournal left
    → Replays got left left_after old new → IsDoneOrHindered (status_number got)
good_is_done left left_after old new got good row =
    by_left good.lines good.model good.given left_after old new got good.fit good.walks good.short
    (subst (λ (z : Option (List ℕ)). Replays got z left_after old new) good.held row)
