-- A header whose configuration isn't run is read up to its last line, and no other row fits it.
use Rattle.std.proofs.Common.{◌≡◌, ℕ, ◌≤◌, ◌<◌, ◌+◌, List, [], ◌∷◌, ◌++◌, false, ◌⊎◌, inl, inr, length, Option, Some, None, refl, sym, ap, subst, ◌∙◌, append_assoc, append-nil, arith, length-append}
use Rattle.std.specs.Io.KnownBytes.{Consumes}
use Rattle.sv_journal.proofs.NoLineFeed.{plain_header}
use Rattle.sv_journal.specs.JournalLine.{FitsHeader, header_line}
use Rattle.sv_journal.specs.Limits.{line_limit}
use Rattle.sv_journal.specs.declared.header.Header.{Header}
use Rattle.sv_loop.proofs.OneReading.{plain_line, feed_in, same_front, no_longer, step_of, never_refused, never_unconfigured, same_line, stands_not, whole_line, why_misplaced, Stood}
use Rattle.sv_judge.proofs.Headers.{no_header_behind_go}
use Rattle.sv_judge.specs.JournalPlaces.{Line, line_text, Stage, Verdict, heads, judged, walked, journal_text, AllFit, IsBadLine, IsNotAccepted, IsNotConfigured}
use Rattle.sv_judge.specs.JournalPlaces.Line.{Head}
use Rattle.sv_judge.specs.JournalPlaces.Stage.{Fresh, Named, Long, Running}
use Rattle.sv_judge.specs.JournalPlaces.Verdict.{Stands}
use Rattle.sv_judge.specs.JournalPlaces.Walked.{Reaches}
use Rattle.sv_loop.specs.Reading.{has_feed, IsRead, OutsideGrammar, UnacceptedLine}
use Rattle.sv_loop.specs.Replaying.{EndsTooEarly, Replays, TellsWhy, journal_limit, status_number}
use Rattle.sv_loop.specs.WholeJournal.{HoldsUnconfigured, IsUnconfiguredOrHindered}
use Rattle.sv_loop.specs.WholeJournal.IsUnconfiguredOrHindered.{Is_unconfigured, Source_failed, No_memory, Sink_failed}
use Rattle.sv_loop.specs.declared.replaying.Status.{Status}
use Rattle.sv_loop.specs.declared.replaying.Status.TheVariants as status
use Rattle.sv_out.specs.declared.order.Order.{Order}

-- at this place a header ends whose configuration isn't run
record Refusal (at : Stage) : Type 0 where
  last : Header
  fits : FitsHeader last
  short : length (header_line last) ≤ line_limit
  verdict : Verdict
  judged_so : heads at last ≡ verdict
  closing : List ℕ
  why : TellsWhy verdict closing

-- from this place on, the bytes begin with such a header, within so many bytes
record Refusing (from : Stage) (bytes : List ℕ) (room : ℕ) : Type 0 where
  lines : List Line
  fit : AllFit lines
  at : Stage
  given : List Order
  walks : walked from lines ≡ Reaches at given
  refusal : Refusal at
  behind : List ℕ
  spelled : journal_text lines ++ (header_line refusal.last ++ 10 ∷ behind) ≡ bytes
  within : length (journal_text lines) + (length (header_line refusal.last) + 1) ≤ room

unconfigured_text : (at : Stage) (r : Refusal at) (text : List ℕ) → header_line r.last ≡ text → IsNotConfigured at text r.verdict
unconfigured_text at r text e = record {
  header = r.last;
  fits = r.fits;
  spelled = e;
  short = subst (λ (t : List ℕ). length t ≤ line_limit) e r.short;
  judged_so = r.judged_so;
}

line_first : (line : Line) (lines : List Line) (rest : List ℕ) → journal_text (line ∷ lines) ++ rest ≡ line_text line ++ 10 ∷ (journal_text lines ++ rest)
line_first line lines rest =
    ap (λ (z : List ℕ). z ++ rest) (append_assoc (line_text line) (10 ∷ []) (journal_text lines))
    ∙ append_assoc (line_text line) (10 ∷ journal_text lines) rest

line_length : (line : Line) (lines : List Line) → length (journal_text (line ∷ lines)) ≡ (length (line_text line) + 1) + length (journal_text lines)
line_length line lines =
    length-append (line_text line ++ 10 ∷ []) (journal_text lines)
    ∙ ap (λ (n : ℕ). n + length (journal_text lines)) (length-append (line_text line) (10 ∷ []))

same_stage : (at to : Stage) (given : List Order) → Reaches at [] ≡ Reaches to given → at ≡ to
same_stage at to given e = cc

-- lines that were read stand before the header's last one
refusing_from : (lines : List Line) (from last : Stage) (got : List Order) (good : List Line) (at : Stage) (given : List Order) (r : Refusal at)
    (behind rest : List ℕ) (room : ℕ) → AllFit lines → walked from lines ≡ Reaches last got → AllFit good → walked from good ≡ Reaches at given
    → journal_text good ++ (header_line r.last ++ 10 ∷ behind) ≡ journal_text lines ++ rest
    → length (journal_text good) + (length (header_line r.last) + 1) ≤ length (journal_text lines) + room → Refusing last rest room
refusing_from [] from last got good at given r behind rest room fit walks fits goes e within =
    let there = same_stage from last got walks in
    record {
      lines = good;
      fit = fits;
      at = at;
      given = given;
      walks = subst (λ (s : Stage). walked s good ≡ Reaches at given) there goes;
      refusal = r;
      behind = behind;
      spelled = e;
      within = omega (arith, within);
    }
refusing_from (line ∷ lines) from last got [] at given r behind rest room fit walks fits goes e within =
    let s = step_of (judged from line) from line lines last got refl walks in
    let there = same_stage from at given goes in
    let same = same_front (header_line r.last) (line_text line) behind (journal_text lines ++ rest) (plain_header r.last r.fits) (plain_line line fit.0)
    (e ∙ line_first line lines rest) in
    absurd (never_unconfigured at (line_text line) r.closing r.verdict line s.to s.given fit.0 refl
    (subst (λ (z : Stage). judged z line ≡ Stands s.to s.given) there s.stands) (unconfigured_text at r (line_text line) same.0) r.why)
refusing_from (line ∷ lines) from last got (good ∷ goods) at given r behind rest room fit walks fits goes e within =
    let s = step_of (judged from line) from line lines last got refl walks in
    let t = step_of (judged from good) from good goods at given refl goes in
    let tail = header_line r.last ++ 10 ∷ behind in
    let same = same_front (line_text good) (line_text line) (journal_text goods ++ tail) (journal_text lines ++ rest)
    (plain_line good fits.0) (plain_line line fit.0) (sym (line_first good goods tail) ∙ e ∙ line_first line lines rest) in
    let one : line ≡ good = same_line from s.to t.to s.given t.given line good fit.0 fits.0 (sym same.0) s.stands t.stands in
    let stood : Stands s.to s.given ≡ Stands t.to t.given = sym s.stands ∙ ap (judged from) one ∙ t.stands in
    let next : s.to ≡ t.to = cc in
    let size : length (line_text good) ≡ length (line_text line) = ap length same.0 in
    refusing_from lines s.to last s.more goods at t.more r behind rest room fit.2 s.walks fits.2
    (subst (λ (z : Stage). walked z goods ≡ Reaches at t.more) (sym next) t.walks) same.1
    (omega (arith, within, size, line_length line lines, line_length good goods))

-- the header's last line is this text
record EndsHere (from : Stage) (text : List ℕ) : Type 0 where
  refusal : Refusal from
  spelled : header_line refusal.last ≡ text

-- the next whole line stands, or ends the header
next_line : (lines : List Line) (from at : Stage) (given : List Order) (r : Refusal at) (text behind back : List ℕ) → AllFit lines
    → walked from lines ≡ Reaches at given → has_feed text ≡ false
    → journal_text lines ++ (header_line r.last ++ 10 ∷ behind) ≡ text ++ 10 ∷ back → Stood from text ⊎ EndsHere from text
next_line [] from at given r text behind back fit walks none e =
    let there = same_stage from at given walks in
    let same = same_front (header_line r.last) text behind back (plain_header r.last r.fits) none e in
    inr (record {
      refusal = record {
        last = r.last;
        fits = r.fits;
        short = r.short;
        verdict = r.verdict;
        judged_so = subst (λ (z : Stage). heads z r.last ≡ r.verdict) (sym there) r.judged_so;
        closing = r.closing;
        why = r.why;
      };
      spelled = same.0;
    })
next_line (line ∷ lines) from at given r text behind back fit walks none e =
    let s = step_of (judged from line) from line lines at given refl walks in
    let same = same_front (line_text line) text (journal_text lines ++ (header_line r.last ++ 10 ∷ behind)) back (plain_line line fit.0) none
    (sym (line_first line lines (header_line r.last ++ 10 ∷ behind)) ∙ e) in
    inl (record { line = line; fits = fit.0; short = fit.1; spelled = same.0; to = s.to; given = s.given; stands = s.stands })

next_of : (from : Stage) (text back : List ℕ) (room : ℕ) → has_feed text ≡ false → Refusing from (text ++ 10 ∷ back) room
    → Stood from text ⊎ EndsHere from text
next_of from text back room none on =
    next_line on.lines from on.at on.given on.refusal text on.behind back on.fit on.walks none on.spelled

ends_not : (from : Stage) (text : List ℕ) → EndsHere from text → IsBadLine from text → ⊥
ends_not from text ends misplaced =
    let r = ends.refusal in
    let short = subst (λ (t : List ℕ). length t ≤ line_limit) ends.spelled r.short in
    why_misplaced r.verdict r.closing (sym r.judged_so ∙ misplaced (Head r.last) r.fits ends.spelled short) r.why

next_misplaced : (from : Stage) (text : List ℕ) → Stood from text ⊎ EndsHere from text → IsBadLine from text → ⊥
next_misplaced from text (inl s) misplaced = stands_not from text s misplaced
next_misplaced from text (inr ends) misplaced = ends_not from text ends misplaced

-- a header's line isn't an input that isn't accepted
ends_unrefused : (from : Stage) (text : List ℕ) → EndsHere from text → IsNotAccepted from text → ⊥
ends_unrefused Fresh text ends r = let no = r.refused in cc
ends_unrefused (Named groups) text ends r = let no = r.refused in cc
ends_unrefused (Long place) text ends r = let no = r.refused in cc
ends_unrefused (Running m) text ends r =
    let f = ends.refusal in
    why_misplaced f.verdict f.closing (sym f.judged_so ∙ no_header_behind_go m f.last) f.why

next_refused : (from : Stage) (text : List ℕ) → Stood from text ⊎ EndsHere from text → IsNotAccepted from text → ⊥
next_refused from text (inl s) r = never_refused from text s.line s.to s.given s.fits s.spelled s.stands r
next_refused from text (inr ends) r = ends_unrefused from text ends r

-- a text without a line feed goes no further than the first line
first_long : (lines : List Line) (at : Stage) (r : Refusal at) (text behind back : List ℕ) → AllFit lines → has_feed text ≡ false
    → journal_text lines ++ (header_line r.last ++ 10 ∷ behind) ≡ text ++ back
    → (length text ≤ line_limit) × (length text < length (journal_text lines) + (length (header_line r.last) + 1))
first_long [] at r text behind back fit none e =
    let within : length text ≤ length (header_line r.last) = no_longer text back (header_line r.last) behind none e in
    let short : length (header_line r.last) ≤ line_limit = r.short in
    (omega arith, omega arith)
first_long (line ∷ lines) at r text behind back fit none e =
    let tail = header_line r.last ++ 10 ∷ behind in
    let within : length text ≤ length (line_text line) =
    no_longer text back (line_text line) (journal_text lines ++ tail) none (sym (line_first line lines tail) ∙ e) in
    let short : length (line_text line) ≤ line_limit = fit.1 in
    (omega arith, omega (arith, within, line_length line lines))

outside : (from : Stage) (text rest left : List ℕ) (room : ℕ) → has_feed text ≡ false → Refusing from ((text ++ rest) ++ left) room
    → OutsideGrammar from text rest → ⊥
outside from text rest left room none on (inl (whole, misplaced)) =
    let moved : Refusing from (text ++ 10 ∷ (whole.behind ++ left)) room = subst (λ (z : List ℕ). Refusing from z room) (whole_line text rest left whole) on in
    next_misplaced from text (next_of from text (whole.behind ++ left) room none moved) misplaced
outside from text rest left room none on (inr long) =
    let first = first_long on.lines on.at on.refusal text on.behind (rest ++ left) on.fit none (on.spelled ∙ append_assoc text rest left) in
    let short : length text ≤ line_limit = first.0 in
    omega arith

not_accepted : (from : Stage) (text rest left : List ℕ) (room : ℕ) → has_feed text ≡ false → Refusing from ((text ++ rest) ++ left) room
    → UnacceptedLine from text rest → ⊥
not_accepted from text rest left room none on (whole, r) =
    let moved : Refusing from (text ++ 10 ∷ (whole.behind ++ left)) room = subst (λ (z : List ℕ). Refusing from z room) (whole_line text rest left whole) on in
    next_refused from text (next_of from text (whole.behind ++ left) room none moved) r

-- the bytes don't end before the header does
no_end : (from : Stage) (text : List ℕ) (room : ℕ) → has_feed text ≡ false → Refusing from text room → ⊥
no_end from text room none on =
    let front = journal_text on.lines ++ header_line on.refusal.last in
    feed_in front on.behind
    (subst (λ (z : List ℕ). has_feed z ≡ false) (sym on.spelled ∙ sym (append_assoc (journal_text on.lines) (header_line on.refusal.last) (10 ∷ on.behind))) none)

early : (from : Stage) (text rest left : List ℕ) (room : ℕ) → has_feed text ≡ false → Refusing from ((text ++ rest) ++ left) room
    → EndsTooEarly (Some left) from text rest → ⊥
early from text rest left room none on ends =
    let bare : (text ++ rest) ++ left ≡ text =
    ap (λ (z : List ℕ). (text ++ rest) ++ z) ends.at_end ∙ append-nil (text ++ rest) ∙ ap (λ (z : List ℕ). text ++ z) ends.nothing_behind ∙ append-nil text in
    no_end from text room none (subst (λ (z : List ℕ). Refusing from z room) bare on)

either : (from : Stage) (text rest left : List ℕ) (room : ℕ) → has_feed text ≡ false → Refusing from ((text ++ rest) ++ left) room
    → OutsideGrammar from text rest ⊎ EndsTooEarly (Some left) from text rest → ⊥
either from text rest left room none on (inl cause) = outside from text rest left room none on cause
either from text rest left room none on (inr cause) = early from text rest left room none on cause

abbrev refusal_of : (all : List ℕ) (h : HoldsUnconfigured (Some all)) → Refusal h.at
refusal_of all h = record {
  last = h.last;
  fits = h.fits;
  short = h.last_short;
  verdict = h.verdict;
  judged_so = h.judged_so;
  closing = h.closing;
  why = h.why;
}

some_same : (one other : List ℕ) → Some one ≡ Some other → one ≡ other
some_same one other e = cc

-- what was read is a prefix of the header, and what is left goes on with it
refusing_read : (all bytes left : List ℕ) (h : HoldsUnconfigured (Some all)) (got : List Order) (lines : List Line) (at : Stage) (text rest : List ℕ) (room : ℕ)
    → all ≡ bytes ++ left → IsRead bytes got lines at text rest → journal_limit ≤ length (journal_text lines) + room → Refusing at ((text ++ rest) ++ left) room
refusing_read all bytes left h got lines at text rest room e read enough =
    let held : all ≡ journal_text h.lines ++ (header_line h.last ++ 10 ∷ h.rest) = some_same all _ h.held in
    let short = h.short in
    refusing_from lines Fresh at got h.lines h.at h.given (refusal_of all h) h.rest ((text ++ rest) ++ left) room read.fit read.walks h.fit h.walks
    (sym held ∙ e ∙ ap (λ (z : List ℕ). z ++ left) read.spelled ∙ append_assoc (journal_text lines) (text ++ rest) left)
    (omega (arith, short, enough))

enough : (n : ℕ) → journal_limit ≤ n + journal_limit
enough n = omega arith

-- with all the bytes of a journal taken, the header's last line is whole
too_many : (all bytes left : List ℕ) (one : ℕ) (h : HoldsUnconfigured (Some all)) (got : List Order) (lines : List Line) (at : Stage) (text : List ℕ)
    → all ≡ (bytes ++ one ∷ []) ++ left → IsRead bytes got lines at text [] → length bytes ≡ journal_limit → ⊥
too_many all bytes left one h got lines at text e read size =
    let parts : length bytes ≡ length (journal_text lines) + length (text ++ []) = ap length read.spelled ∙ length-append (journal_text lines) (text ++ []) in
    let same : length (text ++ []) ≡ length text = ap length (append-nil text) in
    let on = refusing_read all bytes (one ∷ left) h got lines at text [] (length text) (e ∙ append_assoc bytes (one ∷ []) left) read
    (omega (arith, parts, same, size)) in
    let first = first_long on.lines on.at on.refusal text on.behind (one ∷ left) on.fit read.unbroken
    (on.spelled ∙ ap (λ (z : List ℕ). z ++ one ∷ left) (append-nil text)) in
    omega (arith, first.1, on.within)

by_row : (all left : List ℕ) (h : HoldsUnconfigured (Some all)) (old new : Option (List ℕ)) (got : Status)
    → Replays got (Some all) (Some left) old new → IsUnconfiguredOrHindered (status_number got)
by_row all left h old new status.SourceFailed row = Source_failed
by_row all left h old new status.WordsRefused row = absurd row
by_row all left h old new status.NoMemory row = No_memory
by_row all left h old new status.SinkFailed row = Sink_failed
by_row all left h old new status.NotConfigured row = Is_unconfigured
by_row all left h old new status.Done row =
    let on = refusing_read all row.bytes left h row.given row.lines (Running row.model) [] [] journal_limit row.taken.consumed row.read (enough (length (journal_text row.lines))) in
    absurd (no_end (Running row.model) [] journal_limit refl (subst (λ (z : List ℕ). Refusing (Running row.model) z journal_limit) row.at_end on))
by_row all left h old new status.BadLine row =
    let on = refusing_read all row.bytes left h row.given row.lines row.at row.text row.rest journal_limit row.taken.consumed row.read (enough (length (journal_text row.lines))) in
    absurd (either row.at row.text row.rest left journal_limit row.read.unbroken on row.cause)
by_row all left h old new status.NotAccepted row =
    let on = refusing_read all row.bytes left h row.given row.lines row.at row.text row.rest journal_limit row.taken.consumed row.read (enough (length (journal_text row.lines))) in
    absurd (not_accepted row.at row.text row.rest left journal_limit row.read.unbroken on row.cause)
by_row all left h old new status.TooLong row =
    absurd (too_many all row.bytes left row.one_more h row.given row.lines row.at row.text row.consumed row.read row.size)

nothing_taken : (all bytes : List ℕ) → Consumes (Some all) None bytes → ⊥
nothing_taken all bytes took = took

by_left : (all : List ℕ) (h : HoldsUnconfigured (Some all)) (left_after old new : Option (List ℕ)) (got : Status)
    → Replays got (Some all) left_after old new → IsUnconfiguredOrHindered (status_number got)
by_left all h (Some left) old new got row = by_row all left h old new got row
by_left all h None old new status.SourceFailed row = Source_failed
by_left all h None old new status.WordsRefused row = absurd row
by_left all h None old new status.NoMemory row = No_memory
by_left all h None old new status.SinkFailed row = Sink_failed
by_left all h None old new status.NotConfigured row = Is_unconfigured
by_left all h None old new status.Done row = absurd (nothing_taken all row.bytes row.taken.consumed)
by_left all h None old new status.BadLine row = absurd (nothing_taken all row.bytes row.taken.consumed)
by_left all h None old new status.NotAccepted row = absurd (nothing_taken all row.bytes row.taken.consumed)
by_left all h None old new status.TooLong row = absurd (nothing_taken all (row.bytes ++ row.one_more ∷ []) row.consumed)

pub unconfigured_is_told : (left left_after old new : Option (List ℕ)) (got : Status) → HoldsUnconfigured left
    → Replays got left left_after old new → IsUnconfiguredOrHindered (status_number got)
unconfigured_is_told left left_after old new got h row =
    let all = journal_text h.lines ++ (header_line h.last ++ 10 ∷ h.rest) in
    by_left all (subst (λ (z : Option (List ℕ)). HoldsUnconfigured z) h.held h) left_after old new got
    (subst (λ (z : Option (List ℕ)). Replays got z left_after old new) h.held row)
