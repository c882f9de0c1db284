-- The lines of a text, one line feed at a time.
use Rattle.std.proofs.Common.{◌≡◌, ◌<◌, ◌≤◌, ◌+◌, ℕ, suc, List, [], ◌∷◌, Bool, true, false, length, take, drop, refl, sym, ◌∙◌, ap, subst, arith, add-one}
use Rattle.std.proofs.lemmas.Bool.Decides.{nat_tests, Decides-ltb}
use Rattle.std.proofs.lemmas.List.Splits.{slice_split_first, slice_split_none, length-slice_split}
use Rattle.std.proofs.lemmas.List.Sums.{fails_before_first}
use Rattle.std.specs.List.{position_or_len, slice_split, before_first}
use Rattle.std.specs.Option.{option_map}
use Rattle.std.specs.Prelude.{cond, Some, None, nat_lt}
use Rattle.std.specs.Str.{IsUtf8, IsValidUpTo}
use Rattle.std.specs.Str.Lossy.{utf8_valid_len}
use Rattle.std.proofs.lemmas.Str.{utf8_valid_len-IsUtf8}
use Rattle.sv_ini.specs.Lines.{is_feed, cut_at, without_return, whole_lines, lines_of}
use Rattle.sv_ini.specs.Sections.{text_limit, sections_of, after_lines, after_line, and_then, nothing_read, IsFault}
use Rattle.sv_ini.specs.declared.fault.IniFault.TheVariants.{TooLong, NotUtf8, BadLine, OutsideSection, OutOfMemory}
use Rattle.sv_ini.specs.declared.fault.IniFault.{IniFault}
use Rattle.sv_ini.specs.declared.reading.SectionReader.{SectionReader}
use Rattle.sv_ini.specs.declared.section.Section.{Section}
use Rattle.std.specs.Prelude.{Result, Ok, Err, if◌then◌else◌}

whole_cons : (line : List ℕ) (lines : List (List ℕ)) → 0 < length lines → whole_lines (line ∷ lines) ≡ without_return line ∷ whole_lines lines
whole_cons line [] some = absurd (omega arith)
whole_cons line (next ∷ lines) some = refl

first_line : (bs : List ℕ) → position_or_len is_feed bs < length bs
    → lines_of bs ≡ without_return (take (position_or_len is_feed bs) bs) ∷ lines_of (drop (position_or_len is_feed bs + 1) bs)
first_line bs inside =
    let parts = slice_split is_feed (drop (position_or_len is_feed bs + 1) bs) in
    let some : 0 < length parts = omega (arith, length-slice_split is_feed (drop (position_or_len is_feed bs + 1) bs)) in
    ap whole_lines (slice_split_first is_feed bs 0 inside) ∙ whole_cons (before_first is_feed bs) parts some

cut_by : (test : Bool) (bs line rest : List ℕ) → nat_lt (position_or_len is_feed bs) (length bs) ≡ test
    → option_map {U = List ℕ × List ℕ} (λ at. (take at bs, drop (at + 1) bs)) (cond test (Some (position_or_len is_feed bs)) None) ≡ Some (line, rest)
    → lines_of bs ≡ without_return line ∷ lines_of rest
cut_by true bs line rest e cut =
    let found : List ℕ × List ℕ = (take (position_or_len is_feed bs) bs, drop (position_or_len is_feed bs + 1) bs) in
    let given : List ℕ × List ℕ = (line, rest) in
    let same : found ≡ given = cc in
    let is_line : take (position_or_len is_feed bs) bs ≡ line = ap (λ (p : List ℕ × List ℕ). p.0) same in
    let is_rest : drop (position_or_len is_feed bs + 1) bs ≡ rest = ap (λ (p : List ℕ × List ℕ). p.1) same in
    rw (← is_line, ← is_rest) (first_line bs ((Decides-ltb (position_or_len is_feed bs) (length bs)).0 e))
cut_by false bs line rest e cut = cc

pub lines_cut : (bs line rest : List ℕ) → cut_at is_feed bs ≡ Some (line, rest) → lines_of bs ≡ without_return line ∷ lines_of rest
lines_cut bs line rest cut = cut_by (nat_lt (position_or_len is_feed bs) (length bs)) bs line rest refl cut

uncut_by : (test : Bool) (bs : List ℕ) → nat_lt (position_or_len is_feed bs) (length bs) ≡ test
    → option_map {U = List ℕ × List ℕ} (λ at. (take at bs, drop (at + 1) bs)) (cond test (Some (position_or_len is_feed bs)) None) ≡ None
    → lines_of bs ≡ bs ∷ []
uncut_by true bs e cut = cc
uncut_by false bs e cut =
    let past : length bs ≤ position_or_len is_feed bs = grind (arith, nat_tests) in
    ap whole_lines (slice_split_none is_feed bs (λ k d inside. fails_before_first is_feed bs k d (omega arith)))

pub lines_uncut : (bs : List ℕ) → cut_at is_feed bs ≡ None → lines_of bs ≡ bs ∷ []
lines_uncut bs cut = uncut_by (nat_lt (position_or_len is_feed bs) (length bs)) bs refl cut

within_limits : {A : Type 0} (long broken : Bool) (x y z : A) → long ≡ false → broken ≡ false
    → (if long then x else if broken then y else z) ≡ z
within_limits false false x y z e f = refl
within_limits false true x y z e f = cc
within_limits true broken x y z e f = cc

-- a text that isn't too long and is UTF-8 has the sections or the fault of its lines
pub read_valid : (bs : List ℕ) → length bs ≤ text_limit → IsUtf8 bs
    → sections_of bs ≡ and_then (after_lines 1 (lines_of bs) nothing_read) (λ reading. Ok reading.sections)
read_valid bs short text =
    let whole = utf8_valid_len-IsUtf8 bs text in
    let fits : nat_lt text_limit (length bs) ≡ false = grind (arith, nat_tests) in
    let valid : nat_lt (utf8_valid_len bs) (length bs) ≡ false = grind (arith, nat_tests) in
    within_limits (nat_lt text_limit (length bs)) (nat_lt (utf8_valid_len bs) (length bs)) (Err TooLong) (Err (NotUtf8 (utf8_valid_len bs)))
    (and_then (after_lines 1 (lines_of bs) nothing_read) (λ reading. Ok reading.sections)) fits valid

fault_first : {A : Type 0} (fault : IniFault) (step : Result SectionReader IniFault) (f : SectionReader → Result A IniFault) → IsFault fault step
    → IsFault fault (and_then step f)
fault_first OutOfMemory step f e = tt
fault_first TooLong step f e = ap (λ (r : Result SectionReader IniFault). and_then r f) e
fault_first (NotUtf8 place) step f e = ap (λ (r : Result SectionReader IniFault). and_then r f) e
fault_first (BadLine line) step f e = ap (λ (r : Result SectionReader IniFault). and_then r f) e
fault_first (OutsideSection line) step f e = ap (λ (r : Result SectionReader IniFault). and_then r f) e

-- a line that is read in turn
pub one_line : (number : ℕ) (left line shown rest : List ℕ) (reading next : SectionReader) (whole : Result SectionReader IniFault)
    → cut_at is_feed left ≡ Some (line, rest) → shown ≡ without_return line → after_line number shown reading ≡ Ok next
    → after_lines number (lines_of left) reading ≡ whole → after_lines (number + 1) (lines_of rest) next ≡ whole
one_line number left line shown rest reading next whole cut is_shown read e =
    let lines = lines_cut left line rest cut in
    let start : after_line number (without_return line) reading ≡ Ok next =
    ap (λ (l : List ℕ). after_line number l reading) (sym is_shown) ∙ read in
    let step : after_lines number (lines_of left) reading ≡ after_lines (suc number) (lines_of rest) next =
    ap (λ (ls : List (List ℕ)). after_lines number ls reading) lines
    ∙ ap (λ (r : Result SectionReader IniFault). and_then r (λ n. after_lines (suc number) (lines_of rest) n)) start in
    rw add-one (sym step ∙ e)

-- a line with a fault
pub fault_in_line : (fault : IniFault) (number : ℕ) (left line shown rest : List ℕ) (reading : SectionReader) (whole : Result SectionReader IniFault)
    → cut_at is_feed left ≡ Some (line, rest) → shown ≡ without_return line → IsFault fault (after_line number shown reading)
    → after_lines number (lines_of left) reading ≡ whole → IsFault fault whole
fault_in_line fault number left line shown rest reading whole cut is_shown read e =
    let lines = lines_cut left line rest cut in
    let start : IsFault fault (after_line number (without_return line) reading) =
    subst (λ (l : List ℕ). IsFault fault (after_line number l reading)) is_shown read in
    let step : after_lines number (lines_of left) reading
    ≡ and_then (after_line number (without_return line) reading) (λ n. after_lines (suc number) (lines_of rest) n) =
    ap (λ (ls : List (List ℕ)). after_lines number ls reading) lines in
    subst (IsFault fault) (sym step ∙ e)
    (fault_first fault (after_line number (without_return line) reading) (λ n. after_lines (suc number) (lines_of rest) n) start)

-- the last line
pub last_line : (number : ℕ) (left : List ℕ) (reading next : SectionReader) (whole : Result SectionReader IniFault)
    → cut_at is_feed left ≡ None → after_line number left reading ≡ Ok next
    → after_lines number (lines_of left) reading ≡ whole → whole ≡ Ok next
last_line number left reading next whole cut read e =
    let step : after_lines number (lines_of left) reading ≡ and_then (after_line number left reading) (λ n. Ok n) =
    ap (λ (ls : List (List ℕ)). after_lines number ls reading) (lines_uncut left cut) in
    sym e ∙ step ∙ ap (λ (r : Result SectionReader IniFault). and_then r (λ n. Ok n)) read

pub fault_in_last : (fault : IniFault) (number : ℕ) (left : List ℕ) (reading : SectionReader) (whole : Result SectionReader IniFault)
    → cut_at is_feed left ≡ None → IsFault fault (after_line number left reading)
    → after_lines number (lines_of left) reading ≡ whole → IsFault fault whole
fault_in_last fault number left reading whole cut read e =
    let step : after_lines number (lines_of left) reading ≡ and_then (after_line number left reading) (λ n. Ok n) =
    ap (λ (ls : List (List ℕ)). after_lines number ls reading) (lines_uncut left cut) in
    subst (IsFault fault) (sym step ∙ e) (fault_first fault (after_line number left reading) (λ n. Ok n) read)

-- the sections of a text that is neither too long nor broken
pub sections_from : (bs : List ℕ) (reading : SectionReader) (sections : List Section) → length bs ≤ text_limit → IsUtf8 bs
    → after_lines 1 (lines_of bs) nothing_read ≡ Ok reading → sections ≡ reading.sections → sections_of bs ≡ Ok sections
sections_from bs reading sections short text e same =
    read_valid bs short text
    ∙ ap (λ (r : Result SectionReader IniFault). and_then r (λ reading. Ok reading.sections)) e
    ∙ ap (λ (found : List Section). Ok found) (sym same)

pub fault_from : (fault : IniFault) (bs : List ℕ) → length bs ≤ text_limit → IsUtf8 bs
    → IsFault fault (after_lines 1 (lines_of bs) nothing_read) → IsFault fault (sections_of bs)
fault_from fault bs short text e =
    subst (IsFault fault) (sym (read_valid bs short text))
    (fault_first fault (after_lines 1 (lines_of bs) nothing_read) (λ reading. Ok reading.sections) e)

broken_limits : {A : Type 0} (long broken : Bool) (x y z : A) → long ≡ false → broken ≡ true
    → (if long then x else if broken then y else z) ≡ y
broken_limits false true x y z e f = refl
broken_limits false false x y z e f = cc
broken_limits true broken x y z e f = cc

-- a text with a byte at which no character begins
pub broken_text : (bs : List ℕ) (place : ℕ) → length bs ≤ text_limit → IsValidUpTo bs place → place ≡ utf8_valid_len bs
    → sections_of bs ≡ Err (NotUtf8 place)
broken_text bs place short valid same =
    let inside : utf8_valid_len bs < length bs = omega (arith, valid.short) in
    let fits : nat_lt text_limit (length bs) ≡ false = grind (arith, nat_tests) in
    let broken : nat_lt (utf8_valid_len bs) (length bs) ≡ true = grind (arith, nat_tests) in
    broken_limits (nat_lt text_limit (length bs)) (nat_lt (utf8_valid_len bs) (length bs)) (Err TooLong) (Err (NotUtf8 (utf8_valid_len bs)))
    (and_then (after_lines 1 (lines_of bs) nothing_read) (λ reading. Ok reading.sections)) fits broken
    ∙ ap (λ (n : ℕ). Err (NotUtf8 n)) (sym same)
