-- What each line makes of what was read before it, faults left aside.
use Rattle.std.proofs.Common.{◌≡◌, ℕ, suc, List, [], ◌∷◌, Bool, true, false, Option, refl, ap, ◌∙◌}
use Rattle.std.specs.Option.{is_some}
use Rattle.std.specs.Prelude.{Some, None, Result, Ok, Err, if◌then◌else◌, nat_lt, length}
use Rattle.std.specs.Str.Lossy.{utf8_valid_len}
use Rattle.sv_ini.specs.declared.fault.IniFault.TheVariants.{TooLong, NotUtf8}
use Rattle.sv_ini.specs.Appearances.{goes_on, kinds_from, kinds_of}
use Rattle.sv_ini.specs.Lines.{LineKind, kind_of, lines_of}
use Rattle.sv_ini.specs.Lines.LineKind.{Blank, Comment, Further, Opens, Sets, Bad}
use Rattle.sv_ini.specs.Sections.{ended, opened, set_at, gone_on, after_key, after_kind, after_line, after_lines, and_then, nothing_read, sections_of, text_limit}
use Rattle.sv_ini.specs.declared.fault.IniFault.{IniFault}
use Rattle.sv_ini.specs.declared.reading.SectionReader.{SectionReader}
use Rattle.sv_ini.specs.declared.section.Section.{Section}

abbrev pub set_by : Option ℕ → List ℕ → List ℕ → SectionReader → SectionReader
set_by (Some place) key value r = set_at place key value r
set_by None key value r = r

abbrev pub step : LineKind → SectionReader → SectionReader
step Blank r = ended r
step Comment r = r
step (Further text) r = gone_on r.current r.going text r
step (Opens name) r = opened name r
step (Sets key value) r = set_by r.current key value r
step Bad r = ended r

abbrev pub run : List LineKind → SectionReader → SectionReader
run [] r = r
run (kind ∷ kinds) r = run kinds (step kind r)

gone_kept : (current going : Option ℕ) (text : List ℕ) (r : SectionReader) → (gone_on current going text r).going ≡ r.going
gone_kept (Some place) (Some key) text r = refl
gone_kept (Some place) None text r = refl
gone_kept None (Some key) text r = refl
gone_kept None None text r = refl

ok_same : {A : Type 0} (x y : A) → ◌≡◌ {A = Result A IniFault} (Ok x) (Ok y) → y ≡ x
ok_same x y e = cc

went_set : (current : Option ℕ) (number : ℕ) (key value : List ℕ) (r next : SectionReader)
    → after_key current number key value r ≡ Ok next → (next ≡ set_by current key value r) × (is_some next.going ≡ true)
went_set (Some place) number key value r next e =
    let same = ok_same (set_at place key value r) next e in
    (same, ap (λ (n : SectionReader). is_some n.going) same)
went_set None number key value r next e = cc

went : (kind : LineKind) (number : ℕ) (r next : SectionReader) → after_kind kind number r ≡ Ok next
    → (next ≡ step kind r) × (is_some next.going ≡ goes_on (is_some r.going) kind)
went Blank number r next e =
    let same = ok_same (ended r) next e in (same, ap (λ (n : SectionReader). is_some n.going) same)
went Comment number r next e =
    let same = ok_same r next e in (same, ap (λ (n : SectionReader). is_some n.going) same)
went (Further text) number r next e =
    let same = ok_same (gone_on r.current r.going text r) next e in
    (same, ap (λ (n : SectionReader). is_some n.going) same ∙ ap (λ (o : Option ℕ). is_some o) (gone_kept r.current r.going text r))
went (Opens name) number r next e =
    let same = ok_same (opened name r) next e in (same, ap (λ (n : SectionReader). is_some n.going) same)
went (Sets key value) number r next e = went_set r.current number key value r next e
went Bad number r next e = cc

by_step : (result : Result SectionReader IniFault) (number : ℕ) (line : List ℕ) (lines : List (List ℕ)) (r final : SectionReader)
    → after_line number line r ≡ result
    → ((next : SectionReader) → after_lines (suc number) lines next ≡ Ok final → final ≡ run (kinds_from (is_some next.going) lines) next)
    → and_then result (λ next. after_lines (suc number) lines next) ≡ Ok final
    → final ≡ run (kinds_from (is_some r.going) (line ∷ lines)) r
by_step (Ok next) number line lines r final is rest e =
    let w = went (kind_of (is_some r.going) line) number r next is in
    rest next e
    ∙ ap (λ (b : Bool). run (kinds_from b lines) next) w.1
    ∙ ap (λ (n : SectionReader). run (kinds_from (goes_on (is_some r.going) (kind_of (is_some r.going) line)) lines) n) w.0
by_step (Err fault) number line lines r final is rest e = cc

pub lines_run : (number : ℕ) (lines : List (List ℕ)) (r final : SectionReader) → after_lines number lines r ≡ Ok final
    → final ≡ run (kinds_from (is_some r.going) lines) r
lines_run number [] r final e = ok_same r final e
lines_run number (line ∷ lines) r final e =
    by_step (after_line number line r) number line lines r final refl (λ next. lines_run (suc number) lines next final) e

limits_ok : {A : Type 0} (long broken : Bool) (x y : IniFault) (z : Result A IniFault) (a : A)
    → (if long then Err x else if broken then Err y else z) ≡ Ok a → z ≡ Ok a
limits_ok true broken x y z a e = cc
limits_ok false true x y z a e = cc
limits_ok false false x y z a e = e

read_ok : (read : Result SectionReader IniFault) (sections : List Section) → and_then read (λ reading. Ok reading.sections) ≡ Ok sections
    → (r : SectionReader) × (read ≡ Ok r) × (sections ≡ r.sections)
read_ok (Ok r) sections e = (r, refl, ok_same r.sections sections e)
read_ok (Err fault) sections e = cc

-- the sections of an accepted text
pub told_by_run : (text : List ℕ) (sections : List Section) → sections_of text ≡ Ok sections
    → sections ≡ (run (kinds_of text) nothing_read).sections
told_by_run text sections e =
    let read = read_ok (after_lines 1 (lines_of text) nothing_read) sections
    (limits_ok (nat_lt text_limit (length text)) (nat_lt (utf8_valid_len text) (length text)) TooLong (NotUtf8 (utf8_valid_len text)) _ sections e) in
    read.2 ∙ ap (λ (r : SectionReader). r.sections) (lines_run 1 (lines_of text) nothing_read read.0 read.1)
