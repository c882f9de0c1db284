-- The names of sections, as lines are read.
use Rattle.std.proofs.Common.{◌≡◌, ℕ, suc, List, [], ◌∷◌, ◌++◌, Bool, true, false, Option, length, map, refl, ap, ◌∙◌, arith}
use Rattle.std.proofs.lemmas.Bool.Decides.{nat_tests}
use Rattle.std.proofs.lemmas.Grind.{common_steps}
use Rattle.std.proofs.Math.Seq.{map-set_same}
use Rattle.std.specs.List.{list_any, position_or_len}
use Rattle.std.specs.Prelude.{Some, None, Ok, nat_lt, cond, if◌then◌else◌}
use Rattle.std.specs.Str.{bytes_eq}
use Rattle.sv_ini.proofs.FirstOnes.{is_in, add, adds, adds_none}
use Rattle.sv_ini.proofs.Steps.{set_by, step, run, told_by_run}
use Rattle.sv_ini.specs.Appearances.{first_ones, opened_names, kinds_of}
use Rattle.sv_ini.specs.Keys.{with_key, with_further}
use Rattle.sv_ini.specs.Lines.{LineKind}
use Rattle.sv_ini.specs.Lines.LineKind.{Blank, Comment, Further, Opens, Sets, Bad}
use Rattle.sv_ini.specs.Sections.{no_section, with_section, in_section, gone_on, section_at, sections_of, nothing_read}
use Rattle.sv_ini.specs.declared.reading.SectionReader.{SectionReader}
use Rattle.sv_ini.specs.declared.section.Section.{Section}

found_if : (test : Bool) (first size : ℕ) → nat_lt (cond test 0 (suc first)) (suc size) ≡ cond test true (nat_lt first size)
found_if true first size = grind (arith, nat_tests)
found_if false first size = grind (arith, nat_tests)

-- a test is passed where a first place is found
pub found : {X : Type 0} (p : X → Bool) (xs : List X) → nat_lt (position_or_len p xs) (length xs) ≡ list_any p xs
found p [] = refl
found p (x ∷ xs) = grind (arith, nat_tests, common_steps, found p xs)

pub any_name : {X : Type 0} (name_of : X → List ℕ) (name : List ℕ) (xs : List X)
    → list_any (λ x. bytes_eq (name_of x) name) xs ≡ is_in (map name_of xs) name
any_name name_of name [] = refl
any_name name_of name (x ∷ xs) = rw (any_name name_of name xs) refl

abbrev names_of : List Section → List (List ℕ)
names_of sections = map (λ (s : Section). s.name) sections

append_names : (sections : List Section) (name : List ℕ)
    → names_of (sections ++ record { name = name; keys = [] } ∷ []) ≡ names_of sections ++ name ∷ []
append_names [] name = refl
append_names (s ∷ sections) name = ap (λ (ns : List (List ℕ)). s.name ∷ ns) (append_names sections name)

opened_if : (test : Bool) (sections : List Section) (name : List ℕ)
    → names_of (if test then sections else sections ++ record { name = name; keys = [] } ∷ [])
    ≡ (if test then names_of sections else names_of sections ++ name ∷ [])
opened_if true sections name = refl
opened_if false sections name = append_names sections name

with_name : (name : List ℕ) (sections : List Section) → names_of (with_section name sections) ≡ add (names_of sections) name
with_name name sections =
    opened_if (nat_lt (position_or_len (λ (s : Section). bytes_eq s.name name) sections) (length sections)) sections name
    ∙ ap (λ (b : Bool). if b then names_of sections else names_of sections ++ name ∷ [])
    (found (λ (s : Section). bytes_eq s.name name) sections ∙ any_name (λ (s : Section). s.name) name sections)

same_names : (place : ℕ) (change : List (List ℕ × List ℕ) → List (List ℕ × List ℕ)) (sections : List Section)
    → names_of (in_section place change sections) ≡ names_of sections
same_names place change sections =
    map-set_same (λ (s : Section). s.name) sections place (record (section_at place sections) { keys = change (section_at place sections).keys }) no_section refl

names_gone : (current going : Option ℕ) (text : List ℕ) (r : SectionReader)
    → names_of (gone_on current going text r).sections ≡ names_of r.sections
names_gone (Some place) (Some key) text r = same_names place (with_further key text) r.sections
names_gone (Some place) None text r = refl
names_gone None (Some key) text r = refl
names_gone None None text r = refl

names_set : (current : Option ℕ) (key value : List ℕ) (r : SectionReader)
    → names_of (set_by current key value r).sections ≡ names_of r.sections
names_set (Some place) key value r = same_names place (with_key key value) r.sections
names_set None key value r = refl

pub names_run : (kinds : List LineKind) (r : SectionReader)
    → names_of (run kinds r).sections ≡ adds (names_of r.sections) (opened_names kinds)
names_run [] r = refl
names_run (Blank ∷ kinds) r = names_run kinds (step Blank r)
names_run (Comment ∷ kinds) r = names_run kinds r
names_run (Further text ∷ kinds) r =
    names_run kinds (step (Further text) r)
    ∙ ap (λ (ns : List (List ℕ)). adds ns (opened_names kinds)) (names_gone r.current r.going text r)
names_run (Opens name ∷ kinds) r =
    names_run kinds (step (Opens name) r)
    ∙ ap (λ (ns : List (List ℕ)). adds ns (opened_names kinds)) (with_name name r.sections)
names_run (Sets key value ∷ kinds) r =
    names_run kinds (step (Sets key value) r)
    ∙ ap (λ (ns : List (List ℕ)). adds ns (opened_names kinds)) (names_set r.current key value r)
names_run (Bad ∷ kinds) r = names_run kinds (step Bad r)

pub names_told : (text : List ℕ) (sections : List Section) → sections_of text ≡ Ok sections
    → map (λ (s : Section). s.name) sections ≡ first_ones (opened_names (kinds_of text))
names_told text sections e =
    ap names_of (told_by_run text sections e)
    ∙ names_run (kinds_of text) nothing_read
    ∙ adds_none (opened_names (kinds_of text))
