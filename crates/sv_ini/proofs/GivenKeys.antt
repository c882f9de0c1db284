-- The keys of a section are those that the lines give to it.
use Rattle.std.proofs.Common.{◌≡◌, ◌<◌, ℕ, List, [], ◌∷◌, ◌++◌, Bool, true, false, Option, cond, length, map, get_or, refl, sym, ap, subst, ◌∙◌, arith, length-append}
use Rattle.std.proofs.lemmas.Bool.Decides.{nat_tests, Decides-ltb}
use Rattle.std.proofs.lemmas.List.{length-set, get_or-set_same, set-get_or}
use Rattle.std.proofs.lemmas.List.Folds.{find-set, find_past, find-append, position_or_len-set, position_or_len_push}
use Rattle.std.proofs.lemmas.List.Sums.{passes_at_first, prefix_len-le-length}
use Rattle.std.proofs.lemmas.Slice.Eq.{bytes_eq-Decides}
use Rattle.std.specs.List.{find, position_or_len}
use Rattle.std.specs.Option.{option_map_or, option_or}
use Rattle.std.specs.Prelude.{Some, None, Ok, not, nat_lt, if◌then◌else◌, ⊤}
use Rattle.std.specs.Str.{bytes_eq}
use Rattle.sv_ini.proofs.FirstOnes.{adds_none}
use Rattle.sv_ini.proofs.Index.{found_name}
use Rattle.sv_ini.proofs.KeyFolds.{Keys, key_names, keyed, names_keyed, value_keyed_none, tailed, tailed_none, tailed_more, tailed_with}
use Rattle.sv_ini.proofs.Steps.{run, told_by_run}
use Rattle.sv_ini.specs.Appearances.{first_ones, further_lines, given_keys, keys_given, keys_of, kinds_of, last_value, value_of}
use Rattle.sv_ini.specs.Keys.{place_of_key, with_key, with_further, with_keys}
use Rattle.sv_ini.specs.Lines.{LineKind}
use Rattle.sv_ini.specs.Lines.LineKind.{Blank, Comment, Further, Opens, Sets, Bad}
use Rattle.sv_ini.specs.Sections.{no_section, with_section, in_section, section_at, place_of_section, sections_of}
use Rattle.sv_ini.specs.declared.reading.SectionReader.{SectionReader}
use Rattle.sv_ini.specs.declared.section.Section.{Section}

-- the first element that passes
first_found : {X : Type 0} (p : X → Bool) (xs : List X) (d : X) → position_or_len p xs < length xs
    → find p xs ≡ Some (get_or xs (position_or_len p xs) d)
first_found p xs d inside =
    sym (ap (find p) (set-get_or xs (position_or_len p xs) d))
    ∙ find-set p xs (position_or_len p xs) (get_or xs (position_or_len p xs) d) refl inside (passes_at_first p xs d inside)

-- the open section is the first of its name
abbrev Placed : Option ℕ → List Section → Type 0
Placed None sections = ⊤
Placed (Some place) sections =
    (place < length sections) × (place ≡ place_of_section (section_at place sections).name sections)

-- whether the section of this name is open
abbrev is_open : Option ℕ → List Section → List ℕ → Bool
is_open None sections name = false
is_open (Some place) sections name = bytes_eq (section_at place sections).name name

-- the keys once the value that is going on is whole
abbrev pending : Option ℕ → Bool → List ℕ → Keys → Keys
pending None here tail keys = keys
pending (Some key) true tail keys = tailed key tail keys
pending (Some key) false tail keys = keys

pending_none : (going : Option ℕ) (here : Bool) (keys : Keys) → pending going here [] keys ≡ keys
pending_none None here keys = refl
pending_none (Some key) true keys = tailed_none key keys
pending_none (Some key) false keys = refl

pending_elsewhere : (going : Option ℕ) (tail : List ℕ) (keys : Keys) → pending going false tail keys ≡ keys
pending_elsewhere None tail keys = refl
pending_elsewhere (Some key) tail keys = refl

named_here : (name : List ℕ) (place : ℕ) (sections : List Section) → bytes_eq (section_at place sections).name name ≡ true
    → place ≡ place_of_section (section_at place sections).name sections → place ≡ place_of_section name sections
named_here name place sections e first =
    first ∙ ap (λ (n : List ℕ). place_of_section n sections) ((bytes_eq-Decides (section_at place sections).name name).0 e)

keys_here : (name : List ℕ) (place : ℕ) (sections : List Section) → bytes_eq (section_at place sections).name name ≡ true
    → Placed (Some place) sections → keys_of name sections ≡ (section_at place sections).keys
keys_here name place sections e placed =
    let at = named_here name place sections e placed.1 in
    let inside : place_of_section name sections < length sections = subst (λ (i : ℕ). i < length sections) at placed.0 in
    ap (λ (o : Option Section). option_map_or (λ (s : Section). s.keys) o [])
    (first_found (λ (s : Section). bytes_eq s.name name) sections no_section inside)
    ∙ ap (λ (i : ℕ). (section_at i sections).keys) (sym at)

changed : (test : Bool) (name : List ℕ) (place : ℕ) (change : Keys → Keys) (sections : List Section)
    → bytes_eq (section_at place sections).name name ≡ test → Placed (Some place) sections
    → keys_of name (in_section place change sections) ≡ (if test then change (keys_of name sections) else keys_of name sections)
changed true name place change sections e placed =
    let after = with_keys (section_at place sections) (change (section_at place sections).keys) in
    ap (λ (o : Option Section). option_map_or (λ (s : Section). s.keys) o [])
    (find-set (λ (s : Section). bytes_eq s.name name) sections place after (named_here name place sections e placed.1) placed.0 e)
    ∙ ap change (sym (keys_here name place sections e placed))
changed false name place change sections e placed =
    let after = with_keys (section_at place sections) (change (section_at place sections).keys) in
    ap (λ (o : Option Section). option_map_or (λ (s : Section). s.keys) o [])
    (find_past (λ (s : Section). bytes_eq s.name name) sections place after no_section e e)

same_name : (place : ℕ) (change : Keys → Keys) (sections : List Section) → place < length sections
    → (section_at place (in_section place change sections)).name ≡ (section_at place sections).name
same_name place change sections inside =
    ap (λ (s : Section). s.name)
    (get_or-set_same sections place (with_keys (section_at place sections) (change (section_at place sections).keys)) no_section inside)

placed_change : (place : ℕ) (change : Keys → Keys) (sections : List Section) → Placed (Some place) sections
    → Placed (Some place) (in_section place change sections)
placed_change place change sections placed =
    let after = with_keys (section_at place sections) (change (section_at place sections).keys) in
    let here = (section_at place sections).name in
    let inside : place < length (in_section place change sections) = rw length-set placed.0 in
    let first = placed.1
    ∙ sym (position_or_len-set (λ (s : Section). bytes_eq s.name here) sections place after no_section refl)
    ∙ ap (λ (n : List ℕ). place_of_section n (in_section place change sections)) (sym (same_name place change sections placed.0)) in
    (inside, first)

still_none : (o : Option Section) (test : Bool) (name : List ℕ)
    → option_map_or (λ (s : Section). s.keys) (option_or o (cond test (Some (record { name = name; keys = [] })) None)) []
    ≡ option_map_or (λ (s : Section). s.keys) o []
still_none None true name = refl
still_none None false name = refl
still_none (Some s) test name = refl

added_by : (test : Bool) (name other : List ℕ) (sections : List Section)
    → keys_of name (if test then sections else sections ++ record { name = other; keys = [] } ∷ []) ≡ keys_of name sections
added_by true name other sections = refl
added_by false name other sections =
    ap (λ (o : Option Section). option_map_or (λ (s : Section). s.keys) o [])
    (find-append (λ (s : Section). bytes_eq s.name name) sections (record { name = other; keys = [] } ∷ []))
    ∙ still_none (find (λ (s : Section). bytes_eq s.name name) sections) (bytes_eq other name) other

last_at : (sections : List Section) (s : Section) → section_at (length sections) (sections ++ s ∷ []) ≡ s
last_at [] s = refl
last_at (t ∷ sections) s = last_at sections s

same_bytes : (name : List ℕ) → bytes_eq name name ≡ true
same_bytes name = (bytes_eq-Decides name name).1 refl

-- a section that was opened is in the list, and the first of its name
opened_by : (test : Bool) (name : List ℕ) (sections : List Section) → nat_lt (place_of_section name sections) (length sections) ≡ test
    → ((section_at (place_of_section name sections) (if test then sections else sections ++ record { name = name; keys = [] } ∷ [])).name ≡ name)
    × (place_of_section name sections < length (if test then sections else sections ++ record { name = name; keys = [] } ∷ []))
    × (place_of_section name sections ≡ place_of_section name (if test then sections else sections ++ record { name = name; keys = [] } ∷ []))
opened_by true name sections e =
    let inside = (Decides-ltb (place_of_section name sections) (length sections)).0 e in
    (found_name (λ (s : Section). s.name) name sections no_section inside, inside, refl)
opened_by false name sections e =
    let new : Section = record { name = name; keys = [] } in
    let at : place_of_section name sections ≡ length sections =
    grind (arith, nat_tests, prefix_len-le-length (λ (s : Section). not (bytes_eq s.name name)) sections) in
    let named = ap (λ (i : ℕ). (section_at i (sections ++ new ∷ [])).name) at ∙ ap (λ (s : Section). s.name) (last_at sections new) in
    let inside : place_of_section name sections < length (sections ++ new ∷ []) = omega (arith, at, length-append sections (new ∷ [])) in
    let found : bytes_eq new.name name ≡ true = same_bytes name in
    let first : place_of_section name sections ≡ place_of_section name (sections ++ new ∷ []) =
    grind (arith, nat_tests, at, found, position_or_len_push (λ (s : Section). bytes_eq s.name name) sections new) in
    (named, inside, first)

opened_facts : (name : List ℕ) (sections : List Section)
    → ((section_at (place_of_section name sections) (with_section name sections)).name ≡ name)
    × (place_of_section name sections < length (with_section name sections))
    × (place_of_section name sections ≡ place_of_section name (with_section name sections))
opened_facts name sections = opened_by (nat_lt (place_of_section name sections) (length sections)) name sections refl

placed_opened : (name : List ℕ) (sections : List Section) → Placed (Some (place_of_section name sections)) (with_section name sections)
placed_opened name sections =
    let facts = opened_facts name sections in
    (facts.1, facts.2 ∙ ap (λ (n : List ℕ). place_of_section n (with_section name sections)) (sym facts.0))

further_by : (test : Bool) (key : ℕ) (text tail : List ℕ) (keys : Keys)
    → pending (Some key) test tail (if test then with_further key text keys else keys) ≡ pending (Some key) test (10 ∷ text ++ tail) keys
further_by true key text tail keys = tailed_more key (10 ∷ text) tail keys
further_by false key text tail keys = refl

set_keys : (test : Bool) (going : Option ℕ) (name key value : List ℕ) (place : ℕ) (sections : List Section) (kinds : List LineKind)
    → bytes_eq (section_at place sections).name name ≡ test → Placed (Some place) sections
    → keyed (pending (Some (place_of_key key (section_at place sections).keys)) test (further_lines kinds)
    (if test then with_key key value (keys_of name sections) else keys_of name sections)) (given_keys name test kinds)
    ≡ keyed (pending going test [] (keys_of name sections)) (given_keys name test (Sets key value ∷ kinds))
set_keys true going name key value place sections kinds e placed =
    ap (λ (keys : Keys). keyed (tailed (place_of_key key keys) (further_lines kinds) (with_key key value (keys_of name sections))) (given_keys name true kinds))
    (sym (keys_here name place sections e placed))
    ∙ ap (λ (keys : Keys). keyed keys (given_keys name true kinds)) (tailed_with (further_lines kinds) key value (keys_of name sections))
    ∙ ap (λ (keys : Keys). keyed (with_key key (value ++ further_lines kinds) keys) (given_keys name true kinds))
    (sym (pending_none going true (keys_of name sections)))
set_keys false going name key value place sections kinds e placed =
    ap (λ (keys : Keys). keyed keys (given_keys name false kinds)) (sym (pending_none going false (keys_of name sections)))

abbrev at : List Section → Option ℕ → Option ℕ → SectionReader
at sections current going = record { sections = sections; current = current; going = going }

keys_run : (kinds : List LineKind) (sections : List Section) (current going : Option ℕ) (name : List ℕ) → Placed current sections
    → keys_of name (run kinds (at sections current going)).sections
    ≡ keyed (pending going (is_open current sections name) (further_lines kinds) (keys_of name sections))
    (given_keys name (is_open current sections name) kinds)
keys_run [] sections current going name placed = sym (pending_none going (is_open current sections name) (keys_of name sections))
keys_run (Blank ∷ kinds) sections current going name placed =
    keys_run kinds sections current None name placed
    ∙ ap (λ (keys : Keys). keyed keys (given_keys name (is_open current sections name) kinds))
    (sym (pending_none going (is_open current sections name) (keys_of name sections)))
keys_run (Comment ∷ kinds) sections current going name placed = keys_run kinds sections current going name placed
keys_run (Further text ∷ kinds) sections (Some place) (Some key) name placed =
    keys_run kinds (in_section place (with_further key text) sections) (Some place) (Some key) name
    (placed_change place (with_further key text) sections placed)
    ∙ ap (λ (b : Bool). keyed (pending (Some key) b (further_lines kinds) (keys_of name (in_section place (with_further key text) sections))) (given_keys name b kinds))
    (ap (λ (n : List ℕ). bytes_eq n name) (same_name place (with_further key text) sections placed.0))
    ∙ ap (λ (keys : Keys). keyed (pending (Some key) (is_open (Some place) sections name) (further_lines kinds) keys) (given_keys name (is_open (Some place) sections name) kinds))
    (changed (is_open (Some place) sections name) name place (with_further key text) sections refl placed)
    ∙ ap (λ (keys : Keys). keyed keys (given_keys name (is_open (Some place) sections name) kinds))
    (further_by (is_open (Some place) sections name) key text (further_lines kinds) (keys_of name sections))
keys_run (Further text ∷ kinds) sections (Some place) None name placed = keys_run kinds sections (Some place) None name placed
keys_run (Further text ∷ kinds) sections None (Some key) name placed = keys_run kinds sections None (Some key) name placed
keys_run (Further text ∷ kinds) sections None None name placed = keys_run kinds sections None None name placed
keys_run (Opens other ∷ kinds) sections current going name placed =
    keys_run kinds (with_section other sections) (Some (place_of_section other sections)) None name (placed_opened other sections)
    ∙ ap (λ (b : Bool). keyed (keys_of name (with_section other sections)) (given_keys name b kinds))
    (ap (λ (n : List ℕ). bytes_eq n name) (opened_facts other sections).0)
    ∙ ap (λ (keys : Keys). keyed keys (given_keys name (bytes_eq other name) kinds))
    (added_by (nat_lt (place_of_section other sections) (length sections)) name other sections
    ∙ sym (pending_none going (is_open current sections name) (keys_of name sections)))
keys_run (Sets key value ∷ kinds) sections (Some place) going name placed =
    keys_run kinds (in_section place (with_key key value) sections) (Some place) (Some (place_of_key key (section_at place sections).keys)) name
    (placed_change place (with_key key value) sections placed)
    ∙ ap (λ (b : Bool). keyed (pending (Some (place_of_key key (section_at place sections).keys)) b (further_lines kinds) (keys_of name (in_section place (with_key key value) sections))) (given_keys name b kinds))
    (ap (λ (n : List ℕ). bytes_eq n name) (same_name place (with_key key value) sections placed.0))
    ∙ ap (λ (keys : Keys). keyed (pending (Some (place_of_key key (section_at place sections).keys)) (is_open (Some place) sections name) (further_lines kinds) keys) (given_keys name (is_open (Some place) sections name) kinds))
    (changed (is_open (Some place) sections name) name place (with_key key value) sections refl placed)
    ∙ set_keys (is_open (Some place) sections name) going name key value place sections kinds refl placed
keys_run (Sets key value ∷ kinds) sections None going name placed =
    keys_run kinds sections None going name placed
    ∙ ap (λ (keys : Keys). keyed keys (given_keys name false kinds))
    (pending_elsewhere going (further_lines kinds) (keys_of name sections) ∙ sym (pending_elsewhere going [] (keys_of name sections)))
keys_run (Bad ∷ kinds) sections current going name placed =
    keys_run kinds sections current None name placed
    ∙ ap (λ (keys : Keys). keyed keys (given_keys name (is_open current sections name) kinds))
    (sym (pending_none going (is_open current sections name) (keys_of name sections)))

keys_told : (text : List ℕ) (sections : List Section) (name : List ℕ) → sections_of text ≡ Ok sections
    → keys_of name sections ≡ keyed [] (keys_given name text)
keys_told text sections name e =
    ap (keys_of name) (told_by_run text sections e) ∙ keys_run (kinds_of text) [] None None name tt

pub key_names_told : (text : List ℕ) (sections : List Section) (name : List ℕ) → sections_of text ≡ Ok sections
    → map (λ (k : List ℕ × List ℕ). k.0) (keys_of name sections)
    ≡ first_ones (map (λ (k : List ℕ × List ℕ). k.0) (keys_given name text))
key_names_told text sections name e =
    ap key_names (keys_told text sections name e)
    ∙ names_keyed (keys_given name text) []
    ∙ adds_none (key_names (keys_given name text))

pub values_told : (text : List ℕ) (sections : List Section) (name key : List ℕ) → sections_of text ≡ Ok sections
    → value_of key (keys_of name sections) ≡ last_value key (keys_given name text)
values_told text sections name key e =
    ap (value_of key) (keys_told text sections name e) ∙ value_keyed_none (keys_given name text) key
