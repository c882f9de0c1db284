-- Keys that are set one after another: which stand there, and with which values.
use Rattle.std.proofs.Common.{◌≡◌, ℕ, zero, suc, List, [], ◌∷◌, ◌++◌, Bool, true, false, Option, cond, length, map, set, get_or, refl, sym, ap, ◌∙◌, arith}
use Rattle.std.proofs.lemmas.Bool.Decides.{nat_tests, Decides-ltb}
use Rattle.std.proofs.lemmas.Grind.{common_steps}
use Rattle.std.proofs.lemmas.List.{append-nil, append_assoc}
use Rattle.std.proofs.lemmas.List.Folds.{find-set, find_past, find-append}
use Rattle.std.proofs.lemmas.List.Sums.{prefix_len-le-length}
use Rattle.std.proofs.lemmas.Slice.Eq.{bytes_eq-Decides}
use Rattle.std.proofs.Math.Seq.{map-set_same}
use Rattle.std.specs.List.{find, list_any}
use Rattle.std.specs.Option.{option_map, option_or}
use Rattle.std.specs.Prelude.{Some, None, not, nat_lt, if◌then◌else◌}
use Rattle.std.specs.Str.{bytes_eq}
use Rattle.sv_ini.proofs.FirstOnes.{add, adds}
use Rattle.sv_ini.proofs.Index.{found_name}
use Rattle.sv_ini.proofs.Names.{found, any_name}
use Rattle.sv_ini.specs.Appearances.{last_value, value_of}
use Rattle.sv_ini.specs.Keys.{place_of_key, with_key}

abbrev pub Keys : Type 0
Keys = List (List ℕ × List ℕ)

abbrev pub key_names : Keys → List (List ℕ)
key_names keys = map (λ (k : List ℕ × List ℕ). k.0) keys

-- all these keys set in turn
abbrev pub keyed : Keys → Keys → Keys
keyed keys [] = keys
keyed keys (entry ∷ more) = keyed (with_key entry.0 entry.1 keys) more

append_key : (keys : Keys) (key value : List ℕ) → key_names (keys ++ (key, value) ∷ []) ≡ key_names keys ++ key ∷ []
append_key [] key value = refl
append_key (k ∷ keys) key value = ap (λ (ns : List (List ℕ)). k.0 ∷ ns) (append_key keys key value)

names_by : (test : Bool) (key value : List ℕ) (keys : Keys) → nat_lt (place_of_key key keys) (length keys) ≡ test
    → key_names (if test then set keys (place_of_key key keys) (key, value) else keys ++ (key, value) ∷ [])
    ≡ (if test then key_names keys else key_names keys ++ key ∷ [])
names_by true key value keys e =
    let inside = (Decides-ltb (place_of_key key keys) (length keys)).0 e in
    map-set_same (λ (k : List ℕ × List ℕ). k.0) keys (place_of_key key keys) (key, value) ([], [])
    (sym (found_name (λ (k : List ℕ × List ℕ). k.0) key keys ([], []) inside))
names_by false key value keys e = append_key keys key value

names_with : (key value : List ℕ) (keys : Keys) → key_names (with_key key value keys) ≡ add (key_names keys) key
names_with key value keys =
    names_by (nat_lt (place_of_key key keys) (length keys)) key value keys refl
    ∙ ap (λ (b : Bool). if b then key_names keys else key_names keys ++ key ∷ [])
    (found (λ (k : List ℕ × List ℕ). bytes_eq k.0 key) keys ∙ any_name (λ (k : List ℕ × List ℕ). k.0) key keys)

pub names_keyed : (more keys : Keys) → key_names (keyed keys more) ≡ adds (key_names keys) (key_names more)
names_keyed [] keys = refl
names_keyed (entry ∷ more) keys =
    names_keyed more (with_key entry.0 entry.1 keys)
    ∙ ap (λ (ns : List (List ℕ)). adds ns (key_names more)) (names_with entry.0 entry.1 keys)

pub none_found : {X : Type 0} (p : X → Bool) (xs : List X) → list_any p xs ≡ false → find p xs ≡ None
none_found p [] e = refl
none_found p (x ∷ xs) e = grind (arith, common_steps, none_found p xs)

or_none : {X : Type 0} (o : Option X) → option_or o None ≡ o
or_none None = refl
or_none (Some x) = refl

value_by : (same there : Bool) (q key value : List ℕ) (keys : Keys) → bytes_eq key q ≡ same
    → nat_lt (place_of_key key keys) (length keys) ≡ there
    → value_of q (if there then set keys (place_of_key key keys) (key, value) else keys ++ (key, value) ∷ [])
    ≡ (if same then Some value else value_of q keys)
value_by true true q key value keys e f =
    ap (option_map (λ (k : List ℕ × List ℕ). k.1))
    (find-set (λ (k : List ℕ × List ℕ). bytes_eq k.0 q) keys (place_of_key key keys) (key, value)
    (ap (λ (n : List ℕ). place_of_key n keys) ((bytes_eq-Decides key q).0 e))
    ((Decides-ltb (place_of_key key keys) (length keys)).0 f) e)
value_by false true q key value keys e f =
    let name = found_name (λ (k : List ℕ × List ℕ). k.0) key keys ([], []) ((Decides-ltb (place_of_key key keys) (length keys)).0 f) in
    ap (option_map (λ (k : List ℕ × List ℕ). k.1))
    (find_past (λ (k : List ℕ × List ℕ). bytes_eq k.0 q) keys (place_of_key key keys) (key, value) ([], [])
    (ap (λ (n : List ℕ). bytes_eq n q) name ∙ e) e)
value_by true false q key value keys e f =
    let past : list_any (λ (k : List ℕ × List ℕ). bytes_eq k.0 key) keys ≡ false =
    sym (found (λ (k : List ℕ × List ℕ). bytes_eq k.0 key) keys) ∙ f in
    let past_q : list_any (λ (k : List ℕ × List ℕ). bytes_eq k.0 q) keys ≡ false =
    ap (λ (n : List ℕ). list_any (λ (k : List ℕ × List ℕ). bytes_eq k.0 n) keys) (sym ((bytes_eq-Decides key q).0 e)) ∙ past in
    ap (option_map (λ (k : List ℕ × List ℕ). k.1))
    (find-append (λ (k : List ℕ × List ℕ). bytes_eq k.0 q) keys ((key, value) ∷ [])
    ∙ ap (λ (o : Option (List ℕ × List ℕ)). option_or o (cond (bytes_eq key q) (Some (key, value)) None))
    (none_found (λ (k : List ℕ × List ℕ). bytes_eq k.0 q) keys past_q)
    ∙ ap (λ (b : Bool). cond b (Some (key, value)) None) e)
value_by false false q key value keys e f =
    ap (option_map (λ (k : List ℕ × List ℕ). k.1))
    (find-append (λ (k : List ℕ × List ℕ). bytes_eq k.0 q) keys ((key, value) ∷ [])
    ∙ ap (λ (b : Bool). option_or (find (λ (k : List ℕ × List ℕ). bytes_eq k.0 q) keys) (cond b (Some (key, value)) None)) e
    ∙ or_none (find (λ (k : List ℕ × List ℕ). bytes_eq k.0 q) keys))

value_with : (q key value : List ℕ) (keys : Keys)
    → value_of q (with_key key value keys) ≡ (if bytes_eq key q then Some value else value_of q keys)
value_with q key value keys =
    value_by (bytes_eq key q) (nat_lt (place_of_key key keys) (length keys)) q key value keys refl refl

or_if : {X : Type 0} (test : Bool) (later : Option X) (x : X) (o : Option X)
    → option_or later (if test then Some x else o) ≡ option_or (option_or later (if test then Some x else None)) o
or_if true (Some y) x o = refl
or_if true None x o = refl
or_if false (Some y) x o = refl
or_if false None x o = refl

pub value_keyed : (more : Keys) (q : List ℕ) (keys : Keys)
    → value_of q (keyed keys more) ≡ option_or (last_value q more) (value_of q keys)
value_keyed [] q keys = refl
value_keyed (entry ∷ more) q keys =
    value_keyed more q (with_key entry.0 entry.1 keys)
    ∙ ap (option_or (last_value q more)) (value_with q entry.0 entry.1 keys)
    ∙ or_if (bytes_eq entry.0 q) (last_value q more) entry.1 (value_of q keys)

pub value_keyed_none : (more : Keys) (q : List ℕ) → value_of q (keyed [] more) ≡ last_value q more
value_keyed_none more q = value_keyed more q [] ∙ or_none (last_value q more)

-- the value of the key at this place goes on
abbrev pub tailed : ℕ → List ℕ → Keys → Keys
tailed place tail keys =
    set keys place ((get_or keys place ([], [])).0, (get_or keys place ([], [])).1 ++ tail)

pub tailed_none : (place : ℕ) (keys : Keys) → tailed place [] keys ≡ keys
tailed_none place [] = refl
tailed_none zero (k ∷ keys) = ap (λ (v : List ℕ). (k.0, v) ∷ keys) (append-nil k.1)
tailed_none (suc place) (k ∷ keys) = ap (λ (ks : Keys). k ∷ ks) (tailed_none place keys)

pub tailed_more : (place : ℕ) (before behind : List ℕ) (keys : Keys)
    → tailed place behind (tailed place before keys) ≡ tailed place (before ++ behind) keys
tailed_more place before behind [] = refl
tailed_more zero before behind (k ∷ keys) = ap (λ (v : List ℕ). (k.0, v) ∷ keys) (append_assoc k.1 before behind)
tailed_more (suc place) before behind (k ∷ keys) = ap (λ (ks : Keys). k ∷ ks) (tailed_more place before behind keys)

set_tailed : (place : ℕ) (tail key value : List ℕ) (keys : Keys)
    → tailed place tail (set keys place (key, value)) ≡ set keys place (key, value ++ tail)
set_tailed place tail key value [] = refl
set_tailed zero tail key value (k ∷ keys) = refl
set_tailed (suc place) tail key value (k ∷ keys) = ap (λ (ks : Keys). k ∷ ks) (set_tailed place tail key value keys)

append_tailed : (tail key value : List ℕ) (keys : Keys)
    → tailed (length keys) tail (keys ++ (key, value) ∷ []) ≡ keys ++ (key, value ++ tail) ∷ []
append_tailed tail key value [] = refl
append_tailed tail key value (k ∷ keys) = ap (λ (ks : Keys). k ∷ ks) (append_tailed tail key value keys)

tailed_by : (test : Bool) (tail key value : List ℕ) (keys : Keys) → nat_lt (place_of_key key keys) (length keys) ≡ test
    → tailed (place_of_key key keys) tail (if test then set keys (place_of_key key keys) (key, value) else keys ++ (key, value) ∷ [])
    ≡ (if test then set keys (place_of_key key keys) (key, value ++ tail) else keys ++ (key, value ++ tail) ∷ [])
tailed_by true tail key value keys e = set_tailed (place_of_key key keys) tail key value keys
tailed_by false tail key value keys e =
    let at : place_of_key key keys ≡ length keys =
    grind (arith, nat_tests, prefix_len-le-length (λ (k : List ℕ × List ℕ). not (bytes_eq k.0 key)) keys) in
    ap (λ (place : ℕ). tailed place tail (keys ++ (key, value) ∷ [])) at ∙ append_tailed tail key value keys

pub tailed_with : (tail key value : List ℕ) (keys : Keys)
    → tailed (place_of_key key keys) tail (with_key key value keys) ≡ with_key key (value ++ tail) keys
tailed_with tail key value keys = tailed_by (nat_lt (place_of_key key keys) (length keys)) tail key value keys refl
