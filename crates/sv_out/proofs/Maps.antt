-- The files of a map in memory.
use Rattle.std.proofs.Common.{◌≡◌, ◌<◌, ◌^◌, ℕ, List, [], ◌∷◌, ◌++◌, true, Option, None, Some, ◌&&◌, is_some, refl, length, arith, sym, ◌∙◌, ap, unwrap_or, append-nil}
use Rattle.std.specs.List.{list_any, filter}
use Rattle.std.specs.Ordering.{nat_cmp, is_eq}
use Rattle.std.specs.Cmp.Lexicographic.{slice_cmp}
use Rattle.std.specs.Str.{bytes_eq}
use Rattle.std.specs.BTreeMap.{BTreeMap, Updates, get}
use Rattle.std.proofs.lemmas.Map.Text.{is_eq-slice_cmp}
use Rattle.std.proofs.lemmas.Map.Views.{any-filter_same}
use Rattle.std.proofs.lemmas.List.Kept.{IsStrictlySortedBy-filter}
use Rattle.std.proofs.lemmas.Slice.Eq.{bytes_eq-Decides}
use Rattle.sv_out.specs.Patterns.{matches}
use Rattle.sv_out.specs.Files.{Files, put, shifted, size_of, AreNames, AreRising}
use Rattle.sv_out.specs.MapFiles.{shown, IsPut}

pub counted : (bytes : List ℕ) → length bytes < 2 ^ 64 → size_of bytes ≡ length bytes
counted bytes fits = omega arith

-- the map after a file was put there, or taken out
pub put_shown : (before after : BTreeMap (List ℕ) (List ℕ)) (given name : List ℕ) (held : Option (List ℕ)) → given ≡ name
    → Updates (slice_cmp nat_cmp) before after given held → (other : List ℕ) → shown after other ≡ put name held (shown before) other
put_shown before after given name held is updates other = rw (← is, ← is_eq-slice_cmp given other) (updates.0 other)

pub shift_shown : (start before between after : BTreeMap (List ℕ) (List ℕ)) (given from to bytes : List ℕ) → before ≡ start → given ≡ from
    → Some bytes ≡ get (slice_cmp nat_cmp) before given → Updates (slice_cmp nat_cmp) before between given None
    → IsPut (shown between) (shown after) to bytes
    → (other : List ℕ) → shown after other ≡ shifted from to (shown start) other
shift_shown start before between after given from to bytes began is held updates puts other =
    rw (← began, ← is, ← held, ← is_eq-slice_cmp given other, ← updates.0 other) (puts other)

-- a name that equals another fits where that fits
fits_too : (pattern name other : List ℕ) → bytes_eq name other ≡ true → matches pattern other ≡ matches pattern name
fits_too pattern name other is = let same : name ≡ other = (bytes_eq-Decides name other).0 is in rw same refl

same_tests : (name : List ℕ) (names : List (List ℕ)) → list_any (bytes_eq name) names ≡ list_any (λ other. is_eq (slice_cmp nat_cmp name other)) names
same_tests name [] = refl
same_tests name (other ∷ names) = rw (is_eq-slice_cmp name other, same_tests name names) refl

-- the names of a map that fit a pattern
pub names_shown : (pattern : List ℕ) (map : BTreeMap (List ℕ) (List ℕ)) (all : List (List ℕ))
    → ((name : List ℕ) → is_some (get (slice_cmp nat_cmp) map name) ≡ list_any (λ other. is_eq (slice_cmp nat_cmp name other)) all)
    → AreNames pattern (filter (matches pattern) all) (shown map)
names_shown pattern map all has name =
    any-filter_same (bytes_eq name) (matches pattern) (matches pattern name) (fits_too pattern name) all
    ∙ ap (λ found. matches pattern name && found) (same_tests name all ∙ sym (has name))

pub rising_shown : (pattern : List ℕ) (all : List (List ℕ)) → AreRising all → AreRising (filter (matches pattern) all)
rising_shown pattern all rising = IsStrictlySortedBy-filter (slice_cmp nat_cmp) (matches pattern) all rising

-- what a walk over all names kept
all_kept : (pattern : List ℕ) (names rest start all : List (List ℕ))
    → names ++ filter (matches pattern) rest ≡ filter (matches pattern) start → rest ≡ [] → start ≡ all → names ≡ filter (matches pattern) all
all_kept pattern names rest start all walked over is =
    sym (append-nil names) ∙ ap (λ left. names ++ filter (matches pattern) left) (sym over) ∙ walked ∙ ap (λ some. filter (matches pattern) some) is

pub rising_names : (pattern : List ℕ) (names rest start all : List (List ℕ))
    → names ++ filter (matches pattern) rest ≡ filter (matches pattern) start → rest ≡ [] → start ≡ all
    → AreRising all → AreRising names
rising_names pattern names rest start all walked over is rising =
    rw (all_kept pattern names rest start all walked over is) (rising_shown pattern all rising)

pub exact_names : (pattern : List ℕ) (names rest start all : List (List ℕ)) (before map : BTreeMap (List ℕ) (List ℕ)) (files : Files)
    → names ++ filter (matches pattern) rest ≡ filter (matches pattern) start → rest ≡ [] → start ≡ all → before ≡ map
    → ((name : List ℕ) → is_some (get (slice_cmp nat_cmp) before name) ≡ list_any (λ other. is_eq (slice_cmp nat_cmp name other)) all)
    → Some (shown map) ≡ Some files → AreNames pattern names files
exact_names pattern names rest start all before map files walked over is began has told name =
    rw (all_kept pattern names rest start all walked over is, ← ap (λ some. unwrap_or some (shown map) name) told, ← began) (names_shown pattern before all has name)

-- a map without entries has no file
pub none_shown : (map : BTreeMap (List ℕ) (List ℕ)) → map.entries ≡ [] → (name : List ℕ) → shown map name ≡ None
none_shown map is name = rw is refl
