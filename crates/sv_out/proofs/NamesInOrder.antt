-- Names of which each stands before the next rise, and the other way round.
use Rattle.std.proofs.Common.{◌≡◌, ℕ, List, [], ◌∷◌, true, refl, ap}
use Rattle.std.specs.Cmp.Lexicographic.{slice_cmp, nat_list_cmp_total}
use Rattle.std.specs.List.{AllByRecursion}
use Rattle.std.specs.List.Sorted.{IsStrictlySortedBy}
use Rattle.std.specs.Ordering.{nat_cmp, is_lt}
use Rattle.std.specs.declared.cmp.Ordering.{Ordering}
use Rattle.std.specs.declared.cmp.Ordering.TheVariants.{Less, Equal, Greater}
use Rattle.std.proofs.lemmas.Bool.{and_parts, and_from}
use Rattle.sv_out.specs.Files.{AreRising}
use Rattle.sv_out.specs.Rising.{is_before, rise}

-- the name stands before each of these
abbrev StandsBefore : List ℕ → List (List ℕ) → Type 0
StandsBefore name names = AllByRecursion (λ other. slice_cmp nat_cmp name other ≡ Less) names

less : (o : Ordering) → is_lt o ≡ true → o ≡ Less
less Less e = refl
less Equal e = cc e
less Greater e = cc e

before_more : (name next : List ℕ) (names : List (List ℕ)) → slice_cmp nat_cmp name next ≡ Less → StandsBefore next names → StandsBefore name names
before_more name next [] first rest = tt
before_more name next (other ∷ names) first rest =
    (nat_list_cmp_total.trans name next other first rest.0, before_more name next names first rest.1)

before_all : (name : List ℕ) (names : List (List ℕ)) → is_before name names ≡ true → rise names ≡ true → StandsBefore name names
before_all name [] before rises = tt
before_all name (next ∷ names) before rises =
    let p = and_parts (is_before next names) (rise names) rises in
    let first = less (slice_cmp nat_cmp name next) before in
    (first, before_more name next names first (before_all next names p.0 p.1))

pub rise_rising : (names : List (List ℕ)) → rise names ≡ true → AreRising names
unfolding IsStrictlySortedBy
rise_rising [] rises = tt
rise_rising (name ∷ names) rises =
    let p = and_parts (is_before name names) (rise names) rises in
    (before_all name names p.0 p.1, rise_rising names p.1)

before_first : (name : List ℕ) (names : List (List ℕ)) → StandsBefore name names → is_before name names ≡ true
before_first name [] all = refl
before_first name (next ∷ names) all = ap is_lt all.0

pub rising_rise : (names : List (List ℕ)) → AreRising names → rise names ≡ true
unfolding IsStrictlySortedBy
rising_rise [] rising = refl
rising_rise (name ∷ names) rising = and_from (is_before name names) (rise names) (before_first name names rising.0) (rising_rise names rising.1)
