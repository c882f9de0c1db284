-- The programs of a generated run make a whole roster, in the order of their numbers.
use Rattle.std.proofs.Common.{arith, ◌≡◌, ◌≤◌, ◌<◌, ◌+◌, ◌-◌, ◌/◌, ◌%◌, ℕ, zero, suc, List, [], ◌∷◌, ◌++◌, true, false, length, refl, sym, ap, subst, ◌∙◌, inl, inr, Result, Ok}
use Rattle.std.specs.Cmp.{nat_cmp_is}
use Rattle.std.specs.Cmp.Lexicographic.{slice_cmp}
use Rattle.std.specs.List.{list_all, list_any}
use Rattle.std.specs.Ordering.{is_lt, nat_cmp}
use Rattle.std.specs.Str.{bytes_eq}
use Rattle.std.specs.Str.Parse.{ParsesUnsigned}
use Rattle.std.specs.declared.cmp.Ordering.TheVariants.{Less, Equal, Greater}
use Rattle.std.proofs.lemmas.Bool.{cases_lt, le-leb}
use Rattle.std.proofs.lemmas.Fmt.{parse-decimal}
use Rattle.std.proofs.lemmas.Map.Text.{is_eq-slice_cmp}
use Rattle.sv_base.specs.Order.{are_distinct, is_rising, start_order}
use Rattle.sv_base.specs.Roster.{are_memberships, fit_within, is_roster}
use Rattle.sv_base.specs.declared.spec.GroupSpec.{GroupSpec}
use Rattle.sv_generated.specs.Generated.{program_name}
use Rattle.sv_groups.specs.Changes.{with_group}
use Rattle.sv_groups.specs.StartOrder.{processes}
use Rattle.sv_journal.specs.declared.header.Program.{Program}
use Rattle.sv_loop.specs.Generating.{IsNumber, program_of, programs, programs_to}
use Rattle.sv_judge.specs.ShortHeader.{group_of}
use Rattle.sv_loop.specs.WholeJournal.{groups_of}
use Rattle.sv_ranks.proofs.Placing.{placed_last}

-- ---- the names rise

less : (x y : ℕ) → x < y → nat_cmp x y ≡ Less
less x y h = sym (nat_cmp_is x y Less h)

same : (x y : ℕ) → x ≡ y → nat_cmp x y ≡ Equal
same x y h = sym (nat_cmp_is x y Equal h)

more : (x y : ℕ) → y < x → nat_cmp x y ≡ Greater
more x y h = sym (nat_cmp_is x y Greater h)

names_rise : (k n : ℕ) → k < n → n < 1000 → slice_cmp nat_cmp (program_name k) (program_name n) ≡ Less
names_rise k n below few = elim (cases_lt (k / 100) (n / 100)) [
  | inl first ↦ rw (same 112 112 refl, less (48 + k / 100 % 10) (48 + n / 100 % 10) (omega arith)) refl
  | inr other ↦ elim (cases_lt (k / 10) (n / 10)) [
    | inl second ↦
        rw (
          same 112 112 refl,
          same (48 + k / 100 % 10) (48 + n / 100 % 10) (omega arith),
          less (48 + k / 10 % 10) (48 + n / 10 % 10) (omega arith),
        ) refl
    | inr last ↦
        rw (
          same 112 112 refl,
          same (48 + k / 100 % 10) (48 + n / 100 % 10) (omega arith),
          same (48 + k / 10 % 10) (48 + n / 10 % 10) (omega arith),
          less (48 + k % 10) (48 + n % 10) (omega arith),
        ) refl
  ]
]

names_fall : (k n : ℕ) → k < n → n < 1000 → slice_cmp nat_cmp (program_name n) (program_name k) ≡ Greater
names_fall k n below few = elim (cases_lt (k / 100) (n / 100)) [
  | inl first ↦ rw (same 112 112 refl, more (48 + n / 100 % 10) (48 + k / 100 % 10) (omega arith)) refl
  | inr other ↦ elim (cases_lt (k / 10) (n / 10)) [
    | inl second ↦
        rw (
          same 112 112 refl,
          same (48 + n / 100 % 10) (48 + k / 100 % 10) (omega arith),
          more (48 + n / 10 % 10) (48 + k / 10 % 10) (omega arith),
        ) refl
    | inr last ↦
        rw (
          same 112 112 refl,
          same (48 + n / 100 % 10) (48 + k / 100 % 10) (omega arith),
          same (48 + n / 10 % 10) (48 + k / 10 % 10) (omega arith),
          more (48 + n % 10) (48 + k % 10) (omega arith),
        ) refl
  ]
]

-- ---- the groups of so many programs from a number on

abbrev group : ℕ → GroupSpec
group number = group_of (program_of number)

abbrev groups_from : ℕ → ℕ → List GroupSpec
groups_from first zero = []
groups_from first (suc count) = group first ∷ groups_from (first + 1) count

count_is : (first count : ℕ) → length (groups_from first count) ≡ count
count_is first zero = refl
count_is first (suc count) = let rest = count_is (first + 1) count in omega arith

one_behind : (first count : ℕ) → groups_from first (suc count) ≡ groups_from first count ++ group (first + count) ∷ []
one_behind first zero = let none : first + 0 ≡ first = omega arith in rw none refl
one_behind first (suc count) =
    let next : (first + 1) + count ≡ first + suc count = omega arith in
    ap (λ (groups : List GroupSpec). group first ∷ groups) (one_behind (first + 1) count
    ∙ ap (λ (n : ℕ). groups_from (first + 1) count ++ group n ∷ []) next)

-- they all start before a group with a later number
all_before : (first count n : ℕ) → first + count ≤ n → n < 1000
    → list_all (λ (g : GroupSpec). is_lt (start_order (λ (h : GroupSpec). h.priority) (λ (h : GroupSpec). h.name) g (group n))) (groups_from first count) ≡ true
all_before first zero n behind few = refl
all_before first (suc count) n behind few =
    rw (names_rise first n (omega arith) few) (all_before (first + 1) count n (omega arith) few)

groups_more : (groups : List GroupSpec) (before : List Program) (program : Program)
    → groups_of groups (before ++ program ∷ []) ≡ with_group (group_of program) (groups_of groups before)
groups_more groups [] program = refl
groups_more groups (first ∷ before) program = groups_more (with_group (group_of first) groups) before program

groups_are : (count : ℕ) → count < 1000 → groups_of [] (programs_to count) ≡ groups_from 0 count
groups_are zero few = refl
groups_are (suc count) few =
    let rest = groups_are count (omega arith) in
    let next : 0 + count ≡ count = omega arith in
    groups_more [] (programs_to count) (program_of count)
    ∙ ap (λ (groups : List GroupSpec). with_group (group count) groups) rest
    ∙ placed_last (λ (g : GroupSpec). g.priority) (λ (g : GroupSpec). g.name) (groups_from 0 count) (group count)
    (all_before 0 count count (omega arith) (omega arith))
    ∙ ap (λ (n : ℕ). groups_from 0 count ++ group n ∷ []) (sym next)
    ∙ sym (one_behind 0 count)

-- ---- they make a roster

rising : (first count : ℕ) → first + count ≤ 1000
    → is_rising (λ (g : GroupSpec). g.priority) (λ (g : GroupSpec). g.name) (groups_from first count) ≡ true
rising first zero few = refl
rising first (suc zero) few = refl
rising first (suc (suc count)) few =
    rw (names_rise first (first + 1) (omega arith) (omega arith)) (rising (first + 1) (suc count) (omega arith))

none_named : (first before count : ℕ) → before < first → first + count ≤ 1000
    → list_any (λ (g : GroupSpec). bytes_eq g.name (program_name before)) (groups_from first count) ≡ false
none_named first before zero below few = refl
none_named first before (suc count) below few =
    let other : bytes_eq (program_name first) (program_name before) ≡ false =
    sym (is_eq-slice_cmp (program_name first) (program_name before))
    ∙ rw (names_fall before first below (omega arith)) refl in
    rw other (none_named (first + 1) before count (omega arith) (omega arith))

distinct : (first count : ℕ) → first + count ≤ 1000
    → are_distinct (λ (g : GroupSpec). g.name) (groups_from first count) ≡ true
distinct first zero few = refl
distinct first (suc count) few =
    rw (none_named (first + 1) first count (omega arith) (omega arith)) (distinct (first + 1) count (omega arith))

alone : (first count : ℕ) → are_memberships (groups_from first count) ≡ true
alone first zero = refl
alone first (suc count) = alone (first + 1) count

fit : (first count room : ℕ) → count ≤ room → fit_within room (groups_from first count) ≡ true
fit first zero room few = refl
fit first (suc count) room few = rw (le-leb 1 room (omega arith)) (fit (first + 1) count (room - 1) (omega arith))

whole_from : (count : ℕ) → count ≤ 256 → is_roster (groups_from 0 count) ≡ true
whole_from count few =
    rw (
      count_is 0 count,
      le-leb count 256 few,
      fit 0 count 1024 (omega arith),
      rising 0 count (omega arith),
      distinct 0 count (omega arith),
      alone 0 count,
    ) refl

few_from : (first count : ℕ) → length (processes (groups_from first count)) ≡ count
few_from first zero = refl
few_from first (suc count) = ap suc (few_from (first + 1) count)

-- ---- the programs of the run

programs_are : programs ≡ programs_to 200
unfolding programs
programs_are = refl

programs_from : (listed : List Program) (count : ℕ) → listed ≡ programs_to count → count < 1000
    → groups_of [] listed ≡ groups_from 0 count
programs_from listed count is few = ap (λ (listed : List Program). groups_of [] listed) is ∙ groups_are count few

whole_of : (listed : List Program) (count : ℕ) → listed ≡ programs_to count → count ≤ 256
    → is_roster (groups_of [] listed) ≡ true
whole_of listed count is few =
    subst (λ (groups : List GroupSpec). is_roster groups ≡ true) (sym (programs_from listed count is (omega arith)))
    (whole_from count few)

few_of : (listed : List Program) (count : ℕ) → listed ≡ programs_to count → count ≤ 256
    → length (processes (groups_of [] listed)) ≤ 1024
few_of listed count is few =
    let all : length (processes (groups_of [] listed)) ≡ count =
    ap (λ (groups : List GroupSpec). length (processes groups)) (programs_from listed count is (omega arith))
    ∙ few_from 0 count in omega arith

pub are_whole : is_roster (groups_of [] programs) ≡ true
are_whole = whole_of programs 200 programs_are (omega arith)

pub are_few : length (processes (groups_of [] programs)) ≤ 1024
are_few = few_of programs 200 programs_are (omega arith)

-- ---- one program after the other

pub next_group : (count : ℕ)
    → groups_of [] (programs_to (count + 1))
    ≡ with_group (group_of (program_of count)) (groups_of [] (programs_to count))
next_group count =
    let e : count + 1 ≡ suc count = omega arith in
    rw e (groups_more [] (programs_to count) (program_of count))

pub all_groups : (count : ℕ) → count ≡ 200 → groups_of [] (programs_to count) ≡ groups_of [] programs
all_groups count all =
    ap (λ (listed : List Program). groups_of [] listed)
    (subst (λ (n : ℕ). programs_to n ≡ programs) (sym all) (sym programs_are))

-- the one number that a word spells is parsed
pub parsed : {E : Type 0} (word : List ℕ) (number : ℕ) (r : Result ℕ E) → IsNumber word number
    → ParsesUnsigned 64 10 word r → r ≡ Ok number
parsed word number r is parses =
    parse-decimal 64 number word r (omega (arith, is.most)) (omega (arith, is.most)) is.spelled parses
