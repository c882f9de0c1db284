-- Names that rise are given by which names are among them.
use Rattle.std.proofs.Common.{◌≡◌, ℕ, List, [], ◌∷◌, Bool, true, false, Ordering, Less, Equal, Greater, refl, sym, ap, ◌∙◌, subst}
use Rattle.std.specs.Cmp.Lexicographic.{slice_cmp}
use Rattle.std.specs.List.{AllByRecursion, list_any}
use Rattle.std.specs.List.Sorted.{IsStrictlySortedBy}
use Rattle.std.specs.Ordering.{is_eq, nat_cmp, ordering_reverse}
use Rattle.std.specs.Str.{bytes_eq}
use Rattle.std.proofs.lemmas.Cmp.{nat_list_cmp_total}
use Rattle.std.proofs.lemmas.Map.Keys.{sorted_head}
use Rattle.std.proofs.lemmas.Map.Text.{is_eq-slice_cmp}
use Rattle.std.proofs.lemmas.Slice.Eq.{bytes_eq-Decides}
use Rattle.sv_out.specs.Files.{AreRising}

-- a name that is below each of these
abbrev IsBelow : List ℕ → List (List ℕ) → Type 0
IsBelow name names = AllByRecursion (λ other. slice_cmp nat_cmp name other ≡ Less) names

-- the same names are among these
abbrev pub HaveTheSame : List (List ℕ) → List (List ℕ) → Type 0
HaveTheSame xs ys = (name : List ℕ) → list_any (bytes_eq name) xs ≡ list_any (bytes_eq name) ys

first_below : (name : List ℕ) (names : List (List ℕ)) → AreRising (name ∷ names) → IsBelow name names
first_below name names rising = sorted_head (slice_cmp nat_cmp) name names rising

rest_rises : (name : List ℕ) (names : List (List ℕ)) → AreRising (name ∷ names) → AreRising names
unfolding IsStrictlySortedBy
rest_rises name names rising = rising.1

below_further : (one next : List ℕ) (names : List (List ℕ)) → slice_cmp nat_cmp one next ≡ Less → IsBelow next names → IsBelow one names
below_further one next [] less below = tt
below_further one next (name ∷ names) less below =
    (nat_list_cmp_total.trans one next name less below.0, below_further one next names less below.1)

below_all : (one next : List ℕ) (names : List (List ℕ)) → slice_cmp nat_cmp one next ≡ Less → AreRising (next ∷ names) → IsBelow one (next ∷ names)
below_all one next names less rising = (less, below_further one next names less (first_below next names rising))

-- it isn't one of them
absent : (name : List ℕ) (names : List (List ℕ)) → IsBelow name names → list_any (bytes_eq name) names ≡ false
absent name [] below = refl
absent name (other ∷ names) below = rw (← is_eq-slice_cmp name other, below.0, absent name names below.1) refl

itself : (name : List ℕ) (names : List (List ℕ)) → list_any (bytes_eq name) (name ∷ names) ≡ true
itself name names = rw ((bytes_eq-Decides name name).1 refl) refl

apart : (one : List ℕ) (others names : List (List ℕ)) → IsBelow one names → HaveTheSame (one ∷ others) names → ⊥
apart one others names below same =
    let clash : true ≡ false = sym (itself one others) ∙ (same one ∙ absent one names below) in cc

same_heads : (x y : List ℕ) (xs ys : List (List ℕ)) → AreRising (x ∷ xs) → AreRising (y ∷ ys) → HaveTheSame (x ∷ xs) (y ∷ ys)
    → (order : Ordering) → slice_cmp nat_cmp x y ≡ order → x ≡ y
same_heads x y xs ys rising also same Less is = absurd (apart x xs (y ∷ ys) (below_all x y ys is also) same)
same_heads x y xs ys rising also same Equal is = (bytes_eq-Decides x y).0 (sym (is_eq-slice_cmp x y) ∙ ap is_eq is)
same_heads x y xs ys rising also same Greater is =
    let less : slice_cmp nat_cmp y x ≡ Less = nat_list_cmp_total.antisymm y x ∙ ap ordering_reverse is in
    absurd (apart y ys (x ∷ xs) (below_all y x xs less rising) (λ name. sym (same name)))

same_tails : (first : List ℕ) (xs ys : List (List ℕ)) → IsBelow first xs → IsBelow first ys → HaveTheSame (first ∷ xs) (first ∷ ys)
    → (name : List ℕ) (is_first : Bool) → bytes_eq name first ≡ is_first → list_any (bytes_eq name) xs ≡ list_any (bytes_eq name) ys
same_tails first xs ys below also same name true is =
    let here : name ≡ first = (bytes_eq-Decides name first).0 is in
    subst (λ (n : List ℕ). list_any (bytes_eq n) xs ≡ list_any (bytes_eq n) ys) (sym here) (absent first xs below ∙ sym (absent first ys also))
same_tails first xs ys below also same name false is = rw is at (same name)

pub same_names : (xs ys : List (List ℕ)) → AreRising xs → AreRising ys → HaveTheSame xs ys → xs ≡ ys
same_names [] [] rising also same = refl
same_names [] (y ∷ ys) rising also same = let clash : false ≡ true = same y ∙ itself y ys in cc
same_names (x ∷ xs) [] rising also same = let clash : false ≡ true = sym (same x) ∙ itself x xs in cc
same_names (x ∷ xs) (y ∷ ys) rising also same =
    let here : x ≡ y = same_heads x y xs ys rising also same (slice_cmp nat_cmp x y) refl in
    let with_one : HaveTheSame (x ∷ xs) (x ∷ ys) = λ name. same name ∙ ap (λ (first : List ℕ). list_any (bytes_eq name) (first ∷ ys)) (sym here) in
    let below : IsBelow x ys = subst (λ (first : List ℕ). IsBelow first ys) (sym here) (first_below y ys also) in
    let rest : xs ≡ ys = same_names xs ys (rest_rises x xs rising) (rest_rises y ys also)
    (λ name. same_tails x xs ys (first_below x xs rising) below with_one name (bytes_eq name x) refl) in
    cc
