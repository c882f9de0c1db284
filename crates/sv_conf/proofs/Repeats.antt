-- One element more, whose name isn't that of one before it.
use Rattle.std.proofs.Common.{◌≡◌, ◌+◌, ◌-◌, ◌≤◌, ℕ, List, [], ◌∷◌, Bool, true, false, ◌||◌, take, drop, length, get_or, ap, sym, ◌∙◌}
use Rattle.std.specs.Prelude.{Some}
use Rattle.std.specs.List.{list_any}
use Rattle.std.specs.Str.{bytes_eq}
use Rattle.sv_base.specs.declared.spec.Spec.{Spec}
use Rattle.sv_sections.proofs.Folds.{parted, taken_more}
use Rattle.sv_conf.proofs.NamesOnce.{any_last}
use Rattle.sv_conf.specs.Duplicates.{twice_at, first_twice}

-- what a set has after one name more
pub seen_more : {A : Type 0} (name : A → List ℕ) (all : List A) (place : ℕ) (item : A) (rest : List A) (was now : List ℕ → Bool) → item ∷ rest ≡ drop place all
    → ((other : List ℕ) → was other ≡ list_any (λ (x : A). bytes_eq (name x) other) (take place all))
    → ((other : List ℕ) → now other ≡ (bytes_eq (name item) other || was other))
    → (other : List ℕ) → now other ≡ list_any (λ (x : A). bytes_eq (name x) other) (take (place + 1) all)
seen_more {A} name all place item rest was now there seen adds other =
    adds other ∙ ap (λ b. bytes_eq (name item) other || b) (seen other)
    ∙ sym (any_last (λ (x : A). bytes_eq (name x) other) (take place all) item)
    ∙ ap (λ xs. list_any (λ (x : A). bytes_eq (name x) other) xs) (sym (taken_more all place item rest there))

pub found : (members left : List Spec) (place : ℕ) (member : Spec) → 1 ≤ length left → member ≡ get_or left 0 member
    → first_twice (take place members) left ≡ first_twice [] members → list_any (λ (other : Spec). bytes_eq other.name member.name) (take place members) ≡ true
    → Some member.name ≡ first_twice [] members
unfolding twice_at
found members left place member some read same there =
    let parts : first_twice (take place members) (member ∷ take (length left - 1) (drop 1 left)) ≡ first_twice [] members
    = ap (λ xs. first_twice (take place members) xs) (sym (parted left member some read)) ∙ same in
    rw there at parts

pub goes_on : (members left : List Spec) (place : ℕ) (member : Spec) → 1 ≤ length left → member ≡ get_or left 0 member → left ≡ drop place members
    → first_twice (take place members) left ≡ first_twice [] members → list_any (λ (other : Spec). bytes_eq other.name member.name) (take place members) ≡ false
    → first_twice (take (place + 1) members) (take (length left - 1) (drop 1 left)) ≡ first_twice [] members
unfolding twice_at
goes_on members left place member some read lies same fresh =
    let split = parted left member some read in
    let parts : first_twice (take place members) (member ∷ take (length left - 1) (drop 1 left)) ≡ first_twice [] members
    = ap (λ xs. first_twice (take place members) xs) (sym split) ∙ same in
    rw (taken_more members place member (take (length left - 1) (drop 1 left)) (sym split ∙ lies)) (rw fresh at parts)
