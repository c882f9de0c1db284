-- A name that is looked for and one that is kept: where they are the same, their hashes are.
use Rattle.std.specs.Prelude.{◌≡◌, ℕ, List, Bool, true, ◌&&◌, ◌++◌}
use Rattle.std.specs.Cmp.{IsEquivalence, and_equiv, first_so, on_equiv, second_so}
use Rattle.std.specs.Cmp.Lexicographic.{bytes_decides, nat_list_eq_equiv}
use Rattle.std.specs.Hash as fed
use Rattle.std.specs.Str.{bytes_eq}
use Rattle.std.proofs.Common.{◌∙◌, sym}
use Rattle.sv_groups.specs.Lookup.{is_called}

-- two processes have the same two names
abbrev pub same_names : (List ℕ × List ℕ) → (List ℕ × List ℕ) → Bool
same_names x y = bytes_eq x.0 y.0 && bytes_eq x.1 y.1

-- it is an equivalence
pub same_names_equiv : IsEquivalence same_names
same_names_equiv =
    and_equiv (on_equiv (λ (x : List ℕ × List ℕ). x.0) nat_list_eq_equiv)
    (on_equiv (λ (x : List ℕ × List ℕ). x.1) nat_list_eq_equiv)

-- what is equal to one of two equal keys is so to the other
pub alike : {K : Type 0} {eq : K → K → Bool} → IsEquivalence eq → (q x y : K) → eq x q ≡ true
    → eq y q ≡ eq x y
alike laws q x y h = laws.symm y q ∙ laws.congr q x y (laws.symm q x ∙ h)

-- the two names of a process are hashed as the key that they are
pub fed_alike : (group own : List ℕ) (k : List ℕ × List ℕ) → is_called group own k ≡ true
    → fed.str group ++ fed.str own ≡ fed.str k.0 ++ fed.str k.1
fed_alike group own k h i =
    let first : k.0 ≡ group =
    (bytes_decides k.0 group).0 (first_so (bytes_eq k.0 group) (bytes_eq k.1 own) h) in
    let second : k.1 ≡ own =
    (bytes_decides k.1 own).0 (second_so (bytes_eq k.0 group) (bytes_eq k.1 own) h) in
    fed.str (sym first i) ++ fed.str (sym second i)
