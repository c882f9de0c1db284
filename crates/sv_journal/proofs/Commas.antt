-- Numbers parted by commas are the first one, and each other one after a comma.
use Rattle.std.proofs.Common.{◌≡◌, ℕ, ◌-◌, ◌≤◌, List, [], ◌∷◌, ◌++◌, length, take, drop, get_or, Result, Ok, Err, sym, ap, ◌∙◌, arith, append_assoc, append-nil}
use Rattle.std.specs.Prelude.{OnOk}
use Rattle.std.specs.List.{flat_map}
use Rattle.std.specs.Fmt.{decimal}
use Rattle.std.proofs.lemmas.List.{take_all}
use Rattle.sv_journal.specs.Commas.{then_number}
use Rattle.sv_journal.specs.Spelling.{comma_list}

first_apart : (n : ℕ) (ns : List ℕ) → comma_list (n ∷ ns) ≡ decimal n ++ flat_map then_number ns
first_apart n [] = sym (append-nil (decimal n))
first_apart n (m ∷ ns) = ap (λ (l : List ℕ). decimal n ++ 44 ∷ l) (first_apart m ns)

joins : (before between after codes : List ℕ) (first : ℕ) → 1 ≤ length codes → first ≡ get_or codes 0 0
    → between ≡ before ++ decimal first → after ≡ between ++ flat_map then_number (take (length codes - 1) (drop 1 codes)) → after ≡ before ++ comma_list codes
joins before between after [] first some is one others = absurd (omega arith)
joins before between after (n ∷ ns) first some is one others =
    others
    ∙ ap (λ (l : List ℕ). between ++ flat_map then_number l) (take_all (length (n ∷ ns) - 1) ns (omega arith))
    ∙ ap (λ (l : List ℕ). l ++ flat_map then_number ns) (one ∙ ap (λ (m : ℕ). before ++ decimal m) is)
    ∙ append_assoc before (decimal n) (flat_map then_number ns)
    ∙ ap (λ (l : List ℕ). before ++ l) (sym (first_apart n ns))

-- a first number and the others were written
pub codes_written : {A E : Type 0} (result : Result A E) (before between after codes : List ℕ) (first : ℕ) → 1 ≤ length codes → first ≡ get_or codes 0 0
    → between ≡ before ++ decimal first → OnOk result (after ≡ between ++ flat_map then_number (take (length codes - 1) (drop 1 codes))) → OnOk result (after ≡ before ++ comma_list codes)
codes_written (Ok x) before between after codes first some is one others = joins before between after codes first some is one others
codes_written (Err e) before between after codes first some is one others = tt
