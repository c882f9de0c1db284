-- The names of a run's programs are names of programs.
use Rattle.std.proofs.Common.{◌≡◌, ℕ, ◌+◌, ◌/◌, ◌%◌, ◌<◌, [], ◌∷◌, length, true, refl, arith, ap, ◌∙◌}
use Rattle.std.proofs.lemmas.Bool.{lt-ltb, lt-leb, ne_eqb}
use Rattle.std.proofs.lemmas.Str.{chars-IsAscii, IsUtf8-from_ascii}
use Rattle.std.specs.Str.{IsAscii}
use Rattle.std.proofs.lemmas.Str.Ascii.{IsAscii-nil, IsAscii-cons}
use Rattle.std.specs.List.{list_all}
use Rattle.sv_generated.specs.Generated.{program_name}
use Rattle.sv_journal.specs.ProgramNames.{IsName}
use Rattle.sv_letters.specs.Letters.{is_name_letter}

-- a digit may stand in a name
digit : (d : ℕ) → d < 10 → is_name_letter (48 + d) ≡ true
digit d small =
    rw (
      lt-ltb 32 (48 + d) (omega arith),
      lt-leb 127 (48 + d) (omega arith),
      ne_eqb (48 + d) 58 (λ e. omega arith),
      ne_eqb (48 + d) 47 (λ e. omega arith),
      ne_eqb (48 + d) 42 (λ e. omega arith),
    ) refl

digits : (a b c : ℕ) → a < 10 → b < 10 → c < 10 → IsName (112 ∷ (48 + a) ∷ (48 + b) ∷ (48 + c) ∷ [])
digits a b c small_a small_b small_c =
    let name = 112 ∷ (48 + a) ∷ (48 + b) ∷ (48 + c) ∷ [] in
    let ascii : IsAscii name = IsAscii-cons 112 ((48 + a) ∷ (48 + b) ∷ (48 + c) ∷ []) (omega arith)
    (IsAscii-cons (48 + a) ((48 + b) ∷ (48 + c) ∷ []) (omega arith)
    (IsAscii-cons (48 + b) ((48 + c) ∷ []) (omega arith)
    (IsAscii-cons (48 + c) [] (omega arith) IsAscii-nil))) in
    (IsUtf8-from_ascii name ascii, ap (list_all is_name_letter) (chars-IsAscii name ascii) ∙ rw (digit a small_a, digit b small_b, digit c small_c) refl, let size : length name ≡ 4 = refl in omega arith)

pub named : (number : ℕ) → IsName (program_name number)
named number = digits (number / 100 % 10) (number / 10 % 10) (number % 10) (omega arith) (omega arith) (omega arith)
