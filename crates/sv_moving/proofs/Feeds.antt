-- Characters one at a time: the ends of lines as line feeds, and the bytes of a text.
use Rattle.std.proofs.Common.{◌≡◌, ◌<◌, ◌≤◌, ◌-◌, ℕ, List, [], ◌∷◌, ◌++◌, Bool, length, take, drop, get_or, sym, ◌∙◌, ap, arith, append_assoc, append-nil}
use Rattle.std.proofs.lemmas.List.{take_all}
use Rattle.std.specs.Char.{encode_utf8}
use Rattle.std.specs.Prelude.{◌==◌, encode_utf8_all}
use Rattle.sv_base.specs.Ascii.{carriage_return}
use Rattle.sv_moving.specs.Lines.{fed_one, fed}

pub fed_next : (out next whole : List ℕ) (behind : Bool) (left : List ℕ) (item : ℕ) → 1 ≤ length left → item ≡ get_or left 0 item
    → next ≡ out ++ fed_one behind item → out ++ fed behind left ≡ whole
    → next ++ fed (item == carriage_return) (take (length left - 1) (drop 1 left)) ≡ whole
fed_next out next whole behind [] item some read is so_far = absurd (omega (arith, some))
fed_next out next whole behind (c ∷ cs) item some read is so_far =
    ap (λ (t : List ℕ). next ++ fed (item == carriage_return) t) (take_all (length (c ∷ cs) - 1) cs (omega arith))
    ∙ ap (λ (l : List ℕ). l ++ fed (item == carriage_return) cs) is
    ∙ append_assoc out (fed_one behind item) (fed (item == carriage_return) cs)
    ∙ ap (λ (y : ℕ). out ++ (fed_one behind y ++ fed (y == carriage_return) cs)) read
    ∙ so_far

pub fed_end : (out whole : List ℕ) (behind : Bool) (left : List ℕ) → length left < 1 → out ++ fed behind left ≡ whole → out ≡ whole
fed_end out whole behind [] none so_far = sym (append-nil out) ∙ so_far
fed_end out whole behind (c ∷ cs) none so_far = absurd (omega (arith, none))

pub put_next : (out next whole : List ℕ) (left : List ℕ) (item : ℕ) → 1 ≤ length left → item ≡ get_or left 0 item
    → next ≡ out ++ encode_utf8 item → out ++ encode_utf8_all left ≡ whole
    → next ++ encode_utf8_all (take (length left - 1) (drop 1 left)) ≡ whole
put_next out next whole [] item some read is so_far = absurd (omega (arith, some))
put_next out next whole (c ∷ cs) item some read is so_far =
    ap (λ (t : List ℕ). next ++ encode_utf8_all t) (take_all (length (c ∷ cs) - 1) cs (omega arith))
    ∙ ap (λ (l : List ℕ). l ++ encode_utf8_all cs) is
    ∙ append_assoc out (encode_utf8 item) (encode_utf8_all cs)
    ∙ ap (λ (y : ℕ). out ++ (encode_utf8 y ++ encode_utf8_all cs)) read
    ∙ so_far

pub put_end : (out whole : List ℕ) (left : List ℕ) → length left < 1 → out ++ encode_utf8_all left ≡ whole → out ≡ whole
put_end out whole [] none so_far = sym (append-nil out) ∙ so_far
put_end out whole (c ∷ cs) none so_far = absurd (omega (arith, none))
