-- What a source in memory gives is what it loses.
use Rattle.std.proofs.Common.{◌≡◌, ℕ, ◌+◌, ◌≤◌, ◌<◌, List, [], ◌++◌, length, take, drop, sym, min, arith, drop_of_length-le, length-drop}
use Rattle.std.proofs.lemmas.List.{take_at, drop-drop, length-take-le, take-append-drop}

pub given_is_lost : (at n : ℕ) (bytes new : List ℕ) → take n new ≡ take n (drop at bytes)
    → drop at bytes ≡ take n new ++ drop (at + n) bytes
given_is_lost at n bytes new is =
    rw (is, ← drop-drop n at bytes) (sym (take-append-drop n (drop at bytes)))

-- nothing is given only where nothing is left
pub none_left : (at most n : ℕ) (bytes new : List ℕ) → 1 ≤ most → n ≡ min (min (length (drop at bytes)) most) (length new)
    → n ≡ 0 → 0 < length new → drop (at + n) bytes ≡ []
none_left at most n bytes new some is none room = drop_of_length-le bytes (omega (arith, length-drop at bytes))

pub copied_front : (n : ℕ) (front bytes into : List ℕ) → n ≤ length bytes → front ≡ take n bytes
    → take n (front ++ drop n into) ≡ take n bytes
copied_front n front bytes into fits is =
    let size : length front ≡ n = rw is (length-take-le n bytes fits) in
    rw (take_at front (drop n into) n size) is
