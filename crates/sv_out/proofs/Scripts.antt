-- What a connection in memory gives is what it then has been heard of.
use Rattle.std.proofs.Common.{◌≡◌, ℕ, ◌+◌, List, ◌++◌, take, drop}
use Rattle.std.proofs.Math.Seq.{take-add}

pub heard_next : (at count : ℕ) (bytes into : List ℕ) → take count into ≡ take count (drop at bytes)
    → take (at + count) bytes ≡ take at bytes ++ take count into
heard_next at count bytes into is = rw is (take-add at count bytes)
