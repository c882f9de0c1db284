-- What a set has after a change of one key.
use Rattle.std.proofs.Common.{◌≡◌, Bool, true, false, cond, ◌||◌}

pub is_or_was : (is was now : Bool) → now ≡ cond is true was → now ≡ (is || was)
is_or_was true was now e = e
is_or_was false was now e = e
