-- Bytes that stand for themselves in a text, whether it is read or written.
use Rattle.std.specs.Prelude.{ℕ, List, [], ◌∷◌, Bool, false, ◌&&◌, not, nat_lt, nat_le, ◌==◌}
use Rattle.std.specs.Prelude.{if◌then◌else◌}
use Rattle.sv_base.specs.Ascii.{ampersand, greater_sign, less_sign}
use Rattle.sv_letters.specs.Letters.{allows, after}
use Rattle.sv_letters.specs.declared.letters.Letters.TheVariants.{OfXml}
use Rattle.sv_letters.specs.declared.letters.Awaits.{Awaits}
use Rattle.sv_letters.specs.declared.letters.Awaits.TheVariants.{Character}

-- ASCII from the space on, without `&`, `<` and `>`
abbrev pub is_simple : ℕ → Bool
is_simple b =
    nat_le 32 b && nat_lt b 128 && not (b == ampersand) && not (b == less_sign)
    && not (b == greater_sign)

-- such a byte stands at the front
abbrev pub begins_run : List ℕ → Bool
begins_run [] = false
begins_run (b ∷ bs) = is_simple b

-- the run of such bytes that stands at the front
abbrev pub simple_run : List ℕ → List ℕ
simple_run [] = []
simple_run (b ∷ bs) = if is_simple b then b ∷ simple_run bs else []

-- what is after that run
abbrev pub behind_run : List ℕ → List ℕ
behind_run [] = []
behind_run (b ∷ bs) = if is_simple b then behind_run bs else b ∷ bs

-- the run where a character may come; within a character there is none
abbrev pub run_at : Awaits → List ℕ → List ℕ
run_at Character bs = simple_run bs
run_at awaits bs = []

-- what is after that run
abbrev pub behind_at : Awaits → List ℕ → List ℕ
behind_at Character bs = behind_run bs
behind_at awaits bs = bs

-- a byte of a wider character that XML allows
abbrev pub is_wide : Awaits → ℕ → Bool
is_wide awaits b = nat_le 128 b && allows OfXml awaits b

-- the run of such bytes that stands at the front
abbrev pub wide_run : Awaits → List ℕ → List ℕ
wide_run awaits [] = []
wide_run awaits (b ∷ bs) = if is_wide awaits b then b ∷ wide_run (after OfXml awaits b) bs else []

-- what is awaited after that run
abbrev pub awaits_behind : Awaits → List ℕ → Awaits
awaits_behind awaits [] = awaits
awaits_behind awaits (b ∷ bs) =
    if is_wide awaits b then awaits_behind (after OfXml awaits b) bs else awaits

-- what is after that run
abbrev pub behind_wide : Awaits → List ℕ → List ℕ
behind_wide awaits [] = []
behind_wide awaits (b ∷ bs) =
    if is_wide awaits b then behind_wide (after OfXml awaits b) bs else b ∷ bs
