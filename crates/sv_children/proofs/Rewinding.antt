-- A walk that rewinds one child after the other.
use Rattle.std.proofs.Common.{◌≡◌, ℕ, zero, suc, ◌+◌, ◌-◌, ◌≤◌, ◌<◌, List, [], ◌∷◌, ◌++◌, arith, length, take, drop, get_or, refl, sym, ap, ◌∙◌}
use Rattle.std.specs.Prelude.{slice_set}
use Rattle.std.proofs.Math.Seq.{take-length}
use Rattle.sv_base.specs.declared.spec.GroupSpec.{GroupSpec}
use Rattle.sv_base.specs.declared.spec.Spec.{Spec}
use Rattle.sv_child.specs.Rewind.{rewound}
use Rattle.sv_child.specs.declared.child.Child.{Child}
use Rattle.sv_children.specs.Rewound.{all_rewound, rewound_from}
use Rattle.sv_groups.proofs.Processes.{tail_of}
use Rattle.sv_groups.specs.StartOrder.{processes}

none_rewound : (at : ℕ) (cs : List Child) → all_rewound at [] cs ≡ cs
none_rewound at [] = refl
none_rewound at (c ∷ cs) = refl

-- no process is left
pub rewound_none : (at n : ℕ) (cs : List Child) → rewound_from at [] n cs ≡ cs
rewound_none at zero cs = none_rewound at cs
rewound_none at (suc n) [] = refl
rewound_none at (suc n) (c ∷ cs) = ap (λ (xs : List Child). c ∷ xs) (rewound_none at n cs)

-- no child is there
pub rewound_past : (at n : ℕ) (ss : List Spec) (cs : List Child) → length cs ≤ n → rewound_from at ss n cs ≡ cs
rewound_past at zero ss [] past = refl
rewound_past at zero ss (c ∷ cs) past = absurd (omega (arith, past))
rewound_past at (suc n) ss [] past = refl
rewound_past at (suc n) ss (c ∷ cs) past = ap (λ (xs : List Child). c ∷ xs) (rewound_past at n ss cs (omega (arith, past)))

-- one is rewound
pub rewound_here : (at n : ℕ) (s : Spec) (cs : List Child) (x y : Child) → n < length cs → x ≡ get_or cs n x → y ≡ rewound s x at
    → slice_set cs n y ≡ rewound_from at (s ∷ []) n cs
rewound_here at zero s [] x y within read is = absurd (omega (arith, within))
rewound_here at zero s (c ∷ cs) x y within read is =
    ap (λ (z : Child). z ∷ cs) (is ∙ ap (λ (z : Child). rewound s z at) read) ∙ ap (λ (xs : List Child). rewound s c at ∷ xs) (sym (none_rewound at cs))
rewound_here at (suc n) s [] x y within read is = absurd (omega (arith, within))
rewound_here at (suc n) s (c ∷ cs) x y within read is =
    ap (λ (xs : List Child). c ∷ xs) (rewound_here at n s cs x y (omega (arith, within)) read is)

all_joined : (at : ℕ) (ms ps : List Spec) (cs : List Child)
    → all_rewound at (ms ++ ps) cs ≡ rewound_from at ps (length ms) (all_rewound at ms cs)
all_joined at [] ps cs = ap (all_rewound at ps) (sym (none_rewound at cs))
all_joined at (m ∷ ms) ps [] = refl
all_joined at (m ∷ ms) ps (c ∷ cs) = ap (λ (xs : List Child). rewound m c at ∷ xs) (all_joined at ms ps cs)

-- first by these processes, and then by those after them
pub rewound_joined : (at n : ℕ) (ms ps : List Spec) (cs : List Child)
    → rewound_from at (ms ++ ps) n cs ≡ rewound_from at ps (n + length ms) (rewound_from at ms n cs)
rewound_joined at zero ms ps cs = let e : 0 + length ms ≡ length ms = omega arith in rw e (all_joined at ms ps cs)
rewound_joined at (suc n) ms ps [] = let e : suc n + length ms ≡ suc (n + length ms) = omega arith in rw e refl
rewound_joined at (suc n) ms ps (c ∷ cs) =
    let e : suc n + length ms ≡ suc (n + length ms) = omega arith in
    rw e (ap (λ (xs : List Child). c ∷ xs) (rewound_joined at n ms ps cs))

-- ---- the two walks

tail_is : (s : Spec) (ss : List Spec) → take (length (s ∷ ss) - 1) (drop 1 (s ∷ ss)) ≡ ss
tail_is s ss = ap (λ n. take n ss) (omega arith) ∙ take-length ss

-- one process more
pub members_loop : (at next : ℕ) (left : List Spec) (item : Spec) (cs xs all : List Child) → 1 ≤ length left → item ≡ get_or left 0 item
    → xs ≡ rewound_from at (item ∷ []) next cs
    → rewound_from at left next cs ≡ all
    → rewound_from at (take (length left - 1) (drop 1 left)) (next + 1) xs ≡ all
members_loop at next [] item cs xs all some read is so_far = absurd (omega arith)
members_loop at next (s ∷ ss) item cs xs all some read is so_far =
    ap (λ (t : List Spec). rewound_from at t (next + 1) xs) (tail_is s ss)
    ∙ ap (rewound_from at ss (next + 1)) (is ∙ ap (λ (y : Spec). rewound_from at (y ∷ []) next cs) read)
    ∙ sym (rewound_joined at next (s ∷ []) ss cs)
    ∙ so_far

pub members_count : (next total : ℕ) (left : List Spec) → 1 ≤ length left → next + length left ≡ total
    → next + 1 + length (take (length left - 1) (drop 1 left)) ≡ total
members_count next total [] some is = absurd (omega arith)
members_count next total (s ∷ ss) some is = ap (λ (t : List Spec). next + 1 + length t) (tail_is s ss) ∙ omega (arith, is)

-- none is left
pub members_end : (at next : ℕ) (left : List Spec) (cs all : List Child) → length left < 1 → rewound_from at left next cs ≡ all → cs ≡ all
members_end at next [] cs all none is = sym (rewound_none at next cs) ∙ is
members_end at next (s ∷ ss) cs all none is = absurd (omega (arith, none))

-- the processes of one group more
pub groups_loop : (at next : ℕ) (left : List GroupSpec) (item : GroupSpec) (members : List Spec) (cs xs all : List Child) → 1 ≤ length left
    → item ≡ get_or left 0 item → members ≡ item.members
    → xs ≡ rewound_from at members next cs
    → rewound_from at (processes left) next cs ≡ all
    → rewound_from at (processes (take (length left - 1) (drop 1 left))) (next + length members) xs ≡ all
groups_loop at next [] item members cs xs all some read own is so_far = absurd (omega arith)
groups_loop at next (g ∷ gs) item members cs xs all some read own is so_far =
    ap (λ (t : List GroupSpec). rewound_from at (processes t) (next + length members) xs) (tail_of g gs)
    ∙ ap (rewound_from at (processes gs) (next + length members)) is
    ∙ ap (λ (ms : List Spec). rewound_from at (processes gs) (next + length ms) (rewound_from at ms next cs)) (own ∙ ap (λ (x : GroupSpec). x.members) read)
    ∙ sym (rewound_joined at next g.members (processes gs) cs)
    ∙ so_far

pub groups_end : (at next : ℕ) (left : List GroupSpec) (cs all : List Child) → length left < 1 → rewound_from at (processes left) next cs ≡ all → cs ≡ all
groups_end at next [] cs all none is = sym (rewound_none at next cs) ∙ is
groups_end at next (g ∷ gs) cs all none is = absurd (omega (arith, none))
