-- Lists of groups seen as one list of processes.
use Rattle.std.proofs.Common.{◌≡◌, ◌+◌, ◌-◌, ◌≤◌, ◌++◌, ◌∷◌, [], ap, sym, ◌∙◌, arith, List, ℕ, Bool, true, false, length, refl, take, zero, suc, append_assoc, drop, get_or}
use Rattle.std.specs.Prelude.{nat_le, ◌&&◌}
use Rattle.std.proofs.lemmas.Bool.{leb-true}
use Rattle.std.proofs.lemmas.List.{length-append, length-drop, length-take-le}
use Rattle.std.proofs.Math.Seq.{take-length}
use Rattle.sv_base.specs.Roster.{fit_within, is_roster}
use Rattle.sv_base.specs.declared.ids.ChildId.{ChildId}
use Rattle.sv_base.specs.declared.spec.GroupSpec.{GroupSpec}
use Rattle.sv_base.specs.declared.spec.Spec.{Spec}
use Rattle.sv_groups.specs.StartOrder.{first_of, ids_from, members_at, processes}

pub both : (a b : Bool) → (a && b) ≡ true → (a ≡ true) × (b ≡ true)
both true b e = (refl, e)
both false b e = cc

-- a list that fits has no more processes than there is room
pub fits : (room : ℕ) (groups : List GroupSpec) → fit_within room groups ≡ true → length (processes groups) ≤ room
fits room [] e = omega arith
fits room (g ∷ gs) e =
    let parts : (nat_le (length g.members) room ≡ true) × (fit_within (room - length g.members) gs ≡ true) = both _ _ e in
    let here : length g.members ≤ room = leb-true _ _ parts.0 in
    let rest : length (processes gs) ≤ room - length g.members = fits (room - length g.members) gs parts.1 in
    omega (arith, length-append g.members (processes gs))

-- ids of two lists, one after the other
pub ids_append : (first : ℕ) (xs ys : List Spec) → ids_from first (xs ++ ys) ≡ ids_from first xs ++ ids_from (first + length xs) ys
ids_append first [] ys = ap (λ n. ids_from n ys) (omega arith)
ids_append first (x ∷ xs) ys =
    ap (λ (ids : List ChildId). record { 0 = first } ∷ ids) (ids_append (first + 1) xs ys ∙ ap (λ n. ids_from (first + 1) xs ++ ids_from n ys) (omega arith))

-- the ids of one list more
pub ids_step : (ids : List ChildId) (first : ℕ) (xs ys : List Spec) → (ids ++ ids_from first xs) ++ ids_from (first + length xs) ys ≡ ids ++ ids_from first (xs ++ ys)
ids_step ids first xs ys = append_assoc ids (ids_from first xs) (ids_from (first + length xs) ys) ∙ ap (λ (more : List ChildId). ids ++ more) (sym (ids_append first xs ys))

-- a roster has at most 1,024 processes
pub roster_fits : (groups : List GroupSpec) → is_roster groups ≡ true → length (processes groups) ≤ 1024
roster_fits groups e = fits 1024 groups (both _ _ (both _ _ (both _ _ (both _ _ e).0).0).0).1

-- the groups before a place have no more processes than all
pub first_within : (place : ℕ) (groups : List GroupSpec) → length (processes (take place groups)) ≤ length (processes groups)
first_within zero groups = omega arith
first_within (suc place) [] = omega arith
first_within (suc place) (g ∷ gs) =
    let rest : length (processes (take place gs)) ≤ length (processes gs) = first_within place gs in
    omega (arith, length-append g.members (processes gs), length-append g.members (processes (take place gs)))

-- and with those of the group at that place neither
pub group_within : (place : ℕ) (groups : List GroupSpec) → first_of place groups + length (members_at place groups) ≤ length (processes groups)
group_within zero [] = omega arith
group_within zero (g ∷ gs) = omega (arith, length-append g.members (processes gs))
group_within (suc place) [] = omega arith
group_within (suc place) (g ∷ gs) =
    let rest : first_of place gs + length (members_at place gs) ≤ length (processes gs) = group_within place gs in
    omega (arith, length-append g.members (processes gs), length-append g.members (processes (take place gs)))

-- what is left after the first
pub tail_of : (g : GroupSpec) (gs : List GroupSpec) → take (length (g ∷ gs) - 1) (drop 1 (g ∷ gs)) ≡ gs
tail_of g gs = ap (λ n. take n gs) (omega arith) ∙ take-length gs

-- a step of the walk through the groups: the ids
pub ids_loop : (ids told all : List ChildId) (next : ℕ) (left : List GroupSpec) (item : GroupSpec) (members : List Spec) → 1 ≤ length left → item ≡ get_or left 0 item → members ≡ item.members → told ≡ ids ++ ids_from next members → ids ++ ids_from next (processes left) ≡ all → told ++ ids_from (next + length members) (processes (take (length left - 1) (drop 1 left))) ≡ all
ids_loop ids told all next [] item members l e m n i = absurd (omega arith)
ids_loop ids told all next (g ∷ gs) item members l e m n i =
    ap (λ (t : List GroupSpec). told ++ ids_from (next + length members) (processes t)) (tail_of g gs)
    ∙ ap (λ (w : List ChildId). w ++ ids_from (next + length members) (processes gs)) n
    ∙ ap (λ (ms : List Spec). (ids ++ ids_from next ms) ++ ids_from (next + length ms) (processes gs)) (m ∙ ap (λ (x : GroupSpec). x.members) e)
    ∙ ids_step ids next g.members (processes gs)
    ∙ i

-- and the count
pub whole_loop : (next total : ℕ) (left : List GroupSpec) (item : GroupSpec) (members : List Spec) → 1 ≤ length left → item ≡ get_or left 0 item → members ≡ item.members → next + length (processes left) ≡ total → next + length members + length (processes (take (length left - 1) (drop 1 left))) ≡ total
whole_loop next total [] item members l e m i = absurd (omega arith)
whole_loop next total (g ∷ gs) item members l e m i =
    let k : length members ≡ length g.members = ap (λ (ms : List Spec). length ms) (m ∙ ap (λ (x : GroupSpec). x.members) e) in
    ap (λ (t : List GroupSpec). next + length members + length (processes t)) (tail_of g gs)
    ∙ omega (arith, length-append g.members (processes gs))

-- all that stands after a place
pub rest_is : {A : Type 0} (place : ℕ) (xs : List A) → take (length xs - place) (drop place xs) ≡ drop place xs
rest_is place xs = ap (λ n. take n (drop place xs)) (sym (length-drop place xs)) ∙ take-length (drop place xs)

-- a part in the middle is as long as it is asked for
pub window : {A : Type 0} (first size : ℕ) (xs : List A) → first + size ≤ length xs → length (take size (take (length xs - first) (drop first xs))) ≡ size
window first size xs h =
    ap (λ ys. length (take size ys)) (rest_is first xs) ∙ length-take-le size (drop first xs) (omega (arith, length-drop first xs))
