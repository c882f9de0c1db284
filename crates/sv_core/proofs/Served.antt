-- The requests of a link, one after the other, and the links.
use Rattle.std.proofs.Common.{◌≡◌, ◌<◌, ◌≤◌, ◌+◌, ◌-◌, ℕ, zero, suc, List, [], ◌∷◌, Some, None, drop, get_or, length, slice_get, unwrap_or, arith, ap, refl, sym, subst, true, false, Bool, ◌∙◌}
use Rattle.sv_base.specs.declared.ids.LinkId.{LinkId}
use Rattle.sv_core.specs.Calling.{calls_all, calls_next, closes_behind}
use Rattle.sv_core.specs.Openings.{closes, closes_all}
use Rattle.sv_core.specs.Requests.{clears, clears_all, does_all, does_next}
use Rattle.sv_core.specs.Serving.{serves_all, serves_asks, serves_from, serves_next}
use Rattle.sv_core.specs.StandsFor.{Shows}
use Rattle.sv_core.specs.Sweeps.{Turn}
use Rattle.sv_core.specs.World.{World, gives}
use Rattle.sv_core.specs.declared.machine.Machine.{Machine}
use Rattle.sv_links.specs.LinkBook.{left_at}
use Rattle.sv_out.specs.declared.order.Order.{Order}
use Rattle.sv_out.specs.declared.order.Order.TheVariants as order

-- a reply that closes its link, or not
pub behind_there : (z : Machine) (older : List Order) (closes : Bool) (link : LinkId) (w : World) → closes ≡ true
    → Shows z older (gives (order.Close link) w) → Shows z older (closes_behind closes link w)
behind_there z older closes link w is shows = subst (λ (b : Bool). Shows z older (closes_behind b link w)) (sym is) shows

pub nothing_behind : (z : Machine) (older : List Order) (closes : Bool) (link : LinkId) (w : World) → closes ≡ false
    → Shows z older w → Shows z older (closes_behind closes link w)
nothing_behind z older closes link w is shows = subst (λ (b : Bool). Shows z older (closes_behind b link w)) (sym is) shows

-- ---- so many, one after the other

pub asks_next : (left : ℕ) (link : LinkId) (w : World) (k : World → Turn) → 0 < left
    → serves_asks left link w k ≡ serves_next link w (λ v. serves_asks (left - 1) link v k)
asks_next left link w k some = let size : left ≡ suc (left - 1) = omega arith in ap (λ n. serves_asks n link w k) size

pub none_asks : (left : ℕ) (link : LinkId) (w : World) (k : World → Turn) → left ≤ 0 → serves_asks left link w k ≡ k w
none_asks left link w k none = let size : left ≡ 0 = omega arith in ap (λ n. serves_asks n link w k) size

pub calls_more : (left : ℕ) (link : LinkId) (w : World) (k : World → Turn) → 0 < left
    → calls_all left link w k ≡ calls_next link w (λ v. calls_all (left - 1) link v k)
calls_more left link w k some = let size : left ≡ suc (left - 1) = omega arith in ap (λ n. calls_all n link w k) size

pub none_called : (left : ℕ) (link : LinkId) (w : World) (k : World → Turn) → left ≤ 0 → calls_all left link w k ≡ k w
none_called left link w k none = let size : left ≡ 0 = omega arith in ap (λ n. calls_all n link w k) size

pub does_more : (left : ℕ) (link : LinkId) (w : World) (k : World → Turn) → 0 < left
    → does_all left link w k ≡ does_next link w (λ v. does_all (left - 1) link v k)
does_more left link w k some = let size : left ≡ suc (left - 1) = omega arith in ap (λ n. does_all n link w k) size

pub none_done : (left : ℕ) (link : LinkId) (w : World) (k : World → Turn) → left ≤ 0 → does_all left link w k ≡ k w
none_done left link w k none = let size : left ≡ 0 = omega arith in ap (λ n. does_all n link w k) size

-- ---- links that get Close

pub closes_next : (links : List LinkId) (i : ℕ) (d : LinkId) (w : World) → i < length links
    → closes_all (drop i links) w ≡ closes_all (drop (i + 1) links) (closes (get_or links i d) w)
closes_next [] i d w within = absurd (omega (arith, within))
closes_next (link ∷ links) zero d w within = refl
closes_next (link ∷ links) (suc i) d w within =
    let size : suc (i + 1) ≡ suc i + 1 = omega arith in
    closes_next links i d w (omega (arith, within))
    ∙ ap (λ (n : ℕ). closes_all (drop n (link ∷ links)) (closes (get_or links i d) w)) size

-- ---- lists, from a place on

-- the first item from a place on
dropped : {X : Type 0} (xs : List X) (next : ℕ) (x : X) → slice_get xs next ≡ Some x → drop next xs ≡ x ∷ drop (next + 1) xs
dropped [] next x is = cc
dropped (y ∷ xs) zero x is = ap (λ o. unwrap_or o y ∷ xs) is
dropped (y ∷ xs) (suc next) x is =
    let size : suc next + 1 ≡ suc (next + 1) = omega arith in
    dropped xs next x is ∙ ap (λ (n : ℕ). x ∷ drop n (y ∷ xs)) (sym size)

none_left : {X : Type 0} (xs : List X) (next : ℕ) → slice_get xs next ≡ None → drop next xs ≡ []
none_left [] zero is = refl
none_left [] (suc next) is = refl
none_left (y ∷ xs) zero is = cc
none_left (y ∷ xs) (suc next) is = none_left xs next is

pub all_next : (links : List LinkId) (next : ℕ) (link : LinkId) (left : ℕ) (w : World) (k : World → Turn) → slice_get links next ≡ Some link
    → left ≡ left_at link w.links
    → serves_all (drop next links) w k ≡ serves_from left link w (λ v. serves_all (drop (next + 1) links) v k)
all_next links next link left w k is count =
    ap (λ (ls : List LinkId). serves_all ls w k) (dropped links next link is)
    ∙ ap (λ (n : ℕ). serves_from n link w (λ v. serves_all (drop (next + 1) links) v k)) (sym count)

pub all_done : (links : List LinkId) (next : ℕ) (w : World) (k : World → Turn) → slice_get links next ≡ None
    → serves_all (drop next links) w k ≡ k w
all_done links next w k is = ap (λ (ls : List LinkId). serves_all ls w k) (none_left links next is)

pub clears_first : (link : LinkId) (files : List (List ℕ)) (next : ℕ) (file : List ℕ) (w : World) (k : World → Turn)
    → slice_get files next ≡ Some file
    → clears_all link (drop next files) w k ≡ clears link file w (λ v. clears_all link (drop (next + 1) files) v k)
clears_first link files next file w k is = ap (λ (fs : List (List ℕ)). clears_all link fs w k) (dropped files next file is)

pub clears_none : (link : LinkId) (files : List (List ℕ)) (next : ℕ) (w : World) (k : World → Turn) → slice_get files next ≡ None
    → clears_all link (drop next files) w k ≡ k w
clears_none link files next w k is = ap (λ (fs : List (List ℕ)). clears_all link fs w k) (none_left files next is)
