-- Two states of the machine that go on in the same way, where the one was given an order more before.
use Rattle.std.proofs.Common.{◌≡◌, ◌≤◌, ◌<◌, ◌+◌, ◌-◌, ◌^◌, ◌%◌, ◌++◌, ◌&&◌, ℕ, zero, suc, List, [], ◌∷◌, Bool, true, false, Option, None, length, drop, map, ◌∙◌, refl, ap, sym, subst, if◌then◌else◌, arith}
use Rattle.std.specs.Prelude.{not, nat_lt, slice_get}
use Rattle.std.specs.List.{list_all}
use Rattle.std.proofs.Math.Nat.{mod-eq_of_lt}
use Rattle.std.proofs.Math.Seq.{drop-append-add}
use Rattle.std.proofs.lemmas.List.{length-append, length-drop, length-map}
use Rattle.std.proofs.lemmas.Option.{slice_get_past}
use Rattle.sv_core.specs.Deeds.{deeds}
use Rattle.sv_core.specs.Failure.{behind, can_fail, failure_of, failures_told}
use Rattle.sv_core.specs.MachineState.{Model, accepts, can_be_named, failure_named, hand, is_accepted, may_begin_in, next, next_part, now, orders, turn_of}
use Rattle.sv_core.specs.Parts.{part_of}
use Rattle.sv_core.specs.Sweeps.{Turn}
use Rattle.sv_core.specs.Turn.{asked_of, came, come, turn, world_of}
use Rattle.sv_core.specs.World.{World}
use Rattle.sv_core.specs.declared.failure.Failure.{Failure}
use Rattle.sv_core.specs.declared.part.Followed.{Followed}
use Rattle.sv_core.specs.declared.part.Followed.TheVariants as followed
use Rattle.sv_core.specs.declared.part.Part.{Part}
use Rattle.sv_core.specs.declared.part.Part.TheVariants.{Begins, Answers, Fails}
use Rattle.sv_core.specs.declared.part.Question.{Question}
use Rattle.sv_cut_laws.proofs.Both.{later}
use Rattle.sv_cut_laws.proofs.Turns.{IsLater, asked_later, came_later, come_later, turn_later, world_later}
use Rattle.sv_cut_laws.specs.IdleCut.{AreAccepted, one_less}
use Rattle.sv_out.specs.declared.input.Input.{Input}
use Rattle.sv_out.specs.declared.input.Input.TheVariants as input
use Rattle.sv_out.specs.declared.order.Order.{Order}

-- ---- the numbers of orders

-- the number before
abbrev pub less : ℕ → ℕ
less number = number - 1

-- all are numbers of orders that come after the first one
abbrev pub AreAbove : List ℕ → Type 0
AreAbove [] = Unit {0}
AreAbove (n ∷ ns) = (0 < n) × AreAbove ns

before : (n : ℕ) → suc n - 1 ≡ n
before n = omega arith

lt_suc : (n number : ℕ) → nat_lt n number ≡ nat_lt (suc n) (suc number)
lt_suc n number = grind arith

less_than : (n number : ℕ) → 0 < n → 0 < number → nat_lt (less n) (less number) ≡ nat_lt n number
less_than (suc n) (suc number) one other = rw (before n, before number) (lt_suc n number)
less_than zero number one other = absurd (omega arith)
less_than (suc n) zero one other = absurd (omega arith)

all_less : (ns : List ℕ) (number : ℕ) → AreAbove ns → 0 < number
    → list_all (λ n. nat_lt n (less number)) (map less ns) ≡ list_all (λ n. nat_lt n number) ns
all_less [] number are above = refl
all_less (n ∷ ns) number are above =
    ap (λ (b : Bool). b && list_all (λ m. nat_lt m (less number)) (map less ns)) (less_than n number are.0 above)
    ∙ ap (λ (b : Bool). nat_lt n number && b) (all_less ns number are.1 above)

-- what an input is, where one order fewer was given before
abbrev pub less_part : Part → Part
less_part (Fails number) = Fails (less number)
less_part part = part

part_less : (i : Input) → part_of (one_less i) ≡ less_part (part_of i)
part_less (input.Tick at) = refl
part_less (input.Exit at run how) = refl
part_less (input.Out at run stream bytes) = refl
part_less (input.OutEnd at run stream) = refl
part_less (input.Open at link side) = refl
part_less (input.Piece at link bytes) = refl
part_less (input.LinkEnd at link) = refl
part_less (input.Start at name) = refl
part_less (input.Stop at name) = refl
part_less (input.Signal at signal) = refl
part_less (input.Pid pid) = refl
part_less input.NoFile = refl
part_less input.NotExecutable = refl
part_less (input.Refused text) = refl
part_less (input.Read bytes) = refl
part_less input.Done = refl
part_less input.Missing = refl
part_less (input.Names names) = refl
part_less (input.Size size) = refl
part_less (input.Failed number) = refl

-- ---- two states

-- the first was given the orders `a` where the second was given `b`, and all else is the same
pub record Alike (a b : List Order) (m n : Model) : Type 0 where
  pub common : Turn
  pub one : IsLater a common (hand m)
  pub other : IsLater b common (hand n)
  pub since : ℕ
  pub one_since : m.since ≡ length a + since
  pub other_since : n.since ≡ length b + since
  pub named : n.named ≡ map less m.named
  pub above : AreAbove m.named
  pub within : m.since < 2 ^ 64

-- a part of a turn is accepted
abbrev IsTaken : Model → Part → Type 0
IsTaken m part = (not (now m).course.halted && is_accepted part (asked_of (hand m)) (may_begin_in (now m)) (can_be_named m)) ≡ true

pub both : (b c : Bool) → (b && c) ≡ true → (b ≡ true) × (c ≡ true)
both true true is = (refl, refl)
both true false is = absurd cc
both false c is = absurd cc

together : (b c : Bool) → b ≡ true → c ≡ true → (b && c) ≡ true
together b c one other = ap (λ (x : Bool). x && c) one ∙ other

-- an answer, or what failed, comes to the turn in hand
pub came_more : (t : Turn) (fs more : List Followed) → came t (fs ++ more) ≡ came (came t fs) more
came_more t [] more = refl
came_more t (f ∷ fs) more = came_more (come t f) fs more

-- ---- how far after a number is

further : (top since number : ℕ) → suc since < top → 0 < number → (number - 1) + (top - since) ≡ number + (top - suc since)
further top since number within above = omega (arith, within, above)

smaller : (top since : ℕ) → suc since < top → since < top
smaller top since within = omega (arith, within)

behind_less : (since number : ℕ) → suc since < 2 ^ 64 → 0 < number → behind (since % 2 ^ 64) (less number) ≡ behind (suc since % 2 ^ 64) number
behind_less since number within above =
    ap (λ (first : ℕ). behind first (less number)) (mod-eq_of_lt (smaller (2 ^ 64) since within))
    ∙ ap (λ (n : ℕ). n % 2 ^ 64) (further (2 ^ 64) since number within above)
    ∙ ap (λ (first : ℕ). behind first number) (sym (mod-eq_of_lt within))

-- the first of all orders can't be named after others
past_all : (top since given many : ℕ) → 0 < since → given < top → many ≡ given - since → many ≤ top - since
past_all top since given many above within is = omega (arith, above, within, is)

below_top : (top since : ℕ) → 0 < since → 0 < top → top - since < top
below_top top since above some = omega (arith, above, some)

nothing_more : (n : ℕ) → 0 + n ≡ n
nothing_more n = omega arith

never : true ≡ false → ⊥
never is = absurd_bool is where
  absurd_bool : true ≡ false → ⊥
  absurd_bool = cc

from_none : (since : ℕ) → 0 < since → since < 2 ^ 64 → behind (since % 2 ^ 64) 0 ≡ 2 ^ 64 - since
from_none since above within =
    ap (λ (first : ℕ). behind first 0) (mod-eq_of_lt within)
    ∙ ap (λ (n : ℕ). n % 2 ^ 64) (nothing_more (2 ^ 64 - since))
    ∙ mod-eq_of_lt (below_top (2 ^ 64) since above (omega arith))

module _ (a b : List Order) (more : length a ≡ suc (length b)) where
  -- ---- what both have

  world_at : (c : List Order) (t : Turn) (m : Model) → IsLater c t (hand m) → now m ≡ later c (world_of t)
  world_at c t m is = world_later c t (hand m) is

  size_at : (c : List Order) (t : Turn) (m : Model) → IsLater c t (hand m) → length (now m).given ≡ length c + length (world_of t).given
  size_at c t m is = ap (λ (w : World). length w.given) (world_at c t m is) ∙ length-append c (world_of t).given

  one_more : (m n : Model) (x : Alike a b m n) → m.since ≡ suc n.since
  one_more m n x =
      let one : m.since ≡ length a + x.since = x.one_since in
      let other : n.since ≡ length b + x.since = x.other_since in
      let by : length a ≡ suc (length b) = more in
      omega (arith, one, other, by)

  -- ---- the order that failed

  kinds_at : (c : List Order) (t : Turn) (m : Model) (since : ℕ) → IsLater c t (hand m) → m.since ≡ length c + since
      → map failure_of (drop m.since (now m).given) ≡ map failure_of (drop since (world_of t).given)
  kinds_at c t m since is at =
      ap (λ (given : List Order). map failure_of given)
      (ap (λ (v : World). drop m.since v.given) (world_at c t m is)
      ∙ ap (λ (n : ℕ). drop n (c ++ (world_of t).given)) at
      ∙ drop-append-add c (world_of t).given since)

  failure_same : (m n : Model) (x : Alike a b m n) (number : ℕ) → 0 < number → failure_named n (less number) ≡ failure_named m number
  failure_same m n x number above =
      ap (λ (kinds : List Failure). slice_get kinds (behind (n.since % 2 ^ 64) (less number)))
      (kinds_at b x.common n x.since x.other x.other_since ∙ sym (kinds_at a x.common m x.since x.one x.one_since))
      ∙ ap (λ (at : ℕ). slice_get (map failure_of (drop m.since (now m).given)) at)
      (behind_less n.since number (subst (λ (k : ℕ). k < 2 ^ 64) (one_more m n x) x.within) above
      ∙ ap (λ (since : ℕ). behind (since % 2 ^ 64) number) (sym (one_more m n x)))

  -- the order that failed isn't the first of all
  named_above : (m n : Model) (x : Alike a b m n) (number : ℕ) → can_fail (failure_named m number) ≡ true → length (now m).given < 2 ^ 64 → 0 < number
  named_above m n x (suc number) can many = omega arith
  named_above m n x zero can many =
      let kinds = map failure_of (drop m.since (now m).given) in
      let above : 0 < m.since = subst (λ (k : ℕ). 0 < k) (sym (one_more m n x)) (omega arith) in
      let size : length kinds ≡ length (now m).given - m.since =
      length-map (drop m.since (now m).given) failure_of ∙ length-drop m.since (now m).given in
      let none : failure_named m zero ≡ None =
      ap (λ (at : ℕ). slice_get kinds at) (from_none m.since above x.within)
      ∙ slice_get_past kinds (2 ^ 64 - m.since) (past_all (2 ^ 64) m.since (length (now m).given) (length kinds) above many size) in
      absurd (never (sym can ∙ ap can_fail none))

  named_same : (m n : Model) (x : Alike a b m n) (number : ℕ) → 0 < number → can_be_named n (less number) ≡ can_be_named m number
  named_same m n x number above =
      ap (λ (failure : Option Failure). can_fail failure && list_all (λ k. nat_lt k (less number)) n.named) (failure_same m n x number above)
      ∙ ap (λ (named : List ℕ). can_fail (failure_named m number) && list_all (λ k. nat_lt k (less number)) named) x.named
      ∙ ap (λ (c : Bool). can_fail (failure_named m number) && c) (all_less m.named number x.above above)

  -- ---- what is accepted

  taken_at : (c : List Order) (t : Turn) (m : Model) (part : Part) (named : ℕ → Bool) → IsLater c t (hand m)
      → (not (now m).course.halted && is_accepted part (asked_of (hand m)) (may_begin_in (now m)) named)
      ≡ (not (world_of t).course.halted && is_accepted part (asked_of t) (may_begin_in (world_of t)) named)
  taken_at c t m part named is =
      ap (λ (w : World). not w.course.halted && is_accepted part (asked_of (hand m)) (may_begin_in w) named) (world_at c t m is)
      ∙ ap (λ (q : Option Question). not (world_of t).course.halted && is_accepted part q (may_begin_in (world_of t)) named)
      (asked_later c t (hand m) is)

  taken_same : (m n : Model) (x : Alike a b m n) (part : Part) → IsTaken m part → length (now m).given < 2 ^ 64 → IsTaken n (less_part part)
  taken_same m n x (Begins at cause) taken many =
      taken_at b x.common n (Begins at cause) (can_be_named n) x.other ∙ sym (taken_at a x.common m (Begins at cause) (can_be_named m) x.one) ∙ taken
  taken_same m n x (Answers reply) taken many =
      taken_at b x.common n (Answers reply) (can_be_named n) x.other ∙ sym (taken_at a x.common m (Answers reply) (can_be_named m) x.one) ∙ taken
  taken_same m n x (Fails number) taken many =
      let halves = both (not (now m).course.halted) (can_be_named m number) taken in
      let can = both (can_fail (failure_named m number)) (list_all (λ k. nat_lt k number) m.named) halves.1 in
      let above = named_above m n x number can.0 many in
      let going : not (now n).course.halted ≡ true =
      ap (λ (w : World). not w.course.halted) (world_at b x.common n x.other)
      ∙ sym (ap (λ (w : World). not w.course.halted) (world_at a x.common m x.one)) ∙ halves.0 in
      together (not (now n).course.halted) (can_be_named n (less number)) going (named_same m n x number above ∙ halves.1)

  -- ---- what comes next

  next_same : (m n : Model) (x : Alike a b m n) (part : Part) → IsTaken m part → length (now m).given < 2 ^ 64
      → Alike a b (next_part m part) (next_part n (less_part part))
  next_same m n x (Begins at cause) taken many =
      let w = world_of x.common in record {
        common = turn cause at w;
        one = subst (λ (v : World). IsLater a (turn cause at w) (turn cause at v)) (sym (world_at a x.common m x.one)) (turn_later a cause at w);
        other = subst (λ (v : World). IsLater b (turn cause at w) (turn cause at v)) (sym (world_at b x.common n x.other)) (turn_later b cause at w);
        since = length w.given;
        one_since = size_at a x.common m x.one;
        other_since = size_at b x.common n x.other;
        named = refl;
        above = tt;
        within = many;
      }
  next_same m n x (Answers reply) taken many =
      let f = followed.Answered reply in record {
        common = come x.common f;
        one = subst (λ (t : Turn). IsLater a (come x.common f) t) (sym (came_more (turn_of m.begun m.base) m.followed (f ∷ [])))
            (come_later a x.common (hand m) f x.one);
        other = subst (λ (t : Turn). IsLater b (come x.common f) t) (sym (came_more (turn_of n.begun n.base) n.followed (f ∷ [])))
            (come_later b x.common (hand n) f x.other);
        since = length (world_of x.common).given;
        one_since = size_at a x.common m x.one;
        other_since = size_at b x.common n x.other;
        named = refl;
        above = tt;
        within = many;
      }
  next_same m n x (Fails number) taken many =
      let halves = both (not (now m).course.halted) (can_be_named m number) taken in
      let can = both (can_fail (failure_named m number)) (list_all (λ k. nat_lt k number) m.named) halves.1 in
      let above = named_above m n x number can.0 many in
      let told = failures_told (failure_named m number) in
      let same : failures_told (failure_named n (less number)) ≡ told = ap failures_told (failure_same m n x number above) in
      record {
        common = came x.common told;
        one = subst (λ (t : Turn). IsLater a (came x.common told) t) (sym (came_more (turn_of m.begun m.base) m.followed told))
            (came_later a x.common (hand m) told x.one);
        other = subst (λ (t : Turn). IsLater b (came x.common told) t)
            (sym (ap (λ (fs : List Followed). came (turn_of n.begun n.base) (n.followed ++ fs)) same
            ∙ came_more (turn_of n.begun n.base) n.followed told))
            (came_later b x.common (hand n) told x.other);
        since = x.since;
        one_since = x.one_since;
        other_since = x.other_since;
        named = ap (λ (ns : List ℕ). less number ∷ ns) x.named;
        above = (above, x.above);
        within = x.within;
      }

  -- ---- what it gives

  -- the orders of a part
  abbrev orders_of : Model → Part → List Order
  orders_of m part = drop (length (now m).given) (now (next_part m part)).given

  given_at : (c : List Order) (t u : Turn) (m : Model) (part : Part) → IsLater c t (hand m) → IsLater c u (hand (next_part m part))
      → orders_of m part ≡ drop (length (world_of t).given) (world_of u).given
  given_at c t u m part is will =
      ap (λ (v : World). drop (length (now m).given) v.given) (world_at c u (next_part m part) will)
      ∙ ap (λ (k : ℕ). drop k (c ++ (world_of u).given)) (size_at c t m is)
      ∙ drop-append-add c (world_of u).given (length (world_of t).given)

  orders_same : (m n : Model) (x : Alike a b m n) (part : Part) → IsTaken m part → length (now m).given < 2 ^ 64
      → orders_of n (less_part part) ≡ orders_of m part
  orders_same m n x part taken many =
      let y = next_same m n x part taken many in
      given_at b x.common y.common n (less_part part) x.other y.other ∙ sym (given_at a x.common y.common m part x.one y.one)

  -- ---- over all inputs

  fewer : (now_given orders_given later_given rest top : ℕ) → orders_given ≡ later_given - now_given → now_given + (orders_given + rest) < top
      → later_given + rest < top
  fewer now_given orders_given later_given rest top is many = omega (arith, is, many)

  few : (given rest top : ℕ) → given + rest < top → given < top
  few given rest top many = omega (arith, many)

  pub runs_alike : (m n : Model) (is : List Input) → Alike a b m n → AreAccepted m is → length (now m).given + length (deeds m is) < 2 ^ 64
      → AreAccepted n (map one_less is) × (deeds n (map one_less is) ≡ deeds m is)
  runs_alike m n [] x accepted many = (tt, refl)
  runs_alike m n (i ∷ is) x accepted many =
      let part = part_of i in
      let within = few (length (now m).given) (length (deeds m (i ∷ is))) (2 ^ 64) many in
      let taken = taken_same m n x part accepted.0 within in
      let will : accepts n (one_less i) ≡ true = ap (λ (p : Part). is_so n p) (part_less i) ∙ taken in
      let y : Alike a b (next m i) (next n (one_less i)) =
      subst (λ (p : Part). Alike a b (next m i) (next_part n p)) (sym (part_less i)) (next_same m n x part accepted.0 within) in
      let goes : deeds m (i ∷ is) ≡ orders m i ++ deeds (next m i) is =
      ap (λ (b : Bool). if b then orders m i ++ deeds (next m i) is else deeds m is) accepted.0 in
      let size : length (orders m i ++ deeds (next m i) is) ≡ length (orders m i) + length (deeds (next m i) is) =
      length-append (orders m i) (deeds (next m i) is) in
      let rest = runs_alike (next m i) (next n (one_less i)) is y accepted.1
      (fewer (length (now m).given) (length (orders m i)) (length (now (next m i)).given) (length (deeds (next m i) is)) (2 ^ 64)
      (length-drop (length (now m).given) (now (next m i)).given)
      (subst (λ (k : ℕ). length (now m).given + k < 2 ^ 64) (ap length goes ∙ size) many)) in
      let same : orders n (one_less i) ≡ orders m i =
      ap (λ (p : Part). orders_of n p) (part_less i) ∙ orders_same m n x part accepted.0 within in (
        (will, rest.0),
        ap (λ (b : Bool). if b then orders n (one_less i) ++ deeds (next n (one_less i)) (map one_less is) else deeds n (map one_less is)) will
            ∙ ap (λ (given : List Order). given ++ deeds (next n (one_less i)) (map one_less is)) same
            ∙ ap (λ (given : List Order). orders m i ++ given) rest.1
            ∙ sym goes,
      ) where
        is_so : Model → Part → Bool
        is_so m part = not (now m).course.halted && is_accepted part (asked_of (hand m)) (may_begin_in (now m)) (can_be_named m)
