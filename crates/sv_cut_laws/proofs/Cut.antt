-- An idle cut changes nothing, over all that comes before and after it.
use Rattle.std.proofs.Common.{◌≡◌, ◌≤◌, ◌<◌, ◌+◌, ◌-◌, ◌^◌, ◌++◌, ◌&&◌, ℕ, suc, List, [], ◌∷◌, Bool, true, length, drop, map, if◌then◌else◌, ◌∙◌, refl, ap, sym, subst, append_assoc, arith}
use Rattle.std.specs.Prelude.{is_none, not}
use Rattle.std.proofs.Math.Seq.{drop-append_seam}
use Rattle.std.proofs.lemmas.List.{length-append, length-drop}
use Rattle.sv_base.specs.declared.ids.LinkId.{LinkId}
use Rattle.sv_core.specs.Deeds.{after, deeds}
use Rattle.sv_core.specs.MachineState.{Model, accepts, hand, next, now, orders}
use Rattle.sv_core.specs.Sweeps.{Turn}
use Rattle.sv_core.specs.Sweeps.Turn.{Done, Ask}
use Rattle.sv_core.specs.Turn.{after_pass, asked_of, turn, world_of}
use Rattle.sv_core.specs.World.{World}
use Rattle.sv_core.specs.declared.part.Cause.{Cause}
use Rattle.sv_core.specs.declared.part.Cause.TheVariants as cause_is
use Rattle.sv_cut_laws.proofs.Alike.{Alike, both, runs_alike}
use Rattle.sv_cut_laws.proofs.Both.{later}
use Rattle.sv_cut_laws.proofs.Followed.{Ends, after_ends, ended_so}
use Rattle.sv_cut_laws.proofs.Handing.{IsFollowed}
use Rattle.sv_cut_laws.proofs.Handing.IsFollowed.{runs as runs_on, over, waits}
use Rattle.sv_cut_laws.proofs.HaveRuns.{HaveRuns}
use Rattle.sv_cut_laws.proofs.IdleTurn.{brought, one_is, two_are}
use Rattle.sv_cut_laws.proofs.Keeps.{Keeps}
use Rattle.sv_cut_laws.proofs.Loud.{bare, bare_later}
use Rattle.sv_cut_laws.proofs.Reached.{after_keeps, runs_so}
use Rattle.sv_cut_laws.proofs.Serves.{AllServe, all_served, sent_fed}
use Rattle.sv_cut_laws.proofs.Turns.{IsLater, after_pass_later, still_later, turn_later, world_later}
use Rattle.sv_cut_laws.specs.IdleCut.{AreAccepted, AreFit, ChangesNothing, Cut, IsIdle, one_less}
use Rattle.sv_links.specs.LinkBook.{busy_links, fed, is_issued, takes_piece}
use Rattle.sv_out.specs.declared.input.Input.{Input}
use Rattle.sv_out.specs.declared.input.Input.TheVariants.{Piece}
use Rattle.sv_out.specs.declared.order.Order.{Order}
use Rattle.sv_out.specs.declared.order.Order.TheVariants as order

-- ---- lists of inputs

accepted_parts : (m : Model) (xs ys : List Input) → AreAccepted m (xs ++ ys) → AreAccepted m xs × AreAccepted (after m xs) ys
accepted_parts m [] ys are = (tt, are)
accepted_parts m (i ∷ xs) ys are =
    let rest = accepted_parts (next m i) xs ys are.1 in (
      (are.0, rest.0),
      subst (λ (n : Model). AreAccepted n ys) (sym (ap (λ (b : Bool). if b then after (next m i) xs else after m xs) are.0)) rest.1,
    )

accepted_both : (m : Model) (xs ys : List Input) → AreAccepted m xs → AreAccepted (after m xs) ys → AreAccepted m (xs ++ ys)
accepted_both m [] ys one other = other
accepted_both m (i ∷ xs) ys one other = (
  one.0,
  accepted_both (next m i) xs ys one.1
      (subst (λ (n : Model). AreAccepted n ys) (ap (λ (b : Bool). if b then after (next m i) xs else after m xs) one.0) other),
)

deeds_next : (m : Model) (i : Input) (is : List Input) → accepts m i ≡ true → deeds m (i ∷ is) ≡ orders m i ++ deeds (next m i) is
deeds_next m i is accepted = ap (λ (b : Bool). if b then orders m i ++ deeds (next m i) is else deeds m is) accepted

deeds_parts : (m : Model) (xs ys : List Input) → AreAccepted m xs → deeds m (xs ++ ys) ≡ deeds m xs ++ deeds (after m xs) ys
deeds_parts m [] ys are = refl
deeds_parts m (i ∷ xs) ys are =
    deeds_next m i (xs ++ ys) are.0
    ∙ ap (λ (given : List Order). orders m i ++ given) (deeds_parts (next m i) xs ys are.1)
    ∙ sym (append_assoc (orders m i) (deeds (next m i) xs) (deeds (after (next m i) xs) ys))
    ∙ ap (λ (given : List Order). given ++ deeds (after (next m i) xs) ys) (sym (deeds_next m i xs are.0))
    ∙ ap (λ (n : Model). deeds m (i ∷ xs) ++ deeds n ys) (sym (ap (λ (b : Bool). if b then after (next m i) xs else after m xs) are.0))

-- what was given is no more than what was given before, and the deeds
at_most : (a b c d e : ℕ) → c ≡ b - a → d ≤ b + e → d ≤ a + (c + e)
at_most a b c d e is many = omega (arith, is, many)

grows_within : (m : Model) (xs : List Input) → AreAccepted m xs → length (now (after m xs)).given ≤ length (now m).given + length (deeds m xs)
grows_within m [] are = omega arith
grows_within m (i ∷ xs) are =
    subst (λ (n : Model). length (now n).given ≤ length (now m).given + length (deeds m (i ∷ xs)))
    (sym (ap (λ (b : Bool). if b then after (next m i) xs else after m xs) are.0))
    (subst (λ (k : ℕ). length (now (after (next m i) xs)).given ≤ length (now m).given + k)
    (sym (ap length (deeds_next m i xs are.0) ∙ length-append (orders m i) (deeds (next m i) xs)))
    (at_most (length (now m).given) (length (now (next m i)).given) (length (orders m i)) (length (now (after (next m i) xs)).given)
    (length (deeds (next m i) xs)) (length-drop (length (now m).given) (now (next m i)).given) (grows_within (next m i) xs are.1)))

-- ---- the two pieces

none_asked : (t : Turn) → is_none (asked_of t) ≡ true → (v : World) × (t ≡ Done v)
none_asked (Done v) none = (v, refl)
none_asked (Ask w q k) none = absurd cc

-- the world of an earlier turn, where others were given before
done_later : (a : List Order) (t : Turn) (v : World) → IsLater a t (Done v) → (u : World) × ((t ≡ Done u) × (v ≡ later a u))
done_later a (Done u) v is = (u, (refl, is))
done_later a (Ask w q k) v is = absurd is

same_all : (m : Model) (part : Bool) → (not (now m).course.halted && part) ≡ true → part ≡ true
same_all m part is = (both (not (now m).course.halted) part is).1

module _ (m : Model) (at : ℕ) (link : LinkId) (p q : List ℕ)
    (runs : HaveRuns (now m).children.all) (followed : IsFollowed (now m))
    (fit : AreFit (now m))
    (one : accepts m (Piece at link p) ≡ true) (two : accepts (next m (Piece at link p)) (Piece at link q) ≡ true)
    (more : orders m (Piece at link p) ≡ order.More link ∷ []) where
  abbrev w : World
  w = now m

  abbrev g : List Order
  g = w.given

  abbrev first : Cause
  first = cause_is.Brought link p

  abbrev second : Cause
  second = cause_is.Brought link q

  abbrev given_more : List Order
  given_more = order.More link ∷ []

  begins : (n : Model) (bytes : List ℕ) → accepts n (Piece at link bytes) ≡ true
      → (is_none (asked_of (hand n)) ≡ true) × ((is_issued link (now n).links && takes_piece link (now n).links) ≡ true)
  begins n bytes accepted =
      both (is_none (asked_of (hand n))) (is_issued link (now n).links && takes_piece link (now n).links)
      (same_all n (is_none (asked_of (hand n)) && (is_issued link (now n).links && takes_piece link (now n).links)) accepted)

  takes : takes_piece link w.links ≡ true
  takes = (both (is_issued link w.links) (takes_piece link w.links) (begins m p one).1).1

  -- the turn of the first piece is done
  done : (v : World) × (turn first at w ≡ Done v)
  done = none_asked (turn first at w) (begins (next m (Piece at link p)) q two).0

  -- as it is where nothing was given before
  from_bare : (cause : Cause) → IsLater g (turn cause at (bare w)) (turn cause at w)
  from_bare cause = subst (λ (x : World). IsLater g (turn cause at (bare w)) (turn cause at x)) (bare_later w) (turn_later g cause at (bare w))

  bare_done : (u : World) × ((turn first at (bare w) ≡ Done u) × (done.0 ≡ later g u))
  bare_done = done_later g (turn first at (bare w)) done.0 (subst (λ (t : Turn). IsLater g (turn first at (bare w)) t) done.1 (from_bare first))

  -- where it gives More alone
  bare_more : bare_done.0.given ≡ given_more
  bare_more =
      sym (drop-append_seam g bare_done.0.given)
      ∙ sym (ap (λ (x : World). drop (length g) x.given) bare_done.1.1)
      ∙ sym (ap (λ (t : Turn). drop (length g) (world_of t).given) done.1)
      ∙ more

  abbrev last : World
  last = brought at link (bare w) (p ++ q)

  serving : AllServe (busy_links (fed link p w.links)) (brought at link (bare w) p)
  serving =
      all_served (busy_links (fed link p w.links)) (brought at link (bare w) p) (λ other is. sent_fed link p other w.links ∙ fit other is)

  bare_followed : IsFollowed w → IsFollowed (bare w)
  bare_followed (runs_on mood) = runs_on mood
  bare_followed (over left) = over left
  bare_followed (waits left is told rest) = waits left is told rest

  -- the second piece after the first
  second_bare : turn second at bare_done.0 ≡ after_pass (later given_more last)
  second_bare =
      two_are at link (bare w) p q bare_done.0 refl runs (bare_followed followed) takes
      serving bare_done.1.0 bare_more

  -- both together
  together_bare : turn (cause_is.Brought link (p ++ q)) at (bare w) ≡ after_pass last
  together_bare =
      one_is at link (bare w) p q bare_done.0 refl runs (bare_followed followed) takes
      serving bare_done.1.0 bare_more

  cut_turn : IsLater (g ++ given_more) (after_pass last) (turn second at (world_of (turn first at w)))
  cut_turn =
      still_later given_more g (after_pass last) (after_pass (later given_more last)) (turn second at (world_of (turn first at w)))
      (after_pass_later given_more last)
      (subst (λ (x : World). IsLater g (after_pass (later given_more last)) (turn second at x))
      (sym (ap world_of done.1 ∙ bare_done.1.1))
      (subst (λ (t : Turn). IsLater g t (turn second at (later g bare_done.0))) second_bare (turn_later g second at bare_done.0)))

  whole_turn : IsLater g (after_pass last) (turn (cause_is.Brought link (p ++ q)) at w)
  whole_turn = subst (λ (t : Turn). IsLater g t (turn (cause_is.Brought link (p ++ q)) at w)) together_bare (from_bare (cause_is.Brought link (p ++ q)))

  abbrev cut : Model
  cut = next (next m (Piece at link p)) (Piece at link q)

  abbrev whole : Model
  whole = next m (Piece at link (p ++ q))

  size_more : length (g ++ given_more) ≡ suc (length g)
  size_more = length-append g given_more ∙ plus_one (length g) where
    plus_one : (n : ℕ) → n + 1 ≡ suc n
    plus_one n = omega arith

  given_cut : (now (next m (Piece at link p))).given ≡ g ++ given_more
  given_cut =
      ap (λ (x : World). x.given) (ap world_of done.1 ∙ bare_done.1.1) ∙ ap (λ (os : List Order). g ++ os) bare_more

  nothing_more : (n : ℕ) → n ≡ n + 0
  nothing_more n = omega arith

  cut_alike : length (now (next m (Piece at link p))).given < 2 ^ 64 → Alike (g ++ given_more) g cut whole
  cut_alike many = record {
    common = after_pass last;
    one = cut_turn;
    other = whole_turn;
    since = 0;
    one_since = ap length given_cut ∙ nothing_more (length (g ++ given_more));
    other_since = nothing_more (length g);
    named = refl;
    above = tt;
    within = many;
  }

  -- it is accepted
  whole_accepted : accepts m (Piece at link (p ++ q)) ≡ true
  whole_accepted = one

  given_then : List Order
  given_then = (world_of (after_pass last)).given

  cut_orders : orders (next m (Piece at link p)) (Piece at link q) ≡ given_then
  unfolding given_then
  cut_orders =
      ap (λ (given : List Order). drop (length given) (now cut).given) given_cut
      ∙ ap (λ (x : World). drop (length (g ++ given_more)) x.given) (world_later (g ++ given_more) (after_pass last) (hand cut) cut_turn)
      ∙ drop-append_seam (g ++ given_more) given_then

  whole_orders : orders m (Piece at link (p ++ q)) ≡ given_then
  unfolding given_then
  whole_orders =
      ap (λ (x : World). drop (length g) x.given) (world_later g (after_pass last) (hand whole) whole_turn) ∙ drop-append_seam g given_then

  -- and what comes later
  module _ (inputs : List Input) (rest : AreAccepted cut inputs)
      (many : length (now m).given + length (deeds m (Piece at link p ∷ Piece at link q ∷ inputs)) < 2 ^ 64) where
    all_deeds : deeds m (Piece at link p ∷ Piece at link q ∷ inputs) ≡ order.More link ∷ (given_then ++ deeds cut inputs)
    all_deeds =
        deeds_next m (Piece at link p) (Piece at link q ∷ inputs) one
        ∙ ap (λ (os : List Order). os ++ deeds (next m (Piece at link p)) (Piece at link q ∷ inputs)) more
        ∙ ap (λ (os : List Order). order.More link ∷ os)
        (deeds_next (next m (Piece at link p)) (Piece at link q) inputs two ∙ ap (λ (os : List Order). os ++ deeds cut inputs) cut_orders)

    sizes : length (deeds m (Piece at link p ∷ Piece at link q ∷ inputs)) ≡ suc (length given_then + length (deeds cut inputs))
    sizes = ap length all_deeds ∙ ap (λ (n : ℕ). suc n) (length-append given_then (deeds cut inputs))

    size_first : length (now (next m (Piece at link p))).given ≡ suc (length g)
    size_first = ap length given_cut ∙ size_more

    size_cut : length (now cut).given ≡ suc (length g) + length given_then
    unfolding given_then
    size_cut =
        ap (λ (x : World). length x.given) (world_later (g ++ given_more) (after_pass last) (hand cut) cut_turn)
        ∙ length-append (g ++ given_more) given_then ∙ ap (λ (n : ℕ). n + length given_then) size_more

    few : (a b c all top : ℕ) → all ≡ suc (b + c) → a + all < top → (suc a < top) × ((suc a + b) + c < top)
    few a b c all top is many = (omega (arith, is, many), omega (arith, is, many))

    bounds : (suc (length g) < 2 ^ 64) × ((suc (length g) + length given_then) + length (deeds cut inputs) < 2 ^ 64)
    bounds =
        few (length g) (length given_then) (length (deeds cut inputs)) (length (deeds m (Piece at link p ∷ Piece at link q ∷ inputs))) (2 ^ 64) sizes many

    runs_on_so : AreAccepted whole (map one_less inputs) × (deeds whole (map one_less inputs) ≡ deeds cut inputs)
    runs_on_so =
        runs_alike (g ++ given_more) g size_more cut whole inputs (cut_alike (subst (λ (n : ℕ). n < 2 ^ 64) (sym size_first) bounds.0)) rest
        (subst (λ (n : ℕ). n + length (deeds cut inputs) < 2 ^ 64) (sym size_cut) bounds.1)

    pub accepted_whole : AreAccepted m (Piece at link (p ++ q) ∷ map one_less inputs)
    accepted_whole = (whole_accepted, runs_on_so.0)

    pub deeds_of_whole : order.More link ∷ deeds m (Piece at link (p ++ q) ∷ map one_less inputs)
        ≡ deeds m (Piece at link p ∷ Piece at link q ∷ inputs)
    deeds_of_whole =
        ap (λ (os : List Order). order.More link ∷ os)
        (deeds_next m (Piece at link (p ++ q)) (map one_less inputs) whole_accepted
        ∙ ap (λ (os : List Order). os ++ deeds whole (map one_less inputs)) whole_orders
        ∙ ap (λ (os : List Order). given_then ++ os) runs_on_so.1)
        ∙ sym all_deeds

-- ---- all inputs

within : (m : Model) (before rest : List Input) (given : ℕ) → AreAccepted m before → given ≡ length (now (after m before)).given
    → (now m).given ≡ [] → length (deeds m before ++ deeds (after m before) rest) < 2 ^ 64 → given + length (deeds (after m before) rest) < 2 ^ 64
within m before rest given accepted is none few =
    by_size (length (deeds m before)) (length (deeds (after m before) rest)) given (length (now m).given) (2 ^ 64) (ap length none)
    (subst (λ (n : ℕ). n ≤ length (now m).given + length (deeds m before)) (sym is) (grows_within m before accepted))
    (subst (λ (n : ℕ). n < 2 ^ 64) (length-append (deeds m before) (deeds (after m before) rest)) few) where
      by_size : (a b c d top : ℕ) → d ≡ 0 → c ≤ d + a → a + b < top → c + b < top
      by_size a b c d top none most few = omega (arith, none, most, few)

-- a piece is accepted while no question stands
asked_none : (m : Model) (at : ℕ) (link : LinkId) (bytes : List ℕ) → accepts m (Piece at link bytes) ≡ true → is_none (asked_of (hand m)) ≡ true
asked_none m at link bytes accepted =
    (both (is_none (asked_of (hand m))) (is_issued link (now m).links && takes_piece link (now m).links)
    (same_all m (is_none (asked_of (hand m)) && (is_issued link (now m).links && takes_piece link (now m).links)) accepted)).0

pub cut_changes_nothing : (m : Model) (c : Cut) → (now m).given ≡ [] → Ends IsFollowed (hand m) → Keeps (hand m) → IsIdle m c
    → ChangesNothing m c
cut_changes_nothing m c none ends keeps idle =
    let one = Piece c.at c.link c.first in
    let two = Piece c.at c.link c.second in
    let rest = one ∷ two ∷ c.later in
    let n = after m c.before in
    let parts = accepted_parts m c.before rest idle.accepted in
    let few = within m c.before rest (length (now n).given) parts.0 refl none
    (subst (λ (os : List Order). length os < 2 ^ 64) (deeds_parts m c.before rest parts.0) idle.few) in
    let free = asked_none n c.at c.link c.first parts.1.0 in
    let followed = ended_so (hand n) free (after_ends m c.before ends) in
    let runs = runs_so (hand n) free (after_keeps m c.before keeps) in
    let accepted = accepted_whole n c.at c.link c.first c.second runs followed idle.fit parts.1.0 parts.1.1.0 idle.more
    c.later parts.1.1.1 few in
    let same = deeds_of_whole n c.at c.link c.first c.second runs followed idle.fit parts.1.0 parts.1.1.0 idle.more
    c.later parts.1.1.1 few in
    let whole = Piece c.at c.link (c.first ++ c.second) ∷ map one_less c.later in
    record {
      accepted = accepted_both m c.before whole parts.0 accepted;
      rest = deeds n whole;
      cut = deeds_parts m c.before rest parts.0 ∙ ap (λ (os : List Order). deeds m c.before ++ os) (sym same);
      whole = deeds_parts m c.before whole parts.0;
    }
