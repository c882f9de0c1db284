-- What is handed out to listeners comes with an order; and the halt with its own.
use Rattle.std.proofs.Common.{◌≡◌, ◌⊎◌, inl, inr, ℕ, zero, suc, ◌+◌, ◌-◌, ◌++◌, ◌&&◌, ◌||◌, List, [], ◌∷◌, Bool, true, false, Option, Some, None, map, if◌then◌else◌, length, ◌∙◌, refl, ap, sym, subst, append-nil, append_assoc}
use Rattle.std.specs.Prelude.{is_none, nat_le, nat_lt, slice_get}
use Rattle.std.specs.List.{flat_map, list_any}
use Rattle.std.specs.Option.{option_map, option_to_list}
use Rattle.sv_base.specs.declared.ids.Run.{Run}
use Rattle.sv_child.specs.Moves.{is_running}
use Rattle.sv_core.specs.HandingOut.{hands_from, hands_out, hands_to, ready_of, sends, sends_to}
use Rattle.sv_core.specs.Listening.{id_of}
use Rattle.sv_core.specs.Openings.{closes_links}
use Rattle.sv_core.specs.Shutdown.{drops_group, follows_plan, halts, halts_after, has_come_to_rest, moves_on, tells_group}
use Rattle.sv_core.specs.Stops.{stops_all}
use Rattle.sv_core.specs.World.{World}
use Rattle.sv_cut_laws.proofs.Both.{as_they_are}
use Rattle.sv_cut_laws.proofs.Loud.{Speaks, Starts, bare, bare_later, is_more}
use Rattle.sv_cut_laws.proofs.Past.{hands_from_past}
use Rattle.sv_groups.specs.StartOrder.{span_of}
use Rattle.sv_out.specs.declared.order.Order.{Order}
use Rattle.sv_out.specs.declared.order.Order.TheVariants as order
use Rattle.sv_pool.specs.Account.{may_take}
use Rattle.sv_pool.specs.PoolLists.{Lists, holding, took}
use Rattle.sv_pool.specs.declared.taken.Taken.{Taken}
use Rattle.sv_pool.specs.EventPools.{EventPool}
use Rattle.sv_pool.specs.Listeners.{front_written, hand_orders, handed, handed_by, is_handed, may_get, orders_to, written}
use Rattle.sv_runs.specs.RunBook.{sent}

-- ---- one listener

-- these orders begin with one that is no More
abbrev pub Talks : List Order → Type 0
Talks [] = ⊥
Talks (o ∷ os) = is_more o ≡ false

talks_first : (one other : List Order) → Talks one → Talks (one ++ other)
talks_first [] other talks = absurd talks
talks_first (o ∷ os) other talks = talks

written_talks : (server : List ℕ) (run : Run) (group : List ℕ) (waiting : List Taken) → nat_lt 0 (length waiting) ≡ true
    → Talks (option_to_list (option_map (written server run group) (slice_get waiting 0)))
written_talks server run group [] some = absurd cc
written_talks server run group (taken ∷ more) some = refl

gets_some : (place : ℕ) (lists : Lists) → may_take place lists ≡ true → nat_lt 0 (length lists.waiting) ≡ true
gets_some place lists may = by_parts (nat_lt 0 (length lists.waiting)) may where
  by_parts : (b : Bool) → ((b && nat_lt place (length lists.held)) && is_none (holding place lists.held)) ≡ true → b ≡ true
  by_parts true is = refl
  by_parts false is = absurd cc

one_pool : (server : List ℕ) (run : Run) (place : ℕ) (p : EventPool) → may_get place p ≡ true → Talks (front_written server run p)
one_pool server run place p may = by_parts (nat_le p.first place) may where
  by_parts : (b : Bool) → (b && may_take (place - p.first) p.lists) ≡ true → Talks (front_written server run p)
  by_parts true is = written_talks server run p.group p.lists.waiting (gets_some (place - p.first) p.lists is)
  by_parts false is = absurd cc

-- no pool hands out, or an order is given
abbrev pub NoneHanded : List ℕ → Run → ℕ → List EventPool → Type 0
NoneHanded server run place ps =
    (flat_map (orders_to server run place) ps ≡ []) × ((map (handed_by place) ps ≡ ps) × (list_any (may_get place) ps ≡ false))

each_pool : (server : List ℕ) (run : Run) (place : ℕ) (ps : List EventPool)
    → NoneHanded server run place ps ⊎ Talks (flat_map (orders_to server run place) ps)
each_pool server run place [] = inl (refl, (refl, refl))
each_pool server run place (p ∷ ps) = by_test (may_get place p) refl (each_pool server run place ps) where
  by_test : (b : Bool) → may_get place p ≡ b → NoneHanded server run place ps ⊎ Talks (flat_map (orders_to server run place) ps)
      → NoneHanded server run place (p ∷ ps) ⊎ Talks (flat_map (orders_to server run place) (p ∷ ps))
  by_test true may rest =
      inr (subst (λ (b : Bool). Talks ((if b then front_written server run p else []) ++ flat_map (orders_to server run place) ps)) (sym may)
      (talks_first (front_written server run p) (flat_map (orders_to server run place) ps) (one_pool server run place p may)))
  by_test false may (inl none) = inl (
    ap (λ (b : Bool). (if b then front_written server run p else []) ++ flat_map (orders_to server run place) ps) may ∙ none.0,
    (
      ap (λ (x : EventPool). x ∷ map (handed_by place) ps) (unhanded may) ∙ ap (λ (xs : List EventPool). p ∷ xs) none.1.0,
      ap (λ (b : Bool). b || list_any (may_get place) ps) may ∙ none.1.1,
    ),
  ) where
    unhanded : may_get place p ≡ false → handed_by place p ≡ p
    unhanded is = ap (λ (b : Bool). if b then record p { lists = took (place - p.first) p.lists } else p) is
  by_test false may (inr talks) =
      inr (subst (λ (b : Bool). Talks ((if b then front_written server run p else []) ++ flat_map (orders_to server run place) ps)) (sym may) talks)

-- ---- all listeners

-- an order that is no More is given
talks_given : (w v : World) (more : List Order) → Talks more → v.given ≡ w.given ++ more → Speaks w.given v.given
talks_given w v [] talks is = absurd talks
talks_given w v (o ∷ os) talks is = record { first = o; rest = os; is = is; other = talks }

-- one listener gets nothing, or an order is given
one_handed : (run : Option Run) (c : ℕ) (w : World) → (sends_to run c w ≡ w) ⊎ Speaks w.given (sends_to run c w).given
one_handed None c w = inl refl
one_handed (Some run) c w = by_pools (each_pool w.config.identifier run (id_of c) w.pools.each) where
  by_pools : NoneHanded w.config.identifier run (id_of c) w.pools.each ⊎ Talks (flat_map (orders_to w.config.identifier run (id_of c)) w.pools.each)
      → (sends run c w ≡ w) ⊎ Speaks w.given (sends run c w).given
  by_pools (inr talks) = inr (talks_given w (sends run c w) (hand_orders w.config.identifier run (id_of c) w.pools) talks refl)
  by_pools (inl none) =
      inl (ap (λ (os : List Order). record w {
        pools = handed (id_of c) w.pools;
        runs = if is_handed (id_of c) w.pools then sent run w.runs else w.runs;
        given = w.given ++ os;
      }) none.0
      ∙ ap (λ (ps : List EventPool). record w {
        pools = record w.pools { each = ps };
        runs = if is_handed (id_of c) w.pools then sent run w.runs else w.runs;
        given = w.given ++ [];
      }) none.1.0
      ∙ ap (λ (b : Bool). record w { runs = if b then sent run w.runs else w.runs; given = w.given ++ [] }) none.1.1
      ∙ ap (λ (given : List Order). record w { given = given }) (append-nil w.given))

more_handed : (left c : ℕ) (w : World) → Starts w.given (hands_from left c w).given
more_handed left c w = (
  (hands_from left c (bare w)).given,
  ap (λ (v : World). v.given)
      (ap (λ (v : World). hands_from left c v) (sym (bare_later w)) ∙ hands_from_past w.given as_they_are left c (bare w)),
)

-- what comes later comes after it
pub speaks_still : (given now all : List Order) → Speaks given now → Starts now all → Speaks given all
speaks_still given now all speaks more = record {
  first = speaks.first;
  rest = speaks.rest ++ more.0;
  is = more.1 ∙ ap (λ (x : List Order). x ++ more.0) speaks.is ∙ append_assoc given (speaks.first ∷ speaks.rest) more.0;
  other = speaks.other;
}

hand_each : (left c : ℕ) (w : World) → (hands_from left c w ≡ w) ⊎ Speaks w.given (hands_from left c w).given
hand_each zero c w = inl refl
hand_each (suc left) c w = by_first (one_handed (ready_of (slice_get w.children.all c) w.runs) c w) (hand_each left (c + 1) w) where
  by_first : (hands_to c w ≡ w) ⊎ Speaks w.given (hands_to c w).given
      → (hands_from left (c + 1) w ≡ w) ⊎ Speaks w.given (hands_from left (c + 1) w).given
      → (hands_from left (c + 1) (hands_to c w) ≡ w) ⊎ Speaks w.given (hands_from left (c + 1) (hands_to c w)).given
  by_first (inl same) (inl rest) = inl (ap (λ (v : World). hands_from left (c + 1) v) same ∙ rest)
  by_first (inl same) (inr talks) = inr (subst (λ (v : World). Speaks w.given (hands_from left (c + 1) v).given) (sym same) talks)
  by_first (inr talks) rest =
      inr (speaks_still w.given (hands_to c w).given (hands_from left (c + 1) (hands_to c w)).given talks (more_handed left (c + 1) (hands_to c w)))

pub handed_out : (w : World) → (hands_out w ≡ w) ⊎ Speaks w.given (hands_out w).given
handed_out w = hand_each (length w.children.all - 0) 0 w

-- ---- the plan and the halt

-- the stop plan was followed: the daemon doesn't end, or no group is left, or the last of them was told to stop and isn't at rest
pub data IsFollowed (w : World) : Type 0 where
  runs : is_running w.course.mood ≡ true → IsFollowed w
  over : w.course.left ≡ 0 → IsFollowed w
  waits : (left : ℕ) → w.course.left ≡ suc left → w.course.is_told ≡ true → has_come_to_rest left w ≡ false → IsFollowed w

told_once : (left : ℕ) (w : World) → w.course.is_told ≡ true → tells_group left w ≡ w
told_once left w told =
    ap (λ (b : Bool). if b || has_come_to_rest left w then w
    else stops_all (span_of left w.children.roster) (record w { course = record w.course { is_told = true } })) told

moves_nowhere : (n left : ℕ) (w : World) → n ≡ suc left → w.course.is_told ≡ true → has_come_to_rest left w ≡ false → moves_on n w ≡ w
moves_nowhere n left w is told rest =
    ap (λ (m : ℕ). moves_on m w) is
    ∙ ap (λ (v : World). if has_come_to_rest left v then moves_on left (drops_group left v) else v) (told_once left w told)
    ∙ ap (λ (b : Bool). if b then moves_on left (drops_group left w) else w) rest

pub followed_once : (w : World) → IsFollowed w → follows_plan w ≡ w
followed_once w (runs mood) = ap (λ (b : Bool). if b then w else moves_on w.course.left w) mood
followed_once w (over left) = by_mood (is_running w.course.mood) where
  by_mood : (b : Bool) → (if b then w else moves_on w.course.left w) ≡ w
  by_mood true = refl
  by_mood false = ap (λ (n : ℕ). moves_on n w) left
followed_once w (waits left is told rest) = by_mood (is_running w.course.mood) where
  by_mood : (b : Bool) → (if b then w else moves_on w.course.left w) ≡ w
  by_mood true = refl
  by_mood false = moves_nowhere w.course.left left w is told rest

-- the daemon halts, or nothing changes
pub halted_or : (w : World) → (halts w ≡ w) ⊎ ((before : List Order) × ((halts w).given ≡ before ++ order.Halt ∷ []))
halted_or w = by_mood (is_running w.course.mood) (by_left w.course.left) where
  by_left : (left : ℕ) → (halts_after left w ≡ w) ⊎ ((before : List Order) × ((halts_after left w).given ≡ before ++ order.Halt ∷ []))
  by_left zero = inr ((closes_links w).given, refl)
  by_left (suc left) = inl refl

  by_mood : (b : Bool) → (halts_after w.course.left w ≡ w) ⊎ ((before : List Order) × ((halts_after w.course.left w).given ≡ before ++ order.Halt ∷ []))
      → ((if b then w else halts_after w.course.left w) ≡ w)
      ⊎ ((before : List Order) × ((if b then w else halts_after w.course.left w).given ≡ before ++ order.Halt ∷ []))
  by_mood true rest = inl refl
  by_mood false rest = rest
