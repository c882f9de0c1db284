-- The machine and the counts of its orders go on together.
use Rattle.std.proofs.Common.{arith, ◌≡◌, ◌≤◌, ◌<◌, ◌+◌, ◌-◌, ℕ, zero, suc, List, [], ◌∷◌, ◌++◌, Bool, true, false, Option, Some, None, inl, inr, append-nil, append_assoc, filter, length, length-append, refl, subst, sym, ap, ◌∙◌}
use Rattle.std.proofs.lemmas.Bool.{cases_lt}
use Rattle.std.proofs.lemmas.List.Elements.{filter-append}
use Rattle.std.proofs.lemmas.Option.{same_Some}
use Rattle.sv_core.proofs.Standing.{accepts_is, awaits_is}
use Rattle.sv_core.specs.Deeds.{after, deeds}
use Rattle.sv_core.specs.MachineState.{Model, accepts, hand, next, now, orders}
use Rattle.sv_core.specs.StandsFor.{StandsFor, is_fitting}
use Rattle.sv_core.specs.Sweeps.{Turn}
use Rattle.sv_core.specs.Sweeps.Turn.{Done, Ask}
use Rattle.sv_core.specs.Turn.{come, is_asking, world_of}
use Rattle.sv_core.specs.declared.machine.Machine.{Machine}
use Rattle.sv_core.specs.declared.part.Followed.TheVariants as followed
use Rattle.sv_core.specs.declared.part.Reply.TheVariants.{Started}
use Rattle.sv_core_laws.proofs.Reported.{all_given}
use Rattle.sv_generated.specs.Drawn.{HasDrawn, nth_draw}
use Rattle.sv_generated.specs.declared.draw.Draw.{Draw}
use Rattle.sv_generated.specs.declared.generated.Generated.{Generated}
use Rattle.sv_generated.proofs.Resting.{after_one, answered_hand, deeds_one, draw_accepted, draw_asks_few, few_issued, pid_accepted}
use Rattle.sv_generated.specs.Counted.{Counted, edges, is_edge, is_kill, is_spawn, kills, spawns}
use Rattle.sv_generated.specs.Generated.{answered, answers, input_of, inputs_after, process_of, with_draw}
use Rattle.sv_generated.specs.Taken.{AsksFew, Beginning, IsAfter, IsAsking, first_of}
use Rattle.sv_generated.specs.declared.counts.Counts.{Counts}
use Rattle.sv_groups.specs.StartOrder.{processes}
use Rattle.sv_out.specs.declared.input.Input.{Input}
use Rattle.sv_out.specs.declared.input.Input.TheVariants.{Pid}
use Rattle.sv_out.specs.declared.order.Order.{Order}

counted_both : (test : Order → Bool) (one other : List Order)
    → length (filter test (one ++ other)) ≡ length (filter test one) + length (filter test other)
counted_both test one other =
    ap length (filter-append test one other) ∙ length-append (filter test one) (filter test other)

-- an input was taken, and its orders counted
pub after_more : (x y : Machine) (a b : Counts) (first : Model) (inputs : List Input) (i : Input) (given : List Order)
    → is_fitting x i ≡ true → IsAfter x a first inputs
    → ((m : Model) → StandsFor x m → StandsFor y (next m i)) → ((m : Model) → StandsFor x m → given ≡ orders m i)
    → b.spawns ≡ a.spawns + spawns given → b.kills ≡ a.kills + kills given → b.edges ≡ a.edges + edges given
    → IsAfter y b first (inputs ++ i ∷ [])
after_more x y a b first inputs i given fits is stands gives spawned killed moved =
    let m = after first inputs in
    let accepted : accepts m i ≡ true = sym (accepts_is x m i is.stands) ∙ fits in
    let told = gives m is.stands in
    let all : deeds first (inputs ++ i ∷ []) ≡ deeds first inputs ++ given =
    deeds_one first inputs i accepted ∙ ap (λ (more : List Order). deeds first inputs ++ more) (sym told) in record {
      stands = subst (λ (n : Model). StandsFor y n) (sym (after_one first inputs i accepted)) (stands m is.stands);
      counted = subst (λ (orders : List Order). Counted b orders) (sym all) (record {
        spawned = spawned ∙ ap (λ (n : ℕ). n + spawns given) is.counted.spawned
            ∙ sym (counted_both is_spawn (deeds first inputs) given);
        killed = killed ∙ ap (λ (n : ℕ). n + kills given) is.counted.killed
            ∙ sym (counted_both is_kill (deeds first inputs) given);
        moved = moved ∙ ap (λ (n : ℕ). n + edges given) is.counted.moved
            ∙ sym (counted_both is_edge (deeds first inputs) given);
      });
    }

-- ---- the answers of a turn

-- so many answers were taken since these inputs
pub record AnswersOn (x : Machine) (counts : Counts) (first : Model) (inputs : List Input) (done : ℕ) : Type 0 where
  pub taken : List Input
  pub is_after : IsAfter x counts first (inputs ++ taken)
  pub rest : answers (hand (after first inputs)) ≡ taken ++ answers (hand (after first (inputs ++ taken)))
  pub few : (all most : ℕ) → all ≡ done + most → AsksFew all (hand (after first inputs))
      → AsksFew most (hand (after first (inputs ++ taken)))

pub none_taken : (x : Machine) (counts : Counts) (first : Model) (inputs : List Input)
    → IsAfter x counts first inputs → AnswersOn x counts first inputs 0
none_taken x counts first inputs is =
    let none : inputs ≡ inputs ++ [] = sym (append-nil inputs) in record {
      taken = [];
      is_after = subst (λ (all : List Input). IsAfter x counts first all) none is;
      rest = ap (λ (all : List Input). answers (hand (after first all))) none;
      few = λ all most same few.
          subst (λ (n : ℕ). AsksFew n (hand (after first (inputs ++ [])))) (no_more all most same)
          (subst (λ (all_inputs : List Input). AsksFew all (hand (after first all_inputs))) none few);
    } where
      no_more : (all most : ℕ) → all ≡ 0 + most → all ≡ most
      no_more all most same = omega arith

-- what a turn that asks is answered next, and how it goes on
record Asked (t : Turn) (spawned : ℕ) : Type 0 where
  next : answers t ≡ Pid (process_of spawned) ∷ answers (come t (followed.Answered (Started (process_of spawned))))
  fewer : (most : ℕ) → AsksFew (suc most) t → AsksFew most (come t (followed.Answered (Started (process_of spawned))))

asked_next : (t : Turn) → is_asking t ≡ true → Asked t (spawns (world_of t).given)
asked_next (Done w) asks = cc
asked_next (Ask w question onward) asks = record {
  next = refl;
  fewer = λ most few. few.3 (process_of (spawns w.given));
}

-- the count of spawns is that of the world
counted_here : (x : Machine) (counts : Counts) (begins : Beginning) (inputs : List Input)
    → IsAfter x counts (first_of begins) inputs
    → counts.spawns ≡ spawns (now (after (first_of begins) inputs)).given
counted_here x counts begins inputs is = is.counted.spawned
    ∙ ap spawns (sym (all_given begins.config begins.sizes begins.host inputs))

-- one more answer was taken
pub one_answered : (x y : Machine) (a b : Counts) (begins : Beginning) (inputs : List Input) (done : ℕ)
    → AnswersOn x a (first_of begins) inputs done
    → ((m : Model) → StandsFor x m → true ≡ is_asking (hand m))
    → is_fitting x (Pid (process_of a.spawns)) ≡ true
    → ((first : Model) (before : List Input) → IsAfter x a first before
    → IsAfter y b first (before ++ Pid (process_of a.spawns) ∷ []))
    → AnswersOn y b (first_of begins) inputs (done + 1)
one_answered x y a b begins inputs done on asks fits taken =
    let first = first_of begins in
    let before = inputs ++ on.taken in
    let m = after first before in
    let answer = Pid (process_of a.spawns) in
    let asked = asked_next (hand m) (sym (asks m on.is_after.stands)) in
    let spawned = counted_here x a begins before on.is_after in
    let told : Asked (hand m) a.spawns = subst (λ (n : ℕ). Asked (hand m) n) (sym spawned) asked in
    let accepted : accepts m answer ≡ true = sym (accepts_is x m answer on.is_after.stands) ∙ fits in
    let assoc : before ++ answer ∷ [] ≡ inputs ++ (on.taken ++ answer ∷ []) =
    append_assoc inputs on.taken (answer ∷ []) in
    let there : hand (after first (inputs ++ (on.taken ++ answer ∷ [])))
    ≡ come (hand m) (followed.Answered (Started (process_of a.spawns))) =
    ap (λ (all : List Input). hand (after first all)) (sym assoc) ∙ ap hand (after_one first before answer accepted)
    ∙ answered_hand m (process_of a.spawns) in record {
      taken = on.taken ++ answer ∷ [];
      is_after = subst (λ (all : List Input). IsAfter y b first all) assoc (taken first before on.is_after);
      rest = on.rest ∙ ap (λ (left : List Input). on.taken ++ left)
          (told.next ∙ ap (λ (t : Turn). answer ∷ answers t) (sym there))
          ∙ sym (append_assoc on.taken (answer ∷ [])
          (answers (hand (after first (inputs ++ (on.taken ++ answer ∷ []))))));
      few = λ all most same few.
          subst (λ (t : Turn). AsksFew most t) (sym there)
          (told.fewer most (on.few all (suc most) (one_less all done most same) few));
    } where
      one_less : (all done most : ℕ) → all ≡ (done + 1) + most → all ≡ done + suc most
      one_less all done most same = omega arith

-- no question is left
pub all_answered : (x : Machine) (counts : Counts) (first : Model) (inputs : List Input) (done : ℕ)
    → AnswersOn x counts first inputs done
    → ((m : Model) → StandsFor x m → false ≡ is_asking (hand m)) → IsAfter x counts first (answered first inputs)
all_answered x counts first inputs done on rests =
    let t = hand (after first (inputs ++ on.taken)) in
    let none = none_left t (sym (rests (after first (inputs ++ on.taken)) on.is_after.stands)) in
    let all : on.taken ≡ answers (hand (after first inputs)) =
    sym (on.rest ∙ ap (λ (left : List Input). on.taken ++ left) none ∙ append-nil on.taken) in
    subst (λ (taken : List Input). IsAfter x counts first (inputs ++ taken)) all on.is_after where
      none_left : (t : Turn) → is_asking t ≡ false → answers t ≡ []
      none_left (Done w) rests = refl
      none_left (Ask w question onward) rests = cc

-- the question that stands can be answered, and the number of the process fits
pub record CanAnswer (x : Machine) (counts : Counts) : Type 0 where
  pub fits : is_fitting x (Pid (process_of counts.spawns)) ≡ true
  pub room : counts.spawns ≤ 4294967195

asked_can : (m : Model) (t : Turn) (most pid : ℕ) → hand m ≡ t → is_asking t ≡ true → AsksFew most t
    → (accepts m (Pid pid) ≡ true) × (spawns (world_of t).given ≤ 4294967195)
asked_can m (Done w) most pid is asks few = cc
asked_can m (Ask w question onward) zero pid is asks few = absurd few
asked_can m (Ask w question onward) (suc most) pid is asks few =
    (pid_accepted m w question onward pid is few.0 few.1, few.2)

pub can_answer : (x : Machine) (counts : Counts) (begins : Beginning) (inputs : List Input) (done most : ℕ)
    → AnswersOn x counts (first_of begins) inputs done → AsksFew (done + most) (hand (after (first_of begins) inputs))
    → ((m : Model) → StandsFor x m → true ≡ is_asking (hand m)) → CanAnswer x counts
can_answer x counts begins inputs done most on few asks =
    let before = inputs ++ on.taken in
    let m = after (first_of begins) before in
    let can =
    asked_can m (hand m) most (process_of counts.spawns) refl (sym (asks m on.is_after.stands))
    (on.few (done + most) most refl few) in record {
      fits = accepts_is x m (Pid (process_of counts.spawns)) on.is_after.stands ∙ can.0;
      room = subst (λ (n : ℕ). n ≤ 4294967195) (sym (counted_here x counts begins before on.is_after)) can.1;
    }

-- while fewer answers were taken than questions come, the question that stands can be answered
pub can_answer_at : (x before : Machine) (counts old : Counts) (asking : IsAsking before old 2050) (done : ℕ)
    → done < 2050
    → ((begins : Beginning) (inputs : List Input) → IsAfter before old (first_of begins) inputs
    → AnswersOn x counts (first_of begins) inputs done)
    → ((m : Model) → StandsFor x m → true ≡ is_asking (hand m)) → CanAnswer x counts
can_answer_at x before counts old asking done below goes asks =
    can_answer x counts asking.begins asking.inputs done (2050 - done)
    (goes asking.begins asking.inputs asking.is_after)
    (subst (λ (n : ℕ). AsksFew n (hand (after (first_of asking.begins) asking.inputs))) (omega arith) asking.few) asks

-- and then none stands
pub rests_at_end : (x before : Machine) (counts old : Counts) (asking : IsAsking before old 2050) (done : ℕ)
    → 2050 ≤ done → done ≤ 2050
    → ((begins : Beginning) (inputs : List Input) → IsAfter before old (first_of begins) inputs
    → AnswersOn x counts (first_of begins) inputs done)
    → (m : Model) → StandsFor x m → false ≡ is_asking (hand m)
rests_at_end x before counts old asking done least most goes m stands =
    let on = goes asking.begins asking.inputs asking.is_after in
    let n = after (first_of asking.begins) (asking.inputs ++ on.taken) in
    sym (none_asked (hand n) (on.few 2050 0 (omega arith) asking.few)) ∙ sym (awaits_is x n on.is_after.stands)
    ∙ awaits_is x m stands where
      none_asked : (t : Turn) → AsksFew 0 t → is_asking t ≡ false
      none_asked (Done w) few = refl
      none_asked (Ask w question onward) few = absurd few

-- ---- what is drawn

-- the generator gave the next input
pub record IsNext (old new : Generated) (number spawned : ℕ) (d : Draw) : Type 0 where
  pub below : old.drawn < number
  pub drawn : d ≡ nth_draw number old.drawn spawned
  pub has : HasDrawn new number (old.drawn + 1)

pub is_next : (old new : Generated) (number spawned : ℕ) (d : Draw) → HasDrawn old number old.drawn
    → ((number draws : ℕ) → HasDrawn old number draws → draws < number
    → (Some d ≡ Some (nth_draw number draws spawned)) × HasDrawn new number (draws + 1))
    → ((number draws : ℕ) → HasDrawn old number draws → number ≤ draws → (Some d ≡ None) × HasDrawn new number draws)
    → IsNext old new number spawned d
is_next old new number spawned d has next end = elim (cases_lt old.drawn number) [
  | inl below ↦
      let one = next number old.drawn has below in
      record { below = below; drawn = same_Some d (nth_draw number old.drawn spawned) one.0; has = one.1 }
  | inr all ↦ let none = (end number old.drawn has all).0 in cc none
]

pub none_next : (old new : Generated) (number spawned : ℕ) (r : Option Draw) → r ≡ None → HasDrawn old number old.drawn
    → ((number draws : ℕ) → HasDrawn old number draws → draws < number
    → (r ≡ Some (nth_draw number draws spawned)) × HasDrawn new number (draws + 1))
    → number ≤ old.drawn
none_next old new number spawned r none has next = elim (cases_lt old.drawn number) [
  | inl below ↦ let some = (next number old.drawn has below).0 in cc (none, some)
  | inr all ↦ all
]

module _ (begins : Beginning) (few : length (processes begins.config.groups) ≤ 1024) (number draws : ℕ) where
  pub few_spawned : (x : Machine) (counts : Counts)
      → IsAfter x counts (first_of begins) (inputs_after (first_of begins) number draws) → draws ≤ 1000000
      → counts.spawns ≤ 4294967295
  few_spawned x counts is within =
      let same = is.counted.spawned in
      let all = few_issued begins few number draws in omega arith

  pub input_is : (x : Machine) (counts : Counts) (d : Draw) (i : Input)
      → IsAfter x counts (first_of begins) (inputs_after (first_of begins) number draws)
      → d ≡ nth_draw number draws counts.spawns → i ≡ input_of d
      → i ≡ input_of (nth_draw number draws
      (spawns (deeds (first_of begins) (inputs_after (first_of begins) number draws))))
  input_is x counts d i is drawn same =
      same ∙ ap input_of drawn ∙ ap (λ (n : ℕ). input_of (nth_draw number draws n)) is.counted.spawned

  pub draw_fits : (x : Machine) (counts : Counts) (d : Draw) (i : Input)
      → IsAfter x counts (first_of begins) (inputs_after (first_of begins) number draws)
      → d ≡ nth_draw number draws counts.spawns → i ≡ input_of d → is_fitting x i ≡ true
  draw_fits x counts d i is drawn same =
      let m = after (first_of begins) (inputs_after (first_of begins) number draws) in
      accepts_is x m i is.stands ∙ ap (λ (input : Input). accepts m input) (input_is x counts d i is drawn same)
      ∙ draw_accepted begins few number draws

  pub draw_asking : (x y : Machine) (counts later : Counts) (d : Draw) (i : Input)
      → IsAfter x counts (first_of begins) (inputs_after (first_of begins) number draws)
      → d ≡ nth_draw number draws counts.spawns → i ≡ input_of d
      → IsAfter y later (first_of begins) (inputs_after (first_of begins) number draws ++ i ∷ []) → draws < 1000000
      → IsAsking y later 2050
  draw_asking x y counts later d i is drawn same taken below =
      let first = first_of begins in
      let all = inputs_after first number draws in record {
        begins = begins;
        inputs = with_draw first number draws all;
        is_after = subst (λ (input : Input). IsAfter y later first (all ++ input ∷ []))
            (input_is x counts d i is drawn same) taken;
        few = draw_asks_few begins few number draws below;
      }

  pub draw_answered : (x y : Machine) (counts later : Counts) (d : Draw) (i : Input) (next : ℕ)
      → IsAfter x counts (first_of begins) (inputs_after (first_of begins) number draws)
      → d ≡ nth_draw number draws counts.spawns → i ≡ input_of d → next ≡ draws + 1
      → IsAfter y later (first_of begins)
      (answered (first_of begins) (inputs_after (first_of begins) number draws ++ i ∷ []))
      → IsAfter y later (first_of begins) (inputs_after (first_of begins) number next)
  draw_answered x y counts later d i next is drawn same more taken =
      let first = first_of begins in
      let all = inputs_after first number draws in
      subst (λ (n : ℕ). IsAfter y later first (inputs_after first number n)) (one_more next draws more)
      (subst (λ (input : Input). IsAfter y later first (answered first (all ++ input ∷ [])))
      (input_is x counts d i is drawn same) taken) where
        one_more : (next draws : ℕ) → next ≡ draws + 1 → suc draws ≡ next
        one_more next draws more = omega arith
