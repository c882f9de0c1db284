-- How the machine stands between two draws of a run, and that it accepts what is drawn.
use Rattle.std.proofs.Common.{arith, ◌≡◌, ◌≤◌, ◌<◌, ◌+◌, ◌*◌, ◌/◌, ◌%◌, ℕ, zero, suc, List, [], ◌∷◌, ◌++◌, Bool, true, false, not, ◌&&◌, append-nil, append_assoc, length, refl, subst, sym, ap, ◌∙◌, if◌then◌else◌}
use Rattle.std.specs.Prelude.{◌==◌, is_none, nat_lt}
use Rattle.std.proofs.lemmas.Bool.{lt-ltb, ltb-true}
use Rattle.std.proofs.lemmas.List.{length-replicate}
use Rattle.sv_base.specs.declared.spec.GroupSpec.{GroupSpec}
use Rattle.sv_base.specs.declared.state.How.TheVariants.{Code}
use Rattle.sv_child.specs.Moves.{new_child}
use Rattle.sv_core.proofs.Standing.{came_more}
use Rattle.sv_core.specs.Deeds.{after, deeds}
use Rattle.sv_core.specs.MachineState.{Model, accepts, hand, is_issued_run, next, now, orders, turn_of}
use Rattle.sv_core.specs.Parts.{fits}
use Rattle.sv_core.specs.Sweeps.{Turn}
use Rattle.sv_core.specs.Sweeps.Turn.{Done, Ask}
use Rattle.sv_core.specs.Turn.{asked_of, come, world_of}
use Rattle.sv_core.specs.World.{World}
use Rattle.sv_core.specs.declared.part.Cause.TheVariants as cause_is
use Rattle.sv_core.specs.declared.part.Followed.TheVariants as followed
use Rattle.sv_core.specs.declared.part.Question.{Question}
use Rattle.sv_core.specs.declared.part.Question.TheVariants.{Spawn}
use Rattle.sv_core.specs.declared.part.Reply.{Reply}
use Rattle.sv_core.specs.declared.part.Reply.TheVariants.{Started}
use Rattle.sv_core_laws.proofs.Reported.{all_given}
use Rattle.sv_generated.specs.Drawn.{nth_draw}
use Rattle.sv_generated.specs.Generator.{draw_of, program_of, state_after}
use Rattle.sv_generated.specs.declared.draw.Draw.{Draw}
use Rattle.sv_generated.specs.declared.draw.Draw.TheVariants as draw
use Rattle.sv_generated.proofs.Asking.{Leads, Plain, few_asked, plain_on}
use Rattle.sv_generated.specs.Counted.{spawns}
use Rattle.sv_generated.specs.Generated.{answers, input_of, inputs_after, process_of, program_name, with_draw}
use Rattle.sv_generated.specs.Taken.{AsksFew, Beginning, first_of}
use Rattle.sv_groups.specs.StartOrder.{processes}
use Rattle.sv_out.specs.declared.input.Input.{Input}
use Rattle.sv_out.specs.declared.input.Input.TheVariants.{Pid}
use Rattle.sv_out.specs.declared.order.Order.{Order}

-- ---- lists of inputs

pub after_both : (m : Model) (one other : List Input) → after m (one ++ other) ≡ after (after m one) other
after_both m [] other = refl
after_both m (i ∷ one) other =
    by_acceptance (accepts m i) (after_both (next m i) one other) (after_both m one other) where
      by_acceptance : (b : Bool) → after (next m i) (one ++ other) ≡ after (after (next m i) one) other
          → after m (one ++ other) ≡ after (after m one) other
          → (if b then after (next m i) (one ++ other) else after m (one ++ other))
          ≡ after (if b then after (next m i) one else after m one) other
      by_acceptance true taken left = taken
      by_acceptance false taken left = left

pub deeds_both : (m : Model) (one other : List Input)
    → deeds m (one ++ other) ≡ deeds m one ++ deeds (after m one) other
deeds_both m [] other = refl
deeds_both m (i ∷ one) other =
    by_acceptance (accepts m i) (deeds_both (next m i) one other) (deeds_both m one other) where
      by_acceptance : (b : Bool)
          → deeds (next m i) (one ++ other) ≡ deeds (next m i) one ++ deeds (after (next m i) one) other
          → deeds m (one ++ other) ≡ deeds m one ++ deeds (after m one) other
          → (if b then orders m i ++ deeds (next m i) (one ++ other) else deeds m (one ++ other))
          ≡ (if b then orders m i ++ deeds (next m i) one else deeds m one)
          ++ deeds (if b then after (next m i) one else after m one) other
      by_acceptance true taken left =
          ap (λ (given : List Order). orders m i ++ given) taken
          ∙ sym (append_assoc (orders m i) (deeds (next m i) one) (deeds (after (next m i) one) other))
      by_acceptance false taken left = left

-- an accepted input after others
pub after_one : (m : Model) (inputs : List Input) (i : Input) → accepts (after m inputs) i ≡ true
    → after m (inputs ++ i ∷ []) ≡ next (after m inputs) i
after_one m inputs i accepted = after_both m inputs (i ∷ []) ∙ rw accepted refl

pub deeds_one : (m : Model) (inputs : List Input) (i : Input) → accepts (after m inputs) i ≡ true
    → deeds m (inputs ++ i ∷ []) ≡ deeds m inputs ++ orders (after m inputs) i
deeds_one m inputs i accepted =
    deeds_both m inputs (i ∷ [])
    ∙ rw accepted (ap (λ (given : List Order). deeds m inputs ++ given) (append-nil (orders (after m inputs) i)))

-- ---- the answer of a spawn

-- the turn in hand goes on with it
pub answered_hand : (m : Model) (pid : ℕ) → hand (next m (Pid pid)) ≡ come (hand m) (followed.Answered (Started pid))
answered_hand m pid = came_more (turn_of m.begun m.base) m.followed (followed.Answered (Started pid) ∷ [])

-- it is accepted where a spawn is asked for
pub pid_accepted : (m : Model) (w : World) (question : Question) (onward : World → Reply → Turn) (pid : ℕ)
    → hand m ≡ Ask w question onward → question ≡ Spawn → w.course.halted ≡ false → accepts m (Pid pid) ≡ true
pid_accepted m w question onward pid is spawn runs =
    let P : Turn → Type 0 = λ t. (not (world_of t).course.halted && fits (asked_of t) (Started pid)) ≡ true in
    subst P (sym is) (rw (spawn, runs) refl)

-- ---- what is drawn

-- the run that it names was issued
abbrev IsIssued : World → Draw → Type 0
IsIssued w (draw.Tick at) = Unit {0}
IsIssued w (draw.Exit at run) = is_issued_run run w.next_run ≡ true
IsIssued w (draw.Stop at program) = Unit {0}
IsIssued w (draw.Start at program) = Unit {0}

issued_in : (rest issued next_run : ℕ) → nat_lt 0 issued ≡ true → next_run ≡ 1 + issued
    → is_issued_run (record { 0 = 1 + rest % issued }) next_run ≡ true
issued_in rest issued next_run some is =
    let some : 0 < issued = ltb-true 0 issued some in
    rw (lt-ltb 0 (1 + rest % issued) (omega arith), lt-ltb (1 + rest % issued) next_run (omega arith)) refl

both_true : (a b : Bool) → (a && b) ≡ true → b ≡ true
both_true true b is = is
both_true false b is = cc

drawn_issued : (w : World) (at part issued : ℕ) → w.next_run ≡ 1 + issued → IsIssued w (draw_of at part issued)
drawn_issued w at part issued is =
    by_exit ((part % 4 == 1) && nat_lt 0 issued)
    (λ exits. issued_in (part / 4) issued w.next_run (both_true (part % 4 == 1) (nat_lt 0 issued) exits) is) where
      by_start : (b : Bool) → IsIssued w (if b then draw.Start at (program_of part) else draw.Tick at)
      by_start true = tt
      by_start false = tt

      by_stop : (b : Bool) → IsIssued w (if b then draw.Stop at (program_of part)
          else if part % 4 == 3 then draw.Start at (program_of part) else draw.Tick at)
      by_stop true = tt
      by_stop false = by_start (part % 4 == 3)

      by_exit : (b : Bool) → (b ≡ true → is_issued_run (record { 0 = 1 + part / 4 % issued }) w.next_run ≡ true)
          → IsIssued w (if b then draw.Exit at (record { 0 = 1 + part / 4 % issued })
          else if part % 4 == 2 then draw.Stop at (program_of part)
          else if part % 4 == 3 then draw.Start at (program_of part) else draw.Tick at)
      by_exit true exits = exits refl
      by_exit false exits = by_stop (part % 4 == 2)

-- it is accepted where no turn is in hand
draw_taken : (m : Model) (w : World) (d : Draw) → hand m ≡ Done w → w.course.halted ≡ false → IsIssued w d
    → accepts m (input_of d) ≡ true
draw_taken m w (draw.Tick at) is runs issued =
    let P : Turn → Type 0 = λ t. (not (world_of t).course.halted && (is_none (asked_of t) && true)) ≡ true in
    subst P (sym is) (rw runs refl)
draw_taken m w (draw.Stop at program) is runs issued =
    let P : Turn → Type 0 = λ t. (not (world_of t).course.halted && (is_none (asked_of t) && true)) ≡ true in
    subst P (sym is) (rw runs refl)
draw_taken m w (draw.Start at program) is runs issued =
    let P : Turn → Type 0 = λ t. (not (world_of t).course.halted && (is_none (asked_of t) && true)) ≡ true in
    subst P (sym is) (rw runs refl)
draw_taken m w (draw.Exit at run) is runs issued =
    let P : Turn → Type 0 =
    λ t. (not (world_of t).course.halted && (is_none (asked_of t) && is_issued_run run (world_of t).next_run)) ≡ true in
    subst P (sym is) (rw (runs, issued) refl)

-- the turn that it begins asks few questions
draw_asks : (groups : List GroupSpec) → length (processes groups) ≤ 1024 → (m : Model) (w : World) (d : Draw)
    → hand m ≡ Done w
    → Plain (length (processes groups)) groups w → Leads 2050 w (hand (next m (input_of d)))
draw_asks groups few m w d is plain =
    subst (λ (v : World). Leads 2050 v (hand (next m (input_of d)))) (ap world_of is) (asks d) where
      here : Plain (length (processes groups)) groups (now m)
      here = subst (λ (v : World). Plain (length (processes groups)) groups v) (sym (ap world_of is)) plain

      asks : (d : Draw) → Leads 2050 (now m) (hand (next m (input_of d)))
      asks (draw.Tick at) = few_asked (length (processes groups)) groups few few cause_is.Tick at (now m) tt here
      asks (draw.Exit at run) =
          few_asked (length (processes groups)) groups few few (cause_is.Exit run (Code 1)) at (now m) tt here
      asks (draw.Stop at program) =
          few_asked (length (processes groups)) groups few few (cause_is.Stop (program_name program)) at (now m) tt
          here
      asks (draw.Start at program) =
          few_asked (length (processes groups)) groups few few (cause_is.Start (program_name program)) at (now m) tt
          here

-- ---- between two draws

-- no turn is in hand, the daemon runs without links, and each run that was issued was spawned, at most so many
pub record AtRest (m : Model) (groups : List GroupSpec) (most : ℕ) : Type 0 where
  pub world : World
  pub done : hand m ≡ Done world
  pub plain : Plain (length (processes groups)) groups world
  pub numbered : world.next_run ≡ 1 + spawns world.given
  pub few : spawns world.given ≤ most

-- a turn that asks few questions comes to rest with their answers
answers_rest : (groups : List GroupSpec) (most : ℕ) (t : Turn) (m : Model) (w : World) → hand m ≡ t
    → Plain (length (processes groups)) groups w → w.next_run ≡ 1 + spawns w.given → Leads most w t
    → AtRest (after m (answers t)) groups (spawns w.given + most)
answers_rest groups most (Done v) m w is plain numbered leads = record {
  world = v;
  done = is;
  plain = plain_on (length (processes groups)) groups 0 w v leads plain;
  numbered = still w.next_run v.next_run (spawns w.given) (spawns v.given) leads.run leads.spawned numbered;
  few = within (spawns w.given) (spawns v.given) most leads.spawned;
} where
  still : (a b c d : ℕ) → b ≡ a + 0 → d ≡ c + 0 → a ≡ 1 + c → b ≡ 1 + d
  still a b c d run spawned numbered = omega arith

  within : (c d most : ℕ) → d ≡ c + 0 → d ≤ c + most
  within c d most spawned = omega arith
answers_rest groups zero (Ask v question onward) m w is plain numbered leads = absurd leads
answers_rest groups (suc most) (Ask v question onward) m w is plain numbered leads =
    let pid = process_of (spawns v.given) in
    let n = next m (Pid pid) in
    let there : hand n ≡ onward v (Started pid) =
    answered_hand m pid ∙ ap (λ (t : Turn). come t (followed.Answered (Started pid))) is in
    let plain_there = plain_on (length (processes groups)) groups 1 w v leads.0 plain in
    let taken : accepts m (Pid pid) ≡ true = pid_accepted m v question onward pid is leads.1 plain_there.halted in
    let rest =
    answers_rest groups most (onward v (Started pid)) n v there plain_there
    (still w.next_run v.next_run (spawns w.given) (spawns v.given) leads.0.run leads.0.spawned numbered)
    (leads.2 pid) in
    rw taken (record {
      world = rest.world;
      done = rest.done;
      plain = rest.plain;
      numbered = rest.numbered;
      few = within (spawns rest.world.given) (spawns v.given) (spawns w.given) most rest.few leads.0.spawned;
    }) where
      still : (a b c d : ℕ) → b ≡ a + 1 → d ≡ c + 1 → a ≡ 1 + c → b ≡ 1 + d
      still a b c d run spawned numbered = omega arith

      within : (e d c most : ℕ) → e ≤ d + most → d ≡ c + 1 → e ≤ c + suc most
      within e d c most few spawned = omega arith

-- what was given is what the deeds are
spawned_is : (begins : Beginning) (inputs : List Input) (w : World) → hand (after (first_of begins) inputs) ≡ Done w
    → spawns w.given ≡ spawns (deeds (first_of begins) inputs)
spawned_is begins inputs w done =
    ap (λ (v : World). spawns v.given) (sym (ap world_of done))
    ∙ ap spawns (all_given begins.config begins.sizes begins.host inputs)

-- from a state at rest on: what is drawn is accepted, and asks few questions
pub record Draws (m : Model) (i : Input) : Type 0 where
  pub accepted : accepts m i ≡ true
  pub leads : Leads 2050 (now m) (hand (next m i))

pub draws_from : (begins : Beginning) → length (processes begins.config.groups) ≤ 1024
    → (number draws most : ℕ) (inputs : List Input)
    → AtRest (after (first_of begins) inputs) begins.config.groups most
    → Draws (after (first_of begins) inputs)
    (input_of (nth_draw number draws (spawns (deeds (first_of begins) inputs))))
draws_from begins few number draws most inputs rest =
    let m = after (first_of begins) inputs in
    let issued = spawns (deeds (first_of begins) inputs) in
    let d = nth_draw number draws issued in
    let numbered : rest.world.next_run ≡ 1 + issued =
    rest.numbered ∙ ap (λ (n : ℕ). 1 + n) (spawned_is begins inputs rest.world rest.done) in record {
      accepted = draw_taken m rest.world d rest.done rest.plain.halted
          (drawn_issued rest.world (100 * draws) (state_after number (suc draws) / 65536) issued numbered);
      leads = subst (λ (w : World). Leads 2050 w (hand (next m (input_of d)))) (sym (ap world_of rest.done))
          (draw_asks begins.config.groups few m rest.world d rest.done rest.plain);
    }

-- the machine comes to rest after each draw
pub rests_after : (begins : Beginning) → length (processes begins.config.groups) ≤ 1024 → (number draws : ℕ)
    → AtRest (after (first_of begins) (inputs_after (first_of begins) number draws)) begins.config.groups (draws * 2050)
rests_after begins few number zero = record {
  world = now (first_of begins);
  done = refl;
  plain = record {
    links = refl;
    mood = refl;
    halted = refl;
    children = length-replicate (length (processes begins.config.groups)) new_child;
    roster = refl;
  };
  numbered = refl;
  few = omega arith;
}
rests_after begins few number (suc draws) =
    let first = first_of begins in
    let before = inputs_after first number draws in
    let rest = rests_after begins few number draws in
    let input = input_of (nth_draw number draws (spawns (deeds first before))) in
    let drawn = draws_from begins few number draws (draws * 2050) before rest in
    let all = with_draw first number draws before in
    let m = after first all in
    let here : m ≡ next (after first before) input = after_one first before input drawn.accepted in
    let world : now (after first before) ≡ rest.world = ap world_of rest.done in
    let leads : Leads 2050 rest.world (hand m) =
    subst (λ (w : World). Leads 2050 w (hand m)) world
    (subst (λ (n : Model). Leads 2050 (now (after first before)) (hand n)) (sym here) drawn.leads) in
    let end = answers_rest begins.config.groups 2050 (hand m) m rest.world refl rest.plain rest.numbered leads in
    subst (λ (n : Model). AtRest n begins.config.groups (suc draws * 2050))
    (sym (after_both first all (answers (hand m)))) (record {
      world = end.world;
      done = end.done;
      plain = end.plain;
      numbered = end.numbered;
      few = sum (spawns end.world.given) (spawns rest.world.given) draws end.few rest.few;
    }) where
      sum : (e d draws : ℕ) → e ≤ d + 2050 → d ≤ draws * 2050 → e ≤ suc draws * 2050
      sum e d draws one other = omega arith

-- few runs were issued after so many draws
pub few_issued : (begins : Beginning) → length (processes begins.config.groups) ≤ 1024 → (number draws : ℕ)
    → spawns (deeds (first_of begins) (inputs_after (first_of begins) number draws)) ≤ draws * 2050
few_issued begins few number draws =
    let rest = rests_after begins few number draws in
    subst (λ (n : ℕ). n ≤ draws * 2050)
    (spawned_is begins (inputs_after (first_of begins) number draws) rest.world rest.done) rest.few

pub draw_accepted : (begins : Beginning) → length (processes begins.config.groups) ≤ 1024 → (number draws : ℕ)
    → let before = inputs_after (first_of begins) number draws in
    accepts (after (first_of begins) before)
    (input_of (nth_draw number draws (spawns (deeds (first_of begins) before)))) ≡ true
draw_accepted begins few number draws =
    (draws_from begins few number draws (draws * 2050) (inputs_after (first_of begins) number draws)
    (rests_after begins few number draws)).accepted

-- ---- how many questions come

asks_few : (most : ℕ) (w : World) (t : Turn) → Leads most w t → w.course.halted ≡ false
    → spawns w.given + most ≤ 4294967195 → AsksFew most t
asks_few most w (Done v) leads runs few = tt
asks_few zero w (Ask v question onward) leads runs few = absurd leads
asks_few (suc most) w (Ask v question onward) leads runs few =
    let still : v.course.halted ≡ false = leads.0.halted ∙ runs in (
      leads.1,
      still,
      within (spawns w.given) (spawns v.given) most leads.0.spawned few,
      λ pid. asks_few most v (onward v (Started pid)) (leads.2 pid) still
          (left (spawns w.given) (spawns v.given) most leads.0.spawned few),
    ) where
      within : (c d most : ℕ) → d ≡ c + 1 → c + suc most ≤ 4294967195 → d ≤ 4294967195
      within c d most spawned few = omega arith

      left : (c d most : ℕ) → d ≡ c + 1 → c + suc most ≤ 4294967195 → d + most ≤ 4294967195
      left c d most spawned few = omega arith

-- so does the turn that is drawn
pub draw_asks_few : (begins : Beginning) → length (processes begins.config.groups) ≤ 1024 → (number draws : ℕ)
    → draws < 1000000
    → AsksFew 2050 (hand (after (first_of begins)
    (with_draw (first_of begins) number draws (inputs_after (first_of begins) number draws))))
draw_asks_few begins few number draws within =
    let first = first_of begins in
    let before = inputs_after first number draws in
    let rest = rests_after begins few number draws in
    let drawn = draws_from begins few number draws (draws * 2050) before rest in
    let input = input_of (nth_draw number draws (spawns (deeds first before))) in
    let world : now (after first before) ≡ rest.world = ap world_of rest.done in
    subst (λ (m : Model). AsksFew 2050 (hand m)) (sym (after_one first before input drawn.accepted))
    (asks_few 2050 rest.world (hand (next (after first before) input))
    (subst (λ (w : World). Leads 2050 w (hand (next (after first before) input))) world drawn.leads) rest.plain.halted
    (small (spawns rest.world.given) draws rest.few within)) where
      small : (d draws : ℕ) → d ≤ draws * 2050 → draws < 1000000 → d + 2050 ≤ 4294967195
      small d draws few within = omega arith
