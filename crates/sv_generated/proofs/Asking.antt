-- A turn that a drawn input begins asks few questions, each of them a spawn.
use Rattle.std.proofs.Common.{arith, ◌≡◌, ◌≤◌, ◌+◌, ◌-◌, ℕ, zero, suc, List, [], ◌∷◌, Bool, true, false, Option, Some, None, length, length-append, refl, subst, sym, ap, ◌∙◌, if◌then◌else◌}
use Rattle.std.specs.Prelude.{codes, drop, nat_le}
use Rattle.sv_base.specs.declared.ids.Run.{Run}
use Rattle.sv_base.specs.declared.spec.GroupSpec.{GroupSpec}
use Rattle.sv_base.specs.declared.state.Mood.{Mood}
use Rattle.sv_base.specs.declared.state.Mood.TheVariants.{Running}
use Rattle.sv_child.specs.Moves.{is_running}
use Rattle.sv_child.specs.declared.step.ChildDeed.{ChildDeed}
use Rattle.sv_child.specs.declared.step.ChildDeed.TheVariants.{Spawn as Spawns, Kill}
use Rattle.sv_children.specs.News.{deed_of, step_of, stimulus_of}
use Rattle.sv_children.specs.Orders.{spawn_at}
use Rattle.sv_children.specs.Spans.{span_found, span_meant}
use Rattle.sv_children.specs.declared.news.News.{News}
use Rattle.sv_children.specs.declared.news.News.TheVariants as news_is
use Rattle.sv_core.specs.Events.{announces, ticks}
use Rattle.sv_core.specs.HandingOut.{hands_out}
use Rattle.sv_core.specs.Listening.{exits}
use Rattle.sv_core.specs.Logging.{notes_if}
use Rattle.sv_core.specs.Moves.{answered, fails, kills, moves, orders_spawn, says}
use Rattle.sv_core.specs.Serving.{serves_all}
use Rattle.sv_core.specs.Shutdown.{halts, moves_on}
use Rattle.sv_core.specs.Stops.{stops_all}
use Rattle.sv_core.specs.Sweeps.{Turn, asks, does, meets, spawns as spawns_at, spawns_as, sweeps, sweeps_over}
use Rattle.sv_core.specs.Sweeps.Turn.{Done, Ask}
use Rattle.sv_core.specs.Turn.{after_links, after_pass, after_stimulus, applies, passes, rewinds, turn}
use Rattle.sv_core.specs.World.{World}
use Rattle.sv_core.specs.declared.part.Cause.{Cause}
use Rattle.sv_core.specs.declared.part.Cause.TheVariants as cause_is
use Rattle.sv_core.specs.declared.part.Question.TheVariants.{Spawn}
use Rattle.sv_core.specs.declared.part.Reply.TheVariants.{Started, Refused}
use Rattle.sv_generated.proofs.Going.{Goes, all_hands_go, all_stops_go, announce_goes, answer_goes, exit_goes, follow, kill_goes, move_goes, note_goes, rewind_goes, spawn_goes, ticks_go}
use Rattle.sv_groups.specs.Lookup.{found}
use Rattle.sv_groups.specs.StartOrder.{first_members, members_at, processes}
use Rattle.sv_groups.specs.declared.lookup.Found.{Found}
use Rattle.sv_groups.specs.declared.lookup.Found.TheVariants.{One, Group, Nothing}
use Rattle.sv_children.specs.Lines.EdgeLines.{how_of, killing_at}
use Rattle.sv_links.specs.LinkBook.{LinkRecord, busy_links}
use Rattle.sv_out.specs.declared.order.SpawnOrder.{SpawnOrder}

-- no link is there, the daemon runs, and so many children are
pub record Plain (many : ℕ) (groups : List GroupSpec) (w : World) : Type 0 where
  pub links : w.links ≡ []
  pub mood : w.course.mood ≡ Running
  pub halted : w.course.halted ≡ false
  pub children : length w.children.all ≡ many
  pub roster : w.children.roster ≡ groups

-- at most so many questions come, each a spawn, and each answer leads on to the next
abbrev pub Leads : ℕ → World → Turn → Type 0
Leads most w (Done v) = Goes 0 w v
Leads zero w (Ask v question onward) = ⊥
Leads (suc most) w (Ask v question onward) =
    Goes 1 w v × (question ≡ Spawn) × ((pid : ℕ) → Leads most v (onward v (Started pid)))

sooner : (most : ℕ) (w u : World) (t : Turn) → Goes 0 w u → Leads most u t → Leads most w t
sooner most w u (Done v) goes leads = follow 0 w u v goes leads
sooner zero w u (Ask v question onward) goes leads = leads
sooner (suc most) w u (Ask v question onward) goes leads = (follow 1 w u v goes leads.0, leads.1, leads.2)

one_more : (most : ℕ) (w : World) (t : Turn) → Leads most w t → Leads (suc most) w t
one_more most w (Done v) leads = leads
one_more zero w (Ask v question onward) leads = absurd leads
one_more (suc most) w (Ask v question onward) leads =
    (leads.0, leads.1, λ pid. one_more most v (onward v (Started pid)) (leads.2 pid))

-- so many questions, and so many more
abbrev more : ℕ → ℕ → ℕ
more zero most = most
more (suc extra) most = suc (more extra most)

more_is : (extra most : ℕ) → more extra most ≡ extra + most
more_is zero most = omega arith
more_is (suc extra) most = let is = more_is extra most in omega arith

some_more : (extra most : ℕ) (w : World) (t : Turn) → Leads most w t → Leads (more extra most) w t
some_more zero most w t leads = leads
some_more (suc extra) most w t leads = one_more (more extra most) w t (some_more extra most w t leads)

pub at_most : (most limit : ℕ) (w : World) (t : Turn) → most ≤ limit → Leads most w t → Leads limit w t
at_most most limit w t within leads =
    subst (λ (n : ℕ). Leads n w t) (more_is (limit - most) most ∙ difference most limit within)
    (some_more (limit - most) most w t leads) where
      difference : (most limit : ℕ) → most ≤ limit → (limit - most) + most ≡ limit
      difference most limit within = omega arith

-- ---- spans of the roster

first_few : (groups : List GroupSpec) → length (first_members groups) ≤ length (processes groups)
first_few [] = omega arith
first_few (group ∷ groups) =
    let both = length-append group.members (processes groups) in omega arith

dropped_few : (place : ℕ) (groups : List GroupSpec) → length (processes (drop place groups)) ≤ length (processes groups)
dropped_few zero groups = omega arith
dropped_few (suc place) [] = omega arith
dropped_few (suc place) (group ∷ groups) =
    let rest = dropped_few place groups in
    let both = length-append group.members (processes groups) in omega arith

members_few : (place : ℕ) (groups : List GroupSpec) → length (members_at place groups) ≤ length (processes groups)
members_few place groups =
    let one = first_few (drop place groups) in
    let other = dropped_few place groups in omega arith

-- the children that a name means are at most one more than there are processes
found_few : (f : Found) (roster : List GroupSpec)
    → (span_found f roster).to - (span_found f roster).from ≤ suc (length (processes roster))
found_few (One id) roster = omega arith
found_few (Group place) roster = let few = members_few place roster in omega arith
found_few Nothing roster = omega arith

module _ (many : ℕ) (roster : List GroupSpec) where
  pub plain_on : (n : ℕ) (w v : World) → Goes n w v → Plain many roster w → Plain many roster v
  plain_on n w v goes plain = record {
    links = goes.links ∙ plain.links;
    mood = goes.mood ∙ plain.mood;
    halted = goes.halted ∙ plain.halted;
    children = goes.many ∙ plain.children;
    roster = goes.roster ∙ plain.roster;
  }

  -- what comes next asks so few
  abbrev Onward : ℕ → (World → Turn) → Type 0
  Onward most k = (v : World) → Plain many roster v → Leads most v (k v)

  leads_spawns : (most c : ℕ) (w : World) (k : World → Turn) → Plain many roster w → Onward most k
      → Leads (suc most) w (spawns_at c w k)
  unfolding asks
  leads_spawns most c w k plain on = by_number (nat_le w.next_run 4294967295) where
    by_spawning : (spawning : Option SpawnOrder) → Leads (suc most) w (spawns_as spawning c w k)
    by_spawning None = one_more most w (k w) (on w plain)
    by_spawning (Some spawning) =
        let run : Run = record { 0 = w.next_run } in
        let v = orders_spawn spawning w in
        let spawned = spawn_goes spawning w in (
          spawned,
          refl,
          λ pid.
              let u = answered c run (Started pid) v in
              let answer = answer_goes c run (Started pid) v in
              sooner most v u (k u) answer (on u (plain_on 0 v u answer (plain_on 1 w v spawned plain))),
        )

    by_number : (b : Bool)
        → Leads (suc most) w (if b then spawns_as (spawn_at w.children c w.next_run) c w k else k (fails c w))
    by_number true = by_spawning (spawn_at w.children c w.next_run)
    by_number false =
        let goes = answer_goes c (record { 0 = 0 }) (Refused (codes "failed")) w in
        one_more most w (k (fails c w))
        (sooner most w (fails c w) (k (fails c w)) goes (on (fails c w) (plain_on 0 w (fails c w) goes plain)))

  leads_does : (most c : ℕ) (deed : Option ChildDeed) (w : World) (k : World → Turn) → Plain many roster w
      → Onward most k → Leads (suc most) w (does deed c w k)
  leads_does most c None w k plain on = one_more most w (k w) (on w plain)
  leads_does most c (Some (Kill signal group)) w k plain on =
      let v = kills c signal group w in
      let goes = kill_goes c signal group w in
      one_more most w (k v) (sooner most w v (k v) goes (on v (plain_on 0 w v goes plain)))
  leads_does most c (Some Spawns) w k plain on = leads_spawns most c w k plain on

  leads_meets : (most : ℕ) (news : News) (c : ℕ) (w : World) (k : World → Turn) → Plain many roster w
      → Onward most k → Leads (suc most) w (meets news c w k)
  leads_meets most news c w k plain on =
      let answer = says (stimulus_of news) c w in
      let deed = deed_of (step_of answer) in
      let v = moves (how_of news) c answer w in
      let u = notes_if (killing_at news deed v.children c) v in
      let goes = follow 0 w v u (move_goes (how_of news) c answer w)
      (note_goes (killing_at news deed v.children c) v) in
      sooner (suc most) w u (does deed c u k) goes (leads_does most c deed u k (plain_on 0 w u goes plain) on)

  leads_sweeps : (most : ℕ) (news : News) (left place : ℕ) (w : World) (k : World → Turn) → Plain many roster w
      → Onward most k
      → Leads (more left most) w (sweeps news left place w k)
  leads_sweeps most news zero place w k plain on = on w plain
  leads_sweeps most news (suc left) place w k plain on =
      leads_meets (more left most) news place w (λ v. sweeps news left (place + 1) v k) plain
      (λ v still. leads_sweeps most news left (place + 1) v k still on)

  -- ---- the steps after the stimulus

  no_links : (links : List LinkRecord) (w : World) → links ≡ []
      → serves_all (busy_links links) w after_links ≡ after_links w
  no_links links w none = rw none refl

  goes_on : (w : World) → Plain many roster w → after_links w ≡ Done (hands_out w)
  goes_on w plain = by_mood w.course.mood plain.mood where
    by_mood : (mood : Mood) → mood ≡ Running
        → Done (halts (hands_out (if is_running mood then w else moves_on w.course.left w))) ≡ Done (hands_out w)
    by_mood mood running = rw running (ap Done (by_other (hands_out w) ((all_hands_go w).mood ∙ plain.mood)))
      where
        by_other : (v : World) → v.course.mood ≡ Running → halts v ≡ v
        by_other v running = rw running refl

  leads_after_pass : (w : World) → Plain many roster w → Leads 0 w (after_pass w)
  leads_after_pass w plain =
      subst (λ (t : Turn). Leads 0 w t) (sym (no_links w.links w plain.links ∙ goes_on w plain)) (all_hands_go w)

  leads_after_stimulus : (w : World) → Plain many roster w → Leads (more many 0) w (after_stimulus w)
  leads_after_stimulus w plain =
      let v = ticks w in
      let goes = ticks_go w in
      let still = plain_on 0 w v goes plain in
      sooner (more many 0) w v (passes v after_pass) goes
      (subst (λ (n : ℕ). Leads (more n 0) v (passes v after_pass)) (all_of (length v.children.all) many still.children)
      (leads_sweeps 0 news_is.Time (length v.children.all - 0) 0 v after_pass still leads_after_pass)) where
        all_of : (n many : ℕ) → n ≡ many → n - 0 ≡ many
        all_of n many is = omega arith

  -- ---- the stimulus

  bounded : (extra most : ℕ) → extra ≤ 1025 → most ≤ 1024 → more extra (more most 0) ≤ 2050
  bounded extra most few_more few =
      let one = more_is extra (more most 0) in
      let other = more_is most 0 in omega arith

  module _ (few : length (processes roster) ≤ 1024) (fewer : many ≤ 1024) where
    few_after : (w : World) → Plain many roster w → Leads 2050 w (after_stimulus w)
    few_after w plain = at_most (more many 0) 2050 w (after_stimulus w) (bounded 0 many (omega arith) fewer)
        (leads_after_stimulus w plain)

    few_behind : (w v : World) → Goes 0 w v → Plain many roster w → Leads 2050 w (after_stimulus v)
    few_behind w v goes plain = sooner 2050 w v (after_stimulus v) goes (few_after v (plain_on 0 w v goes plain))

    few_in : (w : World) → Plain many roster w → (name : List ℕ)
        → (span_meant name w.children.roster).to - (span_meant name w.children.roster).from ≤ 1025
    few_in w plain name =
        let all : length (processes w.children.roster) ≤ 1024 =
        subst (λ (groups : List GroupSpec). length (processes groups) ≤ 1024) (sym plain.roster) few in
        let spans = found_few (found name w.children.roster) w.children.roster in omega arith

    few_started : (w : World) → Plain many roster w → (name : List ℕ)
        → Leads 2050 w (applies (cause_is.Start name) w after_stimulus)
    few_started w plain name = by_mood w.course.mood plain.mood where
      by_mood : (mood : Mood) → mood ≡ Running
          → Leads 2050 w (if is_running mood
          then sweeps_over news_is.Start (span_meant name w.children.roster) w after_stimulus
          else after_stimulus w)
      by_mood mood running =
          let span = span_meant name w.children.roster in
          rw running
          (at_most (more (span.to - span.from) (more many 0)) 2050 w (sweeps_over news_is.Start span w after_stimulus)
          (bounded (span.to - span.from) many (few_in w plain name) fewer)
          (leads_sweeps (more many 0) news_is.Start (span.to - span.from) span.from w after_stimulus plain
          leads_after_stimulus))

    -- the causes of the inputs that are drawn
    abbrev pub IsDrawn : Cause → Type 0
    IsDrawn cause_is.Tick = Unit {0}
    IsDrawn (cause_is.Exit run how) = Unit {0}
    IsDrawn (cause_is.Start name) = Unit {0}
    IsDrawn (cause_is.Stop name) = Unit {0}
    IsDrawn cause = ⊥

    few_applied : (cause : Cause) (w : World) → IsDrawn cause → Plain many roster w
        → Leads 2050 w (applies cause w after_stimulus)
    few_applied cause_is.Tick w drawn plain = few_after w plain
    few_applied (cause_is.Exit run how) w drawn plain = few_behind w (exits run how w) (exit_goes run how w) plain
    few_applied (cause_is.Start name) w drawn plain = few_started w plain name
    few_applied (cause_is.Stop name) w drawn plain =
        let span = span_meant name w.children.roster in few_behind w (stops_all span w) (all_stops_go span w) plain
    few_applied cause w drawn plain = absurd drawn

    pub few_asked : (cause : Cause) (at : ℕ) (w : World) → IsDrawn cause → Plain many roster w
        → Leads 2050 w (turn cause at w)
    few_asked cause at w drawn plain =
        let v = announces w in
        let u = rewinds at v in
        let goes = follow 0 w v u (announce_goes w) (rewind_goes at v) in
        sooner 2050 w u (applies cause u after_stimulus) goes (few_applied cause u drawn (plain_on 0 w u goes plain))
