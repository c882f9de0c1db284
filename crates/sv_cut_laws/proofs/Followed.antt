-- Between two turns the stop plan was followed.
use Rattle.std.proofs.Common.{◌≡◌, ℕ, zero, suc, ◌+◌, ◌-◌, ◌++◌, ◌||◌, List, [], ◌∷◌, Bool, true, false, Option, Some, None, if◌then◌else◌, length, ◌∙◌, refl, ap, sym, subst}
use Rattle.std.specs.Prelude.{is_none, slice_get}
use Rattle.std.specs.List.{flat_map}
use Rattle.sv_base.specs.declared.ids.LinkId.{LinkId}
use Rattle.sv_base.specs.declared.ids.Run.{Run}
use Rattle.sv_child.specs.Moves.{is_running}
use Rattle.sv_child.specs.declared.step.ChildDeed.{ChildDeed}
use Rattle.sv_child.specs.declared.step.ChildDeed.TheVariants.{Spawn, Kill}
use Rattle.sv_child.specs.declared.step.Edge.{Edge}
use Rattle.sv_child.specs.declared.step.Step.{Step}
use Rattle.sv_children.specs.Crew.{Crew}
use Rattle.sv_children.specs.News.{deed_of, step_of, stimulus_of}
use Rattle.sv_children.specs.Orders.{reports_at}
use Rattle.sv_children.specs.declared.news.News.TheVariants as news_is
use Rattle.sv_core.specs.Deeds.{after}
use Rattle.sv_core.specs.Failure.{failed, failures_told, refusal}
use Rattle.sv_core.specs.HandingOut.{hands_from, hands_out, hands_to, ready_of, sends_to}
use Rattle.sv_core.specs.Listening.{gives_back, id_of, loses_of, loses_stdin}
use Rattle.sv_core.specs.Logging.{notes_if}
use Rattle.sv_core.specs.MachineState.{Model, accepts, failure_named, hand, next, next_part, now, turn_of}
use Rattle.sv_core.specs.Moves.{changed, goes_edge, goes_edges, moves, reported, says}
use Rattle.sv_core.specs.Openings.{closes, closes_all}
use Rattle.sv_core.specs.Parts.{part_of}
use Rattle.sv_core.specs.Shutdown.{drops_group, follows_plan, halts, halts_after, has_come_to_rest, moves_on, tells_group}
use Rattle.sv_core.specs.Stops.{signals, stops, stops_all, stops_from}
use Rattle.sv_core.specs.Sweeps.{Turn}
use Rattle.sv_core.specs.Sweeps.Turn.{Done, Ask}
use Rattle.sv_core.specs.Turn.{asked_of, came, come, failed_at, turn, world_of}
use Rattle.sv_core.specs.World.{World}
use Rattle.sv_core.specs.declared.course.Course.{Course}
use Rattle.sv_core.specs.declared.failure.Failure.{Failure}
use Rattle.sv_core.specs.declared.failure.Failure.TheVariants.{NeverFails, ChangesNothing, LosesStdin, LosesLink, RefusesQuestion}
use Rattle.sv_core.specs.declared.part.Cause.{Cause}
use Rattle.sv_core.specs.declared.part.Followed.{Followed}
use Rattle.sv_core.specs.declared.part.Followed.TheVariants as followed
use Rattle.sv_core.specs.declared.part.Part.{Part}
use Rattle.sv_core.specs.declared.part.Part.TheVariants.{Begins, Answers, Fails}
use Rattle.sv_core.specs.declared.part.Question.{Question}
use Rattle.sv_core.specs.declared.part.Reply.{Reply}
use Rattle.sv_cut_laws.proofs.Alike.{came_more}
use Rattle.sv_cut_laws.proofs.Both.{turn_both}
use Rattle.sv_cut_laws.proofs.Handing.{IsFollowed}
use Rattle.sv_cut_laws.proofs.Handing.IsFollowed.{runs, over, waits}
use Rattle.sv_cut_laws.proofs.Tells.{Tells, are_plain, plain_both, plain_report, tells_each, tells_note, tells_offer_if}
use Rattle.sv_children.specs.EdgeFacts.{fact_at, kind_of, pid_at}
use Rattle.sv_groups.specs.StartOrder.{span_of}
use Rattle.sv_children.specs.Lines.EdgeLines.{line_at}
use Rattle.sv_links.specs.LinkBook.{open_links}
use Rattle.sv_out.specs.declared.input.Input.{Input}
use Rattle.sv_out.specs.declared.order.Order.{Order}
use Rattle.sv_pool.specs.PoolLists.{dropped_for_room}
use Rattle.sv_pool.specs.EventPools.{EventPool}
use Rattle.sv_pool.specs.Listeners.{holds, is_holding, rejection_reports, rejects, reports_of_rejection}
use Rattle.sv_pool.specs.Offers.{room_reports}
use Rattle.sv_runs.specs.RunBook.{living, lost, stdin_lost}

-- ---- what keeps the daemon's course

told_course : (w v : World) → Tells w v → v.course ≡ w.course
told_course w v told = ap (λ (x : World). x.course) told.is

pub told_crew : (w v : World) → Tells w v → v.children ≡ w.children
told_crew w v told = ap (λ (x : World). x.children) told.is

edge_course : (c pid : ℕ) (edge : Edge) (w : World) → (goes_edge None c pid edge w).course ≡ w.course
edge_course c pid edge w =
    let own = record w { given = w.given ++ reports_at w.children c (Some edge ∷ []) } in
    let line = line_at w.children c None edge in
    told_course (notes_if line own) (goes_edge None c pid edge w)
    (tells_offer_if (kind_of edge.to) (fact_at w.children c pid edge) (notes_if line own))
    ∙ told_course own (notes_if line own) (tells_note line own)

edges_course : (c pid : ℕ) (edges : List (Option Edge)) (w : World) → (goes_edges None c pid edges w).course ≡ w.course
edges_course c pid [] w = refl
edges_course c pid (None ∷ edges) w = edges_course c pid edges w
edges_course c pid (Some edge ∷ edges) w = edges_course c pid edges (goes_edge None c pid edge w) ∙ edge_course c pid edge w

step_course : (c pid : ℕ) (step : Option Step) (w : World) → (reported None c pid step w).course ≡ w.course
step_course c pid None w = refl
step_course c pid (Some step) w = edges_course c pid step.edges w

signals_course : (deed : Option ChildDeed) (c : ℕ) (w : World) → (signals deed c w).course ≡ w.course
signals_course (Some (Kill signal group)) c w = refl
signals_course (Some Spawn) c w = refl
signals_course None c w = refl

stops_course : (c : ℕ) (w : World) → (stops c w).course ≡ w.course
stops_course c w =
    let answer = says (stimulus_of news_is.Stop) c w in
    signals_course (deed_of (step_of answer)) c (moves None c answer w)
    ∙ step_course c (pid_at w.children c) (step_of answer) (changed c answer w)

stops_from_course : (from left : ℕ) (w : World) → (stops_from from left w).course ≡ w.course
stops_from_course from zero w = refl
stops_from_course from (suc left) w = stops_from_course from left (stops (from + left) w) ∙ stops_course (from + left) w

-- ---- the plan

-- a group that is told to stop is told, or at rest
told_or_rests : (group : ℕ) (w : World) → has_come_to_rest group (tells_group group w) ≡ false → (tells_group group w).course.is_told ≡ true
told_or_rests group w rest = by_tests w.course.is_told (has_come_to_rest group w) refl refl rest where
  told : World
  told = record w { course = record w.course { is_told = true } }

  by_tests : (b c : Bool) → w.course.is_told ≡ b → has_come_to_rest group w ≡ c
      → has_come_to_rest group (if b || c then w else stops_all (span_of group w.children.roster) (record w { course = record w.course { is_told = true } })) ≡ false
      → (if b || c then w else stops_all (span_of group w.children.roster) (record w { course = record w.course { is_told = true } })).course.is_told ≡ true
  by_tests true c one other rest = one
  by_tests false true one other rest = absurd (clash (sym other ∙ rest)) where
    clash : true ≡ false → ⊥
    clash = cc
  by_tests false false one other rest =
      let span = span_of group w.children.roster in
      ap (λ (course : Course). course.is_told)
      (stops_from_course span.from (span.to - span.from) (record w { course = record w.course { is_told = true } }))

told_left : (group : ℕ) (w : World) → (tells_group group w).course.left ≡ w.course.left
told_left group w = by_test (w.course.is_told || has_come_to_rest group w) where
  by_test : (b : Bool)
      → (if b then w else stops_all (span_of group w.children.roster) (record w { course = record w.course { is_told = true } })).course.left ≡ w.course.left
  by_test true = refl
  by_test false =
      let span = span_of group w.children.roster in
      ap (λ (course : Course). course.left)
      (stops_from_course span.from (span.to - span.from) (record w { course = record w.course { is_told = true } }))

moves_followed : (left : ℕ) (w : World) → w.course.left ≡ left → IsFollowed (moves_on left w)
moves_followed zero w is = over is
moves_followed (suc left) w is =
    by_rest (has_come_to_rest left told) refl (moves_followed left (drops_group left told) refl) where
      told : World
      told = tells_group left w

      by_rest : (b : Bool) → has_come_to_rest left (tells_group left w) ≡ b → IsFollowed (moves_on left (drops_group left (tells_group left w)))
          → IsFollowed (if b then moves_on left (drops_group left (tells_group left w)) else tells_group left w)
      by_rest true rest dropped = dropped
      by_rest false rest dropped = waits left (told_left left w ∙ is) (told_or_rests left w rest) rest

-- it was followed where course and crew are as they were
same_followed : (w v : World) → v.course ≡ w.course → v.children ≡ w.children → IsFollowed w → IsFollowed v
same_followed w v course crew (runs mood) = runs (ap (λ (c : Course). is_running c.mood) course ∙ mood)
same_followed w v course crew (over left) = over (ap (λ (c : Course). c.left) course ∙ left)
same_followed w v course crew (waits left is told rest) =
    waits left (ap (λ (c : Course). c.left) course ∙ is) (ap (λ (c : Course). c.is_told) course ∙ told)
    (ap (λ (c : Crew). has_come_to_rest left (record w { children = c })) crew ∙ rest)

plan_followed : (w : World) → IsFollowed (follows_plan w)
plan_followed w = by_mood (is_running w.course.mood) refl where
  by_mood : (b : Bool) → is_running w.course.mood ≡ b → IsFollowed (if b then w else moves_on w.course.left w)
  by_mood true is = runs is
  by_mood false is = moves_followed w.course.left w refl

-- ---- what comes after it

one_handed : (run : Option Run) (c : ℕ) (w : World) → ((sends_to run c w).course ≡ w.course) × ((sends_to run c w).children ≡ w.children)
one_handed None c w = (refl, refl)
one_handed (Some run) c w = (refl, refl)

pub all_handed : (left c : ℕ) (w : World) → ((hands_from left c w).course ≡ w.course) × ((hands_from left c w).children ≡ w.children)
all_handed zero c w = (refl, refl)
all_handed (suc left) c w =
    let one = one_handed (ready_of (slice_get w.children.all c) w.runs) c w in
    let rest = all_handed left (c + 1) (hands_to c w) in
    (rest.0 ∙ one.0, rest.1 ∙ one.1)

pub all_closed : (links : List LinkId) (w : World) → ((closes_all links w).course ≡ w.course) × ((closes_all links w).children ≡ w.children)
all_closed [] w = (refl, refl)
all_closed (link ∷ links) w = all_closed links (closes link w)

-- the halt alone may have come
halt_followed : (w : World) → IsFollowed w → IsFollowed (halts w)
halt_followed w followed = by_mood (is_running w.course.mood) (by_left w.course.left) where
  over_now : (w v : World) → v.course.mood ≡ w.course.mood → v.course.left ≡ w.course.left → v.course.is_told ≡ w.course.is_told
      → v.children ≡ w.children → IsFollowed w → IsFollowed v
  over_now w v mood left told crew (runs is) = runs (ap is_running mood ∙ is)
  over_now w v mood left told crew (over is) = over (left ∙ is)
  over_now w v mood left told crew (waits n is was rest) =
      waits n (left ∙ is) (told ∙ was) (ap (λ (c : Crew). has_come_to_rest n (record w { children = c })) crew ∙ rest)

  by_left : (left : ℕ) → IsFollowed (halts_after left w)
  by_left zero =
      let closed = all_closed (open_links w.links) w in
      over_now w (halts_after zero w) (ap (λ (c : Course). c.mood) closed.0) (ap (λ (c : Course). c.left) closed.0)
      (ap (λ (c : Course). c.is_told) closed.0) closed.1 followed
  by_left (suc left) = followed

  by_mood : (b : Bool) → IsFollowed (halts_after w.course.left w) → IsFollowed (if b then w else halts_after w.course.left w)
  by_mood true rest = followed
  by_mood false rest = rest

pub ended_followed : (w : World) → IsFollowed (halts (hands_out (follows_plan w)))
ended_followed w =
    let v = follows_plan w in
    let handed = all_handed (length v.children.all - 0) 0 v in
    halt_followed (hands_out v) (same_followed v (hands_out v) handed.0 handed.1 (plan_followed w))

-- ---- all turns

-- the world in which a turn ends is such a world, whatever is answered
abbrev pub Ends : (World → Type 0) → Turn → Type 0
Ends P (Done w) = P w
Ends P (Ask w q k) = (v : World) (reply : Reply) → Ends P (k v reply)

turn_ends : (cause : Cause) (at : ℕ) (w : World) → Ends IsFollowed (turn cause at w)
turn_ends cause at w =
    turn_both [] (λ t u. Ends IsFollowed t) (λ v q k j goes. goes) (λ v. ended_followed v) cause at w

plain_if : (b : Bool) (os : List Order) → are_plain os ≡ true → are_plain (if b then os else []) ≡ true
plain_if true os plain = plain
plain_if false os plain = refl

plain_rejections : (place : ℕ) (ps : List EventPool) → are_plain (flat_map (reports_of_rejection place) ps) ≡ true
plain_rejections place [] = refl
plain_rejections place (p ∷ ps) =
    plain_both (reports_of_rejection place p) (flat_map (reports_of_rejection place) ps)
    (plain_if (is_holding place p) (room_reports p) (plain_report p.group (dropped_for_room p.lists))) (plain_rejections place ps)

pub returned : (c : ℕ) (w : World) → ((gives_back c w).course ≡ w.course) × ((gives_back c w).children ≡ w.children)
returned c w =
    let u = record w { pools = rejects (id_of c) w.pools } in
    let told = tells_each (rejection_reports (id_of c) w.pools) u (plain_rejections (id_of c) w.pools.each) in
    (told_course u (gives_back c w) told, told_crew u (gives_back c w) told)

pub lost_one : (child : Option ℕ) (run : Run) (w : World) → ((loses_of child run w).course ≡ w.course) × ((loses_of child run w).children ≡ w.children)
lost_one None run w = (refl, refl)
lost_one (Some c) run w = by_holder (holds (id_of c) w.pools) where
  by_holder : (b : Bool) → ((if b then gives_back c (record w { runs = lost run w.runs }) else w).course ≡ w.course)
      × ((if b then gives_back c (record w { runs = lost run w.runs }) else w).children ≡ w.children)
  by_holder true = returned c (record w { runs = lost run w.runs })
  by_holder false = (refl, refl)

failed_followed : (failure : Failure) (w : World) → IsFollowed w → IsFollowed (failed failure w)
failed_followed (LosesStdin run) w is =
    let lost = lost_one (living run w.runs) run (record w { runs = stdin_lost run w.runs }) in
    same_followed w (loses_stdin run w) lost.0 lost.1 is
failed_followed (LosesLink link) w is = same_followed w (failed (LosesLink link) w) refl refl is
failed_followed RefusesQuestion w is = is
failed_followed ChangesNothing w is = is
failed_followed NeverFails w is = is

failed_at_ends : (failure : Failure) (w : World) (q : Question) (k : World → Reply → Turn) → Ends IsFollowed (Ask w q k)
    → Ends IsFollowed (failed_at failure w q k)
failed_at_ends RefusesQuestion w q k is = is w (refusal q)
failed_at_ends ChangesNothing w q k is = is
failed_at_ends (LosesStdin run) w q k is = is
failed_at_ends (LosesLink link) w q k is = is
failed_at_ends NeverFails w q k is = is

come_ends : (t : Turn) (f : Followed) → Ends IsFollowed t → Ends IsFollowed (come t f)
come_ends (Done w) (followed.Answered reply) is = is
come_ends (Done w) (followed.Failed failure) is = failed_followed failure w is
come_ends (Ask w q k) (followed.Answered reply) is = is w reply
come_ends (Ask w q k) (followed.Failed failure) is = failed_at_ends failure w q k is

came_ends : (t : Turn) (fs : List Followed) → Ends IsFollowed t → Ends IsFollowed (came t fs)
came_ends t [] is = is
came_ends t (f ∷ fs) is = came_ends (come t f) fs (come_ends t f is)

part_ends : (m : Model) (part : Part) → Ends IsFollowed (hand m) → Ends IsFollowed (hand (next_part m part))
part_ends m (Begins at cause) is = turn_ends cause at (now m)
part_ends m (Answers reply) is =
    subst (λ (t : Turn). Ends IsFollowed t) (sym (came_more (turn_of m.begun m.base) m.followed (followed.Answered reply ∷ [])))
    (come_ends (hand m) (followed.Answered reply) is)
part_ends m (Fails number) is =
    let told = failures_told (failure_named m number) in
    subst (λ (t : Turn). Ends IsFollowed t) (sym (came_more (turn_of m.begun m.base) m.followed told)) (came_ends (hand m) told is)

pub after_ends : (m : Model) (inputs : List Input) → Ends IsFollowed (hand m) → Ends IsFollowed (hand (after m inputs))
after_ends m [] is = is
after_ends m (i ∷ inputs) is =
    by_test (accepts m i) (after_ends (next m i) inputs (part_ends m (part_of i) is)) (after_ends m inputs is) where
      by_test : (b : Bool) → Ends IsFollowed (hand (after (next m i) inputs)) → Ends IsFollowed (hand (after m inputs))
          → Ends IsFollowed (hand (if b then after (next m i) inputs else after m inputs))
      by_test true one other = one
      by_test false one other = other

-- where no question stands the turn has ended
pub ended_so : (t : Turn) → is_none (asked_of t) ≡ true → Ends IsFollowed t → IsFollowed (world_of t)
ended_so (Done w) none is = is
ended_so (Ask w q k) none is = absurd cc
