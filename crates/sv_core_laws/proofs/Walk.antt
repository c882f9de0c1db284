-- The walk through a whole turn, and over all inputs.
use Rattle.std.proofs.Common.{ℕ, zero, suc, append-nil, ◌++◌, List, [], ◌∷◌, Bool, true, false, ◌≡◌, refl, subst, sym, if◌then◌else◌, ◌∙◌}
use Rattle.std.specs.Prelude.{◌-◌, not, is_none}
use Rattle.sv_base.specs.declared.ids.Run.{Run}
use Rattle.sv_base.specs.declared.signal.Signal.{Signal}
use Rattle.sv_child.specs.Moves.{is_running}
use Rattle.sv_children.specs.Spans.{span_meant}
use Rattle.sv_children.specs.declared.news.News.TheVariants as news_is
use Rattle.sv_core_laws.proofs.NextLink.{OpensNext, both_parts, links_announced, opens_next}
use Rattle.sv_core.proofs.Standing.{came_more}
use Rattle.sv_core.specs.Deeds.{after}
use Rattle.sv_core.specs.Events.{announces, ticks}
use Rattle.sv_core.specs.Output.{ends_pipe, hears_on}
use Rattle.sv_core.specs.HandingOut.{hands_out}
use Rattle.sv_core.specs.Listening.{exits, loses_stdin}
use Rattle.sv_core.specs.Failure.{failed, failures_told, refusal}
use Rattle.sv_core.specs.MachineState.{Model, hand, failure_named, now, next, next_part, turn_of, accepts, can_be_named, is_accepted, may_begin_in}
use Rattle.sv_core.specs.Parts.{part_of}
use Rattle.sv_core.specs.Openings.{closes_links, guard_at, opens}
use Rattle.sv_core.specs.Shutdown.{begins_shutdown, follows_plan, halts, halts_after, heeds, is_ending}
use Rattle.sv_core.specs.Stops.{stops_all}
use Rattle.sv_core.specs.Sweeps.{Turn, sweeps_over}
use Rattle.sv_core.specs.Sweeps.Turn.{Done, Ask}
use Rattle.sv_core.specs.Turn.{after_links, after_pass, after_stimulus, applies, asked_of, came, come, failed_at, rewinds, turn, world_of}
use Rattle.sv_core.specs.World.{World}
use Rattle.sv_core.specs.declared.failure.Failure.{Failure}
use Rattle.sv_core.specs.declared.failure.Failure.TheVariants.{NeverFails, ChangesNothing, LosesStdin, LosesLink, RefusesQuestion}
use Rattle.sv_core.specs.declared.part.Cause.{Cause}
use Rattle.sv_core.specs.declared.part.Cause.TheVariants as cause_is
use Rattle.sv_core.specs.declared.part.Followed.{Followed}
use Rattle.sv_core.specs.declared.part.Followed.TheVariants as followed
use Rattle.sv_core.specs.declared.part.Part.{Part}
use Rattle.sv_core.specs.declared.part.Part.TheVariants.{Begins, Answers, Fails}
use Rattle.sv_core.specs.declared.part.Question.{Question}
use Rattle.sv_core.specs.declared.part.Reply.{Reply}
use Rattle.sv_groups.specs.declared.order.Span.{Span}
use Rattle.sv_links.specs.LinkBook as link_book
use Rattle.sv_links.specs.LinkBook.{LinkRecord}
use Rattle.sv_links.specs.LinkBook.Ending.{Ended, Failed as Lost, Closed}
use Rattle.sv_links.specs.LinkDeeds.{Deed}
use Rattle.sv_links.specs.LinkDeeds.Deed.{Answer, End, Feed, GiveMore, Open, Take}
use Rattle.sv_out.specs.declared.input.Input.{Input}
use Rattle.sv_out.specs.declared.order.Order.TheVariants as order
use Rattle.sv_runs.specs.RunBook.{living}
use Rattle.sv_core_laws.proofs.CallSteps.{kept_shutdown, kept_serves_all}
use Rattle.sv_core_laws.proofs.LinkTells as tells
use Rattle.sv_core_laws.proofs.LinkTells.{Tells}
use Rattle.sv_core_laws.proofs.Silent.{lost_stdin}
use Rattle.sv_core_laws.proofs.Steps.{Between, From, Leading, Onward, Steps, by_test, from_leads, is_loss, kept_announces, kept_closes_all, kept_ends_pipe, kept_exits_of, kept_follows_plan, kept_hands_out, kept_hears_on, kept_loses, kept_opens, kept_stops_all, kept_sweeps, kept_sweeps_all, kept_ticks, kept_untold}

-- what ends a link because the daemon halts
abbrev pub is_closing : Deed → Bool
is_closing (End link Closed) = true
is_closing deed = false

-- whatever else may be done with links
abbrev pub MayAll : (Deed → Bool) → Type 0
MayAll may = (deed : Deed) → is_closing deed ≡ false → may deed ≡ true

-- ---- an order fails

lost_between : (run : Run) (w : World) → Between w (loses_stdin run w)
lost_between run w =
    let s = lost_stdin run w in record { calls = s.calls; told = tells.silent is_loss w (loses_stdin run w) s; halted = s.halted }

pub same_between : (w : World) → Between w w
same_between w = record { calls = refl; told = tells.same is_loss w; halted = refl }

pub failed_between : (failure : Failure) (w : World) → Between w (failed failure w)
failed_between (LosesStdin run) w = lost_between run w
failed_between (LosesLink link) w = record {
  calls = refl;
  told = record {
    all = record { deed = End link Lost; bytes = [] } ∷ [];
    allowed = refl;
    links = refl;
    more = [];
    added = sym (append-nil w.given);
    told = refl;
  };
  halted = refl;
}
failed_between RefusesQuestion w = same_between w
failed_between ChangesNothing w = same_between w
failed_between NeverFails w = same_between w

pub between_both : (u v w : World) → Between u v → Between v w → Between u w
between_both u v w a b = record {
  calls = b.calls ∙ a.calls;
  told = tells.follow is_loss u v w a.told b.told;
  halted = b.halted ∙ a.halted;
}

module _ (R : World → World → Type 0) (s : Steps R) (all : MayAll s.may) where
  pub kept_heeds : (signal : Signal) (w : World) → R w (heeds signal w)
  kept_heeds signal w = by_test R s (is_ending signal) w (begins_shutdown w) w (kept_shutdown R s w) (s.same w)

  pub kept_failure : (failure : Failure) (w : World) → R w (failed failure w)
  kept_failure (LosesStdin run) w = kept_loses R s run w
  kept_failure (LosesLink link) w = kept_untold R s (End link Lost) w refl (all (End link Lost) refl) refl
  kept_failure RefusesQuestion w = s.same w
  kept_failure ChangesNothing w = s.same w
  kept_failure NeverFails w = s.same w

-- what is said of the turns, where it is said of what comes after the pass
module _ (R : World → World → Type 0) (s : Steps R) (all : MayAll s.may) (G : World → Turn → Type 0) (g : Leading R G)
    (passed : (w : World) → G w (after_pass w)) where
  kept_after_stimulus : (w : World) → G w (after_stimulus w)
  kept_after_stimulus w =
      g.leads w (ticks w) (after_stimulus w) (kept_ticks R s w) (kept_sweeps_all R s G g news_is.Time (ticks w) after_pass passed)

  kept_start : (b : Bool) (span : Span) (w : World)
      → G w (if b then sweeps_over news_is.Start span w after_stimulus else after_stimulus w)
  kept_start true span w = kept_sweeps R s G g news_is.Start (span.to - span.from) span.from w after_stimulus kept_after_stimulus
  kept_start false span w = kept_after_stimulus w

  kept_applies : (cause : Cause) (w : World) → OpensNext cause w.links → G w (applies cause w after_stimulus)
  kept_applies cause_is.Tick w next = kept_after_stimulus w
  kept_applies (cause_is.Exit run how) w next =
      g.leads w (exits run how w) (after_stimulus (exits run how w)) (kept_exits_of R s (living run w.runs) run how w)
      (kept_after_stimulus (exits run how w))
  kept_applies (cause_is.Heard run stream bytes) w next =
      let v = hears_on stream run bytes w in g.leads w v (after_stimulus v) (kept_hears_on R s stream run bytes w) (kept_after_stimulus v)
  kept_applies (cause_is.PipeEnd run stream) w next =
      let v = ends_pipe run stream w in g.leads w v (after_stimulus v) (kept_ends_pipe R s run stream w) (kept_after_stimulus v)
  kept_applies (cause_is.Opened link side) w next =
      let v = opens link side w in
      g.leads w v (after_stimulus v) (kept_opens R s link (guard_at side w.config.servers) w next (λ guard. all (Open guard) refl)) (kept_after_stimulus v)
  kept_applies (cause_is.Brought link bytes) w next =
      let v = record w { links = link_book.fed link bytes w.links } in
      g.leads w v (after_stimulus v) (kept_untold R s (Feed link bytes) w refl (all (Feed link bytes) refl) refl) (kept_after_stimulus v)
  kept_applies (cause_is.LinkEnd link) w next =
      let v = record w { links = link_book.ended link Ended w.links } in
      g.leads w v (after_stimulus v) (kept_untold R s (End link Ended) w refl (all (End link Ended) refl) refl) (kept_after_stimulus v)
  kept_applies (cause_is.Start name) w next = kept_start (is_running w.course.mood) (span_meant name w.children.roster) w
  kept_applies (cause_is.Stop name) w next =
      let v = stops_all (span_meant name w.children.roster) w in
      g.leads w v (after_stimulus v) (kept_stops_all R s (span_meant name w.children.roster) w) (kept_after_stimulus v)
  kept_applies (cause_is.Signal signal) w next =
      g.leads w (heeds signal w) (after_stimulus (heeds signal w)) (kept_heeds R s all signal w) (kept_after_stimulus (heeds signal w))

  pub kept_turn : (cause : Cause) (at : ℕ) (w : World) → OpensNext cause w.links → G w (turn cause at w)
  kept_turn cause at w next =
      let v = announces w in
      g.leads w v (turn cause at w) (kept_announces R s w)
      (g.leads v (rewinds at v) (turn cause at w) (s.rewound at v)
      (kept_applies cause (rewinds at v) (subst (λ (book : List LinkRecord). OpensNext cause book) (sym (links_announced w)) next)))

module _ (R : World → World → Type 0) (s : Steps R) (all : (deed : Deed) → s.may deed ≡ true)
    (halted : (w : World) → R w (record w { course = record w.course { halted = true } })) where
  kept_halts : (w : World) → R w (halts w)
  kept_halts w = by_test R s (is_running w.course.mood) w w (halts_after w.course.left w) (s.same w) (kept_after_plan w.course.left w) where
    kept_after_plan : (left : ℕ) (v : World) → R v (halts_after left v)
    kept_after_plan zero v =
        let closed = closes_links v in
        let ended = record closed { given = closed.given ++ order.Halt ∷ [] } in
        s.follow v closed (halts_after zero v) (kept_closes_all R s (link_book.open_links v.links) v (λ link. all (End link Closed)))
        (s.follow closed ended (halts_after zero v) (s.ended closed) (halted ended))
    kept_after_plan (suc left) v = s.same v

  kept_after_links : (w : World) → From R w (after_links w)
  kept_after_links w =
      let v = follows_plan w in (
        s.follow w v (halts (hands_out v)) (kept_follows_plan R s w)
            (s.follow v (hands_out v) (halts (hands_out v)) (kept_hands_out R s v) (kept_halts (hands_out v))),
        tt,
      )

  kept_after_pass : (w : World) → From R w (after_pass w)
  kept_after_pass w =
      kept_serves_all R s (From R) (from_leads R s) (link_book.busy_links w.links) w after_links
      (λ link. record { take = all (Take link); more = all (GiveMore link); reply = λ closes. all (Answer link closes) }) kept_after_links

  most : MayAll s.may
  most deed other = all deed

  -- a question that was asked stands on where another order failed
  later : (failure : Failure) (w : World) (q : Question) (k : World → Reply → Turn) → Onward R (Ask w q k) → Onward R (Ask (failed failure w) q k)
  later failure w q k goes = λ v between reply. goes v (between_both w (failed failure w) v (failed_between failure w) between) reply

  kept_failed : (failure : Failure) (w : World) (q : Question) (k : World → Reply → Turn) → Onward R (Ask w q k)
      → From R w (failed_at failure w q k)
  kept_failed RefusesQuestion w q k goes = goes w (same_between w) (refusal q)
  kept_failed ChangesNothing w q k goes = (s.same w, goes)
  kept_failed (LosesStdin run) w q k goes = (kept_failure R s most (LosesStdin run) w, later (LosesStdin run) w q k goes)
  kept_failed (LosesLink link) w q k goes = (kept_failure R s most (LosesLink link) w, later (LosesLink link) w q k goes)
  kept_failed NeverFails w q k goes = (s.same w, goes)

  pub kept_come : (t : Turn) (f : Followed) → Onward R t → From R (world_of t) (come t f)
  kept_come (Done w) (followed.Answered reply) goes = (s.same w, tt)
  kept_come (Done w) (followed.Failed failure) goes = (kept_failure R s most failure w, tt)
  kept_come (Ask w q k) (followed.Answered reply) goes = goes w (same_between w) reply
  kept_come (Ask w q k) (followed.Failed failure) goes = kept_failed failure w q k goes

  kept_came : (t : Turn) (fs : List Followed) → Onward R t → From R (world_of t) (came t fs)
  kept_came t [] goes = (s.same (world_of t), goes)
  kept_came t (f ∷ fs) goes =
      let step = kept_come t f goes in
      let rest = kept_came (come t f) fs step.1 in
      (s.follow (world_of t) (world_of (come t f)) (world_of (came (come t f) fs)) step.0 rest.0, rest.1)

  -- a part of a turn is accepted so
  abbrev IsTaken : Model → Part → Type 0
  IsTaken m part = is_accepted part (asked_of (hand m)) (may_begin_in (now m)) (can_be_named m) ≡ true

  kept_part : (m : Model) (part : Part) → IsTaken m part → Onward R (hand m) → From R (now m) (hand (next_part m part))
  kept_part m (Begins at cause) taken goes =
      kept_turn R s most (From R) (from_leads R s) kept_after_pass cause at (now m)
      (opens_next cause (now m) (both_parts (is_none (asked_of (hand m))) (may_begin_in (now m) cause) taken).1)
  kept_part m (Answers reply) taken goes =
      subst (λ t. From R (now m) t) (sym (came_more (turn_of m.begun m.base) m.followed (followed.Answered reply ∷ [])))
      (kept_come (hand m) (followed.Answered reply) goes)
  kept_part m (Fails number) taken goes =
      let told = failures_told (failure_named m number) in
      subst (λ t. From R (now m) t) (sym (came_more (turn_of m.begun m.base) m.followed told)) (kept_came (hand m) told goes)

  pub kept_next : (m : Model) (input : Input) → accepts m input ≡ true → Onward R (hand m) → From R (now m) (hand (next m input))
  kept_next m input accepted goes =
      kept_part m (part_of input)
      (both_parts (not (now m).course.halted) (is_accepted (part_of input) (asked_of (hand m)) (may_begin_in (now m)) (can_be_named m)) accepted).1
      goes

  pub kept_after : (m : Model) (inputs : List Input) → Onward R (hand m) → R (now m) (now (after m inputs))
  kept_after m [] goes = s.same (now m)
  kept_after m (i ∷ is) goes =
      by_acceptance (accepts m i) refl (λ onward. kept_after (next m i) is onward) (kept_after m is goes) where
        by_acceptance : (b : Bool) → accepts m i ≡ b → (Onward R (hand (next m i)) → R (now (next m i)) (now (after (next m i) is)))
            → R (now m) (now (after m is)) → R (now m) (now (if b then after (next m i) is else after m is))
        by_acceptance true accepted rest left =
            let step = kept_next m i accepted goes in
            s.follow (now m) (now (next m i)) (now (after (next m i) is)) step.0 (rest step.1)
        by_acceptance false accepted rest left = left
