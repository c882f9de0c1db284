-- Step 5 of a turn begins all requests of a link that is open and whose call doesn't wait.
use Rattle.std.proofs.Common.{◌≡◌, ◌==◌, ℕ, zero, suc, List, [], ◌∷◌, Bool, true, false, Option, Some, None, if◌then◌else◌, ◌⊎◌, inl, inr, refl, ◌∙◌}
use Rattle.std.proofs.lemmas.Bool.{false≢true, eqb-true}
use Rattle.sv_calls.specs.Answers.Served.{heard}
use Rattle.sv_base.specs.declared.ids.LinkId.{LinkId}
use Rattle.sv_child.specs.Moves.{is_running}
use Rattle.sv_core.specs.HandingOut.{hands_out}
use Rattle.sv_core.specs.Moves.{says}
use Rattle.sv_core.specs.Serving.{gives_more, serves_all, serves_asks, serves_ask, serves_left, serves_link, serves_next}
use Rattle.sv_core.specs.Shutdown.{follows_plan, halts_after}
use Rattle.sv_core.specs.Sweeps.{Turn}
use Rattle.sv_core.specs.Sweeps.Turn.{Done, Ask}
use Rattle.sv_core.specs.Turn.{after_links, after_pass}
use Rattle.sv_core.specs.World.{World, gives}
use Rattle.sv_core.specs.declared.part.Reply.{Reply}
use Rattle.sv_core_laws.proofs.CallSteps.{kept_goes_on, kept_takes_up}
use Rattle.sv_core_laws.proofs.LinkHistory.{linked, tells_steps}
use Rattle.sv_core_laws.proofs.LinkKept.{Left, answers_within, busy_left, is_answer_on, is_in, is_none, is_on, is_usual, left_first, loss_answers, more_left, none_left, on_within, others_left, same_number, some_left}
use Rattle.sv_core_laws.proofs.LinkTells as tells
use Rattle.sv_core_laws.proofs.LinkTells.{Tells, all_may, widened}
use Rattle.sv_core_laws.proofs.PlainSteps.{PlainSteps, plainly}
use Rattle.sv_core_laws.proofs.Silent.{added_log, moved, offered, returned}
use Rattle.sv_core_laws.proofs.Steps.{Between, Leading, MayReply, Steps, is_loss, kept_follows_plan, kept_hands_out, kept_more, kept_untold}
use Rattle.sv_core_laws.specs.LinkHistory.{LinkEntry, deeds_of}
use Rattle.sv_http.specs.declared.ask.Ask.{Ask as Request}
use Rattle.sv_links.specs.LinkBook.{LinkRecord, ask_at, busy_links, left_at, more_given, more_is_due, taken}
use Rattle.sv_links.specs.LinkDeeds.{Deed, after_all}
use Rattle.sv_links.specs.LinkDeeds.Deed.{Take}
use Rattle.sv_out.specs.declared.order.Order.TheVariants as order

-- this was done with links meanwhile, and the daemon has halted or not as before
abbrev pub Goes : (Deed → Bool) → World → World → Type 0
Goes may w v = Tells may w v × (v.course.halted ≡ w.course.halted)

abbrev pub goes_plainly : (may : Deed → Bool) → PlainSteps (Goes may)
goes_plainly may =
    let t = tells_steps may in
    record {
      may = may;
      same = λ w. (tells.same may w, refl);
      follow = λ u v w a b. (tells.follow may u v w a.0 b.0, b.1 ∙ a.1);
      rewound = λ at w. (t.rewound at w, refl);
      came = λ how stimulus c w. (t.came how stimulus c w, (moved how c (says stimulus c w) w).halted);
      killed = λ c signal group w. (t.killed c signal group w, refl);
      ordered = λ spawning w. (t.ordered spawning w, refl);
      steered = λ course w same. (t.steered course w same, same);
      ended = λ w. (t.ended w, refl);
      offered = λ kind fact w. (t.offered kind fact w, (offered kind fact w).halted);
      clocked = λ clock w. (t.clocked clock w, refl);
      booked = λ runs w. (t.booked runs w, refl);
      done = λ c w. (t.done c w, refl);
      returned = λ c w. (t.returned c w, (returned c w).halted);
      sent = λ run c w. (t.sent run c w, refl);
      logged = λ log piece w. (t.logged log piece w, (added_log log piece w).halted);
      written = λ streams w. (t.written streams w, refl);
      linked = λ entry w ok. (linked may entry w ok, refl);
      read = λ file start length w. (t.read file start length w, refl);
      called = λ calls w. (t.called calls w, refl);
      told = λ run bytes w. (t.told run bytes w, refl);
      wiped = λ file w. (t.wiped file w, refl);
      emptied = λ file w. (t.emptied file w, refl);
    }

abbrev pub goes_steps : (may : Deed → Bool) → Steps (Goes may)
goes_steps may = plainly (Goes may) (goes_plainly may)

-- ---- what is said of a turn

-- no request is left but of a link that is over or whose call waits
abbrev pub AllBegun : List LinkRecord → Type 0
AllBegun book = (number : ℕ) → Left 0 number book

module _ (base : World) where
  -- since then nothing was closed because the daemon halts, and it goes on
  pub record Stands (w : World) : Type 0 where
    pub told : Tells is_usual base w
    pub running : w.course.halted ≡ false

  -- the daemon halted here when all requests were begun
  pub record IsOver (w : World) : Type 0 where
    pub before : World
    pub stood : Stands before
    pub begun : AllBegun before.links
    pub is : w ≡ halts_after zero before

  -- a turn that is done: the daemon goes on, or it halted
  abbrev pub Final : World → Type 0
  Final w = Stands w ⊎ IsOver w

  -- the daemon goes on until the turn is done
  abbrev pub Good : Turn → Type 0
  Good (Done w) = Final w
  Good (Ask w q k) = Stands w × ((v : World) → Between w v → (reply : Reply) → Good (k v reply))

  pub stands_on : (u v : World) → Goes is_usual u v → Stands u → Stands v
  stands_on u v goes stands = record { told = tells.follow is_usual base u v stands.told goes.0; running = goes.1 ∙ stands.running }

  pub usual_between : (w v : World) → Between w v → Goes is_usual w v
  usual_between w v between = (widened is_loss is_usual w v usual between.told, between.halted) where
    usual : (deed : Deed) → is_loss deed ≡ true → is_usual deed ≡ true
    usual deed is = on_within any deed (answers_within any deed (loss_answers any deed is)) where
      any : LinkId
      any = record { 0 = 0 }

  -- from a world that stands
  abbrev pub Standing : World → Turn → Type 0
  Standing w t = Stands w → Good t

  pub standing_leads : Leading (Goes is_usual) Standing
  standing_leads = record {
    leads = λ w v t goes good stands. good (stands_on w v goes stands);
    asks = λ w q k good stands. (stands, λ v between reply. good v between reply (stands_on w v (usual_between w v between) stands));
  }

  -- ---- while a link is served

  -- from a world that stands, and to which such deeds led
  abbrev Near : (Deed → Bool) → World → World → Turn → Type 0
  Near may start w t = Stands w → Tells may start w → Good t

  near_leads : (may : Deed → Bool) (start : World) → ((deed : Deed) → may deed ≡ true → is_usual deed ≡ true)
      → ((deed : Deed) → is_loss deed ≡ true → may deed ≡ true) → Leading (Goes may) (Near may start)
  near_leads may start usual lost = record {
    leads = λ w v t goes good stands near.
        good (stands_on w v (widened may is_usual w v usual goes.0, goes.1) stands) (tells.follow may start w v near goes.0);
    asks = λ w q k good stands near. (
      stands,
      λ v between reply.
          good v between reply (stands_on w v (usual_between w v between) stands)
          (tells.follow may start w v near (widened is_loss may w v lost between.told)),
    );
  }

  answers_usual : (m : LinkId) (deed : Deed) → is_answer_on m deed ≡ true → is_usual deed ≡ true
  answers_usual m deed is = on_within m deed (answers_within m deed is)

  answering : (m : LinkId) (start : World) → Leading (Goes (is_answer_on m)) (Near (is_answer_on m) start)
  answering m start = near_leads (is_answer_on m) start (answers_usual m) (loss_answers m)

  may_reply : (m : LinkId) → MayReply (is_answer_on m) m
  may_reply m closes = same_number m

  -- the next request of a link
  next_served : (m : LinkId) (left : ℕ) (w : World) (k : World → Turn)
      → ((v : World) → Stands v → Tells (is_on m) w v → Left left m.0 v.links → Good (k v))
      → Stands w → Left (suc left) m.0 w.links → Good (serves_next m w k)
  next_served m left w k goes stands few = by_ask (ask_at m w.links) refl where
    took : Goes (is_on m) w (record w { links = taken m w.links })
    took = kept_untold (Goes (is_on m)) (goes_steps (is_on m)) (Take m) w refl (same_number m) refl

    began : Stands (record w { links = taken m w.links })
    began = stands_on w (record w { links = taken m w.links })
        (widened (is_on m) is_usual w (record w { links = taken m w.links }) (on_within m) took.0, took.1) stands

    by_ask : (ask : Option Request) → ask_at m w.links ≡ ask → Good (serves_ask m ask (record w { links = taken m w.links }) k)
    by_ask None is = goes (record w { links = taken m w.links }) began took.0 (none_left left m w.links is)
    by_ask (Some ask) is =
        let u = record w { links = taken m w.links } in
        kept_takes_up (Goes (is_answer_on m)) (goes_steps (is_answer_on m)) (Near (is_answer_on m) u) (answering m u) m (heard ask) u k (may_reply m)
        (λ v stood near. goes v stood
        (tells.follow (is_on m) w u v took.0 (widened (is_answer_on m) (is_on m) u v (answers_within m) near))
        (some_left left m ask near.all w.links v.links is near.allowed near.links few))
        began (tells.same (is_answer_on m) u)

  -- so many of them
  asks_served : (m : LinkId) (left : ℕ) (w : World) (k : World → Turn)
      → ((v : World) → Stands v → Tells (is_on m) w v → Left 0 m.0 v.links → Good (k v))
      → Stands w → Left left m.0 w.links → Good (serves_asks left m w k)
  asks_served m zero w k goes stands few = goes w stands (tells.same (is_on m) w) few
  asks_served m (suc left) w k goes stands few =
      next_served m left w (λ v. serves_asks left m v k)
      (λ v stood near fewer. asks_served m left v k
      (λ x stays on none. goes x stays (tells.follow (is_on m) w v x near on) none) stood fewer)
      stands few

  -- all of a link
  link_served : (m : LinkId) (w : World) (k : World → Turn)
      → ((v : World) → Stands v → Tells (is_on m) w v → Left 0 m.0 v.links → Good (k v)) → Stands w → Good (serves_link m w k)
  link_served m w k goes stands =
      let left = left_at m w.links in
      kept_goes_on (Goes (is_answer_on m)) (goes_steps (is_answer_on m)) (Near (is_answer_on m) w) (answering m w) m w
      (λ v. serves_left left m v k) (may_reply m)
      (λ v stood near. asks_served m left v (λ x. k (gives_more m x))
      (λ x stays on none.
      let y = gives_more m x in
      let more = kept_more (Goes (is_on m)) (goes_steps (is_on m)) m x (same_number m) in
      let before = widened (is_answer_on m) (is_on m) w v (answers_within m) near in
      goes y (stands_on x y (widened (is_on m) is_usual x y (on_within m) more.0, more.1) stays)
      (tells.follow (is_on m) w v y before (tells.follow (is_on m) v x y on more.0))
      (given_left x none))
      stood (left_first m near.all w.links v.links near.allowed near.links))
      stands (tells.same (is_answer_on m) w) where
        given_left : (x : World) → Left 0 m.0 x.links → Left 0 m.0 (gives_more m x).links
        given_left x none = by_due (more_is_due m x.links) where
          by_due : (b : Bool)
              → Left 0 m.0 (if b then gives (order.More m) (record x { links = more_given m x.links }) else record x { links = more_given m x.links }).links
          by_due true = more_left 0 m x.links none
          by_due false = more_left 0 m x.links none

  -- all links
  all_served : (links : List LinkId) (w : World) (k : World → Turn) → ((v : World) → Stands v → AllBegun v.links → Good (k v)) → Stands w
      → ((number : ℕ) → is_in number links ≡ false → Left 0 number w.links) → Good (serves_all links w k)
  all_served [] w k goes stands rest = goes w stands (λ number. rest number refl)
  all_served (link ∷ links) w k goes stands rest =
      link_served link w (λ v. serves_all links v k)
      (λ v stood near none. all_served links v k goes stood (λ number out. by_own number out v near none (link.0 == number) refl))
      stands where
        by_own : (number : ℕ) → is_in number links ≡ false → (v : World) → Tells (is_on link) w v → Left 0 link.0 v.links
            → (b : Bool) → (link.0 == number) ≡ b → Left 0 number v.links
        by_own number out v near none true e = rw (eqb-true link.0 number e) at none
        by_own number out v near none false e =
            others_left number link near.all w.links v.links e near.allowed near.links (rest number (rw e out))

  -- ---- the rest of a turn

  same_links : (w v : World) → Tells is_none w v → v.links ≡ w.links
  same_links w v told = by_all told.all told.allowed told.links where
    by_all : (all : List LinkEntry) → all_may is_none all ≡ true → v.links ≡ after_all (deeds_of all) w.links → v.links ≡ w.links
    by_all [] are links = links
    by_all (entry ∷ all) are links = absurd (false≢true are)

  none_usual : (deed : Deed) → is_none deed ≡ true → is_usual deed ≡ true
  none_usual deed is = absurd (false≢true is)

  links_done : (w : World) → Stands w → AllBegun w.links → Good (after_links w)
  links_done w stands begun =
      let v = follows_plan w in
      let u = hands_out v in
      let steps = goes_steps is_none in
      let one = kept_follows_plan (Goes is_none) steps w in
      let two = kept_hands_out (Goes is_none) steps v in
      let stays = stands_on v u (widened is_none is_usual v u none_usual two.0, two.1)
      (stands_on w v (widened is_none is_usual w v none_usual one.0, one.1) stands) in
      let same : u.links ≡ w.links = same_links v u two.0 ∙ same_links w v one.0 in
      by_mood u stays (λ number. rw same (begun number)) (is_running u.course.mood) where
        by_left : (u : World) → Stands u → AllBegun u.links → (left : ℕ) → Final (halts_after left u)
        by_left u stays begun zero = inr (record { before = u; stood = stays; begun = begun; is = refl })
        by_left u stays begun (suc left) = inl stays

        by_mood : (u : World) → Stands u → AllBegun u.links → (b : Bool) → Final (if b then u else halts_after u.course.left u)
        by_mood u stays begun true = inl stays
        by_mood u stays begun false = by_left u stays begun u.course.left

  pub passed : (w : World) → Standing w (after_pass w)
  passed w stands =
      all_served (busy_links w.links) w after_links links_done stands (λ number out. busy_left 0 number w.links out)
