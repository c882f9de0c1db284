-- A turn that a piece of a link begins, and that gives More and nothing else, and the next one at the same moment, are as the one of
-- both pieces together.
use Rattle.std.proofs.Common.{◌≡◌, ◌⊎◌, inl, inr, ℕ, ◌-◌, ◌++◌, ◌&&◌, List, [], ◌∷◌, Bool, true, false, length, ◌∙◌, refl, ap, sym}
use Rattle.sv_base.specs.declared.ids.LinkId.{LinkId}
use Rattle.sv_children.specs.Crew.{Crew}
use Rattle.sv_children.specs.Rewound.{crew_rewound}
use Rattle.sv_children.specs.declared.news.News.TheVariants as news_is
use Rattle.sv_core.specs.Events.{announces, ticks}
use Rattle.sv_core.specs.HandingOut.{hands_out}
use Rattle.sv_core.specs.Serving.{serves_links}
use Rattle.sv_core.specs.Shutdown.{follows_plan, halts}
use Rattle.sv_core.specs.Sweeps.{Turn, sweeps}
use Rattle.sv_core.specs.Sweeps.Turn.{Done}
use Rattle.sv_core.specs.Turn.{after_links, after_pass, passes, rewinds, turn, world_of}
use Rattle.sv_core.specs.World.{World}
use Rattle.sv_core.specs.declared.part.Cause.TheVariants as cause_is
use Rattle.sv_cut_laws.proofs.Both.{halts_later, later}
use Rattle.sv_cut_laws.proofs.Handing.IsFollowed.{runs as runs_on, over, waits}
use Rattle.sv_cut_laws.proofs.Handing.{IsFollowed, followed_once, halted_or, handed_out, speaks_still}
use Rattle.sv_cut_laws.proofs.HaveRuns.{HaveRuns}
use Rattle.sv_cut_laws.proofs.Links.{all_given, all_more, all_more_is, fed_twice, mores, one_more_given}
use Rattle.sv_cut_laws.proofs.Loud.{IsNatural, Loud, Speaks, Starts, bare, bare_later, grown, is_more}
use Rattle.sv_cut_laws.proofs.Past.{ticks_past}
use Rattle.sv_cut_laws.proofs.Rewinding.{at_rest_same, rewound_twice, runs_same, same_crew}
use Rattle.sv_cut_laws.proofs.Serves.{AllServe}
use Rattle.sv_cut_laws.proofs.Tells.{Tells, announced_once, are_plain, having_announced, having_looked, is_plain, looked_once, plain_both, tells_announced, tells_ticks}
use Rattle.sv_cut_laws.proofs.Time.{AllStand, time_passes, time_tells}
use Rattle.sv_cut_laws.proofs.Turns.{after_links_later, after_pass_later}
use Rattle.sv_groups.specs.StartOrder.{span_of}
use Rattle.sv_links.specs.LinkBook.{LinkRecord, busy_links, fed, more_given, more_is_due, takes_piece}
use Rattle.sv_out.specs.declared.order.Order.{Order}
use Rattle.sv_out.specs.declared.order.Order.TheVariants as order

-- ---- one More is all

first_of : Order → List Order → Order
first_of other [] = other
first_of other (o ∷ os) = o

rest_of : List Order → List Order
rest_of [] = []
rest_of (o ∷ os) = os

not_none : (before : List Order) (o : Order) (rest : List Order) → [] ≡ before ++ o ∷ rest → ⊥
not_none [] o rest is = cc
not_none (x ∷ xs) o rest is = cc

-- no other order is among one More
pub only_more : (link : LinkId) (before rest : List Order) (o : Order) → order.More link ∷ [] ≡ before ++ o ∷ rest → is_more o ≡ false → ⊥
unfolding first_of rest_of
only_more link [] rest o is other = clash (ap is_more (ap (λ (os : List Order). first_of order.Halt os) is) ∙ other) where
  clash : true ≡ false → ⊥
  clash = cc
only_more link (x ∷ xs) rest o is other = not_none xs o rest (ap (λ (os : List Order). rest_of os) is)

-- nothing plain comes before it
pub none_plain : (link : LinkId) (given rest : List Order) → are_plain given ≡ true → order.More link ∷ [] ≡ given ++ rest → given ≡ []
unfolding first_of
none_plain link [] rest plain is = refl
none_plain link (x ∷ xs) rest plain is =
    absurd (clash (ap is_plain (ap (λ (os : List Order). first_of order.Halt os) is) ∙ (first_plain (is_plain x) plain))) where
      clash : false ≡ true → ⊥
      clash = cc

      first_plain : (b : Bool) → (b && are_plain xs) ≡ true → b ≡ true
      first_plain true is = refl
      first_plain false is = absurd cc

done_is : (w v : World) → Done w ≡ Done v → w ≡ v
done_is w v is = ap world_of is

pass_natural : IsNatural after_pass
pass_natural a w = after_pass_later a w

halts_more : (w : World) → Starts w.given (halts w).given
halts_more w =
    ((halts (bare w)).given, ap (λ (v : World). v.given) (ap (λ (v : World). halts v) (sym (bare_later w)) ∙ halts_later w.given (bare w)))

-- ---- the world in which the links are served

module _ (at : ℕ) (link : LinkId) (w : World) where
  abbrev told : Tells (having_announced w) (announces w)
  told = tells_announced w

  abbrev ticked : Tells (having_looked (rewinds at (announces w))) (ticks (rewinds at (announces w)))
  ticked = tells_ticks (rewinds at (announces w))

  -- where these bytes came
  abbrev pub brought : List ℕ → World
  brought bytes = record w {
    course = record w.course { announced = true };
    children = crew_rewound at w.children;
    moment = at;
    clock = at;
    links = fed link bytes w.links;
    pools = ticked.pools;
    sizes = ticked.sizes;
    given = (w.given ++ told.more) ++ ticked.more;
  }

  ticks_are : ticks (rewinds at (announces w)) ≡ record (brought []) { links = w.links }
  ticks_are =
      ticked.is
      ∙ ap (λ (v : World). record (having_looked (rewinds at v)) { pools = ticked.pools; sizes = ticked.sizes; given = v.given ++ ticked.more })
      told.is

  pub turn_is : (bytes : List ℕ) → turn (cause_is.Brought link bytes) at w ≡ passes (brought bytes) after_pass
  turn_is bytes =
      ap (λ (v : World). passes v after_pass)
      (ticks_past [] (λ links. fed link bytes links) (rewinds at (announces w))
      ∙ ap (λ (v : World). record v { links = fed link bytes v.links }) ticks_are)

  -- ---- the first piece

  module _ (p q : List ℕ) (v : World) (none : w.given ≡ []) (runs : HaveRuns w.children.all) (followed : IsFollowed w)
      (takes : takes_piece link w.links ≡ true)
      (serving : AllServe (busy_links (fed link p w.links)) (brought p))
      (done : turn (cause_is.Brought link p) at w ≡ Done v) (more : v.given ≡ order.More link ∷ []) where
    abbrev children_now : Crew
    children_now = crew_rewound at w.children

    abbrev given_now : List Order
    given_now = (w.given ++ told.more) ++ ticked.more

    all_stand : AllStand (length children_now.all - 0) 0 children_now w.course.mood at
    all_stand =
        by_time (time_tells (length children_now.all - 0) 0 (brought p) (runs_same w.children.all children_now.all (same_crew at w.children) runs)) where
          by_time : AllStand (length children_now.all - 0) 0 children_now w.course.mood at
              ⊎ Loud (brought p) (sweeps news_is.Time (length children_now.all - 0) 0 (brought p))
              → AllStand (length children_now.all - 0) 0 children_now w.course.mood at
          by_time (inl all) = all
          by_time (inr loud) =
              let said = loud after_pass pass_natural v (sym (turn_is p) ∙ done) in
              absurd (only_more link given_now said.rest said.first (sym more ∙ said.is) said.other)

    passed : after_pass (brought p) ≡ Done v
    passed = sym (time_passes (length children_now.all - 0) 0 (brought p) after_pass all_stand) ∙ sym (turn_is p) ∙ done

    plain_now : are_plain given_now ≡ true
    plain_now =
        plain_both (w.given ++ told.more) ticked.more
        (plain_both w.given told.more (ap are_plain none) told.plain) ticked.plain

    nothing_now : given_now ≡ []
    nothing_now =
        let all = grown after_pass pass_natural (brought p) v passed in
        none_plain link given_now all.0 plain_now (sym more ∙ all.1)

    served : (k : World → Turn) → serves_links (brought p) k ≡ k (all_more (busy_links (fed link p w.links)) (brought p))
    served = by_serving serving where
      by_serving : AllServe (busy_links (fed link p w.links)) (brought p)
          → (k : World → Turn) → serves_links (brought p) k ≡ k (all_more (busy_links (fed link p w.links)) (brought p))
      by_serving (inl quietly) = quietly
      by_serving (inr clash) =
          let found = clash after_links (λ a x. after_links_later a x) v passed in
          absurd (only_more link (given_now ++ found.0) found.1.rest found.1.first (sym more ∙ found.1.is) found.1.other)

    -- where each link that is due got More
    abbrev book : List LinkRecord
    book = fed link p w.links

    abbrev answered : World
    answered = record (brought p) { links = all_given (busy_links book) book; given = given_now ++ mores (busy_links book) book }

    ended : halts (hands_out (follows_plan answered)) ≡ v
    ended =
        done_is (halts (hands_out (follows_plan answered))) v
        (sym (served after_links ∙ ap (λ (x : World). after_links x) (all_more_is (busy_links book) (brought p))) ∙ passed)

    followed_now : IsFollowed w → IsFollowed answered
    followed_now (runs_on mood) = runs_on mood
    followed_now (over left) = over left
    followed_now (waits left is told rest) =
        waits left is told
        (at_rest_same (span_of left w.children.roster) w.children.all children_now.all (same_crew at w.children) ∙ rest)

    planned : follows_plan answered ≡ answered
    planned = followed_once answered (followed_now followed)

    handed : hands_out answered ≡ answered
    handed = by_hand (handed_out answered) where
      by_hand : (hands_out answered ≡ answered) ⊎ Speaks answered.given (hands_out answered).given → hands_out answered ≡ answered
      by_hand (inl same) = same
      by_hand (inr speaks) =
          let to_end : halts (hands_out answered) ≡ v = ap (λ (x : World). halts (hands_out x)) (sym planned) ∙ ended in
          let said = speaks_still answered.given (hands_out answered).given (halts (hands_out answered)).given speaks (halts_more (hands_out answered)) in
          absurd (only_more link answered.given said.rest said.first (sym more ∙ ap (λ (x : World). x.given) (sym to_end) ∙ said.is) said.other)

    goes_on : halts answered ≡ v
    goes_on = ap (λ (x : World). halts x) (sym handed) ∙ ap (λ (x : World). halts (hands_out x)) (sym planned) ∙ ended

    stands : answered ≡ v
    stands = by_halt (halted_or answered) where
      by_halt : (halts answered ≡ answered) ⊎ ((before : List Order) × ((halts answered).given ≡ before ++ order.Halt ∷ [])) → answered ≡ v
      by_halt (inl same) = sym same ∙ goes_on
      by_halt (inr halt) =
          absurd (only_more link halt.0 [] order.Halt (sym more ∙ ap (λ (x : World). x.given) (sym goes_on) ∙ halt.1) refl)

    only_one : mores (busy_links book) book ≡ order.More link ∷ []
    only_one = ap (λ (given : List Order). given ++ mores (busy_links book) book) (sym nothing_now) ∙ ap (λ (x : World). x.given) stands ∙ more

    given_more : (all_given (busy_links book) book ≡ more_given link book) × (more_is_due link book ≡ true)
    given_more = one_more_given (busy_links book) book link only_one

    -- where it got More
    abbrev pub after_more : World
    after_more = record (brought p) { links = more_given link book; given = order.More link ∷ [] }

    pub is_after : v ≡ after_more
    is_after =
        sym stands
        ∙ ap (λ (links : List LinkRecord). record (brought p) { links = links; given = given_now ++ mores (busy_links book) book }) given_more.0
        ∙ ap (λ (given : List Order). record (brought p) { links = more_given link book; given = given })
        (ap (λ (x : World). x.given) stands ∙ more)

    -- ---- the second piece

    rewound_again : rewinds at after_more ≡ after_more
    rewound_again = ap (λ (crew : Crew). record after_more { children = crew }) (rewound_twice at w.children)

    abbrev fed_again : World
    fed_again = record after_more { links = fed link q (more_given link book) }

    second_is : turn (cause_is.Brought link q) at after_more ≡ after_pass fed_again
    second_is =
        ap (λ (x : World). passes (ticks (record (rewinds at x) { links = fed link q (rewinds at x).links })) after_pass) (announced_once after_more refl)
        ∙ ap (λ (x : World). passes (ticks (record x { links = fed link q x.links })) after_pass) rewound_again
        ∙ ap (λ (x : World). passes x after_pass) (looked_once fed_again refl)
        ∙ time_passes (length children_now.all - 0) 0 fed_again after_pass all_stand

    -- both pieces together
    pub one_is : turn (cause_is.Brought link (p ++ q)) at w ≡ after_pass (brought (p ++ q))
    one_is = turn_is (p ++ q) ∙ time_passes (length children_now.all - 0) 0 (brought (p ++ q)) after_pass all_stand

    fed_is : fed_again ≡ later (order.More link ∷ []) (brought (p ++ q))
    fed_is =
        ap (λ (links : List LinkRecord). record after_more { links = links }) (fed_twice link p q w.links given_more.1 takes)
        ∙ ap (λ (given : List Order). record after_more { links = fed link (p ++ q) w.links; given = order.More link ∷ given }) (sym nothing_now)

    pub two_are : turn (cause_is.Brought link q) at v ≡ after_pass (later (order.More link ∷ []) (brought (p ++ q)))
    two_are =
        ap (λ (x : World). turn (cause_is.Brought link q) at x) is_after ∙ second_is ∙ ap (λ (x : World). after_pass x) fed_is
