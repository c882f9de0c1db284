-- A turn that goes on as another one does, where orders were given before it.
use Rattle.std.proofs.Common.{◌≡◌, ℕ, ◌++◌, List, [], ◌∷◌, Some, ◌∙◌, refl, ap, sym, subst, append_assoc}
use Rattle.sv_core.specs.Failure.{failed, refusal}
use Rattle.sv_core.specs.Sweeps.{Turn}
use Rattle.sv_core.specs.Sweeps.Turn.{Done, Ask}
use Rattle.sv_core.specs.Turn.{after_links, after_pass, asked_of, came, come, failed_at, turn, world_of}
use Rattle.sv_core.specs.World.{World}
use Rattle.sv_core.specs.declared.failure.Failure.{Failure}
use Rattle.sv_core.specs.declared.failure.Failure.TheVariants.{NeverFails, ChangesNothing, LosesStdin, LosesLink, RefusesQuestion}
use Rattle.sv_core.specs.declared.part.Cause.{Cause}
use Rattle.sv_core.specs.declared.part.Followed.{Followed}
use Rattle.sv_core.specs.declared.part.Followed.TheVariants as followed
use Rattle.sv_core.specs.declared.part.Question.{Question}
use Rattle.sv_core.specs.declared.part.Reply.{Reply}
use Rattle.sv_cut_laws.proofs.Both.{after_pass_both, ended_later, failed_later, later, turn_both}
use Rattle.sv_out.specs.declared.order.Order.{Order}

-- the second turn is the first one, where these orders were given before
abbrev pub IsLater : List Order → Turn → Turn → Type 0
IsLater a (Done w) (Done v) = v ≡ later a w
IsLater a (Ask w q k) (Ask v p j) =
    (v ≡ later a w) × ((p ≡ q) × ((u : World) (reply : Reply) → IsLater a (k u reply) (j (later a u) reply)))
IsLater a (Done w) (Ask v p j) = ⊥
IsLater a (Ask w q k) (Done v) = ⊥

module _ (a : List Order) where
  pub of_questions : (w : World) (q : Question) (k j : World → Reply → Turn)
      → ((v : World) (reply : Reply) → IsLater a (k v reply) (j (later a v) reply)) → IsLater a (Ask w q k) (Ask (later a w) q j)
  of_questions w q k j goes = (refl, (refl, goes))

  pub after_links_later : (w : World) → IsLater a (after_links w) (after_links (later a w))
  after_links_later w = ended_later a w

  pub turn_later : (cause : Cause) (at : ℕ) (w : World) → IsLater a (turn cause at w) (turn cause at (later a w))
  turn_later cause at w = turn_both a (IsLater a) of_questions after_links_later cause at w

  pub after_pass_later : (w : World) → IsLater a (after_pass w) (after_pass (later a w))
  after_pass_later w = after_pass_both a (IsLater a) of_questions after_links_later w

  pub world_later : (t u : Turn) → IsLater a t u → world_of u ≡ later a (world_of t)
  world_later (Done w) (Done v) is = is
  world_later (Ask w q k) (Ask v p j) is = is.0
  world_later (Done w) (Ask v p j) is = absurd is
  world_later (Ask w q k) (Done v) is = absurd is

  pub asked_later : (t u : Turn) → IsLater a t u → asked_of u ≡ asked_of t
  asked_later (Done w) (Done v) is = refl
  asked_later (Ask w q k) (Ask v p j) is = ap (λ (asked : Question). Some asked) is.1.0
  asked_later (Done w) (Ask v p j) is = absurd is
  asked_later (Ask w q k) (Done v) is = absurd is

  -- the world at an answer is the other one
  goes_later : (w v : World) (k j : World → Reply → Turn) (reply : Reply)
      → ((u : World) (reply : Reply) → IsLater a (k u reply) (j (later a u) reply)) → v ≡ later a w → IsLater a (k w reply) (j v reply)
  goes_later w v k j reply goes is = subst (λ (u : World). IsLater a (k w reply) (j u reply)) (sym is) (goes w reply)

  failed_is : (failure : Failure) (w v : World) → v ≡ later a w → failed failure v ≡ later a (failed failure w)
  failed_is failure w v is = ap (λ (u : World). failed failure u) is ∙ failed_later a failure w

  failed_at_later : (failure : Failure) (w v : World) (q p : Question) (k j : World → Reply → Turn) → IsLater a (Ask w q k) (Ask v p j)
      → IsLater a (failed_at failure w q k) (failed_at failure v p j)
  failed_at_later RefusesQuestion w v q p k j is =
      subst (λ (reply : Reply). IsLater a (k w (refusal q)) (j v reply)) (ap (λ (asked : Question). refusal asked) (sym is.1.0))
      (goes_later w v k j (refusal q) is.1.1 is.0)
  failed_at_later ChangesNothing w v q p k j is = (failed_is ChangesNothing w v is.0, is.1)
  failed_at_later (LosesStdin run) w v q p k j is = (failed_is (LosesStdin run) w v is.0, is.1)
  failed_at_later (LosesLink link) w v q p k j is = (failed_is (LosesLink link) w v is.0, is.1)
  failed_at_later NeverFails w v q p k j is = (failed_is NeverFails w v is.0, is.1)

  pub come_later : (t u : Turn) (f : Followed) → IsLater a t u → IsLater a (come t f) (come u f)
  come_later (Done w) (Done v) (followed.Answered reply) is = is
  come_later (Done w) (Done v) (followed.Failed failure) is = failed_is failure w v is
  come_later (Ask w q k) (Ask v p j) (followed.Answered reply) is = goes_later w v k j reply is.1.1 is.0
  come_later (Ask w q k) (Ask v p j) (followed.Failed failure) is = failed_at_later failure w v q p k j is
  come_later (Done w) (Ask v p j) f is = absurd is
  come_later (Ask w q k) (Done v) f is = absurd is

  pub came_later : (t u : Turn) (fs : List Followed) → IsLater a t u → IsLater a (came t fs) (came u fs)
  came_later t u [] is = is
  came_later t u (f ∷ fs) is = came_later (come t f) (come u f) fs (come_later t u f is)

-- orders before others
pub later_twice : (a b : List Order) (w : World) → later b (later a w) ≡ later (b ++ a) w
later_twice a b w = ap (λ (given : List Order). record w { given = given }) (sym (append_assoc b a w.given))

pub still_later : (a b : List Order) (t u v : Turn) → IsLater a t u → IsLater b u v → IsLater (b ++ a) t v
still_later a b (Done w) (Done x) (Done y) one two = two ∙ ap (later b) one ∙ later_twice a b w
still_later a b (Ask w q k) (Ask x p j) (Ask y o i) one two = (
  two.0 ∙ ap (later b) one.0 ∙ later_twice a b w,
  (
    two.1.0 ∙ one.1.0,
    λ s reply. still_later a b (k s reply) (j (later a s) reply) (i (later (b ++ a) s) reply) (one.1.1 s reply)
        (subst (λ (r : World). IsLater b (j (later a s) reply) (i r reply)) (later_twice a b s) (two.1.1 (later a s) reply)),
  ),
)
still_later a b (Done w) (Ask x p j) v one two = absurd one
still_later a b (Ask w q k) (Done x) v one two = absurd one
still_later a b (Done w) (Done x) (Ask y o i) one two = absurd two
still_later a b (Ask w q k) (Ask x p j) (Done y) one two = absurd two
