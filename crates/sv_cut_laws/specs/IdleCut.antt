-- A cut of a client's bytes (RFC 9112, section 2.2: a message is read from a sequence of octets,
-- however they arrive): two pieces of a link at one moment, where the first one is answered by More
-- and by nothing else.
use Rattle.std.specs.Prelude.{◌≡◌, ◌<◌, ◌^◌, ◌-◌, ◌++◌, ◌∷◌, ℕ, List, [], true, is_some, map}
use Rattle.std.specs.Prelude.{length}
use Rattle.sv_base.specs.declared.ids.LinkId.{LinkId}
use Rattle.sv_calls.specs.CallBook.{call_at}
use Rattle.sv_core.specs.Deeds.{after, deeds}
use Rattle.sv_core.specs.MachineState.{Model, accepts, next, now, orders}
use Rattle.sv_core.specs.World.{World}
use Rattle.sv_links.specs.LinkBook.{is_sent}
use Rattle.sv_out.specs.declared.input.Input.{Input}
use Rattle.sv_out.specs.declared.input.Input.TheVariants.{Failed, Piece}
use Rattle.sv_out.specs.declared.order.Order.{Order}
use Rattle.sv_out.specs.declared.order.Order.TheVariants as order

-- each input is accepted, one after the other
abbrev pub AreAccepted : Model → List Input → Type 0
AreAccepted m [] = Unit {0}
AreAccepted m (i ∷ is) = (accepts m i ≡ true) × AreAccepted (next m i) is

-- where one order fewer was given before, the order that failed has the number before
abbrev pub one_less : Input → Input
one_less (Failed number) = Failed (number - 1)
one_less input = input

-- two pieces of a link at one moment, between these inputs
pub record Cut : Type 0 where
  pub before : List Input
  pub at : ℕ
  pub link : LinkId
  pub first : List ℕ
  pub second : List ℕ
  pub later : List Input

-- the inputs with the cut
abbrev pub with_cut : Cut → List Input
with_cut c = c.before ++ Piece c.at c.link c.first ∷ Piece c.at c.link c.second ∷ c.later

-- and without it: the pieces come as one
abbrev pub without_cut : Cut → List Input
without_cut c = c.before ++ Piece c.at c.link (c.first ++ c.second) ∷ map one_less c.later

-- ---- the state before an idle cut

-- each call in hand is one whose answer would be sent: its link neither ended nor failed
abbrev pub AreFit : World → Type 0
AreFit w = (link : LinkId) → is_some (call_at link w.calls) ≡ true → is_sent link w.links ≡ true

-- ---- the law

-- the cut is idle: its inputs are accepted, their deeds are so few that no number of an order comes
-- twice, and the first piece is answered by More alone
pub record IsIdle (m : Model) (c : Cut) : Type 0 where
  pub accepted : AreAccepted m (with_cut c)
  pub few : length (deeds m (with_cut c)) < 2 ^ 64
  pub more : orders (after m c.before) (Piece c.at c.link c.first) ≡ order.More c.link ∷ []
  pub fit : AreFit (now (after m c.before))

-- it changes nothing: without it the inputs are accepted too, and their deeds are the same but for
-- that More
pub record ChangesNothing (m : Model) (c : Cut) : Type 0 where
  pub accepted : AreAccepted m (without_cut c)
  pub rest : List Order
  pub cut : deeds m (with_cut c) ≡ deeds m c.before ++ order.More c.link ∷ rest
  pub whole : deeds m (without_cut c) ≡ deeds m c.before ++ rest
