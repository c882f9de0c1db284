-- At the halt of the daemon each request of a client has its reply (RFC 9112, section 9.3), but for
-- those of a link that was over before, and a call that still waits.
use Rattle.std.specs.Prelude.{◌≡◌, ◌∷◌, ℕ, List, [], Bool, false, length, Some}
use Rattle.sv_core.specs.MachineState.{Model, now}
use Rattle.sv_core_laws.specs.LinkReplies.{SentReply, bytes_in, replies_in, sent_on}
use Rattle.sv_links.specs.LinkBook.{LinkRecord, asks, is_open, link_at}
use Rattle.sv_links.specs.LinkBook.Ending.{Closed}
use Rattle.sv_links.specs.LinkDeeds.{AreInOrder, Reply}
use Rattle.sv_out.specs.declared.order.Order.{Order}

-- the last of these replies closes its link
abbrev pub closes_last : List Reply → Bool
closes_last [] = false
closes_last (reply ∷ []) = reply.closes
closes_last (reply ∷ next ∷ more) = closes_last (next ∷ more)

-- the requests of the link of a number are answered
pub record RequestsAreAnswered (number : ℕ) (m : Model) (given : List Order) : Type 0 where
  pub replies : List SentReply
  -- these are sent on it, and nothing else is
  pub sent : sent_on number given ≡ bytes_in replies
  -- they are the replies to its first requests, in order, each once
  pub in_order : (r : LinkRecord) → link_at number (now m).links ≡ Some r
      → AreInOrder (replies_in replies) r
  -- it is over
  pub over : (r : LinkRecord) → link_at number (now m).links ≡ Some r → is_open r ≡ false
  -- and they are the replies to all its requests, unless its client ended it, an order to it
  -- failed, the last reply closes it, or a call of it still waits
  pub all : (r : LinkRecord) → link_at number (now m).links ≡ Some r → r.ending ≡ Some Closed
      → r.in_hand ≡ false
      → closes_last (replies_in replies) ≡ false → length replies ≡ length (asks r)
