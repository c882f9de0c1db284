-- What is sent to a client: its requests get one reply each, in order (RFC 9112, section 9.3).
use Rattle.std.specs.Prelude.{◌≡◌, ◌+◌, ◌++◌, ◌∷◌, ◌==◌, ℕ, List, [], true, length, map, Some, None}
use Rattle.std.specs.Prelude.{if◌then◌else◌}
use Rattle.sv_core.specs.MachineState.{Model, now}
use Rattle.sv_links.specs.LinkBook.{LinkRecord, is_open, link_at}
use Rattle.sv_links.specs.LinkDeeds.{AreInOrder, OnlyLastCloses, Reply, in_hand_of}
use Rattle.sv_out.specs.declared.order.Order.{Order}
use Rattle.sv_out.specs.declared.order.Order.TheVariants as order

-- the bytes that an order sends on the link of a number
abbrev pub sent_by : ℕ → Order → List (List ℕ)
sent_by number (order.Send link bytes) = if link.0 == number then bytes ∷ [] else []
sent_by number other = []

-- what all of these send on it
abbrev pub sent_on : ℕ → List Order → List (List ℕ)
sent_on number [] = []
sent_on number (given ∷ more) = sent_by number given ++ sent_on number more

-- the reply to a request, and its bytes
pub record SentReply : Type 0 where
  pub reply : Reply
  pub bytes : List ℕ

-- such replies, without their bytes
abbrev pub replies_in : List SentReply → List Reply
replies_in sent = map (λ (one : SentReply). one.reply) sent

-- their bytes
abbrev pub bytes_in : List SentReply → List (List ℕ)
bytes_in sent = map (λ (one : SentReply). one.bytes) sent

-- the requests of the link of a number get one reply each
pub record RequestsGetReplies (number : ℕ) (m : Model) (given : List Order) : Type 0 where
  pub replies : List SentReply
  -- these are sent on it, and nothing else is
  pub sent : sent_on number given ≡ bytes_in replies
  -- they are the replies to its first requests, in order, each once
  pub in_order : (r : LinkRecord) → link_at number (now m).links ≡ Some r
      → AreInOrder (replies_in replies) r
  -- while it is open, to all that were begun but the one in hand
  pub all_begun : (r : LinkRecord) → link_at number (now m).links ≡ Some r → is_open r ≡ true
      → length (replies_in replies) + in_hand_of r ≡ r.begun
  -- none stands after one that closes it
  pub close : OnlyLastCloses (replies_in replies)
  -- and none is sent where no link has the number
  pub no_link : link_at number (now m).links ≡ None → sent_on number given ≡ []
