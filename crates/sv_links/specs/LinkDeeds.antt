-- What is done with links, one thing after the other, and the replies that are sent.
use Rattle.std.specs.Prelude.{◌≡◌, ◌-◌, ◌++◌, ◌∷◌, ◌==◌, ℕ, List, [], Bool, false, length, map}
use Rattle.std.specs.Prelude.{take, slice_get, Option, None, Some, if◌then◌else◌}
use Rattle.sv_base.specs.declared.ids.LinkId.{LinkId}
use Rattle.sv_http.specs.declared.ask.Ask.{Ask}
use Rattle.sv_http.specs.declared.guard.Guard.{Guard}
use Rattle.sv_links.specs.LinkBook.{Ending, LinkRecord, answered, asks, ended, fed, link_at}
use Rattle.sv_links.specs.LinkBook.{more_given, opened, sends, taken}

-- what may be done
pub data Deed : Type 0 where
  Open : (guard : Guard) → Deed
  Feed : (link : LinkId) (bytes : List ℕ) → Deed
  End : (link : LinkId) (ending : Ending) → Deed
  Take : (link : LinkId) → Deed
  Answer : (link : LinkId) (closes : Bool) → Deed
  GiveMore : (link : LinkId) → Deed

-- the links after a deed
abbrev pub after : Deed → List LinkRecord → List LinkRecord
after (Open guard) book = opened guard book
after (Feed link bytes) book = fed link bytes book
after (End link ending) book = ended link ending book
after (Take link) book = taken link book
after (Answer link closes) book = answered link closes book
after (GiveMore link) book = more_given link book

-- after all of these
abbrev pub after_all : List Deed → List LinkRecord → List LinkRecord
after_all [] book = book
after_all (deed ∷ deeds) book = after_all deeds (after deed book)

-- the request that was answered, and whether its reply closes the link
pub record Reply : Type 0 where
  pub ask : Ask
  pub closes : Bool

-- the reply to a request, where there is one
abbrev pub reply_to : Bool → Option Ask → List Reply
reply_to closes None = []
reply_to closes (Some ask) = record { ask = ask; closes = closes } ∷ []

-- the reply to the request that was begun last, where it is sent
abbrev pub reply_of : Bool → Option LinkRecord → List Reply
reply_of closes None = []
reply_of closes (Some r) =
    if sends r then reply_to closes (slice_get (asks r) (r.begun - 1)) else []

-- the reply that a deed sends on the link of a number
abbrev pub reply_by : ℕ → Deed → List LinkRecord → List Reply
reply_by number (Answer link closes) book =
    if link.0 == number then reply_of closes (link_at number book) else []
reply_by number deed book = []

-- all replies on the link of a number
abbrev pub replies : ℕ → List Deed → List LinkRecord → List Reply
replies number [] book = []
replies number (deed ∷ deeds) book =
    reply_by number deed book ++ replies number deeds (after deed book)

-- the links after these deeds, from the beginning on
abbrev pub links_after : List Deed → List LinkRecord
links_after deeds = after_all deeds []

-- the replies on the link of a number
abbrev pub replies_on : ℕ → List Deed → List Reply
replies_on number deeds = replies number deeds []

-- the first requests of the link, each once and in order
abbrev pub AreInOrder : List Reply → LinkRecord → Type 0
AreInOrder replies r = map (λ (reply : Reply). reply.ask) replies ≡ take (length replies) (asks r)

-- none but the last of them closes the link
abbrev pub OnlyLastCloses : List Reply → Type 0
OnlyLastCloses [] = Unit {0}
OnlyLastCloses (reply ∷ []) = Unit {0}
OnlyLastCloses (reply ∷ next ∷ more) = (reply.closes ≡ false) × OnlyLastCloses (next ∷ more)

-- how many requests of a link are in hand
abbrev pub in_hand_of : LinkRecord → ℕ
in_hand_of r = if r.in_hand then 1 else 0
