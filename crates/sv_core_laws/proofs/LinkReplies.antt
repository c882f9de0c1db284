-- The Sends on a link, from deed to deed.
use Rattle.std.proofs.Common.{arith, ◌≡◌, ◌<◌, ◌+◌, ◌-◌, ◌==◌, ℕ, zero, suc, List, [], ◌∷◌, ◌++◌, Option, Some, None, Bool, true, false, filter, length, slice_get, if◌then◌else◌, refl, sym, ap, ◌∙◌, subst, append_assoc, append-nil}
use Rattle.std.proofs.lemmas.Bool.{eqb-true}
use Rattle.std.proofs.lemmas.List.{map-append}
use Rattle.sv_base.specs.declared.config.Config.{Config}
use Rattle.sv_base.specs.declared.config.Host.{Host}
use Rattle.sv_base.specs.declared.ids.LinkId.{LinkId}
use Rattle.sv_core_laws.proofs.LinkHistory.{history}
use Rattle.sv_core_laws.proofs.LinkTells.{after_both}
use Rattle.sv_core_laws.proofs.NextLink.{both_parts}
use Rattle.sv_core.specs.Deeds.{after, deeds}
use Rattle.sv_core_laws.specs.LinkHistory.{LinkEntry, all_link_orders, deed_orders, deeds_of, entry_orders, is_to_link, next_link, reply_orders}
use Rattle.sv_core_laws.specs.LinkReplies.{RequestsGetReplies, SentReply, bytes_in, replies_in, sent_by, sent_on}
use Rattle.sv_core.specs.MachineState.{now, opening}
use Rattle.sv_core.specs.Openings.{welcome}
use Rattle.sv_http.specs.declared.ask.Ask.{Ask}
use Rattle.sv_links.proofs.Accounts.{Account, AccountOf, account, all_begun, in_order, only_last}
use Rattle.sv_links.specs.LinkBook.{LinkRecord, asks, has_room, holds_of, is_open, link_at, more_is_due, sends}
use Rattle.sv_links.specs.LinkBook.Ending.{Ended, Failed, Closed}
use Rattle.sv_links.specs.LinkDeeds.{AreInOrder, Deed, OnlyLastCloses, Reply, after as after_deed, in_hand_of, links_after, replies, replies_on, reply_by, reply_of, reply_to}
use Rattle.sv_links.specs.LinkDeeds.Deed.{Open, Feed, End, Take, Answer, GiveMore}
use Rattle.sv_out.specs.declared.input.Input.{Input}
use Rattle.sv_out.specs.declared.order.Order.{Order}
use Rattle.sv_out.specs.declared.order.Order.TheVariants as order

-- ---- the replies of a history, with their bytes

abbrev pub sent_to : Bool → List ℕ → Option Ask → List SentReply
sent_to closes bytes None = []
sent_to closes bytes (Some ask) = record { reply = record { ask = ask; closes = closes }; bytes = bytes } ∷ []

abbrev pub sent_of : Bool → List ℕ → Option LinkRecord → List SentReply
sent_of closes bytes None = []
sent_of closes bytes (Some r) = if sends r then sent_to closes bytes (slice_get (asks r) (r.begun - 1)) else []

abbrev pub sent_for : ℕ → Deed → List ℕ → List LinkRecord → List SentReply
sent_for number (Answer link closes) bytes book = if link.0 == number then sent_of closes bytes (link_at number book) else []
sent_for number (Open guard) bytes book = []
sent_for number (Feed link piece) bytes book = []
sent_for number (End link ending) bytes book = []
sent_for number (Take link) bytes book = []
sent_for number (GiveMore link) bytes book = []

abbrev pub all_sent : ℕ → List LinkEntry → List LinkRecord → List SentReply
all_sent number [] book = []
all_sent number (entry ∷ entries) book =
    sent_for number entry.deed entry.bytes book ++ all_sent number entries (after_deed entry.deed book)

-- ---- they are the replies

same_to : (closes : Bool) (bytes : List ℕ) (o : Option Ask) → replies_in (sent_to closes bytes o) ≡ reply_to closes o
same_to closes bytes None = refl
same_to closes bytes (Some ask) = refl

same_of : (closes : Bool) (bytes : List ℕ) (o : Option LinkRecord) → replies_in (sent_of closes bytes o) ≡ reply_of closes o
same_of closes bytes None = refl
same_of closes bytes (Some r) = by_test (sends r) where
  by_test : (b : Bool) → replies_in (if b then sent_to closes bytes (slice_get (asks r) (r.begun - 1)) else [])
      ≡ (if b then reply_to closes (slice_get (asks r) (r.begun - 1)) else [])
  by_test true = same_to closes bytes (slice_get (asks r) (r.begun - 1))
  by_test false = refl

same_by : (number : ℕ) (deed : Deed) (bytes : List ℕ) (book : List LinkRecord)
    → replies_in (sent_for number deed bytes book) ≡ reply_by number deed book
same_by number (Answer link closes) bytes book = by_test (link.0 == number) where
  by_test : (b : Bool) → replies_in (if b then sent_of closes bytes (link_at number book) else [])
      ≡ (if b then reply_of closes (link_at number book) else [])
  by_test true = same_of closes bytes (link_at number book)
  by_test false = refl
same_by number (Open guard) bytes book = refl
same_by number (Feed link piece) bytes book = refl
same_by number (End link ending) bytes book = refl
same_by number (Take link) bytes book = refl
same_by number (GiveMore link) bytes book = refl

pub all_same : (number : ℕ) (entries : List LinkEntry) (book : List LinkRecord)
    → replies_in (all_sent number entries book) ≡ replies number (deeds_of entries) book
all_same number [] book = refl
all_same number (entry ∷ entries) book =
    let own = sent_for number entry.deed entry.bytes book in
    let next = after_deed entry.deed book in
    map-append (λ (one : SentReply). one.reply) own (all_sent number entries next)
    ∙ ap (λ (front : List Reply). front ++ replies_in (all_sent number entries next)) (same_by number entry.deed entry.bytes book)
    ∙ ap (λ (rest : List Reply). reply_by number entry.deed book ++ rest) (all_same number entries next)

-- ---- the orders send their bytes

pub sent_both : (number : ℕ) (one other : List Order) → sent_on number (one ++ other) ≡ sent_on number one ++ sent_on number other
sent_both number [] other = refl
sent_both number (given ∷ one) other =
    ap (λ (rest : List (List ℕ)). sent_by number given ++ rest) (sent_both number one other)
    ∙ sym (append_assoc (sent_by number given) (sent_on number one) (sent_on number other))

-- there is one of this place
ask_within : (xs : List Ask) (n : ℕ) → n < length xs → (x : Ask) × (slice_get xs n ≡ Some x)
ask_within [] n fits = absurd (omega arith)
ask_within (x ∷ xs) zero fits = (x, refl)
ask_within (x ∷ xs) (suc n) fits = ask_within xs n (omega arith)

-- what is answered was asked
pub asked : (told : List Reply) (r : LinkRecord) → Account told r → sends r ≡ true → (x : Ask) × (slice_get (asks r) (r.begun - 1) ≡ Some x)
asked told r a e =
    let parts = both_parts (is_open r) r.in_hand e in
    let begun : length told + 1 ≡ r.begun = rw parts.1 at (a.begun parts.0) in
    let within = a.within in
    ask_within (asks r) (r.begun - 1) (omega arith)

reply_bytes : (number : ℕ) (link : LinkId) (closes : Bool) (bytes : List ℕ)
    → sent_on number (reply_orders link closes bytes) ≡ (if link.0 == number then bytes ∷ [] else [])
reply_bytes number link true bytes = append-nil (if link.0 == number then bytes ∷ [] else [])
reply_bytes number link false bytes = append-nil (if link.0 == number then bytes ∷ [] else [])

-- on its own link
own_bytes : (number : ℕ) (link : LinkId) (closes : Bool) (bytes : List ℕ) (told : List Reply) (o : Option LinkRecord) → AccountOf told o
    → (link.0 == number) ≡ true
    → sent_on number (if holds_of sends o then reply_orders link closes bytes else []) ≡ bytes_in (sent_of closes bytes o)
own_bytes number link closes bytes told None a own = refl
own_bytes number link closes bytes told (Some r) a own = by_test (sends r) refl where
  by_test : (b : Bool) → sends r ≡ b
      → sent_on number (if b then reply_orders link closes bytes else [])
      ≡ bytes_in (if b then sent_to closes bytes (slice_get (asks r) (r.begun - 1)) else [])
  by_test true e =
      let found = asked told r a e in
      reply_bytes number link closes bytes
      ∙ ap (λ (b : Bool). if b then bytes ∷ [] else []) own
      ∙ sym (ap (λ (o : Option Ask). bytes_in (sent_to closes bytes o)) found.1)
  by_test false e = refl

-- on another
no_bytes : (number : ℕ) (link : LinkId) (closes sent : Bool) (bytes : List ℕ) → (link.0 == number) ≡ false
    → sent_on number (if sent then reply_orders link closes bytes else []) ≡ []
no_bytes number link closes true bytes other =
    reply_bytes number link closes bytes ∙ ap (λ (b : Bool). if b then bytes ∷ [] else []) other
no_bytes number link closes false bytes other = refl

answer_bytes : (number : ℕ) (link : LinkId) (closes : Bool) (bytes : List ℕ) (told : List Reply) (book : List LinkRecord)
    → AccountOf told (link_at number book)
    → sent_on number (deed_orders (Answer link closes) bytes book) ≡ bytes_in (sent_for number (Answer link closes) bytes book)
answer_bytes number link closes bytes told book a = by_test (link.0 == number) refl where
  by_test : (b : Bool) → (link.0 == number) ≡ b
      → sent_on number (if holds_of sends (link_at link.0 book) then reply_orders link closes bytes else [])
      ≡ bytes_in (if b then sent_of closes bytes (link_at number book) else [])
  by_test true e =
      subst (λ (n : ℕ). sent_on number (if holds_of sends (link_at n book) then reply_orders link closes bytes else [])
      ≡ bytes_in (sent_of closes bytes (link_at number book)))
      (sym (eqb-true link.0 number e)) (own_bytes number link closes bytes told (link_at number book) a e)
  by_test false e = no_bytes number link closes (holds_of sends (link_at link.0 book)) bytes e

no_welcome : (number : ℕ) (link : LinkId) (room : Bool) → sent_on number (welcome link room ∷ []) ≡ []
no_welcome number link true = refl
no_welcome number link false = refl

no_more : (number : ℕ) (link : LinkId) (due : Bool) → sent_on number (if due then order.More link ∷ [] else []) ≡ []
no_more number link true = refl
no_more number link false = refl

deed_bytes : (number : ℕ) (deed : Deed) (bytes : List ℕ) (told : List Reply) (book : List LinkRecord) → AccountOf told (link_at number book)
    → sent_on number (deed_orders deed bytes book) ≡ bytes_in (sent_for number deed bytes book)
deed_bytes number (Open guard) bytes told book a = no_welcome number (next_link book) (has_room book)
deed_bytes number (Feed link piece) bytes told book a = refl
deed_bytes number (End link Closed) bytes told book a = refl
deed_bytes number (End link Ended) bytes told book a = refl
deed_bytes number (End link Failed) bytes told book a = refl
deed_bytes number (Take link) bytes told book a = refl
deed_bytes number (Answer link closes) bytes told book a = answer_bytes number link closes bytes told book a
deed_bytes number (GiveMore link) bytes told book a = no_more number link (more_is_due link book)

-- after these deeds
pub all_bytes : (number : ℕ) (before : List Deed) (book : List LinkRecord) (entries : List LinkEntry) → book ≡ links_after before
    → sent_on number (all_link_orders entries book) ≡ bytes_in (all_sent number entries book)
all_bytes number before book [] is = refl
all_bytes number before book (entry ∷ entries) is =
    let next = after_deed entry.deed book in
    let own = sent_for number entry.deed entry.bytes book in
    let stands : AccountOf (replies_on number before) (link_at number book) =
    subst (λ (b : List LinkRecord). AccountOf (replies_on number before) (link_at number b)) (sym is) (account number before) in
    sent_both number (entry_orders entry book) (all_link_orders entries next)
    ∙ ap (λ (front : List (List ℕ)). front ++ sent_on number (all_link_orders entries next))
    (deed_bytes number entry.deed entry.bytes (replies_on number before) book stands)
    ∙ ap (λ (rest : List (List ℕ)). bytes_in own ++ rest)
    (all_bytes number (before ++ entry.deed ∷ []) next entries
    (ap (after_deed entry.deed) is ∙ sym (after_both before (entry.deed ∷ []) [])))
    ∙ sym (map-append (λ (one : SentReply). one.bytes) own (all_sent number entries next))

-- what is to no link sends nothing
pub sent_to_links : (number : ℕ) (orders : List Order) → sent_on number (filter is_to_link orders) ≡ sent_on number orders
sent_to_links number [] = refl
sent_to_links number (order.Send link bytes ∷ orders) =
    ap (λ (rest : List (List ℕ)). sent_by number (order.Send link bytes) ++ rest) (sent_to_links number orders)
sent_to_links number (order.More link ∷ orders) = sent_to_links number orders
sent_to_links number (order.Close link ∷ orders) = sent_to_links number orders
sent_to_links number (order.Dropped its serial poolserial ∷ orders) = sent_to_links number orders
sent_to_links number (order.Stdin run bytes ∷ orders) = sent_to_links number orders
sent_to_links number (order.State its name from to ∷ orders) = sent_to_links number orders
sent_to_links number (order.Spawn spawning ∷ orders) = sent_to_links number orders
sent_to_links number (order.Kill run signal whole ∷ orders) = sent_to_links number orders
sent_to_links number (order.Append file bytes ∷ orders) = sent_to_links number orders
sent_to_links number (order.Shift from to ∷ orders) = sent_to_links number orders
sent_to_links number (order.Fresh file ∷ orders) = sent_to_links number orders
sent_to_links number (order.ReadFile file start length ∷ orders) = sent_to_links number orders
sent_to_links number (order.ClearFile file ∷ orders) = sent_to_links number orders
sent_to_links number (order.Names pattern ∷ orders) = sent_to_links number orders
sent_to_links number (order.Size file ∷ orders) = sent_to_links number orders
sent_to_links number (order.Halt ∷ orders) = sent_to_links number orders

-- ---- all inputs

no_replies : (sent : List SentReply) → replies_in sent ≡ [] → bytes_in sent ≡ []
no_replies [] none = refl
no_replies (one ∷ sent) none = cc

none_told : (told : List Reply) (o : Option LinkRecord) → AccountOf told o → o ≡ None → told ≡ []
none_told told None a is = a
none_told told (Some r) a is = cc

pub answered : (number : ℕ) (config : Config) (sizes : List (List ℕ × ℕ)) (host : Host) (inputs : List Input)
    → RequestsGetReplies number (after (opening config sizes host) inputs) (deeds (opening config sizes host) inputs)
answered number config sizes host inputs =
    let m = opening config sizes host in
    let was = history config sizes host inputs in
    let done = deeds_of was.all in
    let sent = all_sent number was.all [] in
    let same : replies_in sent ≡ replies_on number done = all_same number was.all [] in
    let bytes : sent_on number (deeds m inputs) ≡ bytes_in sent =
    sym (sent_to_links number (deeds m inputs)) ∙ ap (sent_on number) was.orders ∙ all_bytes number [] [] was.all refl in
    let place : link_at number (now (after m inputs)).links ≡ link_at number (links_after done) = ap (link_at number) was.links in
    record {
      replies = sent;
      sent = bytes;
      in_order = λ r is. subst (λ (told : List Reply). AreInOrder told r) (sym same) (in_order done number r (sym place ∙ is));
      all_begun = λ r is opens.
          subst (λ (told : List Reply). length told + in_hand_of r ≡ r.begun) (sym same) (all_begun done number r (sym place ∙ is) opens);
      close = subst OnlyLastCloses (sym same) (only_last done number);
      no_link = λ none. bytes ∙ no_replies sent (same ∙ none_told (replies_on number done) (link_at number (links_after done)) (account number done) (sym place ∙ none));
    }
