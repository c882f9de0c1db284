-- What closes a link before the daemon halts: a reply, or its opening, where as many links were open as may be.
use Rattle.std.proofs.Common.{◌≡◌, ◌-◌, ◌==◌, ℕ, zero, suc, List, [], ◌∷◌, ◌++◌, Option, Some, None, Bool, true, false, length, not, slice_get, if◌then◌else◌, refl, sym, ap, subst, ◌∙◌, append_assoc, append-nil}
use Rattle.std.proofs.lemmas.Bool.{false≢true, eqb-true, eqb-false}
use Rattle.std.specs.Option.{option_map}
use Rattle.std.specs.Prelude.{is_some}
use Rattle.sv_core_laws.proofs.LinkKept.{is_usual}
use Rattle.sv_core_laws.proofs.LinkReplies.{asked}
use Rattle.sv_core_laws.proofs.LinkTells.{after_both, all_may}
use Rattle.sv_core_laws.proofs.NextLink.{both_parts}
use Rattle.sv_core_laws.specs.HaltReplies.{closes_last}
use Rattle.sv_core_laws.specs.LinkHistory.{LinkEntry, deeds_of}
use Rattle.sv_http.specs.declared.ask.Ask.{Ask}
use Rattle.sv_http.specs.declared.guard.Guard.{Guard}
use Rattle.sv_links.proofs.Accounts.{AccountOf, account}
use Rattle.sv_links.proofs.Books.{at_apart, at_before, at_last, at_same}
use Rattle.sv_links.specs.LinkBook.{Ending, LinkRecord, answers, asks, begins, changed_at, ends, gets_more, has_room, hears, is_due, is_open, link_at, longer, new_link, next_ask, opened, refused_link, replied, sends, takes}
use Rattle.sv_links.specs.LinkBook.Ending.{Closed, Ended, Failed as Lost}
use Rattle.sv_links.specs.LinkDeeds.{Deed, Reply, after as after_deed, after_all, links_after, replies, replies_on, reply_by, reply_of, reply_to}
use Rattle.sv_links.specs.LinkDeeds.Deed.{Open, Feed, End, Take, Answer, GiveMore}

-- a link that was closed got a reply that closes it, or nothing came on it
abbrev pub IsClosed : List Reply → LinkRecord → Type 0
IsClosed told r = r.ending ≡ Some Closed → closes_last told ≡ false → r.stream ≡ []

abbrev pub IsClosedOf : List Reply → Option LinkRecord → Type 0
IsClosedOf told None = Unit {0}
IsClosedOf told (Some r) = IsClosed told r

last_of : (told : List Reply) (last : Reply) → closes_last (told ++ last ∷ []) ≡ last.closes
last_of [] last = refl
last_of (reply ∷ []) last = refl
last_of (reply ∷ next ∷ more) last = last_of (next ∷ more) last

-- ---- changes that send no reply

hears_closed : (told : List Reply) (bytes : List ℕ) (r : LinkRecord) → IsClosed told r → IsClosed told (hears bytes r)
hears_closed told bytes r was = by_test (is_open r) refl where
  by_ending : (ending : Option Ending) → not (is_some ending) ≡ true → ending ≡ Some Closed → r.stream ++ bytes ≡ []
  by_ending None opens is = cc
  by_ending (Some ending) opens is = absurd (false≢true opens)

  by_test : (b : Bool) → is_open r ≡ b → IsClosed told (if b then longer bytes r else r)
  by_test true opens = λ is last. by_ending r.ending opens is
  by_test false over = was

ended_closed : (told : List Reply) (r : LinkRecord) → IsClosed told r → IsClosed told (ends Ended r)
ended_closed told r was = by_test (is_open r) where
  by_test : (b : Bool) → IsClosed told (if b then record r { ending = Some Ended } else r)
  by_test true = λ is last. cc
  by_test false = was

lost_closed : (told : List Reply) (r : LinkRecord) → IsClosed told r → IsClosed told (ends Lost r)
lost_closed told r was = by_test (is_open r) where
  by_test : (b : Bool) → IsClosed told (if b then record r { ending = Some Lost } else r)
  by_test true = λ is last. cc
  by_test false = was

takes_closed : (told : List Reply) (r : LinkRecord) → IsClosed told r → IsClosed told (takes r)
takes_closed told r was = by_test (is_some (next_ask r)) where
  by_test : (b : Bool) → IsClosed told (if b then begins r else r)
  by_test true = was
  by_test false = was

more_closed : (told : List Reply) (r : LinkRecord) → IsClosed told r → IsClosed told (gets_more r)
more_closed told r was = by_test (is_due r) where
  by_test : (b : Bool) → IsClosed told (if b then record r { is_fed = false; has_more = true } else r)
  by_test true = was
  by_test false = was

mapped_closed : (told : List Reply) (f : LinkRecord → LinkRecord) (o : Option LinkRecord) → ((r : LinkRecord) → IsClosed told r → IsClosed told (f r))
    → IsClosedOf told o → IsClosedOf told (option_map f o)
mapped_closed told f None keeps was = tt
mapped_closed told f (Some r) keeps was = keeps r was

changed_closed : (told : List Reply) (number link : ℕ) (f : LinkRecord → LinkRecord) (book : List LinkRecord)
    → ((r : LinkRecord) → IsClosed told r → IsClosed told (f r)) → IsClosedOf told (link_at number book) → IsClosedOf told (link_at number (changed_at link f book))
changed_closed told number link f book keeps was = by_test (link == number) refl where
  by_test : (b : Bool) → (link == number) ≡ b → IsClosedOf told (link_at number (changed_at link f book))
  by_test true e = rw (eqb-true link number e) (rw (at_same number f book) (mapped_closed told f (link_at number book) keeps was))
  by_test false e = rw (at_apart link number f book (eqb-false link number e)) was

-- ---- an opening, and an answer

opened_closed : (told : List Reply) (number : ℕ) (guard : Guard) (book : List LinkRecord) → IsClosedOf told (link_at number book)
    → IsClosedOf told (link_at number (opened guard book))
opened_closed told number guard book was = by_test (number == suc (length book)) refl where
  link : Bool → LinkRecord
  link room = if room then new_link guard else refused_link guard

  fresh : (room : Bool) → IsClosed told (link room)
  fresh true = λ is last. cc
  fresh false = λ is last. refl

  by_test : (b : Bool) → (number == suc (length book)) ≡ b → IsClosedOf told (link_at number (book ++ link (has_room book) ∷ []))
  by_test true e = rw (eqb-true number (suc (length book)) e, at_last book (link (has_room book))) (fresh (has_room book))
  by_test false e = rw (at_before number book (link (has_room book)) (eqb-false number (suc (length book)) e)) was

answer_closed : (told : List Reply) (closes : Bool) (r : LinkRecord) → AccountOf told (Some r) → IsClosed told r
    → IsClosed (told ++ reply_of closes (Some r)) (answers closes r)
answer_closed told closes r a was = by_test (sends r) refl where
  by_closing : (b : Bool) (x : Ask) → IsClosed (told ++ record { ask = x; closes = b } ∷ []) (replied b r)
  by_closing true x = λ is last. absurd (false≢true (sym last ∙ last_of told (record { ask = x; closes = true })))
  by_closing false x = λ is last. cc

  by_test : (b : Bool) → sends r ≡ b
      → IsClosed (told ++ (if b then reply_to closes (slice_get (asks r) (r.begun - 1)) else [])) (if b then replied closes r else record r { in_hand = false })
  by_test true e = let x = asked told r a e in rw x.1 (by_closing closes x.0)
  by_test false e = rw (append-nil told) was

answered_option : (told : List Reply) (closes : Bool) (o : Option LinkRecord) → AccountOf told o → IsClosedOf told o
    → IsClosedOf (told ++ reply_of closes o) (option_map (answers closes) o)
answered_option told closes None a was = tt
answered_option told closes (Some r) a was = answer_closed told closes r a was

answered_closed : (told : List Reply) (number link : ℕ) (closes : Bool) (book : List LinkRecord) → AccountOf told (link_at number book)
    → IsClosedOf told (link_at number book)
    → IsClosedOf (told ++ (if link == number then reply_of closes (link_at number book) else [])) (link_at number (changed_at link (answers closes) book))
answered_closed told number link closes book a was = by_test (link == number) refl where
  by_test : (b : Bool) → (link == number) ≡ b
      → IsClosedOf (told ++ (if b then reply_of closes (link_at number book) else [])) (link_at number (changed_at link (answers closes) book))
  by_test true e = rw (eqb-true link number e) (rw (at_same number (answers closes) book) (answered_option told closes (link_at number book) a was))
  by_test false e = rw (append-nil told, at_apart link number (answers closes) book (eqb-false link number e)) was

-- ---- deeds

deed_closed : (told : List Reply) (number : ℕ) (deed : Deed) (book : List LinkRecord) → is_usual deed ≡ true → AccountOf told (link_at number book)
    → IsClosedOf told (link_at number book) → IsClosedOf (told ++ reply_by number deed book) (link_at number (after_deed deed book))
deed_closed told number (Open guard) book usual a was = rw (append-nil told) (opened_closed told number guard book was)
deed_closed told number (Feed link bytes) book usual a was =
    rw (append-nil told) (changed_closed told number link.0 (hears bytes) book (hears_closed told bytes) was)
deed_closed told number (End link Ended) book usual a was =
    rw (append-nil told) (changed_closed told number link.0 (ends Ended) book (ended_closed told) was)
deed_closed told number (End link Lost) book usual a was =
    rw (append-nil told) (changed_closed told number link.0 (ends Lost) book (lost_closed told) was)
deed_closed told number (End link Closed) book usual a was = absurd (false≢true usual)
deed_closed told number (Take link) book usual a was = rw (append-nil told) (changed_closed told number link.0 takes book (takes_closed told) was)
deed_closed told number (Answer link closes) book usual a was = answered_closed told number link.0 closes book a was
deed_closed told number (GiveMore link) book usual a was = rw (append-nil told) (changed_closed told number link.0 gets_more book (more_closed told) was)

replies_both : (number : ℕ) (one other : List Deed) (book : List LinkRecord)
    → replies number (one ++ other) book ≡ replies number one book ++ replies number other (after_all one book)
replies_both number [] other book = refl
replies_both number (deed ∷ one) other book =
    ap (λ (rest : List Reply). reply_by number deed book ++ rest) (replies_both number one other (after_deed deed book))
    ∙ sym (append_assoc (reply_by number deed book) (replies number one (after_deed deed book)) (replies number other (after_all one (after_deed deed book))))

-- after these deeds
abbrev IsClosedAfter : ℕ → List Deed → Type 0
IsClosedAfter number deeds = IsClosedOf (replies_on number deeds) (link_at number (links_after deeds))

one_more : (number : ℕ) (before : List Deed) (deed : Deed) → is_usual deed ≡ true → IsClosedAfter number before → IsClosedAfter number (before ++ deed ∷ [])
one_more number before deed usual was =
    let book = links_after before in
    let told = replies_on number before in
    let now = deed_closed told number deed book usual (account number before) was in
    rw (replies_both number before (deed ∷ []) [], append-nil (reply_by number deed book), after_both before (deed ∷ []) []) now

more_deeds : (number : ℕ) (before : List Deed) (entries : List LinkEntry) → all_may is_usual entries ≡ true → IsClosedAfter number before
    → IsClosedAfter number (before ++ deeds_of entries)
more_deeds number before [] are was = rw (append-nil before) was
more_deeds number before (entry ∷ entries) are was =
    let parts = both_parts (is_usual entry.deed) (all_may is_usual entries) are in
    subst (IsClosedAfter number) (append_assoc before (entry.deed ∷ []) (deeds_of entries))
    (more_deeds number (before ++ entry.deed ∷ []) entries parts.1 (one_more number before entry.deed parts.0 was))

none_yet : (number : ℕ) → IsClosedAfter number []
none_yet zero = tt
none_yet (suc place) = tt

pub closed_so : (number : ℕ) (entries : List LinkEntry) (r : LinkRecord) → all_may is_usual entries ≡ true
    → link_at number (links_after (deeds_of entries)) ≡ Some r → r.ending ≡ Some Closed → closes_last (replies_on number (deeds_of entries)) ≡ false
    → r.stream ≡ []
closed_so number entries r are there = rw there at (more_deeds number [] entries are (none_yet number))
