-- What is kept of the links tells the same of a number as all links tell.
use Rattle.std.proofs.Common.{◌≡◌, ◌≤◌, ◌<◌, ◌+◌, ℕ, zero, suc, List, [], ◌∷◌, Option, Some, None, Bool, true, false, ◌&&◌, ◌||◌, ◌==◌, length, arith, ap, refl, sym, ◌∙◌, if◌then◌else◌, slice_get}
use Rattle.std.proofs.lemmas.Bool.{false≢true, leb-true}
use Rattle.std.specs.Prelude.{not, nat_le}
use Rattle.std.specs.BTreeMap.{get}
use Rattle.std.specs.Ordering.{nat_cmp}
use Rattle.sv_base.specs.declared.config.ServerSpec.{ServerSpec}
use Rattle.sv_base.specs.declared.ids.LinkId.{LinkId}
use Rattle.sv_core.specs.MachineState.{may_begin, tests_of}
use Rattle.sv_core.specs.StandsFor.{tests_by}
use Rattle.sv_core.specs.declared.part.Cause.{Cause}
use Rattle.sv_core.specs.declared.part.Cause.TheVariants as cause_is
use Rattle.sv_links.specs.LinkBook.{LinkRecord, holds_of, is_busy, is_issued, is_next, is_open, link_at, may_feed, takes_piece}
use Rattle.sv_links.specs.StandsFor.{IsKept, IsRead, StandsFor, busy_link, follows, has_opened, may_bring, may_come, may_come_to}
use Rattle.sv_links.specs.declared.kept_link.KeptLink.{KeptLink}
use Rattle.sv_links.specs.declared.links.Links.{Links}
use Rattle.sv_links.specs.declared.open_link.OpenLink.{OpenLink}

pub next_same : (x : Links) (book : List LinkRecord) (link : LinkId) → StandsFor x book → follows x link ≡ is_next link book
next_same x book link s =
    let count : x.opened + 1 ≡ 1 + length book = rw s.opened (omega arith) in ap (λ (n : ℕ). link.0 == n) count

opened_same : (x : Links) (book : List LinkRecord) (link : LinkId) → StandsFor x book → has_opened x link ≡ is_issued link book
opened_same x book link s = rw s.opened refl

-- a link of a number that was given
there : (place : ℕ) (book : List LinkRecord) → place < length book → (r : LinkRecord) × (slice_get book place ≡ Some r)
there place [] below = absurd (omega (arith, below))
there zero (r ∷ book) below = (r, refl)
there (suc place) (r ∷ book) below = there place book (omega (arith, below))

last_true : (a b : Bool) → (a && b) ≡ true → b ≡ true
last_true true b e = e
last_true false b e = absurd (false≢true e)

first_true : (a b : Bool) → (a && b) ≡ true → a ≡ true
first_true true b e = refl
first_true false b e = absurd (false≢true e)

issued_there : (number : ℕ) (book : List LinkRecord) → (nat_le 1 number && nat_le number (length book)) ≡ true
    → (r : LinkRecord) × (link_at number book ≡ Some r)
issued_there zero book e =
    let some : 1 ≤ 0 = leb-true 1 0 (first_true (nat_le 1 0) (nat_le 0 (length book)) e) in absurd (omega (arith, some))
issued_there (suc place) book e =
    let within : suc place ≤ length book =
    leb-true (suc place) (length book) (last_true (nat_le 1 (suc place)) (nat_le (suc place) (length book)) e) in
    there place book (omega (arith, within))

either_true : (a : Bool) → (a || true) ≡ true
either_true true = refl
either_true false = refl

either_false : (a : Bool) → (a || false) ≡ a
either_false true = refl
either_false false = refl

-- a link that isn't busy isn't open
idle_over : (a b : Bool) → (a || b) ≡ false → a ≡ false
idle_over true b e = cc
idle_over false b e = refl

over_feeds : (r : LinkRecord) → is_open r ≡ false → may_feed r ≡ true
over_feeds r over = ap (λ (b : Bool). r.has_more || not b) over ∙ either_true r.has_more

read_feeds : (x : Option OpenLink) (r : LinkRecord) → IsRead x r → may_come x ≡ may_feed r
read_feeds None r over = sym (over_feeds r over)
read_feeds (Some x) r reads =
    reads.more ∙ sym (ap (λ (b : Bool). r.has_more || not b) reads.unended ∙ either_false r.has_more)

kept_feeds : (o : Option KeptLink) (r : LinkRecord) → IsKept o (busy_link (Some r)) → may_come_to o ≡ may_feed r
kept_feeds o r k = by_test (is_busy r) refl k where
  idle : (p : Option KeptLink) → is_busy r ≡ false → IsKept p None → may_come_to p ≡ may_feed r
  idle None e k = sym (over_feeds r (idle_over (is_open r) r.in_hand e))
  idle (Some x) e k = absurd k

  busy : (p : Option KeptLink) → IsKept p (Some r) → may_come_to p ≡ may_feed r
  busy None k = absurd k
  busy (Some x) k = read_feeds x.reading r k.read

  by_test : (b : Bool) → is_busy r ≡ b → IsKept o (if b then Some r else None) → may_come_to o ≡ may_feed r
  by_test true e k = busy o k
  by_test false e k = idle o e k

brings_same : (x : Links) (book : List LinkRecord) (link : LinkId) → StandsFor x book
    → (has_opened x link && may_bring x link) ≡ (is_issued link book && takes_piece link book)
brings_same x book link s = rw (opened_same x book link s) (by_test (is_issued link book) refl) where
  by_test : (b : Bool) → is_issued link book ≡ b → (b && may_bring x link) ≡ (b && takes_piece link book)
  by_test true e =
      let found = issued_there link.0 book e in
      let kept : IsKept (get nat_cmp x.kept link.0) (busy_link (Some found.0)) = rw found.1 at (s.kept link.0) in
      kept_feeds (get nat_cmp x.kept link.0) found.0 kept ∙ ap (holds_of may_feed) (sym found.1)
  by_test false e = refl

-- a turn may begin so by the links that are kept where it may by all links
pub may_same : (cause : Cause) (next_run : ℕ) (servers : List ServerSpec) (x : Links) (book : List LinkRecord) → StandsFor x book
    → may_begin cause next_run (tests_by x) servers ≡ may_begin cause next_run (tests_of book) servers
may_same cause_is.Tick next_run servers x book s = refl
may_same (cause_is.Exit run how) next_run servers x book s = refl
may_same (cause_is.Heard run stream bytes) next_run servers x book s = refl
may_same (cause_is.PipeEnd run stream) next_run servers x book s = refl
may_same (cause_is.Opened link side) next_run servers x book s = rw (next_same x book link s) refl
may_same (cause_is.Brought link bytes) next_run servers x book s = brings_same x book link s
may_same (cause_is.LinkEnd link) next_run servers x book s = opened_same x book link s
may_same (cause_is.Start name) next_run servers x book s = refl
may_same (cause_is.Stop name) next_run servers x book s = refl
may_same (cause_is.Signal signal) next_run servers x book s = refl
