-- What was done with links from one world to a later one, and which orders to links tell of it.
use Rattle.std.proofs.Common.{◌≡◌, ◌&&◌, List, [], ◌∷◌, ◌++◌, Bool, true, false, filter, append-nil, append_assoc, refl, sym, ap, ◌∙◌}
use Rattle.std.proofs.lemmas.Bool.{false≢true}
use Rattle.std.proofs.lemmas.List.{map-append}
use Rattle.std.proofs.lemmas.List.Elements.{filter-append}
use Rattle.sv_core_laws.specs.LinkHistory.{LinkEntry, all_link_orders, deeds_of, entry_orders, is_to_link}
use Rattle.sv_core.specs.World.{World}
use Rattle.sv_links.specs.LinkBook.{LinkRecord}
use Rattle.sv_links.specs.LinkDeeds.{Deed, after as after_deed, after_all}
use Rattle.sv_out.specs.declared.order.Order.{Order}
use Rattle.sv_core_laws.proofs.Silent.{Silent, none_to_link}

-- these may all be done
abbrev pub all_may : (Deed → Bool) → List LinkEntry → Bool
all_may may [] = true
all_may may (entry ∷ entries) = may entry.deed && all_may may entries

-- from one world to a later one: what was done with links meanwhile, all of which may be done, and which orders tell of it
pub record Tells (may : Deed → Bool) (w v : World) : Type 0 where
  pub all : List LinkEntry
  pub allowed : all_may may all ≡ true
  pub links : v.links ≡ after_all (deeds_of all) w.links
  pub more : List Order
  pub added : v.given ≡ w.given ++ more
  pub told : filter is_to_link more ≡ all_link_orders all w.links

pub after_both : (one other : List Deed) (book : List LinkRecord) → after_all (one ++ other) book ≡ after_all other (after_all one book)
after_both [] other book = refl
after_both (deed ∷ one) other book = after_both one other (after_deed deed book)

links_on : (one other : List LinkEntry) (book : List LinkRecord)
    → after_all (deeds_of (one ++ other)) book ≡ after_all (deeds_of other) (after_all (deeds_of one) book)
links_on one other book =
    ap (λ (deeds : List Deed). after_all deeds book) (map-append (λ (entry : LinkEntry). entry.deed) one other)
    ∙ after_both (deeds_of one) (deeds_of other) book

pub orders_on : (one other : List LinkEntry) (book : List LinkRecord)
    → all_link_orders (one ++ other) book ≡ all_link_orders one book ++ all_link_orders other (after_all (deeds_of one) book)
orders_on [] other book = refl
orders_on (entry ∷ one) other book =
    ap (λ (rest : List Order). entry_orders entry book ++ rest) (orders_on one other (after_deed entry.deed book))
    ∙ sym (append_assoc (entry_orders entry book) (all_link_orders one (after_deed entry.deed book))
    (all_link_orders other (after_all (deeds_of one) (after_deed entry.deed book))))

-- nothing is done with a link
pub untold : (may : Deed → Bool) (w v : World) (more : List Order) → v.links ≡ w.links → v.given ≡ w.given ++ more → filter is_to_link more ≡ []
    → Tells may w v
untold may w v more links added none = record { all = []; allowed = refl; links = links; more = more; added = added; told = none }

pub still : (may : Deed → Bool) (w v : World) → v.links ≡ w.links → v.given ≡ w.given → Tells may w v
still may w v links given = untold may w v [] links (given ∙ sym (append-nil w.given)) refl

pub same : (may : Deed → Bool) (w : World) → Tells may w w
same may w = still may w w refl refl

both_may : (may : Deed → Bool) (one other : List LinkEntry) → all_may may one ≡ true → all_may may other ≡ true → all_may may (one ++ other) ≡ true
both_may may [] other first second = second
both_may may (entry ∷ one) other first second = by_test (may entry.deed) first (λ rest. both_may may one other rest second) where
  by_test : (b : Bool) → (b && all_may may one) ≡ true → (all_may may one ≡ true → all_may may (one ++ other) ≡ true)
      → (b && all_may may (one ++ other)) ≡ true
  by_test true rest goes = goes rest
  by_test false none goes = absurd (false≢true none)

pub follow : (may : Deed → Bool) (u v w : World) → Tells may u v → Tells may v w → Tells may u w
follow may u v w a b = record {
  all = a.all ++ b.all;
  allowed = both_may may a.all b.all a.allowed b.allowed;
  links = b.links ∙ ap (after_all (deeds_of b.all)) a.links ∙ sym (links_on a.all b.all u.links);
  more = a.more ++ b.more;
  added = b.added ∙ ap (λ (given : List Order). given ++ b.more) a.added ∙ append_assoc u.given a.more b.more;
  told = filter-append is_to_link a.more b.more
      ∙ ap (λ (orders : List Order). orders ++ filter is_to_link b.more) a.told
      ∙ ap (λ (orders : List Order). all_link_orders a.all u.links ++ orders) b.told
      ∙ ap (λ (book : List LinkRecord). all_link_orders a.all u.links ++ all_link_orders b.all book) a.links
      ∙ sym (orders_on a.all b.all u.links);
}

-- nothing is done with a link
pub silent : (may : Deed → Bool) (w v : World) → Silent w v → Tells may w v
silent may w v s = untold may w v s.more s.links s.added (none_to_link s.more s.none)

-- and with more that may be done
all_wide : (may wide : Deed → Bool) → ((deed : Deed) → may deed ≡ true → wide deed ≡ true) → (entries : List LinkEntry) → all_may may entries ≡ true
    → all_may wide entries ≡ true
all_wide may wide wider [] are = refl
all_wide may wide wider (entry ∷ entries) are = by_test (may entry.deed) refl are (λ rest. all_wide may wide wider entries rest) where
  by_test : (b : Bool) → may entry.deed ≡ b → (b && all_may may entries) ≡ true → (all_may may entries ≡ true → all_may wide entries ≡ true)
      → (wide entry.deed && all_may wide entries) ≡ true
  by_test true is rest goes = ap (λ (c : Bool). c && all_may wide entries) (wider entry.deed is) ∙ goes rest
  by_test false is none goes = absurd (false≢true none)

pub widened : (may wide : Deed → Bool) (w v : World) → ((deed : Deed) → may deed ≡ true → wide deed ≡ true) → Tells may w v → Tells wide w v
widened may wide w v wider t = record {
  all = t.all;
  allowed = all_wide may wide wider t.all t.allowed;
  links = t.links;
  more = t.more;
  added = t.added;
  told = t.told;
}
