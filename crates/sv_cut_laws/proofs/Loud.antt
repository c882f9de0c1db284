-- What gives an order that is no More, or does nothing.
use Rattle.std.proofs.Common.{◌≡◌, ◌++◌, ◌&&◌, List, [], ◌∷◌, Bool, true, false, ◌∙◌, refl, ap, sym, subst, append-nil, append_assoc}
use Rattle.sv_core.specs.Sweeps.{Turn}
use Rattle.sv_core.specs.Sweeps.Turn.{Done, Ask}
use Rattle.sv_core.specs.World.{World}
use Rattle.sv_cut_laws.proofs.Both.{later}
use Rattle.sv_cut_laws.proofs.Tells.{are_plain, is_plain}
use Rattle.sv_cut_laws.proofs.Turns.{IsLater}
use Rattle.sv_out.specs.declared.order.Order.{Order}
use Rattle.sv_out.specs.declared.order.Order.TheVariants as order

-- it goes on in the same way whatever orders were given before
abbrev pub IsNatural : (World → Turn) → Type 0
IsNatural k = (a : List Order) (w : World) → IsLater a (k w) (k (later a w))

-- these orders are the others and more
abbrev pub Starts : List Order → List Order → Type 0
Starts given all = (rest : List Order) × (all ≡ given ++ rest)

-- the world where no order was given
abbrev pub bare : World → World
bare w = record w { given = [] }

pub bare_later : (w : World) → later w.given (bare w) ≡ w
bare_later w = ap (λ (given : List Order). record w { given = given }) (append-nil w.given)

ends_so : (a : List Order) (t : Turn) (v : World) → IsLater a t (Done v) → Starts a v.given
ends_so a (Done w) v is = (w.given, ap (λ (x : World). x.given) is)
ends_so a (Ask w q k) v is = absurd is

-- orders are only added
pub grown : (k : World → Turn) → IsNatural k → (u v : World) → k u ≡ Done v → Starts u.given v.given
grown k natural u v done =
    ends_so u.given (k (bare u)) v
    (subst (λ (t : Turn). IsLater u.given (k (bare u)) t) (ap (λ (x : World). k x) (bare_later u) ∙ done) (natural u.given (bare u)))

-- ---- orders

abbrev pub is_more : Order → Bool
is_more (order.More link) = true
is_more other = false

pub plain_no_more : (o : Order) → is_plain o ≡ true → is_more o ≡ false
plain_no_more (order.More link) plain = absurd cc
plain_no_more (order.State group name from to) plain = refl
plain_no_more (order.Dropped pool serial poolserial) plain = refl
plain_no_more (order.Spawn spawning) plain = refl
plain_no_more (order.Kill run signal group) plain = refl
plain_no_more (order.Stdin run bytes) plain = refl
plain_no_more (order.Append name bytes) plain = refl
plain_no_more (order.Shift from to) plain = refl
plain_no_more (order.Fresh name) plain = refl
plain_no_more (order.ReadFile name start length) plain = refl
plain_no_more (order.ClearFile name) plain = refl
plain_no_more (order.Names pattern) plain = refl
plain_no_more (order.Size name) plain = refl
plain_no_more (order.Send link bytes) plain = refl
plain_no_more (order.Close link) plain = refl
plain_no_more order.Halt plain = refl

-- ---- an order comes

-- an order that is no More comes first
pub record Speaks (given all : List Order) : Type 0 where
  pub first : Order
  pub rest : List Order
  pub is : all ≡ given ++ first ∷ rest
  pub other : is_more first ≡ false

-- it does so before anything goes on
abbrev pub Loud : World → ((World → Turn) → Turn) → Type 0
Loud w f = (k : World → Turn) → IsNatural k → (v : World) → f k ≡ Done v → Speaks w.given v.given

halves : (b c : Bool) → (b && c) ≡ true → (b ≡ true) × (c ≡ true)
halves true true is = (refl, refl)
halves true false is = absurd cc
halves false c is = absurd cc

-- these were given, and then others
pub speaks_more : (given more rest all : List Order) (o : Order) → are_plain (more ++ o ∷ []) ≡ true → all ≡ (given ++ (more ++ o ∷ [])) ++ rest
    → Speaks given all
speaks_more given [] rest all o plain is = record {
  first = o;
  rest = rest;
  is = is ∙ append_assoc given (o ∷ []) rest;
  other = plain_no_more o (halves (is_plain o) true plain).0;
}
speaks_more given (first ∷ more) rest all o plain is = record {
  first = first;
  rest = (more ++ o ∷ []) ++ rest;
  is = is ∙ append_assoc given (first ∷ (more ++ o ∷ [])) rest;
  other = plain_no_more first (halves (is_plain first) (are_plain (more ++ o ∷ [])) plain).0;
}

-- it comes to a world where these were given
pub loud_at : (w u : World) (more : List Order) (o : Order) (f : (World → Turn) → Turn) (g : (World → Turn) → World → Turn)
    → u.given ≡ w.given ++ (more ++ o ∷ []) → are_plain (more ++ o ∷ []) ≡ true
    → ((k : World → Turn) → f k ≡ g k u) → ((k : World → Turn) → IsNatural k → IsNatural (g k)) → Loud w f
loud_at w u more o f g is plain leads natural k goes v done =
    let all = grown (g k) (natural k goes) u v (sym (leads k) ∙ done) in
    speaks_more w.given more all.0 v.given o plain (all.1 ∙ ap (λ (given : List Order). given ++ all.0) is)
