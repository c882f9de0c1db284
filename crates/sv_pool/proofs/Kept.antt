-- Pools that are kept one by one.
use Rattle.std.proofs.Common.{◌≡◌, ◌<◌, ◌+◌, ℕ, zero, suc, Bool, true, false, List, [], ◌∷◌, ◌++◌, length, get_or, drop, inl, inr, map, refl, sym, subst, ap, ◌∙◌, arith, append-nil, append_assoc}
use Rattle.std.specs.Prelude.{slice_set, ◌||◌}
use Rattle.std.specs.List.{flat_map, list_any}
use Rattle.std.proofs.lemmas.Bool.{cases_Bool, false≢true}
use Rattle.sv_events.specs.declared.event.Event.{Event}
use Rattle.sv_pool.specs.Offers.{is_asked_for, offered_to, reports_of_offer, takes}
use Rattle.sv_pool.specs.EventPools.{EventPool}
use Rattle.sv_pool.specs.StandsFor.{AreKept, Keeps}
use Rattle.sv_pool.specs.declared.group_pool.GroupPool.{GroupPool}

-- one more is kept
pub kept_more : (xs : List GroupPool) (ps : List EventPool) (x : GroupPool) (p : EventPool)
    → AreKept xs ps → Keeps x p → AreKept (xs ++ x ∷ []) (ps ++ p ∷ [])
kept_more [] [] x p k h = (h, tt)
kept_more [] (q ∷ ps) x p k h = absurd k
kept_more (y ∷ xs) [] x p k h = absurd k
kept_more (y ∷ xs) (q ∷ ps) x p k h = (k.0, kept_more xs ps x p k.1 h)

-- the first so many pools are changed
abbrev pub partly : (EventPool → EventPool) → ℕ → List EventPool → List EventPool
partly f zero ps = ps
partly f (suc n) [] = []
partly f (suc n) (p ∷ ps) = f p ∷ partly f n ps

-- and one more
kept_after : (f : EventPool → EventPool) (xs : List GroupPool) (ps : List EventPool) (i : ℕ) (x y : GroupPool)
    → i < length xs → AreKept xs (partly f i ps)
    → ((p : EventPool) → Keeps (get_or xs i x) p → Keeps y (f p)) → AreKept (slice_set xs i y) (partly f (suc i) ps)
kept_after f [] ps i x y within k step = absurd (omega arith)
kept_after f (z ∷ xs) [] zero x y within k step = absurd k
kept_after f (z ∷ xs) (p ∷ ps) zero x y within k step = (step p k.0, k.1)
kept_after f (z ∷ xs) [] (suc i) x y within k step = absurd k
kept_after f (z ∷ xs) (p ∷ ps) (suc i) x y within k step = (k.0, kept_after f xs ps i x y (omega arith) k.1 step)

pub kept_next : (f : EventPool → EventPool) (xs : List GroupPool) (ps : List EventPool) (i : ℕ) (x y : GroupPool)
    → i < length xs → AreKept xs (partly f i ps)
    → ((p : EventPool) → Keeps (get_or xs i x) p → Keeps y (f p)) → AreKept (slice_set xs i y) (partly f (i + 1) ps)
kept_next f xs ps i x y within k step =
    let next : suc i ≡ i + 1 = omega arith in
    subst (λ (n : ℕ). AreKept (slice_set xs i y) (partly f n ps)) next (kept_after f xs ps i x y within k step)

-- in the end all are
pub kept_all : (f : EventPool → EventPool) (xs : List GroupPool) (ps : List EventPool) (n : ℕ)
    → n ≡ length xs → AreKept xs (partly f n ps) → AreKept xs (map f ps)
kept_all f [] [] n e k = tt
kept_all f [] (p ∷ ps) zero e k = absurd k
kept_all f [] (p ∷ ps) (suc n) e k = absurd (omega (arith, e))
kept_all f (x ∷ xs) [] zero e k = absurd (omega (arith, e))
kept_all f (x ∷ xs) [] (suc n) e k = absurd k
kept_all f (x ∷ xs) (p ∷ ps) zero e k = absurd (omega (arith, e))
kept_all f (x ∷ xs) (p ∷ ps) (suc n) e k = (k.0, kept_all f xs ps n (omega (arith, e)) k.1)

-- what the pools but the first so many give is still to come
gives_after : {A : Type 0} (f : EventPool → EventPool) (g : EventPool → List A)
    (xs : List GroupPool) (ps : List EventPool) (i : ℕ) (x : GroupPool) (whole old new : List A)
    → i < length xs → AreKept xs (partly f i ps)
    → ((p : EventPool) → Keeps (get_or xs i x) p → new ≡ old ++ g p)
    → old ++ flat_map g (drop i ps) ≡ whole → new ++ flat_map g (drop (suc i) ps) ≡ whole
gives_after f g [] ps i x whole old new within k step e = absurd (omega arith)
gives_after f g (z ∷ xs) [] zero x whole old new within k step e = absurd k
gives_after {A} f g (z ∷ xs) (p ∷ ps) zero x whole old new within k step e =
    ap (λ (l : List A). l ++ flat_map g ps) (step p k.0) ∙ append_assoc old (g p) (flat_map g ps) ∙ e
gives_after f g (z ∷ xs) [] (suc i) x whole old new within k step e = absurd k
gives_after f g (z ∷ xs) (p ∷ ps) (suc i) x whole old new within k step e =
    gives_after f g xs ps i x whole old new (omega arith) k.1 step e

pub gives_next : {A : Type 0} (f : EventPool → EventPool) (g : EventPool → List A)
    (xs : List GroupPool) (ps : List EventPool) (i : ℕ) (x : GroupPool) (whole old new : List A)
    → i < length xs → AreKept xs (partly f i ps)
    → ((p : EventPool) → Keeps (get_or xs i x) p → new ≡ old ++ g p)
    → old ++ flat_map g (drop i ps) ≡ whole → new ++ flat_map g (drop (i + 1) ps) ≡ whole
gives_next f g xs ps i x whole old new within k step e =
    let next : suc i ≡ i + 1 = omega arith in
    subst (λ (n : ℕ). new ++ flat_map g (drop n ps) ≡ whole) next (gives_after f g xs ps i x whole old new within k step e)

-- whether one of them answers
or_joined : (a b c : Bool) → ((a || b) || c) ≡ (a || (b || c))
or_joined true b c = refl
or_joined false b c = refl

told_after : (f : EventPool → EventPool) (g : EventPool → Bool)
    (xs : List GroupPool) (ps : List EventPool) (i : ℕ) (x : GroupPool) (old here whole : Bool)
    → i < length xs → AreKept xs (partly f i ps)
    → ((p : EventPool) → Keeps (get_or xs i x) p → here ≡ g p)
    → (old || list_any g (drop i ps)) ≡ whole → ((old || here) || list_any g (drop (suc i) ps)) ≡ whole
told_after f g [] ps i x old here whole within k step e = absurd (omega arith)
told_after f g (z ∷ xs) [] zero x old here whole within k step e = absurd k
told_after f g (z ∷ xs) (p ∷ ps) zero x old here whole within k step e =
    or_joined old here (list_any g ps) ∙ ap (λ (b : Bool). old || (b || list_any g ps)) (step p k.0) ∙ e
told_after f g (z ∷ xs) [] (suc i) x old here whole within k step e = absurd k
told_after f g (z ∷ xs) (p ∷ ps) (suc i) x old here whole within k step e =
    told_after f g xs ps i x old here whole (omega arith) k.1 step e

pub told_next : (f : EventPool → EventPool) (g : EventPool → Bool)
    (xs : List GroupPool) (ps : List EventPool) (i : ℕ) (x : GroupPool) (old here whole : Bool)
    → i < length xs → AreKept xs (partly f i ps)
    → ((p : EventPool) → Keeps (get_or xs i x) p → here ≡ g p)
    → (old || list_any g (drop i ps)) ≡ whole → ((old || here) || list_any g (drop (i + 1) ps)) ≡ whole
told_next f g xs ps i x old here whole within k step e =
    let next : suc i ≡ i + 1 = omega arith in
    subst (λ (n : ℕ). ((old || here) || list_any g (drop n ps)) ≡ whole) next (told_after f g xs ps i x old here whole within k step e)

or_false : (b : Bool) → (b || false) ≡ b
or_false true = refl
or_false false = refl

pub none_tell : (f : EventPool → EventPool) (g : EventPool → Bool) (xs : List GroupPool) (ps : List EventPool) (n : ℕ) (now whole : Bool)
    → n ≡ length xs → AreKept xs (partly f n ps) → (now || list_any g (drop n ps)) ≡ whole → now ≡ whole
none_tell f g [] [] zero now whole e k h = sym (or_false now) ∙ h
none_tell f g [] [] (suc n) now whole e k h = absurd (omega (arith, e))
none_tell f g [] (p ∷ ps) zero now whole e k h = absurd k
none_tell f g [] (p ∷ ps) (suc n) now whole e k h = absurd (omega (arith, e))
none_tell f g (x ∷ xs) [] zero now whole e k h = absurd (omega (arith, e))
none_tell f g (x ∷ xs) [] (suc n) now whole e k h = absurd k
none_tell f g (x ∷ xs) (p ∷ ps) zero now whole e k h = absurd (omega (arith, e))
none_tell f g (x ∷ xs) (p ∷ ps) (suc n) now whole e k h = none_tell f g xs ps n now whole (omega (arith, e)) k.1 h

pub none_left : {A : Type 0} (f : EventPool → EventPool) (g : EventPool → List A)
    (xs : List GroupPool) (ps : List EventPool) (n : ℕ) (start now : List A)
    → n ≡ length xs → AreKept xs (partly f n ps) → now ++ flat_map g (drop n ps) ≡ start → now ≡ start
none_left f g [] [] zero start now e k h = sym (append-nil now) ∙ h
none_left f g [] [] (suc n) start now e k h = absurd (omega (arith, e))
none_left f g [] (p ∷ ps) zero start now e k h = absurd k
none_left f g [] (p ∷ ps) (suc n) start now e k h = absurd (omega (arith, e))
none_left f g (x ∷ xs) [] zero start now e k h = absurd (omega (arith, e))
none_left f g (x ∷ xs) [] (suc n) start now e k h = absurd k
none_left f g (x ∷ xs) (p ∷ ps) zero start now e k h = absurd (omega (arith, e))
none_left f g (x ∷ xs) (p ∷ ps) (suc n) start now e k h = none_left f g xs ps n start now (omega (arith, e)) k.1 h

-- an event that no pool asks for changes none, and nothing is reported
pub not_offered : (event : Event) (ps : List EventPool) → is_asked_for event.kind ps ≡ false
    → (map (offered_to event) ps ≡ ps) × (flat_map (reports_of_offer event) ps ≡ [])
not_offered event [] e = (refl, refl)
not_offered event (p ∷ ps) e = elim (cases_Bool (takes event p)) [
  | inl t ↦ absurd (false≢true (sym (rw t at e)))
  | inr f ↦ let r = not_offered event ps (rw f at e) in (rw f (ap (λ (qs : List EventPool). p ∷ qs) r.0), rw f r.1)
]
