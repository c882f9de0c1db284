-- A daemon that was given some inputs, and then some more.
use Rattle.std.proofs.Common.{◌≡◌, ◌⊎◌, ℕ, ◌+◌, ◌-◌, ◌^◌, Bool, true, false, cond, List, [], ◌∷◌, ◌++◌, length, inl, inr, refl, sym, ap, ◌∙◌, subst, arith, append_assoc, append-nil, length-append}
use Rattle.sv_out.specs.declared.input.Input.{Input}
use Rattle.sv_out.specs.declared.order.Order.{Order}
use Rattle.sv_supervise.specs.MainLoop.Course.{AreTaken, Begins, GoesOn, IsRefused, Partly, Stands, Stops, Whole}
use Rattle.sv_supervise.specs.MainLoop.Rules.{Rules, after, deeds}
use Rattle.sv_supervise.specs.MainLoop.Journal.{Texts, entry, history}
use Rattle.sv_supervise.specs.MainLoop.Telling.{Told, Went}
use Rattle.sv_supervise.specs.declared.main_loop.serving.End.{End}
use Rattle.sv_supervise.specs.declared.main_loop.serving.End.TheVariants.{Halted, NoMemory, Broken, Ended, Full, Unwritten, Misplaced}
use Rattle.sv_supervise.proofs.MainLoopLemmas.Lists.{went_is, went_more}

after_choice : {M : Type 0} (R : Rules M) → (t : Bool) (x y u v : M) (b : List Input) → x ≡ after R u b → y ≡ after R v b → cond t x y ≡ after R (cond t u v) b
after_choice R true x y u v b p q = p
after_choice R false x y u v b p q = q

pub after_more : {M : Type 0} (R : Rules M) → (m : M) (a b : List Input) → after R m (a ++ b) ≡ after R (after R m a) b
after_more R m [] b = refl
after_more R m (i ∷ is) b =
    after_choice R (R.accepts m i) (after R (R.next m i) (is ++ b)) (after R m (is ++ b)) (after R (R.next m i) is) (after R m is) b (after_more R (R.next m i) is b) (after_more R m is b)

deeds_choice : {M : Type 0} (R : Rules M) → (t : Bool) (o x y d e : List Order) (u v : M) (b : List Input) → x ≡ d ++ deeds R u b → y ≡ e ++ deeds R v b
    → cond t (o ++ x) y ≡ cond t (o ++ d) e ++ deeds R (cond t u v) b
deeds_choice R true o x y d e u v b p q = ap (λ l. o ++ l) p ∙ sym (append_assoc o d (deeds R u b))
deeds_choice R false o x y d e u v b p q = q

deeds_more : {M : Type 0} (R : Rules M) → (m : M) (a b : List Input) → deeds R m (a ++ b) ≡ deeds R m a ++ deeds R (after R m a) b
deeds_more R m [] b = refl
deeds_more R m (i ∷ is) b =
    deeds_choice R (R.accepts m i) (R.orders m i) (deeds R (R.next m i) (is ++ b)) (deeds R m (is ++ b)) (deeds R (R.next m i) is) (deeds R m is) (after R (R.next m i) is) (after R m is) b
    (deeds_more R (R.next m i) is b) (deeds_more R m is b)

history_choice : {M : Type 0} (R : Rules M) (k : Texts) → (t : Bool) (o x y d e : List ℕ) (u v : M) (b : List Input) → x ≡ d ++ history R k u b → y ≡ e ++ history R k v b
    → cond t (o ++ x) y ≡ cond t (o ++ d) e ++ history R k (cond t u v) b
history_choice R k true o x y d e u v b p q = ap (λ l. o ++ l) p ∙ sym (append_assoc o d (history R k u b))
history_choice R k false o x y d e u v b p q = q

history_more : {M : Type 0} (R : Rules M) (k : Texts) → (m : M) (a b : List Input) → history R k m a ++ history R k (after R m a) b ≡ history R k m (a ++ b)
history_more R k m [] b = refl
history_more R k m (i ∷ is) b =
    sym (history_choice R k (R.accepts m i) (entry k i (R.orders m i)) (history R k (R.next m i) (is ++ b)) (history R k m (is ++ b)) (history R k (R.next m i) is) (history R k m is) (after R (R.next m i) is) (after R m is) b
    (sym (history_more R k (R.next m i) is b)) (sym (history_more R k m is b)))

taken_more : {M : Type 0} (R : Rules M) → (m : M) (a b : List Input) → AreTaken R m a → AreTaken R (after R m a) b → AreTaken R m (a ++ b)
taken_more R m [] b first later = later
taken_more R m (i ∷ is) b first later =
    (first.0, first.1, taken_more R (R.next m i) is b first.2 (subst (λ s. AreTaken R s b) (ap (λ (t : Bool). cond t (after R (R.next m i) is) (after R m is)) first.1) later))

pub whole_more : {M : Type 0} (R : Rules M) → (k : Texts) (m : M) (old mid new : Told) (a b : List Input) → Whole R k m old mid a → Whole R k (after R m a) mid new b → Whole R k m old new (a ++ b)
whole_more R k m old mid new a b p q = record {
  taken = taken_more R m a b p.taken q.taken;
  went = went_is old new (a ++ b) (a ++ b) (deeds R m a ++ deeds R (after R m a) b) (deeds R m (a ++ b)) (history R k m a ++ history R k (after R m a) b) (history R k m (a ++ b))
      refl (sym (deeds_more R m a b)) (history_more R k m a b)
      (went_more old mid new a b (deeds R m a) (deeds R (after R m a) b) (history R k m a) (history R k (after R m a) b) p.went q.went);
}

goes_more : {M : Type 0} (R : Rules M) → (k : Texts) (m : M) (old mid new : Told) (a b : List Input) → Whole R k m old mid a → GoesOn R k (after R m a) mid new b → GoesOn R k m old new (a ++ b)
goes_more R k m old mid new a b p q = (whole_more R k m old mid new a b p q.0, ap R.halted (after_more R m a b) ∙ q.1)

partly_more : {M : Type 0} (R : Rules M) → (k : Texts) (m : M) (old mid new : Told) (a before : List Input) (last : Input) (handed : List Order)
    → Whole R k m old mid a → Partly R k (after R m a) mid new before last handed → Partly R k m old new (a ++ before) last handed
partly_more {M = M} R k m old mid new a before last handed p q = record {
  text = q.text;
  taken = subst (λ is. AreTaken R m is) (sym (append_assoc a before (last ∷ []))) (taken_more R m a (before ++ last ∷ []) p.taken q.taken);
  orders_begin = record { rest = q.orders_begin.rest; parts = ap (λ s. R.orders s last) (after_more R m a before) ∙ q.orders_begin.parts };
  text_begins = record { rest = q.text_begins.rest; parts = ap (λ s. entry k last (R.orders s last)) (after_more R m a before) ∙ q.text_begins.parts };
  text_first = subst (λ (s : M). (handed ≡ []) ⊎ (q.text ≡ entry k last (R.orders s last))) (sym (after_more R m a before)) q.text_first;
  went = went_is old new (a ++ (before ++ last ∷ [])) ((a ++ before) ++ last ∷ [])
      (deeds R m a ++ (deeds R (after R m a) before ++ handed)) (deeds R m (a ++ before) ++ handed)
      (history R k m a ++ (history R k (after R m a) before ++ q.text)) (history R k m (a ++ before) ++ q.text)
      (sym (append_assoc a before (last ∷ [])))
      (sym (append_assoc (deeds R m a) (deeds R (after R m a) before) handed) ∙ ap (λ l. l ++ handed) (sym (deeds_more R m a before)))
      (sym (append_assoc (history R k m a) (history R k (after R m a) before) q.text) ∙ ap (λ l. l ++ q.text) (history_more R k m a before))
      (went_more old mid new a (before ++ last ∷ []) (deeds R m a) (deeds R (after R m a) before ++ handed) (history R k m a) (history R k (after R m a) before ++ q.text) p.went q.went);
}

refused_more : {M : Type 0} (R : Rules M) → (k : Texts) (m : M) (old mid new : Told) (a : List Input) (n : ℕ) → Whole R k m old mid a → IsRefused R k (after R m a) mid new n → IsRefused R k m old new (length a + n)
refused_more R k m old mid new a n p q = record {
  before = a ++ q.before;
  last = q.last;
  taken = taken_more R m a q.before p.taken q.taken;
  going = ap R.halted (after_more R m a q.before) ∙ q.going;
  refused = ap (λ s. R.accepts s q.last) (after_more R m a q.before) ∙ q.refused;
  count = let c = q.count in let l = length-append a q.before in omega arith;
  went = went_is old new (a ++ (q.before ++ q.last ∷ [])) ((a ++ q.before) ++ q.last ∷ [])
      (deeds R m a ++ deeds R (after R m a) q.before) (deeds R m (a ++ q.before))
      (history R k m a ++ history R k (after R m a) q.before) (history R k m (a ++ q.before))
      (sym (append_assoc a q.before (q.last ∷ []))) (sym (deeds_more R m a q.before)) (history_more R k m a q.before)
      (went_more old mid new a (q.before ++ q.last ∷ []) (deeds R m a) (deeds R (after R m a) q.before) (history R k m a) (history R k (after R m a) q.before) p.went q.went);
}

-- an end after some inputs
pub stops_after : {M : Type 0} (R : Rules M) → (k : Texts) (count n : ℕ) (m : M) (old mid new : Told) (a : List Input) (end : End) → Whole R k m old mid a → n ≡ count + length a
    → Stops R k n (after R m a) mid new end → Stops R k count m old new end
stops_after R k count n m old mid new a Halted p is q = (a ++ q.0, whole_more R k m old mid new a q.0 p q.1, ap R.halted (after_more R m a q.0) ∙ q.2)
stops_after R k count n m old mid new a NoMemory p is q = elim q [
  | inl g ↦ inl (a ++ g.0, goes_more R k m old mid new a g.0 p g.1)
  | inr g ↦ inr (a ++ g.0, g.1, g.2, partly_more R k m old mid new a g.0 g.1 g.2 p g.3)
]
stops_after R k count n m old mid new a Broken p is q = (a ++ q.0, goes_more R k m old mid new a q.0 p q.1)
stops_after R k count n m old mid new a Ended p is q = (a ++ q.0, goes_more R k m old mid new a q.0 p q.1, q.2)
stops_after R k count n m old mid new a Full p is q =
    (a ++ q.0, goes_more R k m old mid new a q.0 p q.1, let l = length-append a q.0 in let e = q.2 in omega arith)
stops_after R k count n m old mid new a Unwritten p is q = (a ++ q.0, q.1, partly_more R k m old mid new a q.0 q.1 [] p q.2)
stops_after R k count n m old mid new a (Misplaced number) p is q =
    (length a + q.0, refused_more R k m old mid new a q.0 p q.1, let e = q.2 in omega arith)

-- one more input was worked off
pub stands_more : {M : Type 0} (R : Rules M) → (k : Texts) (m : M) (stands : M → Type 0) (old mid new : Told) (a : List Input) (i : Input) → Whole R k m old mid a → Stands R k (after R m a) stands mid new (i ∷ [])
    → Stands R k m stands old new (a ++ i ∷ [])
stands_more R k m stands old mid new a i p q = record {
  whole = goes_more R k m old mid new a (i ∷ []) p q.whole;
  stands = subst (λ s. stands s) (sym (after_more R m a (i ∷ []))) q.stands;
}
