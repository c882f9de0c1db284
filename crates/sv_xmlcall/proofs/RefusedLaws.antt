-- A byte at which a text is refused is refused whatever follows.
use Rattle.std.proofs.Common.{◌≡◌, ℕ, suc, ◌≤◌, ltb, List, [], ◌∷◌, ◌++◌, length, inl, inr, refl, sym, arith, length-append}
use Rattle.std.proofs.lemmas.Bool.{cases_Bool}
use Rattle.sv_xmlcall.specs.Spelled.{Spelled}
use Rattle.sv_xmlcall.specs.Machine.{Limits, State, Step, Go, Bad, Deep, Read, NotRead, TooMany, TooDeep, Verdict, Control, At, AtDone, AtStart, Stuck, next, run, on_step, unless_many, finished}

pub not_deep : {P : Type 0} (left : ℕ) → TooDeep ≡ NotRead left → P
not_deep left e = cc e

pub not_many : {P : Type 0} (left : ℕ) → TooMany ≡ NotRead left → P
not_many left e = cc e

pub not_read : {P : Type 0} (spelled : Spelled) (left : ℕ) → Read spelled ≡ NotRead left → P
not_read spelled left e = cc e

left_is : (m left : ℕ) → NotRead m ≡ NotRead left → m ≡ left
left_is m left e = cc e

pub unless_left : (limits : Limits) (count m left : ℕ) → unless_many limits count (NotRead m) ≡ NotRead left → (unless_many limits count (NotRead m) ≡ NotRead m) × (m ≡ left)
unless_left limits count m left e = elim (cases_Bool (ltb limits.values count)) [
  | inl f ↦ let g : TooMany ≡ NotRead left = rw f at e in not_many left g
  | inr f ↦ (rw f refl, left_is m left (rw f at e))
]

finish_left : (control : Control) (left : ℕ) → finished control ≡ NotRead left → left ≡ 0
finish_left (At (AtDone spelled)) left e = not_read spelled left e
finish_left (At (AtStart document)) left e = sym (left_is 0 left e)
finish_left (At place) left e = sym (left_is 0 left e)
finish_left Stuck left e = sym (left_is 0 left e)
finish_left control left e = sym (left_is 0 left e)

pub end_left : (limits : Limits) (control : Control) (count left : ℕ) → unless_many limits count (finished control) ≡ NotRead left → left ≡ 0
end_left limits control count left e = elim (cases_Bool (ltb limits.values count)) [
  | inl f ↦ let g : TooMany ≡ NotRead left = rw f at e in not_many left g
  | inr f ↦ finish_left control left (rw f at e)
]

within_step : (limits : Limits) (step : Step) (count left : ℕ) (bs : List ℕ) → ((s : State) → run limits s bs ≡ NotRead left → left ≤ length bs)
    → on_step step (λ s. run limits s bs) (unless_many limits count (NotRead (suc (length bs)))) ≡ NotRead left → left ≤ suc (length bs)
within_step limits (Go s) count left bs again e = let h = again s e in omega arith
within_step limits Bad count left bs again e = let h = (unless_left limits count (suc (length bs)) left e).1 in omega arith
within_step limits Deep count left bs again e = not_deep left e

pub within_text : (limits : Limits) (bs : List ℕ) (s : State) (left : ℕ) → run limits s bs ≡ NotRead left → left ≤ length bs
within_text limits [] s left e = let h = end_left limits s.control s.count left e in omega arith
within_text limits (b ∷ bs) s left e = within_step limits (next limits s b) s.count left bs (λ t f. within_text limits bs t left f) e

abbrev OtherLeft : Limits → Verdict → List ℕ → Type 0
OtherLeft limits verdict other = verdict ≡ NotRead (suc (length other))

last_step : (limits : Limits) (step : Step) (count : ℕ) (rest other : List ℕ) → ((s : State) → run limits s rest ≡ NotRead (suc (length rest)) → suc (length rest) ≤ length rest)
    → on_step step (λ s. run limits s rest) (unless_many limits count (NotRead (suc (length rest)))) ≡ NotRead (suc (length rest))
    → OtherLeft limits (on_step step (λ s. run limits s other) (unless_many limits count (NotRead (suc (length other))))) other
last_step limits (Go s) count rest other short e = let h = short s e in absurd (omega arith)
last_step limits Bad count rest other short e = few limits count (suc (length rest)) (suc (length rest)) (suc (length other)) e
  where
    few : (limits : Limits) (count m left n : ℕ) → unless_many limits count (NotRead m) ≡ NotRead left → unless_many limits count (NotRead n) ≡ NotRead n
    few limits count m left n e = elim (cases_Bool (ltb limits.values count)) [
      | inl f ↦ let g : TooMany ≡ NotRead left = rw f at e in not_many left g
      | inr f ↦ rw f refl
    ]
last_step limits Deep count rest other short e = not_deep (suc (length rest)) e

front_step : (limits : Limits) (step : Step) (count : ℕ) (front : List ℕ) (b : ℕ) (rest other : List ℕ)
    → ((s : State) → run limits s (front ++ b ∷ rest) ≡ NotRead (suc (length rest)) → OtherLeft limits (run limits s (front ++ b ∷ other)) other)
    → on_step step (λ s. run limits s (front ++ b ∷ rest)) (unless_many limits count (NotRead (suc (length (front ++ b ∷ rest))))) ≡ NotRead (suc (length rest))
    → OtherLeft limits (on_step step (λ s. run limits s (front ++ b ∷ other)) (unless_many limits count (NotRead (suc (length (front ++ b ∷ other)))))) other
front_step limits (Go s) count front b rest other again e = again s e
front_step limits Bad count front b rest other again e =
    let h = (unless_left limits count (suc (length (front ++ b ∷ rest))) (suc (length rest)) e).1 in absurd (omega (arith, length-append front (b ∷ rest)))
front_step limits Deep count front b rest other again e = not_deep (suc (length rest)) e

-- a byte at which a text is refused is refused whatever follows
pub refused : (limits : Limits) (front : List ℕ) (b : ℕ) (rest other : List ℕ) (s : State) → run limits s (front ++ b ∷ rest) ≡ NotRead (suc (length rest))
    → OtherLeft limits (run limits s (front ++ b ∷ other)) other
refused limits [] b rest other s e = last_step limits (next limits s b) s.count rest other (λ t f. within_text limits rest t (suc (length rest)) f) e
refused limits (x ∷ front) b rest other s e = front_step limits (next limits s x) s.count front b rest other (λ t f. refused limits front b rest other t f) e
