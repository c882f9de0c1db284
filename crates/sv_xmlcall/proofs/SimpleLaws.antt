-- Runs of bytes that stand for themselves.
use Rattle.std.proofs.Common.{◌≡◌, ℕ, zero, suc, ◌-◌, Bool, true, false, not, ◌&&◌, eqb, leb, ltb, List, [], ◌∷◌, ◌++◌, length, take, drop, Ok, Some, inl, inr, refl, sym, ap, ◌∙◌, arith, subst, append_assoc, append-nil, length-append}
use Rattle.std.proofs.lemmas.Bool.{false≢true, cases_Bool, and_parts, eqb-true}
use Rattle.std.proofs.lemmas.List.{take_at}
use Rattle.std.specs.List.{list_all}
use Rattle.sv_letters.specs.Letters.{allows, after, are_letters}
use Rattle.sv_xmlcall.specs.Simple.{is_simple, begins_run, simple_run, behind_run, run_at, behind_at, is_wide, wide_run, awaits_behind, behind_wide}
use Rattle.sv_xmlcall.specs.Reading.{piece_at, text_at}
use Rattle.sv_xmlcall.specs.Outcome.{Stops}
use Rattle.sv_xmlcall.specs.declared.stop.Stop.{Stop}
use Rattle.sv_xmlcall.specs.declared.stop.Stop.TheVariants as stop
use Rattle.sv_xmlcall.specs.Written.{escaped}
use Rattle.sv_letters.specs.declared.letters.Letters.TheVariants.{OfXml}
use Rattle.sv_letters.specs.declared.letters.Awaits.{Awaits}
use Rattle.sv_letters.specs.declared.letters.Awaits.TheVariants.{Character, Private, Continuation}
use Rattle.sv_xmlcall.proofs.Texts.{Open, Reaches, reaches_more, reaches_bad}

not_true : (x : Bool) → not x ≡ true → x ≡ false
not_true true e = cc e
not_true false e = refl

record Simple (b : ℕ) : Type 0 where
  high : leb 32 b ≡ true
  low : ltb b 128 ≡ true
  ampersand : eqb b 38 ≡ false
  less : eqb b 60 ≡ false
  greater : eqb b 62 ≡ false

simple_parts : (b : ℕ) → is_simple b ≡ true → Simple b
simple_parts b e =
    let p = and_parts (leb 32 b && ltb b 128 && not (eqb b 38) && not (eqb b 60)) (not (eqb b 62)) e in
    let q = and_parts (leb 32 b && ltb b 128 && not (eqb b 38)) (not (eqb b 60)) p.0 in
    let r = and_parts (leb 32 b && ltb b 128) (not (eqb b 38)) q.0 in
    let s = and_parts (leb 32 b) (ltb b 128) r.0 in
    record { high = s.0; low = s.1; ampersand = not_true (eqb b 38) r.1; less = not_true (eqb b 60) q.1; greater = not_true (eqb b 62) p.1 }

-- a block of simple bytes belongs to the run
pub behind_block : (n : ℕ) (bs : List ℕ) → list_all is_simple (take n bs) ≡ true → behind_run (drop n bs) ≡ behind_run bs
behind_block zero bs e = refl
behind_block (suc n) [] e = refl
behind_block (suc n) (b ∷ bs) e = let p = and_parts (is_simple b) (list_all is_simple (take n bs)) e in rw p.0 (behind_block n bs p.1)

pub no_run : (bs : List ℕ) → begins_run bs ≡ false → bs ≡ behind_run bs
no_run [] e = refl
no_run (b ∷ bs) e = rw e refl

run_and_rest : (bs : List ℕ) → simple_run bs ++ behind_run bs ≡ bs
run_and_rest [] = refl
run_and_rest (b ∷ bs) = elim (cases_Bool (is_simple b)) [
  | inl e ↦ rw e (ap (λ (x : List ℕ). b ∷ x) (run_and_rest bs))
  | inr e ↦ rw e refl
]

taken : (front back bs rest : List ℕ) → front ++ back ≡ bs → rest ≡ back → take (length bs - length rest) bs ≡ front
taken front back bs rest e r =
    let l : length front ≡ length bs - length rest = omega (arith, ap length e, length-append front back, ap length r) in
    ap (λ (x : List ℕ). take (length bs - length rest) x) (sym e) ∙ take_at front back (length bs - length rest) l

pub run_taken : (bs rest : List ℕ) → rest ≡ behind_run bs → take (length bs - length rest) bs ≡ simple_run bs
run_taken bs rest r = taken (simple_run bs) (behind_run bs) bs rest (run_and_rest bs) r

no_return : (b : ℕ) → leb 32 b ≡ true → eqb b 13 ≡ false
no_return b h = elim (cases_Bool (eqb b 13)) [
  | inl e ↦ absurd (false≢true (subst (λ (x : ℕ). leb 32 x ≡ true) (eqb-true b 13 e) h))
  | inr e ↦ e
]

-- a run is written as it is
pub escaped_run : (bs : List ℕ) → simple_run bs ++ escaped (behind_run bs) ≡ escaped bs
escaped_run [] = refl
escaped_run (b ∷ bs) = elim (cases_Bool (is_simple b)) [
  | inl e ↦
      let p = simple_parts b e in
      rw (e, p.ampersand, p.less, p.greater, no_return b p.high) (ap (λ (x : List ℕ). b ∷ x) (escaped_run bs))
  | inr e ↦ rw e refl
]

simple_piece : (value : List ℕ) (b : ℕ) (bs : List ℕ) → is_simple b ≡ true → piece_at value Character (b ∷ bs) ≡ Ok (value ++ b ∷ [], Some (Character, bs))
unfolding piece_at
simple_piece value b bs e = let p = simple_parts b e in rw (p.less, p.ampersand, p.low, p.high) refl

-- a run is read as it is
reaches_front : (kept bytes value rest : List ℕ) → Reaches kept bytes value Character rest → Reaches kept bytes (value ++ simple_run rest) Character (behind_run rest)
reaches_front kept bytes value [] r = subst (λ (x : List ℕ). Reaches kept bytes x Character []) (sym (append-nil value)) r
reaches_front kept bytes value (b ∷ bs) r = elim (cases_Bool (is_simple b)) [
  | inl e ↦
      let more = reaches_front kept bytes (value ++ b ∷ []) bs (reaches_more kept bytes value (value ++ b ∷ []) Character Character (b ∷ bs) bs r (simple_piece value b bs e) (omega arith)) in
      rw e (subst (λ (x : List ℕ). Reaches kept bytes x Character (behind_run bs)) (append_assoc value (b ∷ []) (simple_run bs)) more)
  | inr e ↦ rw e (subst (λ (x : List ℕ). Reaches kept bytes x Character (b ∷ bs)) (sym (append-nil value)) r)
]

pub reaches_run : (kept bytes value : List ℕ) (awaits : Awaits) (rest : List ℕ) → Reaches kept bytes value awaits rest
    → Reaches kept bytes (value ++ run_at awaits rest) awaits (behind_at awaits rest)
reaches_run kept bytes value Character rest r = reaches_front kept bytes value rest r
reaches_run kept bytes value Private rest r = subst (λ (x : List ℕ). Reaches kept bytes x Private rest) (sym (append-nil value)) r
reaches_run kept bytes value (Continuation low high more) rest r =
    subst (λ (x : List ℕ). Reaches kept bytes x (Continuation low high more) rest) (sym (append-nil value)) r

open_front : (value rest : List ℕ) → Open value Character → Open (value ++ simple_run rest) Character
open_front value [] o = subst (λ (x : List ℕ). Open x Character) (sym (append-nil value)) o
open_front value (b ∷ bs) o = elim (cases_Bool (is_simple b)) [
  | inl e ↦
      let p = simple_parts b e in
      let one : Open (value ++ b ∷ []) Character =
      λ tail t. subst (λ (x : List ℕ). are_letters OfXml Character x ≡ true) (sym (append_assoc value (b ∷ []) tail)) (o (b ∷ tail) (rw (p.low, p.high) t)) in
      rw e (subst (λ (x : List ℕ). Open x Character) (append_assoc value (b ∷ []) (simple_run bs)) (open_front (value ++ b ∷ []) bs one))
  | inr e ↦ rw e (subst (λ (x : List ℕ). Open x Character) (sym (append-nil value)) o)
]

pub open_run : (value : List ℕ) (awaits : Awaits) (rest : List ℕ) → Open value awaits → Open (value ++ run_at awaits rest) awaits
open_run value Character rest o = open_front value rest o
open_run value Private rest o = subst (λ (x : List ℕ). Open x Private) (sym (append-nil value)) o
open_run value (Continuation low high more) rest o = subst (λ (x : List ℕ). Open x (Continuation low high more)) (sym (append-nil value)) o

pub ran : (kept bytes value value2 : List ℕ) (awaits : Awaits) (rest rest2 : List ℕ) → Reaches kept bytes value awaits rest → value2 ≡ value ++ run_at awaits rest → rest2 ≡ behind_at awaits rest
    → Reaches kept bytes value2 awaits rest2
ran kept bytes value value2 awaits rest rest2 r v e =
    subst (λ (x : List ℕ). Reaches kept bytes value2 awaits x) (sym e) (subst (λ (x : List ℕ). Reaches kept bytes x awaits (behind_at awaits rest)) (sym v) (reaches_run kept bytes value awaits rest r))

pub ran_open : (value value2 : List ℕ) (awaits : Awaits) (rest : List ℕ) → Open value awaits → value2 ≡ value ++ run_at awaits rest → Open value2 awaits
ran_open value value2 awaits rest o v = subst (λ (x : List ℕ). Open x awaits) (sym v) (open_run value awaits rest o)

pub written_run : (before out bytes rest : List ℕ) → out ≡ before ++ simple_run bytes → rest ≡ behind_run bytes → out ++ escaped rest ≡ before ++ escaped bytes
written_run before out bytes rest o r =
    ap (λ (x : List ℕ). x ++ escaped rest) o ∙ append_assoc before (simple_run bytes) (escaped rest)
    ∙ ap (λ (x : List ℕ). before ++ (simple_run bytes ++ escaped x)) r ∙ ap (λ (x : List ℕ). before ++ x) (escaped_run bytes)

-- the same of the bytes of wider characters
wide_and_rest : (awaits : Awaits) (bs : List ℕ) → wide_run awaits bs ++ behind_wide awaits bs ≡ bs
wide_and_rest awaits [] = refl
wide_and_rest awaits (b ∷ bs) = elim (cases_Bool (is_wide awaits b)) [
  | inl e ↦ rw e (ap (λ (x : List ℕ). b ∷ x) (wide_and_rest (after OfXml awaits b) bs))
  | inr e ↦ rw e refl
]

pub wide_taken : (awaits : Awaits) (bs rest : List ℕ) → rest ≡ behind_wide awaits bs → take (length bs - length rest) bs ≡ wide_run awaits bs
wide_taken awaits bs rest r = taken (wide_run awaits bs) (behind_wide awaits bs) bs rest (wide_and_rest awaits bs) r

other_byte : (n b : ℕ) → leb 128 n ≡ false → leb 128 b ≡ true → eqb b n ≡ false
other_byte n b f t = elim (cases_Bool (eqb b n)) [
  | inl e ↦ absurd (false≢true (sym f ∙ subst (λ (x : ℕ). leb 128 x ≡ true) (eqb-true b n e) t))
  | inr e ↦ e
]

wide_piece : (value : List ℕ) (awaits : Awaits) (b : ℕ) (bs : List ℕ) → is_wide awaits b ≡ true
    → piece_at value awaits (b ∷ bs) ≡ Ok (value ++ b ∷ [], Some (after OfXml awaits b, bs))
unfolding piece_at
wide_piece value awaits b bs e =
    let p = and_parts (leb 128 b) (allows OfXml awaits b) e in
    rw (other_byte 60 b refl p.0, other_byte 38 b refl p.0, p.1) refl

reaches_wide : (kept bytes value : List ℕ) (awaits : Awaits) (rest : List ℕ) → Reaches kept bytes value awaits rest
    → Reaches kept bytes (value ++ wide_run awaits rest) (awaits_behind awaits rest) (behind_wide awaits rest)
reaches_wide kept bytes value awaits [] r = subst (λ (x : List ℕ). Reaches kept bytes x awaits []) (sym (append-nil value)) r
reaches_wide kept bytes value awaits (b ∷ bs) r = elim (cases_Bool (is_wide awaits b)) [
  | inl e ↦
      let next = after OfXml awaits b in
      let more = reaches_wide kept bytes (value ++ b ∷ []) next bs (reaches_more kept bytes value (value ++ b ∷ []) awaits next (b ∷ bs) bs r (wide_piece value awaits b bs e) (omega arith)) in
      rw e (subst (λ (x : List ℕ). Reaches kept bytes x (awaits_behind next bs) (behind_wide next bs)) (append_assoc value (b ∷ []) (wide_run next bs)) more)
  | inr e ↦ rw e (subst (λ (x : List ℕ). Reaches kept bytes x awaits (b ∷ bs)) (sym (append-nil value)) r)
]

open_wide : (value : List ℕ) (awaits : Awaits) (rest : List ℕ) → Open value awaits → Open (value ++ wide_run awaits rest) (awaits_behind awaits rest)
open_wide value awaits [] o = subst (λ (x : List ℕ). Open x awaits) (sym (append-nil value)) o
open_wide value awaits (b ∷ bs) o = elim (cases_Bool (is_wide awaits b)) [
  | inl e ↦
      let p = and_parts (leb 128 b) (allows OfXml awaits b) e in
      let next = after OfXml awaits b in
      let one : Open (value ++ b ∷ []) next =
      λ tail t. subst (λ (x : List ℕ). are_letters OfXml Character x ≡ true) (sym (append_assoc value (b ∷ []) tail)) (o (b ∷ tail) (rw p.1 t)) in
      rw e (subst (λ (x : List ℕ). Open x (awaits_behind next bs)) (append_assoc value (b ∷ []) (wide_run next bs)) (open_wide (value ++ b ∷ []) next bs one))
  | inr e ↦ rw e (subst (λ (x : List ℕ). Open x awaits) (sym (append-nil value)) o)
]

pub ran_wide : (kept bytes value value2 : List ℕ) (awaits awaits2 : Awaits) (rest rest2 : List ℕ) → Reaches kept bytes value awaits rest → value2 ≡ value ++ wide_run awaits rest
    → awaits2 ≡ awaits_behind awaits rest → rest2 ≡ behind_wide awaits rest → Reaches kept bytes value2 awaits2 rest2
ran_wide kept bytes value value2 awaits awaits2 rest rest2 r v a e =
    subst (λ (x : List ℕ). Reaches kept bytes value2 awaits2 x) (sym e)
    (subst (λ (x : Awaits). Reaches kept bytes value2 x (behind_wide awaits rest)) (sym a)
    (subst (λ (x : List ℕ). Reaches kept bytes x (awaits_behind awaits rest) (behind_wide awaits rest)) (sym v) (reaches_wide kept bytes value awaits rest r)))

pub ran_wide_open : (value value2 : List ℕ) (awaits awaits2 : Awaits) (rest : List ℕ) → Open value awaits → value2 ≡ value ++ wide_run awaits rest
    → awaits2 ≡ awaits_behind awaits rest → Open value2 awaits2
ran_wide_open value value2 awaits awaits2 rest o v a =
    subst (λ (x : Awaits). Open value2 x) (sym a) (subst (λ (x : List ℕ). Open x (awaits_behind awaits rest)) (sym v) (open_wide value awaits rest o))

-- what stops a piece stops the text
pub stops_text : (kept bytes value : List ℕ) (awaits : Awaits) (rest : List ℕ) (why : Stop) → Reaches kept bytes value awaits rest → Stops why (piece_at value awaits rest)
    → Stops why (text_at kept bytes)
stops_text kept bytes value awaits rest (stop.At left) r e = reaches_bad kept bytes value awaits rest left r e
stops_text kept bytes value awaits rest stop.TooDeep r e = absurd e
stops_text kept bytes value awaits rest stop.OutOfMemory r e = tt
