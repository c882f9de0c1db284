-- A reader of names that rise stops at the first byte with which no such names go on.
use Rattle.std.proofs.Common.{◌≡◌, ℕ, zero, suc, ◌<◌, ◌≤◌, Bool, true, not, cond, ◌&&◌, eqb, ltb, leb, List, [], ◌∷◌, ◌++◌, Result, Ok, Err, Option, Some, None, inl, inr, refl, sym, ap, ◌∙◌, subst, arith, append_assoc}
use Rattle.std.specs.Prelude.{codes}
use Rattle.std.proofs.lemmas.Bool.{cases_Bool, cases_lt, le-ltb, le-leb, lt-leb, leb-true, ltb-true, eqb-true, and_parts, and_from}
use Rattle.sv_out.specs.declared.input.Input.TheVariants as input_is
use Rattle.sv_journal.specs.Limits.{number_limit}
use Rattle.sv_journal.specs.Spelling.{stands_for_itself, byte_spelling, bytes_spelling}
use Rattle.sv_letters.specs.Letters.{allows, after}
use Rattle.sv_journal.specs.Escapes.{byte_of}
use Rattle.sv_journal.specs.Reading.{◌>>=◌, word_at, token_from, with_first, with_item, end_at}
use Rattle.sv_journal.specs.Reading.Stage.{Between}
use Rattle.sv_journal.specs.ReadingLines.{word_then, names_line_at}
use Rattle.sv_journal.specs.Names.{text_byte, any_from, above_from, name_at, spaced_name_at, names_at}
use Rattle.sv_letters.specs.declared.letters.Letters.{Letters}
use Rattle.sv_letters.specs.declared.letters.Letters.TheVariants.{OfText}
use Rattle.sv_letters.specs.declared.letters.Awaits.{Awaits}
use Rattle.sv_letters.specs.declared.letters.Awaits.TheVariants.{Character, Private, Continuation}
use Rattle.sv_journal.proofs.AboveLaws.{from_least, to_least}
use Rattle.sv_journal.proofs.Escapes.{SomeEscape, byte_takes, byte_again, byte_cut}
use Rattle.sv_journal.proofs.InputLaws.{number_fits}
use Rattle.sv_journal.proofs.Letters.{accepts}
use Rattle.sv_journal.proofs.Sharp.{Failure, Sharp, any, plain, plain_no_digit, plain_ends, err_value, behind, sharp_end, sharp_word, sharp_number}
use Rattle.sv_journal.proofs.SharpOrders.{sharp_same, bind_twice}
use Rattle.sv_letters.proofs.LetterLaws.{IsOpen, after_open}
use Rattle.sv_journal.proofs.SharpToken.{Ending, ending, token_breaks, sharp_good}
use Rattle.sv_journal.proofs.TokenLaws.{accepts_one, token_takes, token_closes, bytes_again, closes, ends_closes}

-- one of some bytes, and then what reads the rest
abbrev byte_then : {X : Type 0} → (ℕ → Bool) → (ℕ → List ℕ → Result X ℕ) → List ℕ → Result X ℕ
byte_then comes next bs = byte_of comes bs >>= (λ r. next r.0 r.1)

sharp_byte : {X : Type 0} (comes : ℕ → Bool) (next : ℕ → List ℕ → Result X ℕ) → SomeEscape comes → ((x : ℕ) → x < 256 → comes x ≡ true → Sharp (next x) any) → Sharp (byte_then comes next) any
sharp_byte {X} comes next w sharp = record {
  sample = byte_spelling w.b ++ first.sample;
  value = first.value;
  reads = goes w.b first.sample w.small good ∙ first.reads;
  has = refl;
  fails = λ bs left e. by_byte bs left (byte_of comes bs) refl e;
}
  where
    good : comes w.b ≡ true
    good = (and_parts (comes w.b) (not (stands_for_itself w.b)) w.good).0

    first : Sharp (next w.b) any
    first = sharp w.b w.small good

    goes : (x : ℕ) (y : List ℕ) → x < 256 → comes x ≡ true → byte_then comes next (byte_spelling x ++ y) ≡ next x y
    goes x y small may = ap (λ (r : Result (ℕ × List ℕ) ℕ). r >>= (λ r. next r.0 r.1)) (byte_again comes x y small may)

    by_byte : (bs : List ℕ) (left : ℕ) (r : Result (ℕ × List ℕ) ℕ) → byte_of comes bs ≡ r → (r >>= (λ r. next r.0 r.1)) ≡ Err left → Failure (byte_then comes next) any bs left
    by_byte bs left (Ok r) is e =
        let t = byte_takes comes bs r.0 r.1 is in
        let f = (sharp r.0 t.small t.good).fails r.1 left e in
        behind (byte_then comes next) (next r.0) any any (byte_spelling r.0) bs r.1 left t.same f
        (λ x more other q. goes r.0 (f.front ++ x ∷ other) t.small t.good) (goes r.0 (f.front ++ f.tail) t.small t.good) refl
    by_byte bs left (Err l) is e =
        let c = byte_cut comes w bs left (is ∙ ap Err (err_value l left e)) in
        let s = sharp c.x c.small c.good in
        record {
          front = c.front;
          bad = c.bad;
          parts = c.parts;
          size = c.size;
          local = λ b more other q. ap (λ (r : Result (ℕ × List ℕ) ℕ). r >>= (λ r. next r.0 r.1)) (c.local b more other q);
          tail = c.tail ++ s.sample;
          value = s.value;
          completed = ap (byte_then comes next) (sym (append_assoc c.front c.tail s.sample) ∙ ap (λ (l : List ℕ). l ++ s.sample) c.whole) ∙ goes c.x s.sample c.small c.good ∙ s.reads;
          has = refl;
        }

-- the rest of a text, and then what reads the rest of the line
abbrev rest_then : {X : Type 0} → Awaits → (List ℕ → List ℕ → Result X ℕ) → List ℕ → Result X ℕ
rest_then awaits next bs = token_from OfText (Between awaits) bs >>= (λ r. next r.0 r.1)

closes_head : (letters : Letters) (front : List ℕ) (b : ℕ) (more other : List ℕ) → closes letters (front ++ b ∷ more) ≡ true → closes letters (front ++ b ∷ other) ≡ true
closes_head letters [] b more other e = e
closes_head letters (c ∷ front) b more other e = e

-- what reads the rest of the line is sharp after each text that may stand here
abbrev SharpBehind : {X : Type 0} → Awaits → (List ℕ → List ℕ → Result X ℕ) → Type 0
SharpBehind awaits next = (v : List ℕ) → accepts OfText awaits v ≡ true → Sharp (next v) plain

sharp_rest : {X : Type 0} (awaits : Awaits) (next : List ℕ → List ℕ → Result X ℕ) → IsOpen awaits → SharpBehind awaits next → Sharp (rest_then awaits next) any
sharp_rest {X} awaits next g sharp = record {
  sample = bytes_spelling one.v ++ first.sample;
  value = first.value;
  reads = goes one.v first.sample one.good (ends_closes OfText first.sample (plain_ends first.sample first.has)) ∙ first.reads;
  has = refl;
  fails = λ bs left e. by_rest bs left (token_from OfText (Between awaits) bs) refl e;
}
  where
    one : Ending OfText awaits
    one = ending OfText awaits g

    first : Sharp (next one.v) plain
    first = sharp one.v one.good

    goes : (v rest : List ℕ) → accepts OfText awaits v ≡ true → closes OfText rest ≡ true → rest_then awaits next (bytes_spelling v ++ rest) ≡ next v rest
    goes v rest good end = ap (λ (r : Result (List ℕ × List ℕ) ℕ). r >>= (λ r. next r.0 r.1)) (bytes_again OfText awaits v rest good end)

    by_rest : (bs : List ℕ) (left : ℕ) (r : Result (List ℕ × List ℕ) ℕ) → token_from OfText (Between awaits) bs ≡ r → (r >>= (λ r. next r.0 r.1)) ≡ Err left → Failure (rest_then awaits next) any bs left
    by_rest bs left (Ok r) is e =
        let t = token_takes OfText (Between awaits) bs r.0 r.1 tt is in
        let end = token_closes OfText (Between awaits) bs r.0 r.1 is in
        let f = (sharp r.0 t.good).fails r.1 left e in
        behind (rest_then awaits next) (next r.0) any plain (bytes_spelling r.0) bs r.1 left t.same f
        (λ x more other q. goes r.0 (f.front ++ x ∷ other) t.good
        (closes_head OfText f.front x more other (subst (λ (l : List ℕ). closes OfText l ≡ true) (f.parts ∙ ap (λ (l : List ℕ). f.front ++ l) q) end)))
        (goes r.0 (f.front ++ f.tail) t.good (ends_closes OfText (f.front ++ f.tail) (plain_ends (f.front ++ f.tail) f.has))) refl
    by_rest bs left (Err l) is e =
        let f = token_breaks OfText (Between awaits) bs left g (is ∙ ap Err (err_value l left e)) in
        let s = sharp f.v f.good in
        record {
          front = f.front;
          bad = f.bad;
          parts = f.parts;
          size = f.size;
          local = λ b more other q. ap (λ (r : Result (List ℕ × List ℕ) ℕ). r >>= (λ r. next r.0 r.1)) (f.local b more other q);
          tail = f.tail ++ s.sample;
          value = s.value;
          completed = ap (rest_then awaits next) (sym (append_assoc f.front f.tail s.sample) ∙ ap (λ (l : List ℕ). l ++ s.sample) f.whole)
              ∙ goes f.v s.sample f.good (ends_closes OfText s.sample (plain_ends s.sample s.has)) ∙ s.reads;
          has = refl;
        }

-- a text that stands above another, and then what reads the rest of the line
abbrev above_then : {X : Type 0} → List ℕ → Awaits → (List ℕ → List ℕ → Result X ℕ) → List ℕ → Result X ℕ
above_then left awaits next bs = above_from left awaits bs >>= (λ r. next r.0 r.1)

first_then : {X : Type 0} (x : ℕ) (r : Result (List ℕ × List ℕ) ℕ) (next : List ℕ → List ℕ → Result X ℕ) → (with_first x r >>= (λ r. next r.0 r.1)) ≡ (r >>= (λ r. next (x ∷ r.0) r.1))
first_then x (Ok r) next = refl
first_then x (Err left) next = refl

byte_first : {X : Type 0} (f : ℕ → List ℕ → Result (List ℕ × List ℕ) ℕ) (next : List ℕ → List ℕ → Result X ℕ) (r : Result (ℕ × List ℕ) ℕ)
    → ((r >>= (λ r. with_first r.0 (f r.0 r.1))) >>= (λ r. next r.0 r.1)) ≡ (r >>= (λ r. f r.0 r.1 >>= (λ s. next (r.0 ∷ s.0) s.1)))
byte_first f next (Ok r) = first_then r.0 (f r.0 r.1) next
byte_first f next (Err left) = refl

-- 244 begins a character, and is the greatest byte that does
lead_escape : (least : ℕ) → allows OfText Character least ≡ true → SomeEscape (text_byte least Character)
lead_escape least a =
    let low : least ≤ 244 = elim (cases_lt least 128) [
      | inl h ↦ omega arith
      | inr h ↦
          let e : (leb 194 least && leb least 244) ≡ true = rw (le-ltb least 128 h) at a in
          leb-true least 244 (and_parts (leb 194 least) (leb least 244) e).1
    ] in
    record { b = 244; small = omega arith; good = and_from (text_byte least Character 244) true (to_least least Character 244 low refl) refl }

least_escape : (least : ℕ) (awaits : Awaits) → IsOpen awaits → least < 256 → allows OfText awaits least ≡ true → SomeEscape (text_byte least awaits)
least_escape least Character g small a = lead_escape least a
least_escape least Private g small a =
    let above = leb-true 128 least (and_parts (leb 128 least) (leb least 191) a).0 in
    record {
      b = least;
      small = small;
      good = and_from (text_byte least Private least) (not (stands_for_itself least)) (to_least least Private least (omega arith) a)
          (rw (lt-leb least 126 (omega arith), le-leb 33 least (omega arith)) refl);
    }
least_escape least (Continuation low high more) g small a =
    let p = and_parts (leb low least) (leb least high) a in
    let begin = g.0 in
    let above = leb-true low least p.0 in
    record {
      b = least;
      small = small;
      good = and_from (text_byte least (Continuation low high more) least) (not (stands_for_itself least)) (to_least least (Continuation low high more) least (omega arith) a)
          (rw (lt-leb least 126 (omega arith), le-leb 33 least (omega arith)) refl);
    }

ended_escape : (awaits : Awaits) → accepts OfText awaits [] ≡ true → SomeEscape (text_byte 0 awaits)
ended_escape Character a = record { b = 37; small = omega arith; good = refl }
ended_escape Private a = cc a
ended_escape (Continuation low high more) a = cc a

sharp_above : {X : Type 0} (left : List ℕ) (awaits : Awaits) (next : List ℕ → List ℕ → Result X ℕ) → IsOpen awaits → accepts OfText awaits left ≡ true → SharpBehind awaits next → Sharp (above_then left awaits next) any
sharp_above {X} [] awaits next g a sharp =
    sharp_same (above_then [] awaits next) (byte_then (text_byte 0 awaits) (λ x. rest_then (after OfText awaits x) (λ v. next (x ∷ v)))) any
    (λ bs. byte_first (any_from awaits) next (byte_of (text_byte 0 awaits) bs))
    (sharp_byte (text_byte 0 awaits) (λ x. rest_then (after OfText awaits x) (λ v. next (x ∷ v))) (ended_escape awaits a) (λ x small may.
    sharp_rest (after OfText awaits x) (λ v. next (x ∷ v)) (after_open OfText awaits x) (λ v good. sharp (x ∷ v) (accepts_one OfText awaits x v small (from_least 0 awaits x may).1 good))))
sharp_above {X} (same ∷ left) awaits next g a sharp =
    let p = and_parts (ltb same 256 && allows OfText awaits same) (accepts OfText (after OfText awaits same) left) a in
    let q = and_parts (ltb same 256) (allows OfText awaits same) p.0 in
    let goes : ℕ → List ℕ → Result (List ℕ × List ℕ) ℕ = λ x bs. cond (eqb x same) (above_from left (after OfText awaits x) bs) (any_from awaits x bs) in
    sharp_same (above_then (same ∷ left) awaits next) (byte_then (text_byte same awaits) (λ x bs. goes x bs >>= (λ s. next (x ∷ s.0) s.1))) any
    (λ bs. byte_first goes next (byte_of (text_byte same awaits) bs))
    (sharp_byte (text_byte same awaits) (λ x bs. goes x bs >>= (λ s. next (x ∷ s.0) s.1)) (least_escape same awaits g (ltb-true same 256 q.0) q.1) (λ x small may.
    let further : SharpBehind (after OfText awaits x) (λ v. next (x ∷ v)) = λ v good. sharp (x ∷ v) (accepts_one OfText awaits x v small (from_least same awaits x may).1 good) in
    elim (cases_Bool (eqb x same)) [
      | inl is ↦
          sharp_same (λ bs. goes x bs >>= (λ s. next (x ∷ s.0) s.1)) (above_then left (after OfText awaits x) (λ v. next (x ∷ v))) any
          (λ bs. ap (λ (t : Bool). cond t (above_from left (after OfText awaits x) bs) (any_from awaits x bs) >>= (λ s. next (x ∷ s.0) s.1)) is)
          (sharp_above left (after OfText awaits x) (λ v. next (x ∷ v)) (after_open OfText awaits x)
          (ap (λ (y : ℕ). accepts OfText (after OfText awaits y) left) (eqb-true x same is) ∙ p.1) further)
      | inr is ↦
          sharp_same (λ bs. goes x bs >>= (λ s. next (x ∷ s.0) s.1)) (rest_then (after OfText awaits x) (λ v. next (x ∷ v))) any
          (λ bs. ap (λ (t : Bool). cond t (above_from left (after OfText awaits x) bs) (any_from awaits x bs) >>= (λ s. next (x ∷ s.0) s.1)) is)
          (sharp_rest (after OfText awaits x) (λ v. next (x ∷ v)) (after_open OfText awaits x) further)
    ]))

-- names
abbrev name_then : {X : Type 0} → Option (List ℕ) → (List ℕ → List ℕ → Result X ℕ) → List ℕ → Result X ℕ
name_then below next bs = name_at below bs >>= (λ r. next r.0 r.1)

abbrev IsText : Option (List ℕ) → Type 0
IsText None = Unit {0}
IsText (Some below) = accepts OfText Character below ≡ true

sharp_name : {X : Type 0} (below : Option (List ℕ)) (next : List ℕ → List ℕ → Result X ℕ) → IsText below → SharpBehind Character next → Sharp (name_then below next) any
sharp_name None next text sharp = sharp_good OfText next plain plain_ends sharp
sharp_name (Some below) next text sharp = sharp_above below Character next tt text sharp

abbrev names_then : {X : Type 0} → Option (List ℕ) → ℕ → (List (List ℕ) → List ℕ → Result X ℕ) → List ℕ → Result X ℕ
names_then below n next bs = names_at below n bs >>= (λ r. next r.0 r.1)

item_then : {X : Type 0} (x : List ℕ) (r : Result (List (List ℕ) × List ℕ) ℕ) (next : List (List ℕ) → List ℕ → Result X ℕ) → (with_item x r >>= (λ r. next r.0 r.1)) ≡ (r >>= (λ r. next (x ∷ r.0) r.1))
item_then x (Ok r) next = refl
item_then x (Err left) next = refl

name_first : {X : Type 0} (n : ℕ) (next : List (List ℕ) → List ℕ → Result X ℕ) (r : Result (List ℕ × List ℕ) ℕ)
    → ((r >>= (λ r. with_item r.0 (names_at (Some r.0) n r.1))) >>= (λ r. next r.0 r.1)) ≡ (r >>= (λ r. names_then (Some r.0) n (λ xs. next (r.0 ∷ xs)) r.1))
name_first n next (Ok r) = item_then r.0 (names_at (Some r.0) n r.1) next
name_first n next (Err left) = refl

sharp_names : {X : Type 0} (below : Option (List ℕ)) (n : ℕ) (next : List (List ℕ) → List ℕ → Result X ℕ) → IsText below → ((xs : List (List ℕ)) → Sharp (next xs) plain) → Sharp (names_then below n next) plain
sharp_names below zero next text sharp = sharp_same (names_then below zero next) (next []) plain (λ bs. refl) (sharp [])
sharp_names below (suc n) next text sharp =
    let more : List ℕ → List ℕ → Result _ ℕ = λ v. names_then (Some v) n (λ xs. next (v ∷ xs)) in
    sharp_same (names_then below (suc n) next) (word_then (codes " ") (name_then below more)) plain
    (λ bs. name_first n next (spaced_name_at below bs) ∙ bind_twice (word_at (codes " ") bs) (name_at below) (λ r. more r.0 r.1))
    (sharp_word 32 [] (name_then below more) any plain (λ x. refl) (sharp_name below more text (λ v good. sharp_names (Some v) n (λ xs. next (v ∷ xs)) good (λ xs. sharp (v ∷ xs)))))

pub names_sharp : Sharp names_line_at any
unfolding names_line_at
names_sharp =
    sharp_number 0 number_limit (λ n. names_then None n (λ xs. end_at (input_is.Names xs))) plain any number_fits (omega arith) plain_no_digit (λ n x h. refl)
    (λ n. sharp_names None n (λ xs. end_at (input_is.Names xs)) tt (λ xs. sharp_end (input_is.Names xs)))
