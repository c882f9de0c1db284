-- A reader of a piece stops at the first byte with which no piece goes on.
use Rattle.std.proofs.Common.{◌≡◌, ℕ, zero, suc, ◌/◌, ◌%◌, ◌<◌, Bool, true, false, not, cond, eqb, ◌⊎◌, List, [], ◌∷◌, ◌++◌, length, Result, Ok, Err, inl, inr, refl, sym, ap, ◌∙◌, subst, arith, append_assoc, length-append}
use Rattle.std.proofs.lemmas.Bool.{and_parts, eqb-true, not-true}
use Rattle.sv_base.specs.Limits.{piece_limit}
use Rattle.sv_journal.specs.Spelling.{stands_for_itself, hex_digit, byte_spelling}
use Rattle.sv_journal.specs.Tokens.{is_hex, hex_value, may_begin, is_first_digit, is_second_digit}
use Rattle.sv_letters.specs.Letters.{allows}
use Rattle.sv_journal.specs.Reading.{◌>>=◌, second_digit_at, escape_at}
use Rattle.sv_journal.specs.Pieces.{byte_at, with_bytes, bytes_at, piece_at}
use Rattle.sv_journal.specs.ReadingLines.{last_piece_then}
use Rattle.sv_letters.specs.declared.letters.Letters.TheVariants.{OfBytes}
use Rattle.sv_letters.specs.declared.letters.Awaits.TheVariants.{Character}
use Rattle.sv_journal.proofs.PieceLaws.{byte_again, byte_takes, byte_some, step_ok, step_err, nothing_left, piece_cons}
use Rattle.sv_journal.proofs.Results.{never}
use Rattle.sv_journal.proofs.Sharp.{Failure, Sharp, any, err_value, cons_head, at_nothing}
use Rattle.sv_journal.proofs.SharpToken.{escaped, choose_false}
use Rattle.sv_journal.proofs.TokenLaws.{chosen, choose_true, hex_below, hex_again, spelled_escaped}

-- where the reader of a byte stops
record ByteCut (bs : List ℕ) (left : ℕ) : Type 0 where
  front : List ℕ
  bad : List ℕ
  parts : bs ≡ front ++ bad
  size : left ≡ length bad
  local : (b : ℕ) (more other : List ℕ) → bad ≡ b ∷ more → byte_at (front ++ b ∷ other) ≡ Err (suc (length other))
  tail : List ℕ
  x : ℕ
  completed : byte_at (front ++ tail) ≡ Ok (x, [])

bind_cond_err : {A B : Type 0} (t : Bool) (x : A) (l : ℕ) (f : A → Result B ℕ) (left : ℕ) → (cond t (Ok x) (Err l) >>= f) ≡ Err left → ((t ≡ true) × (f x ≡ Err left)) ⊎ ((t ≡ false) × (l ≡ left))
bind_cond_err true x l f left e = inl (refl, e)
bind_cond_err false x l f left e = inr (refl, err_value l left e)

-- what follows the first digit of an escape
behind_first : (d : ℕ) (y : List ℕ) → is_first_digit OfBytes Character d ≡ true → byte_at (37 ∷ d ∷ y) ≡ second_digit_at OfBytes Character (hex_value d) y
behind_first d y f =
    ap (λ (r : Result (ℕ × List ℕ) ℕ). r >>= (λ f. second_digit_at OfBytes Character f.0 f.1)) (choose_true (is_first_digit OfBytes Character d) (Ok (hex_value d, y)) (Err (suc (length y))) f)

-- how an escape with this first digit ends
record Ended (d : ℕ) : Type 0 where
  k : ℕ
  x : ℕ
  completed : byte_at (37 ∷ d ∷ k ∷ []) ≡ Ok (x, [])

ended : (d : ℕ) → is_first_digit OfBytes Character d ≡ true → Ended d
ended d f =
    let h = and_parts (is_hex d) (may_begin OfBytes Character (hex_value d)) f in
    let b = escaped (allows OfBytes Character) (hex_value d) (hex_below d h.0) h.1 in
    let s = and_parts (allows OfBytes Character b.b) (not (stands_for_itself b.b)) b.good in
    let digit : d ≡ hex_digit (b.b / 16) = sym (ap hex_digit b.begins ∙ hex_again d h.0) in
    let spelled : 37 ∷ d ∷ hex_digit (b.b % 16) ∷ [] ≡ byte_spelling b.b ++ [] =
    ap (λ (y : ℕ). 37 ∷ y ∷ hex_digit (b.b % 16) ∷ []) digit ∙ ap (λ (l : List ℕ). l ++ []) (sym (spelled_escaped b.b (not-true (stands_for_itself b.b) s.1))) in
    record { k = hex_digit (b.b % 16); x = b.b; completed = ap byte_at spelled ∙ byte_again b.b [] b.small }

second_cut : (d : ℕ) (bs : List ℕ) (left : ℕ) → is_first_digit OfBytes Character d ≡ true → second_digit_at OfBytes Character (hex_value d) bs ≡ Err left → ByteCut (37 ∷ d ∷ bs) left
second_cut d [] left f e =
    let c = ended d f in
    record { front = 37 ∷ d ∷ []; bad = []; parts = refl; size = sym (err_value 0 left e); local = λ b more other q. cc q; tail = c.k ∷ []; x = c.x; completed = c.completed }
second_cut d (k ∷ bs) left f e = elim (chosen (is_second_digit OfBytes Character (hex_value d) k) _ _ _ e) [
  | inl p ↦ absurd (never left _ (sym p.1))
  | inr p ↦
      let c = ended d f in
      record {
        front = 37 ∷ d ∷ [];
        bad = k ∷ bs;
        parts = refl;
        size = sym (err_value (suc (length bs)) left p.1);
        local = λ b more other q.
            ap (λ (y : ℕ). byte_at (37 ∷ d ∷ y ∷ other)) (sym (cons_head k b bs more q)) ∙ behind_first d (k ∷ other) f
            ∙ choose_false (is_second_digit OfBytes Character (hex_value d) k) _ _ p.0;
        tail = c.k ∷ [];
        x = c.x;
        completed = c.completed;
      }
]

escape_cut : (bs : List ℕ) (left : ℕ) → escape_at OfBytes Character bs ≡ Err left → ByteCut (37 ∷ bs) left
escape_cut [] left e =
    record { front = 37 ∷ []; bad = []; parts = refl; size = sym (err_value 0 left e); local = λ b more other q. cc q; tail = 50 ∷ 53 ∷ []; x = 37; completed = refl }
escape_cut (d ∷ bs) left e = elim (bind_cond_err (is_first_digit OfBytes Character d) (hex_value d, bs) (suc (length bs)) (λ f. second_digit_at OfBytes Character f.0 f.1) left e) [
  | inl p ↦ second_cut d bs left p.0 p.1
  | inr p ↦
      record {
        front = 37 ∷ [];
        bad = d ∷ bs;
        parts = refl;
        size = sym p.1;
        local = λ b more other q.
            ap (λ (y : ℕ). byte_at (37 ∷ y ∷ other)) (sym (cons_head d b bs more q))
            ∙ ap (λ (r : Result (ℕ × List ℕ) ℕ). r >>= (λ f. second_digit_at OfBytes Character f.0 f.1)) (choose_false (is_first_digit OfBytes Character d) (Ok (hex_value d, other)) (Err (suc (length other))) p.0);
        tail = 50 ∷ 53 ∷ [];
        x = 37;
        completed = refl;
      }
]

refused : (p s : Bool) (x y z : Result (ℕ × List ℕ) ℕ) → p ≡ false → s ≡ false → cond p x (cond s y z) ≡ z
refused false false x y z e f = refl
refused true s x y z e f = cc e
refused false true x y z e f = cc f

byte_cut : (b : ℕ) (bs : List ℕ) (left : ℕ) → byte_at (b ∷ bs) ≡ Err left → ByteCut (b ∷ bs) left
byte_cut b bs left e = elim (chosen (eqb b 37) _ _ _ e) [
  | inl p ↦ subst (λ (y : ℕ). ByteCut (y ∷ bs) left) (sym (eqb-true b 37 p.0)) (escape_cut bs left p.1)
  | inr p ↦ elim (chosen (stands_for_itself b) _ _ _ p.1) [
    | inl q ↦ absurd (never left (b, bs) (sym q.1))
    | inr q ↦
        record {
          front = [];
          bad = b ∷ bs;
          parts = refl;
          size = sym (err_value (suc (length bs)) left q.1);
          local = λ c more other is.
              ap (λ (y : ℕ). byte_at (y ∷ other)) (sym (cons_head b c bs more is))
              ∙ refused (eqb b 37) (stands_for_itself b) (escape_at OfBytes Character other) (Ok (b, other)) (Err (suc (length other))) p.0 q.0;
          tail = 65 ∷ [];
          x = 65;
          completed = refl;
        }
  ]
]

-- where the reader of so many bytes stops
record BytesCut (room : ℕ) (bs : List ℕ) (left : ℕ) : Type 0 where
  front : List ℕ
  bad : List ℕ
  parts : bs ≡ front ++ bad
  size : left ≡ length bad
  local : (b : ℕ) (more other : List ℕ) → bad ≡ b ∷ more → bytes_at room (front ++ b ∷ other) ≡ Err (suc (length other))
  tail : List ℕ
  v : List ℕ
  completed : bytes_at room (front ++ tail) ≡ Ok v
  some : 0 < room → 0 < length (front ++ tail)

with_bytes_err : (xs : List ℕ) (r : Result (List ℕ) ℕ) (left : ℕ) → with_bytes xs r ≡ Err left → r ≡ Err left
with_bytes_err xs (Ok v) left e = absurd (never left (xs ++ v) (sym e))
with_bytes_err xs (Err l) left e = ap Err (err_value l left e)

inside : (front : List ℕ) (b : ℕ) (other : List ℕ) → 0 < length (front ++ b ∷ other)
inside front b other = omega (arith, length-append front (b ∷ other))

cut_more : (room b : ℕ) (bs : List ℕ) (left : ℕ) → ((bs : List ℕ) (left : ℕ) → bytes_at room bs ≡ Err left → BytesCut room bs left)
    → (r : Result (ℕ × List ℕ) ℕ) → byte_at (b ∷ bs) ≡ r → (r >>= (λ q. with_bytes (q.0 ∷ []) (bytes_at room q.1))) ≡ Err left → BytesCut (suc room) (b ∷ bs) left
cut_more room b bs left again (Ok r) is e =
    let t = byte_takes (b ∷ bs) r.0 r.1 is in
    let c = again r.1 left (with_bytes_err (r.0 ∷ []) (bytes_at room r.1) left e) in
    let goes : (y : List ℕ) → bytes_at (suc room) ((byte_spelling r.0 ++ c.front) ++ y) ≡ with_bytes (r.0 ∷ []) (bytes_at room (c.front ++ y)) = λ y.
    ap (bytes_at (suc room)) (append_assoc (byte_spelling r.0) c.front y) ∙ step_ok room (byte_spelling r.0 ++ (c.front ++ y)) r.0 (c.front ++ y) (byte_again r.0 (c.front ++ y) t.small) in
    record {
      front = byte_spelling r.0 ++ c.front;
      bad = c.bad;
      parts = t.same ∙ ap (λ (l : List ℕ). byte_spelling r.0 ++ l) c.parts ∙ sym (append_assoc (byte_spelling r.0) c.front c.bad);
      size = c.size;
      local = λ x more other q. goes (x ∷ other) ∙ ap (with_bytes (r.0 ∷ [])) (c.local x more other q);
      tail = c.tail;
      v = r.0 ∷ c.v;
      completed = goes c.tail ∙ ap (with_bytes (r.0 ∷ [])) c.completed;
      some = λ h. byte_some ((byte_spelling r.0 ++ c.front) ++ c.tail) (r.0, c.front ++ c.tail)
          (ap byte_at (append_assoc (byte_spelling r.0) c.front c.tail) ∙ byte_again r.0 (c.front ++ c.tail) t.small);
    }
cut_more room b bs left again (Err l) is e =
    let c = byte_cut b bs left (is ∙ ap Err (err_value l left e)) in
    record {
      front = c.front;
      bad = c.bad;
      parts = c.parts;
      size = c.size;
      local = λ x more other q. step_err room (c.front ++ x ∷ other) (suc (length other)) (inside c.front x other) (c.local x more other q);
      tail = c.tail;
      v = c.x ∷ [];
      completed = step_ok room (c.front ++ c.tail) c.x [] c.completed ∙ ap (with_bytes (c.x ∷ [])) (nothing_left room);
      some = λ h. byte_some (c.front ++ c.tail) (c.x, []) c.completed;
    }

bytes_cut : (room : ℕ) (bs : List ℕ) (left : ℕ) → bytes_at room bs ≡ Err left → BytesCut room bs left
bytes_cut room [] left e = absurd (never left [] (sym e ∙ nothing_left room))
bytes_cut zero (b ∷ bs) left e =
    record { front = []; bad = b ∷ bs; parts = refl; size = sym (err_value (suc (length bs)) left e); local = λ x more other q. refl; tail = []; v = []; completed = refl; some = λ h. absurd (omega arith) }
bytes_cut (suc room) (b ∷ bs) left e = cut_more room b bs left (bytes_cut room) (byte_at (b ∷ bs)) refl e

-- pieces
piece_fails : {X : Type 0} (value : List ℕ → X) (bs : List ℕ) (left : ℕ) → piece_at bs ≡ Err left → Failure (last_piece_then value) any bs left
piece_fails value [] left e = at_nothing (last_piece_then value) any left (sym (err_value 0 left e)) (65 ∷ []) (value (65 ∷ [])) refl refl
piece_fails value (b ∷ bs) left e =
    let c = bytes_cut piece_limit (b ∷ bs) left e in
    record {
      front = c.front;
      bad = c.bad;
      parts = c.parts;
      size = c.size;
      local = λ x more other q. ap (λ (r : Result (List ℕ) ℕ). r >>= (λ v. Ok (value v))) (piece_cons (c.front ++ x ∷ other) (inside c.front x other) ∙ c.local x more other q);
      tail = c.tail;
      value = value c.v;
      completed = ap (λ (r : Result (List ℕ) ℕ). r >>= (λ v. Ok (value v))) (piece_cons (c.front ++ c.tail) (c.some (omega arith)) ∙ c.completed);
      has = refl;
    }

pub sharp_piece : {X : Type 0} (value : List ℕ → X) → Sharp (last_piece_then value) any
sharp_piece value = record {
  sample = 65 ∷ [];
  value = value (65 ∷ []);
  reads = refl;
  has = refl;
  fails = λ bs left e. by_piece bs left (piece_at bs) refl e;
}
  where
    by_piece : (bs : List ℕ) (left : ℕ) (r : Result (List ℕ) ℕ) → piece_at bs ≡ r → (r >>= (λ v. Ok (value v))) ≡ Err left → Failure (last_piece_then value) any bs left
    by_piece bs left (Ok v) is e = absurd (never left (value v) (sym e))
    by_piece bs left (Err l) is e = piece_fails value bs left (is ∙ ap Err (err_value l left e))
