-- A piece that was read is what its line spells, and each piece is read again.
use Rattle.std.proofs.Common.{◌≡◌, ℕ, zero, suc, ◌+◌, ◌*◌, ◌-◌, ◌/◌, ◌%◌, ◌<◌, ◌≤◌, Bool, true, false, not, cond, ◌&&◌, eqb, leb, List, [], ◌∷◌, ◌++◌, length, Result, Ok, Err, inl, inr, refl, sym, ap, ◌∙◌, subst, arith, append_assoc, append-nil}
use Rattle.std.specs.List.{list_all}
use Rattle.std.proofs.lemmas.Bool.{cases_Bool, lt-ltb, ltb-true, and_parts, and_from, eqb-true, not-true, not_from_false}
use Rattle.sv_base.specs.Limits.{piece_limit}
use Rattle.sv_journal.specs.JournalLine.{is_byte, IsPiece}
use Rattle.sv_journal.specs.Spelling.{stands_for_itself, hex_digit, byte_spelling, bytes_spelling, token}
use Rattle.sv_journal.specs.Tokens.{escapes, is_hex, hex_value, may_begin, is_first_digit, is_second_digit}
use Rattle.sv_letters.specs.Letters.{allows}
use Rattle.sv_journal.specs.Reading.{◌>>=◌, second_digit_at, escape_at}
use Rattle.sv_journal.specs.Pieces.{byte_at, with_bytes, bytes_at, piece_at}
use Rattle.sv_journal.specs.ReadingLines.{last_piece_then}
use Rattle.sv_letters.specs.declared.letters.Letters.TheVariants.{OfBytes}
use Rattle.sv_letters.specs.declared.letters.Awaits.TheVariants.{Character}
use Rattle.sv_journal.proofs.LineParts.{bind_then}
use Rattle.sv_journal.proofs.Results.{ok_value, ok_pair}
use Rattle.sv_journal.proofs.TokenLaws.{chosen, choose_true, hex_below, hex_again, itself_small, spelled_itself, spelled_escaped, digit_is_hex, value_of_digit, first_again}

-- one byte
bytes_allowed : (b : ℕ) → b < 256 → allows OfBytes Character b ≡ true
bytes_allowed b small = rw (lt-ltb b 256 small) refl

escape_read : (b : ℕ) (y : List ℕ) → b < 256 → stands_for_itself b ≡ false → escape_at OfBytes Character (hex_digit (b / 16) ∷ hex_digit (b % 16) ∷ y) ≡ Ok (b, y)
escape_read b y small plain =
    let top : b / 16 < 16 = omega arith in
    let low : b % 16 < 16 = omega arith in
    let whole : 16 * (b / 16) + b % 16 ≡ b = omega arith in
    let e : escapes OfBytes Character b ≡ true = and_from (allows OfBytes Character b) (not (stands_for_itself b)) (bytes_allowed b small) (not_from_false (stands_for_itself b) plain) in
    let value : 16 * (b / 16) + hex_value (hex_digit (b % 16)) ≡ b = ap (λ (x : ℕ). 16 * (b / 16) + x) (value_of_digit (b % 16) low) ∙ whole in
    let second : is_second_digit OfBytes Character (b / 16) (hex_digit (b % 16)) ≡ true =
    and_from (is_hex (hex_digit (b % 16))) (escapes OfBytes Character (16 * (b / 16) + hex_value (hex_digit (b % 16)))) (digit_is_hex (b % 16) low) (ap (escapes OfBytes Character) value ∙ e) in
    ap (λ (r : Result (ℕ × List ℕ) ℕ). r >>= (λ f. second_digit_at OfBytes Character f.0 f.1))
    (choose_true (is_first_digit OfBytes Character (hex_digit (b / 16))) (Ok (hex_value (hex_digit (b / 16)), hex_digit (b % 16) ∷ y)) (Err (suc (length (hex_digit (b % 16) ∷ y)))) (first_again OfBytes Character b small e))
    ∙ ap (λ (h : ℕ). second_digit_at OfBytes Character h (hex_digit (b % 16) ∷ y)) (value_of_digit (b / 16) top)
    ∙ choose_true (is_second_digit OfBytes Character (b / 16) (hex_digit (b % 16))) (Ok (16 * (b / 16) + hex_value (hex_digit (b % 16)), y)) (Err (suc (length y))) second
    ∙ ap (λ (x : ℕ). Ok (x, y)) value

itself_read : (p s : Bool) (x y z : Result (ℕ × List ℕ) ℕ) → p ≡ false → s ≡ true → cond p x (cond s y z) ≡ y
itself_read false true x y z e f = refl
itself_read true s x y z e f = cc e
itself_read false false x y z e f = cc f

-- the spelling of a byte is read as it
pub byte_again : (b : ℕ) (y : List ℕ) → b < 256 → byte_at (byte_spelling b ++ y) ≡ Ok (b, y)
byte_again b y small = elim (cases_Bool (stands_for_itself b)) [
  | inl s ↦
      let p = and_parts (leb 33 b && leb b 126) (not (eqb b 37)) s in
      ap (λ (l : List ℕ). byte_at (l ++ y)) (spelled_itself b s)
      ∙ itself_read (eqb b 37) (stands_for_itself b) (escape_at OfBytes Character y) (Ok (b, y)) (Err (suc (length y))) (not-true (eqb b 37) p.1) s
  | inr s ↦ ap (λ (l : List ℕ). byte_at (l ++ y)) (spelled_escaped b s) ∙ escape_read b y small s
]

pub record ByteTaken (bs : List ℕ) (x : ℕ) (rest : List ℕ) : Type 0 where
  pub same : bs ≡ byte_spelling x ++ rest
  pub small : x < 256

bind_cond : {A B : Type 0} (t : Bool) (x : A) (l : ℕ) (f : A → Result B ℕ) (y : B) → (cond t (Ok x) (Err l) >>= f) ≡ Ok y → (t ≡ true) × (f x ≡ Ok y)
bind_cond true x l f y e = (refl, e)
bind_cond false x l f y e = cc e

-- two digits of which the first is this one
second_takes : (d : ℕ) (bs : List ℕ) (x : ℕ) (rest : List ℕ) → is_first_digit OfBytes Character d ≡ true → second_digit_at OfBytes Character (hex_value d) bs ≡ Ok (x, rest) → ByteTaken (37 ∷ d ∷ bs) x rest
second_takes d [] x rest f e = cc e
second_takes d (k ∷ bs) x rest f e = elim (chosen (is_second_digit OfBytes Character (hex_value d) k) _ _ _ e) [
  | inl p ↦
      let g = and_parts (is_hex d) (may_begin OfBytes Character (hex_value d)) f in
      let h = and_parts (is_hex k) (escapes OfBytes Character (16 * hex_value d + hex_value k)) p.0 in
      let b = 16 * hex_value d + hex_value k in
      let s = and_parts (allows OfBytes Character b) (not (stands_for_itself b)) h.1 in
      let low = hex_below k h.0 in
      let high = hex_below d g.0 in
      let top : b / 16 ≡ hex_value d = omega arith in
      let bottom : b % 16 ≡ hex_value k = omega arith in
      let is = ok_pair b x bs rest p.1 in
      let spelled : byte_spelling b ≡ 37 ∷ d ∷ k ∷ [] =
      spelled_escaped b (not-true (stands_for_itself b) s.1)
      ∙ ap (λ (y : ℕ). 37 ∷ y ∷ hex_digit (b % 16) ∷ []) (ap hex_digit top ∙ hex_again d g.0)
      ∙ ap (λ (y : ℕ). 37 ∷ d ∷ y ∷ []) (ap hex_digit bottom ∙ hex_again k h.0) in
      record {
        same = ap (λ (l : List ℕ). 37 ∷ d ∷ k ∷ l) is.1 ∙ ap (λ (l : List ℕ). l ++ rest) (sym spelled) ∙ ap (λ (y : ℕ). byte_spelling y ++ rest) is.0;
        small = subst (λ (y : ℕ). y < 256) is.0 (omega arith);
      }
  | inr p ↦ cc p.1
]

escape_takes : (bs : List ℕ) (x : ℕ) (rest : List ℕ) → escape_at OfBytes Character bs ≡ Ok (x, rest) → ByteTaken (37 ∷ bs) x rest
escape_takes [] x rest e = cc e
escape_takes (d ∷ bs) x rest e =
    let p = bind_cond (is_first_digit OfBytes Character d) (hex_value d, bs) (suc (length bs)) (λ f. second_digit_at OfBytes Character f.0 f.1) (x, rest) e in
    second_takes d bs x rest p.0 p.1

pub byte_takes : (bs : List ℕ) (x : ℕ) (rest : List ℕ) → byte_at bs ≡ Ok (x, rest) → ByteTaken bs x rest
byte_takes [] x rest e = cc e
byte_takes (b ∷ bs) x rest e = elim (chosen (eqb b 37) _ _ _ e) [
  | inl p ↦ subst (λ (y : ℕ). ByteTaken (y ∷ bs) x rest) (sym (eqb-true b 37 p.0)) (escape_takes bs x rest p.1)
  | inr p ↦ elim (chosen (stands_for_itself b) _ _ _ p.1) [
    | inl q ↦
        let is = ok_pair b x bs rest q.1 in
        record {
          same = ap (λ (l : List ℕ). l ++ bs) (sym (spelled_itself b q.0)) ∙ ap (λ (y : ℕ). byte_spelling y ++ bs) is.0 ∙ ap (λ (l : List ℕ). byte_spelling x ++ l) is.1;
          small = subst (λ (y : ℕ). y < 256) is.0 (let h = itself_small b q.0 in omega arith);
        }
    | inr q ↦ cc q.1
  ]
]

-- the bytes up to the line's end
pub step_ok : (room : ℕ) (bs : List ℕ) (x : ℕ) (rest : List ℕ) → byte_at bs ≡ Ok (x, rest) → bytes_at (suc room) bs ≡ with_bytes (x ∷ []) (bytes_at room rest)
step_ok room [] x rest e = cc e
step_ok room (b ∷ bs) x rest e = ap (λ (r : Result (ℕ × List ℕ) ℕ). r >>= (λ q. with_bytes (q.0 ∷ []) (bytes_at room q.1))) e

pub step_err : (room : ℕ) (bs : List ℕ) (left : ℕ) → 0 < length bs → byte_at bs ≡ Err left → bytes_at (suc room) bs ≡ Err left
step_err room [] left some e = absurd (omega arith)
step_err room (b ∷ bs) left some e = ap (λ (r : Result (ℕ × List ℕ) ℕ). r >>= (λ q. with_bytes (q.0 ∷ []) (bytes_at room q.1))) e

pub nothing_left : (room : ℕ) → bytes_at room [] ≡ Ok []
nothing_left zero = refl
nothing_left (suc room) = refl

record Behind (xs : List ℕ) (r : Result (List ℕ) ℕ) (v : List ℕ) : Type 0 where
  w : List ℕ
  is : v ≡ xs ++ w
  read : r ≡ Ok w

with_bytes_ok : (xs : List ℕ) (r : Result (List ℕ) ℕ) (v : List ℕ) → with_bytes xs r ≡ Ok v → Behind xs r v
with_bytes_ok xs (Ok w) v e = record { w = w; is = sym (ok_value (xs ++ w) v e); read = refl }
with_bytes_ok xs (Err left) v e = cc e

pub record BytesTaken (room : ℕ) (bs v : List ℕ) : Type 0 where
  pub same : bs ≡ bytes_spelling v
  pub fit : list_all is_byte v ≡ true
  pub most : length v ≤ room

taken_more : (room b : ℕ) (bs v : List ℕ) → ((bs v : List ℕ) → bytes_at room bs ≡ Ok v → BytesTaken room bs v)
    → (r : Result (ℕ × List ℕ) ℕ) → byte_at (b ∷ bs) ≡ r → (r >>= (λ q. with_bytes (q.0 ∷ []) (bytes_at room q.1))) ≡ Ok v → BytesTaken (suc room) (b ∷ bs) v
taken_more room b bs v again (Err left) is e = cc e
taken_more room b bs v again (Ok r) is e =
    let w = with_bytes_ok (r.0 ∷ []) (bytes_at room r.1) v e in
    let t = byte_takes (b ∷ bs) r.0 r.1 is in
    let i = again r.1 w.w w.read in
    let most = i.most in
    subst (BytesTaken (suc room) (b ∷ bs)) (sym w.is) (record {
      same = t.same ∙ ap (λ (l : List ℕ). byte_spelling r.0 ++ l) i.same;
      fit = and_from (is_byte r.0) (list_all is_byte w.w) (lt-ltb r.0 256 t.small) i.fit;
      most = omega arith;
    })

pub bytes_takes : (room : ℕ) (bs v : List ℕ) → bytes_at room bs ≡ Ok v → BytesTaken room bs v
bytes_takes room [] v e =
    subst (BytesTaken room []) (ok_value [] v (sym (nothing_left room) ∙ e)) (record { same = refl; fit = refl; most = omega arith })
bytes_takes zero (b ∷ bs) v e = cc e
bytes_takes (suc room) (b ∷ bs) v e = taken_more room b bs v (bytes_takes room) (byte_at (b ∷ bs)) refl e

pub bytes_again : (room : ℕ) (v : List ℕ) → list_all is_byte v ≡ true → length v ≤ room → bytes_at room (bytes_spelling v) ≡ Ok v
bytes_again room [] fit most = nothing_left room
bytes_again zero (x ∷ v) fit most = absurd (omega arith)
bytes_again (suc room) (x ∷ v) fit most =
    let p = and_parts (is_byte x) (list_all is_byte v) fit in
    step_ok room (byte_spelling x ++ bytes_spelling v) x (bytes_spelling v) (byte_again x (bytes_spelling v) (ltb-true x 256 p.0))
    ∙ ap (with_bytes (x ∷ [])) (bytes_again room v p.1 (omega arith))

-- pieces
pub record PieceTaken (bs v : List ℕ) : Type 0 where
  pub same : bs ≡ token v
  pub fits : IsPiece v

taken_piece : (b : ℕ) (bs v : List ℕ) → BytesTaken piece_limit (b ∷ bs) v → PieceTaken (b ∷ bs) v
taken_piece b bs [] t = cc t.same
taken_piece b bs (x ∷ v) t = record { same = t.same; fits = (t.fit, omega arith, t.most) }

pub piece_takes : (bs v : List ℕ) → piece_at bs ≡ Ok v → PieceTaken bs v
piece_takes [] v e = cc e
piece_takes (b ∷ bs) v e = taken_piece b bs v (bytes_takes piece_limit (b ∷ bs) v e)

pub piece_cons : (bs : List ℕ) → 0 < length bs → piece_at bs ≡ bytes_at piece_limit bs
piece_cons [] some = absurd (omega arith)
piece_cons (b ∷ bs) some = refl

pub byte_some : (bs : List ℕ) (r : ℕ × List ℕ) → byte_at bs ≡ Ok r → 0 < length bs
byte_some [] r e = cc e
byte_some (b ∷ bs) r e = omega arith

pub piece_again : (v : List ℕ) → IsPiece v → piece_at (token v) ≡ Ok v
piece_again [] fits = absurd (let h = fits.1 in omega arith)
piece_again (x ∷ v) fits =
    let p = and_parts (is_byte x) (list_all is_byte v) fits.0 in
    let read = byte_again x (bytes_spelling v) (ltb-true x 256 p.0) in
    piece_cons (byte_spelling x ++ bytes_spelling v) (byte_some (byte_spelling x ++ bytes_spelling v) (x, bytes_spelling v) read)
    ∙ bytes_again piece_limit (x ∷ v) fits.0 fits.2

pub last_piece_takes : {X P : Type 0} (value : List ℕ → X) (bs : List ℕ) (x : X) → last_piece_then value bs ≡ Ok x → ((v : List ℕ) → PieceTaken bs v → x ≡ value v → P) → P
last_piece_takes value bs x e k =
    bind_then (piece_at bs) (λ v. Ok (value v)) x e (λ v is e. k v (piece_takes bs v is) (sym (ok_value (value v) x e)))

pub end_piece : {X : Type 0} (value : List ℕ → X) (v : List ℕ) → IsPiece v → last_piece_then value (token v) ≡ Ok (value v)
end_piece value v fits = ap (λ (r : Result (List ℕ) ℕ). r >>= (λ v. Ok (value v))) (piece_again v fits)

-- read byte by byte
front_first : (xs : List ℕ) (x : ℕ) (r : Result (List ℕ) ℕ) → with_bytes xs (with_bytes (x ∷ []) r) ≡ with_bytes (xs ++ x ∷ []) r
front_first xs x (Ok v) = ap (λ (q : List ℕ). Ok q) (sym (append_assoc xs (x ∷ []) v))
front_first xs x (Err left) = refl

pub piece_more : (room : ℕ) (bs xs : List ℕ) (x : ℕ) (rest : List ℕ) → 0 < room → byte_at bs ≡ Ok (x, rest)
    → with_bytes xs (bytes_at room bs) ≡ with_bytes (xs ++ x ∷ []) (bytes_at (room - 1) rest)
piece_more zero bs xs x rest some e = absurd (omega arith)
piece_more (suc room) bs xs x rest some e =
    let less : suc room - 1 ≡ room = omega arith in
    ap (with_bytes xs) (step_ok room bs x rest e) ∙ front_first xs x (bytes_at room rest) ∙ ap (λ (n : ℕ). with_bytes (xs ++ x ∷ []) (bytes_at n rest)) (sym less)

pub piece_full : (bs xs : List ℕ) → 0 < length bs → with_bytes xs (bytes_at 0 bs) ≡ Err (length bs)
piece_full [] xs some = absurd (omega arith)
piece_full (b ∷ bs) xs some = refl

pub piece_end : (room : ℕ) (bs xs : List ℕ) → length bs ≡ 0 → with_bytes xs (bytes_at room bs) ≡ Ok xs
piece_end room [] xs none = ap (with_bytes xs) (nothing_left room) ∙ ap (λ (q : List ℕ). Ok q) (append-nil xs)
piece_end room (b ∷ bs) xs none = absurd (omega arith)

piece_bad : (room : ℕ) (bs xs : List ℕ) (left : ℕ) → 0 < room → 0 < length bs → byte_at bs ≡ Err left → with_bytes xs (bytes_at room bs) ≡ Err left
piece_bad zero bs xs left room_left some e = absurd (omega arith)
piece_bad (suc room) bs xs left room_left some e = ap (with_bytes xs) (step_err room bs left some e)

pub piece_stops : (left room : ℕ) (bs xs : List ℕ) (all : Result (List ℕ) ℕ) → 0 < room → 0 < length bs
    → byte_at bs ≡ Err left → with_bytes xs (bytes_at room bs) ≡ all → all ≡ Err left
piece_stops left room bs xs all room_left some e is = sym is ∙ piece_bad room bs xs left room_left some e

pub piece_some : (bs v : List ℕ) → bytes_at piece_limit bs ≡ Ok v → 1 ≤ length v → piece_at bs ≡ Ok v
piece_some [] v e some = absurd (let h = ap length (ok_value [] v (sym (nothing_left piece_limit) ∙ e)) in omega arith)
piece_some (b ∷ bs) v e some = e

pub piece_none : (bs v : List ℕ) → bytes_at piece_limit bs ≡ Ok v → ((1 ≤ length v) × (length v ≤ piece_limit) → ⊥) → length v ≤ piece_limit → piece_at bs ≡ Err 0
piece_none [] v e none most = refl
piece_none (b ∷ bs) [] e none most = cc (bytes_takes piece_limit (b ∷ bs) [] e).same
piece_none (b ∷ bs) (x ∷ v) e none most = absurd (none (omega arith, most))
