-- One of some bytes: what was read of it is its spelling, each spelling of one is read again, and a reader of one stops at the
-- first byte with which no spelling of one goes on.
use Rattle.std.proofs.Common.{◌≡◌, ℕ, suc, ◌+◌, ◌*◌, ◌/◌, ◌%◌, ◌<◌, Bool, true, false, not, cond, ◌&&◌, eqb, leb, ◌⊎◌, List, [], ◌∷◌, ◌++◌, length, Result, Ok, Err, inl, inr, refl, sym, ap, ◌∙◌, subst, arith}
use Rattle.std.proofs.lemmas.Bool.{cases_Bool, and_parts, and_from, eqb-true, not-true, not_from_false}
use Rattle.sv_journal.specs.Spelling.{stands_for_itself, hex_digit, byte_spelling}
use Rattle.sv_journal.specs.Tokens.{is_hex, hex_value}
use Rattle.sv_journal.specs.Escapes.{is_escape, begins_escape, is_first_of, is_second_of, second_digit_of, escape_of, byte_of}
use Rattle.sv_journal.specs.Reading.{◌>>=◌}
use Rattle.sv_journal.proofs.Results.{ok_pair, never}
use Rattle.sv_journal.proofs.Sharp.{err_value, cons_head}
use Rattle.sv_journal.proofs.SharpToken.{escaped, choose_false}
use Rattle.sv_journal.proofs.TokenLaws.{chosen, choose_true, pick, hex_below, hex_again, itself_small, spelled_itself, spelled_escaped, digit_is_hex, value_of_digit, first_of_again, closed_there}

-- the escape of a byte is read as it
pub escape_read : (comes : ℕ → Bool) (b : ℕ) (y : List ℕ) → b < 256 → is_escape comes b ≡ true → escape_of comes (hex_digit (b / 16) ∷ hex_digit (b % 16) ∷ y) ≡ Ok (b, y)
escape_read comes b y small e =
    let top : b / 16 < 16 = omega arith in
    let low : b % 16 < 16 = omega arith in
    let whole : 16 * (b / 16) + b % 16 ≡ b = omega arith in
    let value : 16 * (b / 16) + hex_value (hex_digit (b % 16)) ≡ b = ap (λ (x : ℕ). 16 * (b / 16) + x) (value_of_digit (b % 16) low) ∙ whole in
    let second : is_second_of comes (b / 16) (hex_digit (b % 16)) ≡ true =
    and_from (is_hex (hex_digit (b % 16))) (is_escape comes (16 * (b / 16) + hex_value (hex_digit (b % 16)))) (digit_is_hex (b % 16) low) (ap (is_escape comes) value ∙ e) in
    ap (λ (r : Result (ℕ × List ℕ) ℕ). r >>= (λ f. second_digit_of comes f.0 f.1))
    (choose_true (is_first_of comes (hex_digit (b / 16))) (Ok (hex_value (hex_digit (b / 16)), hex_digit (b % 16) ∷ y)) (Err (suc (length (hex_digit (b % 16) ∷ y)))) (first_of_again comes b small e))
    ∙ ap (λ (h : ℕ). second_digit_of comes h (hex_digit (b % 16) ∷ y)) (value_of_digit (b / 16) top)
    ∙ choose_true (is_second_of comes (b / 16) (hex_digit (b % 16))) (Ok (16 * (b / 16) + hex_value (hex_digit (b % 16)), y)) (Err (suc (length y))) second
    ∙ ap (λ (x : ℕ). Ok (x, y)) value

-- the spelling of a byte is read as it
pub byte_again : (comes : ℕ → Bool) (b : ℕ) (y : List ℕ) → b < 256 → comes b ≡ true → byte_of comes (byte_spelling b ++ y) ≡ Ok (b, y)
byte_again comes b y small good = elim (cases_Bool (stands_for_itself b)) [
  | inl s ↦
      let p = and_parts (leb 33 b && leb b 126) (not (eqb b 37)) s in
      ap (λ (l : List ℕ). byte_of comes (l ++ y)) (spelled_itself b s)
      ∙ pick (eqb b 37) (stands_for_itself b) (comes b) (escape_of comes y) (Ok (b, y)) (Err (suc (length y))) (not-true (eqb b 37) p.1) s good
  | inr s ↦
      ap (λ (l : List ℕ). byte_of comes (l ++ y)) (spelled_escaped b s)
      ∙ escape_read comes b y small (and_from (comes b) (not (stands_for_itself b)) good (not_from_false (stands_for_itself b) s))
]

pub record OneTaken (comes : ℕ → Bool) (bs : List ℕ) (x : ℕ) (rest : List ℕ) : Type 0 where
  pub same : bs ≡ byte_spelling x ++ rest
  pub small : x < 256
  pub good : comes x ≡ true

bind_cond : {A B : Type 0} (t : Bool) (x : A) (l : ℕ) (f : A → Result B ℕ) (y : B) → (cond t (Ok x) (Err l) >>= f) ≡ Ok y → (t ≡ true) × (f x ≡ Ok y)
bind_cond true x l f y e = (refl, e)
bind_cond false x l f y e = cc e

-- two digits of which the first is this one
second_takes : (comes : ℕ → Bool) (d : ℕ) (bs : List ℕ) (x : ℕ) (rest : List ℕ) → is_first_of comes d ≡ true → second_digit_of comes (hex_value d) bs ≡ Ok (x, rest) → OneTaken comes (37 ∷ d ∷ bs) x rest
second_takes comes d [] x rest f e = cc e
second_takes comes d (k ∷ bs) x rest f e = elim (chosen (is_second_of comes (hex_value d) k) _ _ _ e) [
  | inl p ↦
      let g = and_parts (is_hex d) (begins_escape comes (hex_value d)) f in
      let h = and_parts (is_hex k) (is_escape comes (16 * hex_value d + hex_value k)) p.0 in
      let b = 16 * hex_value d + hex_value k in
      let s = and_parts (comes b) (not (stands_for_itself b)) h.1 in
      let low = hex_below k h.0 in
      let high = hex_below d g.0 in
      let top : b / 16 ≡ hex_value d = omega arith in
      let bottom : b % 16 ≡ hex_value k = omega arith in
      let is = ok_pair b x bs rest p.1 in
      let spelled : byte_spelling b ≡ 37 ∷ d ∷ k ∷ [] =
      spelled_escaped b (not-true (stands_for_itself b) s.1)
      ∙ ap (λ (y : ℕ). 37 ∷ y ∷ hex_digit (b % 16) ∷ []) (ap hex_digit top ∙ hex_again d g.0)
      ∙ ap (λ (y : ℕ). 37 ∷ d ∷ y ∷ []) (ap hex_digit bottom ∙ hex_again k h.0) in
      record {
        same = ap (λ (l : List ℕ). 37 ∷ d ∷ k ∷ l) is.1 ∙ ap (λ (l : List ℕ). l ++ rest) (sym spelled) ∙ ap (λ (y : ℕ). byte_spelling y ++ rest) is.0;
        small = subst (λ (y : ℕ). y < 256) is.0 (omega arith);
        good = subst (λ (y : ℕ). comes y ≡ true) is.0 s.0;
      }
  | inr p ↦ cc p.1
]

escape_takes : (comes : ℕ → Bool) (bs : List ℕ) (x : ℕ) (rest : List ℕ) → escape_of comes bs ≡ Ok (x, rest) → OneTaken comes (37 ∷ bs) x rest
escape_takes comes [] x rest e = cc e
escape_takes comes (d ∷ bs) x rest e =
    let p = bind_cond (is_first_of comes d) (hex_value d, bs) (suc (length bs)) (λ f. second_digit_of comes f.0 f.1) (x, rest) e in
    second_takes comes d bs x rest p.0 p.1

pub byte_takes : (comes : ℕ → Bool) (bs : List ℕ) (x : ℕ) (rest : List ℕ) → byte_of comes bs ≡ Ok (x, rest) → OneTaken comes bs x rest
byte_takes comes [] x rest e = cc e
byte_takes comes (b ∷ bs) x rest e = elim (chosen (eqb b 37) _ _ _ e) [
  | inl p ↦ subst (λ (y : ℕ). OneTaken comes (y ∷ bs) x rest) (sym (eqb-true b 37 p.0)) (escape_takes comes bs x rest p.1)
  | inr p ↦ elim (chosen (stands_for_itself b && comes b) _ _ _ p.1) [
    | inl q ↦
        let s = and_parts (stands_for_itself b) (comes b) q.0 in
        let is = ok_pair b x bs rest q.1 in
        record {
          same = ap (λ (l : List ℕ). l ++ bs) (sym (spelled_itself b s.0)) ∙ ap (λ (y : ℕ). byte_spelling y ++ bs) is.0 ∙ ap (λ (l : List ℕ). byte_spelling x ++ l) is.1;
          small = subst (λ (y : ℕ). y < 256) is.0 (let h = itself_small b s.0 in omega arith);
          good = subst (λ (y : ℕ). comes y ≡ true) is.0 s.1;
        }
    | inr q ↦ cc q.1
  ]
]

-- one of these bytes is an escape
pub record SomeEscape (comes : ℕ → Bool) : Type 0 where
  pub b : ℕ
  pub small : b < 256
  pub good : is_escape comes b ≡ true

-- where the reader of a byte stops
pub record OneCut (comes : ℕ → Bool) (bs : List ℕ) (left : ℕ) : Type 0 where
  pub front : List ℕ
  pub bad : List ℕ
  pub parts : bs ≡ front ++ bad
  pub size : left ≡ length bad
  pub local : (b : ℕ) (more other : List ℕ) → bad ≡ b ∷ more → byte_of comes (front ++ b ∷ other) ≡ Err (suc (length other))
  pub tail : List ℕ
  pub x : ℕ
  pub small : x < 256
  pub good : comes x ≡ true
  pub whole : front ++ tail ≡ byte_spelling x

bind_cond_err : {A B : Type 0} (t : Bool) (x : A) (l : ℕ) (f : A → Result B ℕ) (left : ℕ) → (cond t (Ok x) (Err l) >>= f) ≡ Err left → ((t ≡ true) × (f x ≡ Err left)) ⊎ ((t ≡ false) × (l ≡ left))
bind_cond_err true x l f left e = inl (refl, e)
bind_cond_err false x l f left e = inr (refl, err_value l left e)

-- what follows the first digit of an escape
behind_first : (comes : ℕ → Bool) (d : ℕ) (y : List ℕ) → is_first_of comes d ≡ true → byte_of comes (37 ∷ d ∷ y) ≡ second_digit_of comes (hex_value d) y
behind_first comes d y f =
    ap (λ (r : Result (ℕ × List ℕ) ℕ). r >>= (λ f. second_digit_of comes f.0 f.1)) (choose_true (is_first_of comes d) (Ok (hex_value d, y)) (Err (suc (length y))) f)

-- how an escape with this first digit ends
record Ended (comes : ℕ → Bool) (d : ℕ) : Type 0 where
  k : ℕ
  x : ℕ
  small : x < 256
  good : comes x ≡ true
  whole : 37 ∷ d ∷ k ∷ [] ≡ byte_spelling x

ended : (comes : ℕ → Bool) (d : ℕ) → is_first_of comes d ≡ true → Ended comes d
ended comes d f =
    let h = and_parts (is_hex d) (begins_escape comes (hex_value d)) f in
    let b = escaped comes (hex_value d) (hex_below d h.0) h.1 in
    let s = and_parts (comes b.b) (not (stands_for_itself b.b)) b.good in
    let digit : d ≡ hex_digit (b.b / 16) = sym (ap hex_digit b.begins ∙ hex_again d h.0) in
    record {
      k = hex_digit (b.b % 16);
      x = b.b;
      small = b.small;
      good = s.0;
      whole = ap (λ (y : ℕ). 37 ∷ y ∷ hex_digit (b.b % 16) ∷ []) digit ∙ sym (spelled_escaped b.b (not-true (stands_for_itself b.b) s.1));
    }

second_cut : (comes : ℕ → Bool) (d : ℕ) (bs : List ℕ) (left : ℕ) → is_first_of comes d ≡ true → second_digit_of comes (hex_value d) bs ≡ Err left → OneCut comes (37 ∷ d ∷ bs) left
second_cut comes d [] left f e =
    let c = ended comes d f in
    record { front = 37 ∷ d ∷ []; bad = []; parts = refl; size = sym (err_value 0 left e); local = λ b more other q. cc q; tail = c.k ∷ []; x = c.x; small = c.small; good = c.good; whole = c.whole }
second_cut comes d (k ∷ bs) left f e = elim (chosen (is_second_of comes (hex_value d) k) _ _ _ e) [
  | inl p ↦ absurd (never left _ (sym p.1))
  | inr p ↦
      let c = ended comes d f in
      record {
        front = 37 ∷ d ∷ [];
        bad = k ∷ bs;
        parts = refl;
        size = sym (err_value (suc (length bs)) left p.1);
        local = λ b more other q.
            ap (λ (y : ℕ). byte_of comes (37 ∷ d ∷ y ∷ other)) (sym (cons_head k b bs more q)) ∙ behind_first comes d (k ∷ other) f
            ∙ choose_false (is_second_of comes (hex_value d) k) _ _ p.0;
        tail = c.k ∷ [];
        x = c.x;
        small = c.small;
        good = c.good;
        whole = c.whole;
      }
]

record Whole (comes : ℕ → Bool) : Type 0 where
  tail : List ℕ
  x : ℕ
  small : x < 256
  good : comes x ≡ true
  whole : 37 ∷ tail ≡ byte_spelling x

whole_escape : (comes : ℕ → Bool) → SomeEscape comes → Whole comes
whole_escape comes w =
    let s = and_parts (comes w.b) (not (stands_for_itself w.b)) w.good in
    record {
      tail = hex_digit (w.b / 16) ∷ hex_digit (w.b % 16) ∷ [];
      x = w.b;
      small = w.small;
      good = s.0;
      whole = sym (spelled_escaped w.b (not-true (stands_for_itself w.b) s.1));
    }

escape_cut : (comes : ℕ → Bool) → SomeEscape comes → (bs : List ℕ) (left : ℕ) → escape_of comes bs ≡ Err left → OneCut comes (37 ∷ bs) left
escape_cut comes w [] left e =
    let c = whole_escape comes w in
    record { front = 37 ∷ []; bad = []; parts = refl; size = sym (err_value 0 left e); local = λ b more other q. cc q; tail = c.tail; x = c.x; small = c.small; good = c.good; whole = c.whole }
escape_cut comes w (d ∷ bs) left e = elim (bind_cond_err (is_first_of comes d) (hex_value d, bs) (suc (length bs)) (λ f. second_digit_of comes f.0 f.1) left e) [
  | inl p ↦ second_cut comes d bs left p.0 p.1
  | inr p ↦
      let c = whole_escape comes w in
      record {
        front = 37 ∷ [];
        bad = d ∷ bs;
        parts = refl;
        size = sym p.1;
        local = λ b more other q.
            ap (λ (y : ℕ). byte_of comes (37 ∷ y ∷ other)) (sym (cons_head d b bs more q))
            ∙ ap (λ (r : Result (ℕ × List ℕ) ℕ). r >>= (λ f. second_digit_of comes f.0 f.1)) (choose_false (is_first_of comes d) (Ok (hex_value d, other)) (Err (suc (length other))) p.0);
        tail = c.tail;
        x = c.x;
        small = c.small;
        good = c.good;
        whole = c.whole;
      }
]

pub byte_cut : (comes : ℕ → Bool) → SomeEscape comes → (bs : List ℕ) (left : ℕ) → byte_of comes bs ≡ Err left → OneCut comes bs left
byte_cut comes w [] left e =
    let c = whole_escape comes w in
    record { front = []; bad = []; parts = refl; size = sym (err_value 0 left e); local = λ b more other q. cc q; tail = 37 ∷ c.tail; x = c.x; small = c.small; good = c.good; whole = c.whole }
byte_cut comes w (b ∷ bs) left e = elim (chosen (eqb b 37) _ _ _ e) [
  | inl p ↦ subst (λ (y : ℕ). OneCut comes (y ∷ bs) left) (sym (eqb-true b 37 p.0)) (escape_cut comes w bs left p.1)
  | inr p ↦ elim (chosen (stands_for_itself b && comes b) _ _ _ p.1) [
    | inl q ↦ absurd (never left (b, bs) (sym q.1))
    | inr q ↦
        let c = whole_escape comes w in
        record {
          front = [];
          bad = b ∷ bs;
          parts = refl;
          size = sym (err_value (suc (length bs)) left q.1);
          local = λ c more other is.
              ap (λ (y : ℕ). byte_of comes (y ∷ other)) (sym (cons_head b c bs more is))
              ∙ closed_there (eqb b 37) (stands_for_itself b && comes b) (escape_of comes other) (Ok (b, other)) (Err (suc (length other))) p.0 q.0;
          tail = 37 ∷ c.tail;
          x = c.x;
          small = c.small;
          good = c.good;
          whole = c.whole;
        }
  ]
]
