-- A reader of exit codes stops at the first byte with which no good text goes on.
use Rattle.std.proofs.Common.{◌≡◌, ℕ, suc, ◌+◌, ◌*◌, ◌-◌, ◌<◌, Bool, true, false, cond, ◌&&◌, eqb, ltb, leb, List, [], ◌∷◌, ◌++◌, length, get_or, Result, Ok, Err, Option, Some, None, inl, inr, refl, sym, ap, ◌∙◌, subst, arith, append_assoc}
use Rattle.std.specs.Fmt.{decimal}
use Rattle.std.specs.Char.{is_ascii_digit}
use Rattle.std.specs.List.{list_all}
use Rattle.std.proofs.lemmas.Bool.{ltb-true, leb-true, le-leb, eqb-true, and_parts, and_from}
use Rattle.std.proofs.lemmas.Fmt.{decimal_digit}
use Rattle.std.proofs.lemmas.List.{append_cancel_right}
use Rattle.sv_journal.specs.JournalLine.{is_exit_code}
use Rattle.sv_journal.specs.Spelling.{comma_list}
use Rattle.sv_journal.specs.Reading.{◌>>=◌, goes_on, codes_from, with_first}
use Rattle.sv_journal.specs.ReadingLines.{codes_then}
use Rattle.sv_journal.proofs.CommaLaws.{read_so_far, FitsSoFar, codes_take, codes_again, ends_codes}
use Rattle.sv_journal.proofs.NumberLaws.{digit_range, one_more}
use Rattle.sv_journal.proofs.Results.{never, ok_pair}
use Rattle.sv_journal.proofs.Sharp.{Failure, Sharp, any, err_value, behind}
use Rattle.sv_journal.proofs.TokenLaws.{chosen, with_first_ok}

record Broken (so_far : Option ℕ) (bs : List ℕ) (left : ℕ) : Type 0 where
  front : List ℕ
  bad : List ℕ
  parts : bs ≡ front ++ bad
  size : left ≡ length bad
  local : (b : ℕ) (more other : List ℕ) → bad ≡ b ∷ more → codes_from so_far (front ++ b ∷ other) ≡ Err (suc (length other))
  tail : List ℕ
  codes : List ℕ
  whole : read_so_far so_far ++ (front ++ tail) ≡ comma_list codes
  some : 0 < length codes
  fits : list_all is_exit_code codes ≡ true

choose_true : {X : Type 0} (t : Bool) (x y : X) → t ≡ true → cond t x y ≡ x
choose_true true x y e = refl
choose_true false x y e = cc e

choose_false : {X : Type 0} (t : Bool) (x y : X) → t ≡ false → cond t x y ≡ y
choose_false false x y e = refl
choose_false true x y e = cc e

with_first_err : (x : ℕ) (r : Result (List ℕ × List ℕ) ℕ) (left : ℕ) → with_first x r ≡ Err left → r ≡ Err left
with_first_err x (Ok r) left e = absurd (never left (x ∷ r.0, r.1) (sym e))
with_first_err x (Err l) left e = ap Err (err_value l left e)

head_of : (a b : ℕ) (xs ys : List ℕ) → a ∷ xs ≡ b ∷ ys → a ≡ b
head_of a b xs ys e = ap (λ (l : List ℕ). get_or l 0 0) e

comma_more : (n : ℕ) (text codes : List ℕ) → 0 < length codes → text ≡ comma_list codes → decimal n ++ 44 ∷ text ≡ comma_list (n ∷ codes)
comma_more n text [] h e = absurd (omega arith)
comma_more n text (m ∷ ms) h e = ap (λ (l : List ℕ). decimal n ++ 44 ∷ l) e

codes_break : (so_far : Option ℕ) (bs : List ℕ) (left : ℕ) → FitsSoFar so_far → codes_from so_far bs ≡ Err left → Broken so_far bs left
codes_break None [] left g e =
    record { front = []; bad = []; parts = refl; size = sym (err_value 0 left e); local = λ b more other q. cc q; tail = decimal 0; codes = 0 ∷ []; whole = refl; some = omega arith; fits = refl }
codes_break None (b ∷ bs) left g e = elim (chosen (is_ascii_digit b) _ _ _ e) [
  | inl p ↦
      let d = digit_range b p.0 in
      let f = codes_break (Some (b - 48)) bs left (omega arith) p.1 in
      let first : decimal (b - 48) ≡ b ∷ [] = decimal_digit (b - 48) (omega arith) ∙ ap (λ (x : ℕ). x ∷ []) (omega arith) in
      let goes : (x : List ℕ) → codes_from None (b ∷ x) ≡ codes_from (Some (b - 48)) x = λ x. choose_true (is_ascii_digit b) _ _ p.0 in
      record {
        front = b ∷ f.front;
        bad = f.bad;
        parts = ap (λ (l : List ℕ). b ∷ l) f.parts;
        size = f.size;
        local = λ x more other q. goes (f.front ++ x ∷ other) ∙ f.local x more other q;
        tail = f.tail;
        codes = f.codes;
        whole = ap (λ (l : List ℕ). l ++ (f.front ++ f.tail)) (sym first) ∙ f.whole;
        some = f.some;
        fits = f.fits;
      }
  | inr p ↦
      let stops : (x : List ℕ) → codes_from None (b ∷ x) ≡ Err (suc (length x)) = λ x. choose_false (is_ascii_digit b) _ _ p.0 in
      record {
        front = [];
        bad = b ∷ bs;
        parts = refl;
        size = sym (err_value (suc (length bs)) left p.1);
        local = λ x more other q. ap (λ (y : ℕ). codes_from None (y ∷ other)) (sym (head_of b x bs more q)) ∙ stops other;
        tail = decimal 0;
        codes = 0 ∷ [];
        whole = refl;
        some = omega arith;
        fits = refl;
      }
]
codes_break (Some n) [] left g e = absurd (never left (n ∷ [], []) (sym e))
codes_break (Some n) (b ∷ bs) left g e = elim (chosen (goes_on 255 n b) _ _ _ e) [
  | inl p ↦
      let q = and_parts (is_ascii_digit b && ltb 0 n) (leb (n * 10 + (b - 48)) 255) p.0 in
      let r = and_parts (is_ascii_digit b) (ltb 0 n) q.0 in
      let d = digit_range b r.0 in
      let most = leb-true (n * 10 + (b - 48)) 255 q.1 in
      let f = codes_break (Some (n * 10 + (b - 48))) bs left most p.1 in
      let goes : (x : List ℕ) → codes_from (Some n) (b ∷ x) ≡ codes_from (Some (n * 10 + (b - 48))) x = λ x. choose_true (goes_on 255 n b) _ _ p.0 in
      record {
        front = b ∷ f.front;
        bad = f.bad;
        parts = ap (λ (l : List ℕ). b ∷ l) f.parts;
        size = f.size;
        local = λ x more other q. goes (f.front ++ x ∷ other) ∙ f.local x more other q;
        tail = f.tail;
        codes = f.codes;
        whole = sym (append_assoc (decimal n) (b ∷ []) (f.front ++ f.tail)) ∙ ap (λ (l : List ℕ). l ++ (f.front ++ f.tail)) (one_more n b (ltb-true 0 n r.1) d.0 d.1 (omega arith)) ∙ f.whole;
        some = f.some;
        fits = f.fits;
      }
  | inr p ↦ elim (chosen (eqb b 44) _ _ _ p.1) [
    | inl q ↦
        let f = codes_break None bs left tt (with_first_err n (codes_from None bs) left q.1) in
        let goes : (x : List ℕ) → codes_from (Some n) (b ∷ x) ≡ with_first n (codes_from None x) = λ x. choose_false (goes_on 255 n b) _ _ p.0 ∙ choose_true (eqb b 44) _ _ q.0 in
        record {
          front = b ∷ f.front;
          bad = f.bad;
          parts = ap (λ (l : List ℕ). b ∷ l) f.parts;
          size = f.size;
          local = λ x more other r. goes (f.front ++ x ∷ other) ∙ ap (with_first n) (f.local x more other r);
          tail = f.tail;
          codes = n ∷ f.codes;
          whole = ap (λ (x : ℕ). decimal n ++ x ∷ (f.front ++ f.tail)) (eqb-true b 44 q.0) ∙ comma_more n (f.front ++ f.tail) f.codes f.some f.whole;
          some = omega arith;
          fits = and_from (is_exit_code n) (list_all is_exit_code f.codes) (le-leb n 255 g) f.fits;
        }
    | inr q ↦ absurd (never left (n ∷ [], b ∷ bs) (sym q.1))
  ]
]

-- the same byte stands next
abbrev SameNext : List ℕ → List ℕ → Type 0
SameNext [] bs = ⊥
SameNext (b ∷ bs) [] = ⊥
SameNext (b ∷ bs) (c ∷ cs) = b ≡ c

same_next : (front : List ℕ) (b : ℕ) (more other : List ℕ) → SameNext (front ++ b ∷ more) (front ++ b ∷ other)
same_next [] b more other = refl
same_next (c ∷ front) b more other = refl

record Used (so_far : Option ℕ) (bs codes rest : List ℕ) : Type 0 where
  used : List ℕ
  parts : bs ≡ used ++ rest
  again : (there : List ℕ) → SameNext rest there → codes_from so_far (used ++ there) ≡ Ok (codes, there)

stopped_at : (n b : ℕ) (bs there : List ℕ) → goes_on 255 n b ≡ false → eqb b 44 ≡ false → SameNext (b ∷ bs) there → codes_from (Some n) there ≡ Ok (n ∷ [], there)
stopped_at n b bs [] e f s = absurd s
stopped_at n b bs (c ∷ there) e f s =
    choose_false (goes_on 255 n c) _ _ (ap (goes_on 255 n) (sym s) ∙ e) ∙ choose_false (eqb c 44) _ _ (ap (λ (x : ℕ). eqb x 44) (sym s) ∙ f)

codes_used : (so_far : Option ℕ) (bs codes rest : List ℕ) → codes_from so_far bs ≡ Ok (codes, rest) → Used so_far bs codes rest
codes_used None [] codes rest e = cc e
codes_used None (b ∷ bs) codes rest e = elim (chosen (is_ascii_digit b) _ _ _ e) [
  | inl p ↦
      let u = codes_used (Some (b - 48)) bs codes rest p.1 in
      let goes : (x : List ℕ) → codes_from None (b ∷ x) ≡ codes_from (Some (b - 48)) x = λ x. choose_true (is_ascii_digit b) _ _ p.0 in
      record { used = b ∷ u.used; parts = ap (λ (l : List ℕ). b ∷ l) u.parts; again = λ there s. goes (u.used ++ there) ∙ u.again there s }
  | inr p ↦ cc p.1
]
codes_used (Some n) [] codes rest e =
    let v = ok_pair (n ∷ []) codes [] rest e in
    record { used = []; parts = v.1; again = λ there s. absurd (subst (λ (l : List ℕ). SameNext l there) (sym v.1) s) }
codes_used (Some n) (b ∷ bs) codes rest e = elim (chosen (goes_on 255 n b) _ _ _ e) [
  | inl p ↦
      let u = codes_used (Some (n * 10 + (b - 48))) bs codes rest p.1 in
      let goes : (x : List ℕ) → codes_from (Some n) (b ∷ x) ≡ codes_from (Some (n * 10 + (b - 48))) x = λ x. choose_true (goes_on 255 n b) _ _ p.0 in
      record { used = b ∷ u.used; parts = ap (λ (l : List ℕ). b ∷ l) u.parts; again = λ there s. goes (u.used ++ there) ∙ u.again there s }
  | inr p ↦ elim (chosen (eqb b 44) _ _ _ p.1) [
    | inl q ↦
        let w = with_first_ok n (codes_from None bs) codes rest q.1 in
        let u = codes_used None bs w.w rest w.read in
        let goes : (x : List ℕ) → codes_from (Some n) (b ∷ x) ≡ with_first n (codes_from None x) = λ x. choose_false (goes_on 255 n b) _ _ p.0 ∙ choose_true (eqb b 44) _ _ q.0 in
        record {
          used = b ∷ u.used;
          parts = ap (λ (l : List ℕ). b ∷ l) u.parts;
          again = λ there s. goes (u.used ++ there) ∙ ap (with_first n) (u.again there s) ∙ ap (λ (l : List ℕ). Ok (l, there)) (sym w.is);
        }
    | inr q ↦
        let v = ok_pair (n ∷ []) codes (b ∷ bs) rest q.1 in
        record {
          used = [];
          parts = v.1;
          again = λ there s. stopped_at n b bs there p.0 q.0 (subst (λ (l : List ℕ). SameNext l there) (sym v.1) s) ∙ ap (λ (l : List ℕ). Ok (l, there)) v.0;
        }
  ]
]

pub sharp_codes : {X : Type 0} (h : List ℕ → List ℕ → Result X ℕ) (P : List ℕ → Bool) → ((x : List ℕ) → P x ≡ true → ends_codes x ≡ true) → ((codes : List ℕ) → Sharp (h codes) P) → Sharp (codes_then h) any
sharp_codes {X} h P end sharp = record {
  sample = comma_list (0 ∷ []) ++ (sharp (0 ∷ [])).sample;
  value = (sharp (0 ∷ [])).value;
  reads = sample_reads (0 ∷ []) (omega arith) refl;
  has = refl;
  fails = λ bs left e. by_codes bs left (codes_from None bs) refl e;
}
  where
    sample_reads : (codes : List ℕ) → 0 < length codes → list_all is_exit_code codes ≡ true → codes_then h (comma_list codes ++ (sharp codes).sample) ≡ Ok (sharp codes).value
    sample_reads codes some fits =
        ap (λ (r : Result (List ℕ × List ℕ) ℕ). r >>= (λ r. h r.0 r.1)) (codes_again codes (sharp codes).sample some fits (end (sharp codes).sample (sharp codes).has)) ∙ (sharp codes).reads

    by_codes : (bs : List ℕ) (left : ℕ) (r : Result (List ℕ × List ℕ) ℕ) → codes_from None bs ≡ r → (r >>= (λ r. h r.0 r.1)) ≡ Err left → Failure (codes_then h) any bs left
    by_codes bs left (Ok r) is e =
        let t = codes_take None bs r.0 r.1 tt is in
        let u = codes_used None bs r.0 r.1 is in
        let same : u.used ≡ comma_list r.0 = append_cancel_right u.used (comma_list r.0) r.1 (sym u.parts ∙ t.same) in
        let f = (sharp r.0).fails r.1 left e in
        behind (codes_then h) (h r.0) any P (comma_list r.0) bs r.1 left t.same f
        (λ x more other q. ap (λ (r : Result (List ℕ × List ℕ) ℕ). r >>= (λ r. h r.0 r.1))
        (ap (λ (l : List ℕ). codes_from None (l ++ (f.front ++ x ∷ other))) (sym same)
        ∙ u.again (f.front ++ x ∷ other) (subst (λ (l : List ℕ). SameNext l (f.front ++ x ∷ other)) (sym (f.parts ∙ ap (λ (l : List ℕ). f.front ++ l) q)) (same_next f.front x more other))))
        (ap (λ (q : Result (List ℕ × List ℕ) ℕ). q >>= (λ r. h r.0 r.1)) (codes_again r.0 (f.front ++ f.tail) t.some t.fits (end (f.front ++ f.tail) f.has))) refl
    by_codes bs left (Err l) is e =
        let b = codes_break None bs left tt (is ∙ ap Err (err_value l left e)) in
        record {
          front = b.front;
          bad = b.bad;
          parts = b.parts;
          size = b.size;
          local = λ x more other q. ap (λ (r : Result (List ℕ × List ℕ) ℕ). r >>= (λ r. h r.0 r.1)) (b.local x more other q);
          tail = b.tail ++ (sharp b.codes).sample;
          value = (sharp b.codes).value;
          completed = ap (codes_then h) (sym (append_assoc b.front b.tail (sharp b.codes).sample) ∙ ap (λ (l : List ℕ). l ++ (sharp b.codes).sample) b.whole) ∙ sample_reads b.codes b.some b.fits;
          has = refl;
        }
