-- The joined values of the parts of a text are its expansion.
use Rattle.std.proofs.Common.{◌≡◌, ◌+◌, ◌-◌, ℕ, List, [], ◌∷◌, ◌++◌, Bool, true, false, refl, ◌∙◌, ap, sym, append_assoc, append-nil, length-append, arith}
use Rattle.std.proofs.lemmas.Str.{length-encode}
use Rattle.std.specs.Prelude.{◌==◌, Option, Some, None, Result, Ok, Err, encode_utf8, encode_utf8_all, if◌then◌else◌}
use Rattle.std.specs.Char.{len_utf8}
use Rattle.std.specs.Str.{chars}
use Rattle.sv_expand.specs.Cuts.{Part, written, written_all, is_name, IsPart, AreParts, value, joined, values, name_in}
use Rattle.sv_expand.specs.Cuts.Part.{Plain, Percent, Value, Number, Spaced, Zeroed}
use Rattle.sv_expand.proofs.Sizes.{size, size_append, size_cons, size_form}
use Rattle.sv_expand.specs.Results.{and_then}
use Rattle.sv_expand.specs.Expansion.{Reached, after_all, closed, with_value, text_told, number_told, is_width, expansion_of, at_start}
use Rattle.sv_expand.specs.declared.fault.ExpandFault.{ExpandFault}
use Rattle.sv_expand.specs.declared.fault.ExpandFault.TheVariants.{BadForm, Unknown}
use Rattle.std.proofs.lemmas.Bool.Decides.{nat_tests}
use Rattle.sv_expand.specs.declared.names.Names.{Names}
use Rattle.sv_expand.specs.declared.expanding.ExpansionProgress.{ExpansionProgress}
use Rattle.sv_expand.specs.declared.expanding.ExpansionProgress.TheVariants as place

abbrev pub reached : List ℕ → List ℕ → ℕ → ExpansionProgress → Reached
reached told name start at = record { told = told; name = name; start = start; place = at }

-- what the rest of a text gives
abbrev pub gives : Names → ℕ → List ℕ → Reached → Result (List ℕ) ExpandFault
gives names at cs reached = and_then (after_all names at cs reached) closed

plain : (names : Names) (at c : ℕ) (cs told name : List ℕ) (start : ℕ) → (c == 37) ≡ false
    → gives names at (c ∷ cs) (reached told name start place.Plain) ≡ gives names (at + len_utf8 c) cs (reached (told ++ encode_utf8 c) name start place.Plain)
plain names at c cs told name start e =
    ap (λ (b : Bool). and_then (and_then (if b then Ok (reached told [] at place.Percent) else Ok (reached (told ++ encode_utf8 c) name start place.Plain)) (λ next. after_all names (at + len_utf8 c) cs next)) closed) e

abbrev passed : ℕ → List ℕ → ℕ
passed at [] = at
passed at (c ∷ cs) = passed (at + len_utf8 c) cs

passed_is : (at : ℕ) (cs : List ℕ) → passed at cs ≡ at + size cs
passed_is at [] = omega arith
passed_is at (c ∷ cs) = omega (arith, passed_is (at + len_utf8 c) cs, length-encode c, length-append (encode_utf8 c) (encode_utf8_all cs))

pub kept : (b x : Bool) → (if b then false else x) ≡ true → (b ≡ false) × (x ≡ true)
kept false x e = (refl, e)
kept true x e = cc

-- a name is read to its bracket
named : (names : Names) (at : ℕ) (n cs told name : List ℕ) (start : ℕ) → is_name n ≡ true
    → gives names at (n ++ 41 ∷ cs) (reached told name start place.Name) ≡ gives names (passed at n + 1) cs (reached told (name ++ encode_utf8_all n) start place.AfterName)
named names at [] cs told name start e = rw append-nil refl
named names at (c ∷ n) cs told name start e =
    let k = kept (c == 41) (is_name n) e in
    ap (λ (b : Bool). and_then (and_then (if b then Ok (reached told name start place.AfterName) else Ok (reached told (name ++ encode_utf8 c) start place.Name)) (λ next. after_all names (at + len_utf8 c) (n ++ 41 ∷ cs) next)) closed) k.0
    ∙ named names (at + len_utf8 c) n cs told (name ++ encode_utf8 c) start k.1
    ∙ rw append_assoc refl

fourth : {A : Type 0} (a b c d : Bool) (v w x y z : A) → a ≡ false → b ≡ false → c ≡ false → d ≡ true
    → (if a then v else if b then w else if c then x else if d then y else z) ≡ y
fourth false false false true v w x y z e f g h = refl
fourth true b c d v w x y z e f g h = cc
fourth false true c d v w x y z e f g h = cc
fourth false false true d v w x y z e f g h = cc
fourth false false false false v w x y z e f g h = cc

pub no_letter : (c : ℕ) → is_width c ≡ true → ((c == 115) ≡ false) × ((c == 100) ≡ false) × ((c == 48) ≡ false)
no_letter c e = (grind (arith, nat_tests), grind (arith, nat_tests), grind (arith, nat_tests))

-- after a form's letter, where its name has this value
abbrev ends : Names → ℕ → List ℕ → List ℕ → List ℕ → ℕ → ExpansionProgress → Option (List ℕ) → Result (List ℕ) ExpandFault
ends names at cs told name start at_place o =
    and_then (and_then (with_value o (reached told name start at_place)) (λ next. after_all names at cs next)) closed

spaced : (names : Names) (at digit : ℕ) (cs told name : List ℕ) (start : ℕ) → is_width digit ≡ true
    → gives names at (digit ∷ cs) (reached told name start place.AfterName) ≡ gives names (at + len_utf8 digit) cs (reached told name start (place.Wide 32 (digit - 48)))
spaced names at digit cs told name start e =
    let no = no_letter digit e in
    let r = reached told name start place.AfterName in
    ap (λ (next : Result Reached ExpandFault). and_then (and_then next (λ next. after_all names (at + len_utf8 digit) cs next)) closed)
    (fourth (digit == 115) (digit == 100) (digit == 48) (is_width digit) (with_value (text_told names name) r) (with_value (number_told names 32 0 name) r)
    (Ok (reached told name start place.Zero)) (Ok (reached told name start (place.Wide 32 (digit - 48)))) (Err (BadForm start)) no.0 no.1 no.2 e)

zeroed : (names : Names) (at digit : ℕ) (cs told name : List ℕ) (start : ℕ) → is_width digit ≡ true
    → gives names at (48 ∷ digit ∷ cs) (reached told name start place.AfterName) ≡ gives names (at + 1 + len_utf8 digit) cs (reached told name start (place.Wide 48 (digit - 48)))
zeroed names at digit cs told name start e =
    ap (λ (b : Bool). and_then (and_then (if b then Ok (reached told name start (place.Wide 48 (digit - 48))) else Err (BadForm start)) (λ next. after_all names (at + 1 + len_utf8 digit) cs next)) closed) e

-- where a form is read, its name's value is told
record Ends (names : Names) (from : Result (List ℕ) ExpandFault) (there : ℕ) (cs told name : List ℕ) (start : ℕ) (o : Option (List ℕ)) : Type 0 where
  at : ℕ
  at_place : ExpansionProgress
  same : from ≡ ends names at cs told name start at_place o
  at_is : at ≡ there

opened : (names : Names) (at : ℕ) (n form cs told name : List ℕ) (start : ℕ) → is_name n ≡ true
    → gives names at (37 ∷ 40 ∷ ((n ++ 41 ∷ form) ++ cs)) (reached told name start place.Plain) ≡ gives names (passed (at + 1 + 1) n + 1) (form ++ cs) (reached told (encode_utf8_all n) at place.AfterName)
opened names at n form cs told name start e =
    ap (λ (rest : List ℕ). gives names (at + 1 + 1) rest (reached told [] at place.Name)) (append_assoc n (41 ∷ form) cs)
    ∙ named names (at + 1 + 1) n (form ++ cs) told [] at e

abbrev IsForm : Part → Type 0
IsForm (Plain c) = ⊥
IsForm Percent = ⊥
IsForm part = Unit {0}

form_ends : (names : Names) (part : Part) (at : ℕ) (cs told name : List ℕ) (start : ℕ) → IsForm part → IsPart part
    → Ends names (gives names at (written part ++ cs) (reached told name start place.Plain)) (at + size (written part)) cs told (name_in part) at (value names part)
form_ends names (Plain c) at cs told name start form is = absurd form
form_ends names Percent at cs told name start form is = absurd form
form_ends names (Value n) at cs told name start form is =
    record {
      at = passed (at + 1 + 1) n + 1 + 1;
      at_place = place.AfterName;
      same = opened names at n (115 ∷ []) cs told name start is;
      at_is = omega (arith, passed_is (at + 1 + 1) n, size_form n (115 ∷ []), size_cons 115 1 [] refl);
    }
form_ends names (Number n) at cs told name start form is =
    record {
      at = passed (at + 1 + 1) n + 1 + 1;
      at_place = place.AfterName;
      same = opened names at n (100 ∷ []) cs told name start is;
      at_is = omega (arith, passed_is (at + 1 + 1) n, size_form n (100 ∷ []), size_cons 100 1 [] refl);
    }
form_ends names (Spaced n digit) at cs told name start form is =
    let p = passed (at + 1 + 1) n + 1 in
    record {
      at = p + len_utf8 digit + 1;
      at_place = place.Wide 32 (digit - 48);
      same = opened names at n (digit ∷ 100 ∷ []) cs told name start is.0 ∙ spaced names p digit (100 ∷ cs) told (encode_utf8_all n) at is.1;
      at_is = omega (arith, passed_is (at + 1 + 1) n, size_form n (digit ∷ 100 ∷ []), size_cons digit (len_utf8 digit) (100 ∷ []) refl, size_cons 100 1 [] refl);
    }
form_ends names (Zeroed n digit) at cs told name start form is =
    let p = passed (at + 1 + 1) n + 1 in
    record {
      at = p + 1 + len_utf8 digit + 1;
      at_place = place.Wide 48 (digit - 48);
      same = opened names at n (48 ∷ digit ∷ 100 ∷ []) cs told name start is.0 ∙ zeroed names p digit (100 ∷ cs) told (encode_utf8_all n) at is.1;
      at_is = omega (arith, passed_is (at + 1 + 1) n, size_form n (48 ∷ digit ∷ 100 ∷ []), size_cons 48 1 (digit ∷ 100 ∷ []) refl, size_cons digit (len_utf8 digit) (100 ∷ []) refl, size_cons 100 1 [] refl);
    }

-- where a part is read, its value is told
pub record Told (names : Names) (from : Result (List ℕ) ExpandFault) (there : ℕ) (cs told : List ℕ) : Type 0 where
  pub at : ℕ
  pub name : List ℕ
  pub start : ℕ
  pub same : from ≡ gives names at cs (reached told name start place.Plain)
  pub at_is : at ≡ there

form_told : (names : Names) (from : Result (List ℕ) ExpandFault) (there : ℕ) (cs told name : List ℕ) (start : ℕ) (o : Option (List ℕ)) (x : List ℕ)
    → Ends names from there cs told name start o → o ≡ Some x → Told names from there cs (told ++ x)
form_told names from there cs told name start o x form e =
    record { at = form.at; name = name; start = start; same = form.same ∙ ap (λ o. ends names form.at cs told name start form.at_place o) e; at_is = form.at_is }

pub part_told : (names : Names) (part : Part) (at : ℕ) (cs told name : List ℕ) (start : ℕ) (x : List ℕ) → IsPart part → value names part ≡ Some x
    → Told names (gives names at (written part ++ cs) (reached told name start place.Plain)) (at + size (written part)) cs (told ++ x)
part_told names (Plain c) at cs told name start x is e =
    let same : encode_utf8 c ≡ x = cc in
    record {
      at = at + len_utf8 c;
      name = name;
      start = start;
      same = plain names at c cs told name start is ∙ rw same refl;
      at_is = omega (arith, length-encode c, length-append (encode_utf8 c) []);
    }
part_told names Percent at cs told name start x is e =
    let same : encode_utf8 37 ≡ x = cc in
    record {
      at = at + 1 + 1;
      name = [];
      start = at;
      same = ap (λ (v : List ℕ). gives names (at + 1 + 1) cs (reached (told ++ v) [] at place.Plain)) same;
      at_is = omega (arith, size_cons 37 1 (37 ∷ []) refl, size_cons 37 1 [] refl);
    }
part_told names part at cs told name start x is e =
    form_told names (gives names at (written part ++ cs) (reached told name start place.Plain)) (at + size (written part)) cs told (name_in part) at
    (value names part) x (form_ends names part at cs told name start tt is) e

pub part_unknown : (names : Names) (part : Part) (at : ℕ) (cs told name : List ℕ) (start : ℕ) → IsPart part → value names part ≡ None
    → gives names at (written part ++ cs) (reached told name start place.Plain) ≡ Err (Unknown (name_in part))
part_unknown names (Plain c) at cs told name start is e = cc
part_unknown names Percent at cs told name start is e = cc
part_unknown names part at cs told name start is e =
    let form = form_ends names part at cs told name start tt is in
    form.same ∙ ap (λ o. ends names form.at cs told (name_in part) at form.at_place o) e

pub record Joins (one other : Option (List ℕ)) (whole : List ℕ) : Type 0 where
  pub front : List ℕ
  pub back : List ℕ
  pub is_front : one ≡ Some front
  pub is_back : other ≡ Some back
  pub same : front ++ back ≡ whole

pub joins : (one other : Option (List ℕ)) (whole : List ℕ) → joined one other ≡ Some whole → Joins one other whole
joins (Some x) (Some y) whole e = record { front = x; back = y; is_front = refl; is_back = refl; same = cc }
joins (Some x) None whole e = cc
joins None other whole e = cc

-- where parts with values are read, these are told
pub parts_told : (names : Names) (parts : List Part) (at : ℕ) (rest told name : List ℕ) (start : ℕ) (whole : List ℕ) → AreParts parts
    → values names parts ≡ Some whole
    → Told names (gives names at (written_all parts ++ rest) (reached told name start place.Plain)) (at + size (written_all parts)) rest (told ++ whole)
parts_told names [] at rest told name start whole are e =
    let same : [] ≡ whole = cc in
    record { at = at; name = name; start = start; same = rw (← same, append-nil) refl; at_is = omega arith }
parts_told names (part ∷ parts) at rest told name start whole are e =
    let j = joins (value names part) (values names parts) whole e in
    let step = part_told names part at (written_all parts ++ rest) told name start j.front are.0 j.is_front in
    let back = parts_told names parts step.at rest (told ++ j.front) step.name step.start j.back are.1 j.is_back in
    record {
      at = back.at;
      name = back.name;
      start = back.start;
      same = ap (λ cs. gives names at cs (reached told name start place.Plain)) (append_assoc (written part) (written_all parts) rest)
          ∙ step.same ∙ back.same
          ∙ ap (λ bs. gives names back.at rest (reached bs back.name back.start place.Plain)) (append_assoc told j.front j.back ∙ ap (λ bs. told ++ bs) j.same);
      at_is = omega (arith, step.at_is, back.at_is, size_append (written part) (written_all parts));
    }

-- a text's parts tell its expansion
pub one_expansion : (names : Names) (text : List ℕ) (parts : List Part) (whole : List ℕ) → chars text ≡ written_all parts → AreParts parts
    → values names parts ≡ Some whole → expansion_of names text ≡ Ok whole
one_expansion names text parts whole cut are e =
    ap (λ (cs : List ℕ). gives names 0 cs at_start) (cut ∙ sym (append-nil (written_all parts)))
    ∙ (parts_told names parts 0 [] [] [] 0 whole are e).same
