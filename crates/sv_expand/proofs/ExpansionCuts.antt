-- A text has an expansion exactly where it has a cut into parts with values, and its fault is the leftmost.
use Rattle.std.proofs.Common.{◌≡◌, ◌≤◌, ◌+◌, ◌-◌, ◌==◌, ◌⊎◌, ℕ, List, [], ◌∷◌, ◌++◌, length, Bool, true, false, refl, ◌∙◌, ap, sym, subst, inl, inr, append_assoc, append-nil, arith}
use Rattle.std.proofs.lemmas.Str.{encodes-append, length-le-encodes}
use Rattle.std.specs.Prelude.{Option, Some, None, Result, Ok, Err, encode_utf8, encode_utf8_all, if◌then◌else◌}
use Rattle.std.specs.Char.{len_utf8}
use Rattle.std.specs.Str.{chars}
use Rattle.sv_expand.proofs.Choices.{choose, cond_by, eq_true}
use Rattle.sv_expand.proofs.OneExpansion.{reached, gives, kept, part_told, part_unknown, parts_told, joins}
use Rattle.sv_expand.proofs.Sizes.{size, size_append, size_one}
use Rattle.sv_expand.specs.Cuts.{Part, written, written_all, is_name, IsPart, AreParts, value, joined, values, name_in, Expands, BeginsNone, StandsAt, HasFault, IsLeftmost}
use Rattle.sv_expand.specs.Cuts.Part.{Plain, Percent, Value, Number, Spaced, Zeroed}
use Rattle.sv_expand.specs.Results.{and_then}
use Rattle.sv_expand.specs.Expansion.{Reached, after, after_at, after_all, closed, with_value, with_char, with_name, begun, moved, bad_form, text_told, number_told, is_width, expansion_of, at_start, IsFault}
use Rattle.sv_expand.specs.declared.fault.ExpandFault.{ExpandFault}
use Rattle.sv_expand.specs.declared.fault.ExpandFault.TheVariants.{BadForm, Unknown, OutOfMemory}
use Rattle.sv_expand.specs.declared.names.Names.{Names}
use Rattle.sv_expand.specs.declared.expanding.ExpansionProgress.{ExpansionProgress}
use Rattle.sv_expand.specs.declared.expanding.ExpansionProgress.TheVariants as here

-- where a form that is bad stands: no earlier than where the reading goes on

abbrev IsLow : ℕ → ExpansionProgress → ℕ → Type 0
IsLow low here.Plain start = Unit {0}
IsLow low at start = low ≤ start

abbrev LowResult : ℕ → Result Reached ExpandFault → Type 0
LowResult low (Ok r) = IsLow low r.place r.start
LowResult low (Err fault) = (p : ℕ) → fault ≡ BadForm p → low ≤ p

bad_low : (low : ℕ) (r : Reached) → low ≤ r.start → LowResult low (bad_form r)
bad_low low r is = λ p e. let same : r.start ≡ p = cc in omega (arith, same, is)

value_low : (low : ℕ) (o : Option (List ℕ)) (r : Reached) → LowResult low (with_value o r)
value_low low (Some value) r = tt
value_low low None r = λ p e. cc

after_low : (names : Names) (low at c : ℕ) (told name : List ℕ) (start : ℕ) (place : ExpansionProgress) → low ≤ at → IsLow low place start
    → LowResult low (after_at names place at c (reached told name start place))
after_low names low at c told name start here.Plain is from =
    choose (LowResult low) (c == 37) (Ok (begun at (reached told name start here.Plain))) (Ok (with_char c (reached told name start here.Plain))) is tt
after_low names low at c told name start here.Percent is from =
    let r = reached told name start here.Percent in
    choose (LowResult low) (c == 37) (Ok (with_char 37 r)) (if c == 40 then Ok (moved here.Name r) else bad_form r) tt
    (choose (LowResult low) (c == 40) (Ok (moved here.Name r)) (bad_form r) from (bad_low low r from))
after_low names low at c told name start here.Name is from =
    let r = reached told name start here.Name in
    choose (LowResult low) (c == 41) (Ok (moved here.AfterName r)) (Ok (with_name c r)) from from
after_low names low at c told name start here.AfterName is from =
    let r = reached told name start here.AfterName in
    choose (LowResult low) (c == 115) (with_value (text_told names name) r) _ (value_low low (text_told names name) r)
    (choose (LowResult low) (c == 100) (with_value (number_told names 32 0 name) r) _ (value_low low (number_told names 32 0 name) r)
    (choose (LowResult low) (c == 48) (Ok (moved here.Zero r)) _ from
    (choose (LowResult low) (is_width c) (Ok (moved (here.Wide 32 (c - 48)) r)) (bad_form r) from (bad_low low r from))))
after_low names low at c told name start here.Zero is from =
    let r = reached told name start here.Zero in
    choose (LowResult low) (is_width c) (Ok (moved (here.Wide 48 (c - 48)) r)) (bad_form r) from (bad_low low r from)
after_low names low at c told name start (here.Wide filler width) is from =
    let r = reached told name start (here.Wide filler width) in
    choose (LowResult low) (c == 100) (with_value (number_told names filler width name) r) (bad_form r)
    (value_low low (number_told names filler width name) r) (bad_low low r from)

abbrev goes_on : Names → ℕ → List ℕ → Result Reached ExpandFault → Result (List ℕ) ExpandFault
goes_on names at cs res = and_then (and_then res (λ next. after_all names at cs next)) closed

closed_low : (low p : ℕ) (told name : List ℕ) (start : ℕ) (place : ExpansionProgress) → IsLow low place start
    → closed (reached told name start place) ≡ Err (BadForm p) → low ≤ p
closed_low low p told name start here.Plain from e = cc
closed_low low p told name start here.Percent from e = let same : start ≡ p = cc in omega (arith, same, from)
closed_low low p told name start here.Name from e = let same : start ≡ p = cc in omega (arith, same, from)
closed_low low p told name start here.AfterName from e = let same : start ≡ p = cc in omega (arith, same, from)
closed_low low p told name start here.Zero from e = let same : start ≡ p = cc in omega (arith, same, from)
closed_low low p told name start (here.Wide filler width) from e = let same : start ≡ p = cc in omega (arith, same, from)

goes_low : (names : Names) (low p at : ℕ) (cs : List ℕ) (res : Result Reached ExpandFault) → LowResult low res
    → ((r : Reached) → IsLow low r.place r.start → gives names at cs r ≡ Err (BadForm p) → low ≤ p)
    → goes_on names at cs res ≡ Err (BadForm p) → low ≤ p
goes_low names low p at cs (Ok r) is again e = again r is e
goes_low names low p at cs (Err fault) is again e = let same : fault ≡ BadForm p = cc in is p same

bad_later : (names : Names) (cs : List ℕ) (low p at : ℕ) (told name : List ℕ) (start : ℕ) (place : ExpansionProgress) → low ≤ at → IsLow low place start
    → gives names at cs (reached told name start place) ≡ Err (BadForm p) → low ≤ p
bad_later names [] low p at told name start place is from e = closed_low low p told name start place from e
bad_later names (c ∷ cs) low p at told name start place is from e =
    goes_low names low p (at + len_utf8 c) cs (after names at c (reached told name start place)) (after_low names low at c told name start place is from)
    (λ r low_there there. bad_later names cs low p (at + len_utf8 c) r.told r.name r.start r.place (omega (arith, is)) low_there there) e

-- no part begins where a form is bad

written_some : (part : Part) → 1 ≤ length (written part)
written_some (Plain c) = omega arith
written_some Percent = omega arith
written_some (Value n) = omega arith
written_some (Number n) = omega arith
written_some (Spaced n digit) = omega arith
written_some (Zeroed n digit) = omega arith

not_bad : (names : Names) (place : ℕ) (rest told : List ℕ) (part : Part) (more : List ℕ) (o : Option (List ℕ)) → IsPart part → value names part ≡ o
    → rest ≡ written part ++ more → gives names place rest (reached told [] 0 here.Plain) ≡ Err (BadForm place) → ⊥
not_bad names at rest told part more (Some x) is has same bad =
    let t = part_told names part at more told [] 0 x is has in
    let there : gives names t.at more (reached (told ++ x) t.name t.start here.Plain) ≡ Err (BadForm at)
    = sym t.same ∙ ap (λ cs. gives names at cs (reached told [] 0 here.Plain)) (sym same) ∙ bad in
    let low = bad_later names more (at + size (written part)) at t.at (told ++ x) t.name t.start here.Plain (omega (arith, t.at_is)) tt there in
    absurd (omega (arith, low, written_some part, length-le-encodes (written part)))
not_bad names at rest told part more None is has same bad =
    let wrong : Err (Unknown (name_in part)) ≡ Err (BadForm at)
    = sym (part_unknown names part at more told [] 0 is has) ∙ ap (λ cs. gives names at cs (reached told [] 0 here.Plain)) (sym same) ∙ bad in
    cc

begins_none : (names : Names) (place : ℕ) (rest told : List ℕ) → gives names place rest (reached told [] 0 here.Plain) ≡ Err (BadForm place) → BeginsNone rest
begins_none names at rest told bad = record {
  some = λ none. let wrong : Ok told ≡ Err (BadForm at) = ap (λ cs. gives names at cs (reached told [] 0 here.Plain)) (sym none) ∙ bad in cc;
  none = λ part more is same. not_bad names at rest told part more (value names part) is refl same bad;
}

-- what the name and the place of a form say is nothing outside forms
plain_any : (names : Names) (cs : List ℕ) (at : ℕ) (told name other : List ℕ) (start begin : ℕ)
    → gives names at cs (reached told name start here.Plain) ≡ gives names at cs (reached told other begin here.Plain)
plain_any names [] at told name other start begin = refl
plain_any names (c ∷ cs) at told name other start begin =
    cond_by (λ (res : Result Reached ExpandFault). goes_on names (at + len_utf8 c) cs res ≡ gives names at (c ∷ cs) (reached told other begin here.Plain)) (c == 37)
    (Ok (begun at (reached told name start here.Plain))) (Ok (with_char c (reached told name start here.Plain)))
    (λ is. sym (ap (λ (b : Bool). goes_on names (at + len_utf8 c) cs (if b then Ok (begun at (reached told other begin here.Plain)) else Ok (with_char c (reached told other begin here.Plain)))) is))
    (λ is. plain_any names cs (at + len_utf8 c) (told ++ encode_utf8 c) name other start begin
    ∙ sym (ap (λ (b : Bool). goes_on names (at + len_utf8 c) cs (if b then Ok (begun at (reached told other begin here.Plain)) else Ok (with_char c (reached told other begin here.Plain)))) is))

-- what an answer says of characters that begin at a place, after what is told
abbrev Says : Names → ℕ → List ℕ → List ℕ → Result (List ℕ) ExpandFault → Type 0
Says names base told all (Ok whole) =
    (parts : List Part) × (x : List ℕ) × (all ≡ written_all parts) × AreParts parts × (values names parts ≡ Some x) × (whole ≡ told ++ x)
Says names base told all (Err fault) =
    (front : List Part) × (rest : List ℕ) × (x : List ℕ) × (all ≡ written_all front ++ rest) × AreParts front × (values names front ≡ Some x)
    × StandsAt names (base + size (written_all front)) rest fault

-- the characters of the form that is going on, which begins at a place
abbrev IsGoing : ℕ → ExpansionProgress → List ℕ → ℕ → List ℕ → Type 0
IsGoing begin here.Plain name start going = going ≡ []
IsGoing begin here.Percent name start going = (start ≡ begin) × (name ≡ []) × (going ≡ 37 ∷ [])
IsGoing begin here.Name name start going =
    (start ≡ begin) × ((n : List ℕ) × (is_name n ≡ true) × (name ≡ encode_utf8_all n) × (going ≡ 37 ∷ 40 ∷ n))
IsGoing begin here.AfterName name start going =
    (start ≡ begin) × ((n : List ℕ) × (is_name n ≡ true) × (name ≡ encode_utf8_all n) × (going ≡ 37 ∷ 40 ∷ (n ++ 41 ∷ [])))
IsGoing begin here.Zero name start going =
    (start ≡ begin) × ((n : List ℕ) × (is_name n ≡ true) × (name ≡ encode_utf8_all n) × (going ≡ 37 ∷ 40 ∷ (n ++ 41 ∷ 48 ∷ [])))
IsGoing begin (here.Wide filler width) name start going =
    (start ≡ begin) × ((n : List ℕ) × (digit : ℕ) × (is_name n ≡ true) × (name ≡ encode_utf8_all n) × (is_width digit ≡ true) × (width ≡ digit - 48)
    × (((filler ≡ 32) × (going ≡ 37 ∷ 40 ∷ (n ++ 41 ∷ digit ∷ []))) ⊎ ((filler ≡ 48) × (going ≡ 37 ∷ 40 ∷ (n ++ 41 ∷ 48 ∷ digit ∷ [])))))

-- what was read stands for these characters: parts with values, and a form that is going on
record Stands (names : Names) (base : ℕ) (before seen : List ℕ) (at : ℕ) (told name : List ℕ) (start : ℕ) (place : ExpansionProgress) : Type 0 where
  front : List Part
  going : List ℕ
  x : List ℕ
  cut : seen ≡ written_all front ++ going
  are : AreParts front
  has : values names front ≡ Some x
  told_is : told ≡ before ++ x
  at_is : at ≡ base + size seen
  is : IsGoing (base + size (written_all front)) place name start going
  same : (more : List ℕ) → gives names (base + size (written_all front)) (going ++ more) (reached told [] 0 here.Plain) ≡ gives names at more (reached told name start place)

written_more : (front : List Part) (part : Part) → written_all (front ++ part ∷ []) ≡ written_all front ++ written part
written_more [] part = append-nil (written part)
written_more (first ∷ front) part =
    ap (λ back. written first ++ back) (written_more front part) ∙ sym (append_assoc (written first) (written_all front) (written part))

are_more : (front : List Part) (part : Part) → AreParts front → IsPart part → AreParts (front ++ part ∷ [])
are_more [] part are is = (is, tt)
are_more (first ∷ front) part are is = (are.0, are_more front part are.1 is)

values_more : (names : Names) (front : List Part) (part : Part) (x v : List ℕ) → values names front ≡ Some x → value names part ≡ Some v
    → values names (front ++ part ∷ []) ≡ Some (x ++ v)
values_more names [] part x v has is =
    let none : [] ≡ x = cc in
    ap (λ o. joined o (Some [])) is ∙ ap (λ bs. Some bs) (append-nil v ∙ ap (λ bs. bs ++ v) none)
values_more names (first ∷ front) part x v has is =
    let j = joins (value names first) (values names front) x has in
    ap (λ o. joined o (values names (front ++ part ∷ []))) j.is_front
    ∙ ap (λ o. joined (Some j.front) o) (values_more names front part j.back v j.is_back is)
    ∙ ap (λ bs. Some bs) (sym (append_assoc j.front j.back v) ∙ ap (λ bs. bs ++ v) j.same)

-- one more character of a form
grows : (names : Names) (base : ℕ) (before seen : List ℕ) (at c : ℕ) (told name : List ℕ) (start : ℕ) (place : ExpansionProgress) (other : List ℕ) (begin : ℕ) (next : ExpansionProgress)
    → (was : Stands names base before seen at told name start place)
    → after names at c (reached told name start place) ≡ Ok (reached told other begin next)
    → IsGoing (base + size (written_all was.front)) next other begin (was.going ++ c ∷ [])
    → Stands names base before (seen ++ c ∷ []) (at + len_utf8 c) told other begin next
grows names base before seen at c told name start place other begin next was e is = record {
  front = was.front;
  going = was.going ++ c ∷ [];
  x = was.x;
  cut = ap (λ all. all ++ c ∷ []) was.cut ∙ append_assoc (written_all was.front) was.going (c ∷ []);
  are = was.are;
  has = was.has;
  told_is = was.told_is;
  at_is = omega (arith, was.at_is, size_append seen (c ∷ []), size_one c);
  is = is;
  same = λ more. ap (λ cs. gives names (base + size (written_all was.front)) cs (reached told [] 0 here.Plain)) (append_assoc was.going (c ∷ []) more)
      ∙ was.same (c ∷ more) ∙ ap (λ res. goes_on names (at + len_utf8 c) more res) e;
}

-- a part ends, and its value is told
ended : (names : Names) (base : ℕ) (before seen : List ℕ) (at c : ℕ) (told name : List ℕ) (start : ℕ) (place : ExpansionProgress) (other : List ℕ) (begin : ℕ)
    (part : Part) (v : List ℕ) → (was : Stands names base before seen at told name start place) → IsPart part → value names part ≡ Some v
    → written part ≡ was.going ++ c ∷ []
    → Stands names base before (seen ++ c ∷ []) (at + len_utf8 c) (told ++ v) other begin here.Plain
ended names base before seen at c told name start place other begin part v was is has spells =
    let front = was.front ++ part ∷ [] in
    let cut : seen ++ c ∷ [] ≡ written_all front
    = ap (λ all. all ++ c ∷ []) was.cut ∙ append_assoc (written_all was.front) was.going (c ∷ [])
    ∙ ap (λ back. written_all was.front ++ back) (sym spells) ∙ sym (written_more was.front part) in
    let there : at + len_utf8 c ≡ base + size (written_all front)
    = omega (arith, was.at_is, size_append seen (c ∷ []), size_one c, ap size cut) in
    record {
      front = front;
      going = [];
      x = was.x ++ v;
      cut = cut ∙ sym (append-nil (written_all front));
      are = are_more was.front part was.are is;
      has = values_more names was.front part was.x v was.has has;
      told_is = ap (λ bs. bs ++ v) was.told_is ∙ append_assoc before was.x v;
      at_is = omega (arith, was.at_is, size_append seen (c ∷ []), size_one c);
      is = refl;
      same = λ more. ap (λ n. gives names n more (reached (told ++ v) [] 0 here.Plain)) (sym there)
          ∙ plain_any names more (at + len_utf8 c) (told ++ v) [] other 0 begin;
    }

-- a form that is bad
bad : (names : Names) (base : ℕ) (before seen : List ℕ) (at : ℕ) (told name : List ℕ) (start : ℕ) (place : ExpansionProgress) (more : List ℕ)
    → (was : Stands names base before seen at told name start place) → start ≡ base + size (written_all was.front)
    → gives names at more (reached told name start place) ≡ Err (BadForm start)
    → Says names base before (seen ++ more) (Err (BadForm start))
bad names base before seen at told name start place more was begins e = (
  was.front,
  was.going ++ more,
  was.x,
  ap (λ all. all ++ more) was.cut ∙ append_assoc (written_all was.front) was.going more,
  was.are,
  was.has,
  (
    begins,
    begins_none names (base + size (written_all was.front)) (was.going ++ more) told (was.same more ∙ e ∙ ap (λ n. Err (BadForm n)) begins),
  ),
)

-- what one more character makes of it
abbrev Next : Names → ℕ → List ℕ → List ℕ → ℕ → List ℕ → ℕ → Result Reached ExpandFault → Result Reached ExpandFault → Type 0
Next names base before seen c cs at from (Ok r) = from ≡ Ok r → Stands names base before (seen ++ c ∷ []) (at + len_utf8 c) r.told r.name r.start r.place
Next names base before seen c cs at from (Err fault) = from ≡ Err fault → Says names base before (seen ++ c ∷ cs) (Err fault)

next_bad : (names : Names) (base : ℕ) (before seen : List ℕ) (at c : ℕ) (cs told name : List ℕ) (start : ℕ) (place : ExpansionProgress)
    → (was : Stands names base before seen at told name start place) → start ≡ base + size (written_all was.front)
    → Next names base before seen c cs at (after names at c (reached told name start place)) (bad_form (reached told name start place))
next_bad names base before seen at c cs told name start place was begins = λ e.
    bad names base before seen at told name start place (c ∷ cs) was begins (ap (λ res. goes_on names (at + len_utf8 c) cs res) e)

next_value : (names : Names) (base : ℕ) (before seen : List ℕ) (at c : ℕ) (cs told name : List ℕ) (start : ℕ) (place : ExpansionProgress) (part : Part) (o : Option (List ℕ))
    (from : Result Reached ExpandFault) → (was : Stands names base before seen at told name start place) → IsPart part → value names part ≡ o → name ≡ name_in part
    → written part ≡ was.going ++ c ∷ []
    → Next names base before seen c cs at from (with_value o (reached told name start place))
next_value names base before seen at c cs told name start place part (Some v) from was is has named spells = λ e.
    ended names base before seen at c told name start place name start part v was is has spells
next_value names base before seen at c cs told name start place part None from was is has named spells = λ e. (
  was.front,
  was.going ++ c ∷ cs,
  was.x,
  ap (λ all. all ++ c ∷ cs) was.cut ∙ append_assoc (written_all was.front) was.going (c ∷ cs),
  was.are,
  was.has,
  (
    part,
    cs,
    sym (append_assoc was.going (c ∷ []) cs) ∙ ap (λ front. front ++ cs) (sym spells),
    is,
    has,
    named,
  ),
)

name_more : (n : List ℕ) (c : ℕ) → is_name n ≡ true → (c == 41) ≡ false → is_name (n ++ c ∷ []) ≡ true
name_more [] c is other = ap (λ b. if b then false else true) other
name_more (d ∷ n) c is other =
    let k = kept (d == 41) (is_name n) is in
    ap (λ b. if b then false else is_name (n ++ c ∷ [])) k.0 ∙ name_more n c k.1 other

encodes_more : (n : List ℕ) (c : ℕ) → encode_utf8_all (n ++ c ∷ []) ≡ encode_utf8_all n ++ encode_utf8 c
encodes_more n c = encodes-append n (c ∷ []) ∙ ap (λ back. encode_utf8_all n ++ back) (append-nil (encode_utf8 c))

-- after a name one more character
behind : (n form going : List ℕ) (c d : ℕ) → going ≡ 37 ∷ 40 ∷ (n ++ 41 ∷ form) → c ≡ d → 37 ∷ 40 ∷ (n ++ 41 ∷ (form ++ d ∷ [])) ≡ going ++ c ∷ []
behind n form going c d is same =
    ap (λ back. 37 ∷ 40 ∷ back) (sym (append_assoc n (41 ∷ form) (d ∷ []))) ∙ ap (λ all. all ++ d ∷ []) (sym is) ∙ ap (λ e. going ++ e ∷ []) (sym same)

step : (names : Names) (base : ℕ) (before seen : List ℕ) (at c : ℕ) (cs told name : List ℕ) (start : ℕ) (place : ExpansionProgress)
    → Stands names base before seen at told name start place
    → Next names base before seen c cs at (after names at c (reached told name start place)) (after_at names place at c (reached told name start place))
step names base before seen at c cs told name start here.Plain was =
    let r = reached told name start here.Plain in
    cond_by (Next names base before seen c cs at (after names at c r)) (c == 37) (Ok (begun at r)) (Ok (with_char c r))
    (λ is. λ e. grows names base before seen at c told name start here.Plain [] at here.Percent was e (
      omega (arith, was.at_is, ap size was.cut, ap size (ap (λ going. written_all was.front ++ going) was.is ∙ append-nil (written_all was.front))),
      refl,
      ap (λ going. going ++ c ∷ []) was.is ∙ ap (λ d. d ∷ []) (eq_true c 37 is),
    ))
    (λ other. λ e. ended names base before seen at c told name start here.Plain name start (Plain c) (encode_utf8 c) was other refl
    (ap (λ going. going ++ c ∷ []) (sym was.is)))
step names base before seen at c cs told name start here.Percent was =
    let r = reached told name start here.Percent in
    cond_by (Next names base before seen c cs at (after names at c r)) (c == 37) (Ok (with_char 37 r)) (if c == 40 then Ok (moved here.Name r) else bad_form r)
    (λ is. λ e. ended names base before seen at c told name start here.Percent name start Percent (encode_utf8 37) was tt refl
    (ap (λ d. 37 ∷ d ∷ []) (sym (eq_true c 37 is)) ∙ ap (λ going. going ++ c ∷ []) (sym was.is.2)))
    (λ other. cond_by (Next names base before seen c cs at (after names at c r)) (c == 40) (Ok (moved here.Name r)) (bad_form r)
    (λ is. λ e. grows names base before seen at c told name start here.Percent name start here.Name was e (
      was.is.0,
      ([], refl, was.is.1, ap (λ going. going ++ c ∷ []) was.is.2 ∙ ap (λ d. 37 ∷ d ∷ []) (eq_true c 40 is)),
    ))
    (λ other. next_bad names base before seen at c cs told name start here.Percent was was.is.0))
step names base before seen at c cs told name start here.Name was =
    let r = reached told name start here.Name in
    let n = was.is.1 in
    cond_by (Next names base before seen c cs at (after names at c r)) (c == 41) (Ok (moved here.AfterName r)) (Ok (with_name c r))
    (λ is. λ e. grows names base before seen at c told name start here.Name name start here.AfterName was e (
      was.is.0,
      (n.0, n.1, n.2, ap (λ going. going ++ c ∷ []) n.3 ∙ ap (λ d. 37 ∷ 40 ∷ (n.0 ++ d ∷ [])) (eq_true c 41 is)),
    ))
    (λ other. λ e. grows names base before seen at c told name start here.Name (name ++ encode_utf8 c) start here.Name was e (
      was.is.0,
      (
        n.0 ++ c ∷ [],
        name_more n.0 c n.1 other,
        ap (λ bs. bs ++ encode_utf8 c) n.2 ∙ sym (encodes_more n.0 c),
        ap (λ going. going ++ c ∷ []) n.3,
      ),
    ))
step names base before seen at c cs told name start here.AfterName was =
    let r = reached told name start here.AfterName in
    let n = was.is.1 in
    cond_by (Next names base before seen c cs at (after names at c r)) (c == 115) (with_value (text_told names name) r) _
    (λ is. next_value names base before seen at c cs told name start here.AfterName (Value n.0) (text_told names name) (after names at c r) was n.1
    (ap (text_told names) (sym n.2)) n.2 (behind n.0 [] was.going c 115 n.3 (eq_true c 115 is)))
    (λ other. cond_by (Next names base before seen c cs at (after names at c r)) (c == 100) (with_value (number_told names 32 0 name) r) _
    (λ is. next_value names base before seen at c cs told name start here.AfterName (Number n.0) (number_told names 32 0 name) (after names at c r) was n.1
    (ap (number_told names 32 0) (sym n.2)) n.2 (behind n.0 [] was.going c 100 n.3 (eq_true c 100 is)))
    (λ other. cond_by (Next names base before seen c cs at (after names at c r)) (c == 48) (Ok (moved here.Zero r)) _
    (λ is. λ e. grows names base before seen at c told name start here.AfterName name start here.Zero was e
    (was.is.0, (n.0, n.1, n.2, sym (behind n.0 [] was.going c 48 n.3 (eq_true c 48 is)))))
    (λ other. cond_by (Next names base before seen c cs at (after names at c r)) (is_width c) (Ok (moved (here.Wide 32 (c - 48)) r)) (bad_form r)
    (λ is. λ e. grows names base before seen at c told name start here.AfterName name start (here.Wide 32 (c - 48)) was e
    (was.is.0, (n.0, c, n.1, n.2, is, refl, inl (refl, sym (behind n.0 [] was.going c c n.3 refl)))))
    (λ other. next_bad names base before seen at c cs told name start here.AfterName was was.is.0))))
step names base before seen at c cs told name start here.Zero was =
    let r = reached told name start here.Zero in
    let n = was.is.1 in
    cond_by (Next names base before seen c cs at (after names at c r)) (is_width c) (Ok (moved (here.Wide 48 (c - 48)) r)) (bad_form r)
    (λ is. λ e. grows names base before seen at c told name start here.Zero name start (here.Wide 48 (c - 48)) was e
    (was.is.0, (n.0, c, n.1, n.2, is, refl, inr (refl, sym (behind n.0 (48 ∷ []) was.going c c n.3 refl)))))
    (λ other. next_bad names base before seen at c cs told name start here.Zero was was.is.0)
step names base before seen at c cs told name start (here.Wide filler width) was =
    let r = reached told name start (here.Wide filler width) in
    let n = was.is.1 in
    cond_by (Next names base before seen c cs at (after names at c r)) (c == 100) (with_value (number_told names filler width name) r) (bad_form r)
    (λ is. elim n.6 [
      | inl spaces ↦
          next_value names base before seen at c cs told name start (here.Wide filler width) (Spaced n.0 n.1) (number_told names filler width name)
          (after names at c r) was (n.2, n.4)
          (ap (λ f. number_told names f (n.1 - 48) (encode_utf8_all n.0)) (sym spaces.0) ∙ ap (λ w. number_told names filler w (encode_utf8_all n.0)) (sym n.5)
          ∙ ap (number_told names filler width) (sym n.3)) n.3
          (behind n.0 (n.1 ∷ []) was.going c 100 spaces.1 (eq_true c 100 is))
      | inr zeros ↦
          next_value names base before seen at c cs told name start (here.Wide filler width) (Zeroed n.0 n.1) (number_told names filler width name)
          (after names at c r) was (n.2, n.4)
          (ap (λ f. number_told names f (n.1 - 48) (encode_utf8_all n.0)) (sym zeros.0) ∙ ap (λ w. number_told names filler w (encode_utf8_all n.0)) (sym n.5)
          ∙ ap (number_told names filler width) (sym n.3)) n.3
          (behind n.0 (48 ∷ n.1 ∷ []) was.going c 100 zeros.1 (eq_true c 100 is))
    ])
    (λ other. next_bad names base before seen at c cs told name start (here.Wide filler width) was was.is.0)

-- where the characters end
closing : (names : Names) (base : ℕ) (before seen : List ℕ) (at : ℕ) (told name : List ℕ) (start : ℕ) (place : ExpansionProgress)
    → Stands names base before seen at told name start place → Says names base before (seen ++ []) (closed (reached told name start place))
closing names base before seen at told name start here.Plain was = (
  was.front,
  was.x,
  append-nil seen ∙ was.cut ∙ ap (λ going. written_all was.front ++ going) was.is ∙ append-nil (written_all was.front),
  was.are,
  was.has,
  was.told_is,
)
closing names base before seen at told name start here.Percent was = bad names base before seen at told name start here.Percent [] was was.is.0 refl
closing names base before seen at told name start here.Name was = bad names base before seen at told name start here.Name [] was was.is.0 refl
closing names base before seen at told name start here.AfterName was = bad names base before seen at told name start here.AfterName [] was was.is.0 refl
closing names base before seen at told name start here.Zero was = bad names base before seen at told name start here.Zero [] was was.is.0 refl
closing names base before seen at told name start (here.Wide filler width) was =
    bad names base before seen at told name start (here.Wide filler width) [] was was.is.0 refl

goes : (names : Names) (base : ℕ) (before seen : List ℕ) (at c : ℕ) (cs : List ℕ) (from res : Result Reached ExpandFault)
    → Next names base before seen c cs at from res → from ≡ res
    → ((r : Reached) → Stands names base before (seen ++ c ∷ []) (at + len_utf8 c) r.told r.name r.start r.place
    → Says names base before ((seen ++ c ∷ []) ++ cs) (gives names (at + len_utf8 c) cs r))
    → Says names base before (seen ++ c ∷ cs) (goes_on names (at + len_utf8 c) cs res)
goes names base before seen at c cs from (Ok r) next e again =
    subst (λ (all : List ℕ). Says names base before all (gives names (at + len_utf8 c) cs r)) (append_assoc seen (c ∷ []) cs) (again r (next e))
goes names base before seen at c cs from (Err fault) next e again = next e

answer : (names : Names) (base : ℕ) (before cs seen : List ℕ) (at : ℕ) (told name : List ℕ) (start : ℕ) (place : ExpansionProgress)
    → Stands names base before seen at told name start place
    → Says names base before (seen ++ cs) (gives names at cs (reached told name start place))
answer names base before [] seen at told name start place was = closing names base before seen at told name start place was
answer names base before (c ∷ cs) seen at told name start place was =
    goes names base before seen at c cs (after names at c (reached told name start place)) (after_at names place at c (reached told name start place))
    (step names base before seen at c cs told name start place was) refl
    (λ r now. answer names base before cs (seen ++ c ∷ []) (at + len_utf8 c) r.told r.name r.start r.place now)

begin_stands : (names : Names) (base : ℕ) (told name : List ℕ) (start : ℕ) → Stands names base told [] base told name start here.Plain
begin_stands names base told name start = record {
  front = [];
  going = [];
  x = [];
  cut = refl;
  are = tt;
  has = refl;
  told_is = sym (append-nil told);
  at_is = omega arith;
  is = refl;
  same = λ more. ap (λ n. gives names n more (reached told [] 0 here.Plain)) (omega arith) ∙ plain_any names more base told [] name 0 start;
}

says : (names : Names) (base : ℕ) (cs told name : List ℕ) (start : ℕ) → Says names base told cs (gives names base cs (reached told name start here.Plain))
says names base cs told name start = answer names base told cs [] base told name start here.Plain (begin_stands names base told name start)

-- an expansion has a cut
pub expansion_cut : (names : Names) (text whole : List ℕ) → expansion_of names text ≡ Ok whole → Expands names text whole
expansion_cut names text whole e =
    let s = subst (λ (res : Result (List ℕ) ExpandFault). Says names 0 [] (chars text) res) e (says names 0 (chars text) [] [] 0) in
    record { parts = s.0; cut = s.2; are = s.3; told = s.4 ∙ ap (λ bs. Some bs) (sym s.5) }

-- a fault is the leftmost
pub expansion_fault : (names : Names) (text : List ℕ) (fault : ExpandFault) → expansion_of names text ≡ Err fault → HasFault names text fault
expansion_fault names text fault e =
    let s = subst (λ (res : Result (List ℕ) ExpandFault). Says names 0 [] (chars text) res) e (says names 0 (chars text) [] [] 0) in
    record {
      front = s.0;
      rest = s.1;
      cut = s.3;
      are = s.4;
      whole = s.2;
      told = s.5;
      stands = subst (λ (n : ℕ). StandsAt names n s.1 fault) (omega arith) s.6;
    }

first_bad : (names : Names) (base at : ℕ) (rest more : List ℕ) (fault : ExpandFault) → BeginsNone rest → rest ≡ more → at ≡ base → StandsAt names at more fault
    → fault ≡ BadForm base
first_bad names base at rest more (Unknown name) none same there stands =
    absurd (none.none stands.0 stands.1 stands.3 (same ∙ stands.2))
first_bad names base at rest more (BadForm place) none same there stands = ap (λ n. BadForm n) (stands.0 ∙ there)
first_bad names base at rest more OutOfMemory none same there stands = absurd stands

no_parts : (parts : List Part) (rest : List ℕ) → BeginsNone rest → rest ≡ written_all parts → AreParts parts → ⊥
no_parts [] rest none same are = none.some same
no_parts (part ∷ parts) rest none same are = none.none part (written_all parts) are.0 same

no_front : (front : List Part) (names : Names) (base : ℕ) (rest more : List ℕ) (fault : ExpandFault) → BeginsNone rest → rest ≡ written_all front ++ more
    → AreParts front → StandsAt names (base + size (written_all front)) more fault → fault ≡ BadForm base
no_front [] names base rest more fault none same are stands = first_bad names base (base + size []) rest more fault none same (omega arith) stands
no_front (part ∷ parts) names base rest more fault none same are stands =
    absurd (none.none part (written_all parts ++ more) are.0 (same ∙ append_assoc (written part) (written_all parts) more))

none_bad : (names : Names) (base : ℕ) (told rest : List ℕ) (res : Result (List ℕ) ExpandFault) → Says names base told rest res → BeginsNone rest
    → res ≡ Err (BadForm base)
none_bad names base told rest (Ok whole) s none = absurd (no_parts s.0 rest none s.2 s.3)
none_bad names base told rest (Err fault) s none = ap (λ f. Err f) (no_front s.0 names base rest s.1 fault none s.3 s.4 s.6)

here_is : (names : Names) (at : ℕ) (rest told name : List ℕ) (start : ℕ) (fault : ExpandFault) → StandsAt names at rest fault
    → gives names at rest (reached told name start here.Plain) ≡ Err fault
here_is names at rest told name start (Unknown other) stands =
    ap (λ cs. gives names at cs (reached told name start here.Plain)) stands.2
    ∙ part_unknown names stands.0 at stands.1 told name start stands.3 stands.4 ∙ ap (λ n. Err (Unknown n)) (sym stands.5)
here_is names at rest told name start (BadForm place) stands =
    none_bad names at told rest (gives names at rest (reached told name start here.Plain)) (says names at rest told name start) stands.1
    ∙ ap (λ n. Err (BadForm n)) (sym stands.0)
here_is names at rest told name start OutOfMemory stands = absurd stands

-- the fault of a text is the one that is there
pub fault_expansion : (names : Names) (text : List ℕ) (fault : ExpandFault) → HasFault names text fault → expansion_of names text ≡ Err fault
fault_expansion names text fault has =
    let t = parts_told names has.front 0 has.rest [] [] 0 has.whole has.are has.told in
    ap (λ cs. gives names 0 cs at_start) has.cut ∙ t.same
    ∙ here_is names t.at has.rest has.whole t.name t.start fault
    (subst (λ (n : ℕ). StandsAt names n has.rest fault) (omega (arith, t.at_is)) has.stands)

-- of an answer the definition holds
pub leftmost : (names : Names) (text : List ℕ) (fault : ExpandFault) → IsFault fault (expansion_of names text) → IsLeftmost names text fault
leftmost names text (Unknown name) e = expansion_fault names text (Unknown name) e
leftmost names text (BadForm place) e = expansion_fault names text (BadForm place) e
leftmost names text OutOfMemory e = tt
