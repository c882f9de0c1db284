-- A text has pairs exactly where it has a cut that tells them, and its fault stands at its first bad pair.
use Rattle.std.proofs.Common.{◌≡◌, ◌≢◌, ◌≤◌, ◌+◌, ◌==◌, ℕ, List, [], ◌∷◌, ◌++◌, length, map, true, false, not, refl, ◌∙◌, ap, sym, subst, append_assoc, append-nil, length-append, arith}
use Rattle.std.proofs.lemmas.Bool.{and_parts, and_from}
use Rattle.std.proofs.lemmas.Grind.{flat_map-append}
use Rattle.std.proofs.lemmas.List.{map-append}
use Rattle.std.proofs.lemmas.List.Folds.{list_all-append}
use Rattle.std.proofs.lemmas.Str.{encodes-append}
use Rattle.std.specs.Prelude.{Result, Ok, Err, encode_utf8, encode_utf8_all, if◌then◌else◌}
use Rattle.std.specs.Char.{len_utf8}
use Rattle.std.specs.List.{list_all}
use Rattle.std.specs.Str.{chars}
use Rattle.sv_expand.proofs.Choices.{choose, cond_by, eq_true, both_ways, neither}
use Rattle.sv_expand.proofs.Sizes.{size, size_append, size_one, size_cons}
use Rattle.sv_expand.proofs.PairsRead.{Told, reached, gives, goes_on, name_not, white_not, moved_to, before_any, blank_read, named, IsOver, over_end, over_comma, is_bare, value_read}
use Rattle.sv_expand.specs.PairCuts.{Value, Pair, Last, written, value_written, last_written, listed, is_blank, begins_white, ends_white, IsValue, IsPair, ArePairs, IsLast, told, value_told, last_told, HasPairs, BeginsNoPair, HasBadPair, IsFirstBad}
use Rattle.sv_expand.specs.PairCuts.Value.{Quoted, Bare}
use Rattle.sv_expand.specs.PairCuts.Last.{Nothing, One}
use Rattle.sv_expand.specs.Pairs.{Reached, is_white, is_name_char, is_quote, moved, begun, with_name, with_quoted, with_gap, with_bare, ended, in_bare, after, after_at, closed, pairs_of, IsFault}
use Rattle.sv_expand.specs.declared.fault.PairFault.{PairFault}
use Rattle.sv_expand.specs.declared.fault.PairFault.TheVariants.{BadPair, OutOfMemory}
use Rattle.sv_expand.specs.declared.pairing.PairsProgress.{PairsProgress}
use Rattle.sv_expand.specs.declared.pairing.PairsProgress.TheVariants as here

-- between pairs, with these pairs told
abbrev fresh : Told → Reached
fresh pairs = reached pairs [] [] [] 0 here.Before

-- where a pair is read, it is told
record PairRead (from : Result Told PairFault) (there : ℕ) (rest : List ℕ) (pairs : Told) (pair : Pair) : Type 0 where
  at : ℕ
  gap : List ℕ
  start : ℕ
  place : PairsProgress
  same : from ≡ gives at rest (reached pairs (told pair).0 (told pair).1 gap start place)
  at_is : at ≡ there
  over : IsOver place

pair_read : (pair : Pair) (rest : List ℕ) (at : ℕ) (pairs : Told) → IsPair pair
    → PairRead (gives at (written pair ++ rest) (fresh pairs)) (at + size (written pair)) rest pairs pair
pair_read pair rest at pairs is =
    let there = at + size pair.before in
    let v = value_read pair.value rest (there + size pair.name + 1) pairs (encode_utf8_all pair.name) there is.3 in
    record {
      at = v.at;
      gap = v.gap;
      start = there;
      place = v.place;
      same = ap (λ all. gives at all (fresh pairs)) (append_assoc pair.before (pair.name ++ 61 ∷ value_written pair.value) rest
          ∙ ap (λ more. pair.before ++ more) (append_assoc pair.name (61 ∷ value_written pair.value) rest))
          ∙ blank_read pair.before (pair.name ++ 61 ∷ (value_written pair.value ++ rest)) at (fresh pairs) is.0 refl
          ∙ named pair.name (value_written pair.value ++ rest) there pairs [] [] [] 0 is.1 is.2
          ∙ v.same;
      at_is = omega (arith, v.at_is, size_append pair.before (pair.name ++ 61 ∷ value_written pair.value), size_append pair.name (61 ∷ value_written pair.value), size_cons 61 1 (value_written pair.value) refl);
      over = v.over;
    }

pair_closed : (pair : Pair) (rest : List ℕ) (at : ℕ) (pairs : Told) → IsPair pair
    → gives at (written pair ++ 44 ∷ rest) (fresh pairs) ≡ gives (at + size (written pair) + 1) rest (fresh (pairs ++ told pair ∷ []))
pair_closed pair rest at pairs is =
    let r = pair_read pair (44 ∷ rest) at pairs is in
    r.same ∙ over_comma r.at rest pairs (told pair).0 (told pair).1 r.gap r.start r.place r.over
    ∙ before_any rest (r.at + 1) (pairs ++ told pair ∷ []) [] [] [] [] [] [] r.start 0
    ∙ moved_to (r.at + 1) (at + size (written pair) + 1) rest (fresh (pairs ++ told pair ∷ [])) (ap (λ n. n + 1) r.at_is)

pairs_read : (front : List Pair) (rest : List ℕ) (at : ℕ) (pairs : Told) → ArePairs front
    → gives at (listed front ++ rest) (fresh pairs) ≡ gives (at + size (listed front)) rest (fresh (pairs ++ map told front))
pairs_read [] rest at pairs are =
    moved_to at (at + 0) rest (fresh pairs) (omega arith) ∙ ap (λ ps. gives (at + 0) rest (fresh ps)) (sym (append-nil pairs))
pairs_read (pair ∷ front) rest at pairs are =
    let first = written pair ++ 44 ∷ [] in
    let there : at + size (written pair) + 1 + size (listed front) ≡ at + size (first ++ listed front)
    = omega (arith, size_append first (listed front), size_append (written pair) (44 ∷ []), size_cons 44 1 [] refl) in
    ap (λ all. gives at all (fresh pairs)) (append_assoc first (listed front) rest ∙ append_assoc (written pair) (44 ∷ []) (listed front ++ rest))
    ∙ pair_closed pair (listed front ++ rest) at pairs are.0
    ∙ pairs_read front rest (at + size (written pair) + 1) (pairs ++ told pair ∷ []) are.1
    ∙ ap (λ ps. gives (at + size (written pair) + 1 + size (listed front)) rest (fresh ps)) (append_assoc pairs (told pair ∷ []) (map told front))
    ∙ moved_to (at + size (written pair) + 1 + size (listed front)) (at + size (first ++ listed front)) rest (fresh (pairs ++ map told (pair ∷ front))) there

last_read : (last : Last) (at : ℕ) (pairs : Told) → IsLast last → gives at (last_written last) (fresh pairs) ≡ Ok (pairs ++ last_told last)
last_read (Nothing white) at pairs is =
    ap (λ all. gives at all (fresh pairs)) (sym (append-nil white)) ∙ blank_read white [] at (fresh pairs) is refl ∙ ap (λ ps. Ok ps) (sym (append-nil pairs))
last_read (One pair) at pairs is =
    let r = pair_read pair [] at pairs is in
    ap (λ all. gives at all (fresh pairs)) (sym (append-nil (written pair))) ∙ r.same
    ∙ over_end pairs (told pair).0 (told pair).1 r.gap r.start r.place r.over

-- a cut tells the pairs
pub cut_pairs : (text : List ℕ) (pairs : Told) → HasPairs text pairs → pairs_of text ≡ Ok pairs
cut_pairs text pairs has =
    ap (λ cs. gives 0 cs (fresh [])) has.cut ∙ pairs_read has.front (last_written has.last) 0 [] has.are
    ∙ last_read has.last (0 + size (listed has.front)) (map told has.front) has.is ∙ ap (λ ps. Ok ps) (sym has.pairs_are)

-- a bad pair stands no earlier than where the reading goes on

abbrev IsLow : ℕ → PairsProgress → ℕ → Type 0
IsLow low here.Before start = Unit {0}
IsLow low place start = low ≤ start

abbrev LowResult : ℕ → Result Reached PairFault → Type 0
LowResult low (Ok r) = IsLow low r.place r.start
LowResult low (Err fault) = (p : ℕ) → fault ≡ BadPair p → low ≤ p

bad_low : (low start : ℕ) → low ≤ start → LowResult low (Err (BadPair start))
bad_low low start is = λ p e. let same : start ≡ p = cc in omega (arith, same, is)

in_bare_low : (low c : ℕ) (r : Reached) → low ≤ r.start → LowResult low (in_bare c r)
in_bare_low low c r is =
    choose (LowResult low) (c == 44) (Ok (ended r)) (if is_quote c then Err (BadPair r.start) else Ok (with_bare c r)) tt
    (choose (LowResult low) (is_quote c) (Err (BadPair r.start)) (Ok (with_bare c r)) (bad_low low r.start is) is)

after_low : (low at c : ℕ) (pairs : Told) (name value gap : List ℕ) (start : ℕ) (place : PairsProgress) → low ≤ at → IsLow low place start
    → LowResult low (after_at place at c (reached pairs name value gap start place))
after_low low at c pairs name value gap start here.Before is from =
    let r = reached pairs name value gap start here.Before in
    choose (LowResult low) (is_white c) (Ok r) (if is_name_char c then Ok (begun at c r) else Err (BadPair at)) tt
    (choose (LowResult low) (is_name_char c) (Ok (begun at c r)) (Err (BadPair at)) is (bad_low low at is))
after_low low at c pairs name value gap start here.Name is from =
    let r = reached pairs name value gap start here.Name in
    choose (LowResult low) (c == 61) (Ok (moved here.Equals r)) (if is_name_char c then Ok (with_name c r) else Err (BadPair start)) from
    (choose (LowResult low) (is_name_char c) (Ok (with_name c r)) (Err (BadPair start)) from (bad_low low start from))
after_low low at c pairs name value gap start here.Equals is from =
    let r = reached pairs name value gap start here.Equals in
    choose (LowResult low) (c == 34) (Ok (moved here.Double r)) _ from
    (choose (LowResult low) (c == 39) (Ok (moved here.Single r)) _ from
    (choose (LowResult low) (is_white c) (Ok (moved here.BeforeValue r)) (in_bare c r) from (in_bare_low low c r from)))
after_low low at c pairs name value gap start here.BeforeValue is from =
    let r = reached pairs name value gap start here.BeforeValue in
    choose (LowResult low) (is_white c) (Ok r) (in_bare c r) from (in_bare_low low c r from)
after_low low at c pairs name value gap start here.Bare is from =
    let r = reached pairs name value gap start here.Bare in
    choose (LowResult low) (is_white c) (Ok (with_gap c r)) (in_bare c r) from (in_bare_low low c r from)
after_low low at c pairs name value gap start here.Single is from =
    let r = reached pairs name value gap start here.Single in
    choose (LowResult low) (c == 39) (Ok (moved here.Closed r)) (Ok (with_quoted c r)) from from
after_low low at c pairs name value gap start here.Double is from =
    let r = reached pairs name value gap start here.Double in
    choose (LowResult low) (c == 34) (Ok (moved here.Closed r)) (Ok (with_quoted c r)) from from
after_low low at c pairs name value gap start here.Closed is from =
    let r = reached pairs name value gap start here.Closed in
    choose (LowResult low) (is_white c) (Ok r) (if c == 44 then Ok (ended r) else Err (BadPair start)) from
    (choose (LowResult low) (c == 44) (Ok (ended r)) (Err (BadPair start)) tt (bad_low low start from))

closed_low : (low p : ℕ) (pairs : Told) (name value gap : List ℕ) (start : ℕ) (place : PairsProgress) → IsLow low place start
    → closed (reached pairs name value gap start place) ≡ Err (BadPair p) → low ≤ p
closed_low low p pairs name value gap start here.Before from e = cc
closed_low low p pairs name value gap start here.Name from e = let same : start ≡ p = cc in omega (arith, same, from)
closed_low low p pairs name value gap start here.Single from e = let same : start ≡ p = cc in omega (arith, same, from)
closed_low low p pairs name value gap start here.Double from e = let same : start ≡ p = cc in omega (arith, same, from)
closed_low low p pairs name value gap start here.Equals from e = cc
closed_low low p pairs name value gap start here.BeforeValue from e = cc
closed_low low p pairs name value gap start here.Bare from e = cc
closed_low low p pairs name value gap start here.Closed from e = cc

goes_low : (low p at : ℕ) (cs : List ℕ) (res : Result Reached PairFault) → LowResult low res
    → ((r : Reached) → IsLow low r.place r.start → gives at cs r ≡ Err (BadPair p) → low ≤ p)
    → goes_on at cs res ≡ Err (BadPair p) → low ≤ p
goes_low low p at cs (Ok r) is again e = again r is e
goes_low low p at cs (Err fault) is again e = let same : fault ≡ BadPair p = cc in is p same

bad_later : (cs : List ℕ) (low p at : ℕ) (pairs : Told) (name value gap : List ℕ) (start : ℕ) (place : PairsProgress) → low ≤ at → IsLow low place start
    → gives at cs (reached pairs name value gap start place) ≡ Err (BadPair p) → low ≤ p
bad_later [] low p at pairs name value gap start place is from e = closed_low low p pairs name value gap start place from e
bad_later (c ∷ cs) low p at pairs name value gap start place is from e =
    goes_low low p (at + len_utf8 c) cs (after at c (reached pairs name value gap start place)) (after_low low at c pairs name value gap start place is from)
    (λ r low_there there. bad_later cs low p (at + len_utf8 c) r.pairs r.name r.value r.gap r.start r.place (omega (arith, is)) low_there there) e

-- white space before a pair is what begins it
pub blank_front : (white rest before name more : List ℕ) → is_blank white ≡ true → name ≢ [] → list_all is_name_char name ≡ true
    → white ++ rest ≡ before ++ (name ++ more) → (left : List ℕ) × (before ≡ white ++ left)
blank_front [] rest before name more blank some is same = (before, refl)
blank_front (w ∷ white) rest [] [] more blank some is same = absurd (some refl)
blank_front (w ∷ white) rest [] (c ∷ name) more blank some is same =
    let heads : w ≡ c = cc in
    let white_is = (and_parts (is_white w) (is_blank white) blank).0 in
    let named_is = (name_not c (and_parts (is_name_char c) (list_all is_name_char name) is).0).0 in
    absurd (both_ways (is_white c) (ap is_white (sym heads) ∙ white_is) named_is)
blank_front (w ∷ white) rest (b ∷ before) name more blank some is same =
    let heads : w ≡ b = cc in
    let tails : white ++ rest ≡ before ++ (name ++ more) = cc in
    let on = blank_front white rest before name more (and_parts (is_white w) (is_blank white) blank).1 some is tails in
    (on.0, cc (heads, on.1))

no_pair_there : (white rest : List ℕ) (base p : ℕ) (pairs : Told) → is_blank white ≡ true → p ≡ base + size white
    → gives base (white ++ rest) (fresh pairs) ≡ Err (BadPair p) → BeginsNoPair (white ++ rest)
no_pair_there white rest base p pairs blank place e = record {
  none = λ pair more is same.
      let there : gives (base + size (written pair) + 1) more (fresh (pairs ++ told pair ∷ [])) ≡ Err (BadPair p)
      = sym (pair_closed pair more base pairs is) ∙ ap (λ cs. gives base cs (fresh pairs)) (sym same) ∙ e in
      let low = bad_later more (base + size (written pair) + 1) p (base + size (written pair) + 1) (pairs ++ told pair ∷ []) [] [] [] 0 here.Before (omega arith) tt there in
      let split : white ++ rest ≡ pair.before ++ (pair.name ++ (61 ∷ value_written pair.value ++ 44 ∷ more))
      = same ∙ append_assoc pair.before (pair.name ++ 61 ∷ value_written pair.value) (44 ∷ more)
      ∙ ap (λ back. pair.before ++ back) (append_assoc pair.name (61 ∷ value_written pair.value) (44 ∷ more)) in
      let on = blank_front white rest pair.before pair.name (61 ∷ value_written pair.value ++ 44 ∷ more) blank is.1 is.2 split in
      absurd (omega (arith, low, place, ap size on.1, size_append white on.0, size_append pair.before (pair.name ++ 61 ∷ value_written pair.value)));
  last = λ last is same.
      let wrong : Ok (pairs ++ last_told last) ≡ Err (BadPair p) = sym (last_read last base pairs is) ∙ ap (λ cs. gives base cs (fresh pairs)) (sym same) ∙ e in
      cc;
}

-- what an answer says of characters that begin at a place, after pairs that are told
record BadAt (base : ℕ) (all : List ℕ) (place : ℕ) : Type 0 where
  front : List Pair
  white : List ℕ
  rest : List ℕ
  cut : all ≡ listed front ++ (white ++ rest)
  are : ArePairs front
  blank : is_blank white ≡ true
  some : rest ≢ []
  begins : begins_white rest ≡ false
  bad : BeginsNoPair (white ++ rest)
  place_is : place ≡ base + size (listed front ++ white)

abbrev Says : ℕ → Told → List ℕ → Result Told PairFault → Type 0
Says base before all (Ok pairs) =
    (front : List Pair) × (last : Last) × (all ≡ listed front ++ last_written last) × ArePairs front × IsLast last
    × (pairs ≡ before ++ (map told front ++ last_told last))
Says base before all (Err (BadPair place)) = BadAt base all place
Says base before all (Err OutOfMemory) = ⊥

-- the name of the pair that is going on
record IsNamed (begin start : ℕ) (n name : List ℕ) : Type 0 where
  begins : start ≡ begin
  some : n ≢ []
  all : list_all is_name_char n ≡ true
  name_is : name ≡ encode_utf8_all n

-- the characters of the pair that is going on, which begins at a place
abbrev IsGoing : ℕ → List ℕ → List ℕ → List ℕ → List ℕ → ℕ → PairsProgress → Type 0
IsGoing begin going name value gap start here.Before = going ≡ []
IsGoing begin going name value gap start here.Name = IsNamed begin start going name × (value ≡ []) × (gap ≡ [])
IsGoing begin going name value gap start here.Equals =
    (n : List ℕ) × IsNamed begin start n name × (going ≡ n ++ 61 ∷ []) × (value ≡ []) × (gap ≡ [])
IsGoing begin going name value gap start here.BeforeValue =
    (n : List ℕ) × (lead : List ℕ) × IsNamed begin start n name × (is_blank lead ≡ true) × (going ≡ n ++ 61 ∷ lead) × (value ≡ []) × (gap ≡ [])
IsGoing begin going name value gap start here.Bare =
    (n : List ℕ) × (lead : List ℕ) × (cs : List ℕ) × (after : List ℕ) × IsNamed begin start n name × IsValue (Bare lead cs after) × (cs ≢ [])
    × (going ≡ n ++ 61 ∷ (lead ++ (cs ++ after))) × (value ≡ encode_utf8_all cs) × (gap ≡ encode_utf8_all after)
IsGoing begin going name value gap start here.Single =
    (n : List ℕ) × (cs : List ℕ) × IsNamed begin start n name × (list_all (λ c. not (c == 39)) cs ≡ true) × (going ≡ n ++ 61 ∷ 39 ∷ cs)
    × (value ≡ encode_utf8_all cs)
IsGoing begin going name value gap start here.Double =
    (n : List ℕ) × (cs : List ℕ) × IsNamed begin start n name × (list_all (λ c. not (c == 34)) cs ≡ true) × (going ≡ n ++ 61 ∷ 34 ∷ cs)
    × (value ≡ encode_utf8_all cs)
IsGoing begin going name value gap start here.Closed =
    (n : List ℕ) × (quote : ℕ) × (cs : List ℕ) × (after : List ℕ) × IsNamed begin start n name × IsValue (Quoted quote cs after)
    × (going ≡ n ++ 61 ∷ (quote ∷ (cs ++ quote ∷ after))) × (value ≡ encode_utf8_all cs)

-- what was read stands for these characters: pairs with their commas, white space, and a pair that is going on
record Stands (base : ℕ) (before : Told) (seen : List ℕ) (at : ℕ) (pairs : Told) (name value gap : List ℕ) (start : ℕ) (place : PairsProgress) : Type 0 where
  front : List Pair
  white : List ℕ
  going : List ℕ
  cut : seen ≡ listed front ++ (white ++ going)
  are : ArePairs front
  pairs_are : pairs ≡ before ++ map told front
  blank : is_blank white ≡ true
  at_is : at ≡ base + size seen
  is : IsGoing (base + size (listed front ++ white)) going name value gap start place
  same : (more : List ℕ) → gives (base + size (listed front)) ((white ++ going) ++ more) (fresh pairs) ≡ gives at more (reached pairs name value gap start place)

grows : (base : ℕ) (before : Told) (seen : List ℕ) (at c : ℕ) (pairs : Told) (name value gap : List ℕ) (start : ℕ) (place : PairsProgress)
    (name' value' gap' : List ℕ) (start' : ℕ) (place' : PairsProgress) → (was : Stands base before seen at pairs name value gap start place)
    → after at c (reached pairs name value gap start place) ≡ Ok (reached pairs name' value' gap' start' place')
    → IsGoing (base + size (listed was.front ++ was.white)) (was.going ++ c ∷ []) name' value' gap' start' place'
    → Stands base before (seen ++ c ∷ []) (at + len_utf8 c) pairs name' value' gap' start' place'
grows base before seen at c pairs name value gap start place name' value' gap' start' place' was e is = record {
  front = was.front;
  white = was.white;
  going = was.going ++ c ∷ [];
  cut = ap (λ all. all ++ c ∷ []) was.cut ∙ append_assoc (listed was.front) (was.white ++ was.going) (c ∷ [])
      ∙ ap (λ back. listed was.front ++ back) (append_assoc was.white was.going (c ∷ []));
  are = was.are;
  pairs_are = was.pairs_are;
  blank = was.blank;
  at_is = omega (arith, was.at_is, size_append seen (c ∷ []), size_one c);
  is = is;
  same = λ more. ap (λ cs. gives (base + size (listed was.front)) cs (fresh pairs))
      (ap (λ front. front ++ more) (sym (append_assoc was.white was.going (c ∷ []))) ∙ append_assoc (was.white ++ was.going) (c ∷ []) more)
      ∙ was.same (c ∷ more) ∙ ap (goes_on (at + len_utf8 c) more) e;
}

-- white space before a pair
blank_more : (white : List ℕ) (c : ℕ) → is_blank white ≡ true → is_white c ≡ true → is_blank (white ++ c ∷ []) ≡ true
blank_more white c blank is = list_all-append is_white white (c ∷ []) ∙ and_from (is_blank white) (is_blank (c ∷ [])) blank (and_from (is_white c) true is refl)

more_white : (base : ℕ) (before : Told) (seen : List ℕ) (at c : ℕ) (pairs : Told) (name value gap : List ℕ) (start : ℕ)
    → (was : Stands base before seen at pairs name value gap start here.Before) → is_white c ≡ true
    → after at c (reached pairs name value gap start here.Before) ≡ Ok (reached pairs name value gap start here.Before)
    → Stands base before (seen ++ c ∷ []) (at + len_utf8 c) pairs name value gap start here.Before
more_white base before seen at c pairs name value gap start was is e =
    let there : (was.white ++ was.going) ++ c ∷ [] ≡ (was.white ++ c ∷ []) ++ []
    = ap (λ going. (was.white ++ going) ++ c ∷ []) was.is ∙ ap (λ white. white ++ c ∷ []) (append-nil was.white) ∙ sym (append-nil (was.white ++ c ∷ [])) in
    record {
      front = was.front;
      white = was.white ++ c ∷ [];
      going = [];
      cut = ap (λ all. all ++ c ∷ []) was.cut ∙ append_assoc (listed was.front) (was.white ++ was.going) (c ∷ [])
          ∙ ap (λ back. listed was.front ++ back) there;
      are = was.are;
      pairs_are = was.pairs_are;
      blank = blank_more was.white c was.blank is;
      at_is = omega (arith, was.at_is, size_append seen (c ∷ []), size_one c);
      is = refl;
      same = λ more. ap (λ cs. gives (base + size (listed was.front)) cs (fresh pairs))
          (ap (λ front. front ++ more) (sym there) ∙ append_assoc (was.white ++ was.going) (c ∷ []) more)
          ∙ was.same (c ∷ more) ∙ ap (goes_on (at + len_utf8 c) more) e;
    }

are_more : (front : List Pair) (pair : Pair) → ArePairs front → IsPair pair → ArePairs (front ++ pair ∷ [])
are_more [] pair are is = (is, tt)
are_more (first ∷ front) pair are is = (are.0, are_more front pair are.1 is)

abbrev one_pair : List ℕ → List ℕ → Value → Pair
one_pair white n value = record { before = white; name = n; value = value }

-- a comma ends the pair
pair_over : (base : ℕ) (before : Told) (seen : List ℕ) (at c : ℕ) (pairs : Told) (name value gap : List ℕ) (start : ℕ) (place : PairsProgress) (n : List ℕ) (v : Value)
    → (was : Stands base before seen at pairs name value gap start place) → IsNamed (base + size (listed was.front ++ was.white)) start n name → IsValue v
    → was.going ≡ n ++ 61 ∷ value_written v → value ≡ value_told v → c ≡ 44
    → Stands base before (seen ++ c ∷ []) (at + len_utf8 c) (pairs ++ (name, value) ∷ []) [] [] [] start here.Before
pair_over base before seen at c pairs name value gap start place n v was named is going value_is comma =
    let pair = one_pair was.white n v in
    let front = was.front ++ pair ∷ [] in
    let cut : seen ++ c ∷ [] ≡ listed front
    = ap (λ all. all ++ c ∷ []) was.cut ∙ append_assoc (listed was.front) (was.white ++ was.going) (c ∷ [])
    ∙ ap (λ back. listed was.front ++ ((was.white ++ back) ++ c ∷ [])) going
    ∙ ap (λ d. listed was.front ++ (written pair ++ d ∷ [])) comma
    ∙ ap (λ back. listed was.front ++ back) (sym (append-nil (written pair ++ 44 ∷ [])))
    ∙ sym (flat_map-append (λ p. written p ++ 44 ∷ []) was.front (pair ∷ [])) in
    let there : at + len_utf8 c ≡ base + size (listed front) = omega (arith, was.at_is, size_append seen (c ∷ []), size_one c, ap size cut) in
    let is_told : (name, value) ≡ told pair = ap (λ x. (x, value)) named.name_is ∙ ap (λ x. (encode_utf8_all n, x)) value_is in
    record {
      front = front;
      white = [];
      going = [];
      cut = cut ∙ sym (append-nil (listed front));
      are = are_more was.front pair was.are (was.blank, named.some, named.all, is);
      pairs_are = ap (λ ps. ps ++ (name, value) ∷ []) was.pairs_are ∙ append_assoc before (map told was.front) ((name, value) ∷ [])
          ∙ ap (λ last. before ++ (map told was.front ++ last ∷ [])) is_told ∙ ap (λ ps. before ++ ps) (sym (map-append told was.front (pair ∷ [])));
      blank = refl;
      at_is = omega (arith, was.at_is, size_append seen (c ∷ []), size_one c);
      is = refl;
      same = λ more. ap (λ x. gives x more (fresh (pairs ++ (name, value) ∷ []))) (sym there)
          ∙ before_any more (at + len_utf8 c) (pairs ++ (name, value) ∷ []) [] [] [] [] [] [] 0 start;
    }

-- a bad pair
bad : (base : ℕ) (before : Told) (seen : List ℕ) (at : ℕ) (pairs : Told) (name value gap : List ℕ) (start : ℕ) (place : PairsProgress) (more : List ℕ) (p : ℕ)
    → (was : Stands base before seen at pairs name value gap start place) → p ≡ base + size (listed was.front ++ was.white)
    → was.going ++ more ≢ [] → begins_white (was.going ++ more) ≡ false → gives at more (reached pairs name value gap start place) ≡ Err (BadPair p)
    → Says base before (seen ++ more) (Err (BadPair p))
bad base before seen at pairs name value gap start place more p was begins some first e =
    let there : p ≡ base + size (listed was.front) + size was.white = omega (arith, begins, size_append (listed was.front) was.white) in
    record {
      front = was.front;
      white = was.white;
      rest = was.going ++ more;
      cut = ap (λ all. all ++ more) was.cut ∙ append_assoc (listed was.front) (was.white ++ was.going) more
          ∙ ap (λ back. listed was.front ++ back) (append_assoc was.white was.going more);
      are = was.are;
      blank = was.blank;
      some = some;
      begins = first;
      bad = no_pair_there was.white (was.going ++ more) (base + size (listed was.front)) p pairs was.blank there
          (ap (λ cs. gives (base + size (listed was.front)) cs (fresh pairs)) (sym (append_assoc was.white was.going more)) ∙ was.same more ∙ e);
      place_is = begins;
    }

name_first : (n tail : List ℕ) → n ≢ [] → list_all is_name_char n ≡ true → (n ++ tail ≢ []) × (begins_white (n ++ tail) ≡ false)
name_first [] tail some is = absurd (some refl)
name_first (c ∷ n) tail some is = ((λ none. cc), (name_not c (and_parts (is_name_char c) (list_all is_name_char n) is).0).0)

bad_named : (base : ℕ) (before : Told) (seen : List ℕ) (at : ℕ) (pairs : Told) (name value gap : List ℕ) (start : ℕ) (place : PairsProgress) (more n tail : List ℕ)
    → (was : Stands base before seen at pairs name value gap start place) → IsNamed (base + size (listed was.front ++ was.white)) start n name
    → was.going ≡ n ++ tail → gives at more (reached pairs name value gap start place) ≡ Err (BadPair start)
    → Says base before (seen ++ more) (Err (BadPair start))
bad_named base before seen at pairs name value gap start place more n tail was named going e =
    let first = name_first n (tail ++ more) named.some named.all in
    let whole : was.going ++ more ≡ n ++ (tail ++ more) = ap (λ g. g ++ more) going ∙ append_assoc n tail more in
    bad base before seen at pairs name value gap start place more start was named.begins (λ none. first.0 (sym whole ∙ none))
    (ap begins_white whole ∙ first.1) e

-- what one more character makes of it
abbrev Next : ℕ → Told → List ℕ → ℕ → List ℕ → ℕ → Result Reached PairFault → Result Reached PairFault → Type 0
Next base before seen c cs at from (Ok r) = from ≡ Ok r → Stands base before (seen ++ c ∷ []) (at + len_utf8 c) r.pairs r.name r.value r.gap r.start r.place
Next base before seen c cs at from (Err fault) = from ≡ Err fault → Says base before (seen ++ c ∷ cs) (Err fault)

next_bare : (base : ℕ) (before : Told) (seen : List ℕ) (at c : ℕ) (cs : List ℕ) (pairs : Told) (name value gap : List ℕ) (start : ℕ) (place : PairsProgress) (n : List ℕ) (v : Value)
    → (was : Stands base before seen at pairs name value gap start place) → IsNamed (base + size (listed was.front ++ was.white)) start n name → IsValue v
    → was.going ≡ n ++ 61 ∷ value_written v → value ≡ value_told v
    → (is_bare c ≡ true
    → Next base before seen c cs at (after at c (reached pairs name value gap start place)) (Ok (with_bare c (reached pairs name value gap start place))))
    → Next base before seen c cs at (after at c (reached pairs name value gap start place)) (in_bare c (reached pairs name value gap start place))
next_bare base before seen at c cs pairs name value gap start place n v was named is going value_is on =
    let r = reached pairs name value gap start place in
    cond_by (Next base before seen c cs at (after at c r)) (c == 44) (Ok (ended r)) (if is_quote c then Err (BadPair start) else Ok (with_bare c r))
    (λ comma. λ e. pair_over base before seen at c pairs name value gap start place n v was named is going value_is (eq_true c 44 comma))
    (λ other. cond_by (Next base before seen c cs at (after at c r)) (is_quote c) (Err (BadPair start)) (Ok (with_bare c r))
    (λ quote. λ e. bad_named base before seen at pairs name value gap start place (c ∷ cs) n (61 ∷ value_written v) was named going
    (ap (goes_on (at + len_utf8 c) cs) e))
    (λ plain. on (ap not (neither (c == 44) (is_quote c) other plain))))

-- white space is neither a comma nor a quote
pub blank_bare : (white : List ℕ) → is_blank white ≡ true → list_all is_bare white ≡ true
blank_bare [] is = refl
blank_bare (c ∷ white) is =
    let both = and_parts (is_white c) (is_blank white) is in
    let no = white_not c both.0 in
    and_from (is_bare c) (list_all is_bare white) (ap not (neither (c == 44) (is_quote c) no.2 no.3)) (blank_bare white both.1)

ends_last : (cs : List ℕ) (c : ℕ) → ends_white (cs ++ c ∷ []) ≡ is_white c
ends_last [] c = refl
ends_last (d ∷ []) c = refl
ends_last (d ∷ e ∷ cs) c = ends_last (e ∷ cs) c

begins_first : (cs more : List ℕ) → cs ≢ [] → begins_white (cs ++ more) ≡ begins_white cs
begins_first [] more some = absurd (some refl)
begins_first (c ∷ cs) more some = refl

encodes_more : (n : List ℕ) (c : ℕ) → encode_utf8_all (n ++ c ∷ []) ≡ encode_utf8_all n ++ encode_utf8 c
encodes_more n c = encodes-append n (c ∷ []) ∙ ap (λ back. encode_utf8_all n ++ back) (append-nil (encode_utf8 c))

-- the first character of a bare value
bare_begins : (base : ℕ) (before : Told) (seen : List ℕ) (at c : ℕ) (pairs : Told) (name value gap : List ℕ) (start : ℕ) (place : PairsProgress) (n lead : List ℕ)
    → (was : Stands base before seen at pairs name value gap start place) → IsNamed (base + size (listed was.front ++ was.white)) start n name → is_blank lead ≡ true
    → was.going ≡ n ++ 61 ∷ lead → value ≡ [] → gap ≡ [] → is_bare c ≡ true → is_white c ≡ false
    → after at c (reached pairs name value gap start place) ≡ Ok (with_bare c (reached pairs name value gap start place))
    → Stands base before (seen ++ c ∷ []) (at + len_utf8 c) pairs name ((value ++ gap) ++ encode_utf8 c) [] start here.Bare
bare_begins base before seen at c pairs name value gap start place n lead was named blank going value_is gap_is bare other e =
    grows base before seen at c pairs name value gap start place name ((value ++ gap) ++ encode_utf8 c) [] start here.Bare was e (
      n,
      lead,
      c ∷ [],
      [],
      named,
      (blank, and_from (is_bare c) true bare refl, other, other, refl, (λ none. refl)),
      (λ none. cc),
      ap (λ g. g ++ c ∷ []) going ∙ append_assoc n (61 ∷ lead) (c ∷ []),
      ap (λ v. (v ++ gap) ++ encode_utf8 c) value_is ∙ ap (λ g. g ++ encode_utf8 c) gap_is ∙ sym (append-nil (encode_utf8 c)),
      refl,
    )

step : (base : ℕ) (before : Told) (seen : List ℕ) (at c : ℕ) (cs : List ℕ) (pairs : Told) (name value gap : List ℕ) (start : ℕ) (place : PairsProgress)
    → Stands base before seen at pairs name value gap start place
    → Next base before seen c cs at (after at c (reached pairs name value gap start place)) (after_at place at c (reached pairs name value gap start place))
step base before seen at c cs pairs name value gap start here.Before was =
    let r = reached pairs name value gap start here.Before in
    let one : c ∷ [] ≡ was.going ++ c ∷ [] = ap (λ g. g ++ c ∷ []) (sym was.is) in
    let begin : at ≡ base + size (listed was.front ++ was.white)
    = omega (arith, was.at_is, ap size was.cut, ap size (ap (λ g. listed was.front ++ (was.white ++ g)) was.is ∙ ap (λ w. listed was.front ++ w) (append-nil was.white))) in
    cond_by (Next base before seen c cs at (after at c r)) (is_white c) (Ok r) (if is_name_char c then Ok (begun at c r) else Err (BadPair at))
    (λ is. λ e. more_white base before seen at c pairs name value gap start was is e)
    (λ other. cond_by (Next base before seen c cs at (after at c r)) (is_name_char c) (Ok (begun at c r)) (Err (BadPair at))
    (λ is. λ e. grows base before seen at c pairs name value gap start here.Before (encode_utf8 c) [] [] at here.Name was e (
      subst (λ (g : List ℕ). IsNamed (base + size (listed was.front ++ was.white)) at g (encode_utf8 c)) one (record {
        begins = begin;
        some = λ none. cc;
        all = and_from (is_name_char c) true is refl;
        name_is = sym (append-nil (encode_utf8 c));
      }),
      refl,
      refl,
    ))
    (λ no_name. λ e. bad base before seen at pairs name value gap start here.Before (c ∷ cs) at was begin
    (λ none. let wrong : c ∷ cs ≡ [] = ap (λ g. g ++ c ∷ cs) (sym was.is) ∙ none in cc)
    (ap (λ g. begins_white (g ++ c ∷ cs)) was.is ∙ other) (ap (goes_on (at + len_utf8 c) cs) e)))
step base before seen at c cs pairs name value gap start here.Name was =
    let r = reached pairs name value gap start here.Name in
    let named = was.is.0 in
    cond_by (Next base before seen c cs at (after at c r)) (c == 61) (Ok (moved here.Equals r)) (if is_name_char c then Ok (with_name c r) else Err (BadPair start))
    (λ is. λ e. grows base before seen at c pairs name value gap start here.Name name value gap start here.Equals was e
    (was.going, named, ap (λ d. was.going ++ d ∷ []) (eq_true c 61 is), was.is.1, was.is.2))
    (λ other. cond_by (Next base before seen c cs at (after at c r)) (is_name_char c) (Ok (with_name c r)) (Err (BadPair start))
    (λ is. λ e. grows base before seen at c pairs name value gap start here.Name (name ++ encode_utf8 c) value gap start here.Name was e (
      record {
        begins = named.begins;
        some = λ none. absurd (omega (arith, ap length none, length-append was.going (c ∷ [])));
        all = list_all-append is_name_char was.going (c ∷ []) ∙ and_from (list_all is_name_char was.going) (list_all is_name_char (c ∷ [])) named.all (and_from (is_name_char c) true is refl);
        name_is = ap (λ x. x ++ encode_utf8 c) named.name_is ∙ sym (encodes_more was.going c);
      },
      was.is.1,
      was.is.2,
    ))
    (λ no_name. λ e. bad_named base before seen at pairs name value gap start here.Name (c ∷ cs) was.going [] was named (sym (append-nil was.going))
    (ap (goes_on (at + len_utf8 c) cs) e)))
step base before seen at c cs pairs name value gap start here.Equals was =
    let r = reached pairs name value gap start here.Equals in
    let s = was.is in
    let spells : was.going ++ c ∷ [] ≡ s.0 ++ 61 ∷ c ∷ [] = ap (λ g. g ++ c ∷ []) s.2 ∙ append_assoc s.0 (61 ∷ []) (c ∷ []) in
    cond_by (Next base before seen c cs at (after at c r)) (c == 34) (Ok (moved here.Double r)) _
    (λ is. λ e. grows base before seen at c pairs name value gap start here.Equals name value gap start here.Double was e
    (s.0, [], s.1, refl, spells ∙ ap (λ d. s.0 ++ 61 ∷ d ∷ []) (eq_true c 34 is), s.3))
    (λ double. cond_by (Next base before seen c cs at (after at c r)) (c == 39) (Ok (moved here.Single r)) _
    (λ is. λ e. grows base before seen at c pairs name value gap start here.Equals name value gap start here.Single was e
    (s.0, [], s.1, refl, spells ∙ ap (λ d. s.0 ++ 61 ∷ d ∷ []) (eq_true c 39 is), s.3))
    (λ single. cond_by (Next base before seen c cs at (after at c r)) (is_white c) (Ok (moved here.BeforeValue r)) (in_bare c r)
    (λ is. λ e. grows base before seen at c pairs name value gap start here.Equals name value gap start here.BeforeValue was e
    (s.0, c ∷ [], s.1, and_from (is_white c) true is refl, spells, s.3, s.4))
    (λ other. next_bare base before seen at c cs pairs name value gap start here.Equals s.0 (Bare [] [] []) was s.1
    (refl, refl, refl, refl, refl, (λ none. refl)) s.2 s.3
    (λ bare e. bare_begins base before seen at c pairs name value gap start here.Equals s.0 [] was s.1 refl s.2 s.3 s.4 bare other e))))
step base before seen at c cs pairs name value gap start here.BeforeValue was =
    let r = reached pairs name value gap start here.BeforeValue in
    let s = was.is in
    cond_by (Next base before seen c cs at (after at c r)) (is_white c) (Ok r) (in_bare c r)
    (λ is. λ e. grows base before seen at c pairs name value gap start here.BeforeValue name value gap start here.BeforeValue was e
    (s.0, s.1 ++ c ∷ [], s.2, blank_more s.1 c s.3 is, ap (λ g. g ++ c ∷ []) s.4 ∙ append_assoc s.0 (61 ∷ s.1) (c ∷ []), s.5, s.6))
    (λ other. next_bare base before seen at c cs pairs name value gap start here.BeforeValue s.0 (Bare s.1 [] []) was s.2
    (s.3, refl, refl, refl, refl, (λ none. refl)) (s.4 ∙ ap (λ l. s.0 ++ 61 ∷ l) (sym (append-nil s.1))) s.5
    (λ bare e. bare_begins base before seen at c pairs name value gap start here.BeforeValue s.0 s.1 was s.2 s.3 s.4 s.5 s.6 bare other e))
step base before seen at c cs pairs name value gap start here.Bare was =
    let r = reached pairs name value gap start here.Bare in
    let s = was.is in
    let v = s.5 in
    let spells : was.going ++ c ∷ [] ≡ s.0 ++ 61 ∷ (s.1 ++ ((s.2 ++ s.3) ++ c ∷ []))
    = ap (λ g. g ++ c ∷ []) s.7 ∙ append_assoc s.0 (61 ∷ (s.1 ++ (s.2 ++ s.3))) (c ∷ []) ∙ ap (λ back. s.0 ++ 61 ∷ back) (append_assoc s.1 (s.2 ++ s.3) (c ∷ [])) in
    cond_by (Next base before seen c cs at (after at c r)) (is_white c) (Ok (with_gap c r)) (in_bare c r)
    (λ is. λ e. grows base before seen at c pairs name value gap start here.Bare name value (gap ++ encode_utf8 c) start here.Bare was e (
      s.0,
      s.1,
      s.2,
      s.3 ++ c ∷ [],
      s.4,
      (v.0, v.1, v.2, v.3, blank_more s.3 c v.4 is, (λ none. absurd (s.6 none))),
      s.6,
      spells ∙ ap (λ back. s.0 ++ 61 ∷ (s.1 ++ back)) (append_assoc s.2 s.3 (c ∷ [])),
      s.8,
      ap (λ g. g ++ encode_utf8 c) s.9 ∙ sym (encodes_more s.3 c),
    ))
    (λ other. next_bare base before seen at c cs pairs name value gap start here.Bare s.0 (Bare s.1 s.2 s.3) was s.4 v s.7 s.8
    (λ bare e. grows base before seen at c pairs name value gap start here.Bare name ((value ++ gap) ++ encode_utf8 c) [] start here.Bare was e (
      s.0,
      s.1,
      (s.2 ++ s.3) ++ c ∷ [],
      [],
      s.4,
      (
        v.0,
        list_all-append is_bare (s.2 ++ s.3) (c ∷ [])
            ∙ and_from (list_all is_bare (s.2 ++ s.3)) (list_all is_bare (c ∷ []))
            (list_all-append is_bare s.2 s.3 ∙ and_from (list_all is_bare s.2) (list_all is_bare s.3) v.1 (blank_bare s.3 v.4)) (and_from (is_bare c) true bare refl),
        ap begins_white (append_assoc s.2 s.3 (c ∷ [])) ∙ begins_first s.2 (s.3 ++ c ∷ []) s.6 ∙ v.2,
        ends_last (s.2 ++ s.3) c ∙ other,
        refl,
        (λ none. refl),
      ),
      (λ none. absurd (omega (arith, ap length none, length-append (s.2 ++ s.3) (c ∷ [])))),
      spells ∙ ap (λ back. s.0 ++ 61 ∷ (s.1 ++ back)) (sym (append-nil ((s.2 ++ s.3) ++ c ∷ []))),
      ap (λ x. (x ++ gap) ++ encode_utf8 c) s.8 ∙ ap (λ g. (encode_utf8_all s.2 ++ g) ++ encode_utf8 c) s.9
          ∙ ap (λ x. x ++ encode_utf8 c) (sym (encodes-append s.2 s.3)) ∙ sym (encodes_more (s.2 ++ s.3) c),
      refl,
    )))
step base before seen at c cs pairs name value gap start here.Single was =
    let r = reached pairs name value gap start here.Single in
    let s = was.is in
    let spells : was.going ++ c ∷ [] ≡ s.0 ++ 61 ∷ 39 ∷ (s.1 ++ c ∷ []) = ap (λ g. g ++ c ∷ []) s.4 ∙ append_assoc s.0 (61 ∷ 39 ∷ s.1) (c ∷ []) in
    cond_by (Next base before seen c cs at (after at c r)) (c == 39) (Ok (moved here.Closed r)) (Ok (with_quoted c r))
    (λ is. λ e. grows base before seen at c pairs name value gap start here.Single name value gap start here.Closed was e
    (s.0, 39, s.1, [], s.2, (refl, s.3, refl), spells ∙ ap (λ d. s.0 ++ 61 ∷ 39 ∷ (s.1 ++ d ∷ [])) (eq_true c 39 is), s.5))
    (λ other. λ e. grows base before seen at c pairs name value gap start here.Single name (value ++ encode_utf8 c) gap start here.Single was e (
      s.0,
      s.1 ++ c ∷ [],
      s.2,
      list_all-append (λ d. not (d == 39)) s.1 (c ∷ [])
          ∙ and_from (list_all (λ d. not (d == 39)) s.1) (list_all (λ d. not (d == 39)) (c ∷ [])) s.3 (and_from (not (c == 39)) true (ap not other) refl),
      spells,
      ap (λ x. x ++ encode_utf8 c) s.5 ∙ sym (encodes_more s.1 c),
    ))
step base before seen at c cs pairs name value gap start here.Double was =
    let r = reached pairs name value gap start here.Double in
    let s = was.is in
    let spells : was.going ++ c ∷ [] ≡ s.0 ++ 61 ∷ 34 ∷ (s.1 ++ c ∷ []) = ap (λ g. g ++ c ∷ []) s.4 ∙ append_assoc s.0 (61 ∷ 34 ∷ s.1) (c ∷ []) in
    cond_by (Next base before seen c cs at (after at c r)) (c == 34) (Ok (moved here.Closed r)) (Ok (with_quoted c r))
    (λ is. λ e. grows base before seen at c pairs name value gap start here.Double name value gap start here.Closed was e
    (s.0, 34, s.1, [], s.2, (refl, s.3, refl), spells ∙ ap (λ d. s.0 ++ 61 ∷ 34 ∷ (s.1 ++ d ∷ [])) (eq_true c 34 is), s.5))
    (λ other. λ e. grows base before seen at c pairs name value gap start here.Double name (value ++ encode_utf8 c) gap start here.Double was e (
      s.0,
      s.1 ++ c ∷ [],
      s.2,
      list_all-append (λ d. not (d == 34)) s.1 (c ∷ [])
          ∙ and_from (list_all (λ d. not (d == 34)) s.1) (list_all (λ d. not (d == 34)) (c ∷ [])) s.3 (and_from (not (c == 34)) true (ap not other) refl),
      spells,
      ap (λ x. x ++ encode_utf8 c) s.5 ∙ sym (encodes_more s.1 c),
    ))
step base before seen at c cs pairs name value gap start here.Closed was =
    let r = reached pairs name value gap start here.Closed in
    let s = was.is in
    let v = s.5 in
    cond_by (Next base before seen c cs at (after at c r)) (is_white c) (Ok r) (if c == 44 then Ok (ended r) else Err (BadPair start))
    (λ is. λ e. grows base before seen at c pairs name value gap start here.Closed name value gap start here.Closed was e (
      s.0,
      s.1,
      s.2,
      s.3 ++ c ∷ [],
      s.4,
      (v.0, v.1, blank_more s.3 c v.2 is),
      ap (λ g. g ++ c ∷ []) s.6 ∙ append_assoc s.0 (61 ∷ (s.1 ∷ (s.2 ++ s.1 ∷ s.3))) (c ∷ [])
          ∙ ap (λ back. s.0 ++ 61 ∷ (s.1 ∷ back)) (append_assoc s.2 (s.1 ∷ s.3) (c ∷ [])),
      s.7,
    ))
    (λ other. cond_by (Next base before seen c cs at (after at c r)) (c == 44) (Ok (ended r)) (Err (BadPair start))
    (λ comma. λ e. pair_over base before seen at c pairs name value gap start here.Closed s.0 (Quoted s.1 s.2 s.3) was s.4 v s.6 s.7 (eq_true c 44 comma))
    (λ none. λ e. bad_named base before seen at pairs name value gap start here.Closed (c ∷ cs) s.0 (61 ∷ (s.1 ∷ (s.2 ++ s.1 ∷ s.3))) was s.4 s.6
    (ap (goes_on (at + len_utf8 c) cs) e)))

-- where the characters end after a value
over : (base : ℕ) (before : Told) (seen : List ℕ) (at : ℕ) (pairs : Told) (name value gap : List ℕ) (start : ℕ) (place : PairsProgress) (n : List ℕ) (v : Value)
    → (was : Stands base before seen at pairs name value gap start place) → IsNamed (base + size (listed was.front ++ was.white)) start n name → IsValue v
    → was.going ≡ n ++ 61 ∷ value_written v → value ≡ value_told v → Says base before (seen ++ []) (Ok (pairs ++ (name, value) ∷ []))
over base before seen at pairs name value gap start place n v was named is going value_is = (
  was.front,
  One (one_pair was.white n v),
  append-nil seen ∙ was.cut ∙ ap (λ g. listed was.front ++ (was.white ++ g)) going,
  was.are,
  (was.blank, named.some, named.all, is),
  ap (λ ps. ps ++ (name, value) ∷ []) was.pairs_are ∙ append_assoc before (map told was.front) ((name, value) ∷ [])
      ∙ ap (λ x. before ++ (map told was.front ++ (x, value) ∷ [])) named.name_is
      ∙ ap (λ x. before ++ (map told was.front ++ (encode_utf8_all n, x) ∷ [])) value_is,
)

closing : (base : ℕ) (before : Told) (seen : List ℕ) (at : ℕ) (pairs : Told) (name value gap : List ℕ) (start : ℕ) (place : PairsProgress)
    → Stands base before seen at pairs name value gap start place → Says base before (seen ++ []) (closed (reached pairs name value gap start place))
closing base before seen at pairs name value gap start here.Before was = (
  was.front,
  Nothing was.white,
  append-nil seen ∙ was.cut ∙ ap (λ g. listed was.front ++ (was.white ++ g)) was.is ∙ ap (λ w. listed was.front ++ w) (append-nil was.white),
  was.are,
  was.blank,
  was.pairs_are ∙ ap (λ ps. before ++ ps) (sym (append-nil (map told was.front))),
)
closing base before seen at pairs name value gap start here.Name was =
    bad_named base before seen at pairs name value gap start here.Name [] was.going [] was was.is.0 (sym (append-nil was.going)) refl
closing base before seen at pairs name value gap start here.Equals was =
    let s = was.is in
    over base before seen at pairs name value gap start here.Equals s.0 (Bare [] [] []) was s.1 (refl, refl, refl, refl, refl, (λ none. refl)) s.2 s.3
closing base before seen at pairs name value gap start here.BeforeValue was =
    let s = was.is in
    over base before seen at pairs name value gap start here.BeforeValue s.0 (Bare s.1 [] []) was s.2 (s.3, refl, refl, refl, refl, (λ none. refl))
    (s.4 ∙ ap (λ l. s.0 ++ 61 ∷ l) (sym (append-nil s.1))) s.5
closing base before seen at pairs name value gap start here.Bare was =
    let s = was.is in
    over base before seen at pairs name value gap start here.Bare s.0 (Bare s.1 s.2 s.3) was s.4 s.5 s.7 s.8
closing base before seen at pairs name value gap start here.Single was =
    let s = was.is in
    bad_named base before seen at pairs name value gap start here.Single [] s.0 (61 ∷ 39 ∷ s.1) was s.2 s.4 refl
closing base before seen at pairs name value gap start here.Double was =
    let s = was.is in
    bad_named base before seen at pairs name value gap start here.Double [] s.0 (61 ∷ 34 ∷ s.1) was s.2 s.4 refl
closing base before seen at pairs name value gap start here.Closed was =
    let s = was.is in
    over base before seen at pairs name value gap start here.Closed s.0 (Quoted s.1 s.2 s.3) was s.4 s.5 s.6 s.7

goes : (base : ℕ) (before : Told) (seen : List ℕ) (at c : ℕ) (cs : List ℕ) (from res : Result Reached PairFault)
    → Next base before seen c cs at from res → from ≡ res
    → ((r : Reached) → Stands base before (seen ++ c ∷ []) (at + len_utf8 c) r.pairs r.name r.value r.gap r.start r.place
    → Says base before ((seen ++ c ∷ []) ++ cs) (gives (at + len_utf8 c) cs r))
    → Says base before (seen ++ c ∷ cs) (goes_on (at + len_utf8 c) cs res)
goes base before seen at c cs from (Ok r) next e again =
    subst (λ (all : List ℕ). Says base before all (gives (at + len_utf8 c) cs r)) (append_assoc seen (c ∷ []) cs) (again r (next e))
goes base before seen at c cs from (Err fault) next e again = next e

answer : (base : ℕ) (before : Told) (cs seen : List ℕ) (at : ℕ) (pairs : Told) (name value gap : List ℕ) (start : ℕ) (place : PairsProgress)
    → Stands base before seen at pairs name value gap start place
    → Says base before (seen ++ cs) (gives at cs (reached pairs name value gap start place))
answer base before [] seen at pairs name value gap start place was = closing base before seen at pairs name value gap start place was
answer base before (c ∷ cs) seen at pairs name value gap start place was =
    goes base before seen at c cs (after at c (reached pairs name value gap start place)) (after_at place at c (reached pairs name value gap start place))
    (step base before seen at c cs pairs name value gap start place was) refl
    (λ r now. answer base before cs (seen ++ c ∷ []) (at + len_utf8 c) r.pairs r.name r.value r.gap r.start r.place now)

begin_stands : (base : ℕ) (pairs : Told) → Stands base pairs [] base pairs [] [] [] 0 here.Before
begin_stands base pairs = record {
  front = [];
  white = [];
  going = [];
  cut = refl;
  are = tt;
  pairs_are = sym (append-nil pairs);
  blank = refl;
  at_is = omega arith;
  is = refl;
  same = λ more. moved_to (base + 0) base more (fresh pairs) (omega arith);
}

says : (base : ℕ) (cs : List ℕ) (pairs : Told) → Says base pairs cs (gives base cs (fresh pairs))
says base cs pairs = answer base pairs cs [] base pairs [] [] [] 0 here.Before (begin_stands base pairs)

-- pairs have a cut
pub pairs_cut : (text : List ℕ) (pairs : Told) → pairs_of text ≡ Ok pairs → HasPairs text pairs
pairs_cut text pairs e =
    let s = subst (λ (res : Result Told PairFault). Says 0 [] (chars text) res) e (says 0 (chars text) []) in
    record { front = s.0; last = s.1; cut = s.2; are = s.3; is = s.4; pairs_are = s.5 }

-- a fault is the first bad pair
pub bad_pair_cut : (text : List ℕ) (place : ℕ) → pairs_of text ≡ Err (BadPair place) → HasBadPair text place
bad_pair_cut text place e =
    let s = subst (λ (res : Result Told PairFault). Says 0 [] (chars text) res) e (says 0 (chars text) []) in
    record {
      front = s.front;
      white = s.white;
      rest = s.rest;
      cut = s.cut;
      are = s.are;
      blank = s.blank;
      some = s.some;
      begins = s.begins;
      bad = s.bad;
      place_is = omega (arith, s.place_is);
    }

same_blank : (white other rest more : List ℕ) → is_blank white ≡ true → is_blank other ≡ true → rest ≢ [] → more ≢ [] → begins_white rest ≡ false
    → begins_white more ≡ false → white ++ rest ≡ other ++ more → white ≡ other
same_blank [] [] rest more blank blank' some some' first first' same = refl
same_blank [] (d ∷ other) rest more blank blank' some some' first first' same =
    absurd (both_ways (is_white d) (and_parts (is_white d) (is_blank other) blank').0 (ap begins_white (sym same) ∙ first))
same_blank (c ∷ white) [] rest more blank blank' some some' first first' same =
    absurd (both_ways (is_white c) (and_parts (is_white c) (is_blank white) blank).0 (ap begins_white same ∙ first'))
same_blank (c ∷ white) (d ∷ other) rest more blank blank' some some' first first' same =
    let heads : c ≡ d = cc in
    let tails : white ++ rest ≡ other ++ more = cc in
    cc (heads, same_blank white other rest more (and_parts (is_white c) (is_blank white) blank).1 (and_parts (is_white d) (is_blank other) blank').1 some some' first first' tails)

no_front : (front : List Pair) (cs more : List ℕ) → BeginsNoPair cs → ArePairs front → cs ≡ listed front ++ more → (front ≡ []) × (cs ≡ more)
no_front [] cs more none are same = (refl, same)
no_front (pair ∷ front) cs more none are same =
    absurd (none.none pair (listed front ++ more) are.0
    (same ∙ append_assoc (written pair ++ 44 ∷ []) (listed front) more ∙ append_assoc (written pair) (44 ∷ []) (listed front ++ more)))

none_there : (base : ℕ) (pairs : Told) (white rest : List ℕ) (res : Result Told PairFault) → is_blank white ≡ true → rest ≢ [] → begins_white rest ≡ false
    → BeginsNoPair (white ++ rest) → Says base pairs (white ++ rest) res → res ≡ Err (BadPair (base + size white))
none_there base pairs white rest (Ok told_pairs) blank some first none s =
    absurd (none.last s.1 s.4 (no_front s.0 (white ++ rest) (last_written s.1) none s.3 s.2).1)
none_there base pairs white rest (Err (BadPair place)) blank some first none s =
    let here_is = no_front s.front (white ++ rest) (s.white ++ s.rest) none s.are s.cut in
    let same = same_blank white s.white rest s.rest blank s.blank some s.some first s.begins here_is.1 in
    let placed : place ≡ base + size white
    = s.place_is ∙ ap (λ front. base + size (listed front ++ s.white)) here_is.0 ∙ ap (λ w. base + size w) (sym same) in
    ap (λ n. Err (BadPair n)) placed
none_there base pairs white rest (Err OutOfMemory) blank some first none s = absurd s

-- the first bad pair of a text is its fault
pub cut_bad_pair : (text : List ℕ) (place : ℕ) → HasBadPair text place → pairs_of text ≡ Err (BadPair place)
cut_bad_pair text place has =
    let base = 0 + size (listed has.front) in
    let pairs = map told has.front in
    ap (λ cs. gives 0 cs (fresh [])) has.cut ∙ pairs_read has.front (has.white ++ has.rest) 0 [] has.are
    ∙ none_there base pairs has.white has.rest (gives base (has.white ++ has.rest) (fresh pairs)) has.blank has.some has.begins has.bad
    (says base (has.white ++ has.rest) pairs)
    ∙ ap (λ n. Err (BadPair n)) (omega (arith, has.place_is, size_append (listed has.front) has.white))

-- of an answer the definition holds
pub first_bad : (text : List ℕ) (fault : PairFault) → IsFault fault (pairs_of text) → IsFirstBad text fault
first_bad text (BadPair place) e = bad_pair_cut text place e
first_bad text OutOfMemory e = tt
