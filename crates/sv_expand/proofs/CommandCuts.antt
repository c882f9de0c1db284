-- A text has words exactly where it has a cut into gaps and pieces.
use Rattle.std.proofs.Common.{◌≡◌, ◌==◌, ℕ, List, [], ◌∷◌, ◌++◌, true, false, not, ◌&&◌, refl, ◌∙◌, ap, sym, subst, inl, inr, append_assoc, append-nil}
use Rattle.std.proofs.lemmas.Bool.{and_parts, and_from}
use Rattle.std.proofs.lemmas.Grind.{flat_map-append}
use Rattle.std.proofs.lemmas.List.Folds.{list_all-append}
use Rattle.std.proofs.lemmas.Str.{encodes-append}
use Rattle.std.specs.Prelude.{Option, Some, None, encode_utf8, encode_utf8_all, if◌then◌else◌}
use Rattle.std.specs.List.{flat_map}
use Rattle.std.specs.Str.{chars}
use Rattle.sv_expand.proofs.Choices.{cond_by, eq_true, not_true, or_false, neither}
use Rattle.sv_expand.specs.WordCuts.{Part, Quoted, written, written_all, quoted_written, is_escaped, is_single, is_plain, IsQuoted, AreQuoted, IsPart, AreParts, value, quoted_value, with_piece, told, HasWords, IsOpen, HasOpenQuote}
use Rattle.sv_expand.specs.WordCuts.Part.{Gap, Plain, Kept, Single, Double}
use Rattle.sv_expand.specs.WordCuts.Quoted.{Itself, Escaped, Both}
use Rattle.sv_expand.specs.Words.{Reached, parts_words, moved, with_char, ended, outside, after, after_at, after_all, closed, words_of, at_start}
use Rattle.sv_expand.specs.declared.split.WordsProgress.{WordsProgress}
use Rattle.sv_expand.specs.declared.split.WordsProgress.TheVariants as here

abbrev state : List (List ℕ) → List ℕ → WordsProgress → Reached
state words word place = record { words = words; word = word; place = place }

-- outside quotes: between words, or in a word
data Spot : Type 0 where
  Off : (words : List (List ℕ)) → Spot
  On : (words : List (List ℕ)) (word : List ℕ) → Spot

abbrev state_of : Spot → Reached
state_of (Off words) = state words [] here.Between
state_of (On words word) = state words word here.Bare

abbrev words_at : Spot → List (List ℕ)
words_at (Off words) = words
words_at (On words word) = words

abbrev word_at : Spot → List ℕ
word_at (Off words) = []
word_at (On words word) = word

-- the words of a text that goes on there with these parts
abbrev behind : Spot → List Part → List (List ℕ)
behind (Off words) more = words ++ told more
behind (On words word) more = words ++ with_piece word more (told more)

abbrev after_part : Part → Spot → Spot
after_part (Gap c) (Off words) = Off words
after_part (Gap c) (On words word) = Off (words ++ word ∷ [])
after_part part (Off words) = On words (value part)
after_part part (On words word) = On words (word ++ value part)

abbrev after_parts : List Part → Spot → Spot
after_parts [] spot = spot
after_parts (part ∷ parts) spot = after_parts parts (after_part part spot)

abbrev IsPiece : Part → Type 0
IsPiece (Gap c) = ⊥
IsPiece part = Unit {0}

on_piece : (part : Part) (spot : Spot) → IsPiece part → after_part part spot ≡ On (words_at spot) (word_at spot ++ value part)
on_piece (Gap c) spot is = absurd is
on_piece (Plain c) (Off words) is = refl
on_piece (Plain c) (On words word) is = refl
on_piece (Kept c) (Off words) is = refl
on_piece (Kept c) (On words word) is = refl
on_piece (Single cs) (Off words) is = refl
on_piece (Single cs) (On words word) is = refl
on_piece (Double quoted) (Off words) is = refl
on_piece (Double quoted) (On words word) is = refl

-- what parts tell

join_end : (word piece : List ℕ) (parts : List Part) (words : List (List ℕ))
    → with_piece word (Kept 0 ∷ parts) (with_piece piece parts words) ≡ with_piece (word ++ piece) parts words
join_end word piece [] words = refl
join_end word piece (Gap c ∷ parts) words = refl
join_end word piece (Plain c ∷ parts) [] = refl
join_end word piece (Plain c ∷ parts) (first ∷ words) = ap (λ w. w ∷ words) (sym (append_assoc word piece first))
join_end word piece (Kept c ∷ parts) [] = refl
join_end word piece (Kept c ∷ parts) (first ∷ words) = ap (λ w. w ∷ words) (sym (append_assoc word piece first))
join_end word piece (Single cs ∷ parts) [] = refl
join_end word piece (Single cs ∷ parts) (first ∷ words) = ap (λ w. w ∷ words) (sym (append_assoc word piece first))
join_end word piece (Double quoted ∷ parts) [] = refl
join_end word piece (Double quoted ∷ parts) (first ∷ words) = ap (λ w. w ∷ words) (sym (append_assoc word piece first))

-- only gaps part words
alike : (part : Part) (word : List ℕ) (parts : List Part) (words : List (List ℕ)) → IsPiece part
    → with_piece word (part ∷ parts) words ≡ with_piece word (Kept 0 ∷ parts) words
alike (Gap c) word parts words is = absurd is
alike (Plain c) word parts [] is = refl
alike (Plain c) word parts (first ∷ words) is = refl
alike (Kept c) word parts [] is = refl
alike (Kept c) word parts (first ∷ words) is = refl
alike (Single cs) word parts [] is = refl
alike (Single cs) word parts (first ∷ words) is = refl
alike (Double quoted) word parts [] is = refl
alike (Double quoted) word parts (first ∷ words) is = refl

told_piece : (part : Part) (more : List Part) → IsPiece part → told (part ∷ more) ≡ with_piece (value part) more (told more)
told_piece (Gap c) more is = absurd is
told_piece (Plain c) more is = refl
told_piece (Kept c) more is = refl
told_piece (Single cs) more is = refl
told_piece (Double quoted) more is = refl

piece_told : (part : Part) (spot : Spot) (more : List Part) → IsPiece part
    → behind spot (part ∷ more) ≡ behind (On (words_at spot) (word_at spot ++ value part)) more
piece_told part (Off words) more is = ap (λ ws. words ++ ws) (told_piece part more is)
piece_told part (On words word) more is =
    ap (λ ws. words ++ ws)
    (alike part word more (told (part ∷ more)) is ∙ ap (with_piece word (Kept 0 ∷ more)) (told_piece part more is)
    ∙ join_end word (value part) more (told more))

part_told : (part : Part) (spot : Spot) (more : List Part) → behind spot (part ∷ more) ≡ behind (after_part part spot) more
part_told (Gap c) (Off words) more = refl
part_told (Gap c) (On words word) more = sym (append_assoc words (word ∷ []) (told more))
part_told (Plain c) spot more = piece_told (Plain c) spot more tt ∙ ap (λ s. behind s more) (sym (on_piece (Plain c) spot tt))
part_told (Kept c) spot more = piece_told (Kept c) spot more tt ∙ ap (λ s. behind s more) (sym (on_piece (Kept c) spot tt))
part_told (Single cs) spot more = piece_told (Single cs) spot more tt ∙ ap (λ s. behind s more) (sym (on_piece (Single cs) spot tt))
part_told (Double quoted) spot more = piece_told (Double quoted) spot more tt ∙ ap (λ s. behind s more) (sym (on_piece (Double quoted) spot tt))

parts_told : (parts : List Part) (spot : Spot) (more : List Part) → behind spot (parts ++ more) ≡ behind (after_parts parts spot) more
parts_told [] spot more = refl
parts_told (part ∷ parts) spot more = part_told part spot (parts ++ more) ∙ parts_told parts (after_part part spot) more

-- how parts are read

spot_outside : (spot : Spot) (c : ℕ) → parts_words c ≡ false → after c (state_of spot) ≡ outside c (state_of spot)
spot_outside (Off words) c other = ap (λ b. if b then state_of (Off words) else outside c (state_of (Off words))) other
spot_outside (On words word) c other = ap (λ b. if b then ended (state_of (On words word)) else outside c (state_of (On words word))) other

single_read : (cs rest : List ℕ) (words : List (List ℕ)) (word : List ℕ) → is_single cs ≡ true
    → after_all (cs ++ rest) (state words word here.Single) ≡ after_all rest (state words (word ++ encode_utf8_all cs) here.Single)
single_read [] rest words word is = ap (λ w. after_all rest (state words w here.Single)) (sym (append-nil word))
single_read (c ∷ cs) rest words word is =
    let both = and_parts (not (c == 39)) (is_single cs) is in
    ap (λ b. after_all (cs ++ rest) (if b then moved here.Bare (state words word here.Single) else with_char here.Single c (state words word here.Single))) (not_true (c == 39) both.0)
    ∙ single_read cs rest words (word ++ encode_utf8 c) both.1
    ∙ ap (λ w. after_all rest (state words w here.Single)) (append_assoc word (encode_utf8 c) (encode_utf8_all cs))

quoted_read : (quoted : Quoted) (rest : List ℕ) (words : List (List ℕ)) (word : List ℕ) → IsQuoted quoted
    → after_all (quoted_written quoted ++ rest) (state words word here.Double) ≡ after_all rest (state words (word ++ quoted_value quoted) here.Double)
quoted_read (Itself c) rest words word is =
    let r = state words word here.Double in
    let no = or_false (c == 34) (c == 92) is in
    ap (λ b. after_all rest (if b then moved here.Bare r else if c == 92 then moved here.DoubleKept r else with_char here.Double c r)) no.0
    ∙ ap (λ b. after_all rest (if b then moved here.DoubleKept r else with_char here.Double c r)) no.1
quoted_read (Escaped c) rest words word is =
    let r = state words word here.DoubleKept in
    ap (λ b. after_all rest (if b then with_char here.Double c r else with_char here.Double c (with_char here.Double 92 r))) is
quoted_read (Both c) rest words word is =
    let r = state words word here.DoubleKept in
    ap (λ b. after_all rest (if b then with_char here.Double c r else with_char here.Double c (with_char here.Double 92 r))) is
    ∙ ap (λ w. after_all rest (state words w here.Double)) (append_assoc word (encode_utf8 92) (encode_utf8 c))

all_quoted_read : (quoted : List Quoted) (rest : List ℕ) (words : List (List ℕ)) (word : List ℕ) → AreQuoted quoted
    → after_all (flat_map quoted_written quoted ++ rest) (state words word here.Double)
    ≡ after_all rest (state words (word ++ flat_map quoted_value quoted) here.Double)
all_quoted_read [] rest words word are = ap (λ w. after_all rest (state words w here.Double)) (sym (append-nil word))
all_quoted_read (first ∷ quoted) rest words word are =
    ap (λ cs. after_all cs (state words word here.Double)) (append_assoc (quoted_written first) (flat_map quoted_written quoted) rest)
    ∙ quoted_read first (flat_map quoted_written quoted ++ rest) words word are.0
    ∙ all_quoted_read quoted rest words (word ++ quoted_value first) are.1
    ∙ ap (λ w. after_all rest (state words w here.Double)) (append_assoc word (quoted_value first) (flat_map quoted_value quoted))

outside_moved : (spot : Spot) (place : WordsProgress) → moved place (state_of spot) ≡ state (words_at spot) (word_at spot) place
outside_moved (Off words) place = refl
outside_moved (On words word) place = refl

outside_char : (spot : Spot) (c : ℕ) → with_char here.Bare c (state_of spot) ≡ state (words_at spot) (word_at spot ++ encode_utf8 c) here.Bare
outside_char (Off words) c = refl
outside_char (On words word) c = refl

plain_read : (spot : Spot) (c : ℕ) → is_plain c ≡ true → after c (state_of spot) ≡ state (words_at spot) (word_at spot ++ encode_utf8 c) here.Bare
plain_read spot c is =
    let gap = and_parts (not (parts_words c)) (not (c == 39) && not (is_escaped c)) is in
    let quote = and_parts (not (c == 39)) (not (is_escaped c)) gap.1 in
    let no = or_false (c == 34) (c == 92) (not_true (is_escaped c) quote.1) in
    let r = state_of spot in
    spot_outside spot c (not_true (parts_words c) gap.0)
    ∙ ap (λ b. if b then moved here.Single r else if c == 34 then moved here.Double r else if c == 92 then moved here.Kept r else with_char here.Bare c r) (not_true (c == 39) quote.0)
    ∙ ap (λ b. if b then moved here.Double r else if c == 92 then moved here.Kept r else with_char here.Bare c r) no.0
    ∙ ap (λ b. if b then moved here.Kept r else with_char here.Bare c r) no.1
    ∙ outside_char spot c

piece_read : (part : Part) (spot : Spot) (rest : List ℕ) → IsPiece part → IsPart part
    → after_all (written part ++ rest) (state_of spot) ≡ after_all rest (state (words_at spot) (word_at spot ++ value part) here.Bare)
piece_read (Gap c) spot rest piece is = absurd piece
piece_read (Plain c) spot rest piece is = ap (after_all rest) (plain_read spot c is)
piece_read (Kept c) spot rest piece is =
    ap (λ r. after_all rest (after c r)) (spot_outside spot 92 refl ∙ outside_moved spot here.Kept)
piece_read (Single cs) spot rest piece is =
    ap (λ r. after_all ((cs ++ 39 ∷ []) ++ rest) r) (spot_outside spot 39 refl ∙ outside_moved spot here.Single)
    ∙ ap (λ all. after_all all (state (words_at spot) (word_at spot) here.Single)) (append_assoc cs (39 ∷ []) rest)
    ∙ single_read cs (39 ∷ rest) (words_at spot) (word_at spot) is
piece_read (Double quoted) spot rest piece is =
    ap (λ r. after_all ((flat_map quoted_written quoted ++ 34 ∷ []) ++ rest) r) (spot_outside spot 34 refl ∙ outside_moved spot here.Double)
    ∙ ap (λ all. after_all all (state (words_at spot) (word_at spot) here.Double)) (append_assoc (flat_map quoted_written quoted) (34 ∷ []) rest)
    ∙ all_quoted_read quoted (34 ∷ rest) (words_at spot) (word_at spot) is

gap_read : (spot : Spot) (c : ℕ) (rest : List ℕ) → parts_words c ≡ true → after_all (c ∷ rest) (state_of spot) ≡ after_all rest (state_of (after_part (Gap c) spot))
gap_read (Off words) c rest is = ap (λ b. after_all rest (if b then state_of (Off words) else outside c (state_of (Off words)))) is
gap_read (On words word) c rest is = ap (λ b. after_all rest (if b then ended (state_of (On words word)) else outside c (state_of (On words word)))) is

on_read : (part : Part) (spot : Spot) (rest : List ℕ) → IsPiece part → IsPart part
    → after_all (written part ++ rest) (state_of spot) ≡ after_all rest (state_of (after_part part spot))
on_read part spot rest piece is =
    piece_read part spot rest piece is ∙ ap (λ s. after_all rest (state_of s)) (sym (on_piece part spot piece))

part_read : (part : Part) (spot : Spot) (rest : List ℕ) → IsPart part
    → after_all (written part ++ rest) (state_of spot) ≡ after_all rest (state_of (after_part part spot))
part_read (Gap c) spot rest is = gap_read spot c rest is
part_read (Plain c) spot rest is = on_read (Plain c) spot rest tt is
part_read (Kept c) spot rest is = on_read (Kept c) spot rest tt is
part_read (Single cs) spot rest is = on_read (Single cs) spot rest tt is
part_read (Double quoted) spot rest is = on_read (Double quoted) spot rest tt is

parts_read : (parts : List Part) (spot : Spot) (rest : List ℕ) → AreParts parts
    → after_all (written_all parts ++ rest) (state_of spot) ≡ after_all rest (state_of (after_parts parts spot))
parts_read [] spot rest are = refl
parts_read (part ∷ parts) spot rest are =
    ap (λ cs. after_all cs (state_of spot)) (append_assoc (written part) (written_all parts) rest)
    ∙ part_read part spot (written_all parts ++ rest) are.0 ∙ parts_read parts (after_part part spot) rest are.1

closed_spot : (spot : Spot) → closed (state_of spot) ≡ Some (behind spot [])
closed_spot (Off words) = ap (λ ws. Some ws) (sym (append-nil words))
closed_spot (On words word) = refl

-- a text's parts tell its words
pub cut_words : (text : List ℕ) (parts : List Part) → chars text ≡ written_all parts → AreParts parts → words_of text ≡ Some (told parts)
cut_words text parts cut are =
    ap (λ cs. closed (after_all cs at_start)) (cut ∙ sym (append-nil (written_all parts)))
    ∙ ap closed (parts_read parts (Off []) [] are)
    ∙ closed_spot (after_parts parts (Off []))
    ∙ ap (λ ws. Some ws) (sym (parts_told parts (Off []) []) ∙ ap told (append-nil parts))

-- an open quote gives no words
open_none : (spot : Spot) (rest : List ℕ) → IsOpen rest → closed (after_all rest (state_of spot)) ≡ None
open_none spot rest (inl is) =
    ap (λ cs. closed (after_all cs (state_of spot))) is ∙ ap closed (spot_outside spot 92 refl ∙ outside_moved spot here.Kept)
open_none spot rest (inr (inl (cs, is, same))) =
    ap (λ cs. closed (after_all cs (state_of spot))) (same ∙ ap (λ more. 39 ∷ more) (sym (append-nil cs)))
    ∙ ap (λ r. closed (after_all (cs ++ []) r)) (spot_outside spot 39 refl ∙ outside_moved spot here.Single)
    ∙ ap closed (single_read cs [] (words_at spot) (word_at spot) is)
open_none spot rest (inr (inr (inl (quoted, are, same)))) =
    ap (λ cs. closed (after_all cs (state_of spot))) (same ∙ ap (λ more. 34 ∷ more) (sym (append-nil (flat_map quoted_written quoted))))
    ∙ ap (λ r. closed (after_all (flat_map quoted_written quoted ++ []) r)) (spot_outside spot 34 refl ∙ outside_moved spot here.Double)
    ∙ ap closed (all_quoted_read quoted [] (words_at spot) (word_at spot) are)
open_none spot rest (inr (inr (inr (quoted, are, same)))) =
    ap (λ cs. closed (after_all cs (state_of spot))) same
    ∙ ap (λ r. closed (after_all (flat_map quoted_written quoted ++ 92 ∷ []) r)) (spot_outside spot 34 refl ∙ outside_moved spot here.Double)
    ∙ ap closed (all_quoted_read quoted (92 ∷ []) (words_at spot) (word_at spot) are)

pub open_no_words : (text : List ℕ) → HasOpenQuote text → words_of text ≡ None
open_no_words text has =
    ap (λ cs. closed (after_all cs at_start)) has.cut ∙ ap closed (parts_read has.front (Off []) has.rest has.are)
    ∙ open_none (after_parts has.front (Off [])) has.rest has.ending

-- the characters of the piece that is going on after a spot
abbrev IsGoing : Spot → List ℕ → List (List ℕ) → List ℕ → WordsProgress → Type 0
IsGoing spot going words word here.Between = (going ≡ []) × (spot ≡ Off words) × (word ≡ [])
IsGoing spot going words word here.Bare = (going ≡ []) × (spot ≡ On words word)
IsGoing spot going words word here.Kept = (going ≡ 92 ∷ []) × (words ≡ words_at spot) × (word ≡ word_at spot)
IsGoing spot going words word here.Single =
    (cs : List ℕ) × (is_single cs ≡ true) × (going ≡ 39 ∷ cs) × (words ≡ words_at spot) × (word ≡ word_at spot ++ encode_utf8_all cs)
IsGoing spot going words word here.Double =
    (quoted : List Quoted) × AreQuoted quoted × (going ≡ 34 ∷ flat_map quoted_written quoted) × (words ≡ words_at spot)
    × (word ≡ word_at spot ++ flat_map quoted_value quoted)
IsGoing spot going words word here.DoubleKept =
    (quoted : List Quoted) × AreQuoted quoted × (going ≡ 34 ∷ (flat_map quoted_written quoted ++ 92 ∷ [])) × (words ≡ words_at spot)
    × (word ≡ word_at spot ++ flat_map quoted_value quoted)

record Stands (seen : List ℕ) (words : List (List ℕ)) (word : List ℕ) (place : WordsProgress) : Type 0 where
  front : List Part
  going : List ℕ
  cut : seen ≡ written_all front ++ going
  are : AreParts front
  is : IsGoing (after_parts front (Off [])) going words word place

abbrev StandsIn : List ℕ → Reached → Type 0
StandsIn seen r = Stands seen r.words r.word r.place

-- one more character of a piece
grows : (seen : List ℕ) (c : ℕ) (words : List (List ℕ)) (word : List ℕ) (place : WordsProgress) (others : List (List ℕ)) (other : List ℕ) (next : WordsProgress)
    → (was : Stands seen words word place) → IsGoing (after_parts was.front (Off [])) (was.going ++ c ∷ []) others other next
    → Stands (seen ++ c ∷ []) others other next
grows seen c words word place others other next was is = record {
  front = was.front;
  going = was.going ++ c ∷ [];
  cut = ap (λ all. all ++ c ∷ []) was.cut ∙ append_assoc (written_all was.front) was.going (c ∷ []);
  are = was.are;
  is = is;
}

are_more : (front : List Part) (part : Part) → AreParts front → IsPart part → AreParts (front ++ part ∷ [])
are_more [] part are is = (is, tt)
are_more (first ∷ front) part are is = (are.0, are_more front part are.1 is)

after_more : (front : List Part) (part : Part) (spot : Spot) → after_parts (front ++ part ∷ []) spot ≡ after_part part (after_parts front spot)
after_more [] part spot = refl
after_more (first ∷ front) part spot = after_more front part (after_part first spot)

-- a part ends
ended_at : (seen : List ℕ) (c : ℕ) (words : List (List ℕ)) (word : List ℕ) (place : WordsProgress) (part : Part) (others : List (List ℕ)) (other : List ℕ) (next : WordsProgress)
    → (was : Stands seen words word place) → IsPart part → written part ≡ was.going ++ c ∷ []
    → IsGoing (after_part part (after_parts was.front (Off []))) [] others other next
    → Stands (seen ++ c ∷ []) others other next
ended_at seen c words word place part others other next was is spells going = record {
  front = was.front ++ part ∷ [];
  going = [];
  cut = ap (λ all. all ++ c ∷ []) was.cut ∙ append_assoc (written_all was.front) was.going (c ∷ [])
      ∙ ap (λ back. written_all was.front ++ back) (sym spells ∙ sym (append-nil (written part)))
      ∙ sym (flat_map-append written was.front (part ∷ [])) ∙ sym (append-nil (written_all (was.front ++ part ∷ [])));
  are = are_more was.front part was.are is;
  is = subst (λ (spot : Spot). IsGoing spot [] others other next) (sym (after_more was.front part (Off []))) going;
}

-- a piece ends
piece_ended : (seen : List ℕ) (c : ℕ) (words : List (List ℕ)) (word : List ℕ) (place : WordsProgress) (part : Part) (other : List ℕ)
    → (was : Stands seen words word place) → IsPiece part → IsPart part → written part ≡ was.going ++ c ∷ []
    → words ≡ words_at (after_parts was.front (Off [])) → other ≡ word_at (after_parts was.front (Off [])) ++ value part
    → Stands (seen ++ c ∷ []) words other here.Bare
piece_ended seen c words word place part other was piece is spells words_are other_is =
    let spot = after_parts was.front (Off []) in
    ended_at seen c words word place part words other here.Bare was is spells
    (refl, on_piece part spot piece ∙ ap (λ ws. On ws (word_at spot ++ value part)) (sym words_are) ∙ ap (λ w. On words w) (sym other_is))

-- a character outside quotes, which parts no words
out_of_quotes : (seen : List ℕ) (c : ℕ) (words : List (List ℕ)) (word : List ℕ) (place : WordsProgress) → (was : Stands seen words word place) → was.going ≡ []
    → words ≡ words_at (after_parts was.front (Off [])) → word ≡ word_at (after_parts was.front (Off [])) → parts_words c ≡ false
    → StandsIn (seen ++ c ∷ []) (outside c (state words word place))
out_of_quotes seen c words word place was none words_are word_is apart =
    let spot = after_parts was.front (Off []) in
    let r = state words word place in
    let one : was.going ++ c ∷ [] ≡ c ∷ [] = ap (λ going. going ++ c ∷ []) none in
    cond_by (StandsIn (seen ++ c ∷ [])) (c == 39) (moved here.Single r) _
    (λ is. grows seen c words word place words word here.Single was
    ([], refl, one ∙ ap (λ d. d ∷ []) (eq_true c 39 is), words_are, word_is ∙ sym (append-nil (word_at spot))))
    (λ single. cond_by (StandsIn (seen ++ c ∷ [])) (c == 34) (moved here.Double r) _
    (λ is. grows seen c words word place words word here.Double was
    ([], tt, one ∙ ap (λ d. d ∷ []) (eq_true c 34 is), words_are, word_is ∙ sym (append-nil (word_at spot))))
    (λ double. cond_by (StandsIn (seen ++ c ∷ [])) (c == 92) (moved here.Kept r) (with_char here.Bare c r)
    (λ is. grows seen c words word place words word here.Kept was (one ∙ ap (λ d. d ∷ []) (eq_true c 92 is), words_are, word_is))
    (λ kept. piece_ended seen c words word place (Plain c) (word ++ encode_utf8 c) was tt
    (and_from (not (parts_words c)) (not (c == 39) && not (is_escaped c)) (ap not apart)
    (and_from (not (c == 39)) (not (is_escaped c)) (ap not single) (ap not (neither (c == 34) (c == 92) double kept))))
    (sym one) words_are (ap (λ w. w ++ encode_utf8 c) word_is))))

single_more : (cs : List ℕ) (c : ℕ) → is_single cs ≡ true → (c == 39) ≡ false → is_single (cs ++ c ∷ []) ≡ true
single_more cs c is other =
    list_all-append (λ d. not (d == 39)) cs (c ∷ [])
    ∙ and_from (is_single cs) (is_single (c ∷ [])) is (and_from (not (c == 39)) true (ap not other) refl)

encodes_more : (n : List ℕ) (c : ℕ) → encode_utf8_all (n ++ c ∷ []) ≡ encode_utf8_all n ++ encode_utf8 c
encodes_more n c = encodes-append n (c ∷ []) ∙ ap (λ back. encode_utf8_all n ++ back) (append-nil (encode_utf8 c))

quoted_more : (quoted : List Quoted) (last : Quoted) → AreQuoted quoted → IsQuoted last → AreQuoted (quoted ++ last ∷ [])
quoted_more [] last are is = (is, tt)
quoted_more (first ∷ quoted) last are is = (are.0, quoted_more quoted last are.1 is)

mapped_more : (f : Quoted → List ℕ) (quoted : List Quoted) (last : Quoted) → flat_map f (quoted ++ last ∷ []) ≡ flat_map f quoted ++ f last
mapped_more f quoted last = flat_map-append f quoted (last ∷ []) ∙ ap (λ back. flat_map f quoted ++ back) (append-nil (f last))

-- one thing more in double quotes
in_double : (seen : List ℕ) (c : ℕ) (words : List (List ℕ)) (word : List ℕ) (place : WordsProgress) (quoted : List Quoted) (last : Quoted) (other : List ℕ)
    → (was : Stands seen words word place) → AreQuoted quoted → IsQuoted last
    → was.going ++ c ∷ [] ≡ 34 ∷ (flat_map quoted_written quoted ++ quoted_written last)
    → words ≡ words_at (after_parts was.front (Off [])) → other ≡ (word_at (after_parts was.front (Off [])) ++ flat_map quoted_value quoted) ++ quoted_value last
    → Stands (seen ++ c ∷ []) words other here.Double
in_double seen c words word place quoted last other was are is spells words_are other_is =
    let spot = after_parts was.front (Off []) in
    grows seen c words word place words other here.Double was (
      quoted ++ last ∷ [],
      quoted_more quoted last are is,
      spells ∙ ap (λ back. 34 ∷ back) (sym (mapped_more quoted_written quoted last)),
      words_are,
      other_is ∙ append_assoc (word_at spot) (flat_map quoted_value quoted) (quoted_value last)
          ∙ ap (λ back. word_at spot ++ back) (sym (mapped_more quoted_value quoted last)),
    )

step : (seen : List ℕ) (c : ℕ) (words : List (List ℕ)) (word : List ℕ) (place : WordsProgress) → Stands seen words word place
    → StandsIn (seen ++ c ∷ []) (after_at place c (state words word place))
step seen c words word here.Between was =
    let r = state words word here.Between in
    let one : c ∷ [] ≡ was.going ++ c ∷ [] = ap (λ going. going ++ c ∷ []) (sym was.is.0) in
    cond_by (StandsIn (seen ++ c ∷ [])) (parts_words c) r (outside c r)
    (λ apart. ended_at seen c words word here.Between (Gap c) words word here.Between was apart one
    (refl, ap (after_part (Gap c)) was.is.1, was.is.2))
    (λ together. out_of_quotes seen c words word here.Between was was.is.0 (ap words_at (sym was.is.1)) (was.is.2 ∙ ap word_at (sym was.is.1)) together)
step seen c words word here.Bare was =
    let r = state words word here.Bare in
    let one : c ∷ [] ≡ was.going ++ c ∷ [] = ap (λ going. going ++ c ∷ []) (sym was.is.0) in
    cond_by (StandsIn (seen ++ c ∷ [])) (parts_words c) (ended r) (outside c r)
    (λ apart. ended_at seen c words word here.Bare (Gap c) (words ++ word ∷ []) [] here.Between was apart one
    (refl, ap (after_part (Gap c)) was.is.1, refl))
    (λ together. out_of_quotes seen c words word here.Bare was was.is.0 (ap words_at (sym was.is.1)) (ap word_at (sym was.is.1)) together)
step seen c words word here.Kept was =
    piece_ended seen c words word here.Kept (Kept c) (word ++ encode_utf8 c) was tt tt (ap (λ going. going ++ c ∷ []) (sym was.is.0)) was.is.1
    (ap (λ w. w ++ encode_utf8 c) was.is.2)
step seen c words word here.Single was =
    let r = state words word here.Single in
    let s = was.is in
    let spot = after_parts was.front (Off []) in
    cond_by (StandsIn (seen ++ c ∷ [])) (c == 39) (moved here.Bare r) (with_char here.Single c r)
    (λ is. piece_ended seen c words word here.Single (Single s.0) word was tt s.1
    (ap (λ d. 39 ∷ (s.0 ++ d ∷ [])) (sym (eq_true c 39 is)) ∙ ap (λ going. going ++ c ∷ []) (sym s.2)) s.3 s.4)
    (λ other. grows seen c words word here.Single words (word ++ encode_utf8 c) here.Single was (
      s.0 ++ c ∷ [],
      single_more s.0 c s.1 other,
      ap (λ going. going ++ c ∷ []) s.2,
      s.3,
      ap (λ w. w ++ encode_utf8 c) s.4 ∙ append_assoc (word_at spot) (encode_utf8_all s.0) (encode_utf8 c)
          ∙ ap (λ back. word_at spot ++ back) (sym (encodes_more s.0 c)),
    ))
step seen c words word here.Double was =
    let r = state words word here.Double in
    let s = was.is in
    cond_by (StandsIn (seen ++ c ∷ [])) (c == 34) (moved here.Bare r) _
    (λ is. piece_ended seen c words word here.Double (Double s.0) word was tt s.1
    (ap (λ d. 34 ∷ (flat_map quoted_written s.0 ++ d ∷ [])) (sym (eq_true c 34 is)) ∙ ap (λ going. going ++ c ∷ []) (sym s.2)) s.3 s.4)
    (λ quote. cond_by (StandsIn (seen ++ c ∷ [])) (c == 92) (moved here.DoubleKept r) (with_char here.Double c r)
    (λ is. grows seen c words word here.Double words word here.DoubleKept was
    (s.0, s.1, ap (λ going. going ++ c ∷ []) s.2 ∙ ap (λ d. 34 ∷ (flat_map quoted_written s.0 ++ d ∷ [])) (eq_true c 92 is), s.3, s.4))
    (λ slash. in_double seen c words word here.Double s.0 (Itself c) (word ++ encode_utf8 c) was s.1 (neither (c == 34) (c == 92) quote slash)
    (ap (λ going. going ++ c ∷ []) s.2) s.3 (ap (λ w. w ++ encode_utf8 c) s.4)))
step seen c words word here.DoubleKept was =
    let r = state words word here.DoubleKept in
    let s = was.is in
    let spells : was.going ++ c ∷ [] ≡ 34 ∷ (flat_map quoted_written s.0 ++ 92 ∷ c ∷ [])
    = ap (λ going. going ++ c ∷ []) s.2 ∙ ap (λ back. 34 ∷ back) (append_assoc (flat_map quoted_written s.0) (92 ∷ []) (c ∷ [])) in
    cond_by (StandsIn (seen ++ c ∷ [])) (is_escaped c) (with_char here.Double c r) (with_char here.Double c (with_char here.Double 92 r))
    (λ is. in_double seen c words word here.DoubleKept s.0 (Escaped c) (word ++ encode_utf8 c) was s.1 is spells s.3 (ap (λ w. w ++ encode_utf8 c) s.4))
    (λ is. in_double seen c words word here.DoubleKept s.0 (Both c) ((word ++ encode_utf8 92) ++ encode_utf8 c) was s.1 is spells s.3
    (append_assoc word (encode_utf8 92) (encode_utf8 c) ∙ ap (λ w. w ++ (encode_utf8 92 ++ encode_utf8 c)) s.4))

steps : (cs seen : List ℕ) (words : List (List ℕ)) (word : List ℕ) (place : WordsProgress) → Stands seen words word place
    → StandsIn (seen ++ cs) (after_all cs (state words word place))
steps [] seen words word place was = subst (λ (all : List ℕ). Stands all words word place) (sym (append-nil seen)) was
steps (c ∷ cs) seen words word place was =
    let next = after_at place c (state words word place) in
    subst (λ (all : List ℕ). StandsIn all (after_all cs next)) (append_assoc seen (c ∷ []) cs)
    (steps cs (seen ++ c ∷ []) next.words next.word next.place (step seen c words word place was))

-- what the end says
abbrev Says : List ℕ → Option (List (List ℕ)) → Type 0
Says all (Some words) = (parts : List Part) × (all ≡ written_all parts) × AreParts parts × (words ≡ told parts)
Says all None = (front : List Part) × (rest : List ℕ) × (all ≡ written_all front ++ rest) × AreParts front × IsOpen rest

closing : (all : List ℕ) (words : List (List ℕ)) (word : List ℕ) (place : WordsProgress) → Stands all words word place → Says all (closed (state words word place))
closing all words word here.Between was = (
  was.front,
  was.cut ∙ ap (λ going. written_all was.front ++ going) was.is.0 ∙ append-nil (written_all was.front),
  was.are,
  sym (append-nil words) ∙ ap (λ s. behind s []) (sym was.is.1) ∙ sym (parts_told was.front (Off []) []) ∙ ap told (append-nil was.front),
)
closing all words word here.Bare was = (
  was.front,
  was.cut ∙ ap (λ going. written_all was.front ++ going) was.is.0 ∙ append-nil (written_all was.front),
  was.are,
  ap (λ s. behind s []) (sym was.is.1) ∙ sym (parts_told was.front (Off []) []) ∙ ap told (append-nil was.front),
)
closing all words word here.Kept was = (was.front, was.going, was.cut, was.are, inl was.is.0)
closing all words word here.Single was = (was.front, was.going, was.cut, was.are, inr (inl (was.is.0, was.is.1, was.is.2)))
closing all words word here.Double was = (was.front, was.going, was.cut, was.are, inr (inr (inl (was.is.0, was.is.1, was.is.2))))
closing all words word here.DoubleKept was = (was.front, was.going, was.cut, was.are, inr (inr (inr (was.is.0, was.is.1, was.is.2))))

begun : Stands [] [] [] here.Between
begun = record { front = []; going = []; cut = refl; are = tt; is = (refl, refl, refl) }

says : (text : List ℕ) → Says (chars text) (words_of text)
says text =
    let end = after_all (chars text) at_start in
    closing (chars text) end.words end.word end.place (steps (chars text) [] [] [] here.Between begun)

-- words have a cut
pub words_cut : (text : List ℕ) (words : List (List ℕ)) → words_of text ≡ Some words → HasWords text words
words_cut text words e =
    let s = subst (λ (o : Option (List (List ℕ))). Says (chars text) o) e (says text) in
    record { parts = s.0; cut = s.1; are = s.2; words_are = s.3 }

-- a text without words ends in an open quote or with a backslash
pub no_words_open : (text : List ℕ) → words_of text ≡ None → HasOpenQuote text
no_words_open text e =
    let s = subst (λ (o : Option (List (List ℕ))). Says (chars text) o) e (says text) in
    record { front = s.0; rest = s.1; cut = s.2; are = s.3; ending = s.4 }
