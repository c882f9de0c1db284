-- A text, an integer or a boolean that is read as a whole is read so byte by byte.
use Rattle.std.proofs.Common.{◌≡◌, ℕ, zero, suc, ◌+◌, ◌<◌, ◌≤◌, Bool, true, false, ◌&&◌, cond, eqb, leb, List, [], ◌∷◌, ◌++◌, length, Result, Ok, Err, Some, inl, inr, refl, sym, ap, ◌∙◌, arith, subst, min}
use Rattle.std.proofs.lemmas.Bool.{cases_Bool, eqb-true}
use Rattle.std.proofs.lemmas.Str.{encode_ascii}
use Rattle.std.specs.Char.{encode_utf8}
use Rattle.sv_letters.specs.Letters.{is_allowed, allows, after}
use Rattle.sv_xmlcall.specs.Tags.{spelling, word_at, or_later, tag_from, tag_at}
use Rattle.sv_xmlcall.specs.Reading.{◌>>=◌, numeral_at, numbered_at, entities, entity_of, entity_at, Piece, piece_at, on_piece, pieces_at, text_at}
use Rattle.sv_xmlcall.specs.Machine.{the_limits, Frame, Content, Verdict, NotRead, AtTextEnd, AtEntity, Within, Chars, Hash, Numeral, at, tags_of, words_of, enter, run, on_step, unless_many, is_digit, longer, is_between, may_end}
use Rattle.sv_xmlcall.specs.declared.tag.Tag.{Tag}
use Rattle.sv_xmlcall.specs.declared.tag.Tag.TheVariants as tag
use Rattle.sv_letters.specs.declared.letters.Letters.TheVariants.{OfXml}
use Rattle.sv_letters.specs.declared.letters.Awaits.{Awaits}
use Rattle.sv_letters.specs.declared.letters.Awaits.TheVariants.{Character, Private, Continuation}
use Rattle.sv_xmlcall.proofs.Words.{follow}
use Rattle.sv_xmlcall.proofs.Runs.{run_tag}

-- how a text goes on after an entity
abbrev pub with_character : Content → List ℕ → List Frame → ℕ → Result (ℕ × List ℕ) ℕ → Verdict
with_character content kept frames count (Ok r) = run the_limits (at (Chars content (kept ++ encode_utf8 r.0) Character) frames count) r.1
with_character content kept frames count (Err left) = unless_many the_limits count (NotRead left)

pub run_numeral : (content : Content) (kept : List ℕ) (frames : List Frame) (count : ℕ) (hex seen : Bool) (n : ℕ) (bs : List ℕ)
    → run the_limits (at (Numeral content kept hex seen n) frames count) bs ≡ with_character content kept frames count (numeral_at hex seen n bs)
run_numeral content kept frames count hex seen n [] = refl
run_numeral content kept frames count hex seen n (b ∷ bs) = elim (cases_Bool (is_digit hex b)) [
  | inl d ↦ elim (cases_Bool (leb (longer hex n b) 1114111)) [
    | inl e ↦ rw (d, e) (run_numeral content kept frames count hex true (longer hex n b) bs)
    | inr e ↦ rw (d, e) refl
  ]
  | inr d ↦ elim (cases_Bool ((eqb b 59) && seen && is_allowed n)) [
    | inl e ↦ rw (d, e) refl
    | inr e ↦ rw (d, e) refl
  ]
]

pub run_hash : (content : Content) (kept : List ℕ) (frames : List Frame) (count : ℕ) (bs : List ℕ)
    → run the_limits (at (Hash content kept) frames count) bs ≡ with_character content kept frames count (numbered_at bs)
run_hash content kept frames count [] = refl
run_hash content kept frames count (b ∷ bs) = elim (cases_Bool (eqb b 120)) [
  | inl e ↦ rw e (run_numeral content kept frames count true false 0 bs)
  | inr e ↦ rw e (run_numeral content kept frames count false false 0 (b ∷ bs))
]

one_of : (content : Content) (kept : List ℕ) (frames : List Frame) (count c : ℕ) (rest : List ℕ) → c < 128
    → run the_limits (at (Chars content (kept ++ c ∷ []) Character) frames count) rest ≡ with_character content kept frames count (Ok (c, rest))
one_of content kept frames count c rest h =
    ap (λ (x : List ℕ). run the_limits (at (Chars content (kept ++ x) Character) frames count) rest) (sym (encode_ascii c h))

-- after the word of an entity
abbrev EntityGoes : Content → List ℕ → List Frame → ℕ → Tag → List ℕ → Type 0
EntityGoes content kept frames count t rest =
    on_step (enter the_limits (AtEntity content kept) t frames count) (λ s. run the_limits s rest) (unless_many the_limits count (NotRead (suc (length rest))))
    ≡ with_character content kept frames count (entity_of t rest)

entity_goes : (content : Content) (kept : List ℕ) (frames : List Frame) (count : ℕ) (t : Tag) (rest : List ℕ) → EntityGoes content kept frames count t rest
entity_goes content kept frames count tag.Ampersand rest = one_of content kept frames count 38 rest (omega arith)
entity_goes content kept frames count tag.Less rest = one_of content kept frames count 60 rest (omega arith)
entity_goes content kept frames count tag.Greater rest = one_of content kept frames count 62 rest (omega arith)
entity_goes content kept frames count tag.Quote rest = one_of content kept frames count 34 rest (omega arith)
entity_goes content kept frames count tag.Apostrophe rest = one_of content kept frames count 39 rest (omega arith)
entity_goes content kept frames count any rest = run_hash content kept frames count rest

entity_follows : (content : Content) (kept : List ℕ) (frames : List Frame) (count : ℕ) (r : Result (Tag × List ℕ) ℕ)
    → follow the_limits (AtEntity content kept) frames count r ≡ with_character content kept frames count (r >>= (λ r. entity_of r.0 r.1))
entity_follows content kept frames count (Ok r) = entity_goes content kept frames count r.0 r.1
entity_follows content kept frames count (Err left) = refl

-- before an entity
run_entity : (content : Content) (kept : List ℕ) (frames : List Frame) (count : ℕ) (bs : List ℕ)
    → run the_limits (at (Within (AtEntity content kept) (words_of (tags_of (AtEntity content kept)))) frames count) bs
    ≡ with_character content kept frames count (entity_at bs)
unfolding entity_at
run_entity content kept frames count bs =
    run_tag (AtEntity content kept) frames count bs ∙ entity_follows content kept frames count (tag_at entities bs)

-- where a text ends
abbrev pub at_text_end : Content → List Frame → ℕ → Result (List ℕ × List ℕ) ℕ → Verdict
at_text_end content frames count (Ok r) =
    cond (may_end content r.0) (run the_limits (at (Within (AtTextEnd content r.0) (words_of (tags_of (AtTextEnd content r.0)))) frames count) r.1)
    (unless_many the_limits count (NotRead (length r.1)))
at_text_end content frames count (Err left) = unless_many the_limits count (NotRead left)

abbrev Fine : List ℕ → Result (List ℕ) ℕ
Fine r = Ok r

fine_is : (x y : List ℕ) → Fine x ≡ Ok y → x ≡ y
fine_is x y e = cc e

abbrev NoWord : ℕ → Result (List ℕ) ℕ
NoWord n = Err n

not_fine : (n : ℕ) (rest : List ℕ) → NoWord n ≡ Ok rest → ⊥
not_fine n rest e = cc e

abbrev NoTag : ℕ → Result (Tag × List ℕ) ℕ
NoTag n = Err n

not_tag : (n : ℕ) (r : Tag × List ℕ) → NoTag n ≡ Ok r → ⊥
not_tag n r e = cc e

abbrev Tagged : Tag × List ℕ → Result (Tag × List ℕ) ℕ
Tagged r = Ok r

tagged_is : (x y : Tag × List ℕ) → Tagged x ≡ Ok y → x ≡ y
tagged_is x y e = cc e

abbrev NoChar : ℕ → Result (ℕ × List ℕ) ℕ
NoChar n = Err n

not_char : (n : ℕ) (r : ℕ × List ℕ) → NoChar n ≡ Ok r → ⊥
not_char n r e = cc e

abbrev Char : ℕ × List ℕ → Result (ℕ × List ℕ) ℕ
Char r = Ok r

char_is : (x y : ℕ × List ℕ) → Char x ≡ Ok y → x ≡ y
char_is x y e = cc e

abbrev Pieced : List ℕ → Awaits → List ℕ → Result Piece ℕ
Pieced value awaits rest = Ok (value, Some (awaits, rest))

between : (awaits : Awaits) → is_between awaits ≡ true → awaits ≡ Character
between Character e = refl
between Private e = cc e
between (Continuation low high more) e = cc e

word_shorter : (w bs rest : List ℕ) → word_at w bs ≡ Ok rest → length rest + length w ≤ length bs
word_shorter [] bs rest e = let h : bs ≡ rest = fine_is bs rest e in omega (arith, ap length h)
word_shorter (w ∷ ws) [] rest e = absurd (not_fine 0 rest e)
word_shorter (w ∷ ws) (b ∷ bs) rest e = elim (cases_Bool (eqb b w)) [
  | inl same ↦ let h = word_shorter ws bs rest (rw same at e) in omega arith
  | inr other ↦ absurd (not_fine (suc (length bs)) rest (rw other at e))
]

later_shorter : (t : Tag) (tags : List Tag) (least : ℕ) (bs : List ℕ) (w : Result (List ℕ) ℕ) (r : Tag × List ℕ)
    → ((least : ℕ) → tag_from tags least bs ≡ Ok r → length r.1 + length (spelling r.0) ≤ length bs) → word_at (spelling t) bs ≡ w
    → or_later t (λ l. tag_from tags l bs) least w ≡ Ok r → length r.1 + length (spelling r.0) ≤ length bs
later_shorter t tags least bs (Ok rest) r again w e =
    let h = tagged_is (t, rest) r e in
    subst (λ (x : Tag × List ℕ). length x.1 + length (spelling x.0) ≤ length bs) h (word_shorter (spelling t) bs rest w)
later_shorter t tags least bs (Err left) r again w e = again (min least left) e

tag_shorter : (tags : List Tag) (least : ℕ) (bs : List ℕ) (r : Tag × List ℕ) → tag_from tags least bs ≡ Ok r → length r.1 + length (spelling r.0) ≤ length bs
tag_shorter [] least bs r e = absurd (not_tag least r e)
tag_shorter (t ∷ tags) least bs r e = later_shorter t tags least bs (word_at (spelling t) bs) r (λ l f. tag_shorter tags l bs r f) refl e

numeral_shorter : (hex seen : Bool) (n : ℕ) (bs : List ℕ) (r : ℕ × List ℕ) → numeral_at hex seen n bs ≡ Ok r → length r.1 < length bs
numeral_shorter hex seen n [] r e = absurd (not_char 0 r e)
numeral_shorter hex seen n (b ∷ bs) r e = elim (cases_Bool (is_digit hex b)) [
  | inl d ↦ elim (cases_Bool (leb (longer hex n b) 1114111)) [
    | inl f ↦ let h = numeral_shorter hex true (longer hex n b) bs r (rw (d, f) at e) in omega arith
    | inr f ↦ absurd (not_char (suc (length bs)) r (rw (d, f) at e))
  ]
  | inr d ↦ elim (cases_Bool ((eqb b 59) && seen && is_allowed n)) [
    | inl f ↦ let h = char_is (n, bs) r (rw (d, f) at e) in subst (λ (x : ℕ × List ℕ). length x.1 < suc (length bs)) h (omega arith)
    | inr f ↦ absurd (not_char (suc (length bs)) r (rw (d, f) at e))
  ]
]

numbered_shorter : (bs : List ℕ) (r : ℕ × List ℕ) → numbered_at bs ≡ Ok r → length r.1 < length bs
numbered_shorter [] r e = absurd (not_char 0 r e)
numbered_shorter (b ∷ bs) r e = elim (cases_Bool (eqb b 120)) [
  | inl x ↦ let h = numeral_shorter true false 0 bs r (rw x at e) in omega arith
  | inr x ↦ numeral_shorter false false 0 (b ∷ bs) r (rw x at e)
]

named_shorter : (t : Tag) (n c : ℕ) (rest all : List ℕ) (r : ℕ × List ℕ) → length rest + suc n ≤ length all → Char (c, rest) ≡ Ok r → length r.1 < length all
named_shorter t n c rest all r l e = subst (λ (x : ℕ × List ℕ). length x.1 < length all) (char_is (c, rest) r e) (omega arith)

other_shorter : (t : Tag) (rest all : List ℕ) (r : ℕ × List ℕ) → length rest + length (spelling t) ≤ length all → numbered_at rest ≡ Ok r → length r.1 < length all
other_shorter t rest all r l e = let h = numbered_shorter rest r e in omega arith

entity_of_shorter : (t : Tag) (rest all : List ℕ) (r : ℕ × List ℕ) → length rest + length (spelling t) ≤ length all → entity_of t rest ≡ Ok r → length r.1 < length all
entity_of_shorter tag.Ampersand rest all r l e = named_shorter tag.Ampersand 4 38 rest all r l e
entity_of_shorter tag.Less rest all r l e = named_shorter tag.Less 3 60 rest all r l e
entity_of_shorter tag.Greater rest all r l e = named_shorter tag.Greater 3 62 rest all r l e
entity_of_shorter tag.Quote rest all r l e = named_shorter tag.Quote 5 34 rest all r l e
entity_of_shorter tag.Apostrophe rest all r l e = named_shorter tag.Apostrophe 5 39 rest all r l e
entity_of_shorter tag.Declaration rest all r l e = other_shorter tag.Declaration rest all r l e
entity_of_shorter tag.MethodCall rest all r l e = other_shorter tag.MethodCall rest all r l e
entity_of_shorter tag.MethodName rest all r l e = other_shorter tag.MethodName rest all r l e
entity_of_shorter tag.MethodResponse rest all r l e = other_shorter tag.MethodResponse rest all r l e
entity_of_shorter tag.Params rest all r l e = other_shorter tag.Params rest all r l e
entity_of_shorter tag.NoParams rest all r l e = other_shorter tag.NoParams rest all r l e
entity_of_shorter tag.Param rest all r l e = other_shorter tag.Param rest all r l e
entity_of_shorter tag.Fault rest all r l e = other_shorter tag.Fault rest all r l e
entity_of_shorter tag.Value rest all r l e = other_shorter tag.Value rest all r l e
entity_of_shorter tag.NoValue rest all r l e = other_shorter tag.NoValue rest all r l e
entity_of_shorter tag.I4 rest all r l e = other_shorter tag.I4 rest all r l e
entity_of_shorter tag.Int rest all r l e = other_shorter tag.Int rest all r l e
entity_of_shorter tag.Boolean rest all r l e = other_shorter tag.Boolean rest all r l e
entity_of_shorter tag.String rest all r l e = other_shorter tag.String rest all r l e
entity_of_shorter tag.NoString rest all r l e = other_shorter tag.NoString rest all r l e
entity_of_shorter tag.Double rest all r l e = other_shorter tag.Double rest all r l e
entity_of_shorter tag.DateTime rest all r l e = other_shorter tag.DateTime rest all r l e
entity_of_shorter tag.Base64 rest all r l e = other_shorter tag.Base64 rest all r l e
entity_of_shorter tag.Struct rest all r l e = other_shorter tag.Struct rest all r l e
entity_of_shorter tag.NoMembers rest all r l e = other_shorter tag.NoMembers rest all r l e
entity_of_shorter tag.Member rest all r l e = other_shorter tag.Member rest all r l e
entity_of_shorter tag.Name rest all r l e = other_shorter tag.Name rest all r l e
entity_of_shorter tag.Array rest all r l e = other_shorter tag.Array rest all r l e
entity_of_shorter tag.Data rest all r l e = other_shorter tag.Data rest all r l e
entity_of_shorter tag.NoData rest all r l e = other_shorter tag.NoData rest all r l e
entity_of_shorter tag.EndMethodCall rest all r l e = other_shorter tag.EndMethodCall rest all r l e
entity_of_shorter tag.EndMethodName rest all r l e = other_shorter tag.EndMethodName rest all r l e
entity_of_shorter tag.EndMethodResponse rest all r l e = other_shorter tag.EndMethodResponse rest all r l e
entity_of_shorter tag.EndParams rest all r l e = other_shorter tag.EndParams rest all r l e
entity_of_shorter tag.EndParam rest all r l e = other_shorter tag.EndParam rest all r l e
entity_of_shorter tag.EndFault rest all r l e = other_shorter tag.EndFault rest all r l e
entity_of_shorter tag.EndValue rest all r l e = other_shorter tag.EndValue rest all r l e
entity_of_shorter tag.EndI4 rest all r l e = other_shorter tag.EndI4 rest all r l e
entity_of_shorter tag.EndInt rest all r l e = other_shorter tag.EndInt rest all r l e
entity_of_shorter tag.EndBoolean rest all r l e = other_shorter tag.EndBoolean rest all r l e
entity_of_shorter tag.EndString rest all r l e = other_shorter tag.EndString rest all r l e
entity_of_shorter tag.EndDouble rest all r l e = other_shorter tag.EndDouble rest all r l e
entity_of_shorter tag.EndDateTime rest all r l e = other_shorter tag.EndDateTime rest all r l e
entity_of_shorter tag.EndBase64 rest all r l e = other_shorter tag.EndBase64 rest all r l e
entity_of_shorter tag.EndStruct rest all r l e = other_shorter tag.EndStruct rest all r l e
entity_of_shorter tag.EndMember rest all r l e = other_shorter tag.EndMember rest all r l e
entity_of_shorter tag.EndName rest all r l e = other_shorter tag.EndName rest all r l e
entity_of_shorter tag.EndArray rest all r l e = other_shorter tag.EndArray rest all r l e
entity_of_shorter tag.EndData rest all r l e = other_shorter tag.EndData rest all r l e
entity_of_shorter tag.Numbered rest all r l e = other_shorter tag.Numbered rest all r l e

entity_read_shorter : (q : Result (Tag × List ℕ) ℕ) (all : List ℕ) (r : ℕ × List ℕ) → ((t : Tag × List ℕ) → q ≡ Ok t → length t.1 + length (spelling t.0) ≤ length all)
    → (q >>= (λ r. entity_of r.0 r.1)) ≡ Ok r → length r.1 < length all
entity_read_shorter (Ok t) all r l e = entity_of_shorter t.0 t.1 all r (l t refl) e
entity_read_shorter (Err left) all r l e = absurd (not_char left r e)

pub entity_shorter : (bs : List ℕ) (r : ℕ × List ℕ) → entity_at bs ≡ Ok r → length r.1 < length bs
unfolding entity_at
entity_shorter bs r e = entity_read_shorter (tag_at entities bs) bs r (λ t f. tag_shorter entities (length bs) bs t f) e

-- the pieces that are left are read byte by byte
abbrev RunsPieces : ℕ → Type 0
RunsPieces most = (content : Content) (kept : List ℕ) (awaits : Awaits) (frames : List Frame) (count : ℕ) (bs : List ℕ) → length bs ≤ most
    → run the_limits (at (Chars content kept awaits) frames count) bs ≡ at_text_end content frames count (pieces_at (suc most) kept awaits bs)

abbrev RunsTo : ℕ → Content → List ℕ → Awaits → List Frame → ℕ → List ℕ → Type 0
RunsTo most content kept awaits frames count bs =
    run the_limits (at (Chars content kept awaits) frames count) bs ≡ at_text_end content frames count (pieces_at (suc most) kept awaits bs)

at_sixty : (most : ℕ) (content : Content) (kept : List ℕ) (awaits : Awaits) (frames : List Frame) (count : ℕ) (bs : List ℕ) → RunsTo most content kept awaits frames count (60 ∷ bs)
unfolding piece_at
at_sixty most content kept awaits frames count bs = elim (cases_Bool (is_between awaits)) [
  | inl e ↦ elim (cases_Bool (may_end content kept)) [
    | inl f ↦ rw (e, f) refl
    | inr f ↦ rw (e, f) refl
  ]
  | inr e ↦ rw e refl
]

behind_entity : (most : ℕ) → RunsPieces most → (content : Content) (kept : List ℕ) (frames : List Frame) (count : ℕ) (bs : List ℕ) (r : Result (ℕ × List ℕ) ℕ)
    → ((c : ℕ × List ℕ) → r ≡ Ok c → length c.1 ≤ most)
    → with_character content kept frames count r
    ≡ at_text_end content frames count ((r >>= (λ r. Pieced (kept ++ encode_utf8 r.0) Character r.1)) >>= (λ p. on_piece p.0 bs p.1 (λ awaits rest. pieces_at (suc most) p.0 awaits rest)))
behind_entity most again content kept frames count bs (Ok c) l = again content (kept ++ encode_utf8 c.0) Character frames count c.1 (l c refl)
behind_entity most again content kept frames count bs (Err left) l = refl

at_ampersand : (most : ℕ) → RunsPieces most → (content : Content) (kept : List ℕ) (awaits : Awaits) (frames : List Frame) (count : ℕ) (bs : List ℕ) → length bs ≤ most
    → RunsTo (suc most) content kept awaits frames count (38 ∷ bs)
unfolding piece_at
at_ampersand most again content kept awaits frames count bs l = elim (cases_Bool (is_between awaits)) [
  | inl e ↦
      let is = between awaits e in
      subst (λ (x : Awaits). RunsTo (suc most) content kept x frames count (38 ∷ bs)) (sym is)
      (run_entity content kept frames count (38 ∷ bs)
      ∙ behind_entity most again content kept frames count (38 ∷ bs) (entity_at (38 ∷ bs)) (λ c f. let h = entity_shorter (38 ∷ bs) c f in omega arith))
  | inr e ↦ rw e refl
]

run_pieces : (most : ℕ) → RunsPieces most
unfolding piece_at
run_pieces most content kept awaits frames count [] l = refl
run_pieces zero content kept awaits frames count (b ∷ bs) l = absurd (omega arith)
run_pieces (suc most) content kept awaits frames count (b ∷ bs) l = elim (cases_Bool (eqb b 60)) [
  | inl e ↦ subst (λ (x : ℕ). RunsTo (suc most) content kept awaits frames count (x ∷ bs)) (sym (eqb-true b 60 e)) (at_sixty (suc most) content kept awaits frames count bs)
  | inr e ↦ elim (cases_Bool (eqb b 38)) [
    | inl f ↦
        subst (λ (x : ℕ). RunsTo (suc most) content kept awaits frames count (x ∷ bs)) (sym (eqb-true b 38 f))
        (at_ampersand most (run_pieces most) content kept awaits frames count bs (omega arith))
    | inr f ↦ elim (cases_Bool (allows OfXml awaits b)) [
      | inl g ↦ rw (e, f, g) (run_pieces most content (kept ++ b ∷ []) (after OfXml awaits b) frames count bs (omega arith))
      | inr g ↦ rw (e, f, g) refl
    ]
  ]
]

-- a text up to its end
pub run_text : (content : Content) (kept : List ℕ) (frames : List Frame) (count : ℕ) (bs : List ℕ)
    → run the_limits (at (Chars content kept Character) frames count) bs ≡ at_text_end content frames count (text_at kept bs)
unfolding text_at
run_text content kept frames count bs = run_pieces (length bs) content kept Character frames count bs (omega arith)
