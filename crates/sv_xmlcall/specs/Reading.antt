-- What each reader gives: what it reads and what follows, or the number of bytes that are left at
-- the first bad one.
use Rattle.std.specs.Prelude.{ℕ, zero, suc, ◌+◌, ◌-◌, ◌*◌, List, [], ◌∷◌, ◌++◌, length, Bool, true}
use Rattle.std.specs.Prelude.{false, ◌&&◌, not, nat_le, ◌==◌, if◌then◌else◌, Option, Some, None}
use Rattle.std.specs.Prelude.{Result, Ok, Err, ℤ}
use Rattle.std.specs.Char.{encode_utf8, is_ascii_digit}
use Rattle.sv_base.specs.Ascii.{ampersand, digit_zero, greater_sign, hyphen, less_sign, plus_sign}
use Rattle.sv_base.specs.Ascii.{question_mark, semicolon}
use Rattle.sv_letters.specs.Letters.{is_allowed, allows, after}
use Rattle.sv_xmlcall.specs.Tags.{tag_at}
use Rattle.sv_xmlcall.specs.Spelled.{signed}
use Rattle.sv_xmlcall.specs.Atoms.{close_behind}
use Rattle.sv_xmlcall.specs.Machine.{kept, is_empty, is_between, is_digit, longer, most_of}
use Rattle.sv_letters.specs.declared.letters.Letters.TheVariants.{OfText, OfXml}
use Rattle.sv_letters.specs.declared.letters.Awaits.{Awaits}
use Rattle.sv_letters.specs.declared.letters.Awaits.TheVariants.{Character}
use Rattle.sv_xmlcall.specs.declared.tag.Tag.{Tag}
use Rattle.sv_xmlcall.specs.declared.tag.Tag.TheVariants as tag

infixl 10 ◌>>=◌
-- reads on after what was read; where it stops, all does
abbrev pub ◌>>=◌ : {A B : Type 0} → Result A ℕ → (A → Result B ℕ) → Result B ℕ
(Ok x) >>= f = f x
(Err e) >>= f = Err e

-- the digits of a character reference and its `;`: its character and what follows
abbrev pub numeral_at : Bool → Bool → ℕ → List ℕ → Result (ℕ × List ℕ) ℕ
numeral_at hex seen n [] = Err 0
numeral_at hex seen n (b ∷ bs) =
    if is_digit hex b then
    if nat_le (longer hex n b) 1114111 then numeral_at hex true (longer hex n b) bs
    else Err (suc (length bs))
    else if (b == semicolon) && seen && is_allowed n then Ok (n, bs)
    else Err (suc (length bs))

-- a character reference, from after `&#`
abbrev pub numbered_at : List ℕ → Result (ℕ × List ℕ) ℕ
numbered_at [] = Err 0
numbered_at (b ∷ bs) =
    if b == 120 then numeral_at true false 0 bs else numeral_at false false 0 (b ∷ bs)

-- the predefined entities (XML 1.0, section 4.6), and the beginning of a character reference
abbrev pub entities : List Tag
entities = tag.Ampersand ∷ tag.Less ∷ tag.Greater ∷ tag.Quote ∷ tag.Apostrophe ∷ tag.Numbered ∷ []

-- the character of this entity, and what follows
abbrev pub entity_of : Tag → List ℕ → Result (ℕ × List ℕ) ℕ
entity_of tag.Ampersand bs = Ok (38, bs)
entity_of tag.Less bs = Ok (60, bs)
entity_of tag.Greater bs = Ok (62, bs)
entity_of tag.Quote bs = Ok (34, bs)
entity_of tag.Apostrophe bs = Ok (39, bs)
entity_of entity bs = numbered_at bs

-- an entity and its character
unfoldable pub entity_at : List ℕ → Result (ℕ × List ℕ) ℕ
entity_at bs = do
  r ← tag_at entities bs
  entity_of r.0 r.1

-- what a piece of a text adds to the bytes that were kept, what may come then, and what follows; at
-- the `<` that ends the text there is no piece
abbrev pub Piece : Type 0
Piece = List ℕ × Option (Awaits × List ℕ)

-- a piece of a text: a byte, an entity, or none before the `<`
unfoldable pub piece_at : List ℕ → Awaits → List ℕ → Result Piece ℕ
piece_at kept awaits [] = Err 0
piece_at kept awaits (b ∷ bs) =
    if (b == less_sign) && is_between awaits then Ok (kept, None)
    else if (b == ampersand) && is_between awaits then entity_at (b ∷ bs)
    >>= (λ r. Ok (kept ++ encode_utf8 r.0, Some (Character, r.1)))
    else if not (b == less_sign) && not (b == ampersand) && allows OfXml awaits b
    then Ok (kept ++ b ∷ [], Some (after OfXml awaits b, bs))
    else Err (suc (length bs))

-- reads on after a piece; where there is none, the text has ended
abbrev pub on_piece : List ℕ → List ℕ → Option (Awaits × List ℕ)
    → (Awaits → List ℕ → Result (List ℕ × List ℕ) ℕ) → Result (List ℕ × List ℕ) ℕ
on_piece kept bs None on = Ok (kept, bs)
on_piece kept bs (Some p) on = on p.0 p.1

-- the pieces of a text after the bytes that were kept, at most so many
abbrev pub pieces_at : ℕ → List ℕ → Awaits → List ℕ → Result (List ℕ × List ℕ) ℕ
pieces_at zero kept awaits bs = Err (length bs)
pieces_at (suc most) kept awaits bs =
    piece_at kept awaits bs
    >>= (λ p. on_piece p.0 bs p.1 (λ awaits rest. pieces_at most p.0 awaits rest))

-- a text after the bytes that were kept, up to its `<`
unfoldable pub text_at : List ℕ → List ℕ → Result (List ℕ × List ℕ) ℕ
text_at kept bs = pieces_at (suc (length bs)) kept Character bs

-- this closing tag
unfoldable pub shut_at : Tag → List ℕ → Result (List ℕ) ℕ
shut_at t bs = close_behind (tag_at (t ∷ []) bs)

-- a text and its closing tag
unfoldable pub content_at : Tag → List ℕ → Result (List ℕ × List ℕ) ℕ
content_at t bs = do
  r ← text_at [] bs
  rest ← shut_at t r.1
  Ok (r.0, rest)

-- the closing tag of a method's name, which may not be empty
abbrev pub name_at : List ℕ → List ℕ → Result (List ℕ × List ℕ) ℕ
name_at name bs =
    if is_empty name then Err (length bs)
    else (shut_at tag.EndMethodName bs >>= (λ rest. Ok (name, rest)))

-- a method's name and its closing tag
unfoldable pub method_at : List ℕ → Result (List ℕ × List ℕ) ℕ
method_at bs = do
  r ← text_at [] bs
  name_at r.0 r.1

-- at least one digit, not above the size that the sign allows
abbrev pub size_from : Bool → Bool → ℕ → List ℕ → Result (ℕ × List ℕ) ℕ
size_from negative seen n [] = Err 0
size_from negative seen n (b ∷ bs) =
    if is_ascii_digit b then
    if nat_le (n * 10 + (b - 48)) (most_of negative)
    then size_from negative true (n * 10 + (b - 48)) bs else Err (suc (length bs))
    else if seen then Ok (n, b ∷ bs)
    else Err (suc (length bs))

-- an optional sign and digits: whether it is a minus, and the number
abbrev pub size_at : List ℕ → Result (Bool × (ℕ × List ℕ)) ℕ
size_at [] = Err 0
size_at (b ∷ bs) =
    if b == hyphen then size_from true false 0 bs >>= (λ r. Ok (true, r))
    else if b == plus_sign then size_from false false 0 bs >>= (λ r. Ok (false, r))
    else size_from false false 0 (b ∷ bs) >>= (λ r. Ok (false, r))

-- an optional sign and digits, and the closing tag
unfoldable pub integer_at : Tag → List ℕ → Result (ℤ × List ℕ) ℕ
integer_at t bs = do
  r ← size_at bs
  rest ← shut_at t r.1.1
  Ok (signed r.0 r.1.0, rest)

-- `0` or `1`
abbrev pub digit_at : List ℕ → Result (Bool × List ℕ) ℕ
digit_at [] = Err 0
digit_at (b ∷ bs) =
    if b == digit_zero then Ok (false, bs)
    else if b == 49 then Ok (true, bs) else Err (suc (length bs))

-- a boolean and its closing tag
unfoldable pub truth_at : List ℕ → Result (Bool × List ℕ) ℕ
truth_at bs = do
  r ← digit_at bs
  rest ← shut_at tag.EndBoolean r.1
  Ok (r.0, rest)

-- the declaration after its `<?xml`
abbrev pub prolog_from : Bool → Awaits → List ℕ → Result (List ℕ) ℕ
prolog_from question awaits [] = Err 0
prolog_from question awaits (b ∷ bs) =
    if question && (b == greater_sign) then Ok bs
    else if allows OfText awaits b then prolog_from (b == question_mark) (after OfText awaits b) bs
    else Err (suc (length bs))
