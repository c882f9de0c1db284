-- A command is cut into gaps and pieces of words (the manual's chapter on the configuration file,
-- `command`). Pieces that stand side by side make one word.
use Rattle.std.specs.Prelude.{◌≡◌, ◌==◌, ℕ, List, [], ◌∷◌, ◌++◌, Bool, true, false, not, ◌&&◌, ◌||◌}
use Rattle.std.specs.Prelude.{◌⊎◌, encode_utf8, encode_utf8_all, ⊤}
use Rattle.std.specs.List.{flat_map, list_all}
use Rattle.std.specs.Str.{chars}
use Rattle.sv_base.specs.Ascii.{backslash, double_quote, single_quote}
use Rattle.sv_expand.specs.Words.{parts_words}

-- what stands in double quotes: a character, a backslash with the quote or the backslash that it
-- keeps, and a backslash before any other character, which both stand for themselves
pub data Quoted : Type 0 where
  Itself : (c : ℕ) → Quoted
  Escaped : (c : ℕ) → Quoted
  Both : (c : ℕ) → Quoted

-- a gap, and the pieces: a character, one after a backslash, and what stands in single or in double
-- quotes
pub data Part : Type 0 where
  Gap : (c : ℕ) → Part
  Plain : (c : ℕ) → Part
  Kept : (c : ℕ) → Part
  Single : (cs : List ℕ) → Part
  Double : (quoted : List Quoted) → Part

-- how each is written
abbrev pub quoted_written : Quoted → List ℕ
quoted_written (Itself c) = c ∷ []
quoted_written (Escaped c) = backslash ∷ c ∷ []
quoted_written (Both c) = backslash ∷ c ∷ []

-- of a gap, and of each piece
abbrev pub written : Part → List ℕ
written (Gap c) = c ∷ []
written (Plain c) = c ∷ []
written (Kept c) = backslash ∷ c ∷ []
written (Single cs) = single_quote ∷ (cs ++ single_quote ∷ [])
written (Double quoted) = double_quote ∷ (flat_map quoted_written quoted ++ double_quote ∷ [])

-- how parts are written: one after another
abbrev pub written_all : List Part → List ℕ
written_all parts = flat_map written parts

-- a double quote or a backslash, which a backslash keeps in double quotes
abbrev pub is_escaped : ℕ → Bool
is_escaped c = (c == double_quote) || (c == backslash)

-- a backslash stands alone for itself only before other characters
abbrev pub IsQuoted : Quoted → Type 0
IsQuoted (Itself c) = is_escaped c ≡ false
IsQuoted (Escaped c) = is_escaped c ≡ true
IsQuoted (Both c) = is_escaped c ≡ false

-- the same of each of them
abbrev pub AreQuoted : List Quoted → Type 0
AreQuoted [] = ⊤
AreQuoted (first ∷ quoted) = IsQuoted first × AreQuoted quoted

-- characters without a single quote
abbrev pub is_single : List ℕ → Bool
is_single cs = list_all (λ c. not (c == single_quote)) cs

-- a character of a word that stands for itself: it parts no words, and is no quote and no backslash
abbrev pub is_plain : ℕ → Bool
is_plain c = not (parts_words c) && (not (c == single_quote) && not (is_escaped c))

-- a gap parts words, a plain piece doesn't, and what stands in quotes doesn't close them
abbrev pub IsPart : Part → Type 0
IsPart (Gap c) = parts_words c ≡ true
IsPart (Plain c) = is_plain c ≡ true
IsPart (Kept c) = ⊤
IsPart (Single cs) = is_single cs ≡ true
IsPart (Double quoted) = AreQuoted quoted

-- the same of each of them
abbrev pub AreParts : List Part → Type 0
AreParts [] = ⊤
AreParts (part ∷ parts) = IsPart part × AreParts parts

-- what each stands for
abbrev pub quoted_value : Quoted → List ℕ
quoted_value (Itself c) = encode_utf8 c
quoted_value (Escaped c) = encode_utf8 c
quoted_value (Both c) = encode_utf8 92 ++ encode_utf8 c

-- of a gap, and of each piece
abbrev pub value : Part → List ℕ
value (Gap c) = []
value (Plain c) = encode_utf8 c
value (Kept c) = encode_utf8 c
value (Single cs) = encode_utf8_all cs
value (Double quoted) = flat_map quoted_value quoted

-- a piece before these parts, which have these words: it begins the first word, unless a gap or the
-- end stands between
abbrev pub with_piece : List ℕ → List Part → List (List ℕ) → List (List ℕ)
with_piece piece [] words = piece ∷ words
with_piece piece (Gap c ∷ parts) words = piece ∷ words
with_piece piece parts [] = piece ∷ []
with_piece piece parts (word ∷ words) = (piece ++ word) ∷ words

-- the words of parts
abbrev pub told : List Part → List (List ℕ)
told [] = []
told (Gap c ∷ parts) = told parts
told (piece ∷ parts) = with_piece (value piece) parts (told parts)

-- a text has these words where it has a cut into parts that tell them
pub record HasWords (text : List ℕ) (words : List (List ℕ)) : Type 0 where
  pub parts : List Part
  pub cut : chars text ≡ written_all parts
  pub are : AreParts parts
  pub words_are : words ≡ told parts

-- a quote that isn't closed, or a backslash at the end
abbrev pub IsOpen : List ℕ → Type 0
IsOpen rest =
    (rest ≡ backslash ∷ [])
    ⊎ ((cs : List ℕ) × (is_single cs ≡ true) × (rest ≡ single_quote ∷ cs))
    ⊎ ((quoted : List Quoted) × AreQuoted quoted
    × (rest ≡ double_quote ∷ flat_map quoted_written quoted))
    ⊎ ((quoted : List Quoted) × AreQuoted quoted
    × (rest ≡ double_quote ∷ (flat_map quoted_written quoted ++ backslash ∷ [])))

-- a text has no words where it ends so after whole parts
pub record HasOpenQuote (text : List ℕ) : Type 0 where
  pub front : List Part
  pub rest : List ℕ
  pub cut : chars text ≡ written_all front ++ rest
  pub are : AreParts front
  pub ending : IsOpen rest
