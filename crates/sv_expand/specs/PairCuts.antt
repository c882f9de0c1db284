-- A text is cut into pairs NAME=VALUE parted by commas (the manual's chapter on the configuration
-- file, `environment`).
use Rattle.std.specs.Prelude.{◌≡◌, ◌≢◌, ◌==◌, ℕ, List, [], ◌∷◌, ◌++◌, length, map, Bool, false}
use Rattle.std.specs.Prelude.{true, not, ◌||◌, encode_utf8_all, ⊤}
use Rattle.std.specs.List.{flat_map, list_all}
use Rattle.std.specs.Str.{chars}
use Rattle.sv_base.specs.Ascii.{comma, equals_sign}
use Rattle.sv_expand.specs.Pairs.{is_white, is_name_char, is_quote}
use Rattle.sv_expand.specs.declared.fault.PairFault.{PairFault}
use Rattle.sv_expand.specs.declared.fault.PairFault.TheVariants.{BadPair, OutOfMemory}

-- a value: in quotes, with white space after them, or bare, with white space before and after it
pub data Value : Type 0 where
  Quoted : (quote : ℕ) (cs after : List ℕ) → Value
  Bare : (before cs after : List ℕ) → Value

-- a pair, with white space before it
pub record Pair : Type 0 where
  pub before : List ℕ
  pub name : List ℕ
  pub value : Value

-- what stands after the last comma: white space, or a pair
pub data Last : Type 0 where
  Nothing : (white : List ℕ) → Last
  One : (pair : Pair) → Last

-- how each is written
abbrev pub value_written : Value → List ℕ
value_written (Quoted quote cs after) = quote ∷ (cs ++ quote ∷ after)
value_written (Bare before cs after) = before ++ (cs ++ after)

-- white space, the name, `=`, the value
abbrev pub written : Pair → List ℕ
written pair = pair.before ++ (pair.name ++ equals_sign ∷ value_written pair.value)

-- what stands after the last comma
abbrev pub last_written : Last → List ℕ
last_written (Nothing white) = white
last_written (One pair) = written pair

-- pairs with the comma after each
abbrev pub listed : List Pair → List ℕ
listed pairs = flat_map (λ pair. written pair ++ comma ∷ []) pairs

-- white space and nothing else
abbrev pub is_blank : List ℕ → Bool
is_blank cs = list_all is_white cs

-- white space stands first
abbrev pub begins_white : List ℕ → Bool
begins_white [] = false
begins_white (c ∷ cs) = is_white c

-- white space stands last
abbrev pub ends_white : List ℕ → Bool
ends_white [] = false
ends_white (c ∷ []) = is_white c
ends_white (c ∷ cs) = ends_white cs

-- in quotes their own quote doesn't stand; bare is neither a comma nor a quote, nor white space at
-- an end
abbrev pub IsValue : Value → Type 0
IsValue (Quoted quote cs after) =
    (is_quote quote ≡ true) × (list_all (λ c. not (c == quote)) cs ≡ true) × (is_blank after ≡ true)
IsValue (Bare before cs after) =
    (is_blank before ≡ true) × (list_all (λ c. not ((c == comma) || is_quote c)) cs ≡ true)
    × (begins_white cs ≡ false) × (ends_white cs ≡ false) × (is_blank after ≡ true)
    × (cs ≡ [] → after ≡ [])

-- a pair has a name
abbrev pub IsPair : Pair → Type 0
IsPair pair =
    (is_blank pair.before ≡ true) × (pair.name ≢ []) × (list_all is_name_char pair.name ≡ true)
    × IsValue pair.value

-- the same of each of them
abbrev pub ArePairs : List Pair → Type 0
ArePairs [] = ⊤
ArePairs (pair ∷ pairs) = IsPair pair × ArePairs pairs

-- the same of what stands after the last comma
abbrev pub IsLast : Last → Type 0
IsLast (Nothing white) = is_blank white ≡ true
IsLast (One pair) = IsPair pair

-- the name and the value that a pair tells
abbrev pub value_told : Value → List ℕ
value_told (Quoted quote cs after) = encode_utf8_all cs
value_told (Bare before cs after) = encode_utf8_all cs

-- the name and the value of a pair
abbrev pub told : Pair → List ℕ × List ℕ
told pair = (encode_utf8_all pair.name, value_told pair.value)

-- none, or the last pair's
abbrev pub last_told : Last → List (List ℕ × List ℕ)
last_told (Nothing white) = []
last_told (One pair) = told pair ∷ []

-- a text has these pairs where it has a cut that tells them
pub record HasPairs (text : List ℕ) (pairs : List (List ℕ × List ℕ)) : Type 0 where
  pub front : List Pair
  pub last : Last
  pub cut : chars text ≡ listed front ++ last_written last
  pub are : ArePairs front
  pub is : IsLast last
  pub pairs_are : pairs ≡ map told front ++ last_told last

-- no pair begins with these characters
pub record BeginsNoPair (cs : List ℕ) : Type 0 where
  pub none : (pair : Pair) (more : List ℕ) → IsPair pair → cs ≡ written pair ++ comma ∷ more → ⊥
  pub last : (last : Last) → IsLast last → cs ≡ last_written last → ⊥

-- the first bad pair of a text: after pairs with their commas, and after white space, stands none
pub record HasBadPair (text : List ℕ) (place : ℕ) : Type 0 where
  pub front : List Pair
  pub white : List ℕ
  pub rest : List ℕ
  pub cut : chars text ≡ listed front ++ (white ++ rest)
  pub are : ArePairs front
  pub blank : is_blank white ≡ true
  pub some : rest ≢ []
  pub begins : begins_white rest ≡ false
  pub bad : BeginsNoPair (white ++ rest)
  pub place_is : place ≡ length (encode_utf8_all (listed front ++ white))

-- a fault is the first bad pair of the text; running out of memory is always allowed
abbrev pub IsFirstBad : List ℕ → PairFault → Type 0
IsFirstBad text (BadPair place) = HasBadPair text place
IsFirstBad text OutOfMemory = ⊤
