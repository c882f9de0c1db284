-- How the parts of a header line are read from the front of its bytes.
use Rattle.std.specs.Prelude.{◌^◌, ◌==◌, ◌&&◌, ◌||◌, ℕ, List, [], ◌∷◌, Bool, not, Option, None}
use Rattle.std.specs.Prelude.{Some, length, option_map, slice_index, nat_lt, if◌then◌else◌}
use Rattle.std.specs.Char.{is_ascii_digit}
use Rattle.std.specs.List.{find, list_all}
use Rattle.std.specs.Str.{bytes_eq, is_utf8}
use Rattle.std.specs.Str.Parse.{digits_value}
use Rattle.sv_base.specs.KindNames.{kind_name, all_kinds}
use Rattle.sv_base.specs.declared.kind.Kind.{Kind}
use Rattle.sv_listener.specs.declared.header.Size.{Size}
use Rattle.sv_listener.specs.declared.header.Size.TheVariants.{Bytes, Endless}

infixl 10 ◌>>=◌
-- what is read after what was read
abbrev pub ◌>>=◌ : {A B : Type 0} → Option A → (A → Option B) → Option B
None >>= next = None
(Some value) >>= next = next value

-- only where the test holds
abbrev pub provided : {A : Type 0} → Bool → A → Option A
provided test value = if test then Some value else None

-- the bytes up to the first one like this, and those after it
abbrev pub cut_at : ℕ → List ℕ → Option (List ℕ × List ℕ)
cut_at stop [] = None
cut_at stop (byte ∷ bytes) =
    if byte == stop then Some ([], bytes)
    else option_map (λ parts. (byte ∷ parts.0, parts.1)) (cut_at stop bytes)

-- digits that write a number: some, and none of them is a leading zero
abbrev pub is_number : List ℕ → Bool
is_number digits =
    (list_all is_ascii_digit digits && nat_lt 0 (length digits))
    && (length digits == 1 || not (slice_index digits 0 == 48))

-- a text, and what follows the space after it
abbrev pub text_at : List ℕ → Option (List ℕ × List ℕ)
text_at bytes = cut_at 32 bytes >>= (λ parts. provided (is_utf8 parts.0) parts)

-- a number below 2^64
abbrev pub small_number : List ℕ → Option ℕ
small_number digits =
    provided (is_number digits && nat_lt (digits_value 10 digits) (2 ^ 64)) (digits_value 10 digits)

-- such a number at the front, and what follows the space after it
abbrev pub number_at : List ℕ → Option (ℕ × List ℕ)
number_at bytes =
    text_at bytes >>= (λ parts. option_map (λ value. (value, parts.1)) (small_number parts.0))

-- the event type of this name
abbrev pub kind_in : List ℕ → Option Kind
kind_in text = find (λ kind. bytes_eq (kind_name kind) text) all_kinds

-- an event type at the front, and what follows the space after it
abbrev pub kind_at : List ℕ → Option (Kind × List ℕ)
kind_at bytes =
    text_at bytes >>= (λ parts. option_map (λ kind. (kind, parts.1)) (kind_in parts.0))

-- the size that a number says
abbrev pub size_of : ℕ → Size
size_of value = if nat_lt value (2 ^ 64) then Bytes value else Endless

-- the size at the front, which is all of the bytes
abbrev pub size_at : List ℕ → Option Size
size_at bytes = provided (is_utf8 bytes && is_number bytes) (size_of (digits_value 10 bytes))
