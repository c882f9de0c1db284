-- Which byte may follow which in a text of UTF-8 (RFC 3629, section 4), in one of a program's
-- name, in one whose characters XML allows (XML 1.0, production 2), and among any bytes.
use Rattle.std.specs.Prelude.{ℕ, zero, suc, List, [], ◌∷◌, Bool, true, false, ◌&&◌, ◌||◌, not}
use Rattle.std.specs.Prelude.{nat_lt, nat_le, ◌==◌, if◌then◌else◌}
use Rattle.sv_base.specs.Ascii.{asterisk, carriage_return, colon, line_feed, slash, tab}
use Rattle.sv_letters.specs.declared.letters.Letters.{Letters}
use Rattle.sv_letters.specs.declared.letters.Letters.TheVariants.{OfText, OfName, OfBytes, OfXml}
use Rattle.sv_letters.specs.declared.letters.Awaits.{Awaits}
use Rattle.sv_letters.specs.declared.letters.Awaits.TheVariants.{Character, Private, Continuation}

-- a character that a name may have: no space, control character, colon, slash or asterisk
abbrev pub is_name_letter : ℕ → Bool
is_name_letter c =
    nat_lt 32 c && not (nat_le 127 c && nat_le c 159) && not (c == colon) && not (c == slash)
    && not (c == asterisk)

-- a character that XML allows: U+0009, U+000A, U+000D, U+0020 to U+D7FF, U+E000 to U+FFFD, U+10000
-- to U+10FFFF
abbrev pub is_allowed : ℕ → Bool
is_allowed c =
    if nat_lt c 32 then (c == tab) || (c == line_feed) || (c == carriage_return)
    else if nat_lt c 55296 then true
    else if nat_lt c 57344 then false
    else if nat_lt c 65534 then true
    else if nat_lt c 65536 then false
    else nat_lt c 1114112

-- a character that these letters may have
abbrev pub is_letter : Letters → ℕ → Bool
is_letter OfText c = true
is_letter OfName c = is_name_letter c
is_letter OfBytes c = true
is_letter OfXml c = is_allowed c

-- a byte below this is a character by itself: in UTF-8 one of ASCII, among any bytes each of them
abbrev pub whole_below : Letters → ℕ
whole_below OfText = 128
whole_below OfName = 128
whole_below OfBytes = 256
whole_below OfXml = 128

-- XML allows this character of ASCII
abbrev pub is_plain : ℕ → Bool
is_plain b = nat_le 32 b || (b == tab) || (b == line_feed) || (b == carriage_return)

-- these letters have the character that this byte is by itself
abbrev pub is_lead : Letters → ℕ → Bool
is_lead OfText b = true
is_lead OfName b = is_name_letter b
is_lead OfBytes b = true
is_lead OfXml b = is_plain b

-- this byte may come where that is awaited; C0, C1 and F5 to FF never may in UTF-8
abbrev pub allows : Letters → Awaits → ℕ → Bool
allows letters Character b =
    if nat_lt b (whole_below letters) then is_lead letters b else nat_le 194 b && nat_le b 244
allows letters Private b = nat_le 128 b && nat_le b 191
allows letters (Continuation low high more) b = nat_le low b && nat_le b high

-- the lowest second byte of a character of two: in a name U+0080 to U+009F are left out
abbrev pub second_of_two : Letters → ℕ → ℕ
second_of_two OfText lead = 128
second_of_two OfName lead = if lead == 194 then 160 else 128
second_of_two OfBytes lead = 128
second_of_two OfXml lead = 128

-- the byte EF in XML: it leads U+F000 to U+FFFF, the last two of which XML does not allow
abbrev pub is_private : Letters → ℕ → Bool
is_private OfText b = false
is_private OfName b = false
is_private OfBytes b = false
is_private OfXml b = b == 239

-- what is awaited after the first byte of a character
abbrev pub after_lead : Letters → ℕ → Awaits
after_lead letters b =
    if nat_lt b (whole_below letters) then Character
    else if nat_lt b 224 then Continuation (second_of_two letters b) 191 0
    else if is_private letters b then Private
    else if nat_lt b 240
    then Continuation (if b == 224 then 160 else 128) (if b == 237 then 159 else 191) 1
    else Continuation (if b == 240 then 144 else 128) (if b == 244 then 143 else 191) 2

-- what is awaited after a further byte of a character, when so many more have to come
abbrev pub after_continuation : ℕ → Awaits
after_continuation zero = Character
after_continuation (suc more) = Continuation 128 191 more

-- what is awaited after this byte
abbrev pub after : Letters → Awaits → ℕ → Awaits
after letters Character b = after_lead letters b
after letters Private b = Continuation 128 (if b == 191 then 189 else 191) 0
after letters (Continuation low high more) b = after_continuation more

-- no character is begun that has not ended
abbrev pub is_whole : Awaits → Bool
is_whole Character = true
is_whole awaits = false

-- these bytes may come one after the other, and may then end
abbrev pub are_letters : Letters → Awaits → List ℕ → Bool
are_letters letters awaits [] = is_whole awaits
are_letters letters awaits (b ∷ bs) =
    allows letters awaits b && are_letters letters (after letters awaits b) bs
