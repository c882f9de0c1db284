-- What a name of a program is.
use Rattle.std.specs.Prelude.{ℕ, ◌<◌, ◌≡◌, List, length, true, IsUtf8, chars}
use Rattle.std.specs.List.{list_all}
use Rattle.sv_letters.specs.Letters.{is_name_letter}

-- characters of which none is a space, a control character, a colon, a slash or an asterisk
abbrev pub IsName : List ℕ → Type 0
IsName name = IsUtf8 name × (list_all is_name_letter (chars name) ≡ true) × (0 < length name)
