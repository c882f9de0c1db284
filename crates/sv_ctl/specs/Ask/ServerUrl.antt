-- Where a server's URL leads: `http://HOST:PORT`, after which one slash may stand, or
-- `unix://PATH`.
use Rattle.std.specs.Prelude.{◌==◌, ◌&&◌, ◌+◌, ◌-◌, ◌*◌, ◌∷◌, ℕ, List, [], Bool, not, Option, Some}
use Rattle.std.specs.Prelude.{None, codes, length, take, nat_le, nat_lt, slice_index, if◌then◌else◌}
use Rattle.std.specs.Char.{is_ascii_digit}
use Rattle.std.specs.List.{list_any, before_first, after_first, position_or_len}
use Rattle.sv_base.specs.Ascii.{colon, slash}
use Rattle.sv_base.specs.declared.config.Place.{Place}
use Rattle.sv_base.specs.declared.config.Place.TheVariants.{Inet, Unix}

-- what follows a prefix, where the text begins with it
abbrev pub behind : List ℕ → List ℕ → Option (List ℕ)
behind [] text = Some text
behind (byte ∷ front) [] = None
behind (byte ∷ front) (other ∷ text) = if other == byte then behind front text else None

-- the byte is a slash
abbrev pub is_slash : ℕ → Bool
is_slash byte = byte == slash

-- the byte is a colon
abbrev pub is_colon : ℕ → Bool
is_colon byte = byte == colon

-- the text without one slash at its end
abbrev pub without_slash : List ℕ → List ℕ
without_slash text =
    if nat_lt 0 (length text) && is_slash (slice_index text (length text - 1))
    then take (length text - 1) text else text

-- what stands before and after the first colon, where there is one
abbrev pub parted : List ℕ → Option (List ℕ × List ℕ)
parted text =
    if nat_lt (position_or_len is_colon text) (length text)
    then Some (before_first is_colon text, after_first is_colon text) else None

-- the number that further decimal digits write after a number, where it is at most 65,535
abbrev pub digits_from : ℕ → List ℕ → Option ℕ
digits_from number [] = Some number
digits_from number (digit ∷ digits) =
    if is_ascii_digit digit && nat_le (10 * number + (digit - 48)) 65535
    then digits_from (10 * number + (digit - 48)) digits
    else None

-- a number from 1 on
abbrev pub from_one : Option ℕ → Option ℕ
from_one None = None
from_one (Some number) = if nat_le 1 number then Some number else None

-- a port: decimal digits alone, a number from 1 to 65,535
abbrev pub port_of : List ℕ → Option ℕ
port_of digits = from_one (digits_from 0 digits)

-- a host isn't empty and has no slash
abbrev pub is_host : List ℕ → Bool
is_host host = nat_lt 0 (length host) && not (list_any is_slash host)

-- a host with a port
abbrev pub inet_at : List ℕ → Option ℕ → Option Place
inet_at host None = None
inet_at host (Some port) = if is_host host then Some (Inet host port) else None

-- a host and a port that the first colon parts
abbrev pub inet_of : Option (List ℕ × List ℕ) → Option Place
inet_of None = None
inet_of (Some parts) = inet_at parts.0 (port_of parts.1)

-- a path that isn't empty
abbrev pub unix_of : List ℕ → Option Place
unix_of path = if length path == 0 then None else Some (Unix path)

-- the place, by what stands after `http://` and after `unix://`
abbrev pub place_behind : Option (List ℕ) → Option (List ℕ) → Option Place
place_behind (Some rest) other = inet_of (parted (without_slash rest))
place_behind None (Some path) = unix_of path
place_behind None None = None

-- the place of a URL; none where it has neither form
abbrev pub place_of : List ℕ → Option Place
place_of url = place_behind (behind (codes "http://") url) (behind (codes "unix://") url)

-- the Host of a request, by what stands after `http://`
abbrev pub host_behind : Option (List ℕ) → List ℕ
host_behind (Some rest) = without_slash rest
host_behind None = codes "localhost"

-- the Host of a request to the server of a URL
abbrev pub host_of : List ℕ → List ℕ
host_of url = host_behind (behind (codes "http://") url)
