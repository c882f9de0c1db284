-- Who is let in (RFC 7617, the scheme Basic): the username, a colon and the password in base64 (RFC
-- 4648).
use Rattle.std.specs.Prelude.{◌≡◌, ◌++◌, ◌==◌, ◌&&◌, ◌||◌, ℕ, List, [], ◌∷◌, Bool, true, false}
use Rattle.std.specs.Prelude.{length, take, drop, codes, Option, None, Some, Result, Ok, Err}
use Rattle.std.specs.Prelude.{if◌then◌else◌}
use Rattle.std.specs.List.{list_any}
use Rattle.std.specs.Str.{bytes_eq, str_eq_ignore_ascii_case}
use Rattle.base64.specs.GeneralPurpose.{decode_of, encode_of}
use Rattle.base64.specs.Engines.{standard}
use Rattle.base64.specs.declared.decode.DecodeError.{DecodeError}
use Rattle.sha1.specs.Sha1.{sha1}
use Rattle.sv_base.specs.Ascii.{colon}
use Rattle.sv_base.specs.declared.config.Password.{Password}
use Rattle.sv_base.specs.declared.config.Password.TheVariants as password
use Rattle.sv_http.specs.declared.guard.Guard.{Guard}

-- a field: its name and its value
abbrev pub Field : Type 0
Field = List ℕ × List ℕ

-- names of fields are compared in any case of letters
abbrev pub is_named : List ℕ → Field → Bool
is_named name field = str_eq_ignore_ascii_case field.0 name

-- a password is asked for: an empty one is none
abbrev pub is_set : Password → Bool
is_set password.None = false
is_set (password.Plain []) = false
is_set (password.Plain (byte ∷ bytes)) = true
is_set (password.Sha digest) = true

-- neither a username nor a password is set
abbrev pub is_open : Guard → Bool
is_open guard = bytes_eq guard.username [] && (if is_set guard.password then false else true)

-- the given password is the one that is asked for
abbrev pub is_password : Password → List ℕ → Bool
is_password password.None given = bytes_eq given []
is_password (password.Plain text) given = bytes_eq given text
is_password (password.Sha digest) given = bytes_eq (sha1 given) digest

-- what follows this prefix, where the bytes begin with it
abbrev pub after_front : List ℕ → List ℕ → Option (List ℕ)
after_front front bytes =
    if bytes_eq (take (length front) bytes) front then Some (drop (length front) bytes) else None

-- a colon and the password
abbrev pub opens_behind : Password → Option (List ℕ) → Bool
opens_behind asked None = false
opens_behind asked (Some []) = false
opens_behind asked (Some (byte ∷ given)) = byte == colon && is_password asked given

-- the decoded bytes are the username, a colon and the password
abbrev pub opens : Guard → List ℕ → Bool
opens guard given = opens_behind guard.password (after_front guard.username given)

-- the base64 can be decoded, and the decoded bytes are the username, a colon and the password
abbrev pub opens_decoded : Guard → Result (List ℕ) DecodeError → Bool
opens_decoded guard (Ok given) = opens guard given
opens_decoded guard (Err error) = false

-- the base64 after the scheme and a space, where there is one, holds the credentials that are asked
-- for
abbrev pub opens_encoded : Guard → Option (List ℕ) → Bool
opens_encoded guard None = false
opens_encoded guard (Some text) = opens_decoded guard (decode_of standard text)

-- the value of an Authorization field that lets in
abbrev pub lets_in : Guard → List ℕ → Bool
lets_in guard value = opens_encoded guard (after_front (codes "Basic ") value)

-- some Authorization field lets in
abbrev pub some_lets_in : Guard → List Field → Bool
some_lets_in guard fields =
    list_any (λ field. is_named (codes "Authorization") field && lets_in guard field.1) fields

-- no username and no password is asked for, or some Authorization field lets in
abbrev pub is_let_in : Guard → List Field → Bool
is_let_in guard fields = is_open guard || some_lets_in guard fields

-- the base64 of the username, a colon and the password that is asked for
abbrev pub IsCredentials : Guard → List ℕ → Type 0
IsCredentials guard text =
    (given : List ℕ) × (text ≡ encode_of standard (guard.username ++ colon ∷ given))
    × (is_password guard.password given ≡ true)
