-- What reply a stream of bytes is (RFC 9112, sections 4 to 6): a head and a body of the length that
-- it announces.
use Rattle.std.specs.Prelude.{◌≡◌, ◌<◌, ◌⊎◌, ◌&&◌, ◌++◌, ℕ, List, [], ◌∷◌, Option, None, Some}
use Rattle.std.specs.Prelude.{length, map, codes, nat_le, if◌then◌else◌}
use Rattle.httparse.specs.Grammar.{ResponseHead, ReadsResponse, MayBecomeResponse, print_response}
use Rattle.httparse.specs.Grammar.{status_code}
use Rattle.httparse.specs.Spans.{name_and_value}
use Rattle.sv_http.specs.Authorization.{Field}
use Rattle.sv_http.specs.AskTable.{values_of, has_field, is_length, field_limit}
use Rattle.sv_base.specs.SizeText.{number_of}
use Rattle.sv_http.specs.AskTable.{reply_limit}
use Rattle.sv_http.specs.RequestStream.{head_limit}

-- the length that the one field of a length announces
abbrev pub announced : List (List ℕ) → Option ℕ
announced [] = None
announced (value ∷ []) =
    if is_length value && nat_le (number_of 0 value) reply_limit then Some (number_of 0 value)
    else None
announced (value ∷ other ∷ more) = None

-- how many bytes the body has, where the fields say so and say nothing of another way
abbrev pub body_size : List Field → Option ℕ
body_size fields =
    if has_field (codes "Transfer-Encoding") fields then None
    else announced (values_of (codes "Content-Length") fields)

-- how many bytes follow a head: none can where it is over a limit
abbrev pub size_behind : ResponseHead → Option ℕ
size_behind head =
    if nat_le (length head.fields) field_limit && nat_le (length (print_response head)) head_limit
    then body_size (map name_and_value head.fields) else None

-- a head, and the size of the body after it
pub record Begins (stream : List ℕ) (status size : ℕ) (body : List ℕ) : Type 0 where
  pub head : ResponseHead
  pub reads : ReadsResponse stream head body
  pub status_is : status ≡ status_code head
  pub size_is : size_behind head ≡ Some size

-- the stream is this reply
abbrev pub IsReply : List ℕ → ℕ → List ℕ → Type 0
IsReply stream status body = Begins stream status (length body) body

-- whatever follows, the stream is no reply
abbrev pub NeverReply : List ℕ → Type 0
NeverReply stream =
    (more : List ℕ) (status : ℕ) (body : List ℕ) → IsReply (stream ++ more) status body → ⊥

-- the stream isn't a reply
abbrev pub IsNoReply : List ℕ → Type 0
IsNoReply stream = (status : ℕ) (body : List ℕ) → IsReply stream status body → ⊥

-- a head goes on: it may become one, and has less than the most bytes
abbrev pub IsHeadGoingOn : List ℕ → Type 0
IsHeadGoingOn stream = MayBecomeResponse stream × (length stream < head_limit)

-- a body goes on: a head is whole, and fewer bytes came than it announces
abbrev pub IsBodyGoingOn : List ℕ → Type 0
IsBodyGoingOn stream =
    (status : ℕ) × (size : ℕ) × (body : List ℕ) × Begins stream status size body
    × (length body < size)

-- the stream isn't a reply yet
abbrev pub GoesOn : List ℕ → Type 0
GoesOn stream = IsNoReply stream × (IsHeadGoingOn stream ⊎ IsBodyGoingOn stream)
