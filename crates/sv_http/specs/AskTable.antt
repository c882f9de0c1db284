-- What the head of a request asks (RFC 9112 and RFC 9110): the first rule that holds decides.
use Rattle.std.specs.Prelude.{◌==◌, ◌&&◌, ◌||◌, ◌≡◌, ◌⊎◌, ◌≤◌, ℕ, List, [], ◌∷◌}
use Rattle.std.specs.Prelude.{Bool, length, map, codes, not, nat_lt, if◌then◌else◌}
use Rattle.std.specs.List.{list_any, list_all, filter}
use Rattle.std.specs.Char.{is_ascii_digit}
use Rattle.std.specs.Str.{bytes_eq, str_eq_ignore_ascii_case}
use Rattle.httparse.specs.Grammar.{RequestHead, ReadsRequest}
use Rattle.httparse.specs.Spans.{name_and_value}
use Rattle.sv_base.specs.SizeText.{number_of}
use Rattle.sv_http.specs.Authorization.{Field, is_named, is_let_in}
use Rattle.sv_http.specs.declared.guard.Guard.{Guard}
use Rattle.sv_http.specs.declared.status.Refusal.TheVariants.{BadRequest, Unauthorized, NotFound}
use Rattle.sv_http.specs.declared.status.Refusal.TheVariants.{MethodNotAllowed, LengthRequired}
use Rattle.sv_http.specs.declared.status.Refusal.TheVariants.{ContentTooLarge}
use Rattle.sv_http.specs.declared.head.Ruling.{Ruling}
use Rattle.sv_http.specs.declared.head.Ruling.TheVariants.{Refused, Takes}

-- the most fields of a head
abbrev pub field_limit : ℕ
field_limit = 64

-- the most bytes of a body
abbrev pub body_limit : ℕ
body_limit = 1048576

-- the most bytes of the body of a reply
abbrev pub reply_limit : ℕ
reply_limit = 67108864

-- the values of the fields of this name
abbrev pub values_of : List ℕ → List Field → List (List ℕ)
values_of name fields = map (λ field. field.1) (filter (is_named name) fields)

-- some field has this name
abbrev pub has_field : List ℕ → List Field → Bool
has_field name fields = list_any (is_named name) fields

-- some field of this name has this whole value, in any case of letters
abbrev pub says : List ℕ → List ℕ → List Field → Bool
says name value fields =
    list_any (λ field. is_named name field && str_eq_ignore_ascii_case field.1 value) fields

-- 1 to 19 digits
abbrev pub is_length : List ℕ → Bool
is_length value =
    nat_lt 0 (length value) && nat_lt (length value) 20 && list_all is_ascii_digit value

-- the target of every call
abbrev pub is_target : List ℕ → Bool
is_target target = bytes_eq target (codes "/RPC2") || bytes_eq target (codes "/RPC2/")

-- the link closes after the reply
abbrev pub closes : ℕ → List Field → Bool
closes minor fields =
    says (codes "Connection") (codes "close") fields
    || (minor == 0 && not (says (codes "Connection") (codes "keep-alive") fields))

-- the length of the body: exactly one Content-Length field gives it (RFC 9112, section 6.3), and it
-- is within the limit
abbrev pub sized : List (List ℕ) → Bool → Ruling
sized [] close = Refused LengthRequired
sized (value ∷ []) close =
    if not (is_length value) then Refused BadRequest
    else if nat_lt body_limit (number_of 0 value) then Refused ContentTooLarge
    else Takes (number_of 0 value) close
sized (value ∷ other ∷ more) close = Refused BadRequest

-- the rules in their order
abbrev pub ruling : Guard → List ℕ → List ℕ → ℕ → List Field → Ruling
ruling guard method target minor fields =
    if not (is_let_in guard fields) then Refused Unauthorized
    else if not (is_target target) then Refused NotFound
    else if not (bytes_eq method (codes "POST")) then Refused MethodNotAllowed
    else if has_field (codes "Transfer-Encoding") fields then Refused LengthRequired
    else sized (values_of (codes "Content-Length") fields) (closes minor fields)

-- the ruling on a request head that was read
abbrev pub ruled : Guard → RequestHead → Ruling
ruled guard request =
    ruling guard request.method request.target request.minor (map name_and_value request.fields)

-- the bytes are a request head of HTTP/1.0 or 1.1 with at most 64 fields
abbrev pub IsRequest : List ℕ → RequestHead → Type 0
IsRequest head request = ReadsRequest head request [] × (length request.fields ≤ field_limit)

-- the ruling on a whole head
abbrev pub Judged : Guard → List ℕ → Ruling → Type 0
Judged guard head judged =
    ((request : RequestHead) × IsRequest head request × (judged ≡ ruled guard request))
    ⊎ (((request : RequestHead) → IsRequest head request → ⊥) × (judged ≡ Refused BadRequest))
