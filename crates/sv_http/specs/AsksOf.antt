-- The asks of a stream, as a function: a request head is read from its bytes, then the first ask,
-- then all of them.
use Rattle.std.specs.Prelude.{◌+◌, ◌==◌, ◌&&◌, ℕ, zero, suc, List, [], ◌∷◌, Bool, true, false}
use Rattle.std.specs.Prelude.{length, take, drop, codes, Option, None, Some, option_map, nat_lt}
use Rattle.std.specs.Prelude.{nat_le, if◌then◌else◌}
use Rattle.std.specs.List.{prefix_len}
use Rattle.std.specs.Str.{is_utf8}
use Rattle.httparse.specs.Grammar.{RequestHead, Field, LineEnd, crlf, lf, is_token_byte}
use Rattle.httparse.specs.Grammar.{is_uri_byte, is_value_byte}
use Rattle.sv_base.specs.Ascii.{carriage_return, digit_zero, line_feed}
use Rattle.sv_http.specs.AskTable.{ruled, field_limit}
use Rattle.sv_http.specs.RequestStream.{head_length, head_limit, ends_line}
use Rattle.sv_http.specs.declared.ask.Ask.{Ask}
use Rattle.sv_http.specs.declared.ask.Ask.TheVariants.{Call, Bad}
use Rattle.sv_http.specs.declared.guard.Guard.{Guard}
use Rattle.sv_http.specs.declared.head.Ruling.{Ruling}
use Rattle.sv_http.specs.declared.head.Ruling.TheVariants.{Refused, Takes}
use Rattle.sv_http.specs.declared.status.Refusal.TheVariants.{BadRequest, HeadTooLarge}

infixl 10 ◌>>=◌
-- what is read after what was read
abbrev pub ◌>>=◌ : {A B : Type 0} → Option A → (A → Option B) → Option B
None >>= next = None
(Some value) >>= next = next value

-- only where the test holds
abbrev pub provided : {A : Type 0} → Bool → Option A → Option A
provided true read = read
provided false read = None

-- bytes that pass the test, and a byte that ends them
abbrev pub word_at : (ℕ → Bool) → ℕ → List ℕ → Option (List ℕ × List ℕ)
word_at test stop [] = None
word_at test stop (byte ∷ bytes) =
    if test byte then option_map (λ read. (byte ∷ read.0, read.1)) (word_at test stop bytes)
    else if byte == stop then Some ([], bytes)
    else None

-- this text
abbrev pub text_at : List ℕ → List ℕ → Option (List ℕ)
text_at [] bytes = Some bytes
text_at (byte ∷ text) [] = None
text_at (byte ∷ text) (other ∷ bytes) = if other == byte then text_at text bytes else None

-- LF after CR
abbrev pub feed_at : List ℕ → Option (LineEnd × List ℕ)
feed_at [] = None
feed_at (byte ∷ bytes) = if byte == line_feed then Some (crlf, bytes) else None

-- LF or CR LF
abbrev pub end_at : List ℕ → Option (LineEnd × List ℕ)
end_at [] = None
end_at (byte ∷ bytes) =
    if byte == line_feed then Some (lf, bytes)
    else if byte == carriage_return then feed_at bytes else None

-- a field's value with the white space round it, and its line end
abbrev pub raw_at : List ℕ → Option (List ℕ × (LineEnd × List ℕ))
raw_at [] = None
raw_at (byte ∷ bytes) =
    if is_value_byte byte then option_map (λ read. (byte ∷ read.0, read.1)) (raw_at bytes)
    else option_map (λ read. ([], read)) (end_at (byte ∷ bytes))

-- a field line of this name, with the value and the line end that were read
abbrev pub field_of : List ℕ → List ℕ × (LineEnd × List ℕ) → Option (Field × List ℕ)
field_of name raw = Some (record { name = name; raw = raw.0; end = raw.1.0 }, raw.1.1)

-- a field line after its name and colon: the name isn't empty (RFC 9112, section 5)
abbrev pub named_field_at : List ℕ × List ℕ → Option (Field × List ℕ)
named_field_at name = provided (nat_lt 0 (length name.0)) (raw_at name.1 >>= field_of name.0)

-- a field line: a name up to its colon, and what follows the name
abbrev pub field_at : List ℕ → Option (Field × List ℕ)
field_at bytes = word_at is_token_byte 58 bytes >>= named_field_at

-- the empty line with nothing after it, or what else there is
abbrev pub last_or : Option (LineEnd × List ℕ) → Option (List Field × LineEnd)
    → Option (List Field × LineEnd)
last_or None other = other
last_or (Some (end, [])) other = Some ([], end)
last_or (Some (end, byte ∷ bytes)) other = None

-- the field lines with one before them
abbrev pub with_field : Field → List Field × LineEnd → List Field × LineEnd
with_field field section = (field ∷ section.0, section.1)

-- fewer than so many field lines, and the empty line that ends them
abbrev pub section_at : ℕ → List ℕ → Option (List Field × LineEnd)
section_at zero bytes = None
section_at (suc most) bytes =
    last_or (end_at bytes)
    (field_at bytes >>= λ field. option_map (with_field field.0) (section_at most field.1))

-- the last digit of the version
abbrev pub digit_at : List ℕ → Option (ℕ × List ℕ)
digit_at [] = None
digit_at (byte ∷ bytes) =
    if byte == digit_zero then Some (0, bytes) else if byte == 49 then Some (1, bytes) else None

-- a request head of these parts, with nothing before its method
abbrev pub request_of : List ℕ → List ℕ → ℕ → LineEnd → List Field × LineEnd → Option RequestHead
request_of method target minor end section =
    Some
    (record {
      blank = [];
      method = method;
      target = target;
      minor = minor;
      line_end = end;
      fields = section.0;
      last = section.1;
    })

-- the field lines and the empty line, which end the bytes of a head
abbrev pub request_fields_at : List ℕ → List ℕ → ℕ → LineEnd × List ℕ → Option RequestHead
request_fields_at method target minor end =
    section_at (1 + length end.1) end.1 >>= request_of method target minor end.0

-- the line end of the request line, and what follows it
abbrev pub request_end_at : List ℕ → List ℕ → ℕ × List ℕ → Option RequestHead
request_end_at method target minor = end_at minor.1 >>= request_fields_at method target minor.0

-- the last digit of the version, and what follows it
abbrev pub request_minor_at : List ℕ → List ℕ → List ℕ → Option RequestHead
request_minor_at method target bytes = digit_at bytes >>= request_end_at method target

-- the target, which isn't empty and is UTF-8, is followed by the version (RFC 9112, section 2.3)
abbrev pub request_version_at : List ℕ → List ℕ × List ℕ → Option RequestHead
request_version_at method target =
    provided (nat_lt 0 (length target.0) && is_utf8 target.0)
    (text_at (codes "HTTP/1.") target.1 >>= request_minor_at method target.0)

-- the method, which isn't empty, is followed by the target and a space (RFC 9112, section 3)
abbrev pub request_target_at : List ℕ × List ℕ → Option RequestHead
request_target_at method =
    provided (nat_lt 0 (length method.0))
    (word_at is_uri_byte 32 method.1 >>= request_version_at method.0)

-- a request head: the method and a space, and what follows them
abbrev pub request_at : List ℕ → Option RequestHead
request_at bytes = word_at is_token_byte 32 bytes >>= request_target_at

-- the ruling on what was read of a head
abbrev pub ruling_of : Guard → Option RequestHead → Ruling
ruling_of guard None = Refused BadRequest
ruling_of guard (Some request) =
    if nat_le (length request.fields) field_limit then ruled guard request else Refused BadRequest

-- an ask and what follows it, by the ruling on a head and what follows that
abbrev pub ask_by : Ruling → List ℕ → Option (Ask × List ℕ)
ask_by (Refused refusal) behind = Some (Bad refusal, behind)
ask_by (Takes size close) behind =
    if nat_le size (length behind) then Some (Call (take size behind) close, drop size behind)
    else None

-- as many bytes as a head may have
abbrev pub too_large_at : List ℕ → Option (Ask × List ℕ)
too_large_at bytes =
    if nat_le head_limit (length bytes) then Some (Bad HeadTooLarge, drop head_limit bytes)
    else None

-- the first ask of bytes that begin a head, by the length of that head
abbrev pub ask_behind : Guard → Option ℕ → List ℕ → Option (Ask × List ℕ)
ask_behind guard None bytes = too_large_at bytes
ask_behind guard (Some size) bytes =
    if nat_le size head_limit
    then ask_by (ruling_of guard (request_at (take size bytes))) (drop size bytes)
    else too_large_at bytes

-- the first ask, and what follows it
abbrev pub first_ask : Guard → List ℕ → Option (Ask × List ℕ)
first_ask guard stream =
    let bytes =
    drop (prefix_len ends_line stream) stream in ask_behind guard (head_length bytes) bytes

-- an ask, and the asks of what follows it; a refusal is the last
abbrev pub told : (List ℕ → List Ask) → Option (Ask × List ℕ) → List Ask
told further None = []
told further (Some (Bad refusal, rest)) = Bad refusal ∷ []
told further (Some (Call body close, rest)) = Call body close ∷ further rest

-- at most so many asks
abbrev pub asks_at : ℕ → Guard → List ℕ → List Ask
asks_at zero guard stream = []
asks_at (suc most) guard stream = told (asks_at most guard) (first_ask guard stream)

-- the asks of a stream
unfoldable pub asks_of : Guard → List ℕ → List Ask
asks_of guard stream = asks_at (1 + length stream) guard stream
