-- A request head is read from its bytes exactly where the grammar has it.
use Rattle.std.proofs.Common.{◌≡◌, ◌+◌, ◌<◌, ◌≤◌, ◌==◌, ◌&&◌, ◌||◌, ℕ, zero, suc, List, [], ◌∷◌, ◌++◌, Bool, true, false, Option, None, Some, length, codes, refl, sym, ap, ◌∙◌, subst, arith, append_assoc, append-nil, length-append, nat_lt, if◌then◌else◌}
use Rattle.std.specs.Prelude.{option_map}
use Rattle.std.specs.List.{list_all, flat_map, All}
use Rattle.std.specs.Str.{is_utf8}
use Rattle.std.proofs.lemmas.Bool.{and_parts}
use Rattle.std.proofs.lemmas.Bool.Decides.{nat_tests}
use Rattle.std.proofs.lemmas.List.Elements.{All-nil, All-cons, All-head, All-tail}
use Rattle.std.proofs.lemmas.List.Sums.{AllPass-from_list_all, list_all-from_AllPass}
use Rattle.std.proofs.lemmas.Str.{IsUtf8-from_is_utf8, is_utf8-from_IsUtf8}
use Rattle.httparse.proofs.GrammarLemmas.{cons-append, print_request-append}
use Rattle.httparse.proofs.PieceLemmas.{space_ends_token, colon_ends_token, token_is_no_newline}
use Rattle.httparse.specs.Grammar.{RequestHead, IsRequestHead, ReadsRequest, print_request, print_section, print_field, print_end, print_blank, print_version, Field, IsField, LineEnd, crlf, lf, is_token_byte, is_uri_byte, is_value_byte}
use Rattle.sv_http.proofs.Heads.{eq_true}
use Rattle.sv_http.proofs.Rulings.{same_value}
use Rattle.sv_http.proofs.Texts.{no_value}
use Rattle.sv_http.specs.RequestStream.{is_begun}
use Rattle.sv_http.specs.AsksOf.{◌>>=◌, provided, word_at, text_at, feed_at, end_at, raw_at, field_of, named_field_at, field_at, last_or, with_field, section_at, digit_at, request_of, request_fields_at, request_end_at, request_minor_at, request_version_at, request_target_at, request_at}

-- steps

pub bind_then : {A B P : Type 0} (read : Option A) (next : A → Option B) (value : B) → (read >>= next) ≡ Some value
    → ((first : A) → read ≡ Some first → next first ≡ Some value → P) → P
bind_then None next value e more = absurd (no_value e)
bind_then (Some first) next value e more = more first refl e

pub map_then : {A B P : Type 0} (f : A → B) (read : Option A) (value : B) → option_map f read ≡ Some value
    → ((first : A) → read ≡ Some first → f first ≡ value → P) → P
map_then f None value e more = absurd (no_value e)
map_then f (Some first) value e more = more first refl (same_value e)

pub provided_then : {A P : Type 0} (test : Bool) (read : Option A) (value : A) → provided test read ≡ Some value
    → (test ≡ true → read ≡ Some value → P) → P
provided_then true read value e more = more refl e
provided_then false read value e more = absurd (no_value e)

-- a choice that gave a value
pub test_then : {A P : Type 0} (test : Bool) (one other : Option A) (value : A) → (if test then one else other) ≡ Some value
    → (test ≡ true → one ≡ Some value → P) → (test ≡ false → other ≡ Some value → P) → P
test_then true one other value e yes_more no_more = yes_more refl e
test_then false one other value e yes_more no_more = no_more refl e

same_byte : (byte : ℕ) → (byte == byte) ≡ true
same_byte byte = grind (arith, nat_tests)

-- a word and the byte that ends it

pub word_is : (test : ℕ → Bool) (stop : ℕ) (bytes : List ℕ) (read : List ℕ × List ℕ) → word_at test stop bytes ≡ Some read
    → (list_all test read.0 ≡ true) × (bytes ≡ read.0 ++ stop ∷ read.1)
word_is test stop [] read e = absurd (no_value e)
word_is test stop (byte ∷ bytes) read e =
    test_then (test byte) (option_map (λ read. (byte ∷ read.0, read.1)) (word_at test stop bytes)) (if byte == stop then Some ([], bytes) else None) read e
    (λ passes found. map_then (λ read. (byte ∷ read.0, read.1)) (word_at test stop bytes) read found
    (λ rest is_rest is. let parts = word_is test stop bytes rest is_rest in (
      ap (λ (r : List ℕ × List ℕ). list_all test r.0) (sym is) ∙ ap (λ b. b && list_all test rest.0) passes ∙ parts.0,
      ap (λ back. byte ∷ back) parts.1 ∙ ap (λ (r : List ℕ × List ℕ). r.0 ++ stop ∷ r.1) is,
    )))
    (λ fails found. test_then (byte == stop) (Some ([], bytes)) None read found
    (λ ends is. (
      ap (λ (r : List ℕ × List ℕ). list_all test r.0) (sym (same_value is)),
      ap (λ b. b ∷ bytes) (eq_true byte stop ends) ∙ ap (λ (r : List ℕ × List ℕ). r.0 ++ stop ∷ r.1) (same_value is),
    ))
    (λ other none. absurd (no_value none)))

pub word_read : (test : ℕ → Bool) (stop : ℕ) (word rest : List ℕ) → test stop ≡ false → list_all test word ≡ true
    → word_at test stop (word ++ stop ∷ rest) ≡ Some (word, rest)
word_read test stop [] rest fails all =
    ap (λ (b : Bool). if b then option_map (λ read. (stop ∷ read.0, read.1)) (word_at test stop rest) else if stop == stop then Some ([], rest) else None) fails
    ∙ ap (λ (b : Bool). if b then Some ([], rest) else None) (same_byte stop)
word_read test stop (byte ∷ word) rest fails all =
    let parts = and_parts (test byte) (list_all test word) all in
    let later = word_read test stop word rest fails parts.1 in
    ap (λ (b : Bool). if b then option_map (λ read. (byte ∷ read.0, read.1)) (word_at test stop (word ++ stop ∷ rest)) else if byte == stop then Some ([], word ++ stop ∷ rest) else None) parts.0
    ∙ ap (option_map (λ read. (byte ∷ read.0, read.1))) later

-- a text

pub text_is : (text bytes rest : List ℕ) → text_at text bytes ≡ Some rest → bytes ≡ text ++ rest
text_is [] bytes rest e = same_value e
text_is (byte ∷ text) [] rest e = absurd (no_value e)
text_is (byte ∷ text) (other ∷ bytes) rest e =
    test_then (other == byte) (text_at text bytes) None rest e
    (λ same found. ap (λ b. b ∷ bytes) (eq_true other byte same) ∙ ap (λ back. byte ∷ back) (text_is text bytes rest found))
    (λ differs none. absurd (no_value none))

pub text_read : (text rest : List ℕ) → text_at text (text ++ rest) ≡ Some rest
text_read [] rest = refl
text_read (byte ∷ text) rest =
    ap (λ (b : Bool). if b then text_at text (text ++ rest) else None) (same_byte byte) ∙ text_read text rest

-- a line end

feed_is : (bytes : List ℕ) (read : LineEnd × List ℕ) → feed_at bytes ≡ Some read → 13 ∷ bytes ≡ print_end read.0 ++ read.1
feed_is [] read e = absurd (no_value e)
feed_is (byte ∷ bytes) read e =
    test_then (byte == 10) (Some (crlf, bytes)) None read e
    (λ feed is. ap (λ b. 13 ∷ b ∷ bytes) (eq_true byte 10 feed) ∙ ap (λ (r : LineEnd × List ℕ). print_end r.0 ++ r.1) (same_value is))
    (λ other none. absurd (no_value none))

pub end_is : (bytes : List ℕ) (read : LineEnd × List ℕ) → end_at bytes ≡ Some read → bytes ≡ print_end read.0 ++ read.1
end_is [] read e = absurd (no_value e)
end_is (byte ∷ bytes) read e =
    test_then (byte == 10) (Some (lf, bytes)) (if byte == 13 then feed_at bytes else None) read e
    (λ feed is. ap (λ b. b ∷ bytes) (eq_true byte 10 feed) ∙ ap (λ (r : LineEnd × List ℕ). print_end r.0 ++ r.1) (same_value is))
    (λ other found. test_then (byte == 13) (feed_at bytes) None read found
    (λ return is. ap (λ b. b ∷ bytes) (eq_true byte 13 return) ∙ feed_is bytes read is)
    (λ another none. absurd (no_value none)))

pub end_read : (end : LineEnd) (rest : List ℕ) → end_at (print_end end ++ rest) ≡ Some (end, rest)
end_read lf rest = refl
end_read crlf rest = refl

-- what a field has after its name

pub raw_is : (bytes : List ℕ) (read : List ℕ × (LineEnd × List ℕ)) → raw_at bytes ≡ Some read
    → (list_all is_value_byte read.0 ≡ true) × (bytes ≡ read.0 ++ (print_end read.1.0 ++ read.1.1))
raw_is [] read e = absurd (no_value e)
raw_is (byte ∷ bytes) read e =
    test_then (is_value_byte byte) (option_map (λ read. (byte ∷ read.0, read.1)) (raw_at bytes)) (option_map (λ read. ([], read)) (end_at (byte ∷ bytes))) read e
    (λ passes found. map_then (λ read. (byte ∷ read.0, read.1)) (raw_at bytes) read found
    (λ rest is_rest is. let parts = raw_is bytes rest is_rest in (
      ap (λ (r : List ℕ × (LineEnd × List ℕ)). list_all is_value_byte r.0) (sym is) ∙ ap (λ b. b && list_all is_value_byte rest.0) passes ∙ parts.0,
      ap (λ back. byte ∷ back) parts.1 ∙ ap (λ (r : List ℕ × (LineEnd × List ℕ)). r.0 ++ (print_end r.1.0 ++ r.1.1)) is,
    )))
    (λ fails found. map_then (λ read. ([], read)) (end_at (byte ∷ bytes)) read found
    (λ rest is_rest is. (
      ap (λ (r : List ℕ × (LineEnd × List ℕ)). list_all is_value_byte r.0) (sym is),
      end_is (byte ∷ bytes) rest is_rest ∙ ap (λ (r : List ℕ × (LineEnd × List ℕ)). r.0 ++ (print_end r.1.0 ++ r.1.1)) is,
    )))

pub raw_read : (raw rest : List ℕ) (end : LineEnd) → list_all is_value_byte raw ≡ true
    → raw_at (raw ++ (print_end end ++ rest)) ≡ Some (raw, (end, rest))
raw_read [] rest lf all = refl
raw_read [] rest crlf all = refl
raw_read (byte ∷ raw) rest end all =
    let parts = and_parts (is_value_byte byte) (list_all is_value_byte raw) all in
    ap (λ (b : Bool). if b then option_map (λ read. (byte ∷ read.0, read.1)) (raw_at (raw ++ (print_end end ++ rest)))
    else option_map (λ read. ([], read)) (end_at (byte ∷ (raw ++ (print_end end ++ rest))))) parts.0
    ∙ ap (option_map (λ read. (byte ∷ read.0, read.1))) (raw_read raw rest end parts.1)

-- a field

some_is : (size : ℕ) → nat_lt 0 size ≡ true → 0 < size
some_is size some = grind (arith, nat_tests)

is_some : (size : ℕ) → 0 < size → nat_lt 0 size ≡ true
is_some size some = grind (arith, nat_tests)

pub field_text : (name raw rest : List ℕ) (end : LineEnd)
    → print_field (record { name = name; raw = raw; end = end }) ++ rest ≡ name ++ 58 ∷ (raw ++ (print_end end ++ rest))
field_text name raw rest end = simp (append_assoc, cons-append)

pub field_is : (bytes : List ℕ) (read : Field × List ℕ) → field_at bytes ≡ Some read → IsField read.0 × (bytes ≡ print_field read.0 ++ read.1)
field_is bytes read e =
    bind_then (word_at is_token_byte 58 bytes) named_field_at read e
    (λ name is_name e. provided_then (nat_lt 0 (length name.0)) (raw_at name.1 >>= field_of name.0) read e
    (λ some e. bind_then (raw_at name.1) (field_of name.0) read e
    (λ raw is_raw e. let named = word_is is_token_byte 58 bytes name is_name in
    let behind = raw_is name.1 raw is_raw in
    subst (λ (r : Field × List ℕ). IsField r.0 × (bytes ≡ print_field r.0 ++ r.1)) (same_value e) (
      record { name = (some_is (length name.0) some, AllPass-from_list_all is_token_byte name.0 named.0); raw = AllPass-from_list_all is_value_byte raw.0 behind.0 },
      named.1 ∙ ap (λ back. name.0 ++ 58 ∷ back) behind.1 ∙ sym (field_text name.0 raw.0 raw.1.1 raw.1.0),
    ))))

pub field_read : (field : Field) (rest : List ℕ) → IsField field → field_at (print_field field ++ rest) ≡ Some (field, rest)
field_read field rest is =
    let behind = field.raw ++ (print_end field.end ++ rest) in
    ap field_at (field_text field.name field.raw rest field.end)
    ∙ ap (λ read. read >>= named_field_at) (word_read is_token_byte 58 field.name behind colon_ends_token (list_all-from_AllPass is_token_byte field.name is.name.1))
    ∙ ap (λ some. provided some (raw_at behind >>= field_of field.name)) (is_some (length field.name) is.name.0)
    ∙ ap (λ read. read >>= field_of field.name) (raw_read field.raw rest field.end (list_all-from_AllPass is_value_byte field.raw is.raw))

-- the fields and the empty line

last_then : {P : Type 0} (end : Option (LineEnd × List ℕ)) (other : Option (List Field × LineEnd)) (value : List Field × LineEnd) → last_or end other ≡ Some value
    → ((last : LineEnd) → end ≡ Some (last, []) → ([], last) ≡ value → P) → (other ≡ Some value → P) → P
last_then None other value e ends more = more e
last_then (Some (last, [])) other value e ends more = ends last refl (same_value e)
last_then (Some (last, byte ∷ bytes)) other value e ends more = absurd (no_value e)

pub section_is : (most : ℕ) (bytes : List ℕ) (read : List Field × LineEnd) → section_at most bytes ≡ Some read
    → All IsField read.0 × (bytes ≡ print_section read.0 read.1)
section_is zero bytes read e = absurd (no_value e)
section_is (suc most) bytes read e =
    last_then (end_at bytes) (field_at bytes >>= λ field. option_map (with_field field.0) (section_at most field.1)) read e
    (λ last is_end is. subst (λ (r : List Field × LineEnd). All IsField r.0 × (bytes ≡ print_section r.0 r.1)) is (
      All-nil IsField,
      end_is bytes (last, []) is_end ∙ append-nil (print_end last),
    ))
    (λ e. bind_then (field_at bytes) (λ field. option_map (with_field field.0) (section_at most field.1)) read e
    (λ field is_field e. map_then (with_field field.0) (section_at most field.1) read e
    (λ section is_section is. let first = field_is bytes field is_field in
    let later = section_is most field.1 section is_section in
    subst (λ (r : List Field × LineEnd). All IsField r.0 × (bytes ≡ print_section r.0 r.1)) is (
      All-cons IsField field.0 section.0 first.0 later.0,
      first.1 ∙ ap (λ back. print_field field.0 ++ back) later.1 ∙ sym (append_assoc (print_field field.0) (flat_map print_field section.0) (print_end section.1)),
    ))))

or_false : (a b : Bool) → (a || b) ≡ false → (a ≡ false) × (b ≡ false)
or_false true b e = absurd cc
or_false false b e = (refl, e)

-- a name begins no line end
no_end : (name rest : List ℕ) → 0 < length name → list_all is_token_byte name ≡ true → end_at (name ++ rest) ≡ None
no_end [] rest some all = absurd (omega (arith, some))
no_end (byte ∷ name) rest some all =
    let other = or_false (byte == 13) (byte == 10) (token_is_no_newline byte (and_parts (is_token_byte byte) (list_all is_token_byte name) all).0) in
    ap (λ (b : Bool). if b then Some (lf, name ++ rest) else if byte == 13 then feed_at (name ++ rest) else None) other.1
    ∙ ap (λ (b : Bool). if b then feed_at (name ++ rest) else None) other.0

pub section_read : (fields : List Field) (last : LineEnd) (most : ℕ) → All IsField fields → length fields < most
    → section_at most (print_section fields last) ≡ Some (fields, last)
section_read fields last zero all few = absurd (omega (arith, few))
section_read [] last (suc most) all few =
    ap (λ end. last_or end (field_at (print_end last) >>= λ field. option_map (with_field field.0) (section_at most field.1)))
    (ap end_at (sym (append-nil (print_end last))) ∙ end_read last [])
section_read (field ∷ fields) last (suc most) all few =
    let is = All-head IsField field fields all in
    let behind = print_section fields last in
    let text : print_section (field ∷ fields) last ≡ print_field field ++ behind
    = append_assoc (print_field field) (flat_map print_field fields) (print_end last) in
    let none : end_at (print_field field ++ behind) ≡ None
    = ap end_at (field_text field.name field.raw behind field.end)
    ∙ no_end field.name (58 ∷ (field.raw ++ (print_end field.end ++ behind))) is.name.0 (list_all-from_AllPass is_token_byte field.name is.name.1) in
    ap (section_at (suc most)) text
    ∙ ap (λ end. last_or end (field_at (print_field field ++ behind) >>= λ read. option_map (with_field read.0) (section_at most read.1))) none
    ∙ ap (λ found. found >>= λ read. option_map (with_field read.0) (section_at most read.1)) (field_read field behind is)
    ∙ ap (option_map (with_field field)) (section_read fields last most (All-tail IsField field fields all) (omega (arith, few)))

-- the version

pub digit_is : (bytes : List ℕ) (read : ℕ × List ℕ) → digit_at bytes ≡ Some read → (read.0 ≤ 1) × (bytes ≡ (48 + read.0) ∷ read.1)
digit_is [] read e = absurd (no_value e)
digit_is (byte ∷ bytes) read e =
    test_then (byte == 48) (Some (0, bytes)) (if byte == 49 then Some (1, bytes) else None) read e
    (λ zero is. subst (λ (r : ℕ × List ℕ). (r.0 ≤ 1) × (byte ∷ bytes ≡ (48 + r.0) ∷ r.1)) (same_value is) (omega arith, ap (λ b. b ∷ bytes) (eq_true byte 48 zero)))
    (λ other found. test_then (byte == 49) (Some (1, bytes)) None read found
    (λ one is. subst (λ (r : ℕ × List ℕ). (r.0 ≤ 1) × (byte ∷ bytes ≡ (48 + r.0) ∷ r.1)) (same_value is) (omega arith, ap (λ b. b ∷ bytes) (eq_true byte 49 one)))
    (λ another none. absurd (no_value none)))

pub digit_read : (minor : ℕ) (rest : List ℕ) → minor ≤ 1 → digit_at ((48 + minor) ∷ rest) ≡ Some (minor, rest)
digit_read zero rest within = refl
digit_read (suc zero) rest within = refl
digit_read (suc (suc more)) rest within = absurd (omega (arith, within))

-- a request head

pub request_is : (bytes : List ℕ) (request : RequestHead) → request_at bytes ≡ Some request → ReadsRequest bytes request []
request_is bytes request e =
    bind_then (word_at is_token_byte 32 bytes) request_target_at request e
    (λ method is_method e. provided_then (nat_lt 0 (length method.0)) (word_at is_uri_byte 32 method.1 >>= request_version_at method.0) request e
    (λ some_method e. bind_then (word_at is_uri_byte 32 method.1) (request_version_at method.0) request e
    (λ target is_target e. provided_then (nat_lt 0 (length target.0) && is_utf8 target.0) (text_at (codes "HTTP/1.") target.1 >>= request_minor_at method.0 target.0) request e
    (λ some_target e. bind_then (text_at (codes "HTTP/1.") target.1) (request_minor_at method.0 target.0) request e
    (λ behind is_behind e. bind_then (digit_at behind) (request_end_at method.0 target.0) request e
    (λ minor is_minor e. bind_then (end_at minor.1) (request_fields_at method.0 target.0 minor.0) request e
    (λ end is_end e. bind_then (section_at (1 + length end.1) end.1) (request_of method.0 target.0 minor.0 end.0) request e
    (λ section is_section e.
    let one = word_is is_token_byte 32 bytes method is_method in
    let two = word_is is_uri_byte 32 method.1 target is_target in
    let version = digit_is behind minor is_minor in
    let fields = section_is (1 + length end.1) end.1 section is_section in
    let tests = and_parts (nat_lt 0 (length target.0)) (is_utf8 target.0) some_target in
    let head : RequestHead
    = record { blank = []; method = method.0; target = target.0; minor = minor.0; line_end = end.0; fields = section.0; last = section.1 } in
    subst (λ (h : RequestHead). ReadsRequest bytes h []) (same_value e) (
      record {
        method = (some_is (length method.0) some_method, AllPass-from_list_all is_token_byte method.0 one.0);
        target = (some_is (length target.0) tests.0, AllPass-from_list_all is_uri_byte target.0 two.0);
        target_text = IsUtf8-from_is_utf8 target.0 tests.1;
        minor = version.0;
        fields = fields.0;
      },
      one.1
          ∙ ap (λ back. method.0 ++ 32 ∷ back) (two.1
          ∙ ap (λ back. target.0 ++ 32 ∷ back) (text_is (codes "HTTP/1.") target.1 behind is_behind
          ∙ ap (λ back. codes "HTTP/1." ++ back) (version.1
          ∙ ap (λ back. (48 + minor.0) ∷ back) (end_is minor.1 end is_end
          ∙ ap (λ back. print_end end.0 ++ back) (fields.1 ∙ sym (append-nil (print_section section.0 section.1)))))))
          ∙ sym (print_request-append head []),
    )))))))))

field_some : (field : Field) → 1 ≤ length (print_field field)
field_some field =
    let behind = field.raw ++ (print_end field.end ++ []) in
    omega (
      arith,
      ap length (field_text field.name field.raw [] field.end),
      length-append (print_field field) [],
      length-append field.name (58 ∷ behind),
    )

-- there are no more fields than bytes
fields_few : (fields : List Field) (tail : List ℕ) → length fields ≤ length (flat_map print_field fields ++ tail)
fields_few [] tail = omega arith
fields_few (field ∷ fields) tail =
    omega (
      arith,
      fields_few fields tail,
      field_some field,
      ap length (append_assoc (print_field field) (flat_map print_field fields) tail),
      length-append (print_field field) (flat_map print_field fields ++ tail),
    )

abbrev with_blank : RequestHead → List LineEnd → Option RequestHead
with_blank request blank = Some (record request { blank = blank })

pub request_read : (request : RequestHead) → IsRequestHead request → request.blank ≡ [] → request_at (print_request request ++ []) ≡ Some request
request_read request is none =
    let section = print_section request.fields request.last in
    let ended = print_end request.line_end ++ section in
    let version = print_version request.minor ++ ended in
    let target = request.target ++ 32 ∷ version in
    let text : print_request request ++ [] ≡ request.method ++ 32 ∷ target
    = print_request-append request []
    ∙ ap (λ blank. print_blank blank ++ (request.method ++ 32 ∷ (request.target ++ 32 ∷ (print_version request.minor ++ (print_end request.line_end ++ (section ++ [])))))) none
    ∙ ap (λ back. request.method ++ 32 ∷ (request.target ++ 32 ∷ (print_version request.minor ++ (print_end request.line_end ++ back)))) (append-nil section) in
    ap request_at text
    ∙ ap (λ read. read >>= request_target_at) (word_read is_token_byte 32 request.method target space_ends_token (list_all-from_AllPass is_token_byte request.method is.method.1))
    ∙ ap (λ some. provided some (word_at is_uri_byte 32 target >>= request_version_at request.method)) (is_some (length request.method) is.method.0)
    ∙ ap (λ read. read >>= request_version_at request.method) (word_read is_uri_byte 32 request.target version refl (list_all-from_AllPass is_uri_byte request.target is.target.1))
    ∙ ap (λ some. provided (some && is_utf8 request.target) (text_at (codes "HTTP/1.") version >>= request_minor_at request.method request.target)) (is_some (length request.target) is.target.0)
    ∙ ap (λ some. provided some (text_at (codes "HTTP/1.") version >>= request_minor_at request.method request.target)) (is_utf8-from_IsUtf8 request.target is.target_text)
    ∙ ap (λ read. read >>= request_minor_at request.method request.target) (text_read (codes "HTTP/1.") ((48 + request.minor) ∷ ended))
    ∙ ap (λ read. read >>= request_end_at request.method request.target) (digit_read request.minor ended is.minor)
    ∙ ap (λ read. read >>= request_fields_at request.method request.target request.minor) (end_read request.line_end section)
    ∙ ap (λ read. read >>= request_of request.method request.target request.minor request.line_end)
    (section_read request.fields request.last (1 + length section) is.fields (omega (arith, fields_few request.fields (print_end request.last))))
    ∙ ap (with_blank request) (sym none)

blank_none : (blank : List LineEnd) (rest head : List ℕ) → head ≡ print_blank blank ++ rest → is_begun head ≡ true → blank ≡ []
blank_none [] rest head same begun = refl
blank_none (lf ∷ blank) rest head same begun = absurd (let starts : is_begun (print_blank (lf ∷ blank) ++ rest) ≡ true = ap is_begun (sym same) ∙ begun in cc)
blank_none (crlf ∷ blank) rest head same begun = absurd (let starts : is_begun (print_blank (crlf ∷ blank) ++ rest) ≡ true = ap is_begun (sym same) ∙ begun in cc)

pub head_read : (head : List ℕ) (request : RequestHead) → is_begun head ≡ true → ReadsRequest head request [] → request_at head ≡ Some request
head_read head request begun reads =
    let none = blank_none request.blank _ head (reads.1 ∙ print_request-append request []) begun in
    ap request_at reads.1 ∙ request_read request reads.0 none
