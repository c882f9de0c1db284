-- The client's request as a request head: its fields, and what the server makes of them.
use Rattle.std.proofs.Common.{◌≡◌, ◌<◌, ◌≤◌, ◌==◌, ◌^◌, ◌&&◌, ◌||◌, ◌⊎◌, ◌++◌, ◌∷◌, ℕ, List, [], Bool, true, false, length, refl, sym, ap, ◌∙◌, subst, inl, inr, arith, codes, map, reverse}
use Rattle.std.specs.Prelude.{nat_lt, not, if◌then◌else◌}
use Rattle.std.specs.Char.{is_ascii_digit}
use Rattle.std.specs.Fmt.{decimal}
use Rattle.std.specs.List.{All, list_all}
use Rattle.std.proofs.lemmas.Bool.Decides.{nat_tests}
use Rattle.std.proofs.lemmas.Fmt.{decimal_nonempty, length-decimal-le}
use Rattle.std.proofs.lemmas.List.{length-reverse, reverse-append}
use Rattle.std.proofs.lemmas.List.Elements.{All-nil, All-cons}
use Rattle.std.proofs.lemmas.List.Sums.{AllPass-from_list_all}
use Rattle.std.specs.Str.{IsAscii}
use Rattle.std.proofs.lemmas.Str.{IsUtf8-from_ascii}
use Rattle.std.proofs.lemmas.Str.Ascii.{IsAscii-cons, IsAscii-nil}
use Rattle.base64.specs.Engines.{standard}
use Rattle.base64.specs.GeneralPurpose.{IsBytes, encode_of}
use Rattle.httparse.proofs.TrimLemmas.{trim_ows_space}
use Rattle.httparse.specs.Grammar.{Field, IsField, RequestHead, IsRequestHead, crlf, field_value, is_token_byte, is_uri_byte, is_value_byte, skip_ows}
use Rattle.httparse.specs.Spans.{name_and_value}
use Rattle.sv_http.proofs.Credentials.{let_in}
use Rattle.sv_base.specs.SizeText.{number_of}
use Rattle.sv_http.specs.AskTable.{body_limit, is_length, ruling, sized}
use Rattle.sv_http.specs.Authorization.{is_let_in, lets_in}
use Rattle.sv_http.specs.declared.guard.Guard.{Guard}
use Rattle.sv_http.proofs.SendableLemmas.Visible.{all_by, all_reversed, are_digits, both, digits_visible, number_back, skips_all, skips_none, visible_value}
use Rattle.sv_http.specs.Sendable.Sendable.{LetsIn, is_visible}

-- a field after whose colon stands a space
abbrev pub field_of : List ℕ → List ℕ → Field
field_of name value = record { name = name; raw = 32 ∷ value; end = crlf }

-- who asks, where there is a name
abbrev pub asking : Bool → List ℕ → List Field
asking true encoded = []
asking false encoded = field_of (codes "Authorization") (codes "Basic " ++ encoded) ∷ []

abbrev pub fields_of : Bool → List ℕ → ℕ → List ℕ → List Field
fields_of nameless host size encoded =
    field_of (codes "Host") host ∷ field_of (codes "Content-Type") (codes "text/xml")
    ∷ field_of (codes "Content-Length") (decimal size) ∷ asking nameless encoded

abbrev pub request_of : Bool → List ℕ → ℕ → List ℕ → RequestHead
request_of nameless host size encoded = record {
  blank = [];
  method = codes "POST";
  target = codes "/RPC2";
  minor = 1;
  line_end = crlf;
  fields = fields_of nameless host size encoded;
  last = crlf;
}

-- ---- it is a request head

field_is : (name value : List ℕ) → 0 < length name → list_all is_token_byte name ≡ true → list_all is_value_byte value ≡ true
    → IsField (field_of name value)
field_is name value some token all = record {
  name = (some, AllPass-from_list_all is_token_byte name token);
  raw = AllPass-from_list_all is_value_byte (32 ∷ value) all;
}

asking_is : (nameless : Bool) (encoded : List ℕ) → list_all is_value_byte encoded ≡ true → All IsField (asking nameless encoded)
unfolding is_token_byte
asking_is true encoded all = All-nil IsField
asking_is false encoded all =
    All-cons IsField (field_of (codes "Authorization") (codes "Basic " ++ encoded)) []
    (field_is (codes "Authorization") (codes "Basic " ++ encoded) (omega arith) refl all) (All-nil IsField)

fields_are : (nameless : Bool) (host : List ℕ) (size : ℕ) (encoded : List ℕ) → list_all is_visible host ≡ true → size < 2 ^ 64
    → list_all is_visible encoded ≡ true → All IsField (fields_of nameless host size encoded)
unfolding is_token_byte
fields_are nameless host size encoded visible small written =
    All-cons IsField (field_of (codes "Host") host)
    (field_of (codes "Content-Type") (codes "text/xml") ∷ field_of (codes "Content-Length") (decimal size) ∷ asking nameless encoded)
    (field_is (codes "Host") host (omega arith) refl (all_by is_visible is_value_byte host visible_value visible))
    (All-cons IsField (field_of (codes "Content-Type") (codes "text/xml"))
    (field_of (codes "Content-Length") (decimal size) ∷ asking nameless encoded)
    (field_is (codes "Content-Type") (codes "text/xml") (omega arith) refl refl)
    (All-cons IsField (field_of (codes "Content-Length") (decimal size)) (asking nameless encoded)
    (field_is (codes "Content-Length") (decimal size) (omega arith) refl
    (all_by is_visible is_value_byte (decimal size) visible_value (digits_visible size small)))
    (asking_is nameless encoded (all_by is_visible is_value_byte encoded visible_value written))))

target_ascii : IsAscii (codes "/RPC2")
target_ascii =
    IsAscii-cons 47 (82 ∷ 80 ∷ 67 ∷ 50 ∷ []) (omega arith) (IsAscii-cons 82 (80 ∷ 67 ∷ 50 ∷ []) (omega arith)
    (IsAscii-cons 80 (67 ∷ 50 ∷ []) (omega arith) (IsAscii-cons 67 (50 ∷ []) (omega arith)
    (IsAscii-cons 50 [] (omega arith) IsAscii-nil))))

pub request_is : (nameless : Bool) (host : List ℕ) (size : ℕ) (encoded : List ℕ) → list_all is_visible host ≡ true → size < 2 ^ 64
    → list_all is_visible encoded ≡ true → IsRequestHead (request_of nameless host size encoded)
unfolding is_token_byte
request_is nameless host size encoded visible small written = record {
  method = (omega arith, AllPass-from_list_all is_token_byte (codes "POST") refl);
  target = (omega arith, AllPass-from_list_all is_uri_byte (codes "/RPC2") refl);
  target_text = IsUtf8-from_ascii (codes "/RPC2") target_ascii;
  minor = omega arith;
  fields = fields_are nameless host size encoded visible small written;
}

pub few_fields : (nameless : Bool) (host : List ℕ) (size : ℕ) (encoded : List ℕ) → length (fields_of nameless host size encoded) ≤ 64
few_fields true host size encoded = omega arith
few_fields false host size encoded = omega arith

-- ---- the values of its fields

plain_value : (name value : List ℕ) → list_all is_visible value ≡ true → field_value (field_of name value) ≡ value
plain_value name value visible =
    trim_ows_space value (skips_all value visible) (skips_all (reverse value) (all_reversed is_visible value visible))

basic_value : (name encoded : List ℕ) → list_all is_visible encoded ≡ true → 0 < length encoded
    → field_value (field_of name (codes "Basic " ++ encoded)) ≡ codes "Basic " ++ encoded
basic_value name encoded visible some =
    trim_ows_space (codes "Basic " ++ encoded) refl
    (subst (λ (l : List ℕ). skip_ows l ≡ l) (sym (reverse-append (codes "Basic ") encoded))
    (skips_none (reverse encoded) (reverse (codes "Basic ")) (all_reversed is_visible encoded visible)
    (omega (arith, length-reverse encoded, some))))

abbrev pub asking_named : Bool → List ℕ → List (List ℕ × List ℕ)
asking_named true encoded = []
asking_named false encoded = (codes "Authorization", codes "Basic " ++ encoded) ∷ []

abbrev pub named : Bool → List ℕ → ℕ → List ℕ → List (List ℕ × List ℕ)
named nameless host size encoded =
    (codes "Host", host) ∷ (codes "Content-Type", codes "text/xml") ∷ (codes "Content-Length", decimal size)
    ∷ asking_named nameless encoded

asking_values : (nameless : Bool) (encoded : List ℕ) → list_all is_visible encoded ≡ true → 0 < length encoded
    → map name_and_value (asking nameless encoded) ≡ asking_named nameless encoded
asking_values true encoded visible some = refl
asking_values false encoded visible some =
    ap (λ (value : List ℕ). (codes "Authorization", value) ∷ []) (basic_value (codes "Authorization") encoded visible some)

pub field_values : (nameless : Bool) (host : List ℕ) (size : ℕ) (encoded : List ℕ) → list_all is_visible host ≡ true → size < 2 ^ 64
    → list_all is_visible encoded ≡ true → 0 < length encoded
    → map name_and_value (fields_of nameless host size encoded) ≡ named nameless host size encoded
field_values nameless host size encoded visible small written some =
    ap (λ (value : List ℕ). (codes "Host", value) ∷ map name_and_value (field_of (codes "Content-Type") (codes "text/xml")
    ∷ field_of (codes "Content-Length") (decimal size) ∷ asking nameless encoded)) (plain_value (codes "Host") host visible)
    ∙ ap (λ (value : List ℕ). (codes "Host", host) ∷ (codes "Content-Type", value)
    ∷ map name_and_value (field_of (codes "Content-Length") (decimal size) ∷ asking nameless encoded))
    (plain_value (codes "Content-Type") (codes "text/xml") refl)
    ∙ ap (λ (value : List ℕ). (codes "Host", host) ∷ (codes "Content-Type", codes "text/xml") ∷ (codes "Content-Length", value)
    ∷ map name_and_value (asking nameless encoded)) (plain_value (codes "Content-Length") (decimal size) (digits_visible size small))
    ∙ ap (λ (rest : List (List ℕ × List ℕ)). (codes "Host", host) ∷ (codes "Content-Type", codes "text/xml")
    ∷ (codes "Content-Length", decimal size) ∷ rest) (asking_values nameless encoded written some)

-- ---- who is let in

either : (a b : Bool) → b ≡ true → (a || b) ≡ true
either true b is = refl
either false b is = is

pub opened : (guard : Guard) (nameless : Bool) (host : List ℕ) (size : ℕ) (username password : List ℕ)
    → (length username == 0) ≡ nameless → IsBytes (username ++ 58 ∷ password) → LetsIn guard username password
    → is_let_in guard (named nameless host size (encode_of standard (username ++ 58 ∷ password))) ≡ true
opened guard nameless host size username password is bytes (inl free) = rw free refl
opened guard true host size username password is bytes (inr lets) = absurd (grind (arith, nat_tests))
opened guard false host size username password is bytes (inr lets) =
    let lets_them : lets_in guard (codes "Basic " ++ encode_of standard (username ++ 58 ∷ password)) ≡ true =
    subst (λ (name : List ℕ). lets_in guard (codes "Basic " ++ encode_of standard (name ++ 58 ∷ password)) ≡ true) lets.1
    (let_in guard password (subst (λ (name : List ℕ). IsBytes (name ++ 58 ∷ password)) (sym lets.1) bytes) lets.2) in
    either _ _ (ap (λ (b : Bool). b || false) lets_them)

-- ---- what it asks

pub length_is : (size : ℕ) → size ≤ body_limit → is_length (decimal size) ≡ true
length_is size fits =
    let some : 0 < length (decimal size) = decimal_nonempty size (omega arith) in
    let few : length (decimal size) ≤ 7 = length-decimal-le 7 size (omega arith) (omega arith) (omega arith) in
    let begun : nat_lt 0 (length (decimal size)) ≡ true = grind (arith, nat_tests) in
    let short : nat_lt (length (decimal size)) 20 ≡ true = grind (arith, nat_tests) in
    both _ _ (both _ _ begun short) (are_digits size (omega arith))

pub within : (size : ℕ) → size ≤ body_limit → nat_lt body_limit (number_of 0 (decimal size)) ≡ false
within size fits =
    let few : nat_lt body_limit size ≡ false = grind (arith, nat_tests) in
    ap (nat_lt body_limit) (number_back size (omega (arith, fits))) ∙ few

pub takes : (guard : Guard) (nameless : Bool) (host : List ℕ) (size : ℕ) (encoded : List ℕ)
    → is_let_in guard (named nameless host size encoded) ≡ true
    → ruling guard (codes "POST") (codes "/RPC2") 1 (named nameless host size encoded) ≡ sized (decimal size ∷ []) false
takes guard true host size encoded lets = rw lets refl
takes guard false host size encoded lets = rw lets refl
