-- The client's request is one call.
use Rattle.std.proofs.Common.{◌≡◌, ◌<◌, ◌≤◌, ◌==◌, ◌+◌, ◌^◌, ◌++◌, ◌∷◌, ℕ, List, [], Bool, true, false, length, refl, sym, ap, ◌∙◌, subst, inl, arith, codes, append_assoc, append-nil, length-append}
use Rattle.std.specs.Prelude.{if◌then◌else◌}
use Rattle.std.specs.Fmt.{decimal}
use Rattle.std.specs.List.{list_all}
use Rattle.std.proofs.lemmas.Bool.Decides.{nat_tests}
use Rattle.base64.specs.Engines.{standard}
use Rattle.base64.specs.GeneralPurpose.{IsBytes, encode_of}
use Rattle.httparse.specs.Grammar.{print_request}
use Rattle.sv_http.proofs.Advances.{call_is, none_in_head}
use Rattle.sv_http.proofs.Streams.{asks_unique}
use Rattle.sv_base.specs.SizeText.{number_of}
use Rattle.sv_http.specs.AskTable.{ruling}
use Rattle.sv_http.specs.ReplyText.{line, length_line}
use Rattle.sv_http.specs.RequestStream.{AreAsks, IsAsk, IsHead, head_limit, is_begun}
use Rattle.sv_http.specs.RequestText.{request_text}
use Rattle.sv_http.specs.declared.ask.Ask.TheVariants.{Call}
use Rattle.sv_http.specs.declared.guard.Guard.{Guard}
use Rattle.sv_http.proofs.SendableLemmas.Fields.{few_fields, field_values, length_is, opened, request_is, request_of, takes, within}
use Rattle.sv_http.proofs.SendableLemmas.Lines.{AreLines, IsLine, head_of, is_inner, more, none, whole_head}
use Rattle.sv_http.proofs.SendableLemmas.Visible.{all_by, digits_visible, encoded_some, encoded_visible, number_back}
use Rattle.sv_http.specs.Sendable.Sendable.{IsSendable, LetsIn, is_visible}

-- ---- its lines

abbrev asking_lines : Bool → List ℕ → List (List ℕ)
asking_lines true encoded = []
asking_lines false encoded = (codes "Authorization: Basic " ++ encoded) ∷ []

abbrev lines_of : Bool → List ℕ → ℕ → List ℕ → List (List ℕ)
lines_of nameless host size encoded =
    (codes "Host: " ++ host) ∷ codes "Content-Type: text/xml" ∷ (codes "Content-Length: " ++ decimal size)
    ∷ asking_lines nameless encoded

abbrev head_text : Bool → List ℕ → ℕ → List ℕ → List ℕ
head_text nameless host size encoded = head_of (codes "POST /RPC2 HTTP/1.1" ∷ lines_of nameless host size encoded)

visible_inner : (byte : ℕ) → is_visible byte ≡ true → is_inner byte ≡ true
visible_inner byte is = grind (arith, nat_tests)

line_is : (front text : List ℕ) → is_begun (front ++ text) ≡ true → list_all is_inner (front ++ text) ≡ list_all is_inner text
    → list_all is_visible text ≡ true → IsLine (front ++ text)
line_is front text begun same visible = record {
  begun = begun;
  inner = same ∙ all_by is_visible is_inner text visible_inner visible;
}

asking_are : (nameless : Bool) (encoded : List ℕ) → list_all is_visible encoded ≡ true → AreLines (asking_lines nameless encoded)
asking_are true encoded visible = none
asking_are false encoded visible = more (line_is (codes "Authorization: Basic ") encoded refl refl visible) none

lines_are : (nameless : Bool) (host : List ℕ) (size : ℕ) (encoded : List ℕ) → list_all is_visible host ≡ true → size < 2 ^ 64
    → list_all is_visible encoded ≡ true → AreLines (lines_of nameless host size encoded)
lines_are nameless host size encoded visible small written =
    more (line_is (codes "Host: ") host refl refl visible)
    (more (record { begun = refl; inner = refl })
    (more (line_is (codes "Content-Length: ") (decimal size) refl refl (digits_visible size small))
    (asking_are nameless encoded written)))

-- ---- its text

four_joined : (a b c d end body : List ℕ) → a ++ b ++ c ++ d ++ [] ++ end ++ body ≡ a ++ (b ++ (c ++ (d ++ []))) ++ end ++ body
four_joined a b c d end body = simp (append_assoc, append-nil)

five_joined : (a b c d e end body : List ℕ) → a ++ b ++ c ++ d ++ e ++ end ++ body ≡ a ++ (b ++ (c ++ (d ++ (e ++ [])))) ++ end ++ body
five_joined a b c d e end body = simp (append_assoc, append-nil)

text_by : (nameless : Bool) (body host : List ℕ) (size : ℕ) (encoded : List ℕ)
    → line (codes "POST /RPC2 HTTP/1.1") ++ line (codes "Host: " ++ host) ++ line (codes "Content-Type: text/xml")
    ++ length_line size ++ (if nameless then [] else line (codes "Authorization: Basic " ++ encoded)) ++ line [] ++ body
    ≡ head_text nameless host size encoded ++ body
text_by true body host size encoded =
    four_joined (line (codes "POST /RPC2 HTTP/1.1")) (line (codes "Host: " ++ host)) (line (codes "Content-Type: text/xml"))
    (length_line size) (line []) body
text_by false body host size encoded =
    five_joined (line (codes "POST /RPC2 HTTP/1.1")) (line (codes "Host: " ++ host)) (line (codes "Content-Type: text/xml"))
    (length_line size) (line (codes "Authorization: Basic " ++ encoded)) (line []) body

text_is : (body host username password : List ℕ)
    → request_text body host username password
    ≡ head_text (length username == 0) host (length body) (encode_of standard (username ++ 58 ∷ password)) ++ body
text_is body host username password =
    text_by (length username == 0) body host (length body) (encode_of standard (username ++ 58 ∷ password))

printed : (nameless : Bool) (host : List ℕ) (size : ℕ) (encoded : List ℕ)
    → head_text nameless host size encoded ≡ print_request (request_of nameless host size encoded) ++ []
unfolding print_request
printed true host size encoded = sym (append-nil (head_text true host size encoded))
printed false host size encoded = sym (append-nil (head_text false host size encoded))

-- ---- what it asks

one_ask : (guard : Guard) (nameless : Bool) (body host username password : List ℕ) → (length username == 0) ≡ nameless
    → IsSendable body host username password → LetsIn guard username password
    → IsHead (head_text nameless host (length body) (encode_of standard (username ++ 58 ∷ password)))
    → IsAsk guard (head_text nameless host (length body) (encode_of standard (username ++ 58 ∷ password)) ++ body) (Call body false)
one_ask guard nameless body host username password is sendable lets whole =
    let encoded = encode_of standard (username ++ 58 ∷ password) in
    let small : length body < 2 ^ 64 = omega (arith, sendable.body_fits) in
    let written : list_all is_visible encoded ≡ true = encoded_visible (username ++ 58 ∷ password) sendable.bytes in
    call_is guard (head_text nameless host (length body) encoded) body (number_of 0 (decimal (length body))) false refl whole
    (inl (
      request_of nameless host (length body) encoded,
      (
        (request_is nameless host (length body) encoded sendable.host_visible small written, printed nameless host (length body) encoded),
        few_fields nameless host (length body) encoded,
      ),
      sym (ap (ruling guard (codes "POST") (codes "/RPC2") 1)
          (field_values nameless host (length body) encoded sendable.host_visible small written (encoded_some username password))
          ∙ takes guard nameless host (length body) encoded (opened guard nameless host (length body) username password is sendable.bytes lets)
          ∙ rw (length_is (length body) sendable.body_fits, within (length body) sendable.body_fits) refl),
    ))
    (sym (number_back (length body) small))

head_is : (nameless : Bool) (host : List ℕ) (size : ℕ) (encoded : List ℕ) → list_all is_visible host ≡ true → size < 2 ^ 64
    → list_all is_visible encoded ≡ true → length (head_text nameless host size encoded) ≤ head_limit
    → IsHead (head_text nameless host size encoded)
head_is nameless host size encoded visible small written fits = (
  whole_head (codes "POST /RPC2 HTTP/1.1") (lines_of nameless host size encoded) (record { begun = refl; inner = refl })
      (lines_are nameless host size encoded visible small written),
  fits,
)

pub is_one_call : (guard : Guard) (body host username password : List ℕ) → IsSendable body host username password
    → LetsIn guard username password → AreAsks guard (request_text body host username password) (Call body false ∷ [])
is_one_call guard body host username password sendable lets =
    let nameless = length username == 0 in
    let encoded = encode_of standard (username ++ 58 ∷ password) in
    let head = head_text nameless host (length body) encoded in
    let text = text_is body host username password in
    let small : length body < 2 ^ 64 = omega (arith, sendable.body_fits) in
    let written : list_all is_visible encoded ≡ true = encoded_visible (username ++ 58 ∷ password) sendable.bytes in
    let fits : length head ≤ head_limit = omega (arith, sendable.head_fits, ap length text, length-append head body) in
    let whole : IsHead head = head_is nameless host (length body) encoded sendable.host_visible small written fits in (
      head ++ body,
      [],
      text ∙ sym (append-nil (head ++ body)),
      one_ask guard nameless body host username password refl sendable lets whole,
      none_in_head guard [] refl (omega arith) (inl refl),
    )
