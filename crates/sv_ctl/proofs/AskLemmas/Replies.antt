-- A stream that is to be a reply: its beginning and its limits.
use Rattle.std.proofs.Common.{◌≡◌, ◌<◌, ◌≤◌, ◌&&◌, ℕ, List, [], ◌∷◌, Bool, true, false, Option, None, Some, cond, codes, IsTrue, length, map, refl, sym, ap, ◌∙◌, arith, length-append, append-nil, nat_le, inl, inr}
use Rattle.std.proofs.lemmas.List.Elements.{All-from_recursion, All-nil}
use Rattle.std.specs.List.{AllByRecursion}
use Rattle.std.specs.Char.{is_ascii_digit}
use Rattle.httparse.specs.Grammar.{ResponseHead, IsResponseHead, IsField, is_value_byte, crlf, MayBecomeResponse, print_response}
use Rattle.httparse.specs.Spans.{name_and_value}
use Rattle.std.proofs.lemmas.Bool.{leb-true, and_parts}
use Rattle.sv_http.specs.AskTable.{field_limit, reply_limit, is_length, values_of, has_field}
use Rattle.sv_base.specs.SizeText.{number_of}
use Rattle.sv_http.specs.Authorization.{Field}
use Rattle.sv_http.specs.RequestStream.{head_limit}
use Rattle.sv_http.specs.ReplyStream.{Begins, IsNoReply, GoesOn, size_behind, body_size, announced}
use Rattle.sv_ctl.specs.Ask.Hearing.{most_bytes}

-- a head with nothing in it that could be left out
abbrev bare_head : ResponseHead
bare_head = record { blank = []; minor = 1; digits = 50 ∷ 48 ∷ 48 ∷ []; reason = None; line_end = crlf; fields = []; last = crlf }

three_digits : AllByRecursion (λ b. IsTrue (is_ascii_digit b)) (50 ∷ 48 ∷ 48 ∷ [])
three_digits = (refl, (refl, (refl, tt)))

is_bare : IsResponseHead bare_head
is_bare = record {
  minor = omega arith;
  digits = (refl, All-from_recursion (λ b. IsTrue (is_ascii_digit b)) (50 ∷ 48 ∷ 48 ∷ []) three_digits);
  reason = All-nil (λ b. IsTrue (is_value_byte b));
  fields = All-nil IsField;
}

becomes : MayBecomeResponse []
becomes = (print_response bare_head, bare_head, (is_bare, sym (append-nil (print_response bare_head))))

print_some : (head : ResponseHead) → 0 < length (print_response head)
unfolding print_response
print_some head = simp length-append (omega arith)

none_empty : IsNoReply []
none_empty status body reply =
    let size = ap length reply.reads.1 ∙ length-append (print_response reply.head) body in
    absurd (omega (arith, print_some reply.head, size))

pub empty_goes_on : GoesOn []
empty_goes_on = (none_empty, inl (becomes, omega arith))

-- a value that is there only where a test holds
provided : (test : Bool) (value : Option ℕ) (size : ℕ) → cond test value None ≡ Some size → (test ≡ true) × (value ≡ Some size)
provided true value size is = (refl, is)
provided false value size is = cc

unless : (test : Bool) (value : Option ℕ) (size : ℕ) → cond test None value ≡ Some size → value ≡ Some size
unless true value size is = cc
unless false value size is = is

same_size : (n size : ℕ) → Some n ≡ Some size → n ≡ size
same_size n size is = cc

announced_within : (values : List (List ℕ)) (size : ℕ) → announced values ≡ Some size → size ≤ reply_limit
announced_within [] size is = cc
announced_within (value ∷ []) size is =
    let both = provided (is_length value && nat_le (number_of 0 value) reply_limit) (Some (number_of 0 value)) size is in
    let low = leb-true (number_of 0 value) reply_limit (and_parts (is_length value) (nat_le (number_of 0 value) reply_limit) both.0).1 in
    omega (arith, low, same_size (number_of 0 value) size both.1)
announced_within (value ∷ other ∷ more) size is = cc

body_within : (fields : List Field) (size : ℕ) → body_size fields ≡ Some size → size ≤ reply_limit
body_within fields size is =
    announced_within (values_of (codes "Content-Length") fields) size
    (unless (has_field (codes "Transfer-Encoding") fields) (announced (values_of (codes "Content-Length") fields)) size is)

-- a head and the announced body are within their limits
behind_within : (head : ResponseHead) (size : ℕ) → size_behind head ≡ Some size
    → (length (print_response head) ≤ head_limit) × (size ≤ reply_limit)
behind_within head size is =
    let few = nat_le (length head.fields) field_limit in
    let low = nat_le (length (print_response head)) head_limit in
    let both = provided (few && low) (body_size (map name_and_value head.fields)) size is in
    (leb-true (length (print_response head)) head_limit (and_parts few low both.0).1, body_within (map name_and_value head.fields) size both.1)

begun_short : (stream : List ℕ) (status size : ℕ) (body : List ℕ) → Begins stream status size body → length body < size
    → length stream < most_bytes
begun_short stream status size body begins short =
    let within = behind_within begins.head size begins.size_is in
    let sizes = ap length begins.reads.1 ∙ length-append (print_response begins.head) body in
    omega (arith, within.0, within.1, sizes, short)

pub goes_short : (stream : List ℕ) → GoesOn stream → length stream < most_bytes
goes_short stream goes =
    elim goes.1 [
      | inl head ↦ omega (arith, head.1)
      | inr body ↦ begun_short stream body.0 body.1 body.2 body.3 body.4
    ]
