-- The ruling on a whole head, by what the parser answers.
use Rattle.std.proofs.Common.{◌≡◌, ◌≢◌, ◌≤◌, ◌<◌, ℕ, List, [], inl, inr, length, drop, map, refl, sym, ap, ◌∙◌, subst, arith, length-append, length-drop, Result, Ok, Err, IfOk, Option, None, Some}
use Rattle.std.proofs.lemmas.List.{length-map, drop_all}
use Rattle.httparse.specs.Grammar.{RequestHead, ReadsRequest, print_request}
use Rattle.httparse.specs.Spans.{name_and_value}
use Rattle.httparse.specs.Borrowed.{AreFields, header_parts}
use Rattle.httparse.specs.declared.borrowed.Header.{Header}
use Rattle.httparse.specs.Outcome.{IfComplete}
use Rattle.httparse.specs.declared.Error.{Error}
use Rattle.httparse.specs.declared.Status.{Status}
use Rattle.httparse.specs.declared.Status.TheVariants.{Complete}
use Rattle.httparse.proofs.GrammarLemmas.{request_unique}
use Rattle.sv_http.specs.AskTable.{Judged, ruling, field_limit}
use Rattle.sv_http.specs.declared.guard.Guard.{Guard}
use Rattle.sv_http.specs.declared.head.Ruling.{Ruling}
use Rattle.sv_http.specs.declared.head.Ruling.TheVariants.{Refused}
use Rattle.sv_http.specs.declared.status.Refusal.TheVariants.{BadRequest}

-- the parser read a shorter head
pub short_head : (guard : Guard) (head : List ℕ) (size : ℕ) (held : RequestHead) → ReadsRequest head held (drop size head)
    → size ≡ length (print_request held) → size ≢ length head → Judged guard head (Refused BadRequest)
short_head guard head size held reads is other =
    inr (
      (λ request whole. let none : drop size head ≡ []
          = (request_unique head held request (drop size head) [] reads whole.0).1 in
          other (omega (arith, is, ap length none, length-drop size head, ap length reads.1, length-append (print_request held) (drop size head)))),
      refl,
    )

-- the parser read too many fields
pub many_fields : (guard : Guard) (head rest : List ℕ) (held : RequestHead) → ReadsRequest head held rest
    → field_limit < length held.fields → Judged guard head (Refused BadRequest)
many_fields guard head rest held reads many =
    inr (
      (λ request whole. let same : held ≡ request = (request_unique head held request rest [] reads whole.0).0 in
          absurd (omega (arith, many, whole.1, ap (λ (h : RequestHead). length h.fields) same))),
      refl,
    )

-- as many fields as the parser gave
pub fields_count : (headers : List Header) (held : RequestHead) → AreFields headers held.fields → length headers ≡ length held.fields
fields_count headers held are = sym (length-map headers header_parts) ∙ ap length are ∙ length-map held.fields name_and_value

abbrev value_or : {A : Type 0} → A → Option A → A
value_or other None = other
value_or other (Some value) = value

pub same_value : {A : Type 0} {a b : A} → Some a ≡ Some b → a ≡ b
same_value {A} {a} {b} e = ap (value_or a) e

-- the parser read the whole head
pub whole_head : {E : Type 0} (guard : Guard) (head method target : List ℕ) (size minor : ℕ) (headers : List Header) (held : RequestHead)
    (answer : Result Ruling E)
    → ReadsRequest head held (drop size head) → size ≡ length head → AreFields headers held.fields → length headers ≤ field_limit
    → Some method ≡ Some held.method → Some target ≡ Some held.target → Some minor ≡ Some held.minor
    → IfOk answer (λ ruled. ruled ≡ ruling guard method target minor (map header_parts headers)) → IfOk answer (Judged guard head)
whole_head guard head method target size minor headers held (Err error) reads is are few m t v rule = tt
whole_head guard head method target size minor headers held (Ok judged) reads is are few m t v rule =
    let none : drop size head ≡ [] = drop_all size head (omega (arith, is)) in
    let count : length headers ≡ length held.fields = fields_count headers held are in
    inl (
      held,
      (subst (λ (rest : List ℕ). ReadsRequest head held rest) none reads, omega (arith, count, few)),
      rule ∙ ap (λ n. ruling guard n target minor (map header_parts headers)) (same_value m)
          ∙ ap (λ n. ruling guard held.method n minor (map header_parts headers)) (same_value t)
          ∙ ap (λ n. ruling guard held.method held.target n (map header_parts headers)) (same_value v)
          ∙ ap (λ fields. ruling guard held.method held.target held.minor fields) are,
    )

-- what holds of a complete answer
pub completed : (P : ℕ → Type 0) (answer : Status ℕ) (size : ℕ) → answer ≡ Complete size → IfComplete {A = ℕ} {E = Error} (Ok answer) P → P size
completed P answer size is found = subst (λ (s : Status ℕ). IfComplete {A = ℕ} {E = Error} (Ok s) P) is found
