-- What the first bytes of a stream say of the reply that it may be.
use Rattle.std.proofs.Common.{◌≡◌, ◌<◌, ◌≤◌, ◌+◌, ◌&&◌, ℕ, List, ◌++◌, Bool, true, false, Option, None, Some, length, take, drop, refl, sym, ap, ◌∙◌, arith, length-append, nat_le, cond, map, inl, inr}
use Rattle.std.proofs.lemmas.List.{take-append-drop, take-append-le, take_at, length-map}
use Rattle.std.specs.Prelude.{◌⊎◌}
use Rattle.httparse.specs.declared.borrowed.Header.{Header}
use Rattle.httparse.specs.Borrowed.{AreFields, header_parts}
use Rattle.sv_http.proofs.Rulings.{same_value}
use Rattle.httparse.specs.Grammar.{ResponseHead, ReadsResponse, NeverHasResponse, print_response, status_code}
use Rattle.httparse.specs.Spans.{name_and_value, ResponseOverflows}
use Rattle.httparse.proofs.GrammarLemmas.{response_unique, response_prefix_free}
use Rattle.sv_http.specs.RequestStream.{head_limit}
use Rattle.sv_http.specs.AskTable.{field_limit}
use Rattle.sv_http.specs.ReplyStream.{Begins, IsReply, NeverReply, IsNoReply, size_behind, body_size}
use Rattle.sv_http.proofs.Texts.{no_value}

-- what follows a whole head has the announced length, or there is no reply
pub sizes_meet : (stream more : List ℕ) (status size other : ℕ) (body whole : List ℕ)
    → Begins stream status size body → IsReply (stream ++ more) other whole → size ≡ length body + length more
sizes_meet stream more status size other body whole begins reply =
    let same = response_prefix_free stream more begins.head reply.head body whole begins.reads reply.reads in
    let sized : Some size ≡ Some (length whole) = sym begins.size_is ∙ ap size_behind same.0 ∙ reply.size_is in
    same_value sized ∙ ap length (sym same.1) ∙ length-append body more

pub sizes_same : (stream : List ℕ) (status size other : ℕ) (body whole : List ℕ)
    → Begins stream status size body → IsReply stream other whole → size ≡ length body
sizes_same stream status size other body whole begins reply =
    let same = response_unique stream begins.head reply.head body whole begins.reads reply.reads in
    let sized : Some size ≡ Some (length whole) = sym begins.size_is ∙ ap size_behind same.0 ∙ reply.size_is in
    same_value sized ∙ ap length (sym same.1)

-- more bytes than a head announces
pub over_never : (stream : List ℕ) (status size : ℕ) (body : List ℕ) → Begins stream status size body → size < length body → NeverReply stream
over_never stream status size body begins over more other whole reply =
    let meet = sizes_meet stream more status size other body whole begins reply in absurd (omega (arith, meet, over))

-- fewer bytes than a head announces
pub short_no_reply : (stream : List ℕ) (status size : ℕ) (body : List ℕ) → Begins stream status size body → length body < size → IsNoReply stream
short_no_reply stream status size body begins short other whole reply =
    let same = sizes_same stream status size other body whole begins reply in absurd (omega (arith, same, short))

-- a head after which no body can follow
pub unsized_never : (stream body : List ℕ) (head : ResponseHead) → ReadsResponse stream head body → size_behind head ≡ None → NeverReply stream
unsized_never stream body head reads none more other whole reply =
    let same = response_prefix_free stream more head reply.head body whole reads reply.reads in
    absurd (no_value (sym none ∙ ap size_behind same.0 ∙ reply.size_is))

pub invalid_never : (stream : List ℕ) → NeverHasResponse stream → NeverReply stream
invalid_never stream never more other whole reply = never more reply.head whole reply.reads

-- the limits that a head with a body after it keeps
within_by : (few short : Bool) (sized : Option ℕ) (size : ℕ) → cond (few && short) sized None ≡ Some size → (few ≡ true) × (short ≡ true)
within_by true true sized size is = (refl, refl)
within_by true false sized size is = absurd (no_value is)
within_by false short sized size is = absurd (no_value is)

pub within_limits : (head : ResponseHead) (size : ℕ) → size_behind head ≡ Some size
    → (length head.fields ≤ field_limit) × (length (print_response head) ≤ head_limit)
within_limits head size is =
    let both = within_by (nat_le (length head.fields) field_limit) (nat_le (length (print_response head)) head_limit) (body_size (map name_and_value head.fields)) size is in
    (grind (arith, both.0), grind (arith, both.1))

pub crowded_never : (stream : List ℕ) → ResponseOverflows 64 stream → NeverReply stream
crowded_never stream overflows more other whole reply =
    let few = (within_limits reply.head (length whole) reply.size_is).0 in
    let many = overflows more reply.head whole reply.reads in
    absurd (omega (arith, few, many))

sized_none : (both : Bool) (sized : Option ℕ) → sized ≡ None → cond both sized None ≡ None
sized_none true sized none = none
sized_none false sized none = refl

-- a head whose fields announce no length
pub unmeasured_never : (bytes rest : List ℕ) (head : ResponseHead) (headers : List Header) (found : Option ℕ) → ReadsResponse bytes head rest
    → AreFields headers head.fields → found ≡ body_size (map header_parts headers) → found ≡ None → NeverReply bytes
unmeasured_never bytes rest head headers found reads fields measured none =
    let nothing : body_size (map name_and_value head.fields) ≡ None = ap (λ parts. body_size parts) (sym fields) ∙ sym measured ∙ none in
    unsized_never bytes rest head reads
    (sized_none (nat_le (length head.fields) field_limit && nat_le (length (print_response head)) head_limit) (body_size (map name_and_value head.fields)) nothing)

-- a head over a limit
pub over_limit_never : (bytes rest : List ℕ) (head : ResponseHead) (headers : List Header) (count : ℕ) → ReadsResponse bytes head rest
    → AreFields headers head.fields → count ≡ length (print_response head)
    → (64 < length headers) ⊎ ((length headers ≤ 64) × (16384 < count)) → NeverReply bytes
over_limit_never bytes rest head headers count reads fields sized over more other whole reply =
    let same = response_prefix_free bytes more head reply.head rest whole reads reply.reads in
    let limits = within_limits head (length whole) (ap size_behind same.0 ∙ reply.size_is) in
    let many : length headers ≡ length head.fields = sym (length-map headers header_parts) ∙ ap (λ parts. length parts) fields ∙ length-map head.fields name_and_value in
    elim over [ inl crowded ↦ absurd (omega (arith, limits.0, many, crowded)) | inr long ↦ absurd (omega (arith, limits.1, sized, long.1)) ]

front_of : (head body stream more : List ℕ) → stream ++ more ≡ head ++ body → length head ≤ length stream → stream ≡ head ++ drop (length head) stream
front_of head body stream more is fits =
    let front : head ≡ take (length head) stream =
    sym (take_at head body (length head) refl) ∙ ap (λ all. take (length head) all) (sym is) ∙ take-append-le (length head) stream more fits in
    sym (take-append-drop (length head) stream) ∙ ap (λ first. first ++ drop (length head) stream) (sym front)

-- as many bytes as a head may have, and no head among them
pub long_never : (stream : List ℕ) → ((status size : ℕ) (body : List ℕ) → Begins stream status size body → ⊥) → head_limit ≤ length stream → NeverReply stream
long_never stream none long more other whole reply =
    let short = (within_limits reply.head (length whole) reply.size_is).1 in
    none (status_code reply.head) (length whole) (drop (length (print_response reply.head)) stream) (record {
      head = reply.head;
      reads = (reply.reads.0, front_of (print_response reply.head) whole stream more reply.reads.1 (omega (arith, short, long)));
      status_is = refl;
      size_is = reply.size_is;
    })
