-- The first ask of a stream is read exactly where one begins it, and so are all of them.
use Rattle.std.proofs.Common.{◌≡◌, ◌+◌, ◌<◌, ◌≤◌, ◌⊎◌, inl, inr, ℕ, zero, suc, List, [], ◌∷◌, ◌++◌, Bool, true, false, Option, None, Some, length, take, drop, cond, refl, sym, ap, ◌∙◌, subst, arith, append_assoc, length-append, nat_le, if◌then◌else◌}
use Rattle.std.specs.List.{prefix_len}
use Rattle.std.proofs.lemmas.Bool.Decides.{nat_tests}
use Rattle.std.proofs.lemmas.List.{take-append-drop, length-take}
use Rattle.httparse.specs.Grammar.{RequestHead, ReadsRequest}
use Rattle.httparse.proofs.GrammarLemmas.{request_unique}
use Rattle.sv_http.proofs.Rulings.{same_value}
use Rattle.sv_http.proofs.Texts.{no_value, head_front, head_within, head_size, two_at_least}
use Rattle.sv_http.proofs.Advances.{still_none, none_in_head, none_in_body, call_is, dropped_more, too_large, bad_head, dropped_all, begun_take}
use Rattle.sv_http.proofs.HeadReading.{request_is, head_read, test_then}
use Rattle.sv_http.specs.AskTable.{Judged, ruled, field_limit}
use Rattle.sv_http.specs.RequestStream.{AreAsks, IsAsk, BeginsNoAsk, IsHead, head_length, head_limit, ends_line, is_begun}
use Rattle.sv_http.specs.AsksOf.{request_at, ruling_of, ask_by, too_large_at, ask_behind, first_ask, told, asks_at, asks_of}
use Rattle.sv_http.specs.declared.ask.Ask.{Ask}
use Rattle.sv_http.specs.declared.ask.Ask.TheVariants.{Call, Bad}
use Rattle.sv_http.specs.declared.guard.Guard.{Guard}
use Rattle.sv_http.specs.declared.head.Ruling.{Ruling}
use Rattle.sv_http.specs.declared.head.Ruling.TheVariants.{Refused, Takes}
use Rattle.sv_http.specs.declared.status.Refusal.TheVariants.{BadRequest, HeadTooLarge}

le_true : (a b : ℕ) → nat_le a b ≡ true → a ≤ b
le_true a b e = grind (arith, nat_tests)

le_false : (a b : ℕ) → nat_le a b ≡ false → b < a
le_false a b e = grind (arith, nat_tests)

-- the ruling on a head is the one of the request that is read

judged_as : (guard : Guard) (head : List ℕ) (read : Option RequestHead) → is_begun head ≡ true → request_at head ≡ read
    → Judged guard head (ruling_of guard read)
judged_as guard head None begun is =
    inr ((λ request whole. no_value (sym is ∙ head_read head request begun whole.0)), refl)
judged_as guard head (Some request) begun is =
    let reads = request_is head request is in
    by_few (nat_le (length request.fields) field_limit) refl reads
  where
    by_few : (few : Bool) → nat_le (length request.fields) field_limit ≡ few → ReadsRequest head request []
        → Judged guard head (if few then ruled guard request else Refused BadRequest)
    by_few true few reads = inl (request, (reads, le_true (length request.fields) field_limit few), refl)
    by_few false many reads =
        inr (
          (λ other whole. let same : request ≡ other = (request_unique head request other [] [] reads whole.0).0 in
              absurd (omega (arith, le_false (length request.fields) field_limit many, whole.1, ap (λ (h : RequestHead). length h.fields) same))),
          refl,
        )

judged_of : (guard : Guard) (head : List ℕ) → is_begun head ≡ true → Judged guard head (ruling_of guard (request_at head))
judged_of guard head begun = judged_as guard head (request_at head) begun refl

-- an ask at the front, and what follows it
abbrev pub Fronts : Guard → List ℕ → Ask × List ℕ → Type 0
Fronts guard stream read = (text : List ℕ) × (stream ≡ text ++ read.1) × IsAsk guard text read.0 × (0 < length text)

some_text : (text : List ℕ) → is_begun text ≡ true → 0 < length text
some_text [] begun = absurd cc
some_text (a ∷ text) begun = omega arith

begun_more : (head body : List ℕ) → is_begun head ≡ true → 0 < length (head ++ body)
begun_more head body begun = omega (arith, some_text head begun, length-append head body)

by_ruling : (guard : Guard) (head behind : List ℕ) (judged : Ruling) (read : Ask × List ℕ) → is_begun head ≡ true → IsHead head → Judged guard head judged
    → ask_by judged behind ≡ Some read → Fronts guard (head ++ behind) read
by_ruling guard head behind (Refused refusal) read begun is judged e =
    subst (Fronts guard (head ++ behind)) (same_value e) (head, refl, bad_head guard head refusal begun is judged, some_text head begun)
by_ruling guard head behind (Takes size close) read begun is judged e =
    test_then (nat_le size (length behind)) (Some (Call (take size behind) close, drop size behind)) None read e
    (λ whole is_read. let fits = le_true size (length behind) whole in
    subst (Fronts guard (head ++ behind)) (same_value is_read) (
      head ++ take size behind,
      ap (λ back. head ++ back) (sym (take-append-drop size behind)) ∙ sym (append_assoc head (take size behind) (drop size behind)),
      call_is guard head (take size behind) size close begun is judged (omega (arith, length-take size behind, fits)),
      begun_more head (take size behind) begun,
    ))
    (λ short none. absurd (no_value none))

-- so many bytes hold no whole head

front_open : (bytes : List ℕ) (found : Option ℕ) → head_length bytes ≡ found → ((size : ℕ) → found ≡ Some size → head_limit < size)
    → head_length (take head_limit bytes) ≡ None
front_open bytes found is large = by_front (head_length (take head_limit bytes)) refl
  where
    by_front : (front : Option ℕ) → head_length (take head_limit bytes) ≡ front → front ≡ None
    by_front None is_front = refl
    by_front (Some size) is_front =
        let whole : head_length bytes ≡ Some size
        = ap head_length (sym (take-append-drop head_limit bytes)) ∙ head_front (take head_limit bytes) (drop head_limit bytes) size is_front in
        absurd (omega (arith, large size (sym is ∙ whole), head_size (take head_limit bytes) size is_front, length-take head_limit bytes))

large_front : (guard : Guard) (bytes : List ℕ) (found : Option ℕ) (read : Ask × List ℕ) → is_begun bytes ≡ true → head_length bytes ≡ found
    → ((size : ℕ) → found ≡ Some size → head_limit < size) → too_large_at bytes ≡ Some read → Fronts guard bytes read
large_front guard bytes found read begun is large e =
    test_then (nat_le head_limit (length bytes)) (Some (Bad HeadTooLarge, drop head_limit bytes)) None read e
    (λ many is_read. let begins = begun_take head_limit bytes (omega arith) begun in
    subst (Fronts guard bytes) (same_value is_read) (
      take head_limit bytes,
      sym (take-append-drop head_limit bytes),
      too_large guard (take head_limit bytes) begins
          (front_open bytes found is large, omega (arith, length-take head_limit bytes, le_true head_limit (length bytes) many)),
      some_text (take head_limit bytes) begins,
    ))
    (λ few none. absurd (no_value none))

head_is : (bytes : List ℕ) (size : ℕ) → head_length bytes ≡ Some size → size ≤ head_limit → IsHead (take size bytes)
head_is bytes size is small =
    let within = head_size bytes size is in
    let exact : length (take size bytes) ≡ size = omega (arith, length-take size bytes, within) in (
      head_within (take size bytes) (drop size bytes) size (ap head_length (take-append-drop size bytes) ∙ is) (omega (arith, exact)) ∙ ap Some (sym exact),
      omega (arith, exact, small),
    )

size_some : (bytes : List ℕ) (size : ℕ) → head_length bytes ≡ Some size → 0 < size
size_some bytes size is = omega (arith, two_at_least bytes size is)

-- the first ask after what is dropped
behind_is : (guard : Guard) (bytes : List ℕ) (found : Option ℕ) (read : Ask × List ℕ) → is_begun bytes ≡ true → head_length bytes ≡ found
    → ask_behind guard found bytes ≡ Some read → Fronts guard bytes read
behind_is guard bytes None read begun is e = large_front guard bytes None read begun is (λ size none. absurd (no_value none)) e
behind_is guard bytes (Some size) read begun is e =
    test_then (nat_le size head_limit) (ask_by (ruling_of guard (request_at (take size bytes))) (drop size bytes)) (too_large_at bytes) read e
    (λ small e. let begins = begun_take size bytes (size_some bytes size is) begun in
    subst (λ (all : List ℕ). Fronts guard all read) (take-append-drop size bytes)
    (by_ruling guard (take size bytes) (drop size bytes) (ruling_of guard (request_at (take size bytes))) read begins
    (head_is bytes size is (le_true size head_limit small)) (judged_of guard (take size bytes) begins) e))
    (λ large e. large_front guard bytes (Some size) read begun is
    (λ other same. omega (arith, same_value same, le_false size head_limit large)) e)

-- no ask begins what is left

some_value : {A : Type 0} {value : A} → Some value ≡ None → ⊥
some_value e = no_value (sym e)

none_by_ruling : (guard : Guard) (head behind : List ℕ) (judged : Ruling) → is_begun head ≡ true → IsHead head → Judged guard head judged
    → ask_by judged behind ≡ None → BeginsNoAsk guard (head ++ behind)
none_by_ruling guard head behind (Refused refusal) begun is judged e = absurd (some_value e)
none_by_ruling guard head behind (Takes size close) begun is judged e = by_size (nat_le size (length behind)) refl e
  where
    by_size : (whole : Bool) → nat_le size (length behind) ≡ whole → if◌then◌else◌ {A = Option (Ask × List ℕ)} whole (Some (Call (take size behind) close, drop size behind)) None ≡ None
        → BeginsNoAsk guard (head ++ behind)
    by_size true whole e = absurd (some_value e)
    by_size false short e = none_in_body guard head behind size close begun is judged (le_false size (length behind) short)

few_bytes : (bytes : List ℕ) → too_large_at bytes ≡ None → length bytes < head_limit
few_bytes bytes e = by_size (nat_le head_limit (length bytes)) refl e
  where
    by_size : (large : Bool) → nat_le head_limit (length bytes) ≡ large → if◌then◌else◌ {A = Option (Ask × List ℕ)} large (Some (Bad HeadTooLarge, drop head_limit bytes)) None ≡ None
        → length bytes < head_limit
    by_size true large e = absurd (some_value e)
    by_size false few e = le_false head_limit (length bytes) few

none_behind : (guard : Guard) (bytes : List ℕ) (found : Option ℕ) → is_begun bytes ≡ true → head_length bytes ≡ found
    → ask_behind guard found bytes ≡ None → BeginsNoAsk guard bytes
none_behind guard bytes None begun is e = none_in_head guard bytes is (few_bytes bytes e) (inr begun)
none_behind guard bytes (Some size) begun is e = by_size (nat_le size head_limit) refl e
  where
    by_size : (small : Bool) → nat_le size head_limit ≡ small
        → (if small then ask_by (ruling_of guard (request_at (take size bytes))) (drop size bytes) else too_large_at bytes) ≡ None → BeginsNoAsk guard bytes
    by_size true small e =
        let begins = begun_take size bytes (size_some bytes size is) begun in
        subst (BeginsNoAsk guard) (take-append-drop size bytes)
        (none_by_ruling guard (take size bytes) (drop size bytes) (ruling_of guard (request_at (take size bytes))) begins
        (head_is bytes size is (le_true size head_limit small)) (judged_of guard (take size bytes) begins) e)
    by_size false large e =
        absurd (omega (arith, few_bytes bytes e, head_size bytes size is, le_false size head_limit large))

-- what is left after CR and LF
begun_behind : (stream : List ℕ) → (drop (prefix_len ends_line stream) stream ≡ []) ⊎ (is_begun (drop (prefix_len ends_line stream) stream) ≡ true)
begun_behind [] = inl refl
begun_behind (a ∷ stream) = by_first (ends_line a) refl (begun_behind stream)
  where
    by_first : (ends : Bool) → ends_line a ≡ ends
        → (drop (prefix_len ends_line stream) stream ≡ []) ⊎ (is_begun (drop (prefix_len ends_line stream) stream) ≡ true)
        → (drop (cond ends (1 + prefix_len ends_line stream) 0) (a ∷ stream) ≡ []) ⊎ (is_begun (drop (cond ends (1 + prefix_len ends_line stream) 0) (a ∷ stream)) ≡ true)
    by_first true is rest =
        let one_more : suc (prefix_len ends_line stream) ≡ 1 + prefix_len ends_line stream = omega arith in
        subst (λ (count : ℕ). (drop count (a ∷ stream) ≡ []) ⊎ (is_begun (drop count (a ∷ stream)) ≡ true)) one_more rest
    by_first false is rest = inr (ap (λ (b : Bool). if b then false else true) is)

empty_none : (guard : Guard) → BeginsNoAsk guard []
empty_none guard = none_in_head guard [] refl (omega arith) (inl refl)

empty_reads : (guard : Guard) → ask_behind guard (head_length []) [] ≡ None
empty_reads guard = refl

pub first_is : (guard : Guard) (stream : List ℕ) (read : Ask × List ℕ) → first_ask guard stream ≡ Some read → Fronts guard stream read
first_is guard stream read e = by_left (begun_behind stream)
  where
    by_left : (drop (prefix_len ends_line stream) stream ≡ []) ⊎ (is_begun (drop (prefix_len ends_line stream) stream) ≡ true) → Fronts guard stream read
    by_left (inl empty) = absurd (no_value (sym (ap (λ bytes. ask_behind guard (head_length bytes) bytes) empty ∙ empty_reads guard) ∙ e))
    by_left (inr begun) =
        let count = prefix_len ends_line stream in
        let front = behind_is guard (drop count stream) (head_length (drop count stream)) read begun refl e in (
          take count stream ++ front.0,
          sym (take-append-drop count stream) ∙ ap (λ back. take count stream ++ back) front.1 ∙ sym (append_assoc (take count stream) front.0 read.1),
          dropped_more guard (take count stream) front.0 read.0 (dropped_all stream) front.2,
          omega (arith, front.3, length-append (take count stream) front.0),
        )

pub first_none : (guard : Guard) (stream : List ℕ) → first_ask guard stream ≡ None → BeginsNoAsk guard stream
first_none guard stream e =
    let count = prefix_len ends_line stream in
    subst (BeginsNoAsk guard) (take-append-drop count stream)
    (still_none guard (take count stream) (drop count stream) (dropped_all stream) (by_left (begun_behind stream)))
  where
    by_left : (drop (prefix_len ends_line stream) stream ≡ []) ⊎ (is_begun (drop (prefix_len ends_line stream) stream) ≡ true)
        → BeginsNoAsk guard (drop (prefix_len ends_line stream) stream)
    by_left (inl empty) = subst (BeginsNoAsk guard) (sym empty) (empty_none guard)
    by_left (inr begun) =
        none_behind guard (drop (prefix_len ends_line stream) stream) (head_length (drop (prefix_len ends_line stream) stream)) begun refl e

-- all asks

pub are_asks : (most : ℕ) (guard : Guard) (stream : List ℕ) → length stream < most → AreAsks guard stream (asks_at most guard stream)
are_asks zero guard stream few = absurd (omega (arith, few))
are_asks (suc most) guard stream few =
    by_first (first_ask guard stream) refl (λ rest shorter. are_asks most guard rest shorter)
  where
    by_first : (read : Option (Ask × List ℕ)) → first_ask guard stream ≡ read
        → ((rest : List ℕ) → length rest < most → AreAsks guard rest (asks_at most guard rest)) → AreAsks guard stream (told (asks_at most guard) read)
    by_first None is further = first_none guard stream is
    by_first (Some (Bad refusal, rest)) is further =
        let front = first_is guard stream (Bad refusal, rest) is in
        (front.0, rest, front.1, front.2, refl)
    by_first (Some (Call body close, rest)) is further =
        let front = first_is guard stream (Call body close, rest) is in
        (front.0, rest, front.1, front.2, further rest (omega (arith, few, front.3, ap length front.1, length-append front.0 rest)))

pub asks_are : (guard : Guard) (stream : List ℕ) → AreAsks guard stream (asks_of guard stream)
unfolding asks_of
asks_are guard stream = are_asks (1 + length stream) guard stream (omega arith)
