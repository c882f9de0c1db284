-- What taking bytes makes of the stream that a reader stands for.
use Rattle.std.proofs.Common.{◌≡◌, ◌<◌, ◌+◌, ◌-◌, ◌⊎◌, inl, inr, ℕ, suc, List, [], ◌∷◌, ◌++◌, length, take, None, Bool, true, false, refl, sym, ap, ◌∙◌, subst, arith, append_assoc, append-nil, length-append, replicate, cond, ◌&&◌}
use Rattle.std.specs.List.{list_all, prefix_len}
use Rattle.std.specs.Prelude.{option_map}
use Rattle.std.proofs.lemmas.List.{length-replicate}
use Rattle.std.proofs.lemmas.Bool.{and_parts}
use Rattle.std.proofs.lemmas.List.Folds.{list_all-append}
use Rattle.sv_http.proofs.Texts.{no_value, head_front}
use Rattle.sv_http.proofs.Streams.{ask_once, cut_of, stripped, regrouped, begun_front, first, behind, clash}
use Rattle.sv_http.specs.AskTable.{Judged}
use Rattle.sv_http.specs.ReaderPlaces.{Stands, GoesOn, IsSearched, pending}
use Rattle.sv_http.specs.RequestStream.{AreAsks, IsAsk, BeginsNoAsk, head_length, ends_line, is_begun, IsHead, IsTooLong, head_limit}
use Rattle.sv_http.specs.declared.ask.Ask.{Ask}
use Rattle.sv_http.specs.declared.ask.Ask.TheVariants.{Call, Bad}
use Rattle.sv_http.specs.declared.guard.Guard.{Guard}
use Rattle.sv_http.specs.declared.head.Ruling.TheVariants.{Refused, Takes}
use Rattle.sv_http.specs.declared.line.Line.{Line}
use Rattle.sv_http.specs.declared.line.Line.TheVariants as line
use Rattle.sv_http.specs.declared.reader.StreamProgress.{StreamProgress}
use Rattle.sv_http.specs.declared.reader.StreamProgress.TheVariants as place
use Rattle.sv_http.specs.declared.status.Refusal.{Refusal}
use Rattle.sv_http.specs.declared.status.Refusal.TheVariants.{HeadTooLarge}

-- what is dropped before a head

pub all_of : (front dropped : List ℕ) → list_all ends_line front ≡ true → list_all ends_line dropped ≡ true → list_all ends_line (front ++ dropped) ≡ true
all_of front dropped one other = list_all-append ends_line front dropped ∙ ap (λ b. b && list_all ends_line dropped) one ∙ other

pub dropped_more : (guard : Guard) (front text : List ℕ) (ask : Ask) → list_all ends_line front ≡ true → IsAsk guard text ask → IsAsk guard (front ++ text) ask
dropped_more guard front text ask all is = record {
  dropped = front ++ is.dropped;
  head = is.head;
  body = is.body;
  text_is = ap (λ back. front ++ back) is.text_is ∙ sym (append_assoc front (is.dropped ++ is.head) is.body)
      ∙ ap (λ back. back ++ is.body) (sym (append_assoc front is.dropped is.head));
  dropped_is = all_of front is.dropped all is.dropped_is;
  begun = is.begun;
  asks = is.asks;
}

-- what is left of the dropped bytes after some of them
leftover : (front dropped head more : List ℕ) → list_all ends_line front ≡ true → is_begun head ≡ true → front ++ more ≡ dropped ++ head
    → (left : List ℕ) × (dropped ≡ front ++ left) × (more ≡ left ++ head)
leftover [] dropped head more all begun same = (dropped, refl, same)
leftover (a ∷ front) [] [] more all begun same = absurd cc
leftover (a ∷ front) [] (b ∷ head) more all begun same =
    absurd (clash (ends_line a) (list_all ends_line front) all (subst (λ (c : ℕ). is_begun (c ∷ head) ≡ true) (sym (ap first same)) begun))
leftover (a ∷ front) (b ∷ dropped) head more all begun same =
    let rest = leftover front dropped head more (and_parts (ends_line a) (list_all ends_line front) all).1 begun (ap behind same) in
    (rest.0, ap (λ c. c ∷ dropped) (sym (ap first same)) ∙ ap (λ back. a ∷ back) rest.1, rest.2)

pub still_none : (guard : Guard) (front more : List ℕ) → list_all ends_line front ≡ true → BeginsNoAsk guard more → BeginsNoAsk guard (front ++ more)
still_none guard front more all none = λ text rest ask same is.
    let left = leftover front is.dropped (is.head ++ (is.body ++ rest)) more all (begun_front is.head (is.body ++ rest) is.begun)
    (same ∙ regrouped is.dropped is.head is.body rest is.text_is) in
    let parts : (list_all ends_line front && list_all ends_line left.0) ≡ true
    = sym (list_all-append ends_line front left.0) ∙ ap (list_all ends_line) (sym left.1) ∙ is.dropped_is in
    none (left.0 ++ is.head ++ is.body) rest ask (left.2 ∙ sym (regrouped left.0 is.head is.body rest refl))
    (record {
      dropped = left.0;
      head = is.head;
      body = is.body;
      text_is = refl;
      dropped_is = (and_parts (list_all ends_line front) (list_all ends_line left.0) parts).1;
      begun = is.begun;
      asks = is.asks;
    })

pub behind_dropped : (guard : Guard) (front more : List ℕ) (later : List Ask) → list_all ends_line front ≡ true → AreAsks guard more later → AreAsks guard (front ++ more) later
behind_dropped guard front more [] all are = still_none guard front more all are
behind_dropped guard front more (Call body close ∷ later) all are = (
  front ++ are.0,
  are.1,
  ap (λ back. front ++ back) are.2 ∙ sym (append_assoc front are.0 are.1),
  dropped_more guard front are.0 (Call body close) all are.3,
  are.4,
)
behind_dropped guard front more (Bad refusal ∷ later) all are = (
  front ++ are.0,
  are.1,
  ap (λ back. front ++ back) are.2 ∙ sym (append_assoc front are.0 are.1),
  dropped_more guard front are.0 (Bad refusal) all are.3,
  are.4,
)

-- the asks of what is undecided

pub no_head : (head : List ℕ) (at : Line) → IsSearched head at → head_length head ≡ None
no_head head at searched =
    ap head_length (sym (append-nil head)) ∙ searched.2 [] ∙ ap (option_map (λ size. length searched.0 + size)) (open_line at)
  where
    open_line : (at : Line) → head_length (pending at ++ []) ≡ None
    open_line line.Text = refl
    open_line line.Feed = refl
    open_line line.FeedReturn = refl

pub none_in_head : (guard : Guard) (head : List ℕ) → head_length head ≡ None → length head < head_limit → (head ≡ []) ⊎ (is_begun head ≡ true) → BeginsNoAsk guard head
none_in_head guard head none small begun = λ text rest ask same is.
    let whole = same ∙ regrouped is.dropped is.head is.body rest is.text_is in
    by_begun text rest ask is whole begun
  where
    cut : (h tail : List ℕ) → IsHead h ⊎ IsTooLong h → head ≡ h ++ tail → ⊥
    cut h tail (inl is) same = no_value (sym none ∙ ap head_length same ∙ head_front h tail (length h) is.0)
    cut h tail (inr is) same = omega (arith, is.1, small, ap length same, length-append h tail)

    by_begun : (text rest : List ℕ) (ask : Ask) (is : IsAsk guard text ask) → head ≡ is.dropped ++ (is.head ++ (is.body ++ rest))
        → (head ≡ []) ⊎ (is_begun head ≡ true) → ⊥
    by_begun text rest ask is whole (inl empty) = nothing is.dropped is.head (is.body ++ rest) is.begun (sym empty ∙ whole)
      where
        nothing : (dropped h tail : List ℕ) → is_begun h ≡ true → [] ≡ dropped ++ (h ++ tail) → ⊥
        nothing [] [] tail begun same = absurd cc
        nothing [] (a ∷ h) tail begun same = absurd cc
        nothing (a ∷ dropped) h tail begun same = absurd cc
    by_begun text rest ask is whole (inr begun) =
        cut is.head (is.body ++ rest) (cut_of guard is.head is.body ask is.asks)
        (stripped [] is.dropped head (is.head ++ (is.body ++ rest)) refl is.dropped_is begun (begun_front is.head (is.body ++ rest) is.begun) whole)

-- a head and a body that is whole
pub call_is : (guard : Guard) (head body : List ℕ) (size : ℕ) (close : Bool) → is_begun head ≡ true → IsHead head → Judged guard head (Takes size close)
    → length body ≡ size → IsAsk guard (head ++ body) (Call body close)
call_is guard head body size close begun is judged whole = record {
  dropped = [];
  head = head;
  body = body;
  text_is = refl;
  dropped_is = refl;
  begun = begun;
  asks = (is, subst (λ (n : ℕ). Judged guard head (Takes n close)) (sym whole) judged, refl);
}

pub none_in_body : (guard : Guard) (head body : List ℕ) (size : ℕ) (close : Bool) → is_begun head ≡ true → IsHead head → Judged guard head (Takes size close)
    → length body < size → BeginsNoAsk guard (head ++ body)
none_in_body guard head body size close begun is judged short = λ text rest ask same asked.
    let pad : List ℕ = replicate (size - length body) 0 in
    let full : length (body ++ pad) ≡ size = omega (arith, length-append body pad, length-replicate {A = ℕ} (size - length body) 0, short) in
    let other = ask_once guard text (head ++ (body ++ pad)) (rest ++ pad) [] ask (Call (body ++ pad) close) asked
    (call_is guard head (body ++ pad) size close begun is judged full)
    (sym (append_assoc text rest pad) ∙ ap (λ all. all ++ pad) (sym same) ∙ append_assoc head body pad ∙ sym (append-nil (head ++ (body ++ pad)))) in
    absurd (omega (arith, ap length other.1, length-append rest pad, length-replicate {A = ℕ} (size - length body) 0, short))

pub settled : (guard : Guard) (kept stream : List ℕ) (asks : List Ask) → GoesOn guard kept stream asks → BeginsNoAsk guard kept → AreAsks guard stream asks
settled guard kept stream asks goes none =
    subst (λ (all : List Ask). AreAsks guard stream all) (append-nil asks)
    (subst (λ (all : List ℕ). AreAsks guard all (asks ++ [])) (append-nil stream)
    (goes.next [] [] (subst (λ (all : List ℕ). BeginsNoAsk guard all) (sym (append-nil kept)) none)))

-- what a reader stands for has these asks
pub stands_asks : (guard : Guard) (at : StreamProgress) (head body stream : List ℕ) (asks : List Ask) → Stands guard at head body stream asks → AreAsks guard stream asks
stands_asks guard (place.Head at) head body stream asks stands =
    settled guard head stream asks stands.4 (none_in_head guard head (no_head head at stands.0) stands.2 stands.1)
stands_asks guard (place.Body size close) head body stream asks stands =
    settled guard (stands.0 ++ body) stream asks stands.6 (none_in_body guard stands.0 body size.body close stands.1 stands.2 stands.3 stands.4)
stands_asks guard place.Over head body stream asks stands = subst (λ (all : List ℕ). AreAsks guard all asks) (append-nil stream) (stands.asked [])
stands_asks guard place.Broken head body stream asks stands = absurd stands

-- heads that are refused

pub too_large : (guard : Guard) (head : List ℕ) → is_begun head ≡ true → IsTooLong head → IsAsk guard head (Bad HeadTooLarge)
too_large guard head begun is = record {
  dropped = [];
  head = head;
  body = [];
  text_is = sym (append-nil head);
  dropped_is = refl;
  begun = begun;
  asks = (refl, inr (is, refl));
}

pub bad_head : (guard : Guard) (head : List ℕ) (refusal : Refusal) → is_begun head ≡ true → IsHead head → Judged guard head (Refused refusal) → IsAsk guard head (Bad refusal)
bad_head guard head refusal begun is judged = record {
  dropped = [];
  head = head;
  body = [];
  text_is = sym (append-nil head);
  dropped_is = refl;
  begun = begun;
  asks = (refl, inl (is, judged));
}

-- the bytes that are dropped
pub dropped_all : (bytes : List ℕ) → list_all ends_line (take (prefix_len ends_line bytes) bytes) ≡ true
dropped_all [] = refl
dropped_all (a ∷ bytes) = by_first (ends_line a) refl (dropped_all bytes)
  where
    by_first : (b : Bool) → ends_line a ≡ b → list_all ends_line (take (prefix_len ends_line bytes) bytes) ≡ true
        → list_all ends_line (take (cond b (1 + prefix_len ends_line bytes) 0) (a ∷ bytes)) ≡ true
    by_first true ends rest =
        let one_more : 1 + prefix_len ends_line bytes ≡ suc (prefix_len ends_line bytes) = omega arith in
        ap (λ count. list_all ends_line (take count (a ∷ bytes))) one_more ∙ ap (λ b. b && list_all ends_line (take (prefix_len ends_line bytes) bytes)) ends ∙ rest
    by_first false ends rest = refl

pub begun_take : (count : ℕ) (bytes : List ℕ) → 0 < count → is_begun bytes ≡ true → is_begun (take count bytes) ≡ true
begun_take count [] some begun = absurd cc
begun_take count (a ∷ bytes) some begun =
    let more : count ≡ suc (count - 1) = omega (arith, some) in
    ap (λ n. is_begun (take n (a ∷ bytes))) more ∙ begun
