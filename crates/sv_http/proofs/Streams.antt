-- The one list of asks of a stream.
use Rattle.std.proofs.Common.{◌≡◌, ◌⊎◌, inl, inr, ℕ, List, [], ◌∷◌, ◌++◌, length, take, drop, Bool, true, false, refl, sym, ap, ◌∙◌, subst, arith, append_assoc, if◌then◌else◌, ◌&&◌}
use Rattle.std.specs.List.{list_all}
use Rattle.std.proofs.lemmas.Bool.{and_parts}
use Rattle.std.proofs.Math.Seq.{drop-append_seam, take-append_seam}
use Rattle.httparse.proofs.GrammarLemmas.{request_unique}
use Rattle.sv_http.proofs.Rulings.{same_value}
use Rattle.sv_http.proofs.Texts.{no_value, head_front, head_within}
use Rattle.sv_http.specs.AskTable.{Judged, ruled}
use Rattle.sv_http.specs.RequestStream.{AreAsks, IsAsk, Asks, head_length, ends_line, is_begun, IsHead, IsTooLong}
use Rattle.sv_http.specs.declared.ask.Ask.{Ask}
use Rattle.sv_http.specs.declared.ask.Ask.TheVariants.{Call, Bad}
use Rattle.sv_http.specs.declared.guard.Guard.{Guard}
use Rattle.sv_http.specs.declared.head.Ruling.{Ruling}
use Rattle.sv_http.specs.declared.head.Ruling.TheVariants.{Refused, Takes}
use Rattle.sv_http.specs.declared.status.Refusal.{Refusal}

-- prefixes of one length are the same, and so is what follows them
pub same_front : (a b x y : List ℕ) → length a ≡ length b → a ++ x ≡ b ++ y → (a ≡ b) × (x ≡ y)
same_front a b x y size same = (
  sym (take-append_seam a x) ∙ ap (λ n. take n (a ++ x)) size ∙ ap (λ all. take (length b) all) same ∙ take-append_seam b y,
  sym (drop-append_seam a x) ∙ ap (λ n. drop n (a ++ x)) size ∙ ap (λ all. drop (length b) all) same ∙ drop-append_seam b y,
)

-- a head has one ruling
pub judged_once : (guard : Guard) (head : List ℕ) (one other : Ruling) → Judged guard head one → Judged guard head other → one ≡ other
judged_once guard head one other (inl a) (inl b) =
    a.2 ∙ ap (ruled guard) (request_unique head a.0 b.0 [] [] a.1.0 b.1.0).0 ∙ sym b.2
judged_once guard head one other (inl a) (inr b) = absurd (b.0 a.0 a.1)
judged_once guard head one other (inr a) (inl b) = absurd (a.0 b.0 b.1)
judged_once guard head one other (inr a) (inr b) = a.1 ∙ sym b.1

abbrev pub first : List ℕ → ℕ
first [] = 0
first (byte ∷ bytes) = byte

abbrev pub behind : List ℕ → List ℕ
behind [] = []
behind (byte ∷ bytes) = bytes

-- a byte that is dropped begins no head
pub clash : (ends rest : Bool) → (ends && rest) ≡ true → (if ends then false else true) ≡ true → ⊥
clash true rest all begun = absurd cc
clash false rest all begun = absurd cc

-- what is dropped ends at the first byte of a head
pub stripped : (dropped other x y : List ℕ) → list_all ends_line dropped ≡ true → list_all ends_line other ≡ true
    → is_begun x ≡ true → is_begun y ≡ true → dropped ++ x ≡ other ++ y → x ≡ y
stripped [] [] x y all every begun start same = same
stripped [] (b ∷ other) [] y all every begun start same = absurd cc
stripped [] (b ∷ other) (a ∷ x) y all every begun start same =
    absurd (clash (ends_line b) (list_all ends_line other) every (subst (λ (c : ℕ). is_begun (c ∷ x) ≡ true) (ap first same) begun))
stripped (a ∷ dropped) [] x [] all every begun start same = absurd cc
stripped (a ∷ dropped) [] x (b ∷ y) all every begun start same =
    absurd (clash (ends_line a) (list_all ends_line dropped) all (subst (λ (c : ℕ). is_begun (c ∷ y) ≡ true) (sym (ap first same)) start))
stripped (a ∷ dropped) (b ∷ other) x y all every begun start same =
    stripped dropped other x y (and_parts (ends_line a) (list_all ends_line dropped) all).1 (and_parts (ends_line b) (list_all ends_line other) every).1
    begun start (ap behind same)

-- a whole head, or the bytes of one that is too long
abbrev pub IsCut : List ℕ → Type 0
IsCut head = IsHead head ⊎ IsTooLong head

pub cut_of : (guard : Guard) (head body : List ℕ) (ask : Ask) → Asks guard head body ask → IsCut head
cut_of guard head body (Call bytes close) asks = inl asks.0
cut_of guard head body (Bad refusal) (empty, inl asks) = inl asks.0
cut_of guard head body (Bad refusal) (empty, inr asks) = inr asks.0

never_both : (head long x y : List ℕ) → IsHead head → IsTooLong long → head ++ x ≡ long ++ y → ⊥
never_both head long x y whole more same =
    no_value (sym more.0 ∙ head_within long y (length head) (ap head_length (sym same) ∙ head_front head x (length head) whole.0) (omega (arith, whole.1, more.1)))

-- what begins with two heads begins with one
pub same_head : (a b x y : List ℕ) → IsCut a → IsCut b → a ++ x ≡ b ++ y → (a ≡ b) × (x ≡ y)
same_head a b x y (inl one) (inl other) same =
    same_front a b x y (same_value (sym (head_front a x (length a) one.0) ∙ ap head_length same ∙ head_front b y (length b) other.0)) same
same_head a b x y (inl one) (inr other) same = absurd (never_both a b x y one other same)
same_head a b x y (inr one) (inl other) same = absurd (never_both b a y x other one (sym same))
same_head a b x y (inr one) (inr other) same = same_front a b x y (one.1 ∙ sym other.1) same

abbrev pub size_of : Ruling → ℕ
size_of (Takes size close) = size
size_of (Refused refusal) = 0

abbrev close_of : Ruling → Bool
close_of (Takes size close) = close
close_of (Refused refusal) = false

abbrev refusal_of : Refusal → Ruling → Refusal
refusal_of other (Takes size close) = other
refusal_of other (Refused refusal) = refusal

abbrev takes : Ruling → Bool
takes (Takes size close) = true
takes (Refused refusal) = false

pub never_takes : (size : ℕ) (close : Bool) (refusal : Refusal) → Takes size close ≡ Refused refusal → ⊥
never_takes size close refusal same = let t : true ≡ false = ap takes same in absurd cc

-- one head and what follows it ask one thing
pub asks_once : (guard : Guard) (head body other r q : List ℕ) (ask asked : Ask) → Asks guard head body ask → Asks guard head other asked
    → body ++ r ≡ other ++ q → (ask ≡ asked) × (r ≡ q)
asks_once guard head body other r q (Call bytes close) (Call texts closing) one two same =
    let ruled = judged_once guard head (Takes (length body) close) (Takes (length other) closing) one.1 two.1 in
    let parts = same_front body other r q (ap size_of ruled) same in (
      ap (λ b. Call b close) (one.2 ∙ parts.0 ∙ sym two.2) ∙ ap (λ c. Call texts c) (ap close_of ruled),
      parts.1,
    )
asks_once guard head body other r q (Call bytes close) (Bad refusal) one (empty, inl two) same =
    absurd (never_takes (length body) close refusal (judged_once guard head (Takes (length body) close) (Refused refusal) one.1 two.1))
asks_once guard head body other r q (Call bytes close) (Bad refusal) one (empty, inr two) same =
    absurd (never_both head head [] [] one.0 two.0 refl)
asks_once guard head body other r q (Bad refusal) (Call bytes close) (empty, inl one) two same =
    absurd (never_takes (length other) close refusal (judged_once guard head (Takes (length other) close) (Refused refusal) two.1 one.1))
asks_once guard head body other r q (Bad refusal) (Call bytes close) (empty, inr one) two same =
    absurd (never_both head head [] [] two.0 one.0 refl)
asks_once guard head body other r q (Bad refusal) (Bad reason) (empty, inl one) (none, inl two) same = (
  ap Bad (ap (refusal_of refusal) (judged_once guard head (Refused refusal) (Refused reason) one.1 two.1)),
  ap (λ front. front ++ r) (sym empty) ∙ same ∙ ap (λ front. front ++ q) none,
)
asks_once guard head body other r q (Bad refusal) (Bad reason) (empty, inl one) (none, inr two) same =
    absurd (never_both head head [] [] one.0 two.0 refl)
asks_once guard head body other r q (Bad refusal) (Bad reason) (empty, inr one) (none, inl two) same =
    absurd (never_both head head [] [] two.0 one.0 refl)
asks_once guard head body other r q (Bad refusal) (Bad reason) (empty, inr one) (none, inr two) same = (
  ap Bad (one.1 ∙ sym two.1),
  ap (λ front. front ++ r) (sym empty) ∙ same ∙ ap (λ front. front ++ q) none,
)

-- the same where the head and the body stand after what is dropped
pub regrouped : {text : List ℕ} (dropped head body rest : List ℕ) → text ≡ dropped ++ head ++ body → text ++ rest ≡ dropped ++ (head ++ (body ++ rest))
regrouped dropped head body rest is =
    ap (λ all. all ++ rest) is ∙ append_assoc (dropped ++ head) body rest ∙ append_assoc dropped head (body ++ rest)

pub begun_front : (head more : List ℕ) → is_begun head ≡ true → is_begun (head ++ more) ≡ true
begun_front [] more begun = absurd cc
begun_front (a ∷ head) more begun = begun

-- a stream begins with one ask
pub ask_once : (guard : Guard) (text other r q : List ℕ) (ask asked : Ask) → IsAsk guard text ask → IsAsk guard other asked
    → text ++ r ≡ other ++ q → (ask ≡ asked) × (r ≡ q)
ask_once guard text other r q ask asked one two same =
    let behind_dropped = stripped one.dropped two.dropped (one.head ++ (one.body ++ r)) (two.head ++ (two.body ++ q)) one.dropped_is two.dropped_is
    (begun_front one.head (one.body ++ r) one.begun) (begun_front two.head (two.body ++ q) two.begun)
    (sym (regrouped one.dropped one.head one.body r one.text_is) ∙ same ∙ regrouped two.dropped two.head two.body q two.text_is) in
    let heads = same_head one.head two.head (one.body ++ r) (two.body ++ q) (cut_of guard one.head one.body ask one.asks)
    (cut_of guard two.head two.body asked two.asks) behind_dropped in
    asks_once guard one.head one.body two.body r q ask asked one.asks
    (subst (λ (head : List ℕ). Asks guard head two.body asked) (sym heads.0) two.asks) heads.1

abbrev is_call : Ask → Bool
is_call (Call body close) = true
is_call (Bad refusal) = false

never_bad : (body : List ℕ) (close : Bool) (refusal : Refusal) → Call body close ≡ Bad refusal → ⊥
never_bad body close refusal same = let t : true ≡ false = ap is_call same in absurd cc

-- a stream has one list of asks
pub asks_unique : (guard : Guard) (stream : List ℕ) (asks others : List Ask) → AreAsks guard stream asks → AreAsks guard stream others → asks ≡ others
asks_unique guard stream [] [] one two = refl
asks_unique guard stream [] (Call body close ∷ others) one two = absurd (one two.0 two.1 (Call body close) two.2 two.3)
asks_unique guard stream [] (Bad refusal ∷ others) one two = absurd (one two.0 two.1 (Bad refusal) two.2 two.3)
asks_unique guard stream (Call body close ∷ asks) [] one two = absurd (two one.0 one.1 (Call body close) one.2 one.3)
asks_unique guard stream (Bad refusal ∷ asks) [] one two = absurd (two one.0 one.1 (Bad refusal) one.2 one.3)
asks_unique guard stream (Call body close ∷ asks) (Call bytes closing ∷ others) one two =
    let same = ask_once guard one.0 two.0 one.1 two.1 (Call body close) (Call bytes closing) one.3 two.3 (sym one.2 ∙ two.2) in
    ap (λ ask. ask ∷ asks) same.0
    ∙ ap (λ more. Call bytes closing ∷ more) (asks_unique guard one.1 asks others one.4 (subst (λ (rest : List ℕ). AreAsks guard rest others) (sym same.1) two.4))
asks_unique guard stream (Call body close ∷ asks) (Bad refusal ∷ others) one two =
    absurd (never_bad body close refusal (ask_once guard one.0 two.0 one.1 two.1 (Call body close) (Bad refusal) one.3 two.3 (sym one.2 ∙ two.2)).0)
asks_unique guard stream (Bad refusal ∷ asks) (Call body close ∷ others) one two =
    absurd (never_bad body close refusal (sym (ask_once guard one.0 two.0 one.1 two.1 (Bad refusal) (Call body close) one.3 two.3 (sym one.2 ∙ two.2)).0))
asks_unique guard stream (Bad refusal ∷ asks) (Bad reason ∷ others) one two =
    let same = ask_once guard one.0 two.0 one.1 two.1 (Bad refusal) (Bad reason) one.3 two.3 (sym one.2 ∙ two.2) in
    ap (λ ask. ask ∷ asks) same.0 ∙ ap (λ more. Bad reason ∷ more) (one.4 ∙ sym two.4)

-- nothing follows a refusal
pub none_follow : (guard : Guard) (stream : List ℕ) (asks later : List Ask) (refusal : Refusal) → AreAsks guard stream (asks ++ Bad refusal ∷ later) → later ≡ []
none_follow guard stream [] later refusal are = are.4
none_follow guard stream (Call body close ∷ asks) later refusal are = none_follow guard are.1 asks later refusal are.4
none_follow guard stream (Bad reason ∷ []) later refusal are = absurd (let none = are.4 in cc)
none_follow guard stream (Bad reason ∷ ask ∷ asks) later refusal are = absurd (let none = are.4 in cc)
