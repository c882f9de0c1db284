-- What is heard of an event that was written, and of a prefix of one.
use Rattle.std.proofs.Common.{◌≡◌, ◌<◌, ◌≤◌, ◌+◌, ◌++◌, ℕ, List, [], ◌∷◌, true, false, Option, None, Some, length, take, nat_le, nat_lt, refl, ap, sym, ◌∙◌, subst, arith, append_assoc, append-nil, length-append}
use Rattle.std.specs.Prelude.{if◌then◌else◌}
use Rattle.std.proofs.Math.Seq.{take-append_seam, drop-append_seam}
use Rattle.std.proofs.lemmas.Bool.Decides.{nat_tests}
use Rattle.sv_listener.proofs.Hearings.{hears_is}
use Rattle.sv_listener.specs.Hearing.{Hearing, by_line, event_of, first_of, hearing_of, hears_by, with_body, with_event, with_header}
use Rattle.sv_listener.specs.HeaderLine.{Header, header_of}
use Rattle.sv_listener.specs.Limits.{body_limit, header_limit}
use Rattle.sv_listener.specs.Reading.{cut_at}
use Rattle.sv_listener.specs.declared.events.HeardFault.TheVariants.{BadHeader, TooLong}
use Rattle.sv_listener.specs.declared.first.First.{First}
use Rattle.sv_listener.specs.declared.first.First.TheVariants.{Open, Fault, Whole}
use Rattle.sv_listener.proofs.Heads.{head_is_short, head_lacks_feed, head_read, header_for}
use Rattle.sv_listener.proofs.Spelled.{cut_word, lacks_front}
use Rattle.sv_listener.specs.EventText.{CanBeHeard, Event, head_of, heard_of, text_of}

not_over : (limit size : ℕ) → size ≤ limit → nat_lt limit size ≡ false
not_over limit size within = grind (arith, nat_tests)

le_is : (a b : ℕ) → a ≤ b → nat_le a b ≡ true
le_is a b less = grind (arith, nat_tests)

le_isnt : (a b : ℕ) → b < a → nat_le a b ≡ false
le_isnt a b more = grind (arith, nat_tests)

-- a line that is short and says this
line_is : (all line after : List ℕ) (header : Header) → length line ≤ 4096 → header_of line ≡ Some header
    → by_line all (Some (line, after)) ≡ with_body (length line + 1) header header.size after
line_is all line after header short says =
    ap (λ test. if test then Fault BadHeader else with_header (length line + 1) (header_of line) after) (not_over header_limit (length line) short)
    ∙ ap (λ (h : Option Header). with_header (length line + 1) h after) says

first_by_cut : (bytes line after : List ℕ) → ◌≡◌ {A = Option (List ℕ × List ℕ)} (cut_at 10 bytes) (Some (line, after))
    → first_of bytes ≡ by_line bytes (Some (line, after))
unfolding first_of
first_by_cut bytes line after cut = ap (λ (c : Option (List ℕ × List ℕ)). by_line bytes c) cut

first_by_none : (bytes : List ℕ) → cut_at 10 bytes ≡ None → length bytes ≤ 4096 → first_of bytes ≡ Open
unfolding first_of
first_by_none bytes none short =
    ap (λ (c : Option (List ℕ × List ℕ)). by_line bytes c) none
    ∙ ap (λ test. if test then Fault BadHeader else Open) (not_over header_limit (length bytes) short)

-- the header line, and what came of the body
first_with : (event : Event) (after : List ℕ) → CanBeHeard event
    → first_of (head_of event ++ 10 ∷ after)
    ≡ with_body (length (head_of event) + 1) (header_for event) (header_for event).size after
first_with event after can =
    first_by_cut (head_of event ++ 10 ∷ after) (head_of event) after
    (cut_word 10 (head_of event) after (head_lacks_feed event can))
    ∙ line_is (head_of event ++ 10 ∷ after) (head_of event) after (header_for event)
    (head_is_short event can)
    (head_read event can)

body_whole : (event : Event) (more : List ℕ) (before : ℕ) → length event.body ≤ 33554432
    → with_body before (header_for event) (header_for event).size (event.body ++ more)
    ≡ Whole (heard_of event) (before + length event.body)
body_whole event more before short =
    let size : ℕ = length event.body in
    let room : size ≤ length (event.body ++ more) = omega (arith, length-append event.body more) in
    ap (λ test. if test then Fault TooLong else if nat_le size (length (event.body ++ more))
    then Whole (event_of (header_for event) (take size (event.body ++ more))) (before + size) else Open)
    (not_over body_limit size short)
    ∙ ap (λ test. if test
    then Whole (event_of (header_for event) (take size (event.body ++ more))) (before + size) else Open)
    (le_is size (length (event.body ++ more)) room)
    ∙ ap (λ body. Whole (event_of (header_for event) body) (before + size)) (take-append_seam event.body more)

body_open : (event : Event) (front : List ℕ) (before : ℕ) → length event.body ≤ 33554432 → length front < length event.body
    → with_body before (header_for event) (header_for event).size front ≡ Open
body_open event front before short few =
    let size : ℕ = length event.body in
    ap (λ test. if test then Fault TooLong else if nat_le size (length front)
    then Whole (event_of (header_for event) (take size front)) (before + size) else Open)
    (not_over body_limit size short)
    ∙ ap (λ test. if test then Whole (event_of (header_for event) (take size front)) (before + size) else Open)
    (le_isnt size (length front) few)

-- ---- a whole envelope stands first

first_whole : (event : Event) (more : List ℕ) → CanBeHeard event
    → first_of (text_of event ++ more) ≡ Whole (heard_of event) (length (text_of event))
first_whole event more can =
    ap first_of (append_assoc (head_of event) (10 ∷ event.body) more)
    ∙ first_with event (event.body ++ more) can
    ∙ body_whole event more (length (head_of event) + 1) can.body
    ∙ ap (λ (n : ℕ). Whole (heard_of event) n) (sizes (head_of event) event.body)
  where
    sizes : (line body : List ℕ) → length line + 1 + length body ≡ length (line ++ 10 ∷ body)
    sizes line body = omega (arith, length-append line (10 ∷ body))

pub hears_whole : (event : Event) (more : List ℕ) → CanBeHeard event
    → hearing_of (text_of event ++ more) ≡ with_event (heard_of event) (hearing_of more)
hears_whole event more can =
    hears_is (text_of event ++ more)
    ∙ ap (λ (first : First). hears_by hearing_of (text_of event ++ more) first) (first_whole event more can)
    ∙ ap (λ (rest : List ℕ). with_event (heard_of event) (hearing_of rest)) (drop-append_seam (text_of event) more)

-- ---- two cuts of one list

pub data Splits (front rest one two : List ℕ) : Type 0 where
  -- the first part ends inside the first of the others
  within : (more : ℕ) (left : List ℕ) → one ≡ front ++ more ∷ left → rest ≡ (more ∷ left) ++ two → Splits front rest one two
  behind : (left : List ℕ) → front ≡ one ++ left → two ≡ left ++ rest → Splits front rest one two

longer : (front rest one two : List ℕ) (a b : ℕ) → a ≡ b → Splits front rest one two → Splits (a ∷ front) rest (b ∷ one) two
longer front rest one two a b same (within more left is after) =
    within more left (ap (λ (l : List ℕ). b ∷ l) is ∙ ap (λ (h : ℕ). h ∷ (front ++ more ∷ left)) (sym same)) after
longer front rest one two a b same (behind left is after) =
    behind left (ap (λ (l : List ℕ). a ∷ l) is ∙ ap (λ (h : ℕ). h ∷ (one ++ left)) same) after

pub splits : (front rest one two : List ℕ) → front ++ rest ≡ one ++ two → Splits front rest one two
splits [] rest [] two same = behind [] refl (sym same)
splits [] rest (a ∷ one) two same = within a one refl same
splits (a ∷ front) rest [] two same = behind (a ∷ front) refl (sym same)
splits (a ∷ front) rest (b ∷ one) two same = longer front rest one two a b (cc) (splits front rest one two (cc))

-- ---- a prefix of an envelope

first_front : (event : Event) (front : List ℕ) (more : ℕ) (left : List ℕ) → CanBeHeard event
    → front ++ more ∷ left ≡ text_of event → first_of front ≡ Open
first_front event front more left can same = by_split (splits front (more ∷ left) (head_of event) (10 ∷ event.body) same)
  where
    lacks : cut_at 10 (head_of event) ≡ None
    lacks = head_lacks_feed event can

    short : length (head_of event) ≤ 4096
    short = head_is_short event can

    in_body : (line : List ℕ) (after : List ℕ) → line ≡ head_of event → front ≡ line ++ 10 ∷ after → length after < length event.body → first_of front ≡ Open
    in_body line after is_line is few =
        ap first_of is ∙ ap (λ (l : List ℕ). first_of (l ++ 10 ∷ after)) is_line ∙ first_with event after can
        ∙ body_open event after (length (head_of event) + 1) can.body few

    behind_line : (after : List ℕ) → front ≡ head_of event ++ after → 10 ∷ event.body ≡ after ++ more ∷ left → first_of front ≡ Open
    behind_line [] is rest =
        let line : front ≡ head_of event = is ∙ append-nil (head_of event) in
        first_by_none front (ap (λ (l : List ℕ). cut_at 10 l) line ∙ lacks) (subst (λ (l : List ℕ). length l ≤ 4096) (sym line) short)
    behind_line (byte ∷ after) is rest =
        let feed : byte ≡ 10 = cc in
        let body : event.body ≡ after ++ more ∷ left = cc in
        in_body (head_of event) after refl (is ∙ ap (λ (b : ℕ). head_of event ++ b ∷ after) feed)
        (omega (arith, ap length body, length-append after (more ∷ left)))

    by_split : Splits front (more ∷ left) (head_of event) (10 ∷ event.body) → first_of front ≡ Open
    by_split (within b line is rest) =
        first_by_none front (lacks_front 10 front (b ∷ line) (ap (λ (l : List ℕ). cut_at 10 l) (sym is) ∙ lacks))
        (omega (arith, ap length is, length-append front (b ∷ line), short))
    by_split (behind after is rest) = behind_line after is rest

pub hears_front : (event : Event) (front : List ℕ) (more : ℕ) (left : List ℕ) → CanBeHeard event
    → front ++ more ∷ left ≡ text_of event → (hearing_of front).events ≡ []
hears_front event front more left can same =
    ap (λ (h : Hearing). h.events)
    (hears_is front ∙ ap (λ (first : First). hears_by hearing_of front first) (first_front event front more left can same))
