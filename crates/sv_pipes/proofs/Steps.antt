-- What a byte makes of the talk that a place stands for.
use Rattle.std.proofs.Common.{◌≡◌, ◌<◌, ◌≤◌, ◌+◌, ◌-◌, ◌*◌, ◌==◌, ◌&&◌, ℕ, List, [], ◌∷◌, ◌++◌, length, take, drop, get_or, true, false, nat_lt, nat_le, refl, ap, sym, ◌∙◌, subst, inr, arith, append_assoc, append-nil, length-append, replicate}
use Rattle.std.proofs.lemmas.Bool.Decides.{nat_tests}
use Rattle.std.proofs.lemmas.List.{map-append, append_cancel_left, length-replicate}
use Rattle.std.specs.List.{list_all}
use Rattle.std.specs.Char.{is_ascii_digit}
use Rattle.sv_pipes.proofs.Digits.{number_more, all_more, digits_go_on, digits_stop, too_far}
use Rattle.sv_pipes.proofs.Fronts.{cond_by, eq_true, eq_false, lt_true, next_is, next_not, word_more, word_split, word_left, word_outside}
use Rattle.sv_pipes.proofs.Talks.{byte_goes_on, part_ends, byte_loses, stays_lost}
use Rattle.sv_pipes.specs.Talk.{Mark, said, IsBegun, IsOutside, IsLength, GoesOn, result_limit}
use Rattle.sv_base.specs.SizeText.{number_of}
use Rattle.sv_pipes.specs.Talk.Mark.{Byte, Sent}
use Rattle.sv_pipes.specs.Talk.Phrase.{Ready, Event, Result}
use Rattle.sv_pipes.specs.TalkPlaces.{Stands, Told, ready_line, result_word, is_next, state_of, goes, lost, step, steps, after_greeting, after_word, after_digit, after_length, after_body}
use Rattle.sv_pipes.specs.declared.talk.TalkProgress.{TalkProgress}
use Rattle.sv_pipes.specs.declared.talk.TalkProgress.TheVariants as place
use Rattle.sv_pipes.specs.declared.tokens.TalkState.TheVariants as state
use Rattle.sv_pipes.specs.declared.tokens.Token.{Token}
use Rattle.sv_pipes.specs.declared.tokens.Token.TheVariants as token

abbrev StandsTold : List Mark → List Token → Told → Type 0
StandsTold talk earlier told = Stands told.place told.held talk (earlier ++ told.tokens)

-- the line READY, byte by byte

greeting_begun : (count byte : ℕ) → count + 1 < 6 → get_or ready_line count 0 ≡ byte → IsBegun state.Acknowledged (take count ready_line ++ byte ∷ [])
greeting_begun count byte within same =
    inr (drop (count + 1) ready_line, word_left ready_line (count + 1) within, word_split ready_line count byte (omega arith) same)

greeting_outside : (count byte : ℕ) (rest : List ℕ) → rest ≡ take count ready_line → count < 6 → is_next ready_line count byte ≡ false
    → IsOutside state.Acknowledged rest byte
greeting_outside count byte rest is within not_next = λ more same.
    word_outside ready_line count byte more [] within (next_not ready_line count byte not_next within)
    (ap (λ front. front ++ byte ∷ more) (sym is) ∙ same)

greeting_steps : (count byte : ℕ) (held : List ℕ) (tokens earlier : List Token) (talk : List Mark) (rest : List ℕ)
    → GoesOn talk (earlier ++ tokens) state.Acknowledged rest → rest ≡ take count ready_line → count < 6 → held ≡ []
    → StandsTold (talk ++ Byte byte ∷ []) earlier (after_greeting count byte held tokens)
greeting_steps count byte held tokens earlier talk rest was is within empty =
    cond_by (StandsTold (talk ++ Byte byte ∷ []) earlier) (is_next ready_line count byte) _ (lost held tokens)
    (λ next. let same = next_is ready_line count byte next in
    let now : rest ++ byte ∷ [] ≡ take (count + 1) ready_line
    = ap (λ front. front ++ byte ∷ []) is ∙ sym (word_more ready_line count byte within same) in
    cond_by (StandsTold (talk ++ Byte byte ∷ []) earlier) (count == 5) (goes place.Idle held (tokens ++ token.Ready ∷ [])) (goes (place.Greeting (count + 1)) held tokens)
    (λ last. let five = eq_true count 5 last in
    let whole : take (count + 1) ready_line ≡ ready_line = ap (λ n. take (n + 1) ready_line) five in (
      [],
      part_ends talk earlier tokens state.Acknowledged state.Ready rest (Byte byte) Ready was tt
          (ap said (sym (now ∙ whole)) ∙ map-append Byte rest (byte ∷ [])),
      (refl, empty),
    ))
    (λ more. let few : count + 1 < 6 = grind (arith, nat_tests) in (
      rest ++ byte ∷ [],
      byte_goes_on talk (earlier ++ tokens) state.Acknowledged rest byte was
          (subst (λ (front : List ℕ). IsBegun state.Acknowledged (front ++ byte ∷ [])) (sym is) (greeting_begun count byte few same)),
      (now, few, empty),
    )))
    (λ other. byte_loses talk earlier tokens state.Acknowledged rest byte was (greeting_outside count byte rest is within other))

-- the word RESULT, byte by byte

no_length : IsLength (48 ∷ []) 0
no_length = record { decimal = refl; least = omega arith; most = omega arith; number_is = refl; limit = omega arith }

word_begun : (count byte : ℕ) → count < 7 → get_or result_word count 0 ≡ byte → IsBegun state.Busy (take count result_word ++ byte ∷ [])
word_begun count byte within same =
    inr (
      drop (count + 1) result_word ++ 48 ∷ 10 ∷ [],
      (λ none. absurd (omega (arith, ap length none, length-append (drop (count + 1) result_word) (48 ∷ 10 ∷ [])))),
      (
        48 ∷ [],
        [],
        no_length,
        sym (append_assoc (take count result_word ++ byte ∷ []) (drop (count + 1) result_word) (48 ∷ 10 ∷ []))
            ∙ ap (λ front. front ++ 48 ∷ 10 ∷ []) (word_split result_word count byte within same),
      ),
    )

word_outside' : (count byte : ℕ) (rest : List ℕ) → rest ≡ take count result_word → count < 7 → is_next result_word count byte ≡ false
    → IsOutside state.Busy rest byte
word_outside' count byte rest is within not_next = λ more said.
    word_outside result_word count byte more (said.0 ++ 10 ∷ said.1) within (next_not result_word count byte not_next within)
    (ap (λ front. front ++ byte ∷ more) (sym is) ∙ said.3)

word_steps : (count byte : ℕ) (held : List ℕ) (tokens earlier : List Token) (talk : List Mark) (rest : List ℕ)
    → GoesOn talk (earlier ++ tokens) state.Busy rest → rest ≡ take count result_word → count < 7 → held ≡ []
    → StandsTold (talk ++ Byte byte ∷ []) earlier (after_word count byte held tokens)
word_steps count byte held tokens earlier talk rest was is within empty =
    cond_by (StandsTold (talk ++ Byte byte ∷ []) earlier) (is_next result_word count byte) _ (lost held tokens)
    (λ next. let same = next_is result_word count byte next in
    let now : rest ++ byte ∷ [] ≡ take (count + 1) result_word
    = ap (λ front. front ++ byte ∷ []) is ∙ sym (word_more result_word count byte within same) in
    let goes_on : GoesOn (talk ++ Byte byte ∷ []) (earlier ++ tokens) state.Busy (rest ++ byte ∷ [])
    = byte_goes_on talk (earlier ++ tokens) state.Busy rest byte was
    (subst (λ (front : List ℕ). IsBegun state.Busy (front ++ byte ∷ [])) (sym is) (word_begun count byte within same)) in
    cond_by (StandsTold (talk ++ Byte byte ∷ []) earlier) (count == 6) (goes (place.Length 0 0) held tokens) (goes (place.Word (count + 1)) held tokens)
    (λ last. let six = eq_true count 6 last in
    let whole : take (count + 1) result_word ≡ result_word = ap (λ n. take (n + 1) result_word) six in
    (rest ++ byte ∷ [], goes_on, ([], now ∙ whole, refl, refl, refl, omega arith, omega arith, empty)))
    (λ more. let few : count + 1 < 7 = grind (arith, nat_tests) in
    (rest ++ byte ∷ [], goes_on, (now, few, empty))))
    (λ other. byte_loses talk earlier tokens state.Busy rest byte was (word_outside' count byte rest is within other))

-- the length of a result

digits_begun : (digits : List ℕ) (number : ℕ) → IsLength digits number → IsBegun state.Busy (result_word ++ digits)
digits_begun digits number is =
    inr (
      10 ∷ replicate number 0,
      (λ none. cc),
      (digits, replicate number 0, subst (λ (n : ℕ). IsLength digits n) (sym (length-replicate number 0)) is, refl),
    )

digit_outside : (digits rest : List ℕ) (count byte : ℕ) → rest ≡ result_word ++ digits → list_all is_ascii_digit digits ≡ true
    → length digits ≡ count → is_ascii_digit byte ≡ true
    → (nat_lt count 7 && nat_le (10 * number_of 0 digits + (byte - 48)) result_limit) ≡ false → IsOutside state.Busy rest byte
digit_outside digits rest count byte is all size digit over = λ more said.
    let same : (digits ++ byte ∷ []) ++ more ≡ said.0 ++ 10 ∷ said.1
    = append_assoc digits (byte ∷ []) more
    ∙ append_cancel_left result_word (digits ++ byte ∷ more) (said.0 ++ 10 ∷ said.1) (ap (λ front. front ++ byte ∷ more) (sym is) ∙ said.3) in
    let on = digits_go_on (digits ++ byte ∷ []) said.0 more said.1 (all_more digits byte all digit) same in
    let far = too_far (digits ++ byte ∷ []) said.0 on.0 (length said.1) said.2 on.1 in
    let few : count + 1 ≤ 7 = omega (arith, far.0, size, length-append digits (byte ∷ [])) in
    let small : 10 * number_of 0 digits + (byte - 48) ≤ 1048576 = omega (arith, far.1, number_more digits 0 byte) in
    grind (arith, nat_tests)

stop_outside : (digits rest : List ℕ) (byte : ℕ) → rest ≡ result_word ++ digits → list_all is_ascii_digit digits ≡ true
    → is_ascii_digit byte ≡ false → (byte ≡ 10 → 1 ≤ length digits → ⊥) → IsOutside state.Busy rest byte
stop_outside digits rest byte is all not_digit no_end = λ more said.
    let same : digits ++ byte ∷ more ≡ said.0 ++ 10 ∷ said.1
    = append_cancel_left result_word (digits ++ byte ∷ more) (said.0 ++ 10 ∷ said.1) (ap (λ front. front ++ byte ∷ more) (sym is) ∙ said.3) in
    let stop = digits_stop digits said.0 more said.1 byte all said.2.decimal not_digit same in
    no_end stop.1 (omega (arith, said.2.least, ap length stop.0))

digit_steps : (count number byte : ℕ) (held : List ℕ) (tokens earlier : List Token) (talk : List Mark) (rest digits : List ℕ)
    → GoesOn talk (earlier ++ tokens) state.Busy rest → rest ≡ result_word ++ digits → list_all is_ascii_digit digits ≡ true
    → length digits ≡ count → number_of 0 digits ≡ number → held ≡ [] → is_ascii_digit byte ≡ true
    → StandsTold (talk ++ Byte byte ∷ []) earlier (after_digit count (10 * number + (byte - 48)) held tokens)
digit_steps count number byte held tokens earlier talk rest digits was is all size value empty digit =
    cond_by (StandsTold (talk ++ Byte byte ∷ []) earlier) (nat_lt count 7 && nat_le (10 * number + (byte - 48)) result_limit)
    (goes (place.Length (count + 1) (10 * number + (byte - 48))) held tokens) (lost held tokens)
    (λ within. let few : count + 1 ≤ 7 = grind (arith, nat_tests) in
    let small : 10 * number + (byte - 48) ≤ 1048576 = grind (arith, nat_tests) in
    let longer : length (digits ++ byte ∷ []) ≡ count + 1 = omega (arith, size, length-append digits (byte ∷ [])) in
    let valued : number_of 0 (digits ++ byte ∷ []) ≡ 10 * number + (byte - 48)
    = number_more digits 0 byte ∙ ap (λ n. 10 * n + (byte - 48)) value in
    let is_length : IsLength (digits ++ byte ∷ []) (10 * number + (byte - 48)) = record {
      decimal = all_more digits byte all digit;
      least = omega (arith, longer);
      most = omega (arith, longer, few);
      number_is = valued;
      limit = small;
    } in
    let now : rest ++ byte ∷ [] ≡ result_word ++ (digits ++ byte ∷ []) = ap (λ front. front ++ byte ∷ []) is in (
      rest ++ byte ∷ [],
      byte_goes_on talk (earlier ++ tokens) state.Busy rest byte was
          (subst (λ (bytes : List ℕ). IsBegun state.Busy bytes) (sym now) (digits_begun (digits ++ byte ∷ []) (10 * number + (byte - 48)) is_length)),
      (digits ++ byte ∷ [], now, all_more digits byte all digit, longer, valued, few, small, empty),
    ))
    (λ over. byte_loses talk earlier tokens state.Busy rest byte was
    (digit_outside digits rest count byte is all size digit
    (ap (λ n. nat_lt count 7 && nat_le (10 * n + (byte - 48)) result_limit) value ∙ over)))

-- the bytes of a result

body_begun : (digits held : List ℕ) (number : ℕ) → IsLength digits number → length held < number
    → IsBegun state.Busy (result_word ++ digits ++ 10 ∷ held)
body_begun digits held number is within =
    let fill : List ℕ = replicate (number - length held) 0 in
    let size : length fill ≡ number - length held = length-replicate (number - length held) 0 in
    let whole : number ≡ length (held ++ fill) = omega (arith, size, length-append held fill) in
    inr (
      fill,
      (λ none. absurd (omega (arith, size, ap length none))),
      (
        digits,
        held ++ fill,
        subst (λ (n : ℕ). IsLength digits n) whole is,
        append_assoc (result_word ++ digits) (10 ∷ held) fill,
      ),
    )

length_steps : (count number byte : ℕ) (held : List ℕ) (tokens earlier : List Token) (talk : List Mark) (rest digits : List ℕ)
    → GoesOn talk (earlier ++ tokens) state.Busy rest → rest ≡ result_word ++ digits → list_all is_ascii_digit digits ≡ true
    → length digits ≡ count → number_of 0 digits ≡ number → count ≤ 7 → number ≤ result_limit → held ≡ []
    → is_ascii_digit byte ≡ false → byte ≡ 10
    → StandsTold (talk ++ Byte byte ∷ []) earlier (after_length count number held tokens)
length_steps count number byte held tokens earlier talk rest digits was is all size value few small empty not_digit feed =
    cond_by (StandsTold (talk ++ Byte byte ∷ []) earlier) (nat_lt 0 count) _ (lost held tokens)
    (λ some. let least : 0 < count = lt_true 0 count some in
    let is_length : IsLength digits number = record {
      decimal = all;
      least = omega (arith, size);
      most = omega (arith, size);
      number_is = value;
      limit = small;
    } in
    let now : rest ++ byte ∷ [] ≡ result_word ++ digits ++ 10 ∷ [] = ap (λ front. front ++ byte ∷ []) is ∙ ap (λ b. result_word ++ digits ++ b ∷ []) feed in
    cond_by (StandsTold (talk ++ Byte byte ∷ []) earlier) (number == 0)
    (goes (place.Greeting 0) held (tokens ++ token.Result [] ∷ [])) (goes (place.Body count number) held tokens)
    (λ none. let zero_is = eq_true number 0 none in (
      [],
      part_ends talk earlier tokens state.Busy state.Acknowledged rest (Byte byte) (Result digits []) was
          (subst (λ (n : ℕ). IsLength digits n) zero_is is_length)
          (ap said (sym now) ∙ map-append Byte rest (byte ∷ [])),
      (refl, omega arith, empty),
    ))
    (λ more. let above : 0 < number = grind (arith, nat_tests) in
    let inside : length held < number = omega (arith, ap length empty) in
    let kept : rest ++ byte ∷ [] ≡ result_word ++ digits ++ 10 ∷ held = now ∙ ap (λ body. result_word ++ digits ++ 10 ∷ body) (sym empty) in (
      rest ++ byte ∷ [],
      byte_goes_on talk (earlier ++ tokens) state.Busy rest byte was
          (subst (λ (bytes : List ℕ). IsBegun state.Busy bytes) (sym kept) (body_begun digits held number is_length inside)),
      (digits, kept, is_length, inside, size),
    )))
    (λ none. byte_loses talk earlier tokens state.Busy rest byte was
    (stop_outside digits rest byte is all not_digit (λ _ least. grind (arith, nat_tests))))

body_steps : (count number byte : ℕ) (held : List ℕ) (tokens earlier : List Token) (talk : List Mark) (rest digits : List ℕ)
    → GoesOn talk (earlier ++ tokens) state.Busy rest → rest ≡ result_word ++ digits ++ 10 ∷ held → IsLength digits number
    → length held < number → length digits ≡ count
    → StandsTold (talk ++ Byte byte ∷ []) earlier (after_body count number (held ++ byte ∷ []) tokens)
body_steps count number byte held tokens earlier talk rest digits was is is_length within digit_count =
    let now : rest ++ byte ∷ [] ≡ result_word ++ digits ++ 10 ∷ (held ++ byte ∷ [])
    = ap (λ front. front ++ byte ∷ []) is ∙ append_assoc (result_word ++ digits) (10 ∷ held) (byte ∷ []) in
    let longer : length (held ++ byte ∷ []) ≡ length held + 1 = length-append held (byte ∷ []) in
    cond_by (StandsTold (talk ++ Byte byte ∷ []) earlier) (nat_lt (length (held ++ byte ∷ [])) number)
    (goes (place.Body count number) (held ++ byte ∷ []) tokens) (goes (place.Greeting 0) [] (tokens ++ token.Result (held ++ byte ∷ []) ∷ []))
    (λ more. let inside : length (held ++ byte ∷ []) < number = lt_true (length (held ++ byte ∷ [])) number more in (
      rest ++ byte ∷ [],
      byte_goes_on talk (earlier ++ tokens) state.Busy rest byte was
          (subst (λ (bytes : List ℕ). IsBegun state.Busy bytes) (sym now) (body_begun digits (held ++ byte ∷ []) number is_length inside)),
      (digits, now, is_length, inside, digit_count),
    ))
    (λ last. let full : number ≡ length (held ++ byte ∷ []) = grind (arith, nat_tests) in (
      [],
      part_ends talk earlier tokens state.Busy state.Acknowledged rest (Byte byte) (Result digits (held ++ byte ∷ [])) was
          (subst (λ (n : ℕ). IsLength digits n) full is_length)
          (ap said (sym now) ∙ map-append Byte rest (byte ∷ [])),
      (refl, omega arith, refl),
    ))

pub step_stands : (at : TalkProgress) (byte : ℕ) (held : List ℕ) (tokens earlier : List Token) (talk : List Mark)
    → Stands at held talk (earlier ++ tokens) → StandsTold (talk ++ Byte byte ∷ []) earlier (step at byte held tokens)
step_stands (place.Greeting count) byte held tokens earlier talk stands =
    greeting_steps count byte held tokens earlier talk stands.0 stands.1 stands.2.0 stands.2.1 stands.2.2
step_stands place.Idle byte held tokens earlier talk stands =
    byte_loses talk earlier tokens state.Ready stands.0 byte stands.1 (λ more said. said)
step_stands (place.Word count) byte held tokens earlier talk stands =
    word_steps count byte held tokens earlier talk stands.0 stands.1 stands.2.0 stands.2.1 stands.2.2
step_stands (place.Length count number) byte held tokens earlier talk stands =
    let kept = stands.2 in
    cond_by (StandsTold (talk ++ Byte byte ∷ []) earlier) (is_ascii_digit byte) _ _
    (λ digit. digit_steps count number byte held tokens earlier talk stands.0 kept.0 stands.1 kept.1 kept.2 kept.3 kept.4 kept.7 digit)
    (λ not_digit. cond_by (StandsTold (talk ++ Byte byte ∷ []) earlier) (byte == 10) (after_length count number held tokens) (lost held tokens)
    (λ feed. length_steps count number byte held tokens earlier talk stands.0 kept.0 stands.1 kept.1 kept.2 kept.3 kept.4 kept.5 kept.6 kept.7
    not_digit (eq_true byte 10 feed))
    (λ other. byte_loses talk earlier tokens state.Busy stands.0 byte stands.1
    (stop_outside kept.0 stands.0 byte kept.1 kept.2 not_digit (λ feed _. eq_false byte 10 other feed))))
step_stands (place.Body count number) byte held tokens earlier talk stands =
    body_steps count number byte held tokens earlier talk stands.0 stands.2.0 stands.1 stands.2.1 stands.2.2 stands.2.3 stands.2.4
step_stands place.Lost byte held tokens earlier talk stands = stays_lost talk (earlier ++ tokens) (Byte byte) stands
step_stands place.Broken byte held tokens earlier talk stands = absurd stands.2

pub steps_stand : (bytes : List ℕ) (told : Told) (earlier : List Token) (talk : List Mark)
    → Stands told.place told.held talk (earlier ++ told.tokens) → StandsTold (talk ++ said bytes) earlier (steps told bytes)
steps_stand [] told earlier talk stands = subst (λ (all : List Mark). StandsTold all earlier told) (sym (append-nil talk)) stands
steps_stand (byte ∷ bytes) told earlier talk stands =
    let here = step_stands told.place byte told.held told.tokens earlier talk stands in
    subst (λ (all : List Mark). StandsTold all earlier (steps (step told.place byte told.held told.tokens) bytes))
    (append_assoc talk (Byte byte ∷ []) (said bytes))
    (steps_stand bytes (step told.place byte told.held told.tokens) earlier (talk ++ Byte byte ∷ []) here)

pub sent_stands : (at : TalkProgress) (held : List ℕ) (talk : List Mark) (tokens : List Token) → state_of at ≡ state.Ready
    → Stands at held talk tokens → Stands (place.Word 0) held (talk ++ Sent ∷ []) tokens
sent_stands (place.Greeting count) held talk tokens is stands = absurd (cc)
sent_stands place.Idle held talk tokens is stands =
    let plain : tokens ++ [] ≡ tokens = append-nil tokens in
    let was : GoesOn talk (tokens ++ []) state.Ready stands.0 = subst (λ (all : List Token). GoesOn talk all state.Ready stands.0) (sym plain) stands.1 in
    let now = part_ends talk tokens [] state.Ready state.Busy stands.0 Sent Event was tt (ap (λ rest. said rest ++ Sent ∷ []) (sym stands.2.0)) in
    ([], subst (λ (all : List Token). GoesOn (talk ++ Sent ∷ []) all state.Busy []) plain now, (refl, omega arith, stands.2.1))
sent_stands (place.Word count) held talk tokens is stands = absurd (cc)
sent_stands (place.Length count number) held talk tokens is stands = absurd (cc)
sent_stands (place.Body count number) held talk tokens is stands = absurd (cc)
sent_stands place.Lost held talk tokens is stands = absurd (cc)
sent_stands place.Broken held talk tokens is stands = absurd (cc)
