-- Laws of what is printed of a log.
use Rattle.std.proofs.Common.{◌≡◌, ◌≤◌, ◌<◌, ◌+◌, ◌-◌, ◌++◌, ◌∷◌, ◌∙◌, ℕ, suc, pos, List, [], Bool, true, false, Option, None, Some, Ok, Err, ap, arith, drop, if◌then◌else◌, length, length-append, length-drop, length-take, max, min, nat_lt, refl, sym, subst, take, take-append-drop}
use Rattle.std.proofs.lemmas.Bool.Decides.{nat_tests}
use Rattle.std.proofs.lemmas.List.{drop-drop, take_all}
use Rattle.std.specs.List.{flat_map}
use Rattle.sv_base.specs.declared.state.Stream.{Stream}
use Rattle.sv_commands.specs.declared.status.Status.TheVariants.{Done}
use Rattle.sv_ctl.proofs.TalkLemmas.Doings.{having_more}
use Rattle.sv_ctl.specs.Talk.Answers.{Answer}
use Rattle.sv_ctl.specs.Talk.Conversation.{Talk, goes_on, having}
use Rattle.sv_ctl.specs.declared.talk.course.Course.TheVariants.{On}
use Rattle.sv_ctl.specs.declared.talk.told.Told.{Told}
use Rattle.sv_follow.specs.Follower.{after, first, length_of, most_bytes, next_after, offset_of, shown_by}
use Rattle.sv_follow.specs.Following.{follow_said, polls_said}
use Rattle.sv_follow.specs.Polls.{after_answer, after_tail, poll_told, tail_told}
use Rattle.sv_follow.specs.Printed.{printed}
use Rattle.sv_follow.specs.Replies.{AreTold, Begins, followed, part_of, shown_of, tail_at, tail_for, tail_in}
use Rattle.sv_follow.specs.Seen.{Sight, last, seen, seen_first, seen_from, seen_later, seen_to}
use Rattle.sv_follow.specs.Tails.{sent, tail_call}
use Rattle.sv_follow.specs.Whole.{Appended, IsWhole, begun_with}
use Rattle.sv_follow.specs.declared.follower.Follower.{Follower}
use Rattle.sv_follow.specs.declared.follower.NextPoll.{NextPoll}
use Rattle.sv_follow.specs.declared.follower.NextPoll.TheVariants.{First, From, Anew}
use Rattle.sv_follow.specs.declared.follower.Shown.{Shown}
use Rattle.sv_follow.specs.declared.tails.Tail.{Tail}
use Rattle.sv_logs.specs.Spans.{last_of, tail_part}
use Rattle.sv_xmlcall.specs.Characters.{log_text}
use Rattle.sv_xmlcall.specs.declared.call.Answered.TheVariants as answered

below : (a b : ℕ) → nat_lt a b ≡ true → a < b
below a b is = grind (arith, nat_tests)

not_below : (a b : ℕ) → nat_lt a b ≡ false → b ≤ a
not_below a b is = grind (arith, nat_tests)

-- ---- no byte is missing but those that are told

-- where the log was rotated
abbrev nothing : Sight
nothing = record { bytes = []; lost = 0; rotated = true }

-- where it wasn't
abbrev appended_sight : ℕ → List ℕ → Sight
appended_sight offset bytes = record {
  bytes = last most_bytes (drop offset bytes);
  lost = length bytes - offset - most_bytes;
  rotated = false;
}

drop_front : (before appended : List ℕ) → drop (length before) (before ++ appended) ≡ appended
drop_front [] appended = refl
drop_front (byte ∷ before) appended = drop_front before appended

-- the bytes before the last ones are as many as are told
missing_told : (before appended : List ℕ)
    → length (take (length appended - most_bytes) appended) ≡ length (before ++ appended) - length before - most_bytes
missing_told before appended =
    omega (arith, length-take (length appended - most_bytes) appended, length-append before appended)

appended_seen : (before appended : List ℕ) → Appended appended (appended_sight (length before) (before ++ appended))
appended_seen before appended = record {
  missing = take (length appended - most_bytes) appended;
  parts = sym (take-append-drop (length appended - most_bytes) appended)
      ∙ ap (λ (l : List ℕ). take (length appended - most_bytes) appended ++ last most_bytes l) (sym (drop_front before appended));
  lost = missing_told before appended;
}

seen_by : (rotated : Bool) (before appended : List ℕ)
    → nat_lt (length (before ++ appended)) (length before) ≡ rotated
    → Appended appended (if rotated then nothing else appended_sight (length before) (before ++ appended))
seen_by true before appended is =
    absurd (omega (arith, below (length (before ++ appended)) (length before) is, length-append before appended))
seen_by false before appended is = appended_seen before appended

appended_seen_from : (before appended : List ℕ)
    → Appended appended (seen_from (length before) (before ++ appended))
appended_seen_from before appended =
    seen_by (nat_lt (length (before ++ appended)) (length before)) before appended refl

one_whole : (before bytes appended : List ℕ) → bytes ≡ before ++ appended → Appended appended (seen_from (length before) bytes)
one_whole before bytes appended is =
    subst (λ (b : List ℕ). Appended appended (seen_from (length before) b)) (sym is) (appended_seen_from before appended)

-- the next poll begins where the bytes end with which the log is to begin
next_begins : (rotated : Bool) (offset : ℕ) (bytes : List ℕ)
    → length (begun_with (if rotated then nothing else appended_sight offset bytes) bytes)
    ≡ seen_to (if rotated then nothing else appended_sight offset bytes) bytes
next_begins true offset bytes = refl
next_begins false offset bytes = refl

polls_whole : (polls : List (List ℕ)) (before : List ℕ) → IsWhole before polls (seen_later (length before) polls)
polls_whole [] before = tt
polls_whole (bytes ∷ polls) before = (
  one_whole before bytes,
  subst (λ (n : ℕ). IsWhole (begun_with (seen_from (length before) bytes) bytes) polls (seen_later n polls))
      (next_begins (nat_lt (length bytes) (length before)) (length before) bytes)
      (polls_whole polls (begun_with (seen_from (length before) bytes) bytes)),
)

pub nothing_else_is_missing : (before : List ℕ) (polls : List (List ℕ))
    → IsWhole before polls (seen_later (length before) polls)
nothing_else_is_missing before polls = polls_whole polls before

-- ---- the part of a log that a tail method answers

-- the bytes from a start to the end, cut from those behind an offset
end_is : (start count offset more : ℕ) (bytes : List ℕ) → length bytes ≤ start + count → start ≡ offset + more
    → take count (drop start bytes) ≡ drop more (drop offset bytes)
end_is start count offset more bytes enough is =
    take_all count (drop start bytes) (omega (arith, length-drop start bytes, enough))
    ∙ ap (λ (n : ℕ). drop n bytes) is
    ∙ sym (drop-drop more offset bytes)

part_missed : (offset count : ℕ) (bytes : List ℕ) → count ≤ 1048576 → offset + count < length bytes
    → part_of (last_of (length bytes - count) (length bytes)) bytes ≡ last count (drop offset bytes)
part_missed offset count bytes small missed =
    end_is (max (length bytes - count) (length bytes - 1048576)) (min (length bytes - (length bytes - count)) 1048576) offset
    (length (drop offset bytes) - count) bytes (omega (arith, small, missed))
    (omega (arith, small, missed, length-drop offset bytes))

part_kept : (offset count : ℕ) (bytes : List ℕ) → count ≤ 1048576 → offset ≤ length bytes → length bytes ≤ offset + count
    → part_of (last_of (min offset (length bytes)) (length bytes)) bytes ≡ last count (drop offset bytes)
part_kept offset count bytes small within kept =
    end_is (max (min offset (length bytes)) (length bytes - 1048576)) (min (length bytes - min offset (length bytes)) 1048576)
    offset (length (drop offset bytes) - count) bytes (omega (arith, small, within, kept))
    (omega (arith, small, within, kept, length-drop offset bytes))

part_by : (missed : Bool) (offset count : ℕ) (bytes : List ℕ) → nat_lt (offset + count) (length bytes) ≡ missed
    → count ≤ 1048576 → offset ≤ length bytes
    → part_of (if missed then last_of (length bytes - count) (length bytes)
    else last_of (min offset (length bytes)) (length bytes)) bytes ≡ last count (drop offset bytes)
part_by true offset count bytes is small within =
    part_missed offset count bytes small (below (offset + count) (length bytes) is)
part_by false offset count bytes is small within =
    part_kept offset count bytes small within (not_below (offset + count) (length bytes) is)

tail_is_last : (offset count : ℕ) (bytes : List ℕ) → count ≤ 1048576 → offset ≤ length bytes
    → part_of (tail_part (length bytes) (pos offset) (pos count)) bytes ≡ last count (drop offset bytes)
tail_is_last offset count bytes small within =
    part_by (nat_lt (offset + count) (length bytes)) offset count bytes refl small within

-- the bytes that are lost are told where some are
lost_by : (missed : Bool) (offset size : ℕ) → nat_lt (offset + most_bytes) size ≡ missed
    → (if missed then size - offset - most_bytes else 0) ≡ size - offset - most_bytes
lost_by true offset size is = refl
lost_by false offset size is = omega (arith, not_below (offset + most_bytes) size is)

lost_anew : (missed : Bool) (size : ℕ) → nat_lt (0 + most_bytes) size ≡ missed
    → (if missed then size - most_bytes else 0) ≡ size - 0 - most_bytes
lost_anew true size is = omega arith
lost_anew false size is = omega (arith, not_below (0 + most_bytes) size is)

-- ---- what a poll shows

-- a reader whose next poll is this one
abbrev reader : NextPoll → Follower
reader next = record { next = next }

-- what is seen at it
abbrev sight_at : NextPoll → List ℕ → Sight
sight_at First bytes = seen_first bytes
sight_at (From offset) bytes = seen_from offset bytes
sight_at Anew bytes = seen_from 0 bytes

-- and from it on
abbrev sights_from : NextPoll → List (List ℕ) → List Sight
sights_from First files = seen files
sights_from (From offset) files = seen_later offset files
sights_from Anew files = seen_later 0 files

abbrev rotation : Shown
rotation = record { text = []; lost = 0; rotated = true }

abbrev unrotated : List ℕ → ℕ → Shown
unrotated text lost = record { text = text; lost = lost; rotated = false }

-- what is answered from an offset on
abbrev answered_text : ℕ → ℕ → List ℕ → List ℕ
answered_text offset count bytes = log_text (part_of (tail_part (length bytes) (pos offset) (pos count)) bytes)

first_by : (rotated : Bool) (bytes : List ℕ) → nat_lt (length bytes) 0 ≡ rotated
    → (if rotated then rotation else unrotated (answered_text 0 1600 bytes) 0) ≡ shown_of (seen_first bytes)
first_by true bytes is = absurd (omega (arith, below (length bytes) 0 is))
first_by false bytes is = ap (λ (l : List ℕ). unrotated (log_text l) 0) (tail_is_last 0 1600 bytes (omega arith) (omega arith))

-- a later poll shows what was appended
appended_shows : (offset lost : ℕ) (bytes : List ℕ) → offset ≤ length bytes → lost ≡ length bytes - offset - most_bytes
    → unrotated (answered_text offset most_bytes bytes) lost ≡ shown_of (appended_sight offset bytes)
appended_shows offset lost bytes within is =
    ap (λ (l : List ℕ). unrotated (log_text l) lost)
    (tail_is_last offset most_bytes bytes (let small : 65536 ≤ 1048576 = omega arith in small) within)
    ∙ ap (λ (n : ℕ). unrotated (log_text (last most_bytes (drop offset bytes))) n) is

from_by : (rotated : Bool) (offset lost : ℕ) (bytes : List ℕ) → nat_lt (length bytes) offset ≡ rotated
    → lost ≡ length bytes - offset - most_bytes
    → (if rotated then rotation else unrotated (answered_text offset most_bytes bytes) lost)
    ≡ shown_of (if rotated then nothing else appended_sight offset bytes)
from_by true offset lost bytes is same = refl
from_by false offset lost bytes is same = appended_shows offset lost bytes (not_below (length bytes) offset is) same

-- what a poll shows is what is seen at it
shows_sight : (next : NextPoll) (bytes : List ℕ)
    → shown_by next (tail_at (offset_of next) (length_of next) bytes).text (length bytes)
    (tail_at (offset_of next) (length_of next) bytes).overflow
    ≡ shown_of (sight_at next bytes)
shows_sight First bytes = first_by (nat_lt (length bytes) 0) bytes refl
shows_sight (From offset) bytes =
    from_by (nat_lt (length bytes) offset) offset
    (if nat_lt (offset + most_bytes) (length bytes) then length bytes - offset - most_bytes else 0) bytes refl
    (lost_by (nat_lt (offset + most_bytes) (length bytes)) offset (length bytes) refl)
shows_sight Anew bytes =
    from_by (nat_lt (length bytes) 0) 0
    (if nat_lt (0 + most_bytes) (length bytes) then length bytes - most_bytes else 0) bytes refl
    (lost_anew (nat_lt (0 + most_bytes) (length bytes)) (length bytes) refl)

-- ---- what an answer says

sent_is : (number : ℕ) → number ≤ 9223372036854775807 → min number 9223372036854775807 ≡ number
sent_is number small = omega (arith, small)

small_length : (next : NextPoll) → length_of next ≤ 9223372036854775807
small_length First = let small : 1600 ≤ 9223372036854775807 = omega arith in small
small_length (From offset) = let small : 65536 ≤ 9223372036854775807 = omega arith in small
small_length Anew = let small : 65536 ≤ 9223372036854775807 = omega arith in small

asked_tail : (next : NextPoll) (bytes : List ℕ) → offset_of next ≤ 9223372036854775807
    → tail_for (reader next) bytes ≡ tail_at (offset_of next) (length_of next) bytes
asked_tail next bytes small =
    ap (λ (n : ℕ). tail_at n (sent (length_of next)) bytes) (sent_is (offset_of next) small)
    ∙ ap (λ (n : ℕ). tail_at (offset_of next) n bytes) (sent_is (length_of next) (small_length next))

answer_told : (url name : List ℕ) (follower : Follower) (answer : Answer) (tail : Tail) → tail_in answer ≡ Some tail
    → poll_told url name follower answer ≡ tail_told follower (Some tail)
answer_told url name follower (Ok (answered.Value value)) tail is = ap (λ (t : Option Tail). tail_told follower t) is
answer_told url name follower (Ok (answered.Fault number content)) tail is =
    absurd (let never : None ≡ Some tail = is in cc)
answer_told url name follower (Err fault) tail is = absurd (let never : None ≡ Some tail = is in cc)

answer_after : (follower : Follower) (answer : Answer) (tail : Tail) → tail_in answer ≡ Some tail
    → after_answer follower answer ≡ after follower tail.size
answer_after follower (Ok (answered.Value value)) tail is = ap (λ (t : Option Tail). after_tail follower t) is
answer_after follower (Ok (answered.Fault number content)) tail is =
    absurd (let never : None ≡ Some tail = is in cc)
answer_after follower (Err fault) tail is = absurd (let never : None ≡ Some tail = is in cc)

-- this text is said, and it goes on
abbrev saying : List ℕ → Told
saying text = record { text = text; course = On Done }

poll_says : (url name : List ℕ) (next : NextPoll) (bytes : List ℕ) (answer : Answer)
    → offset_of next ≤ 9223372036854775807 → tail_in answer ≡ Some (tail_for (reader next) bytes)
    → poll_told url name (reader next) answer ≡ saying (printed (shown_of (sight_at next bytes)))
poll_says url name next bytes answer small is =
    answer_told url name (reader next) answer (tail_for (reader next) bytes) is
    ∙ ap (λ (t : Tail). tail_told (reader next) (Some t)) (asked_tail next bytes small)
    ∙ ap (λ (s : Shown). saying (printed s)) (shows_sight next bytes)

-- ---- many polls

next_by : (rotated : Bool) (size : ℕ) → size ≤ 9223372036854775807
    → offset_of (if rotated then Anew else From size) ≤ 9223372036854775807
next_by true size small = let none : 0 ≤ 9223372036854775807 = omega arith in none
next_by false size small = small

no_sights : (next : NextPoll) → sights_from next [] ≡ []
no_sights First = refl
no_sights (From offset) = refl
no_sights Anew = refl

first_sights : (rotated : Bool) (bytes : List ℕ) (files : List (List ℕ)) → nat_lt (length bytes) 0 ≡ rotated
    → seen_later (length bytes) files ≡ sights_from (if rotated then Anew else From (length bytes)) files
first_sights true bytes files is = absurd (omega (arith, below (length bytes) 0 is))
first_sights false bytes files is = refl

later_sights : (rotated : Bool) (offset : ℕ) (bytes : List ℕ) (files : List (List ℕ))
    → seen_later (seen_to (if rotated then nothing else appended_sight offset bytes) bytes) files
    ≡ sights_from (if rotated then Anew else From (length bytes)) files
later_sights true offset bytes files = refl
later_sights false offset bytes files = refl

sights_go_on : (next : NextPoll) (bytes : List ℕ) (files : List (List ℕ))
    → sights_from next (bytes ∷ files) ≡ sight_at next bytes ∷ sights_from (next_after next (length bytes)) files
sights_go_on First bytes files =
    ap (λ (l : List Sight). seen_first bytes ∷ l) (first_sights (nat_lt (length bytes) 0) bytes files refl)
sights_go_on (From offset) bytes files =
    ap (λ (l : List Sight). seen_from offset bytes ∷ l) (later_sights (nat_lt (length bytes) offset) offset bytes files)
sights_go_on Anew bytes files =
    ap (λ (l : List Sight). seen_from 0 bytes ∷ l) (later_sights (nat_lt (length bytes) 0) 0 bytes files)

abbrev printed_all : List Sight → List ℕ
printed_all sights = flat_map (λ (s : Sight). printed (shown_of s)) sights

nothing_begins : (talk : Talk) → Begins talk [] []
nothing_begins talk = record { calls = []; left = talk; same = λ more. refl }

-- a poll, and then others
one_begins : (url name : List ℕ) (channel : Stream) (left : ℕ) (follower later : Follower) (answer : Answer)
    (answers : List Answer) (text rest : List ℕ) → poll_told url name follower answer ≡ saying text
    → after_answer follower answer ≡ later → Begins (polls_said url name channel left later) answers rest
    → Begins (polls_said url name channel (suc left) follower) (answer ∷ answers) (text ++ rest)
one_begins url name channel left follower later answer answers text rest told goes begins = record {
  calls = tail_call name channel follower ∷ begins.calls;
  left = begins.left;
  same = λ more. ap (λ (t : Told). having (tail_call name channel follower ∷ []) t.text
      (goes_on t.course (λ _. polls_said url name channel left (after_answer follower answer)) (answers ++ more))) told
      ∙ ap (λ (f : Follower). having (tail_call name channel follower ∷ []) text
      (polls_said url name channel left f (answers ++ more))) goes
      ∙ ap (having (tail_call name channel follower ∷ []) text) (begins.same more)
      ∙ having_more (tail_call name channel follower ∷ []) begins.calls text rest (begins.left more);
}

-- a poll whose answer tells a log of these bytes, and then others
told_begins : (url name : List ℕ) (channel : Stream) (left : ℕ) (next : NextPoll) (bytes : List ℕ) (answer : Answer)
    (answers : List Answer) (rest : List Sight) → offset_of next ≤ 9223372036854775807
    → tail_in answer ≡ Some (tail_for (reader next) bytes)
    → Begins (polls_said url name channel left (reader (next_after next (length bytes)))) answers (printed_all rest)
    → Begins (polls_said url name channel (suc left) (reader next)) (answer ∷ answers) (printed_all (sight_at next bytes ∷ rest))
told_begins url name channel left next bytes answer answers rest small is begins =
    one_begins url name channel left (reader next) (reader (next_after next (length bytes))) answer answers
    (printed (shown_of (sight_at next bytes))) (printed_all rest) (poll_says url name next bytes answer small is)
    (answer_after (reader next) answer (tail_for (reader next) bytes) is) begins

polls_begin : (url name : List ℕ) (channel : Stream) (further : ℕ) (files : List (List ℕ)) (next : NextPoll)
    (answers : List Answer) → offset_of next ≤ 9223372036854775807 → AreTold (reader next) files answers
    → Begins (polls_said url name channel (length files + further) (reader next)) answers
    (printed_all (sights_from next files))
polls_begin url name channel further [] next [] small told =
    subst (λ (l : List Sight). Begins (polls_said url name channel (0 + further) (reader next)) [] (printed_all l))
    (sym (no_sights next)) (nothing_begins (polls_said url name channel (0 + further) (reader next)))
polls_begin url name channel further [] next (answer ∷ answers) small told = absurd told
polls_begin url name channel further (bytes ∷ files) next [] small told = absurd told
polls_begin url name channel further (bytes ∷ files) next (answer ∷ answers) small told =
    let counted : suc (length files + further) ≡ suc (length files) + further = omega arith in
    subst (λ (n : ℕ). Begins (polls_said url name channel n (reader next)) (answer ∷ answers)
    (printed_all (sights_from next (bytes ∷ files)))) counted
    (subst (λ (l : List Sight). Begins (polls_said url name channel (suc (length files + further)) (reader next))
    (answer ∷ answers) (printed_all l)) (sym (sights_go_on next bytes files))
    (told_begins url name channel (length files + further) next bytes answer answers
    (sights_from (next_after next (length bytes)) files) small told.1
    (polls_begin url name channel further files (next_after next (length bytes)) answers
    (next_by (nat_lt (length bytes) (offset_of next)) (length bytes) told.0) told.2)))

pub printed_is_the_log : (url name : List ℕ) (channel : Stream) (further : ℕ) (files : List (List ℕ))
    (answers : List Answer) → AreTold first files answers
    → Begins (follow_said url name channel (length files + further)) answers (followed files)
printed_is_the_log url name channel further files answers told =
    polls_begin url name channel further files First answers
    (let none : 0 ≤ 9223372036854775807 = omega arith in none) told
