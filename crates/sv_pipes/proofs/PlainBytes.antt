-- Bytes with which no token begins, taken all at once.
use Rattle.std.proofs.Common.{◌≡◌, ◌≤◌, ◌<◌, ◌-◌, ◌+◌, ◌==◌, ℕ, zero, suc, List, [], ◌∷◌, ◌++◌, length, take, drop, Bool, true, false, not, refl, ap, sym, ◌∙◌, arith, append_assoc, append-nil, length-append, length-drop, ⊎_elim}
use Rattle.std.proofs.lemmas.Bool.{and_from, and_parts, cases_lt}
use Rattle.std.proofs.lemmas.List.{drop-append-le}
use Rattle.std.proofs.Math.Seq.{drop-append-add}
use Rattle.std.specs.List.{list_all}
use Rattle.memchr.specs.Find.{Nowhere, Passes, is_byte}
use Rattle.sv_pipes.proofs.Awaited.{drop_all}
use Rattle.sv_pipes.proofs.Captures.{last_all}
use Rattle.sv_pipes.proofs.Fronts.{cond_by, eq_true, eq_false, next_is}
use Rattle.sv_pipes.specs.CaptureCut.{begin_token, end_token, last_of}
use Rattle.sv_pipes.specs.CapturePlaces.{CaptureState, reads, step_outside, step_inside, steps}
use Rattle.sv_pipes.specs.Kept.{kept, all_kept, is_plain}
use Rattle.sv_pipes.specs.TalkPlaces.{is_next}
use Rattle.sv_pipes.specs.declared.parts.Part.{Part}
use Rattle.sv_pipes.specs.declared.parts.Side.{Side}
use Rattle.sv_pipes.specs.declared.parts.Side.TheVariants.{Outside, Inside}

-- up to a place before which no 60 stands
pub plain_before : (n : ℕ) (bytes : List ℕ) → n ≤ length bytes → Nowhere (Passes (is_byte 60) bytes) 0 n → list_all is_plain (take n bytes) ≡ true
plain_before zero bytes within none = refl
plain_before (suc n) [] within none = absurd (omega (arith, within))
plain_before (suc n) (byte ∷ bytes) within none =
    and_from (is_plain byte) (list_all is_plain (take n bytes)) (by_test (byte == 60) refl)
    (plain_before n bytes (omega (arith, within)) (λ k low high passes. none (suc k) (omega arith) (omega (arith, high)) passes))
  where
    by_test : (test : Bool) → (byte == 60) ≡ test → not test ≡ true
    by_test true is = absurd (none 0 (omega arith) (omega arith) is)
    by_test false is = refl

not_token : (byte : ℕ) → is_plain byte ≡ true → (byte == 60) ≡ false
not_token byte plain = by_test (byte == 60) plain where
  by_test : (test : Bool) → not test ≡ true → test ≡ false
  by_test true is = absurd (cc)
  by_test false is = refl

-- bytes outside are for the log
plain_outside_one : (byte : ℕ) (body : List ℕ) (parts : List Part) (logged : List ℕ) → is_plain byte ≡ true
    → step_outside 0 byte body parts logged ≡ reads Outside 0 body parts (logged ++ byte ∷ [])
plain_outside_one byte body parts logged plain =
    cond_by (λ (r : CaptureState). r ≡ reads Outside 0 body parts (logged ++ byte ∷ [])) (is_next begin_token 0 byte) _ _
    (λ next. absurd (eq_false byte 60 (not_token byte plain) (sym (next_is begin_token 0 byte next))))
    (λ next. cond_by (λ (r : CaptureState). r ≡ reads Outside 0 body parts (logged ++ byte ∷ [])) (byte == 60) _ _
    (λ mark. absurd (eq_false byte 60 (not_token byte plain) (eq_true byte 60 mark)))
    (λ no_mark. ap (λ front. reads Outside 0 body parts (front ++ byte ∷ [])) (append-nil logged)))

pub plain_outside : (limit : ℕ) (bytes body : List ℕ) (parts : List Part) (logged : List ℕ) → list_all is_plain bytes ≡ true
    → steps limit (reads Outside 0 body parts logged) bytes ≡ reads Outside 0 body parts (logged ++ bytes)
plain_outside limit [] body parts logged plain = ap (λ all. reads Outside 0 body parts all) (sym (append-nil logged))
plain_outside limit (byte ∷ bytes) body parts logged plain =
    let both = and_parts (is_plain byte) (list_all is_plain bytes) plain in
    ap (λ (r : CaptureState). steps limit r bytes) (plain_outside_one byte body parts logged both.0)
    ∙ plain_outside limit bytes body parts (logged ++ byte ∷ []) both.1
    ∙ ap (λ all. reads Outside 0 body parts all) (append_assoc logged (byte ∷ []) bytes)

-- bytes inside are for the message
plain_inside_one : (limit byte : ℕ) (body : List ℕ) (parts : List Part) (logged : List ℕ) → is_plain byte ≡ true
    → step_inside limit 0 byte body parts logged ≡ reads Inside 0 (kept limit body byte) parts logged
plain_inside_one limit byte body parts logged plain =
    cond_by (λ (r : CaptureState). r ≡ reads Inside 0 (kept limit body byte) parts logged) (is_next end_token 0 byte) _ _
    (λ next. absurd (eq_false byte 60 (not_token byte plain) (sym (next_is end_token 0 byte next))))
    (λ next. cond_by (λ (r : CaptureState). r ≡ reads Inside 0 (kept limit body byte) parts logged) (byte == 60) _ _
    (λ mark. absurd (eq_false byte 60 (not_token byte plain) (eq_true byte 60 mark)))
    (λ no_mark. refl))

pub plain_inside : (limit : ℕ) (bytes body : List ℕ) (parts : List Part) (logged : List ℕ) → list_all is_plain bytes ≡ true
    → steps limit (reads Inside 0 body parts logged) bytes ≡ reads Inside 0 (all_kept limit body bytes) parts logged
plain_inside limit [] body parts logged plain = refl
plain_inside limit (byte ∷ bytes) body parts logged plain =
    let both = and_parts (is_plain byte) (list_all is_plain bytes) plain in
    ap (λ (r : CaptureState). steps limit r bytes) (plain_inside_one limit byte body parts logged both.0)
    ∙ plain_inside limit bytes (kept limit body byte) parts logged both.1

-- so of a capture's fields
pub plain_outside_at : (limit : ℕ) (side : Side) (matched : ℕ) (bytes body : List ℕ) (parts : List Part) (logged after : List ℕ) → side ≡ Outside
    → matched ≡ 0 → list_all is_plain bytes ≡ true → after ≡ logged ++ bytes
    → reads side matched body parts after ≡ steps limit (reads side matched body parts logged) bytes
plain_outside_at limit side matched bytes body parts logged after is none plain made =
    rw (is, none, made) (sym (plain_outside limit bytes body parts logged plain))

pub plain_inside_at : (limit : ℕ) (side : Side) (matched : ℕ) (bytes body after : List ℕ) (parts : List Part) (logged : List ℕ) → side ≡ Inside
    → matched ≡ 0 → list_all is_plain bytes ≡ true → after ≡ all_kept limit body bytes
    → reads side matched after parts logged ≡ steps limit (reads side matched body parts logged) bytes
plain_inside_at limit side matched bytes body after parts logged is none plain made =
    rw (is, none, made) (sym (plain_inside limit bytes body parts logged plain))

steps_append : (limit : ℕ) (bytes more : List ℕ) (reading : CaptureState) → steps limit reading (bytes ++ more) ≡ steps limit (steps limit reading bytes) more
steps_append limit [] more reading = refl
steps_append limit (byte ∷ bytes) more reading = steps_append limit bytes more _

-- and of what comes after them
pub goes_behind : (limit : ℕ) (front back rest : List ℕ) (reading after : CaptureState) → rest ≡ front ++ back → after ≡ steps limit reading front
    → steps limit after back ≡ steps limit reading rest
goes_behind limit front back rest reading after split made =
    ap (λ (r : CaptureState). steps limit r back) made ∙ sym (steps_append limit front back reading)
    ∙ ap (λ all. steps limit reading all) (sym split)

-- the last bytes of a message, with more bytes

all_are_kept : (limit : ℕ) (body bytes : List ℕ) → length body ≤ limit → last_of limit (body ++ bytes) ≡ all_kept limit body bytes
all_are_kept limit body bytes within =
    let none : length body - limit ≡ 0 = omega (arith, within) in
    let own : last_of limit body ≡ body = ap (λ n. drop n body) none in
    sym (last_all limit bytes body) ∙ ap (λ b. all_kept limit b bytes) own

few_kept : (limit : ℕ) (body bytes : List ℕ) → length body ≤ limit → length bytes ≤ limit
    → last_of (limit - length (last_of limit bytes)) body ++ last_of limit bytes ≡ last_of limit (body ++ bytes)
few_kept limit body bytes within few =
    let none : length bytes - limit ≡ 0 = omega (arith, few) in
    let whole : last_of limit bytes ≡ bytes = ap (λ n. drop n bytes) none in
    let size : length (body ++ bytes) ≡ length body + length bytes = length-append body bytes in
    let same : length body - (limit - length bytes) ≡ length (body ++ bytes) - limit = omega (arith, size, few, within) in
    ap (λ last. last_of (limit - length last) body ++ last) whole ∙ ap (λ n. drop n body ++ bytes) same
    ∙ sym (drop-append-le (length (body ++ bytes) - limit) body bytes (omega (arith, size, few)))

many_kept : (limit : ℕ) (body bytes : List ℕ) → length body ≤ limit → limit ≤ length bytes
    → last_of (limit - length (last_of limit bytes)) body ++ last_of limit bytes ≡ last_of limit (body ++ bytes)
many_kept limit body bytes within many =
    let size : length (body ++ bytes) ≡ length body + length bytes = length-append body bytes in
    let full : length (last_of limit bytes) ≡ limit = omega (arith, length-drop (length bytes - limit) bytes, many) in
    let none : last_of (limit - length (last_of limit bytes)) body ≡ []
    = drop_all body (length body - (limit - length (last_of limit bytes))) (omega (arith, full)) in
    let same : length body + (length bytes - limit) ≡ length (body ++ bytes) - limit = omega (arith, size, many) in
    ap (λ front. front ++ last_of limit bytes) none ∙ sym (drop-append-add body bytes (length bytes - limit))
    ∙ ap (λ n. drop n (body ++ bytes)) same

pub kept_at_once : (limit : ℕ) (body bytes : List ℕ) → length body ≤ limit
    → last_of (limit - length (last_of limit bytes)) body ++ last_of limit bytes ≡ all_kept limit body bytes
kept_at_once limit body bytes within =
    ⊎_elim (λ (few : length bytes < limit). few_kept limit body bytes within (omega (arith, few)))
    (λ (many : limit ≤ length bytes). many_kept limit body bytes within many) (cases_lt (length bytes) limit)
    ∙ all_are_kept limit body bytes within
