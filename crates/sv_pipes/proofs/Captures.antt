-- A captured stream and its cut, when one byte more comes.
use Rattle.std.proofs.Common.{◌≡◌, ◌<◌, ◌≤◌, ◌+◌, ◌-◌, ◌==◌, ◌⊎◌, ℕ, List, [], ◌∷◌, ◌++◌, length, take, drop, get_or, map, false, nat_lt, codes, refl, ap, sym, ◌∙◌, subst, inl, inr, arith, append_assoc, append-nil, length-append, length-drop}
use Rattle.std.proofs.lemmas.Bool.Decides.{nat_tests}
use Rattle.std.proofs.lemmas.Grind.{flat_map-append}
use Rattle.std.proofs.lemmas.List.{map-append, take-append-drop, drop-append-le, drop-drop}
use Rattle.std.specs.List.{flat_map}
use Rattle.sv_pipes.proofs.Fronts.{cond_by, eq_true, eq_false, next_is, next_not, word_left}
use Rattle.sv_pipes.proofs.Awaited.{At, IsToken, drop_all, more_bytes, at_start, at_more, at_end, at_again, at_none}
use Rattle.sv_pipes.specs.CaptureCut.{Decided, Stretch, IsCut, IsClosed, Lead, Leads, awaited, begin_token, end_token, last_of, spelled, decided_by, decided_open, with_byte, grouped}
use Rattle.sv_pipes.specs.CaptureCut.Decided.{Byte, Message}
use Rattle.sv_pipes.specs.CaptureCut.Stretch.{Plain, Captured}
use Rattle.sv_pipes.specs.CapturePlaces.{Stands, CaptureState, reads, held_outside, step_outside, step_inside, step, steps}
use Rattle.sv_pipes.specs.Kept.{kept, all_kept, logged_part}
use Rattle.sv_pipes.specs.TalkPlaces.{is_next}
use Rattle.sv_pipes.specs.declared.parts.Part.{Part}
use Rattle.sv_pipes.specs.declared.parts.Part.TheVariants as part
use Rattle.sv_pipes.specs.declared.parts.Side.{Side}
use Rattle.sv_pipes.specs.declared.parts.Side.TheVariants.{Outside, Inside}

begin_is : IsToken begin_token
begin_is = record { body = codes "!--XSUPERVISOR:BEGIN-->"; is = refl; once = refl }

end_is : IsToken end_token
end_is = record { body = codes "!--XSUPERVISOR:END-->"; is = refl; once = refl }

awaited_some : (side : Side) → 0 < length (awaited side)
awaited_some Outside = omega arith
awaited_some Inside = omega arith

open_none : (side : Side) → decided_open side [] ≡ []
open_none Outside = refl
open_none Inside = refl

lead_more : (from : Side) (stretches : List Stretch) (at : Side) (stretch : Stretch) (to : Side)
    → Lead from stretches at → Leads at stretch to → Lead from (stretches ++ stretch ∷ []) to
lead_more from [] at stretch to same leads = (to, subst (λ (s : Side). Leads s stretch to) (sym same) leads, refl)
lead_more from (first ∷ stretches) at stretch to lead leads = (lead.0, lead.1, lead_more lead.0 stretches at stretch to lead.2 leads)

-- the cut, where the last stretch goes on
pub cut_more : (limit : ℕ) (stream : List ℕ) (earlier fresh : List Decided) (side : Side) (shown held : List ℕ) (byte matched : ℕ)
    (now : List ℕ) (extra : List Decided) → IsCut limit stream (earlier ++ fresh) side shown held
    → (shown ++ held) ++ byte ∷ [] ≡ now ++ take matched (awaited side) → At (awaited side) now matched
    → decided_open side now ≡ decided_open side shown ++ extra
    → IsCut limit (stream ++ byte ∷ []) (earlier ++ (fresh ++ extra)) side now (take matched (awaited side))
cut_more limit stream earlier fresh side shown held byte matched now extra was same at opens = record {
  stretches = was.stretches;
  cut = ap (λ all. all ++ byte ∷ []) was.cut ∙ append_assoc (flat_map spelled was.stretches) (shown ++ held) (byte ∷ [])
      ∙ ap (λ back. flat_map spelled was.stretches ++ back) same;
  lead = was.lead;
  lacks = at.lacks;
  left = drop matched (awaited side);
  front = sym (take-append-drop matched (awaited side));
  proper = word_left (awaited side) matched at.within;
  longest = at.longest;
  decided_is = sym (append_assoc earlier fresh extra) ∙ ap (λ all. all ++ extra) was.decided_is
      ∙ append_assoc (flat_map (decided_by limit) was.stretches) (decided_open side shown) extra
      ∙ ap (λ back. flat_map (decided_by limit) was.stretches ++ back) (sym opens);
}

-- the cut, where the last stretch ends
pub cut_ends : (limit : ℕ) (stream : List ℕ) (earlier fresh : List Decided) (side to : Side) (shown held : List ℕ) (byte : ℕ)
    (stretch : Stretch) (extra : List Decided) → IsCut limit stream (earlier ++ fresh) side shown held
    → Leads side stretch to → (shown ++ held) ++ byte ∷ [] ≡ spelled stretch
    → decided_by limit stretch ≡ decided_open side shown ++ extra
    → IsCut limit (stream ++ byte ∷ []) (earlier ++ (fresh ++ extra)) to [] []
cut_ends limit stream earlier fresh side to shown held byte stretch extra was leads same decides =
    let at = at_start (awaited to) (awaited_some to) in
    record {
      stretches = was.stretches ++ stretch ∷ [];
      cut = ap (λ all. all ++ byte ∷ []) was.cut ∙ append_assoc (flat_map spelled was.stretches) (shown ++ held) (byte ∷ [])
          ∙ ap (λ back. flat_map spelled was.stretches ++ back) (same ∙ sym (append-nil (spelled stretch)))
          ∙ sym (flat_map-append spelled was.stretches (stretch ∷ []))
          ∙ sym (append-nil (flat_map spelled (was.stretches ++ stretch ∷ [])));
      lead = lead_more Outside was.stretches side stretch to was.lead leads;
      lacks = at.lacks;
      left = awaited to;
      front = refl;
      proper = word_left (awaited to) 0 (awaited_some to);
      longest = at.longest;
      decided_is = sym (append_assoc earlier fresh extra) ∙ ap (λ all. all ++ extra) was.decided_is
          ∙ append_assoc (flat_map (decided_by limit) was.stretches) (decided_open side shown) extra
          ∙ ap (λ back. flat_map (decided_by limit) was.stretches ++ back) (sym decides ∙ sym (append-nil (decided_by limit stretch)))
          ∙ sym (flat_map-append (decided_by limit) was.stretches (stretch ∷ []))
          ∙ sym (append-nil (flat_map (decided_by limit) (was.stretches ++ stretch ∷ [])))
          ∙ ap (λ back. flat_map (decided_by limit) (was.stretches ++ stretch ∷ []) ++ back) (sym (open_none to));
    }

pub at_of : (limit : ℕ) (stream : List ℕ) (decided : List Decided) (side : Side) (shown : List ℕ) (matched : ℕ)
    → IsCut limit stream decided side shown (take matched (awaited side)) → matched < length (awaited side) → At (awaited side) shown matched
at_of limit stream decided side shown matched was within = record { within = within; lacks = was.lacks; longest = was.longest }

-- the last bytes of a message

pub last_more : (limit byte : ℕ) (bytes : List ℕ) → kept limit (last_of limit bytes) byte ≡ last_of limit (bytes ++ byte ∷ [])
last_more limit byte bytes =
    let size : length (bytes ++ byte ∷ []) ≡ length bytes + 1 = length-append bytes (byte ∷ []) in
    let split : drop (length bytes - limit) (bytes ++ byte ∷ []) ≡ last_of limit bytes ++ byte ∷ []
    = drop-append-le (length bytes - limit) bytes (byte ∷ []) (omega arith) in
    let fits : length (last_of limit bytes ++ byte ∷ []) ≡ length bytes - (length bytes - limit) + 1
    = length-append (last_of limit bytes) (byte ∷ []) ∙ ap (λ n. n + 1) (length-drop (length bytes - limit) bytes) in
    cond_by (λ (b : List ℕ). b ≡ last_of limit (bytes ++ byte ∷ [])) (nat_lt limit (length (last_of limit bytes ++ byte ∷ []))) _ _
    (λ over. let many : limit < length (last_of limit bytes ++ byte ∷ []) = grind (arith, nat_tests) in
    let one : length bytes - limit + 1 ≡ length (bytes ++ byte ∷ []) - limit = omega (arith, size, fits, many) in
    ap (λ b. drop 1 b) (sym split) ∙ drop-drop 1 (length bytes - limit) (bytes ++ byte ∷ []) ∙ ap (λ n. drop n (bytes ++ byte ∷ [])) one)
    (λ under. let few : length (last_of limit bytes ++ byte ∷ []) ≤ limit = grind (arith, nat_tests) in
    let none : length bytes - limit ≡ length (bytes ++ byte ∷ []) - limit = omega (arith, size, fits, few) in
    sym split ∙ ap (λ n. drop n (bytes ++ byte ∷ [])) none)

pub last_all : (limit : ℕ) (more bytes : List ℕ) → all_kept limit (last_of limit bytes) more ≡ last_of limit (bytes ++ more)
last_all limit [] bytes = ap (λ b. last_of limit b) (sym (append-nil bytes))
last_all limit (byte ∷ more) bytes =
    ap (λ b. all_kept limit b more) (last_more limit byte bytes) ∙ last_all limit more (bytes ++ byte ∷ [])
    ∙ ap (λ b. last_of limit b) (append_assoc bytes (byte ∷ []) more)

-- the parts of what is decided

with_byte_before : (byte : ℕ) (parts : List Part) (bytes : List ℕ) (rest : List Part)
    → with_byte byte (parts ++ part.Message bytes ∷ rest) ≡ with_byte byte parts ++ part.Message bytes ∷ rest
with_byte_before byte [] bytes rest = refl
with_byte_before byte (part.Logged first ∷ parts) bytes rest = refl
with_byte_before byte (part.Message first ∷ parts) bytes rest = refl

grouped_message : (decided : List Decided) (bytes : List ℕ) (more : List Decided)
    → grouped (decided ++ Message bytes ∷ more) ≡ grouped decided ++ part.Message bytes ∷ grouped more
grouped_message [] bytes more = refl
grouped_message (Byte byte ∷ decided) bytes more =
    ap (λ parts. with_byte byte parts) (grouped_message decided bytes more) ∙ with_byte_before byte (grouped decided) bytes (grouped more)
grouped_message (Message first ∷ decided) bytes more = ap (λ parts. part.Message first ∷ parts) (grouped_message decided bytes more)

with_byte_logged : (byte : ℕ) (bytes : List ℕ) → with_byte byte (logged_part bytes) ≡ part.Logged (byte ∷ bytes) ∷ []
with_byte_logged byte [] = refl
with_byte_logged byte (first ∷ bytes) = refl

grouped_bytes : (bytes : List ℕ) → grouped (map Byte bytes) ≡ logged_part bytes
grouped_bytes [] = refl
grouped_bytes (byte ∷ bytes) = ap (λ parts. with_byte byte parts) (grouped_bytes bytes) ∙ with_byte_logged byte bytes

-- nothing, or a message at the end
abbrev EndsWell : List Decided → Type 0
EndsWell done = (done ≡ []) ⊎ ((front : List Decided) × (bytes : List ℕ) × (done ≡ front ++ Message bytes ∷ []))

-- how the parts in hand and the bytes of the next one tell what is fresh
abbrev pub Gathers : Side → List Part → List ℕ → List Decided → Type 0
Gathers Outside parts logged fresh = (done : List Decided) × EndsWell done × (parts ≡ grouped done) × (fresh ≡ done ++ map Byte logged)
Gathers Inside parts logged fresh = (parts ≡ grouped fresh) × (logged ≡ [])

pub gathered : (side : Side) (parts : List Part) (logged : List ℕ) (fresh : List Decided) → Gathers side parts logged fresh
    → parts ++ logged_part logged ≡ grouped fresh
gathered Inside parts logged fresh all =
    ap (λ bytes. parts ++ logged_part bytes) all.1 ∙ append-nil parts ∙ all.0
gathered Outside parts logged fresh all = elim all.1 [
  | inl none ↦
      ap (λ p. p ++ logged_part logged) (all.2 ∙ ap (λ d. grouped d) none) ∙ sym (grouped_bytes logged)
      ∙ ap (λ d. grouped d) (sym (all.3 ∙ ap (λ d. d ++ map Byte logged) none))
  | inr end ↦
      ap (λ p. p ++ logged_part logged) (all.2 ∙ ap (λ d. grouped d) end.2 ∙ grouped_message end.0 end.1 [])
      ∙ append_assoc (grouped end.0) (part.Message end.1 ∷ []) (logged_part logged)
      ∙ ap (λ back. grouped end.0 ++ part.Message end.1 ∷ back) (sym (grouped_bytes logged))
      ∙ sym (grouped_message end.0 end.1 (map Byte logged))
      ∙ ap (λ d. grouped d) (sym (append_assoc end.0 (Message end.1 ∷ []) (map Byte logged))
      ∙ sym (all.3 ∙ ap (λ d. d ++ map Byte logged) end.2))
]

gathers_bytes : (parts : List Part) (logged more : List ℕ) (fresh : List Decided) → Gathers Outside parts logged fresh
    → Gathers Outside parts (logged ++ more) (fresh ++ map Byte more)
gathers_bytes parts logged more fresh all = (
  all.0,
  all.1,
  all.2,
  ap (λ d. d ++ map Byte more) all.3 ∙ append_assoc all.0 (map Byte logged) (map Byte more)
      ∙ ap (λ back. all.0 ++ back) (sym (map-append Byte logged more)),
)

-- what a reading stands for, after what was decided earlier
abbrev pub Reads : ℕ → List ℕ → List Decided → CaptureState → Type 0
Reads limit stream earlier reading =
    (fresh : List Decided) × Stands limit reading.side reading.matched reading.body stream (earlier ++ fresh)
    × Gathers reading.side reading.parts reading.logged fresh

outside_reads : (limit matched byte : ℕ) (body : List ℕ) (parts : List Part) (logged stream : List ℕ) (earlier fresh : List Decided) (shown : List ℕ)
    → IsCut limit stream (earlier ++ fresh) Outside shown (take matched begin_token) → matched < 24 → body ≡ []
    → Gathers Outside parts logged fresh → Reads limit (stream ++ byte ∷ []) earlier (step_outside matched byte body parts logged)
outside_reads limit matched byte body parts logged stream earlier fresh shown was within empty all =
    let at = at_of limit stream (earlier ++ fresh) Outside shown matched was within in
    cond_by (Reads limit (stream ++ byte ∷ []) earlier) (is_next begin_token matched byte) _ _
    (λ next. let same = next_is begin_token matched byte next in
    cond_by (Reads limit (stream ++ byte ∷ []) earlier) (matched == 23)
    (reads Inside 0 body (parts ++ logged_part logged) []) (reads Outside (matched + 1) body parts logged)
    (λ last. let full : matched + 1 ≡ 24 = ap (λ n. n + 1) (eq_true matched 23 last) in
    let ends = at_end begin_token shown matched byte at full same in (
      fresh ++ [],
      (
        [],
        cut_ends limit stream earlier fresh Outside Inside shown (take matched begin_token) byte (Plain shown) [] was ends.0 ends.1
            (sym (append-nil (map Byte shown))),
        omega arith,
        empty ∙ sym (drop_all [] (0 - limit) (omega arith)),
      ),
      (gathered Outside parts logged fresh all ∙ ap (λ d. grouped d) (sym (append-nil fresh)), refl),
    ))
    (λ more. let few : matched + 1 < 24 = grind (arith, nat_tests) in
    let now = at_more begin_token shown matched byte at few same in (
      fresh ++ [],
      (
        shown,
        cut_more limit stream earlier fresh Outside shown (take matched begin_token) byte (matched + 1) shown [] was
            (more_bytes begin_token shown matched byte within same) now (sym (append-nil (map Byte shown))),
        few,
        empty,
      ),
      subst (λ (d : List Decided). Gathers Outside parts logged d) (sym (append-nil fresh)) all,
    )))
    (λ next. let other = λ (same : get_or begin_token matched 0 ≡ byte). next_not begin_token matched byte next within same in
    cond_by (Reads limit (stream ++ byte ∷ []) earlier) (byte == 60)
    (reads Outside 1 body parts (logged ++ take matched begin_token))
    (reads Outside 0 body parts (logged ++ take matched begin_token ++ byte ∷ []))
    (λ mark. let again = at_again begin_token shown matched byte begin_is at other (eq_true byte 60 mark) (omega arith) in (
      fresh ++ map Byte (take matched begin_token),
      (
        shown ++ take matched begin_token,
        cut_more limit stream earlier fresh Outside shown (take matched begin_token) byte 1 (shown ++ take matched begin_token)
            (map Byte (take matched begin_token)) was (ap (λ b. (shown ++ take matched begin_token) ++ b) (sym again.1)) again.0
            (map-append Byte shown (take matched begin_token)),
        omega arith,
        empty,
      ),
      gathers_bytes parts logged (take matched begin_token) fresh all,
    ))
    (λ no_mark. let none = at_none begin_token shown matched byte begin_is at other (λ e. eq_false byte 60 no_mark e) in (
      fresh ++ map Byte (take matched begin_token ++ byte ∷ []),
      (
        shown ++ take matched begin_token ++ byte ∷ [],
        cut_more limit stream earlier fresh Outside shown (take matched begin_token) byte 0 (shown ++ take matched begin_token ++ byte ∷ [])
            (map Byte (take matched begin_token ++ byte ∷ [])) was (sym (append-nil (shown ++ take matched begin_token ++ byte ∷ []))) none
            (ap (λ b. map Byte b) (append_assoc shown (take matched begin_token) (byte ∷ []))
            ∙ map-append Byte shown (take matched begin_token ++ byte ∷ [])),
        omega arith,
        empty,
      ),
      subst (λ (b : List ℕ). Gathers Outside parts b (fresh ++ map Byte (take matched begin_token ++ byte ∷ [])))
          (sym (append_assoc logged (take matched begin_token) (byte ∷ [])))
          (gathers_bytes parts logged (take matched begin_token ++ byte ∷ []) fresh all),
    )))

inside_reads : (limit matched byte : ℕ) (body : List ℕ) (parts : List Part) (logged stream : List ℕ) (earlier fresh : List Decided) (shown : List ℕ)
    → IsCut limit stream (earlier ++ fresh) Inside shown (take matched end_token) → matched < 22 → body ≡ last_of limit shown
    → Gathers Inside parts logged fresh → Reads limit (stream ++ byte ∷ []) earlier (step_inside limit matched byte body parts logged)
inside_reads limit matched byte body parts logged stream earlier fresh shown was within holds all =
    let at = at_of limit stream (earlier ++ fresh) Inside shown matched was within in
    cond_by (Reads limit (stream ++ byte ∷ []) earlier) (is_next end_token matched byte) _ _
    (λ next. let same = next_is end_token matched byte next in
    cond_by (Reads limit (stream ++ byte ∷ []) earlier) (matched == 21)
    (reads Outside 0 [] (parts ++ part.Message body ∷ []) logged) (reads Inside (matched + 1) body parts logged)
    (λ last. let full : matched + 1 ≡ 22 = ap (λ n. n + 1) (eq_true matched 21 last) in
    let ends = at_end end_token shown matched byte at full same in (
      fresh ++ Message body ∷ [],
      (
        [],
        cut_ends limit stream earlier fresh Inside Outside shown (take matched end_token) byte (Captured shown) (Message body ∷ []) was ends.0 ends.1
            (ap (λ b. Message b ∷ []) (sym holds)),
        omega arith,
        refl,
      ),
      (
        fresh ++ Message body ∷ [],
        inr (fresh, body, refl),
        ap (λ p. p ++ part.Message body ∷ []) all.0 ∙ sym (grouped_message fresh body []),
        sym (append-nil (fresh ++ Message body ∷ [])) ∙ ap (λ b. (fresh ++ Message body ∷ []) ++ map Byte b) (sym all.1),
      ),
    ))
    (λ more. let few : matched + 1 < 22 = grind (arith, nat_tests) in
    let now = at_more end_token shown matched byte at few same in (
      fresh ++ [],
      (
        shown,
        cut_more limit stream earlier fresh Inside shown (take matched end_token) byte (matched + 1) shown [] was
            (more_bytes end_token shown matched byte within same) now refl,
        few,
        holds,
      ),
      subst (λ (d : List Decided). Gathers Inside parts logged d) (sym (append-nil fresh)) all,
    )))
    (λ next. let other = λ (same : get_or end_token matched 0 ≡ byte). next_not end_token matched byte next within same in
    let grown : all_kept limit body (take matched end_token) ≡ last_of limit (shown ++ take matched end_token)
    = ap (λ b. all_kept limit b (take matched end_token)) holds ∙ last_all limit (take matched end_token) shown in
    cond_by (Reads limit (stream ++ byte ∷ []) earlier) (byte == 60)
    (reads Inside 1 (all_kept limit body (take matched end_token)) parts logged)
    (reads Inside 0 (kept limit (all_kept limit body (take matched end_token)) byte) parts logged)
    (λ mark. let again = at_again end_token shown matched byte end_is at other (eq_true byte 60 mark) (omega arith) in (
      fresh ++ [],
      (
        shown ++ take matched end_token,
        cut_more limit stream earlier fresh Inside shown (take matched end_token) byte 1 (shown ++ take matched end_token)
            [] was (ap (λ b. (shown ++ take matched end_token) ++ b) (sym again.1)) again.0 refl,
        omega arith,
        grown,
      ),
      subst (λ (d : List Decided). Gathers Inside parts logged d) (sym (append-nil fresh)) all,
    ))
    (λ no_mark. let none = at_none end_token shown matched byte end_is at other (λ e. eq_false byte 60 no_mark e) in (
      fresh ++ [],
      (
        shown ++ take matched end_token ++ byte ∷ [],
        cut_more limit stream earlier fresh Inside shown (take matched end_token) byte 0 (shown ++ take matched end_token ++ byte ∷ [])
            [] was (sym (append-nil (shown ++ take matched end_token ++ byte ∷ []))) none refl,
        omega arith,
        ap (λ b. kept limit b byte) grown ∙ last_more limit byte (shown ++ take matched end_token),
      ),
      subst (λ (d : List Decided). Gathers Inside parts logged d) (sym (append-nil fresh)) all,
    )))

step_reads : (side : Side) (limit matched byte : ℕ) (body : List ℕ) (parts : List Part) (logged stream : List ℕ) (earlier : List Decided)
    → Reads limit stream earlier (reads side matched body parts logged)
    → Reads limit (stream ++ byte ∷ []) earlier (step limit side matched byte body parts logged)
step_reads Outside limit matched byte body parts logged stream earlier was =
    outside_reads limit matched byte body parts logged stream earlier was.0 was.1.0 was.1.1 was.1.2 was.1.3 was.2
step_reads Inside limit matched byte body parts logged stream earlier was =
    inside_reads limit matched byte body parts logged stream earlier was.0 was.1.0 was.1.1 was.1.2 was.1.3 was.2

pub steps_read : (bytes : List ℕ) (limit : ℕ) (reading : CaptureState) (stream : List ℕ) (earlier : List Decided)
    → Reads limit stream earlier reading → Reads limit (stream ++ bytes) earlier (steps limit reading bytes)
steps_read [] limit reading stream earlier was = subst (λ (all : List ℕ). Reads limit all earlier reading) (sym (append-nil stream)) was
steps_read (byte ∷ bytes) limit reading stream earlier was =
    let now = step limit reading.side reading.matched byte reading.body reading.parts reading.logged in
    let here = step_reads reading.side limit reading.matched byte reading.body reading.parts reading.logged stream earlier was in
    subst (λ (all : List ℕ). Reads limit all earlier (steps limit (step limit reading.side reading.matched byte reading.body reading.parts reading.logged) bytes))
    (append_assoc stream (byte ∷ []) bytes)
    (steps_read bytes limit (step limit reading.side reading.matched byte reading.body reading.parts reading.logged) (stream ++ byte ∷ []) earlier here)

pub start_gathers : (side : Side) → Gathers side [] [] []
start_gathers Outside = ([], inl refl, refl, refl)
start_gathers Inside = (refl, refl)

pub inside_again : (side : Side) (limit matched byte : ℕ) (body after : List ℕ) (parts : List Part) (logged : List ℕ) → side ≡ Inside
    → is_next end_token matched byte ≡ false → byte ≡ 60 → after ≡ all_kept limit body (take matched end_token)
    → reads side 1 after parts logged ≡ step_inside limit matched byte body parts logged
inside_again side limit matched byte body after parts logged is next mark holds =
    cond_by (λ (r : CaptureState). reads side 1 after parts logged ≡ r) (is_next end_token matched byte) _ _ (λ yet. absurd (cc))
    (λ _. cond_by (λ (r : CaptureState). reads side 1 after parts logged ≡ r) (byte == 60)
    (reads Inside 1 (all_kept limit body (take matched end_token)) parts logged)
    (reads Inside 0 (kept limit (all_kept limit body (take matched end_token)) byte) parts logged)
    (λ _. cc) (λ no_mark. absurd (eq_false byte 60 no_mark mark)))

pub inside_on : (side : Side) (limit matched byte : ℕ) (body middle after : List ℕ) (parts : List Part) (logged : List ℕ) → side ≡ Inside
    → is_next end_token matched byte ≡ false → (byte ≡ 60 → ⊥) → middle ≡ all_kept limit body (take matched end_token) → after ≡ kept limit middle byte
    → reads side 0 after parts logged ≡ step_inside limit matched byte body parts logged
inside_on side limit matched byte body middle after parts logged is next no_mark is_middle holds =
    let whole : after ≡ kept limit (all_kept limit body (take matched end_token)) byte = holds ∙ ap (λ b. kept limit b byte) is_middle in
    cond_by (λ (r : CaptureState). reads side 0 after parts logged ≡ r) (is_next end_token matched byte) _ _ (λ yet. absurd (cc))
    (λ _. cond_by (λ (r : CaptureState). reads side 0 after parts logged ≡ r) (byte == 60)
    (reads Inside 1 (all_kept limit body (take matched end_token)) parts logged)
    (reads Inside 0 (kept limit (all_kept limit body (take matched end_token)) byte) parts logged)
    (λ mark. absurd (no_mark (eq_true byte 60 mark))) (λ _. cc))

pub feed_stands : (limit now_limit : ℕ) (side to : Side) (matched at : ℕ) (body now_body : List ℕ) (parts out : List Part)
    (logged piece stream : List ℕ) (decided : List Decided) → now_limit ≡ limit
    → reads to at now_body parts logged ≡ steps limit (reads side matched body [] []) piece → out ≡ parts ++ logged_part logged
    → Stands limit side matched body stream decided
    → (fresh : List Decided) × (out ≡ grouped fresh) × Stands now_limit to at now_body (stream ++ piece) (decided ++ fresh)
feed_stands limit now_limit side to matched at body now_body parts out logged piece stream decided same is_steps is_out stands =
    let was : Stands limit side matched body stream (decided ++ [])
    = subst (λ (d : List Decided). Stands limit side matched body stream d) (sym (append-nil decided)) stands in
    let all = steps_read piece limit (reads side matched body [] []) stream decided ([], was, start_gathers side) in
    let now = subst (λ (r : CaptureState). Reads limit (stream ++ piece) decided r) (sym is_steps) all in (
      now.0,
      is_out ∙ gathered to parts logged now.0 now.2,
      subst (λ (n : ℕ). Stands n to at now_body (stream ++ piece) (decided ++ now.0)) (sym same) now.1,
    )

open_grouped : (side : Side) (matched : ℕ) → logged_part (held_outside side matched) ≡ grouped (decided_open side (take matched (awaited side)))
open_grouped Outside matched = sym (grouped_bytes (take matched begin_token))
open_grouped Inside matched = refl

pub close_stands : (limit : ℕ) (side : Side) (matched : ℕ) (body : List ℕ) (parts : List Part) (stream : List ℕ) (decided : List Decided)
    → parts ≡ logged_part (held_outside side matched) → Stands limit side matched body stream decided
    → (fresh : List Decided) × (parts ≡ grouped fresh) × IsClosed limit stream (decided ++ fresh)
close_stands limit side matched body parts stream decided is stands = (
  decided_open side (take matched (awaited side)),
  is ∙ open_grouped side matched,
  (decided, side, stands.0, take matched (awaited side), stands.1, refl),
)
