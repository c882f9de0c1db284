-- The parts of a captured channel, over all its pieces.
use Rattle.std.proofs.Common.{◌≡◌, ◌≢◌, ◌<◌, ℕ, zero, suc, List, [], ◌∷◌, ◌++◌, length, take, drop, refl, sym, ap, ◌∙◌, subst, arith, append_assoc, append-nil, length-append}
use Rattle.std.proofs.Math.Seq.{drop-append_seam, take-append_seam}
use Rattle.std.proofs.lemmas.Grind.{flat_map-append}
use Rattle.std.specs.List.{flat_map}
use Rattle.sv_pipes.proofs.Captures.{Reads, start_gathers, steps_read}
use Rattle.sv_pipes.proofs.StreamReading.{stands_decided, stream_cut}
use Rattle.sv_pipes.specs.CaptureCut.{Decided, IsCut, awaited, decided_open, grouped, last_of, with_byte}
use Rattle.sv_pipes.specs.CaptureCut.Decided.{Byte, Message}
use Rattle.sv_pipes.specs.CapturePlaces.{IsKept, CaptureState, Stands, reads, steps}
use Rattle.sv_pipes.specs.StreamCut.{Cut, closed_of, cut_of, decided_of}
use Rattle.sv_pipes.specs.declared.parts.Part.{Part}
use Rattle.sv_pipes.specs.declared.parts.Part.TheVariants as part
use Rattle.sv_pipes.specs.declared.parts.Side.{Side}
use Rattle.sv_pipes.specs.declared.parts.Side.TheVariants.{Outside, Inside}
use Rattle.sv_runs.specs.Streams.StreamBook.{decided_by, decided_in, parts_through}

-- grouping loses nothing

one_more : (byte : ℕ) (parts : List Part) → decided_in (with_byte byte parts) ≡ Byte byte ∷ decided_in parts
one_more byte [] = refl
one_more byte (part.Logged bytes ∷ parts) = refl
one_more byte (part.Message bytes ∷ parts) = refl

ungrouped : (decided : List Decided) → decided_in (grouped decided) ≡ decided
ungrouped [] = refl
ungrouped (Byte byte ∷ decided) = one_more byte (grouped decided) ∙ ap (λ rest. Byte byte ∷ rest) (ungrouped decided)
ungrouped (Message bytes ∷ decided) = ap (λ rest. Message bytes ∷ rest) (ungrouped decided)

-- what is decided stays decided

some_bytes : (bytes : List ℕ) → bytes ≢ [] → 0 < length bytes
some_bytes [] some = absurd (some refl)
some_bytes (byte ∷ bytes) some = omega arith

abbrev kept_body : ℕ → Side → List ℕ → List ℕ
kept_body limit Outside shown = []
kept_body limit Inside shown = last_of limit shown

is_kept : (limit : ℕ) (side : Side) (shown : List ℕ) → IsKept limit side shown (kept_body limit side shown)
is_kept limit Outside shown = refl
is_kept limit Inside shown = refl

-- a capture that stands for this stream
stands : (limit : ℕ) (stream : List ℕ) (decided : List Decided) (side : Side) (shown held : List ℕ) → IsCut limit stream decided side shown held
    → Stands limit side (length held) (kept_body limit side shown) stream decided
stands limit stream decided side shown held is =
    let front : take (length held) (awaited side) ≡ held
    = ap (λ token. take (length held) token) is.front ∙ take-append_seam held is.left in
    let within : length held < length (awaited side)
    = omega (arith, ap length is.front, length-append held is.left, some_bytes is.left is.proper) in (
      shown,
      subst (λ (tail : List ℕ). IsCut limit stream decided side shown tail) (sym front) is,
      within,
      is_kept limit side shown,
    )

stays_decided : (limit : ℕ) (stream bytes : List ℕ)
    → (fresh : List Decided) × (decided_of limit stream ++ fresh ≡ decided_of limit (stream ++ bytes))
stays_decided limit stream bytes =
    let cut : Cut = cut_of limit stream in
    let body : List ℕ = kept_body limit cut.side cut.shown in
    let was : Stands limit cut.side (length cut.held) body stream (cut.decided ++ [])
    = subst (λ (decided : List Decided). Stands limit cut.side (length cut.held) body stream decided) (sym (append-nil cut.decided))
    (stands limit stream cut.decided cut.side cut.shown cut.held (stream_cut limit stream)) in
    let all : Reads limit (stream ++ bytes) cut.decided (steps limit (reads cut.side (length cut.held) body [] []) bytes)
    = steps_read bytes limit (reads cut.side (length cut.held) body [] []) stream cut.decided ([], was, start_gathers cut.side) in
    let now : CaptureState = steps limit (reads cut.side (length cut.held) body [] []) bytes in
    (all.0, stands_decided limit now.side now.matched now.body (stream ++ bytes) (cut.decided ++ all.0) all.1)

-- so the parts that are new follow what was decided
new_follow : (before fresh whole : List Decided) → before ++ fresh ≡ whole → before ++ decided_in (grouped (drop (length before) whole)) ≡ whole
new_follow before fresh whole same =
    ap (λ rest. before ++ rest) (ungrouped (drop (length before) whole))
    ∙ ap (λ all. before ++ drop (length before) all) (sym same)
    ∙ ap (λ rest. before ++ rest) (drop-append_seam before fresh) ∙ same

whole_from : (most : ℕ) (pieces : List (List ℕ)) (stream : List ℕ)
    → decided_of (suc most) stream ++ decided_in (parts_through (suc most) stream pieces)
    ≡ closed_of (suc most) (stream ++ flat_map (λ (piece : List ℕ). piece) pieces)
whole_from most [] stream =
    let cut : Cut = cut_of (suc most) stream in
    new_follow cut.decided (decided_open cut.side cut.held) (closed_of (suc most) stream) refl
    ∙ ap (λ all. closed_of (suc most) all) (sym (append-nil stream))
whole_from most (piece ∷ pieces) stream =
    let limit : ℕ = suc most in
    let before : List Decided = decided_of limit stream in
    let after : List Decided = decided_of limit (stream ++ piece) in
    let fresh : List Part = grouped (drop (length before) after) in
    let later : List Part = parts_through limit (stream ++ piece) pieces in
    let stays = stays_decided limit stream piece in
    ap (λ rest. before ++ rest) (flat_map-append decided_by fresh later)
    ∙ sym (append_assoc before (decided_in fresh) (decided_in later))
    ∙ ap (λ front. front ++ decided_in later) (new_follow before stays.0 after stays.1)
    ∙ whole_from most pieces (stream ++ piece)
    ∙ ap (λ all. closed_of limit all) (append_assoc stream piece (flat_map (λ (p : List ℕ). p) pieces))

nothing_yet : (limit : ℕ) → decided_of limit [] ≡ []
unfolding cut_of
nothing_yet limit = refl

pub whole_is_decided : (limit : ℕ) (pieces : List (List ℕ)) → 0 < limit
    → decided_in (parts_through limit [] pieces) ≡ closed_of limit (flat_map (λ (piece : List ℕ). piece) pieces)
whole_is_decided zero pieces some = absurd (omega (arith, some))
whole_is_decided (suc most) pieces some =
    ap (λ front. front ++ decided_in (parts_through (suc most) [] pieces)) (sym (nothing_yet (suc most))) ∙ whole_from most pieces []
