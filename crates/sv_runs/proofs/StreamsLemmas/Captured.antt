-- What is kept of a captured channel, from call to call.
use Rattle.std.proofs.Common.{◌≡◌, ℕ, zero, suc, List, [], ◌++◌, Some, length, drop, refl, sym, ap, ◌∙◌, subst}
use Rattle.std.proofs.Math.Seq.{drop-append_seam}
use Rattle.sv_pipes.proofs.StreamReading.{stands_decided}
use Rattle.sv_pipes.specs.CaptureCalls.{Feeds, Tells, TellsEnd}
use Rattle.sv_pipes.specs.CaptureCut.{Decided, grouped}
use Rattle.sv_pipes.specs.CapturePlaces.{StandsFor}
use Rattle.sv_pipes.specs.StreamCut.{cut_of, decided_of}
use Rattle.sv_pipes.specs.declared.captured.Capture.{Capture}
use Rattle.sv_pipes.specs.declared.parts.Part.{Part}
use Rattle.sv_runs.specs.Streams.StandsFor.{IsCaptured}
use Rattle.sv_runs.specs.Streams.StreamBook.{parts_last, parts_more}

-- nothing came yet
pub new_captured : (x : Capture) (limit : ℕ) → (limit ≡ 0 → ⊥) → StandsFor x limit [] [] → IsCaptured (Some x) limit []
unfolding cut_of
new_captured x zero some stands = absurd (some refl)
new_captured x (suc most) some stands = stands

-- a piece came
pub more_captured : (x y : Capture) (piece : List ℕ) (parts : List Part) (limit : ℕ) (stream : List ℕ) → Feeds x piece parts y
    → IsCaptured (Some x) limit stream → IsCaptured (Some y) limit (stream ++ piece)
more_captured x y piece parts zero stream feeds is = absurd is
more_captured x y piece parts (suc most) stream feeds is =
    let limit : ℕ = suc most in
    let fed = feeds limit stream (decided_of limit stream) is in
    subst (λ (decided : List Decided). StandsFor y limit (stream ++ piece) decided)
    (stands_decided limit y.side y.matched y.body.items (stream ++ piece) (decided_of limit stream ++ fed.0) fed.2.2) fed.2

pub more_parts : (x : Capture) (piece : List ℕ) (parts : List Part) (limit : ℕ) (stream : List ℕ) → Tells x piece parts
    → IsCaptured (Some x) limit stream → parts ≡ parts_more limit stream piece
more_parts x piece parts zero stream tells is = absurd is
more_parts x piece parts (suc most) stream tells is =
    let limit : ℕ = suc most in
    let before : List Decided = decided_of limit stream in
    let told = tells limit stream before is in
    told.1 ∙ ap (λ fresh. grouped fresh) (sym (drop-append_seam before told.0))
    ∙ ap (λ all. grouped (drop (length before) all)) told.2

-- the end came
pub last_parts : (x : Capture) (parts : List Part) (limit : ℕ) (stream : List ℕ) → TellsEnd x parts → IsCaptured (Some x) limit stream
    → parts ≡ parts_last limit stream
last_parts x parts zero stream tells is = absurd is
last_parts x parts (suc most) stream tells is =
    let limit : ℕ = suc most in
    let before : List Decided = decided_of limit stream in
    let told = tells limit stream before is in
    told.1 ∙ ap (λ fresh. grouped fresh) (sym (drop-append_seam before told.0))
    ∙ ap (λ all. grouped (drop (length before) all)) told.2
