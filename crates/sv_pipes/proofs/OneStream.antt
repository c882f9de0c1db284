-- A captured stream has one cut.
use Rattle.std.proofs.Common.{◌≡◌, ◌≢◌, ◌≤◌, ◌⊎◌, ℕ, List, [], ◌∷◌, ◌++◌, length, take, refl, ap, sym, ◌∙◌, subst, inl, inr, arith, append_assoc, append-nil, length-append}
use Rattle.std.proofs.lemmas.List.{append_cancel_left, append_cancel_right}
use Rattle.std.specs.List.{flat_map}
use Rattle.sv_pipes.proofs.Fronts.{no_bytes}
use Rattle.sv_pipes.proofs.Awaited.{length_take}
use Rattle.sv_pipes.specs.CaptureCut.{Decided, Stretch, IsCut, IsClosed, IsFirst, IsLongest, Lacks, Lead, Leads, awaited, begin_token, end_token, spelled, decided_by, decided_open}
use Rattle.sv_pipes.specs.CapturePlaces.{IsKept, Stands}
use Rattle.sv_pipes.specs.CaptureCut.Stretch.{Plain, Captured}
use Rattle.sv_pipes.specs.declared.parts.Side.{Side}
use Rattle.sv_pipes.specs.declared.parts.Side.TheVariants.{Outside, Inside}

-- of two prefixes of one list, one goes on where the other ends
compare : (one other after more : List ℕ) → one ++ after ≡ other ++ more
    → ((left : List ℕ) × (one ≡ other ++ left)) ⊎ ((left : List ℕ) × (other ≡ one ++ left))
compare one [] after more same = inl (one, refl)
compare [] (b ∷ bs) after more same = inr (b ∷ bs, refl)
compare (a ∷ as') (b ∷ bs) after more same =
    let heads : a ≡ b = cc in
    let tails : as' ++ after ≡ bs ++ more = cc in
    elim (compare as' bs after more tails) [
      | inl on ↦ inl (on.0, cc)
      | inr on ↦ inr (on.0, cc)
    ]

-- where a token ends for the first time in a stream there is one place
one_first : (token one other after more : List ℕ) → IsFirst token one → IsFirst token other
    → (one ++ token) ++ after ≡ (other ++ token) ++ more → one ≡ other
one_first token one other after more first first' same = elim (compare (one ++ token) (other ++ token) after more same) [
  | inl on ↦
      let split : one ++ token ≡ other ++ token ++ on.0 = on.1 in
      let none = first other on.0 split in
      append_cancel_right one other token (split ∙ ap (λ left. other ++ token ++ left) none ∙ append-nil (other ++ token))
  | inr on ↦
      let split : other ++ token ≡ one ++ token ++ on.0 = on.1 in
      let none = first' one on.0 split in
      sym (append_cancel_right other one token (split ∙ ap (λ left. one ++ token ++ left) none ∙ append-nil (one ++ token)))
]

abbrev other_side : Side → Side
other_side Outside = Inside
other_side Inside = Outside

leads_other : (from : Side) (stretch : Stretch) (to : Side) → Leads from stretch to → to ≡ other_side from
leads_other Outside (Plain bytes) Inside leads = refl
leads_other Inside (Captured bytes) Outside leads = refl
leads_other from stretch to leads = absurd leads

-- no stretch ends in bytes without the token
no_stretch : (from : Side) (stretch : Stretch) (to : Side) (bytes more : List ℕ) → Lacks (awaited from) bytes → Leads from stretch to
    → bytes ≡ spelled stretch ++ more → ⊥
no_stretch Outside (Plain shown) Inside bytes more lacks leads same = lacks shown more same
no_stretch Inside (Captured shown) Outside bytes more lacks leads same = lacks shown more same
no_stretch from stretch to bytes more lacks leads same = absurd leads

-- the stretch that begins at a place is the only one
same_stretch : (from : Side) (one other : Stretch) (after more : List ℕ) → Leads from one (other_side from) → Leads from other (other_side from)
    → spelled one ++ after ≡ spelled other ++ more → (one ≡ other) × (after ≡ more)
same_stretch Outside (Plain bytes) (Plain others) after more first first' same =
    let equal = one_first begin_token bytes others after more first first' same in
    (ap Plain equal, append_cancel_left (others ++ begin_token) after more (ap (λ b. (b ++ begin_token) ++ after) (sym equal) ∙ same))
same_stretch Inside (Captured bytes) (Captured others) after more first first' same =
    let equal = one_first end_token bytes others after more first first' same in
    (ap Captured equal, append_cancel_left (others ++ end_token) after more (ap (λ b. (b ++ end_token) ++ after) (sym equal) ∙ same))
same_stretch Outside (Plain bytes) other after more first first' same = absurd first'
same_stretch Inside (Captured bytes) other after more first first' same = absurd first'
same_stretch from one other after more first first' same = absurd first

record SameStretches (one other : List Stretch) (to also : Side) (bytes others : List ℕ) : Type 0 where
  stretches : one ≡ other
  to_is : to ≡ also
  bytes_are : bytes ≡ others

same_stretches : (from : Side) (one other : List Stretch) (to also : Side) (bytes others : List ℕ) → Lead from one to → Lead from other also
    → Lacks (awaited to) bytes → Lacks (awaited also) others → flat_map spelled one ++ bytes ≡ flat_map spelled other ++ others
    → SameStretches one other to also bytes others
same_stretches from [] [] to also bytes others lead lead' lacks lacks' same =
    record { stretches = refl; to_is = sym lead ∙ lead'; bytes_are = same }
same_stretches from [] (stretch ∷ other) to also bytes others lead lead' lacks lacks' same =
    let here : Lacks (awaited from) bytes = subst (λ (s : Side). Lacks (awaited s) bytes) (sym lead) lacks in
    absurd (no_stretch from stretch lead'.0 bytes (flat_map spelled other ++ others) here lead'.1
    (same ∙ append_assoc (spelled stretch) (flat_map spelled other) others))
same_stretches from (stretch ∷ one) [] to also bytes others lead lead' lacks lacks' same =
    let here : Lacks (awaited from) others = subst (λ (s : Side). Lacks (awaited s) others) (sym lead') lacks' in
    absurd (no_stretch from stretch lead.0 others (flat_map spelled one ++ bytes) here lead.1
    (sym same ∙ append_assoc (spelled stretch) (flat_map spelled one) bytes))
same_stretches from (first ∷ one) (second ∷ other) to also bytes others lead lead' lacks lacks' same =
    let to_one = leads_other from first lead.0 lead.1 in
    let to_two = leads_other from second lead'.0 lead'.1 in
    let here = same_stretch from first second (flat_map spelled one ++ bytes) (flat_map spelled other ++ others)
    (subst (λ (s : Side). Leads from first s) to_one lead.1) (subst (λ (s : Side). Leads from second s) to_two lead'.1)
    (sym (append_assoc (spelled first) (flat_map spelled one) bytes) ∙ same ∙ append_assoc (spelled second) (flat_map spelled other) others) in
    let rest = same_stretches (other_side from) one other to also bytes others
    (subst (λ (s : Side). Lead s one to) to_one lead.2) (subst (λ (s : Side). Lead s other also) to_two lead'.2) lacks lacks' here.1 in
    record { stretches = ap (λ s. s ∷ one) here.0 ∙ ap (λ ss. second ∷ ss) rest.stretches; to_is = rest.to_is; bytes_are = rest.bytes_are }

-- the longest tail that may begin a token is one
one_tail : (token shown held other also left behind : List ℕ) → IsLongest token (shown ++ held) held → IsLongest token (other ++ also) also
    → token ≡ held ++ left → left ≢ [] → token ≡ also ++ behind → behind ≢ [] → shown ++ held ≡ other ++ also → (shown ≡ other) × (held ≡ also)
one_tail token shown held other also left behind longest longest' front proper front' proper' same =
    let no_more : length also ≤ length held = longest other also behind same front' proper' in
    let no_less : length held ≤ length also = longest' shown held left (sym same) front proper in
    elim (compare shown other held also same) [
      | inl on ↦
          let none : on.0 ≡ [] = no_bytes on.0
          (omega (arith, no_more, no_less, ap length same, ap length on.1, length-append other on.0, length-append shown held, length-append other also)) in
          let equal : shown ≡ other = on.1 ∙ ap (λ more. other ++ more) none ∙ append-nil other in
          (equal, append_cancel_left other held also (ap (λ front. front ++ held) (sym equal) ∙ same))
      | inr on ↦
          let none : on.0 ≡ [] = no_bytes on.0
          (omega (arith, no_more, no_less, ap length same, ap length on.1, length-append shown on.0, length-append shown held, length-append other also)) in
          let equal : shown ≡ other = sym (append-nil shown) ∙ ap (λ more. shown ++ more) (sym none) ∙ sym on.1 in
          (equal, append_cancel_left other held also (ap (λ front. front ++ held) (sym equal) ∙ same))
    ]

-- a stream has one cut: what is decided of it, the side on which it ends, and there what is shown and what is held
pub record SameCut (decided others : List Decided) (side also : Side) (shown other held tail : List ℕ) : Type 0 where
  pub decided_are : decided ≡ others
  pub side_is : side ≡ also
  pub shown_is : shown ≡ other
  pub held_is : held ≡ tail

pub one_cut : (limit : ℕ) (stream : List ℕ) (decided others : List Decided) (side also : Side) (shown other held tail : List ℕ)
    → IsCut limit stream decided side shown held → IsCut limit stream others also other tail → SameCut decided others side also shown other held tail
one_cut limit stream decided others side also shown other held tail one two =
    let same = same_stretches Outside one.stretches two.stretches side also (shown ++ held) (other ++ tail) one.lead two.lead one.lacks two.lacks
    (sym one.cut ∙ two.cut) in
    let tails = one_tail (awaited also) shown held other tail one.left two.left
    (subst (λ (s : Side). IsLongest (awaited s) (shown ++ held) held) same.to_is one.longest) two.longest
    (ap awaited (sym same.to_is) ∙ one.front) one.proper two.front two.proper same.bytes_are in
    record {
      decided_are = one.decided_is
          ∙ ap (λ stretches. flat_map (decided_by limit) stretches ++ decided_open side shown) same.stretches
          ∙ ap (λ s. flat_map (decided_by limit) two.stretches ++ decided_open s shown) same.to_is
          ∙ ap (λ s. flat_map (decided_by limit) two.stretches ++ decided_open also s) tails.0
          ∙ sym two.decided_is;
      side_is = same.to_is;
      shown_is = tails.0;
      held_is = tails.1;
    }

-- and its end decides one thing
pub one_close : (limit : ℕ) (stream : List ℕ) (decided others : List Decided) → IsClosed limit stream decided → IsClosed limit stream others
    → decided ≡ others
one_close limit stream decided others one two =
    let same = one_cut limit stream one.0 two.0 one.1 two.1 one.2 two.2 one.3 two.3 one.4 two.4 in
    one.5 ∙ ap (λ before. before ++ decided_open one.1 one.3) same.decided_are
    ∙ ap (λ s. two.0 ++ decided_open s one.3) same.side_is ∙ ap (λ held. two.0 ++ decided_open two.1 held) same.held_is ∙ sym two.5

kept_same : (limit : ℕ) (side : Side) (shown body other : List ℕ) → IsKept limit side shown body → IsKept limit side shown other → body ≡ other
kept_same limit Outside shown body other is is' = is ∙ sym is'
kept_same limit Inside shown body other is is' = is ∙ sym is'

-- two captures of one stream hold the same
pub one_standing : (limit limit' : ℕ) (side also : Side) (matched matched' : ℕ) (body body' stream : List ℕ) (decided others : List Decided)
    → limit ≡ limit' → Stands limit side matched body stream decided → Stands limit' also matched' body' stream others
    → (decided ≡ others) × (side ≡ also) × (matched ≡ matched') × (body ≡ body')
one_standing limit limit' side also matched matched' body body' stream decided others limits one two =
    let cut : IsCut limit stream others also two.0 (take matched' (awaited also))
    = subst (λ (n : ℕ). IsCut n stream others also two.0 (take matched' (awaited also))) (sym limits) two.1 in
    let same = one_cut limit stream decided others side also one.0 two.0 (take matched (awaited side)) (take matched' (awaited also)) one.1 cut in
    let size = length_take (awaited side) matched (omega (arith, one.2)) in
    let size' = length_take (awaited also) matched' (omega (arith, two.2)) in
    let kept : IsKept limit' also two.0 body
    = subst (λ (n : ℕ). IsKept n also two.0 body) limits
    (subst (λ (bytes : List ℕ). IsKept limit also bytes body) same.shown_is
    (subst (λ (s : Side). IsKept limit s one.0 body) same.side_is one.3)) in
    (same.decided_are, same.side_is, omega (arith, size, size', ap length same.held_is), kept_same limit' also two.0 body body' kept two.3)
