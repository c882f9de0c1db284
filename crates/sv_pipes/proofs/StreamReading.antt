-- The function of a whole captured stream gives its cut.
use Rattle.std.proofs.Common.{◌≡◌, ◌≢◌, ◌<◌, ◌≤◌, ◌==◌, ◌⊎◌, inl, inr, ℕ, zero, suc, List, [], ◌∷◌, ◌++◌, length, take, Bool, true, false, Option, None, Some, refl, ap, sym, ◌∙◌, subst, arith, append_assoc, length-append}
use Rattle.std.specs.Prelude.{if◌then◌else◌}
use Rattle.std.specs.List.{flat_map}
use Rattle.sv_pipes.proofs.Fronts.{cond_by, eq_true, eq_false, no_bytes}
use Rattle.sv_pipes.proofs.OneStream.{one_cut, one_close}
use Rattle.sv_pipes.specs.CaptureCut.{Decided, Stretch, IsCut, IsClosed, IsFirst, IsLongest, Lacks, Lead, Leads, awaited, spelled, decided_by, decided_open}
use Rattle.sv_pipes.specs.CapturePlaces.{Stands}
use Rattle.sv_pipes.specs.StreamCut.{Cut, rest_after, split_here, split_at, held_here, open_at, stretch_on, side_after, cut_by, cut_at, cut_of, decided_of, closed_of}
use Rattle.sv_pipes.specs.declared.parts.Side.{Side}
use Rattle.sv_pipes.specs.declared.parts.Side.TheVariants.{Outside, Inside}

-- a text at the beginning, and what follows it

pub rest_is : (text bytes rest : List ℕ) → rest_after text bytes ≡ Some rest → bytes ≡ text ++ rest
rest_is [] bytes rest is = let same : bytes ≡ rest = cc in same
rest_is (a ∷ text) [] rest is = absurd (cc)
rest_is (a ∷ text) (b ∷ bytes) rest is = by_test (b == a) refl (λ rests. rest_is text bytes rest rests) is
  where
    by_test : (test : Bool) → (b == a) ≡ test → (rest_after text bytes ≡ Some rest → bytes ≡ text ++ rest)
        → (if test then rest_after text bytes else None) ≡ Some rest → b ∷ bytes ≡ a ∷ text ++ rest
    by_test true test later is =
        let same : b ≡ a = eq_true b a test in
        let rests : bytes ≡ text ++ rest = later is in
        cc (same, rests)
    by_test false test later is = absurd (cc)

rest_found : (text rest : List ℕ) → rest_after text (text ++ rest) ≡ Some rest
rest_found [] rest = refl
rest_found (a ∷ text) rest =
    cond_by (λ (r : Option (List ℕ)). r ≡ Some rest) (a == a) (rest_after text (text ++ rest)) None (λ _. rest_found text rest)
    (λ other. absurd (eq_false a a other refl))

not_there : (text bytes rest : List ℕ) → rest_after text bytes ≡ None → bytes ≡ text ++ rest → ⊥
not_there text bytes rest none same =
    let found : rest_after text bytes ≡ Some rest = ap (λ b. rest_after text b) same ∙ rest_found text rest in
    let wrong : None ≡ Some rest = sym none ∙ found in
    cc

-- the first token, where there is one

-- no token stands before the end of these bytes, at the front of a stream
abbrev IsBefore : List ℕ → List ℕ → List ℕ → Type 0
IsBefore token bytes stream = (front back : List ℕ) → stream ≡ front ++ token ++ back → length bytes ≤ length front

record Splits (token stream bytes rest : List ℕ) : Type 0 where
  parts : stream ≡ (bytes ++ token) ++ rest
  first : IsBefore token bytes stream

none_here : (token : List ℕ) (byte : ℕ) (bytes front back : List ℕ) → rest_after token (byte ∷ bytes) ≡ None
    → byte ∷ bytes ≡ front ++ token ++ back → (after : List ℕ) × (front ≡ byte ∷ after) × (bytes ≡ after ++ token ++ back)
none_here token byte bytes [] back none same = absurd (not_there token (byte ∷ bytes) back none same)
none_here token byte bytes (f ∷ front) back none same = (front, cc, cc)

same_value : {A : Type 0} {one other : A} → Some one ≡ Some other → one ≡ other
same_value is = cc

same_parts : (bytes others rest more : List ℕ) → ◌≡◌ {A = Option (List ℕ × List ℕ)} (Some (bytes, rest)) (Some (others, more)) → (bytes ≡ others) × (rest ≡ more)
same_parts bytes others rest more is =
    let pair : List ℕ × List ℕ = (bytes, rest) in
    let also : List ℕ × List ℕ = (others, more) in
    let same : pair ≡ also = same_value is in
    (ap (λ (p : List ℕ × List ℕ). p.0) same, ap (λ (p : List ℕ × List ℕ). p.1) same)

splits : (token stream bytes rest : List ℕ) → split_at token stream ≡ Some (bytes, rest) → Splits token stream bytes rest
splits token [] bytes rest is = absurd (cc)
splits token (byte ∷ stream) bytes rest is =
    by_rest (rest_after token (byte ∷ stream)) (split_at token stream) refl refl (λ front back found. splits token stream front back found) is
  where
    by_rest : (here : Option (List ℕ)) (later : Option (List ℕ × List ℕ)) → rest_after token (byte ∷ stream) ≡ here → split_at token stream ≡ later
        → ((front back : List ℕ) → split_at token stream ≡ Some (front, back) → Splits token stream front back)
        → split_here byte here later ≡ Some (bytes, rest) → Splits token (byte ∷ stream) bytes rest
    by_rest (Some left) later here is_later again is =
        let pair = same_parts [] bytes left rest is in
        let none : [] ≡ bytes = pair.0 in
        let same : left ≡ rest = pair.1 in
        record {
          parts = rest_is token (byte ∷ stream) left here ∙ ap (λ b. (b ++ token) ++ left) none ∙ ap (λ r. (bytes ++ token) ++ r) same;
          first = λ front back _. omega (arith, ap length none);
        }
    by_rest None None here is_later again is = absurd (cc)
    by_rest None (Some parts) here is_later again is =
        let pair = same_parts (byte ∷ parts.0) bytes parts.1 rest is in
        let bytes_are : byte ∷ parts.0 ≡ bytes = pair.0 in
        let same : parts.1 ≡ rest = pair.1 in
        let later : Splits token stream parts.0 parts.1 = again parts.0 parts.1 is_later in
        record {
          parts = ap (λ b. byte ∷ b) later.parts ∙ ap (λ b. (b ++ token) ++ parts.1) bytes_are ∙ ap (λ r. (bytes ++ token) ++ r) same;
          first = λ front back found.
              let on = none_here token byte stream front back here found in
              omega (arith, later.first on.0 back on.2, ap length bytes_are, ap length on.1);
        }

-- so the token ends there for the first time
first_of : (token stream bytes rest : List ℕ) → Splits token stream bytes rest → IsFirst token bytes
first_of token stream bytes rest splits = λ front back same.
    let found : stream ≡ front ++ token ++ (back ++ rest)
    = splits.parts ∙ ap (λ b. b ++ rest) same ∙ append_assoc (front ++ token) back rest in
    let far = splits.first front (back ++ rest) found in
    no_bytes back (omega (arith, far, ap length same, length-append bytes token, length-append (front ++ token) back, length-append front token))

lacks : (token stream : List ℕ) → 0 < length token → split_at token stream ≡ None → Lacks token stream
lacks token [] some none = λ front back same.
    omega (arith, some, ap length same, length-append (front ++ token) back, length-append front token)
lacks token (byte ∷ stream) some none =
    by_rest (rest_after token (byte ∷ stream)) (split_at token stream) refl refl (λ is. lacks token stream some is) none
  where
    by_rest : (here : Option (List ℕ)) (later : Option (List ℕ × List ℕ)) → rest_after token (byte ∷ stream) ≡ here → split_at token stream ≡ later
        → (split_at token stream ≡ None → Lacks token stream) → split_here byte here later ≡ None → Lacks token (byte ∷ stream)
    by_rest (Some left) later here is_later again is = absurd (cc)
    by_rest None (Some parts) here is_later again is = absurd (cc)
    by_rest None None here is_later again is = λ front back same.
        let on = none_here token byte stream front back here same in
        again is_later on.0 back on.2

-- the longest tail that begins a token

record Opens (token bytes shown held : List ℕ) : Type 0 where
  parts : bytes ≡ shown ++ held
  left : List ℕ
  front : token ≡ held ++ left
  proper : left ≢ []
  longest : IsLongest token bytes held

-- a tail of a longer list is the whole of it, or a tail of the rest
tail_on : (byte : ℕ) (bytes front tail : List ℕ) → byte ∷ bytes ≡ front ++ tail → (byte ∷ bytes ≡ tail) ⊎ ((more : List ℕ) × (bytes ≡ more ++ tail))
tail_on byte bytes [] tail same = inl same
tail_on byte bytes (f ∷ front) tail same = inr (front, cc)

later_opens : (token : List ℕ) (byte : ℕ) (bytes shown held : List ℕ) → Opens token bytes shown held
    → ((rest : List ℕ) → token ≡ (byte ∷ bytes) ++ rest → rest ≢ [] → ⊥) → Opens token (byte ∷ bytes) (byte ∷ shown) held
later_opens token byte bytes shown held opens not_whole = record {
  parts = ap (λ b. byte ∷ b) opens.parts;
  left = opens.left;
  front = opens.front;
  proper = opens.proper;
  longest = λ front tail rest same is proper. elim (tail_on byte bytes front tail same) [
    | inl whole ↦ absurd (not_whole rest (is ∙ ap (λ t. t ++ rest) (sym whole)) proper)
    | inr more ↦ opens.longest more.0 tail rest more.1 is proper
  ];
}

opens : (token bytes : List ℕ) → 0 < length token → Opens token bytes (open_at token bytes).0 (open_at token bytes).1
opens token [] some = record {
  parts = refl;
  left = token;
  front = refl;
  proper = λ none. omega (arith, some, ap length none);
  longest = λ front tail rest same is proper. omega (arith, ap length same, length-append front tail);
}
opens token (byte ∷ bytes) some = by_rest (rest_after (byte ∷ bytes) token) refl (opens token bytes some)
  where
    by_rest : (left : Option (List ℕ)) → rest_after (byte ∷ bytes) token ≡ left → Opens token bytes (open_at token bytes).0 (open_at token bytes).1
        → Opens token (byte ∷ bytes) (held_here byte bytes left (open_at token bytes)).0 (held_here byte bytes left (open_at token bytes)).1
    by_rest None is later = later_opens token byte bytes (open_at token bytes).0 (open_at token bytes).1 later
        (λ rest same proper. not_there (byte ∷ bytes) token rest is same)
    by_rest (Some []) is later = later_opens token byte bytes (open_at token bytes).0 (open_at token bytes).1 later
        (λ rest same proper.
        let whole : token ≡ (byte ∷ bytes) ++ [] = rest_is (byte ∷ bytes) token [] is in
        proper (no_bytes rest (omega (arith, ap length same, ap length whole, length-append (byte ∷ bytes) rest, length-append (byte ∷ bytes) []))))
    by_rest (Some (next ∷ left)) is later = record {
      parts = refl;
      left = next ∷ left;
      front = rest_is (byte ∷ bytes) token (next ∷ left) is;
      proper = λ none. cc;
      longest = λ front tail rest same is proper. omega (arith, ap length same, length-append front tail);
    }

-- from a side on

record CutFrom (from : Side) (limit : ℕ) (stream : List ℕ) (decided : List Decided) (side : Side) (shown held : List ℕ) : Type 0 where
  stretches : List Stretch
  cut : stream ≡ flat_map spelled stretches ++ (shown ++ held)
  lead : Lead from stretches side
  lacks : Lacks (awaited side) (shown ++ held)
  left : List ℕ
  front : awaited side ≡ held ++ left
  proper : left ≢ []
  longest : IsLongest (awaited side) (shown ++ held) held
  decided_is : decided ≡ flat_map (decided_by limit) stretches ++ decided_open side shown

awaited_some : (side : Side) → 0 < length (awaited side)
awaited_some Outside = omega arith
awaited_some Inside = omega arith

ends_open : (side : Side) (limit : ℕ) (stream : List ℕ) → split_at (awaited side) stream ≡ None
    → CutFrom side limit stream (decided_open side (open_at (awaited side) stream).0) side (open_at (awaited side) stream).0 (open_at (awaited side) stream).1
ends_open side limit stream none =
    let open_part = opens (awaited side) stream (awaited_some side) in
    record {
      stretches = [];
      cut = open_part.parts;
      lead = refl;
      lacks = subst (λ (b : List ℕ). Lacks (awaited side) b) open_part.parts (lacks (awaited side) stream (awaited_some side) none);
      left = open_part.left;
      front = open_part.front;
      proper = open_part.proper;
      longest = subst (λ (b : List ℕ). IsLongest (awaited side) b (open_at (awaited side) stream).1) open_part.parts open_part.longest;
      decided_is = refl;
    }

leads_after : (side : Side) (bytes : List ℕ) → IsFirst (awaited side) bytes → Leads side (stretch_on side bytes) (side_after side)
leads_after Outside bytes first = first
leads_after Inside bytes first = first

spelled_on : (side : Side) (bytes : List ℕ) → spelled (stretch_on side bytes) ≡ bytes ++ awaited side
spelled_on Outside bytes = refl
spelled_on Inside bytes = refl

stretch_first : (side : Side) (limit : ℕ) (stream bytes rest : List ℕ) (cut : Cut) → Splits (awaited side) stream bytes rest
    → CutFrom (side_after side) limit rest cut.decided cut.side cut.shown cut.held
    → CutFrom side limit stream (decided_by limit (stretch_on side bytes) ++ cut.decided) cut.side cut.shown cut.held
stretch_first side limit stream bytes rest cut splits further = record {
  stretches = stretch_on side bytes ∷ further.stretches;
  cut = splits.parts ∙ ap (λ front. front ++ rest) (sym (spelled_on side bytes)) ∙ ap (λ back. spelled (stretch_on side bytes) ++ back) further.cut
      ∙ sym (append_assoc (spelled (stretch_on side bytes)) (flat_map spelled further.stretches) (cut.shown ++ cut.held));
  lead = (side_after side, leads_after side bytes (first_of (awaited side) stream bytes rest splits), further.lead);
  lacks = further.lacks;
  left = further.left;
  front = further.front;
  proper = further.proper;
  longest = further.longest;
  decided_is = ap (λ back. decided_by limit (stretch_on side bytes) ++ back) further.decided_is
      ∙ sym (append_assoc (decided_by limit (stretch_on side bytes)) (flat_map (decided_by limit) further.stretches) (decided_open cut.side cut.shown));
}

abbrev IsCutFrom : Side → ℕ → List ℕ → Cut → Type 0
IsCutFrom from limit stream cut = CutFrom from limit stream cut.decided cut.side cut.shown cut.held

nothing_left : (token : List ℕ) → split_at token [] ≡ None
nothing_left token = refl

cuts : (most limit : ℕ) (side : Side) (stream : List ℕ) → length stream ≤ most → IsCutFrom side limit stream (cut_at most limit side stream)
cuts zero limit side [] small = ends_open side limit [] refl
cuts zero limit side (byte ∷ stream) small = absurd (omega (arith, small))
cuts (suc most) limit side stream small =
    by_split (split_at (awaited side) stream) refl (λ rest fits. cuts most limit (side_after side) rest fits)
  where
    by_split : (split : Option (List ℕ × List ℕ)) → split_at (awaited side) stream ≡ split
        → ((rest : List ℕ) → length rest ≤ most → IsCutFrom (side_after side) limit rest (cut_at most limit (side_after side) rest))
        → IsCutFrom side limit stream (cut_by (cut_at most limit (side_after side)) limit side stream split)
    by_split None is again = ends_open side limit stream is
    by_split (Some parts) is again =
        let here : Splits (awaited side) stream parts.0 parts.1 = splits (awaited side) stream parts.0 parts.1 is in
        let shorter : length parts.1 ≤ most
        = omega (arith, small, ap length here.parts, length-append (parts.0 ++ awaited side) parts.1, length-append parts.0 (awaited side), awaited_some side) in
        stretch_first side limit stream parts.0 parts.1 (cut_at most limit (side_after side) parts.1) here
        (again parts.1 shorter)

from_outside : (limit : ℕ) (stream : List ℕ) (cut : Cut) → IsCutFrom Outside limit stream cut → IsCut limit stream cut.decided cut.side cut.shown cut.held
from_outside limit stream cut whole = record {
  stretches = whole.stretches;
  cut = whole.cut;
  lead = whole.lead;
  lacks = whole.lacks;
  left = whole.left;
  front = whole.front;
  proper = whole.proper;
  longest = whole.longest;
  decided_is = whole.decided_is;
}

pub stream_cut : (limit : ℕ) (stream : List ℕ)
    → IsCut limit stream (cut_of limit stream).decided (cut_of limit stream).side (cut_of limit stream).shown (cut_of limit stream).held
unfolding cut_of
stream_cut limit stream = from_outside limit stream (cut_at (length stream) limit Outside stream)
    (cuts (length stream) limit Outside stream (omega arith))

pub stream_end : (limit : ℕ) (stream : List ℕ) → IsClosed limit stream (closed_of limit stream)
stream_end limit stream =
    let cut = cut_of limit stream in (cut.decided, cut.side, cut.shown, cut.held, stream_cut limit stream, refl)

pub decided_is : (limit : ℕ) (stream : List ℕ) (decided : List Decided) (side : Side) (shown held : List ℕ) → IsCut limit stream decided side shown held
    → decided ≡ decided_of limit stream
decided_is limit stream decided side shown held cut =
    let whole = cut_of limit stream in
    (one_cut limit stream decided whole.decided side whole.side shown whole.shown held whole.held cut (stream_cut limit stream)).decided_are

pub end_is : (limit : ℕ) (stream : List ℕ) (decided : List Decided) → IsClosed limit stream decided → decided ≡ closed_of limit stream
end_is limit stream decided closed = one_close limit stream decided (closed_of limit stream) closed (stream_end limit stream)

pub stands_decided : (limit : ℕ) (side : Side) (matched : ℕ) (body stream : List ℕ) (decided : List Decided)
    → Stands limit side matched body stream decided → decided ≡ decided_of limit stream
stands_decided limit side matched body stream decided stands =
    decided_is limit stream decided side stands.0 (take matched (awaited side)) stands.1
