-- The bytes of a result, taken all at once.
use Rattle.std.proofs.Common.{◌≡◌, ◌≤◌, ◌<◌, ◌+◌, ℕ, List, [], ◌∷◌, ◌++◌, length, refl, ap, sym, ◌∙◌, nat_lt, arith, append_assoc, length-append}
use Rattle.std.proofs.lemmas.Bool.Decides.{nat_tests}
use Rattle.sv_pipes.proofs.Fronts.{cond_by}
use Rattle.sv_pipes.specs.TalkPlaces.{Told, after_body, goes, step, steps}
use Rattle.sv_pipes.specs.declared.talk.TalkProgress.{TalkProgress}
use Rattle.sv_pipes.specs.declared.talk.TalkProgress.TheVariants as place
use Rattle.sv_pipes.specs.declared.tokens.Token.{Token}
use Rattle.sv_pipes.specs.declared.tokens.Token.TheVariants as token

steps_append : (bytes more : List ℕ) (told : Told) → steps told (bytes ++ more) ≡ steps (steps told bytes) more
steps_append [] more told = refl
steps_append (byte ∷ bytes) more told = steps_append bytes more (step told.place byte told.held told.tokens)

-- a result that isn't whole yet
goes_on : (count number : ℕ) (held : List ℕ) (tokens : List Token) → length held < number
    → after_body count number held tokens ≡ goes (place.Body count number) held tokens
goes_on count number held tokens within =
    cond_by (λ (told : Told). told ≡ goes (place.Body count number) held tokens) (nat_lt (length held) number)
    (goes (place.Body count number) held tokens) (goes (place.Greeting 0) [] (tokens ++ token.Result held ∷ []))
    (λ more. refl) (λ last. absurd (grind (arith, nat_tests)))

body_at_once : (bytes : List ℕ) (count number byte : ℕ) (held : List ℕ) (tokens : List Token) → length held + length (byte ∷ bytes) ≤ number
    → steps (goes (place.Body count number) held tokens) (byte ∷ bytes) ≡ after_body count number (held ++ byte ∷ bytes) tokens
body_at_once [] count number byte held tokens within = refl
body_at_once (next ∷ bytes) count number byte held tokens within =
    let longer : length (held ++ byte ∷ []) ≡ length held + 1 = length-append held (byte ∷ []) in
    ap (λ (told : Told). steps told (next ∷ bytes)) (goes_on count number (held ++ byte ∷ []) tokens (omega (arith, longer, within)))
    ∙ body_at_once bytes count number next (held ++ byte ∷ []) tokens (omega (arith, longer, within))
    ∙ ap (λ all. after_body count number all tokens) (append_assoc held (byte ∷ []) (next ∷ bytes))

-- so of a place in a talk, and what comes after them
pub body_goes : (count number : ℕ) (held front back rest : List ℕ) (tokens : List Token) (at : TalkProgress) (after : Told)
    → at ≡ place.Body count number → 0 < length front → length held + length front ≤ number → rest ≡ front ++ back
    → after ≡ after_body count number (held ++ front) tokens → steps after back ≡ steps (goes at held tokens) rest
body_goes count number held [] back rest tokens at after is some within split made = absurd (omega (arith, some))
body_goes count number held (byte ∷ bytes) back rest tokens at after is some within split made =
    ap (λ (told : Told). steps told back) (made ∙ sym (body_at_once bytes count number byte held tokens within))
    ∙ sym (steps_append (byte ∷ bytes) back (goes (place.Body count number) held tokens))
    ∙ ap (λ (from : TalkProgress). steps (goes from held tokens) ((byte ∷ bytes) ++ back)) (sym is)
    ∙ ap (λ all. steps (goes at held tokens) all) (sym split)
