-- What follows a prefix of a text.
use Rattle.std.proofs.Common.{◌≡◌, ◌≢◌, ◌++◌, ◌⊎◌, inl, inr, ℕ, List, [], ◌∷◌, Bool, Option, None, Some, true, false, if◌then◌else◌, eqb, refl, sym, ap, ◌∙◌, option_map, Bor}
use Rattle.std.specs.Option.{MatchOption}
use Rattle.std.specs.Str.Pattern.{FindsTextPrefix, StripsPrefix}
use Rattle.std.proofs.lemmas.Bool.{eq-eqb, eqb-true}
use Rattle.sv_ctl.specs.Ask.ServerUrl.{behind}

pub behind_front : (front rest : List ℕ) → behind front (front ++ rest) ≡ Some rest
behind_front [] rest = refl
behind_front (byte ∷ front) rest = rw (eq-eqb byte byte refl) (behind_front front rest)

-- a text that doesn't begin with the prefix: what is left doesn't, or the first byte differs
lacks_by : (front text : List ℕ) (byte other : ℕ) (same : Bool) → eqb other byte ≡ same
    → ((rest : List ℕ) → other ∷ text ≢ (byte ∷ front) ++ rest) → ((rest : List ℕ) → text ≢ front ++ rest) ⊎ (same ≡ false)
lacks_by front text byte other true is lacks = inl (λ rest e. lacks rest (cc (e, eqb-true other byte is)))
lacks_by front text byte other false is lacks = inr refl

lacking : (same : Bool) (rest : Option (List ℕ)) → rest ≡ None → (if same then rest else None) ≡ None
lacking true rest none = none
lacking false rest none = refl

pub behind_none : (front text : List ℕ) → ((rest : List ℕ) → text ≢ front ++ rest) → behind front text ≡ None
behind_none [] text lacks = absurd (lacks text refl)
behind_none (byte ∷ front) [] lacks = refl
behind_none (byte ∷ front) (other ∷ text) lacks =
    elim (lacks_by front text byte other (eqb other byte) refl lacks) [
      | inl further ↦ lacking (eqb other byte) (behind front text) (behind_none front text further)
      | inr differs ↦ rw differs refl
    ]

-- what was found after a prefix
pub found_behind : (front text rest : List ℕ) → text ≡ front ++ rest → behind front text ≡ Some rest
found_behind front text rest is = rw is (behind_front front rest)

-- what std's search for a prefix gives
pub stripped : (front text : List ℕ) (result : Option (Bor (List ℕ)))
    → MatchOption result (FindsTextPrefix front text None) (λ x. StripsPrefix (FindsTextPrefix front) text x.now)
    → option_map (λ rest. rest.now) result ≡ behind front text
stripped front text None lacks = sym (behind_none front text lacks)
stripped front text (Some rest) found =
    sym (found_behind front text rest.now (found.1.1 ∙ ap (λ r. front ++ r) (sym found.2)))
