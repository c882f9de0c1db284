-- Calls in hand that are done with, and those that aren't.
use Rattle.std.proofs.Common.{◌≡◌, ℕ, ◌==◌, Bool, true, false, None, if◌then◌else◌, refl, sym, subst}
use Rattle.std.proofs.lemmas.Bool.{eqb-true}
use Rattle.sv_base.specs.declared.ids.LinkId.{LinkId}
use Rattle.sv_calls.specs.CallBook.{CallBook, call_at, ended, ends, is_over}

-- a call that isn't over stays in hand
pub others_stay : (link : LinkId) (book : CallBook) (number : ℕ) → is_over (call_at link book) ≡ false → ended link book number ≡ book number
others_stay link book number is = by (number == link.0) refl
  where
    by : (b : Bool) → (number == link.0) ≡ b → (if b then ends (book number) else book number) ≡ book number
    by true e = rw (subst (λ (m : ℕ). is_over (book m) ≡ false) (sym (eqb-true number link.0 e)) is) refl
    by false e = refl

-- one that is over is done with
pub over_ended : (link : LinkId) (book : CallBook) (number : ℕ) → is_over (call_at link book) ≡ true
    → ended link book number ≡ (if number == link.0 then None else book number)
over_ended link book number is = by (number == link.0) refl
  where
    by : (b : Bool) → (number == link.0) ≡ b → (if b then ends (book number) else book number) ≡ (if b then None else book number)
    by true e = rw (subst (λ (m : ℕ). is_over (book m) ≡ true) (sym (eqb-true number link.0 e)) is) refl
    by false e = refl
