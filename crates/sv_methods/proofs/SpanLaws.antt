-- A read that is refused asks for no part.
use Rattle.std.proofs.Common.{◌≡◌, ◌≢◌, ℕ, zero, suc, ℤ, pos, negsuc, ◌<ℤ◌, ◌⊎◌, inl, inr, refl, arith}
use Rattle.std.specs.Prelude.{Option, None}
use Rattle.std.proofs.lemmas.Int.{ints}
use Rattle.sv_logs.specs.Spans.{read_part}
use Rattle.sv_logs.specs.declared.spans.Span.{Span}

pub no_part : (size : ℕ) (offset length : ℤ) → ((length <ℤ pos 0) ⊎ ((offset <ℤ pos 0) × (length ≢ pos 0))) → read_part size offset length ≡ None
no_part size (pos offset) (pos zero) (inl h) = absurd (omega (arith, ints, h))
no_part size (pos offset) (pos zero) (inr h) = absurd (omega (arith, ints, h.0))
no_part size (pos offset) (pos (suc n)) (inl h) = absurd (omega (arith, ints, h))
no_part size (pos offset) (pos (suc n)) (inr h) = absurd (omega (arith, ints, h.0))
no_part size (pos offset) (negsuc n) h = refl
no_part size (negsuc before) (pos zero) (inl h) = absurd (omega (arith, ints, h))
no_part size (negsuc before) (pos zero) (inr h) = absurd (h.1 refl)
no_part size (negsuc before) (pos (suc n)) h = refl
no_part size (negsuc before) (negsuc n) h = refl
