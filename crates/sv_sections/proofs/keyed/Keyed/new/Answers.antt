use Rattle.std.proofs.Common.{ℕ, List, ap, sym, ◌∙◌}
use Rattle.std.specs.List.{position}
use Rattle.std.specs.Str.{bytes_eq}
use Rattle.sv_sections.proofs.keyed.Keyed.new.Goals as goal

pub invariant_of-result : goal.invariant_of-result
invariant_of-result c = λ name.
    c.in_ok-places.ensures name ∙ ap (λ (xs : List (List ℕ × List ℕ)). position (λ (x : List ℕ × List ℕ). bytes_eq x.0 name) xs) (c.as_slice.ensures ∙ sym c.into_vec-keys.ensures)
