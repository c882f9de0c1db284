use Rattle.std.proofs.Common.{ℕ, List, ap, sym, ◌∙◌}
use Rattle.std.specs.List.{position}
use Rattle.std.specs.Str.{bytes_eq}
use Rattle.sv_ini.specs.declared.section.Section.{Section}
use Rattle.sv_sections.proofs.joined.Joined.new.Goals as goal

pub invariant_of-result : goal.invariant_of-result
invariant_of-result c = λ name.
    c.in_ok-places.ensures name ∙ ap (λ (xs : List (Section)). position (λ (x : Section). bytes_eq x.name name) xs) (c.as_slice.ensures ∙ sym c.into_vec-sections.ensures)
