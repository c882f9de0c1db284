use Rattle.std.proofs.Common.{◌≡◌, ℕ, length, Option, sym, ap, ◌∙◌}
use Rattle.std.specs.List.{position}
use Rattle.std.specs.Option.{unwrap_or}
use Rattle.std.specs.Prelude.{Some, None}
use Rattle.std.specs.Str.{bytes_eq}
use Rattle.sv_ini.specs.Sections.{place_of_section}
use Rattle.sv_ini.specs.declared.section.Section.{Section}
use Rattle.sv_sections.proofs.Places.{place_from_position}
use Rattle.sv_sections.proofs.joined.Joined.place_of.Goals as goal

pub returns-in-Some : goal.returns-in-Some
returns-in-Some c =
    let items = c.self.inside.sections.items in
    let found : position (λ (s : Section). bytes_eq s.name c.args.name.now) items ≡ Some c.in-Some.place.now =
    sym (c.self.invariant c.args.name.now) ∙ sym c.in-Some.ensures.value in
    ap (λ (r : Option ℕ). unwrap_or r (length items)) (sym found)
    ∙ place_from_position (λ (s : Section). bytes_eq s.name c.args.name.now) items
    ∙ ap (place_of_section c.args.name.now) c.self.view_is

pub returns-in-None : goal.returns-in-None
returns-in-None c =
    let items = c.self.inside.sections.items in
    let none : position (λ (s : Section). bytes_eq s.name c.args.name.now) items ≡ None =
    sym (c.self.invariant c.args.name.now) ∙ sym c.in-None.ensures.value in
    ap length c.as_slice.ensures.value
    ∙ ap (λ (r : Option ℕ). unwrap_or r (length items)) (sym none)
    ∙ place_from_position (λ (s : Section). bytes_eq s.name c.args.name.now) items
    ∙ ap (place_of_section c.args.name.now) c.self.view_is
