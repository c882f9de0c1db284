use Rattle.std.proofs.Common.{ℕ, length, Option, ap, ◌∙◌}
use Rattle.std.specs.Option.{unwrap_or}
use Rattle.std.specs.Str.{bytes_eq}
use Rattle.sv_moving.specs.declared.sections.Section.{Section}
use Rattle.sv_moving.proofs.Places.{place_from_position}
use Rattle.sv_moving.proofs.sections.place_of_section.Goals as goal

pub returns-in-Some : goal.returns-in-Some
returns-in-Some c =
    ap (λ (r : Option ℕ). unwrap_or r (length c.args.sections.now)) c.in-Some.ensures
    ∙ place_from_position (λ (s : Section). bytes_eq s.name c.args.name.now) c.args.sections.now

pub returns-in-None : goal.returns-in-None
returns-in-None c =
    ap (λ (r : Option ℕ). unwrap_or r (length c.args.sections.now)) c.in-None.ensures
    ∙ place_from_position (λ (s : Section). bytes_eq s.name c.args.name.now) c.args.sections.now
