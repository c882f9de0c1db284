use Rattle.std.proofs.Common.{◌≡◌, ℕ, List, length, Option, sym, ap, ◌∙◌}
use Rattle.std.specs.List.{position}
use Rattle.std.specs.Option.{unwrap_or}
use Rattle.std.specs.Prelude.{Some, None}
use Rattle.std.specs.Str.{bytes_eq}
use Rattle.sv_ini.specs.Keys.{place_of_key}
use Rattle.sv_sections.proofs.Places.{place_from_position}
use Rattle.sv_sections.proofs.keyed.Keyed.place_of.Goals as goal

pub returns-in-Some : goal.returns-in-Some
returns-in-Some c =
    let items = c.self.inside.keys.items in
    let found : position (λ (k : List ℕ × List ℕ). bytes_eq k.0 c.args.key.now) items ≡ Some c.in-Some.place.now =
    sym (c.self.invariant c.args.key.now) ∙ sym c.in-Some.ensures.value in
    ap (λ (r : Option ℕ). unwrap_or r (length items)) (sym found)
    ∙ place_from_position {X = List ℕ × List ℕ} (λ k. bytes_eq k.0 c.args.key.now) items
    ∙ ap (place_of_key c.args.key.now) c.self.view_is

pub returns-in-None : goal.returns-in-None
returns-in-None c =
    let items = c.self.inside.keys.items in
    let none : position (λ (k : List ℕ × List ℕ). bytes_eq k.0 c.args.key.now) items ≡ None =
    sym (c.self.invariant c.args.key.now) ∙ sym c.in-None.ensures.value in
    ap length c.as_slice.ensures.value
    ∙ ap (λ (r : Option ℕ). unwrap_or r (length items)) (sym none)
    ∙ place_from_position {X = List ℕ × List ℕ} (λ k. bytes_eq k.0 c.args.key.now) items
    ∙ ap (place_of_key c.args.key.now) c.self.view_is
