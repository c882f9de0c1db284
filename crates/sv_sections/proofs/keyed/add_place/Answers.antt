use Rattle.std.proofs.Common.{◌≡◌, ◌∙◌, List, ℕ, ap, sym, cond, string_bytes}
use Rattle.std.proofs.lemmas.Map.Text.{hash_map_updates_text}
use Rattle.std.specs.HashMap.{get_by_text}
use Rattle.std.specs.Prelude.{Some}
use Rattle.std.specs.Str.{bytes_eq}
use Rattle.sv_sections.proofs.Lookups.{place_given}
use Rattle.sv_sections.proofs.keyed.add_place.Goals as goal

pub returns-in_ok-insert-in-None : goal.returns-in_ok-insert-in-None
returns-in_ok-insert-in-None c =
    place_given (get_by_text c.args.places.now) (get_by_text c.insert.new.self) c.args.name.now c.args.place (sym c.in-None.ensures.value)
    (λ other. hash_map_updates_text (string_bytes c.in_ok-from_str-in-None.field-0) c.args.places.now c.insert.new.self (Some c.args.place) c.in_ok-insert-in-None.ensures.updates other
    ∙ ap (λ (n : List ℕ). cond (bytes_eq n other) (Some c.args.place) (get_by_text c.args.places.now other)) c.in_ok-from_str-in-None.ensures.ok)
