use Rattle.std.proofs.Common.{◌≡◌, ◌≤◌, List, ℕ, length, sym, ap, ◌∙◌, arith, string_bytes}
use Rattle.std.specs.HashMap.{get_by_text}
use Rattle.std.specs.Prelude.{Some}
use Rattle.std.proofs.lemmas.Map.Text.{hash_map_updates_text}
use Rattle.sv_ini.specs.Sections.{place_of_section}
use Rattle.sv_ini.specs.declared.section.Section.{Section}
use Rattle.sv_ini.proofs.Index.{index_added}
use Rattle.sv_sections.proofs.joined.Joined.add.Goals as goal

pub invariant_of-self-in-Ok : goal.invariant_of-self-in-Ok
invariant_of-self-in-Ok c = λ name.
    let items = c.self.inside.sections.items in
    let key = string_bytes c.in_ok-name.name in
    let is_key : key ≡ c.args.section.name = c.in_ok-name.ensures.ok ∙ c.as_str-3.ensures in
    let is_place : c.place_of-place.result ≡ place_of_section key items =
    c.place_of-place.ensures ∙ ap (place_of_section c.as_str-2.result.now) (sym c.self.view_is)
    ∙ ap (λ (n : List ℕ). place_of_section n items) (c.as_str-2.ensures ∙ sym is_key) in
    let far : length items ≤ c.place_of-place.result = omega (arith, ap length c.as_slice.ensures.value, c.if-place-as_slice.false) in
    rw c.in_ok-push.ensures.items
    (index_added (λ (s : Section). s.name) key c.place_of-place.result (get_by_text c.self.inside.places) (get_by_text c.insert.new.self) items
    c.args.section (sym is_key) c.self.invariant
    (λ q. hash_map_updates_text key c.self.inside.places c.insert.new.self (Some c.place_of-place.result) c.in-Ok.ensures.updates q)
    is_place far name)
