use Rattle.std.proofs.Common.{◌≡◌, ◌<◌, ◌≤◌, [], List, ℕ, length, get_or, sym, ap, ◌∙◌, arith, string_bytes}
use Rattle.std.specs.HashMap.{get_by_text}
use Rattle.std.specs.Prelude.{Some}
use Rattle.std.proofs.lemmas.Map.Text.{hash_map_updates_text}
use Rattle.sv_ini.specs.Keys.{place_of_key}
use Rattle.sv_ini.proofs.Index.{index_added, index_kept, found_name}
use Rattle.sv_sections.proofs.keyed.Keyed.set.Goals as goal

pub invariant_of-self : goal.invariant_of-self
invariant_of-self c = λ q.
    let items = c.self.inside.keys.items in
    let is_place : c.place_of-place.result ≡ place_of_key c.args.key items =
    c.place_of-place.ensures ∙ ap (place_of_key c.as_str.result.now) (sym c.self.view_is)
    ∙ ap (λ (n : List ℕ). place_of_key n items) c.as_str.ensures in
    let inside : place_of_key c.args.key items < length items =
    omega (arith, is_place, ap length c.as_slice.ensures.value, c.if-place-as_slice.true) in
    let found = found_name (λ (k : List ℕ × List ℕ). k.0) c.args.key items ([], []) inside in
    let same : c.args.key ≡ (get_or items c.place_of-place.result ([], [])).0 =
    sym found ∙ ap (λ (i : ℕ). (get_or items i ([], [])).0) (sym is_place) in
    c.self.invariant q
    ∙ sym (index_kept (λ (k : List ℕ × List ℕ). k.0) items c.place_of-place.result (c.args.key, c.args.value) ([], []) same q)

pub invariant_of-self-in-Ok : goal.invariant_of-self-in-Ok
invariant_of-self-in-Ok c = λ q.
    let items = c.self.inside.keys.items in
    let name = string_bytes c.in_ok-name.name in
    let is_key : name ≡ c.args.key = c.in_ok-name.ensures.ok ∙ c.as_str-2.ensures in
    let is_place : c.place_of-place.result ≡ place_of_key name items =
    c.place_of-place.ensures ∙ ap (place_of_key c.as_str.result.now) (sym c.self.view_is)
    ∙ ap (λ (n : List ℕ). place_of_key n items) (c.as_str.ensures ∙ sym is_key) in
    let far : length items ≤ c.place_of-place.result = omega (arith, ap length c.as_slice.ensures.value, c.if-place-as_slice.false) in
    rw c.in_ok-push.ensures.items
    (index_added (λ (k : List ℕ × List ℕ). k.0) name c.place_of-place.result (get_by_text c.self.inside.places)
    (get_by_text c.insert.new.self) items (c.args.key, c.args.value) (sym is_key) c.self.invariant
    (λ p. hash_map_updates_text name c.self.inside.places c.insert.new.self (Some c.place_of-place.result) c.in-Ok.ensures.updates p)
    is_place far q)
