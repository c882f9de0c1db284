use Rattle.std.proofs.Common.{◌≡◌, ◌∙◌, ◌-◌, ◌+◌, ℕ, List, cond, ap, sym, subst, arith, drop, take, length}
use Rattle.std.specs.HashMap.{get_by_text}
use Rattle.std.specs.List.{position}
use Rattle.std.specs.Prelude.{Some}
use Rattle.std.specs.Str.{bytes_eq}
use Rattle.sv_sections.proofs.Folds.{taken_more, dropped_more, parted, count_more, taken_count}
use Rattle.sv_sections.proofs.Lookups.{one_more}
use Rattle.sv_sections.specs.Lookups.{or_place}
use Rattle.sv_sections.proofs.keyed.places_of.Goals as goal

pub loop-left-preserved : goal.loop-left-preserved
loop-left-preserved c =
    let left = c.loop-left.left.now in
    let there = sym (parted left c.key-item.result c.in-len1-up.len_at_least c.key-item.is) ∙ c.loop-left.invariant.rest in
    record {
      has = λ q. subst (λ (xs : List (List ℕ × List ℕ)). get_by_text c.add_place.new.places q ≡ position (λ (x : List ℕ × List ℕ). bytes_eq x.0 q) xs)
          (sym (taken_more c.args.keys.now c.loop-left.place c.key-item.result _ there))
          (one_more (λ (key : List ℕ × List ℕ). key.0) (take c.loop-left.place c.args.keys.now) c.key-item.result c.loop-left.place (get_by_text c.loop-left.places) (get_by_text c.add_place.new.places)
          (taken_count c.args.keys.now left c.loop-left.place c.loop-left.invariant.few) c.loop-left.invariant.has
          (λ other. c.in_ok-add_place.ensures other
          ∙ ap (λ (n : List ℕ). cond (bytes_eq n other) (Some (or_place (get_by_text c.loop-left.places n) c.loop-left.place)) (get_by_text c.loop-left.places other)) c.as_str.ensures) q);
      rest = dropped_more c.args.keys.now c.loop-left.place c.key-item.result _ there;
      few = count_more c.args.keys.now left c.loop-left.place c.in-len1-up.len_at_least c.loop-left.invariant.few;
    }
