-- One part more.
use Rattle.std.proofs.Common.{◌≡◌, ℕ, suc, ◌+◌, ◌<◌, List, [], ◌∷◌, ◌++◌, refl, ap, sym, ◌∙◌, append_assoc, add-one, drop, drop-cons, get_or, length}
use Rattle.std.proofs.lemmas.List.{map-append}
use Rattle.sv_multi.specs.MultiCall.{part_in, parts_in, with_part}
use Rattle.sv_multi.specs.Views.{PartTree, part_view, parts_view}
use Rattle.sv_multi.specs.declared.part.Part.{Part}
use Rattle.sv_xmlcall.specs.Trees.{trees_view, view}
use Rattle.sv_xmlcall.specs.declared.value.Value.{Value}
use Rattle.std.specs.Prelude.{Option, Some, None}
use Rattle.std.specs.Option.{option_map}

-- the parts so far, then one more, then the rest
parts_more : {A : Type 0} (done : List A) (part : A) (rest : Option (List A))
    → option_map (λ more. done ++ more) (option_map (λ more. part ∷ more) rest) ≡ option_map (λ more. (done ++ part ∷ []) ++ more) rest
parts_more done part None = refl
parts_more done part (Some rest) = ap Some (sym (append_assoc done (part ∷ []) rest))

-- the same, of parts that were pushed
pub parts_pushed : (all rest : Option (List PartTree)) (before after : List Part) (part : Part) (p : PartTree)
    → all ≡ option_map (λ more. parts_view before ++ more) (option_map (λ more. p ∷ more) rest)
    → part_view part ≡ p → after ≡ before ++ part ∷ [] → all ≡ option_map (λ more. parts_view after ++ more) rest
parts_pushed all rest before after part p so_far is pushed =
    rw (pushed, map-append, is) (so_far ∙ parts_more (parts_view before) p rest)

-- a further value, which is a part
pub part_more : (all : Option (List PartTree)) (values : List Value) (i : ℕ) (value : Value) (before after : List Part) (part : Part)
    → i < length values → value ≡ get_or values i value
    → all ≡ option_map (λ more. parts_view before ++ more) (parts_in (trees_view (drop i values)))
    → part_in (view value) ≡ Some (part_view part) → after ≡ before ++ part ∷ []
    → all ≡ option_map (λ more. parts_view after ++ more) (parts_in (trees_view (drop (i + 1) values)))
part_more all values i value before after part below item so_far seen pushed =
    let rest = parts_in (trees_view (drop (i + 1) values)) in
    let first : drop i values ≡ value ∷ drop (i + 1) values =
    rw add-one (drop-cons values i value below ∙ ap (λ (v : Value). v ∷ drop (suc i) values) (sym item)) in
    parts_pushed all rest before after part (part_view part)
    (so_far ∙ ap (λ (vs : List Value). option_map (λ more. parts_view before ++ more) (parts_in (trees_view vs))) first
    ∙ ap (λ (p : Option PartTree). option_map (λ more. parts_view before ++ more) (with_part p rest)) seen) refl pushed

-- a further value, which is none
pub part_refused : (all : Option (List PartTree)) (values : List Value) (i : ℕ) (value : Value) (before : List Part)
    → i < length values → value ≡ get_or values i value
    → all ≡ option_map (λ more. parts_view before ++ more) (parts_in (trees_view (drop i values)))
    → part_in (view value) ≡ None → all ≡ None
part_refused all values i value before below item so_far seen =
    let rest = parts_in (trees_view (drop (i + 1) values)) in
    let first : drop i values ≡ value ∷ drop (i + 1) values =
    rw add-one (drop-cons values i value below ∙ ap (λ (v : Value). v ∷ drop (suc i) values) (sym item)) in
    so_far ∙ ap (λ (vs : List Value). option_map (λ more. parts_view before ++ more) (parts_in (trees_view vs))) first
    ∙ ap (λ (p : Option PartTree). option_map (λ more. parts_view before ++ more) (with_part p rest)) seen
