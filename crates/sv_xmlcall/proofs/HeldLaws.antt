-- How values are counted, and that all of a text is kept whose values are not too many.
use Rattle.std.proofs.Common.{◌≡◌, ℕ, List, suc, ◌+◌, ◌≤◌, min, inl, inr, refl, sym, ap, ◌∙◌, arith}
use Rattle.std.proofs.lemmas.Bool.{cases_lt, le-leb, lt-leb}
use Rattle.sv_xmlcall.specs.Spelled.{snoc, snoc_member}
use Rattle.sv_xmlcall.specs.Trees.{Tree, Trees, Members, integer, truth, text, other, structure, array, no_tree, tree, no_member, member}
use Rattle.sv_xmlcall.specs.Sizes.{size, size_of_values, size_of_members}
use Rattle.sv_xmlcall.specs.Machine.{Limits, counted, kept, kept_member}
use Rattle.sv_xmlcall.proofs.ValuePassing.{count_behind, count_behind_values, count_behind_members, held, held_values, held_members}

counted_min : (limits : Limits) (count : ℕ) → count ≤ suc limits.values → counted limits count ≡ min (count + 1) (suc limits.values)
counted_min limits count l = elim (cases_lt limits.values count) [
  | inl h ↦ rw (lt-leb count limits.values h) (omega arith)
  | inr h ↦ rw (le-leb count limits.values h) (omega arith)
]

abbrev CountsTo : Limits → ℕ → ℕ → ℕ → Type 0
CountsTo limits count more behind = behind ≡ min (count + more) (suc limits.values)

mutual
  pub count_min : (limits : Limits) (value : Tree) (count : ℕ) → count ≤ suc limits.values → CountsTo limits count (size value) (count_behind limits value count)
  count_min limits (integer n) count l = counted_min limits count l
  count_min limits (truth b) count l = counted_min limits count l
  count_min limits (text content) count l = counted_min limits count l
  count_min limits (other form content) count l = counted_min limits count l
  count_min limits (structure members) count l =
      let one = counted_min limits count l in
      let more = count_min_members limits members (counted limits count) (omega arith) in omega arith
  count_min limits (array values) count l =
      let one = counted_min limits count l in
      let more = count_min_values limits values (counted limits count) (omega arith) in omega arith

  pub count_min_values : (limits : Limits) (values : Trees) (count : ℕ) → count ≤ suc limits.values → CountsTo limits count (size_of_values values) (count_behind_values limits values count)
  count_min_values limits no_tree count l = omega arith
  count_min_values limits (tree value values) count l =
      let one = count_min limits value count l in
      let more = count_min_values limits values (count_behind limits value count) (omega arith) in omega arith

  pub count_min_members : (limits : Limits) (members : Members) (count : ℕ) → count ≤ suc limits.values → CountsTo limits count (size_of_members members) (count_behind_members limits members count)
  count_min_members limits no_member count l = omega arith
  count_min_members limits (member name value members) count l =
      let one = count_min limits value count l in
      let more = count_min_members limits members (count_behind limits value count) (omega arith) in omega arith

abbrev joined : Trees → Trees → Trees
joined no_tree more = more
joined (tree value values) more = tree value (joined values more)

snoc_joined : (before : Trees) (value : Tree) (values : Trees) → joined (snoc before value) values ≡ joined before (tree value values)
snoc_joined no_tree value values = refl
snoc_joined (tree first before) value values = ap (tree first) (snoc_joined before value values)

joined_none : (before : Trees) → joined before no_tree ≡ before
joined_none no_tree = refl
joined_none (tree first before) = ap (tree first) (joined_none before)

abbrev joined_members : Members → Members → Members
joined_members no_member more = more
joined_members (member name value members) more = member name value (joined_members members more)

snoc_members : (before : Members) (name : List ℕ) (value : Tree) (members : Members) → joined_members (snoc_member before name value) members ≡ joined_members before (member name value members)
snoc_members no_member name value members = refl
snoc_members (member first one before) name value members = ap (member first one) (snoc_members before name value members)

joined_no_member : (before : Members) → joined_members before no_member ≡ before
joined_no_member no_member = refl
joined_no_member (member first one before) = ap (member first one) (joined_no_member before)

mutual
  pub held_is : (limits : Limits) (value : Tree) (count : ℕ) → count + size value ≤ limits.values → count + size value ≤ limits.keeping → held limits value count ≡ value
  held_is limits (integer n) count l k = refl
  held_is limits (truth b) count l k = refl
  held_is limits (text content) count l k = refl
  held_is limits (other form content) count l k = refl
  held_is limits (structure members) count l k =
      let one = counted_min limits count (omega arith) in
      ap structure (held_members_are limits members no_member (counted limits count) (omega arith) (omega arith))
  held_is limits (array values) count l k =
      let one = counted_min limits count (omega arith) in
      ap array (held_values_are limits values no_tree (counted limits count) (omega arith) (omega arith))

  pub held_values_are : (limits : Limits) (values before : Trees) (count : ℕ) → count + size_of_values values ≤ limits.values → count + size_of_values values ≤ limits.keeping → held_values limits values before count ≡ joined before values
  held_values_are limits no_tree before count l k = sym (joined_none before)
  held_values_are limits (tree value values) before count l k =
      let behind = count_behind limits value count in
      let m = count_min limits value count (omega arith) in
      let one : kept limits behind before (held limits value count) ≡ snoc before value = rw (le-leb behind limits.keeping (omega arith)) (ap (snoc before) (held_is limits value count (omega arith) (omega arith))) in
      ap (λ (b : Trees). held_values limits values b behind) one
      ∙ held_values_are limits values (snoc before value) behind (omega arith) (omega arith)
      ∙ snoc_joined before value values

  pub held_members_are : (limits : Limits) (members before : Members) (count : ℕ) → count + size_of_members members ≤ limits.values → count + size_of_members members ≤ limits.keeping → held_members limits members before count ≡ joined_members before members
  held_members_are limits no_member before count l k = sym (joined_no_member before)
  held_members_are limits (member name value members) before count l k =
      let behind = count_behind limits value count in
      let m = count_min limits value count (omega arith) in
      let one : kept_member limits behind before name (held limits value count) ≡ snoc_member before name value =
      rw (le-leb behind limits.keeping (omega arith)) (ap (snoc_member before name) (held_is limits value count (omega arith) (omega arith))) in
      ap (λ (b : Members). held_members limits members b behind) one
      ∙ held_members_are limits members (snoc_member before name value) behind (omega arith) (omega arith)
      ∙ snoc_members before name value members
