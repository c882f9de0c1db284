-- How deep values stand one inside the other, and how many there are.
use Rattle.std.specs.Prelude.{ℕ, suc, ◌+◌, max}
use Rattle.sv_xmlcall.specs.Trees.{Tree, Trees, Members, integer, truth, text, other, structure}
use Rattle.sv_xmlcall.specs.Trees.{array, no_tree, tree, no_member, member}

abbrev mutual
  -- the most values that stand one inside the other, this one among them
  pub nested : Tree → ℕ
  nested (integer n) = 1
  nested (truth b) = 1
  nested (text content) = 1
  nested (other form content) = 1
  nested (structure members) = suc (nested_members members)
  nested (array values) = suc (nested_values values)

  -- the most values that stand one inside the other among these
  pub nested_values : Trees → ℕ
  nested_values no_tree = 0
  nested_values (tree value values) = max (nested value) (nested_values values)

  -- the most values that stand one inside the other among those of these members
  pub nested_members : Members → ℕ
  nested_members no_member = 0
  nested_members (member name value members) = max (nested value) (nested_members members)

abbrev mutual
  -- how many values there are, this one among them
  pub size : Tree → ℕ
  size (integer n) = 1
  size (truth b) = 1
  size (text content) = 1
  size (other form content) = 1
  size (structure members) = suc (size_of_members members)
  size (array values) = suc (size_of_values values)

  -- how many values there are among these, those inside them too
  pub size_of_values : Trees → ℕ
  size_of_values no_tree = 0
  size_of_values (tree value values) = size value + size_of_values values

  -- how many values these members have, those inside them too
  pub size_of_members : Members → ℕ
  size_of_members no_member = 0
  size_of_members (member name value members) = size value + size_of_members members
