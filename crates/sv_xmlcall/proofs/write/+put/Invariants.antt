use Rattle.std.proofs.Common.{◌≡◌, ◌++◌, drop}
use Rattle.sv_xmlcall.specs.Trees.{trees_view, members_view}
use Rattle.sv_xmlcall.specs.Written.{written_values, written_members}
use Rattle.sv_xmlcall.proofs.write.+put.Given as goal

abbrev pub invariant-put_data-loop-value : goal.invariant-put_data-loop-value
invariant-put_data-loop-value l =
    l.out.items ++ written_values (trees_view (drop l.value-index l.value-items)) ≡ l.initial.out.items ++ written_values (trees_view l.value-items)

abbrev pub invariant-put_members-loop-name : goal.invariant-put_members-loop-name
invariant-put_members-loop-name l =
    l.out.items ++ written_members (members_view (drop l.name-index l.name-items)) ≡ l.initial.out.items ++ written_members (members_view l.name-items)
