-- Children that are side by side in the start order.
use Rattle.std.specs.Prelude.{ℕ, List, Bool, ◌+◌, ◌-◌, drop, take}
use Rattle.std.specs.List.{list_all}
use Rattle.sv_base.specs.declared.spec.GroupSpec.{GroupSpec}
use Rattle.sv_child.specs.Moves.{is_at_rest}
use Rattle.sv_child.specs.declared.child.Child.{Child}
use Rattle.sv_groups.specs.Lookup.{found}
use Rattle.sv_groups.specs.StartOrder.{span_of}
use Rattle.sv_groups.specs.declared.lookup.Found.{Found}
use Rattle.sv_groups.specs.declared.lookup.Found.TheVariants.{One, Group, Nothing}
use Rattle.sv_groups.specs.declared.order.Span.{Span}

-- the children that are found
abbrev pub span_found : Found → List GroupSpec → Span
span_found (One id) roster = record { from = id.0; to = id.0 + 1 }
span_found (Group group) roster = span_of group roster
span_found Nothing roster = record { from = 0; to = 0 }

-- the children that a name of the console means
abbrev pub span_meant : List ℕ → List GroupSpec → Span
span_meant name roster = span_found (found name roster) roster

-- none of these children has a process or gets one by itself
abbrev pub are_at_rest : Span → List Child → Bool
are_at_rest span children =
    list_all (λ (c : Child). is_at_rest c.state)
    (take (span.to - span.from) (drop span.from children))
