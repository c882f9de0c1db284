use Rattle.std.proofs.Common.{rules, ◌≡◌, ◌∙◌, ap, sym, arith, false, List, ◌+◌, length}
use Rattle.std.specs.List.{insert}
use Rattle.sv_base.specs.Roster.{is_roster}
use Rattle.sv_base.specs.declared.spec.GroupSpec.{GroupSpec}
use Rattle.sv_groups.proofs.Kept.{roster_with, with_at}
use Rattle.sv_groups.proofs.Seats.{fewer_with}
use Rattle.sv_groups.specs.Changes.{stands, with_group}
use Rattle.sv_groups.specs.StartOrder.{processes}
use Rattle.sv_groups.proofs.order.Roster.add_group.Goals as goal

pub with-requires-clause-roster : goal.with-requires-clause-roster
with-requires-clause-roster c =
    let all = c.self.inside.groups.items in
    let shown : c.groups-2.result.now ≡ all = search rules in
    let at : insert all c.place_for-place.result c.args.group ≡ with_group c.args.group all =
    with_at c.args.group all c.groups-2.result.now c.place_for-place.result c.place_for-place.ensures.value shown in
    let view : length c.args.self.now ≡ length all = ap (λ (gs : List GroupSpec). length gs) (sym c.self.view_is) in
    let sizes : length (processes c.args.self.now) ≡ length (processes all) = ap (λ (gs : List GroupSpec). length (processes gs)) (sym c.self.view_is) in
    let new : stands c.args.group.name all ≡ false = search rules in
    let whole = roster_with c.args.group all c.self.invariant.0 c.requires.members (omega (arith, c.requires.groups, view)) (omega (arith, c.requires.processes, sizes)) new in
    let here : c.groups-3.result.now ≡ all = search rules in
    ap (λ (gs : List GroupSpec). is_roster (insert gs c.place_for-place.result c.args.group)) here ∙ ap is_roster at ∙ whole

pub refill-requires-clause-fewer : goal.refill-requires-clause-fewer
refill-requires-clause-fewer c =
    let all = c.self.inside.groups.items in
    let shown : c.groups-2.result.now ≡ all = search rules in
    let at : insert all c.place_for-place.result c.args.group ≡ with_group c.args.group all =
    with_at c.args.group all c.groups-2.result.now c.place_for-place.result c.place_for-place.ensures.value shown in
    let added : c.as_slice-2.result.now ≡ with_group c.args.group all = search rules in
    let longer : length c.in_ok-seats.seats.items ≡ length c.self.inside.seats.items + length c.args.group.members = search rules in
    fewer_with all c.as_slice-2.result.now c.args.group c.self.inside.seats.items c.in_ok-seats.seats.items c.self.invariant.1 longer added

pub refill-requires-clause-roster : goal.refill-requires-clause-roster
refill-requires-clause-roster c =
    let all = c.self.inside.groups.items in
    let shown : c.groups-2.result.now ≡ all = search rules in
    let at : insert all c.place_for-place.result c.args.group ≡ with_group c.args.group all =
    with_at c.args.group all c.groups-2.result.now c.place_for-place.result c.place_for-place.ensures.value shown in
    let view : length c.args.self.now ≡ length all = ap (λ (gs : List GroupSpec). length gs) (sym c.self.view_is) in
    let sizes : length (processes c.args.self.now) ≡ length (processes all) = ap (λ (gs : List GroupSpec). length (processes gs)) (sym c.self.view_is) in
    let new : stands c.args.group.name all ≡ false = search rules in
    let whole = roster_with c.args.group all c.self.invariant.0 c.requires.members (omega (arith, c.requires.groups, view)) (omega (arith, c.requires.processes, sizes)) new in
    let added : c.as_slice-2.result.now ≡ with_group c.args.group all = search rules in
    ap is_roster added ∙ whole

pub invariant_of-self-2 : goal.invariant_of-self-2
invariant_of-self-2 c =
    let all = c.self.inside.groups.items in
    let shown : c.groups-2.result.now ≡ all = search rules in
    let at : insert all c.place_for-place.result c.args.group ≡ with_group c.args.group all =
    with_at c.args.group all c.groups-2.result.now c.place_for-place.result c.place_for-place.ensures.value shown in
    let view : length c.args.self.now ≡ length all = ap (λ (gs : List GroupSpec). length gs) (sym c.self.view_is) in
    let sizes : length (processes c.args.self.now) ≡ length (processes all) = ap (λ (gs : List GroupSpec). length (processes gs)) (sym c.self.view_is) in
    let new : stands c.args.group.name all ≡ false = search rules in
    let whole = roster_with c.args.group all c.self.invariant.0 c.requires.members (omega (arith, c.requires.groups, view)) (omega (arith, c.requires.processes, sizes)) new in
    let added : c.insert.new.self.items ≡ with_group c.args.group all = search rules in
    (ap is_roster added ∙ whole, search rules, (search rules, search rules))

pub returns : goal.returns
returns c =
    let all = c.self.inside.groups.items in
    let shown : c.groups-2.result.now ≡ all = search rules in
    let at : insert all c.place_for-place.result c.args.group ≡ with_group c.args.group all =
    with_at c.args.group all c.groups-2.result.now c.place_for-place.result c.place_for-place.ensures.value shown in
    let added : c.insert.new.self.items ≡ with_group c.args.group all = search rules in
    (search rules, added ∙ ap (with_group c.args.group) c.self.view_is)
