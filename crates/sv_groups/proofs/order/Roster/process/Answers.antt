use Rattle.std.proofs.Common.{◌≤◌, ap, sym, ◌∙◌, arith, length, get_or, List}
use Rattle.std.specs.List.{slice_get}
use Rattle.sv_base.specs.declared.spec.GroupSpec.{GroupSpec}
use Rattle.sv_base.specs.declared.spec.Spec.{Spec}
use Rattle.sv_groups.proofs.Seats.{group_within, member_within, pair_at, pair_past, seat_read}
use Rattle.sv_groups.specs.Seats.{seats_from}
use Rattle.sv_groups.specs.StartOrder.{pairs_of}
use Rattle.sv_groups.specs.declared.seat.Seat.{Seat}
use Rattle.sv_groups.proofs.order.Roster.process.Goals as goal

pub returns-then-place-len : goal.returns-then-place-len
returns-then-place-len c =
    let past : length (seats_from 0 c.self.inside.groups.items) ≤ c.args.place =
    omega (arith, ap (λ (xs : List Seat). length xs) c.self.invariant.1, c.self.inside.seats.ok.0) in
    ap (λ (gs : List GroupSpec). slice_get (pairs_of gs) c.args.place) (sym c.self.view_is) ∙ pair_past c.self.inside.groups.items c.args.place past

pub index-group-requires : goal.index-group-requires
index-group-requires c =
    let read = seat_read c.self.inside.groups.items c.self.inside.seats.items c.args.place c.index-seat.result.now c.self.invariant.1 (omega (arith, c.self.inside.seats.ok.0)) c.index-seat.ensures in
    let within = group_within c.self.inside.groups.items c.args.place c.index-seat.result.now read in
    omega (arith, c.self.inside.groups.ok.0)

pub offset_bounds-as_slice-seat : goal.offset_bounds-as_slice-seat
offset_bounds-as_slice-seat c =
    let read = seat_read c.self.inside.groups.items c.self.inside.seats.items c.args.place c.index-seat.result.now c.self.invariant.1 (omega (arith, c.self.inside.seats.ok.0)) c.index-seat.ensures in
    let within = member_within c.self.inside.groups.items c.args.place c.index-seat.result.now c.index-group.result.now read c.index-group.ensures in
    omega (arith, ap (λ (xs : List Spec). length xs) c.as_slice.ensures, c.as_slice.type_inv)

pub bounds-as_slice-seat : goal.bounds-as_slice-seat
bounds-as_slice-seat c =
    let read = seat_read c.self.inside.groups.items c.self.inside.seats.items c.args.place c.index-seat.result.now c.self.invariant.1 (omega (arith, c.self.inside.seats.ok.0)) c.index-seat.ensures in
    let within = member_within c.self.inside.groups.items c.args.place c.index-seat.result.now c.index-group.result.now read c.index-group.ensures in
    omega (arith, ap (λ (xs : List Spec). length xs) c.as_slice.ensures)

pub returns : goal.returns
returns c =
    let read = seat_read c.self.inside.groups.items c.self.inside.seats.items c.args.place c.index-seat.result.now c.self.invariant.1 (omega (arith, c.self.inside.seats.ok.0)) c.index-seat.ensures in
    ap (λ (gs : List GroupSpec). slice_get (pairs_of gs) c.args.place) (sym c.self.view_is)
    ∙ pair_at c.self.inside.groups.items c.args.place c.index-seat.result.now c.index-group.result.now c.index-as_slice-seat.result read c.index-group.ensures
    (c.index-as_slice-seat.is
    ∙ ap (λ (xs : List Spec). get_or xs c.index-seat.result.now.member c.index-as_slice-seat.result) c.as_slice.ensures)
