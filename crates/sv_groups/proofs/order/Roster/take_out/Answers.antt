use Rattle.std.proofs.Common.{rules, ◌≡◌, ◌+◌, ap, arith, sym, ◌∙◌, length, List, ℕ}
use Rattle.std.specs.List.{remove, remove_range}
use Rattle.sv_base.specs.Roster.{is_roster}
use Rattle.sv_groups.proofs.Kept.{roster_without}
use Rattle.sv_groups.proofs.Named.{names_count, names_without, processes_without}
use Rattle.sv_groups.proofs.Processes.{group_within}
use Rattle.sv_groups.proofs.Seats.{fewer_without}
use Rattle.sv_groups.specs.Lookup.{names_of}
use Rattle.sv_groups.specs.Names.{group_names}
use Rattle.sv_groups.specs.Seats.{seats_from}
use Rattle.sv_groups.specs.StartOrder.{first_of, members_at, span_of}
use Rattle.sv_groups.specs.declared.order.Span.{Span}
use Rattle.sv_groups.proofs.order.Roster.take_out.Goals as goal

pub remove-requires-clause-within : goal.remove-requires-clause-within
remove-requires-clause-within c =
    let groups = c.self.inside.groups.items in
    let size : length c.self.inside.names.processes.keys ≡ length (names_of groups) = ap (λ (keys : List (List ℕ × List ℕ)). length keys) c.self.invariant.2.1 in
    let to : c.span-span.result.to ≡ first_of c.args.place groups + length (members_at c.args.place groups) = ap (λ (s : Span). s.to) (c.span-span.ensures ∙ ap (span_of c.args.place) (sym c.self.view_is)) in
    omega (arith, group_within c.args.place groups, names_count groups)

pub refill-requires-clause-fewer : goal.refill-requires-clause-fewer
refill-requires-clause-fewer c =
    fewer_without c.self.inside.groups.items c.as_slice.result.now c.self.inside.seats.items _ c.self.invariant.1 (c.as_slice.ensures.value ∙ c.remove-group.ensures.items)

pub invariant_of-self : goal.invariant_of-self
invariant_of-self c =
    let groups = c.self.inside.groups.items in
    let seats : c.refill.new.seats.items ≡ seats_from 0 c.remove-group.new.self.items = search rules in (
      ap is_roster c.remove-group.ensures.items ∙ roster_without c.args.place groups c.self.invariant.0,
      seats,
      (
        c.remove.ensures.groups
            ∙ ap (λ (names : List (List ℕ)). remove names c.args.place) c.self.invariant.2.0
            ∙ sym (names_without c.args.place groups)
            ∙ ap group_names (sym c.remove-group.ensures.items),
        c.remove.ensures.processes
            ∙ ap (λ (names : List (List ℕ × List ℕ)). remove_range names c.span-span.result.from c.span-span.result.to) c.self.invariant.2.1
            ∙ ap (λ (s : Span). remove_range (names_of groups) s.from s.to) (c.span-span.ensures ∙ ap (span_of c.args.place) (sym c.self.view_is))
            ∙ sym (processes_without c.args.place groups)
            ∙ ap names_of (sym c.remove-group.ensures.items),
      ),
    )
