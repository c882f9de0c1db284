use Rattle.std.proofs.Common.{◌≡◌, ap, arith, length, ◌∙◌, List, ℕ}
use Rattle.std.specs.List.{position_from}
use Rattle.sv_base.specs.declared.spec.GroupSpec.{GroupSpec}
use Rattle.sv_groups.proofs.Named.{names_count, place_few, process_place}
use Rattle.sv_groups.proofs.Processes.{roster_fits}
use Rattle.sv_groups.specs.Lookup.{is_called, names_of}
use Rattle.sv_groups.proofs.order.Roster.place_of_process.Goals as goal

pub returns-clause-value : goal.returns-clause-value
returns-clause-value c =
    c.process.ensures.value
    ∙ process_place c.args.group.now c.args.name.now c.self.inside.names.processes.keys
    ∙ ap (position_from (is_called c.args.group.now c.args.name.now) 0) c.self.invariant.2.1
    ∙ ap (λ (groups : List GroupSpec). position_from (is_called c.args.group.now c.args.name.now) 0 (names_of groups)) c.self.view_is

pub returns-clause-most : goal.returns-clause-most
returns-clause-most c =
    let size : length c.self.inside.names.processes.keys ≡ length (names_of c.self.inside.groups.items) = ap (λ (keys : List (List ℕ × List ℕ)). length keys) c.self.invariant.2.1 in
    place_few c.process.result (length c.self.inside.names.processes.keys) 1024
    (omega (arith, names_count c.self.inside.groups.items, roster_fits c.self.inside.groups.items c.self.invariant.0))
    c.process.ensures.within
