use Rattle.std.proofs.Common.{ap, ◌∙◌, List, ℕ}
use Rattle.std.specs.List.{position}
use Rattle.std.specs.Str.{bytes_eq}
use Rattle.sv_groups.proofs.Named.{group_place}
use Rattle.sv_groups.specs.Lookup.{place_of}
use Rattle.sv_groups.proofs.order.Roster.place_of.Goals as goal

pub returns : goal.returns
returns c =
    c.group.ensures
    ∙ ap (position (λ (n : List ℕ). bytes_eq n c.args.name.now)) c.self.invariant.2.0
    ∙ group_place c.args.name.now c.self.inside.groups.items
    ∙ ap (place_of c.args.name.now) c.self.view_is
