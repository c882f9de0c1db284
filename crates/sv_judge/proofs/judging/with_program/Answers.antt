use Rattle.std.proofs.Common.{rules, ◌≡◌}
use Rattle.sv_groups.specs.Changes.{with_group}
use Rattle.sv_judge.specs.ShortHeader.{group_of}
use Rattle.sv_judge.proofs.judging.with_program.Goals as goal

pub returns-clause-some : goal.returns-clause-some
returns-clause-some c =
    let more : c.place.new.done.items ≡ with_group (group_of c.args.program) c.args.groups = search rules in
    search rules
