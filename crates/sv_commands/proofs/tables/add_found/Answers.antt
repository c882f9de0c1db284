use Rattle.std.proofs.Common.{◌++◌, ◌∙◌, ap}
use Rattle.sv_base.specs.SplitName.{split_of}
use Rattle.sv_commands.proofs.Findings.{found_by}
use Rattle.sv_commands.proofs.tables.add_found.Goals as goal

pub returns : goal.returns
returns c =
    c.in_ok-add_named.ensures
    ∙ ap (λ l. c.args.given.now ++ l)
    (found_by c.args.processes.now c.args.name.now c.in_ok-group.group c.in_ok-group.member
    (c.in_ok-group.ensures ∙ ap split_of c.as_str.ensures))
