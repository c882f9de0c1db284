use Rattle.std.proofs.Common.{rules}
use Rattle.sv_groups.proofs.Named.{process_added}
use Rattle.sv_groups.proofs.names.add_processes.Goals as goal

pub loop-member-preserved : goal.loop-member-preserved
loop-member-preserved c =
    process_added c.args.group.now.name c.as_slice-member-items.result.now c.loop-member.member-index c.member-item.result (c.in_ok-clone.field-0, c.in_ok-clone-2.field-0) c.args.processes.now.keys c.loop-member.processes.keys c.insert.new.self.keys
    (search rules) c.member-item.is (search rules) c.loop-member.invariant (search rules)
