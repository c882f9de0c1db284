use Rattle.sv_conf.proofs.Crowded.{read_so}
use Rattle.sv_conf.proofs.config.of_sections.Goals as goal

pub returns-then-branch-clause-value : goal.returns-then-branch-clause-value
returns-then-branch-clause-value c =
    rw (read_so c.args.host.now c.in_ok-common.common c.args.sections.now c.in_ok-others.others c.in_ok-all_supported.ensures.good c.in_ok-others.ensures c.in_ok-common.ensures)
    c.of_crowded.ensures.value

pub returns-then-branch-clause-fault : goal.returns-then-branch-clause-fault
returns-then-branch-clause-fault c =
    rw (read_so c.args.host.now c.in_ok-common.common c.args.sections.now c.in_ok-others.others c.in_ok-all_supported.ensures.good c.in_ok-others.ensures c.in_ok-common.ensures)
    c.of_crowded.ensures.fault

pub returns-clause-value : goal.returns-clause-value
returns-clause-value c =
    rw (read_so c.args.host.now c.in_ok-common.common c.args.sections.now c.in_ok-others.others c.in_ok-all_supported.ensures.good c.in_ok-others.ensures c.in_ok-common.ensures)
    c.of_others.ensures.value

pub returns-clause-fault : goal.returns-clause-fault
returns-clause-fault c =
    rw (read_so c.args.host.now c.in_ok-common.common c.args.sections.now c.in_ok-others.others c.in_ok-all_supported.ensures.good c.in_ok-others.ensures c.in_ok-common.ensures)
    c.of_others.ensures.fault
