use Rattle.sv_supervise_laws.proofs.Rerun.{a_journal_is_rerun}
use Rattle.sv_supervise_laws.proofs.a_daemons_journal_is_rerun.Goals as goal

pub returns : goal.returns
returns c = a_journal_is_rerun
