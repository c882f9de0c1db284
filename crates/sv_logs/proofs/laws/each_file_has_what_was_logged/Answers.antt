use Rattle.sv_logs.proofs.LoggedFiles.{has_logged}
use Rattle.sv_logs.proofs.laws.each_file_has_what_was_logged.Goals as goal

pub returns : goal.returns
returns c = has_logged
