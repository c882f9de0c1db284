use Rattle.sv_supervise.proofs.BeginLemmas.OneReading.{only_reading}
use Rattle.sv_supervise.proofs.begin.laws.files_are_read_in_one_way.Goals as goal

pub returns : goal.returns
returns c = λ files file host beginning begins. only_reading files file host beginning begins
