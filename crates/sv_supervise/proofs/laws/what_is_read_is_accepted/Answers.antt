use Rattle.sv_supervise.proofs.Accepted.{accepted, leads}
use Rattle.sv_supervise.proofs.laws.what_is_read_is_accepted.Goals as goal

pub returns-clause-accepted : goal.returns-clause-accepted
returns-clause-accepted c = λ words host files reads. accepted words host files reads

pub returns-clause-leads : goal.returns-clause-leads
returns-clause-leads c = λ words host files reads left inputs all few ends. leads words host files reads left inputs all few ends
