use Rattle.sv_core_laws.proofs.LinkReplies.{answered}
use Rattle.sv_core_laws.proofs.each_request_gets_one_reply.Goals as goal

pub returns : goal.returns
returns c = λ config sizes host inputs number. answered number config sizes host inputs
