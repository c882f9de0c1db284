use Rattle.sv_core_laws.proofs.HaltReplies.{answered_at_halt}
use Rattle.sv_core_laws.proofs.each_request_is_answered_at_the_halt.Goals as goal

pub returns : goal.returns
returns c = λ config sizes host inputs number. answered_at_halt config sizes host inputs number
