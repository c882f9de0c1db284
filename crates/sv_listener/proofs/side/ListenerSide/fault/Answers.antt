use Rattle.sv_listener.proofs.Hearings.{fault_is}
use Rattle.sv_listener.proofs.side.ListenerSide.fault.Goals as goal

pub returns : goal.returns
returns c = λ stream events stands. fault_is c.args.self.now.fault c.args.self.now.held.items stream events stands.1
