use Rattle.sv_pipes.proofs.Steps.{sent_stands}
use Rattle.sv_pipes.proofs.talk.ListenerTalk.sent.Goals as goal

pub returns : goal.returns
returns c = λ talk tokens stands. sent_stands c.args.self.now.place c.args.self.now.held.items talk tokens c.requires stands
