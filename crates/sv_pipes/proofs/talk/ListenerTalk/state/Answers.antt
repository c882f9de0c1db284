use Rattle.std.proofs.Common.{ap, sym, ◌∙◌}
use Rattle.sv_pipes.proofs.TalkReading.{stands_read}
use Rattle.sv_pipes.specs.TalkPlaces.{state_of}
use Rattle.sv_pipes.proofs.talk.ListenerTalk.state.Goals as goal

pub returns-in-Greeting-clause-read : goal.returns-in-Greeting-clause-read
returns-in-Greeting-clause-read c = λ talk tokens stands.
    let read = stands_read c.args.self.now.place c.args.self.now.held.items talk tokens stands in
    (read.0, sym (ap state_of c.in-Greeting.is) ∙ read.1)

pub returns-in-Idle-clause-read : goal.returns-in-Idle-clause-read
returns-in-Idle-clause-read c = λ talk tokens stands.
    let read = stands_read c.args.self.now.place c.args.self.now.held.items talk tokens stands in
    (read.0, sym (ap state_of c.in-Idle.is) ∙ read.1)

pub returns-in-Word-clause-read : goal.returns-in-Word-clause-read
returns-in-Word-clause-read c = λ talk tokens stands.
    let read = stands_read c.args.self.now.place c.args.self.now.held.items talk tokens stands in
    (read.0, sym (ap state_of c.in-Word.is) ∙ read.1)

pub returns-in-Length-clause-read : goal.returns-in-Length-clause-read
returns-in-Length-clause-read c = λ talk tokens stands.
    let read = stands_read c.args.self.now.place c.args.self.now.held.items talk tokens stands in
    (read.0, sym (ap state_of c.in-Length.is) ∙ read.1)

pub returns-in-Body-clause-read : goal.returns-in-Body-clause-read
returns-in-Body-clause-read c = λ talk tokens stands.
    let read = stands_read c.args.self.now.place c.args.self.now.held.items talk tokens stands in
    (read.0, sym (ap state_of c.in-Body.is) ∙ read.1)

pub returns-in-Lost-clause-read : goal.returns-in-Lost-clause-read
returns-in-Lost-clause-read c = λ talk tokens stands.
    let read = stands_read c.args.self.now.place c.args.self.now.held.items talk tokens stands in
    (read.0, sym (ap state_of c.in-Lost.is) ∙ read.1)
