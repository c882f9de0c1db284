use Rattle.std.proofs.Common.{◌∙◌}
use Rattle.sv_http.proofs.Held.{counted_is}
use Rattle.sv_http.proofs.reader.HttpReader.held.Goals as goal

pub returns-clause-held : goal.returns-clause-held
returns-clause-held c = λ stream asks stands.
    c.counted.ensures ∙ counted_is c.args.self.now.guard c.args.self.now.place c.args.self.now.head.items c.args.self.now.body.items stream asks stands
