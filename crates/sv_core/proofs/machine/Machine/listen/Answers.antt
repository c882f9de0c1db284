use Rattle.std.proofs.Common.{ap, ◌∙◌}
use Rattle.sv_core.proofs.Shown.{heard_there, runs_there}
use Rattle.sv_core.specs.World.{World}
use Rattle.sv_runs.specs.RunBook.{heard}
use Rattle.sv_core.proofs.machine.Machine.listen.Goals as goal

pub returns-clause-hears : goal.returns-clause-hears
returns-clause-hears c = λ older w s.
    let said = c.as_slice.result.now in
    let book = runs_there c.args.self.now older w (heard c.args.run said) s c.hear.new.self c.in_ok-tokens.ensures.kept in
    heard_there c.tell_by.new.self older c.args.run c.args.piece.now said w s.runs c.teller-teller.result c.as_slice-2.result.now
    (ap (λ (v : World). v.runs) s.is) c.as_slice.ensures.value (c.teller-teller.ensures s.runs s.runs_kept)
    (c.as_slice-2.ensures.value ∙ c.in_ok-tokens.ensures.tokens s.runs s.runs_kept)
    (c.in_ok-tell_by.ensures.tells older _ book)
