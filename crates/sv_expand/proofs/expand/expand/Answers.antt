use Rattle.std.proofs.Common.{◌≡◌}
use Rattle.std.specs.Prelude.{Ok}
use Rattle.sv_expand.proofs.Choices.{if_ok, if_err}
use Rattle.sv_expand.proofs.ExpansionCuts.{expansion_cut, leftmost}
use Rattle.sv_expand.specs.Cuts.{Expands, IsLeftmost}
use Rattle.sv_expand.specs.Expansion.{expansion_of, IsFault}
use Rattle.sv_expand.proofs.expand.expand.Goals as goal

pub returns-clause-cut : goal.returns-clause-cut
returns-clause-cut c =
    if_ok (λ expanded. expansion_of c.args.names.now c.args.text.now ≡ Ok expanded) (λ expanded. Expands c.args.names.now c.args.text.now expanded)
    c.read_text.result (expansion_cut c.args.names.now c.args.text.now) c.read_text.ensures.text

pub returns-clause-leftmost : goal.returns-clause-leftmost
returns-clause-leftmost c =
    if_err (λ fault. IsFault fault (expansion_of c.args.names.now c.args.text.now)) (λ fault. IsLeftmost c.args.names.now c.args.text.now fault)
    c.read_text.result (leftmost c.args.names.now c.args.text.now) c.read_text.ensures.fault
