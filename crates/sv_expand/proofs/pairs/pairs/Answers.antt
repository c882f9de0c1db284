use Rattle.std.proofs.Common.{◌≡◌}
use Rattle.std.specs.Prelude.{Ok}
use Rattle.sv_expand.proofs.Choices.{if_ok, if_err}
use Rattle.sv_expand.proofs.PairLists.{pairs_cut, first_bad}
use Rattle.sv_expand.specs.PairCuts.{HasPairs, IsFirstBad}
use Rattle.sv_expand.specs.Pairs.{pairs_of, IsFault}
use Rattle.sv_expand.proofs.pairs.pairs.Goals as goal

pub returns-clause-cut : goal.returns-clause-cut
returns-clause-cut c =
    if_ok (λ pairs. pairs_of c.args.text.now ≡ Ok pairs.items) (λ pairs. HasPairs c.args.text.now pairs.items) c.read_text.result
    (λ pairs. pairs_cut c.args.text.now pairs.items) c.read_text.ensures.pairs

pub returns-clause-first_bad : goal.returns-clause-first_bad
returns-clause-first_bad c =
    if_err (λ fault. IsFault fault (pairs_of c.args.text.now)) (λ fault. IsFirstBad c.args.text.now fault) c.read_text.result
    (first_bad c.args.text.now) c.read_text.ensures.fault
