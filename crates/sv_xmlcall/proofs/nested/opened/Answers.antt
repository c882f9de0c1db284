use Rattle.std.proofs.Common.{◌∙◌}
use Rattle.sv_xmlcall.proofs.StageLaws.{opened_gives}
use Rattle.sv_xmlcall.proofs.nested.opened.Goals as goal

pub returns-clause-value : goal.returns-clause-value
returns-clause-value c = opened_gives _ c.behind_white.result c.as_slice.result.now c.skip_white.result.now c.args.bytes.now (c.as_slice.ensures.value ∙ c.in_ok-white.ensures) c.skip_white.ensures.value c.behind_white.ensures.value
