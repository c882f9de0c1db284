use Rattle.std.proofs.Common.{◌∙◌, sym}
use Rattle.sv_parts.proofs.RunsLemmas.Places.{sent, told_unsent, unsent}
use Rattle.sv_parts.proofs.runs.live_runs.LiveRuns.kill.Goals as goal

pub returns-in-Ok-clause-kills : goal.returns-in-Ok-clause-kills
returns-in-Ok-clause-kills g c = sent _ _ _ _ _ _ _ _ _ (sym c.in-Some.is ∙ c.place_of.ensures) c.index.ensures c.in-Ok.ensures.asked

pub returns-in-Err-Failed-clause-kills : goal.returns-in-Err-Failed-clause-kills
returns-in-Err-Failed-clause-kills g c =
    unsent _ _ _ _ _ _ _ _ _ (sym c.in-Some.is ∙ c.place_of.ensures) c.index.ensures (told_unsent _ _ _ _ _ _ c.in-Err-Failed.field-0-is c.in-Err-Failed.ensures.asked)
