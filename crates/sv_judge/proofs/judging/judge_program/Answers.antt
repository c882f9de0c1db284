use Rattle.std.proofs.Common.{◌≡◌, true, refl}
use Rattle.sv_base.specs.Roster.{is_roster}
use Rattle.sv_groups.specs.Changes.{with_group}
use Rattle.sv_judge.proofs.FoundLines.{adds_more}
use Rattle.sv_judge.specs.JournalPlaces.Stage.{Named}
use Rattle.sv_judge.specs.ShortHeader.{group_of}
use Rattle.sv_judge.proofs.judging.judge_program.Goals as goal

pub returns-in-Ok-Some : goal.returns-in-Ok-Some
returns-in-Ok-Some c =
    let more = with_group (group_of c.args.program) c.args.groups in
    let whole : is_roster more ≡ true = c.in-Ok-Some.ensures.some.0 (rw c.in-Ok-Some.field-0-is refl) in
    (Named more, adds_more more whole, rw c.in-Ok-Some.field-0-is at c.in-Ok-Some.ensures.value)
