-- What is printed of a poll.
use Rattle.std.specs.Prelude.{◌==◌, ◌++◌, ℕ, List, [], codes, if◌then◌else◌}
use Rattle.std.specs.Fmt.{decimal}
use Rattle.sv_follow.specs.declared.follower.Shown.{Shown}

-- the line before the text: that the log was rotated, or that bytes are lost
abbrev pub notice : Shown → List ℕ
notice shown =
    if shown.rotated then codes "*** log rotated\n"
    else if shown.lost == 0 then []
    else codes "*** " ++ decimal shown.lost ++ codes " bytes lost\n"

-- the line and the text
abbrev pub printed : Shown → List ℕ
printed shown = notice shown ++ shown.text
