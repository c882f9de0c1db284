-- What the client says of the answer to one call.
use Rattle.std.specs.Prelude.{◌==◌, ◌∷◌, ◌++◌, ℕ, List, [], Option, Some, None, Result, Ok, Err}
use Rattle.std.specs.Prelude.{codes, if◌then◌else◌}
use Rattle.std.specs.Fmt.{decimal}
use Rattle.sv_ctl.specs.declared.ask.fault.AskFault.{AskFault}
use Rattle.sv_ctl.specs.declared.ask.fault.AskFault.TheVariants.{Refused, LinkFailed, Ended, BadReply}
use Rattle.sv_ctl.specs.declared.ask.fault.AskFault.TheVariants.{Status, OutOfMemory}
use Rattle.sv_base.specs.Ascii.{line_feed}
use Rattle.sv_commands.specs.Lines.{reply_shown}
use Rattle.sv_commands.specs.Statuses.{worse}
use Rattle.sv_commands.specs.declared.shown.Shown.{Shown}
use Rattle.sv_commands.specs.declared.status.Status as status
use Rattle.sv_commands.specs.declared.step.Line.{Line}
use Rattle.sv_ctl.specs.declared.talk.course.Course.TheVariants.{On, Broken, Lost, NoMemory}
use Rattle.sv_ctl.specs.declared.talk.told.Told.{Told}
use Rattle.sv_xmlcall.specs.Trees.{reply_view}
use Rattle.sv_xmlcall.specs.declared.call.Answered.{Answered}

-- what came of one call
abbrev pub Answer : Type 0
Answer = Result Answered AskFault

-- memory was not refused in the call
abbrev pub IsKnown : Answer → Type 0
IsKnown (Err OutOfMemory) = ⊥
IsKnown answer = Unit {0}

-- the line of a status that isn't 200
abbrev pub status_line : ℕ → List ℕ
status_line number =
    if number == 401 then codes "Server requires authentication\n"
    else codes "Server answered " ++ decimal number ++ line_feed ∷ []

-- the line of a reply that can't be read
abbrev pub bad_reply : Told
bad_reply = record { text = codes "Error: bad reply\n"; course = Broken }

-- the URL with these words after it, where there is no connection any more
abbrev pub with_url : List ℕ → List ℕ → Told
with_url url words = record { text = url ++ words; course = Lost }

-- what an answer shows, or that it can't be read
abbrev pub shown_or_bad : status.Status → Option Shown → Told
shown_or_bad so_far None = bad_reply
shown_or_bad so_far (Some shown) =
    record { text = shown.text; course = On (worse so_far shown.status) }

-- what is said of an answer, where the command has this status so far
abbrev pub told_of : List ℕ → Line → status.Status → Answer → Told
told_of url line so_far (Ok answered) = shown_or_bad so_far (reply_shown line (reply_view answered))
told_of url line so_far (Err Refused) = with_url url (codes " refused connection\n")
told_of url line so_far (Err LinkFailed) = with_url url (codes " broke off\n")
told_of url line so_far (Err Ended) = bad_reply
told_of url line so_far (Err BadReply) = bad_reply
told_of url line so_far (Err (Status number)) =
    record { text = status_line number; course = Broken }
told_of url line so_far (Err OutOfMemory) = record { text = []; course = NoMemory }
