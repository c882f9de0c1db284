-- What an input is to the machine: it begins a turn, it answers a question, or it says that an
-- order failed.
use Rattle.std.specs.Prelude.{Bool, true, false, Option, Some, length, nat_le}
use Rattle.sv_core.specs.declared.part.Cause.TheVariants as cause
use Rattle.sv_core.specs.declared.part.Part.{Part}
use Rattle.sv_core.specs.declared.part.Part.TheVariants.{Begins, Answers, Fails}
use Rattle.sv_core.specs.declared.part.Question.{Question}
use Rattle.sv_core.specs.declared.part.Question.TheVariants as question
use Rattle.sv_core.specs.declared.part.Reply.{Reply}
use Rattle.sv_core.specs.declared.part.Reply.TheVariants as reply
use Rattle.sv_out.specs.declared.input.Input.{Input}
use Rattle.sv_out.specs.declared.input.Input.TheVariants.{Tick, Exit, Out, OutEnd, Open, Piece}
use Rattle.sv_out.specs.declared.input.Input.TheVariants.{LinkEnd, Start, Stop, Signal, Pid, NoFile}
use Rattle.sv_out.specs.declared.input.Input.TheVariants.{NotExecutable, Refused, Read, Done}
use Rattle.sv_out.specs.declared.input.Input.TheVariants.{Missing, Names, Size, Failed}

-- the moment and the cause of a turn; an answer; or the number of the order that failed
abbrev pub part_of : Input → Part
part_of (Tick at) = Begins at cause.Tick
part_of (Exit at run how) = Begins at (cause.Exit run how)
part_of (Out at run stream bytes) = Begins at (cause.Heard run stream bytes)
part_of (OutEnd at run stream) = Begins at (cause.PipeEnd run stream)
part_of (Open at link side) = Begins at (cause.Opened link side)
part_of (Piece at link bytes) = Begins at (cause.Brought link bytes)
part_of (LinkEnd at link) = Begins at (cause.LinkEnd link)
part_of (Start at name) = Begins at (cause.Start name)
part_of (Stop at name) = Begins at (cause.Stop name)
part_of (Signal at signal) = Begins at (cause.Signal signal)
part_of (Pid pid) = Answers (reply.Started pid)
part_of NoFile = Answers reply.NoFile
part_of NotExecutable = Answers reply.NotExecutable
part_of (Refused text) = Answers (reply.Refused text)
part_of (Read bytes) = Answers (reply.Read bytes)
part_of Done = Answers reply.Done
part_of Missing = Answers reply.Missing
part_of (Names names) = Answers (reply.Names names)
part_of (Size size) = Answers (reply.Size size)
part_of (Failed number) = Fails number

-- an answer fits the question that stands: these four fit a spawn; no more bytes than were asked
-- for, or that there is no such file, a read; and that it is empty now, or that there is no such
-- file, the clear of a file. Names and a size fit none, since nobody asks for them
abbrev pub fits : Option Question → Reply → Bool
fits (Some question.Spawn) (reply.Started pid) = true
fits (Some question.Spawn) reply.NoFile = true
fits (Some question.Spawn) reply.NotExecutable = true
fits (Some question.Spawn) (reply.Refused text) = true
fits (Some (question.Read most)) (reply.Read bytes) = nat_le (length bytes) most
fits (Some (question.Read most)) reply.Missing = true
fits (Some question.Clear) reply.Done = true
fits (Some question.Clear) reply.Missing = true
fits asked reply = false

-- an input answers the question that stands, if one stands
abbrev pub answers : Option Question → Part → Bool
answers asked (Answers given) = fits asked given
answers asked part = false
