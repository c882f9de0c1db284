-- What a client's request is, and what its answer looks like on the link (the manual's chapter on
-- its XML-RPC interface; RFC 9112, sections 6 and 9).
use Rattle.std.specs.Prelude.{ℕ, pos, List, [], ◌∷◌, Bool, true, false, Option, Some, None, codes}
use Rattle.std.specs.Prelude.{min, ◌-◌, ◌^◌}
use Rattle.std.specs.Str.{bytes_eq}
use Rattle.sv_calls.specs.declared.answers.read.FileReply.{FileReply}
use Rattle.sv_calls.specs.declared.answers.read.FileReply.TheVariants as file
use Rattle.sv_calls.specs.declared.answers.read.LogRead.{LogRead}
use Rattle.sv_calls.specs.declared.answers.sent.Sent.{Sent}
use Rattle.sv_http.specs.ReplyText.{reply_text}
use Rattle.sv_http.specs.declared.ask.Ask.{Ask}
use Rattle.sv_http.specs.declared.ask.Ask.TheVariants as ask_is
use Rattle.sv_http.specs.declared.status.Refusal.{Refusal}
use Rattle.sv_http.specs.declared.status.Refusal.TheVariants.{BadRequest}
use Rattle.sv_http.specs.declared.status.Status.TheVariants.{Ok, Bad}
use Rattle.sv_info.specs.Faults.{fault_number, fault_text}
use Rattle.sv_info.specs.declared.fault.Fault.{Fault}
use Rattle.sv_info.specs.declared.fault.Fault.TheVariants.{Failed, NoFile, IncorrectParameters}
use Rattle.sv_methods.specs.declared.planned.ReadShape.{ReadShape}
use Rattle.sv_methods.specs.declared.planned.ReadShape.TheVariants.{Plain, Tail}
use Rattle.sv_multi.specs.MultiCall.{parts_of}
use Rattle.sv_multi.specs.Views.{PartTree}
use Rattle.sv_xmlcall.specs.Called.{called}
use Rattle.sv_xmlcall.specs.Characters.{log_text}
use Rattle.sv_xmlcall.specs.Trees.{CallTree, Tree, Trees, tree, no_tree, integer, truth, text}
use Rattle.sv_xmlcall.specs.Trees.{array, trees_of, Reply, Returns, Faults}
use Rattle.sv_xmlcall.specs.Written.{written_reply}

-- ---- replies

-- a reply in XML-RPC, with status 200
abbrev pub said : Bool → Reply → Sent
said close reply = record { text = reply_text Ok (written_reply reply) close; closes = close }

-- a refused request: its status, no body, and the link closes
abbrev pub refused : Refusal → Sent
refused refusal = record { text = reply_text (Bad refusal) [] true; closes = true }

-- a fault, and what the call named, if it named something
abbrev pub faulty : Fault → Option (List ℕ) → Reply
faulty fault subject = Faults (pos (fault_number fault)) (fault_text fault subject)

-- ---- a request

-- a request is refused, or it is a call, after whose reply the link closes or not
pub data Request : Type 0 where
  Refuses : Sent → Request
  Calls : CallTree → Bool → Request

-- a body that is no call is a bad request
abbrev pub found : Bool → Option CallTree → Request
found close None = Refuses (refused BadRequest)
found close (Some call) = Calls call close

-- what a request is
abbrev pub heard : Ask → Request
heard (ask_is.Bad refusal) = Refuses (refused refusal)
heard (ask_is.Call body close) = found close (called body)

-- what a param names, where it is a string
abbrev pub subject_in : Tree → Option (List ℕ)
subject_in (text name) = Some name
subject_in param = None

-- what a call names: its first param, where that is a string
abbrev pub subject_of : Trees → Option (List ℕ)
subject_of (tree first params) = subject_in first
subject_of no_tree = None

-- ---- several calls in one

-- a call that asks for several calls
abbrev pub is_several : CallTree → Bool
is_several call = bytes_eq call.method (codes "system.multicall")

-- the calls that its params ask for; none where they aren't one array of structs
abbrev pub parts_in : Trees → Option (List PartTree)
parts_in (tree value no_tree) = parts_of value
parts_in params = None

-- what several calls in one are answered whose params aren't one array of structs
abbrev pub no_parts : Reply
no_parts = faulty IncorrectParameters None

-- ---- a read

-- an offset as an integer of 64 bits; the greatest stands for every greater one
abbrev pub offset_tree : ℕ → Tree
offset_tree offset = integer (pos (min offset (2 ^ 63 - 1)))

-- a part of a log: its text; or its text, the next offset, and whether bytes were missed
abbrev pub shaped : ReadShape → List ℕ → Tree
shaped Plain part = text part
shaped (Tail offset missed) part =
    array (trees_of (text part ∷ offset_tree offset ∷ truth missed ∷ []))

-- there is no such file: a fault; for the end of a log it is as if nothing had been logged
abbrev pub missing : LogRead → ReadShape → Reply
missing reading Plain = faulty NoFile reading.subject
missing reading (Tail offset missed) = Returns (shaped (Tail 0 false) [])

-- what is answered when the file was read
abbrev pub reads_back : LogRead → FileReply → Reply
reads_back reading (file.Part bytes) = Returns (shaped reading.shape (log_text bytes))
reads_back reading file.Missing = missing reading reading.shape
reads_back reading file.Failed = faulty Failed reading.subject
