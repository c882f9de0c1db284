-- What a request is to the code, as plain data.
use Rattle.std.specs.Prelude.{List, Option}
use Rattle.std.specs.Global.{Vec}
use Rattle.std.specs.Option.{option_map}
use Rattle.sv_calls.specs.Answers.Served.{Request, Refuses, Calls}
use Rattle.sv_calls.specs.declared.answers.request.Heard.{Heard}
use Rattle.sv_calls.specs.declared.answers.request.Heard.TheVariants as heard
use Rattle.sv_multi.specs.Views.{PartTree, parts_view}
use Rattle.sv_multi.specs.declared.part.Part.{Part}
use Rattle.sv_xmlcall.specs.Trees.{call_view}

-- a request as plain data
abbrev pub request_view : Heard → Request
request_view (heard.Refuses sent) = Refuses sent
request_view (heard.Calls call close) = Calls (call_view call) close

-- the parts of several calls in one as plain data, where there are parts
abbrev pub found_parts : Option (Vec Part) → Option (List PartTree)
found_parts parts = option_map (λ (all : Vec Part). parts_view all.items) parts
