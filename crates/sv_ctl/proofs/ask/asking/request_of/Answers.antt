use Rattle.std.proofs.Common.{◌∙◌, ap}
use Rattle.sv_ctl.proofs.AskLemmas.Servers.{sent_as}
use Rattle.sv_ctl.specs.Ask.ServerUrl.{host_of}
use Rattle.sv_xmlcall.specs.Trees.{call_view}
use Rattle.sv_ctl.proofs.ask.asking.request_of.Goals as goal

pub returns : goal.returns
returns c =
    sent_as c.request.result c.args.client.now (call_view c.args.call.now) c.as_slice.result.now c.host_of.result.now
    c.as_str-2.result.now c.as_str-3.result.now (c.as_slice.ensures ∙ c.in_ok-body.ensures)
    (c.host_of.ensures ∙ ap host_of c.as_str.ensures) c.as_str-2.ensures c.as_str-3.ensures c.request.ensures
