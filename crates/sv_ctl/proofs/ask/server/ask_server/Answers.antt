use Rattle.sv_ctl.proofs.AskLemmas.Servers.{given_back}
use Rattle.sv_ctl.specs.Ask.Asking.{request_of}
use Rattle.sv_xmlcall.specs.Trees.{call_view}
use Rattle.sv_ctl.proofs.ask.server.ask_server.Goals as goal

pub returns-clause-calls : goal.returns-clause-calls
returns-clause-calls g c = λ before told.
    given_back (g.D.Dial.told c.args.dial.now) (g.D.Dial.told c.connect.new.self) (g.D.Dial.told c.close.new.self) before
    (g.D.Link.Link.told c.in-Ok.link) (g.D.Link.Link.told c.ask-answered.new.link) c.args.place.now
    (request_of c.args.client.now (call_view c.args.call.now)) c.ask-answered.result told c.in-Ok.ensures.kept
    (c.in-Ok.ensures.fresh before told) c.ask-answered.ensures.asks c.in_ok-close.ensures.kept
