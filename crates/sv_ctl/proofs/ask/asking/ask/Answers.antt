use Rattle.std.proofs.Common.{rules}
use Rattle.sv_ctl.proofs.AskLemmas.Told.{asks_refused, asks_broken, asks_all}
use Rattle.sv_ctl.specs.Ask.Asking.{request_of}
use Rattle.sv_xmlcall.specs.Trees.{call_view}
use Rattle.sv_ctl.proofs.ask.asking.ask.Goals as goal

pub returns-in_err-text-clause-asks : goal.returns-in_err-text-clause-asks
returns-in_err-text-clause-asks g c =
    asks_refused (g.L.Link.told c.args.link.now) (request_of c.args.client.now (call_view c.args.call.now)) c.from_residual.result
    (search rules)

pub returns-in-Ok-clause-asks : goal.returns-in-Ok-clause-asks
returns-in-Ok-clause-asks g c =
    asks_all (g.L.Link.told c.args.link.now) (g.L.Link.told c.send_all.new.link) (g.L.Link.told c.listen.new.link)
    (request_of c.args.client.now (call_view c.args.call.now)) c.listen.result
    (rw (← c.in_ok-text.ensures, ← c.as_slice.ensures) c.in-Ok.ensures.ok) c.listen.ensures.listens

pub returns-clause-asks : goal.returns-clause-asks
returns-clause-asks g c =
    asks_broken (g.L.Link.told c.args.link.now) (g.L.Link.told c.send_all.new.link)
    (request_of c.args.client.now (call_view c.args.call.now))
    (rw (← c.in_ok-text.ensures, ← c.as_slice.ensures) c.in-Err.ensures.err)
