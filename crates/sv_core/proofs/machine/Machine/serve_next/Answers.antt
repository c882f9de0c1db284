use Rattle.std.proofs.Common.{◌≡◌, Option, Some, None, ap, sym, ◌∙◌}
use Rattle.sv_calls.specs.Answers.Served.{Request}
use Rattle.sv_core.proofs.Left.{going_of_none, made_at}
use Rattle.sv_core.proofs.Shown.{at_same, links_there}
use Rattle.sv_core.specs.Calling.{takes_up}
use Rattle.sv_core.specs.Left.{going_of}
use Rattle.sv_core.specs.Serving.{serves_ask}
use Rattle.sv_core.specs.World.{World}
use Rattle.sv_http.specs.declared.ask.Ask.{Ask}
use Rattle.sv_links.specs.LinkBook.{ask_at, taken}
use Rattle.sv_core.proofs.machine.Machine.serve_next.Goals as goal

pub returns-in-None-clause-serves : goal.returns-in-None-clause-serves
returns-in-None-clause-serves c = λ older w k s.
    let link = c.args.link in
    let after : World = record w { links = taken link w.links } in
    let book : w.links ≡ s.links = ap (λ (v : World). v.links) s.is in
    let is : ask_at link w.links ≡ None =
    ap (ask_at link) book ∙ sym (c.take_ask.ensures.ask s.links s.links_kept) ∙ c.in-None.is in
    let here = links_there c.args.self.now older w (taken link) s c.take_ask.new.self c.take_ask.ensures.kept in
    at_same _ older _ (k after) _ (ap (λ (o : Option Ask). serves_ask link o after k) is)
    (made_at _ older after k (going_of link None k) (going_of_none link k) here)

pub returns-in_ok-going-in-Some-clause-serves : goal.returns-in_ok-going-in-Some-clause-serves
returns-in_ok-going-in-Some-clause-serves c = λ older w k s.
    let link = c.args.link in
    let after : World = record w { links = taken link w.links } in
    let book : w.links ≡ s.links = ap (λ (v : World). v.links) s.is in
    let is : ask_at link w.links ≡ Some c.in-Some.ask =
    ap (ask_at link) book ∙ sym (c.take_ask.ensures.ask s.links s.links_kept) ∙ c.in-Some.is in
    let here = links_there c.args.self.now older w (taken link) s c.take_ask.new.self c.take_ask.ensures.kept in
    at_same c.take_up.new.self older _ _ _
    (ap (λ (o : Option Ask). serves_ask link o after k) is
    ∙ ap (λ (request : Request). takes_up link request after k) (sym c.in_ok-heard-in-Some.ensures))
    (c.in_ok-going-in-Some.ensures.takes older after k here)
