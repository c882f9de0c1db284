use Rattle.std.proofs.Common.{◌≡◌, Option, Some, None, ap, sym, ◌∙◌}
use Rattle.sv_calls.specs.CallBook.{CallBook, request_at, request_taken}
use Rattle.sv_core.proofs.Left.{made_at, wanting_none}
use Rattle.sv_core.proofs.Shown.{at_same, calls_there}
use Rattle.sv_core.specs.Left.{wanting}
use Rattle.sv_core.specs.Requests.{carries_if}
use Rattle.sv_core.specs.World.{World}
use Rattle.sv_methods.specs.declared.planned.Request.{Request}
use Rattle.sv_core.proofs.machine.Machine.do_next.Goals as goal

pub returns-in-None-clause-does : goal.returns-in-None-clause-does
returns-in-None-clause-does c = λ older w k s.
    let link = c.args.link in
    let after : World = record w { calls = request_taken link w.calls } in
    let book : w.calls ≡ s.calls = ap (λ (v : World). v.calls) s.is in
    let is : request_at link w.calls ≡ None =
    ap (λ (calls : CallBook). request_at link calls) book ∙ sym (c.take_request.ensures.request s.calls s.calls_kept) ∙ c.in-None.is in
    let here = calls_there c.args.self.now older w (request_taken link) s c.take_request.new.self c.take_request.ensures.kept in
    at_same _ older _ (k after) _ (ap (λ (o : Option Request). carries_if link o after k) is)
    (made_at _ older after k (wanting link None k) (wanting_none link k) here)

pub returns-in_ok-wanting-in-Some-clause-does : goal.returns-in_ok-wanting-in-Some-clause-does
returns-in_ok-wanting-in-Some-clause-does c = λ older w k s.
    let link = c.args.link in
    let after : World = record w { calls = request_taken link w.calls } in
    let book : w.calls ≡ s.calls = ap (λ (v : World). v.calls) s.is in
    let is : request_at link w.calls ≡ Some c.in-Some.request =
    ap (λ (calls : CallBook). request_at link calls) book ∙ sym (c.take_request.ensures.request s.calls s.calls_kept) ∙ c.in-Some.is in
    let here = calls_there c.args.self.now older w (request_taken link) s c.take_request.new.self c.take_request.ensures.kept in
    at_same c.carry_request.new.self older _ _ _ (ap (λ (o : Option Request). carries_if link o after k) is)
    (c.in_ok-wanting-in-Some.ensures.carries older after k here)
