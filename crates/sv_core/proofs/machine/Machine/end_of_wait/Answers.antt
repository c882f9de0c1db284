use Rattle.std.proofs.Common.{◌≡◌, Option, Some, ap, sym, ◌∙◌}
use Rattle.std.specs.Option.{option_copied}
use Rattle.sv_calls.specs.CallBook.{waiting_at}
use Rattle.sv_core.specs.Calling.{ending_of}
use Rattle.sv_core.specs.World.{World}
use Rattle.sv_methods.specs.declared.planned.Waiting.{Waiting}
use Rattle.sv_core.proofs.machine.Machine.end_of_wait.Goals as goal

pub returns-in_ok-answered-in-Some : goal.returns-in_ok-answered-in-Some
returns-in_ok-answered-in-Some c = λ older w s.
    let link = c.args.link in
    let waits : waiting_at link w.calls ≡ Some c.in-Some.waiting.now =
    ap (λ (v : World). waiting_at link v.calls) s.is ∙ sym (c.waiting.ensures s.calls s.calls_kept) ∙ ap option_copied c.in-Some.is in
    c.in_ok-answered-in-Some.ensures older w s ∙ sym (ap (λ (o : Option Waiting). ending_of o w) waits)
