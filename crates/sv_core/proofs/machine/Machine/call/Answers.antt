use Rattle.std.proofs.Common.{List, ℕ, Option, ap, sym, ◌∙◌}
use Rattle.sv_calls.specs.Answers.Served.{subject_of}
use Rattle.sv_core.proofs.Shown.{at_same}
use Rattle.sv_core.specs.Calling.{comes_of}
use Rattle.sv_methods.specs.Outcomes.{Outcome, outcome}
use Rattle.sv_xmlcall.specs.Trees.{call_view}
use Rattle.sv_core.proofs.machine.Machine.call.Goals as goal

pub returns-clause-calls : goal.returns-clause-calls
returns-clause-calls c = λ older w k s.
    let link = c.args.link in
    let subject = subject_of (call_view c.args.call.now).params in
    at_same c.come_of.new.self older _ _ _
    (ap (λ (planned : Outcome). comes_of link subject planned w k) (sym (c.in_ok-planned.ensures older w s))
    ∙ ap (λ (named : Option (List ℕ)). comes_of link named (outcome c.in_ok-planned.planned) w k) (sym c.in_ok-subject.ensures))
    (c.in_ok-calling.ensures.comes older w k s)
