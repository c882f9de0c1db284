use Rattle.std.proofs.Common.{◌≡◌, List, Option, true, false, ap, sym, ◌∙◌}
use Rattle.sv_calls.specs.Answers.Served.{is_several}
use Rattle.sv_core.proofs.Shown.{at_same}
use Rattle.sv_core.specs.Calling.{begins_several}
use Rattle.sv_multi.specs.Views.{PartTree}
use Rattle.sv_xmlcall.specs.Trees.{call_view}
use Rattle.sv_core.proofs.machine.Machine.begin_call.Goals as goal

pub returns-then-is_several-clause-begins : goal.returns-then-is_several-clause-begins
returns-then-is_several-clause-begins c = λ older w k s.
    let several : is_several (call_view c.args.call.now) ≡ true = sym c.is_several.ensures ∙ c.if-is_several.true in
    rw several (at_same c.begin_several.new.self older _ _ _
    (ap (λ (parts : Option (List PartTree)). begins_several c.args.link c.args.close parts w k) (sym c.in_ok-parts.ensures))
    (c.in_ok-going.ensures.begins older w k s))

pub returns-clause-begins : goal.returns-clause-begins
returns-clause-begins c = λ older w k s.
    let several : is_several (call_view c.args.call.now) ≡ false = sym c.is_several.ensures ∙ c.if-is_several.false in
    rw several (c.in_ok-going-2.ensures.begins older w k s)
