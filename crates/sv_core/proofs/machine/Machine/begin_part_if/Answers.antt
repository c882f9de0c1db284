use Rattle.std.proofs.Common.{Option, None, ap}
use Rattle.std.specs.Option.{option_map}
use Rattle.sv_core.proofs.Left.{calling_none, made_at}
use Rattle.sv_core.proofs.Shown.{at_same}
use Rattle.sv_core.specs.Calling.{begins_part_if}
use Rattle.sv_core.specs.Left.{calling}
use Rattle.sv_multi.specs.Views.{part_view}
use Rattle.sv_multi.specs.declared.part.Part.{Part}
use Rattle.sv_core.proofs.machine.Machine.begin_part_if.Goals as goal

pub returns-in-None-clause-begins : goal.returns-in-None-clause-begins
returns-in-None-clause-begins c = λ older w k s.
    let link = c.args.link in
    at_same c.args.self.now older _ (k w) _ (ap (λ (part : Option Part). begins_part_if link (option_map part_view part) w k) c.in-None.is)
    (made_at c.args.self.now older w k (calling link None k) (calling_none link k) s)

pub returns-in_ok-calling-in-Some-clause-begins : goal.returns-in_ok-calling-in-Some-clause-begins
returns-in_ok-calling-in-Some-clause-begins c = λ older w k s.
    at_same c.begin_part.new.self older _ _ _ (ap (λ (part : Option Part). begins_part_if c.args.link (option_map part_view part) w k) c.in-Some.is)
    (c.in_ok-calling-in-Some.ensures.begins older w k s)
