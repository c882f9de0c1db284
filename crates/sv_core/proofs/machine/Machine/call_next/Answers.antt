use Rattle.std.proofs.Common.{◌≡◌, Option, ap, sym, ◌∙◌}
use Rattle.std.specs.Option.{option_map}
use Rattle.sv_calls.specs.CallBook.{CallBook, part_at, part_taken}
use Rattle.sv_core.proofs.Shown.{at_same, calls_there}
use Rattle.sv_core.specs.Calling.{begins_part_if}
use Rattle.sv_core.specs.World.{World}
use Rattle.sv_multi.specs.Views.{PartTree, part_view}
use Rattle.sv_core.proofs.machine.Machine.call_next.Goals as goal

pub returns-clause-calls : goal.returns-clause-calls
returns-clause-calls c = λ older w k s.
    let link = c.args.link in
    let after : World = record w { calls = part_taken link w.calls } in
    let book : w.calls ≡ s.calls = ap (λ (v : World). v.calls) s.is in
    let is : part_at link w.calls ≡ option_map part_view c.take_part-part.result =
    ap (λ (calls : CallBook). part_at link calls) book ∙ sym (c.take_part-part.ensures.part s.calls s.calls_kept) in
    let here = calls_there c.args.self.now older w (part_taken link) s c.take_part-part.new.self c.take_part-part.ensures.kept in
    at_same c.begin_part_if.new.self older _ _ _ (ap (λ (o : Option PartTree). begins_part_if link o after k) is)
    (c.in_ok-calling.ensures.begins older after k here)
