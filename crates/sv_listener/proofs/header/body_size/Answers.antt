use Rattle.std.proofs.Common.{sym, ◌∙◌}
use Rattle.sv_listener.proofs.Numbers.{size_endless, size_good}
use Rattle.sv_listener.proofs.header.body_size.Goals as goal

pub returns-in-Some : goal.returns-in-Some
returns-in-Some c =
    size_good c.args.bytes.now c.in-Some.value (sym c.is_number.ensures ∙ c.if-not-is_number.false) c.in-Some.ensures.1 c.in-Some.ensures.0

pub returns-in-None : goal.returns-in-None
returns-in-None c = size_endless c.args.bytes.now (sym c.is_number.ensures ∙ c.if-not-is_number.false) c.in-None.ensures
