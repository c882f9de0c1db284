use Rattle.std.proofs.Common.{sym, ◌∙◌}
use Rattle.sv_pipes.proofs.Captures.{inside_again, inside_on}
use Rattle.sv_pipes.proofs.captured.Capture.inside.Goals as goal

pub returns-then-byte-eq60-clause-step : goal.returns-then-byte-eq60-clause-step
returns-then-byte-eq60-clause-step c = λ logged.
    inside_again c.args.self.now.side c.args.self.now.limit c.args.self.now.matched c.args.byte c.args.self.now.body.items
    c.keep_front.new.body.items c.args.parts.now.items logged c.requires (sym c.is_next.ensures.value ∙ c.if-is_next.false)
    c.if-byte-eq60.true c.in_ok-keep_front.ensures.kept

pub returns-in_ok-keep-clause-step : goal.returns-in_ok-keep-clause-step
returns-in_ok-keep-clause-step c = λ logged.
    inside_on c.args.self.now.side c.args.self.now.limit c.args.self.now.matched c.args.byte c.args.self.now.body.items
    c.keep_front.new.body.items c.keep.new.body.items c.args.parts.now.items logged c.requires
    (sym c.is_next.ensures.value ∙ c.if-is_next.false) c.if-byte-eq60.false c.in_ok-keep_front.ensures.kept c.in_ok-keep.ensures.kept
