use Rattle.std.proofs.Common.{ap, subst, ◌∙◌}
use Rattle.sv_calls.specs.Answers.Served.{reads_back}
use Rattle.sv_core.specs.Calling.{answers_call}
use Rattle.sv_core.specs.StandsFor.{Shows}
use Rattle.sv_xmlcall.specs.Trees.{Reply}
use Rattle.sv_core.proofs.machine.Machine.answer_read.Goals as goal

pub returns-clause-answered : goal.returns-clause-answered
returns-clause-answered c = λ older w s.
    subst (λ (reply : Reply). Shows c.answer_call.new.self older (answers_call c.args.link reply w))
    (c.in_ok-answered.ensures ∙ ap (reads_back c.args.reading.now) c.file_reply.ensures)
    (c.in_ok-answer_call.ensures.answers older w s)
