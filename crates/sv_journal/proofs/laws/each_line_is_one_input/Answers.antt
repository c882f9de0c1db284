use Rattle.sv_journal.proofs.OneMeaning.{one_input}
use Rattle.sv_journal.proofs.laws.each_line_is_one_input.Goals as goal

pub returns : goal.returns
returns c one other f g e = one_input one other f g e
