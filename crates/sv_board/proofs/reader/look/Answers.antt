use Rattle.sv_board.proofs.RuleKept.{reads}
use Rattle.sv_board.proofs.reader.look.Goals as goal

pub enter_as-requires : goal.enter_as-requires
enter_as-requires c = reads c.args.end.place.id _ c.requires.reading
