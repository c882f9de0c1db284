use Rattle.sv_board.proofs.Fronts.{seen_front}
use Rattle.sv_board.proofs.reader.BoardReader.read.Goals as goal

pub returns-clause-front : goal.returns-clause-front
returns-clause-front g c = seen_front c.args.self.now.count c.in_ok-rows.count _ _ c.look_until.ensures.front c.in_ok-rows.ensures.count
