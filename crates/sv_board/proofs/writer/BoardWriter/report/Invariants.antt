use Rattle.sv_board.proofs.writer.BoardWriter.report.Given as goal

abbrev pub ghosts-publish : goal.ghosts-publish
ghosts-publish g a = record { report = a.report.now }
