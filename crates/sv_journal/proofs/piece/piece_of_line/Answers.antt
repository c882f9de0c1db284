use Rattle.std.proofs.lemmas.Bool.{false≢true}
use Rattle.sv_journal.proofs.PieceLaws.{piece_none}
use Rattle.sv_journal.proofs.piece.piece_of_line.Goals as goal

-- src/piece.rt:50:1
pub returns-in-None : goal.returns-in-None
returns-in-None c =
    piece_none c.args.bytes.now c.in_ok-value.value.items c.in_ok-value.ensures.value (λ h. false≢true (c.in-None.ensures.valid.1 h)) c.in_ok-value.ensures.most
