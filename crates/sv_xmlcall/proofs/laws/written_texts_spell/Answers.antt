use Rattle.sv_xmlcall.proofs.WrittenLaws.{written_call_spells, written_reply_spells}
use Rattle.sv_xmlcall.proofs.laws.written_texts_spell.Goals as goal

pub returns : goal.returns
returns c = record { calls = written_call_spells; replies = written_reply_spells }
