use Rattle.sv_xmlcall.proofs.WrittenLaws.{written_call_spells, written_reply_spells}
use Rattle.sv_xmlcall.proofs.SpelledLaws.{call_again, reply_again}
use Rattle.sv_xmlcall.proofs.laws.written_texts_are_read.Goals as goal

pub returns : goal.returns
returns c = record {
  calls = λ call result w i only. call_again call result i (only call (written_call_spells call w));
  replies = λ reply result w i only. reply_again reply result i (only reply (written_reply_spells reply w));
}
