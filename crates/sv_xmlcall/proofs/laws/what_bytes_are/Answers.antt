use Rattle.sv_xmlcall.proofs.CalledLaws.{called_spells, spells_called, replied_spells, spells_replied}
use Rattle.sv_xmlcall.proofs.laws.what_bytes_are.Goals as goal

pub returns : goal.returns
returns c = record {
  call_spelled = called_spells;
  spelled_call = spells_called;
  reply_spelled = replied_spells;
  spelled_reply = spells_replied;
}
