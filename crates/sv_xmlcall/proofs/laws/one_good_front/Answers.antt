use Rattle.sv_xmlcall.specs.Beginnings.{BeginsCall, BeginsReply}
use Rattle.sv_xmlcall.proofs.JudgedLaws.{one_longest}
use Rattle.sv_xmlcall.proofs.laws.one_good_front.Goals as goal

pub returns : goal.returns
returns c = record { calls = one_longest BeginsCall; replies = one_longest BeginsReply }
