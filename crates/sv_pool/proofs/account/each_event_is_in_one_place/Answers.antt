use Rattle.sv_pool.proofs.Places.{each_is_somewhere}
use Rattle.sv_pool.proofs.account.each_event_is_in_one_place.Goals as goal

pub returns : goal.returns
returns c = each_is_somewhere
