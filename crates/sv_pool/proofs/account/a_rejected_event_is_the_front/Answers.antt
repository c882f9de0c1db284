use Rattle.sv_pool.proofs.Held.{front_is}
use Rattle.sv_pool.specs.PoolLists.{holding, make_room}
use Rattle.sv_pool.proofs.account.a_rejected_event_is_the_front.Goals as goal

pub returns : goal.returns
returns c = λ listener lists some. front_is (holding listener lists.held) (make_room lists).waiting some
