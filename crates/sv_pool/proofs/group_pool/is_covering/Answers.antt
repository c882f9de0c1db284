use Rattle.sv_pool.proofs.Covering.{covers_is}
use Rattle.sv_pool.proofs.group_pool.is_covering.Goals as goal

pub returns : goal.returns
returns c = covers_is c.args.upper c.args.lower c.covers.result c.covers.ensures
