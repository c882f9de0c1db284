use Rattle.std.proofs.Common.{refl}
use Rattle.sv_out.proofs.Maps.{put_shown}
use Rattle.sv_out.proofs.map_files.MapShelf.set.Goals as goal

pub returns-in-Ok-clause-set : goal.returns-in-Ok-clause-set
returns-in-Ok-clause-set c = put_shown c.args.self.now.files c.insert.new.self _ _ _ refl c.in-Ok.ensures.updates
