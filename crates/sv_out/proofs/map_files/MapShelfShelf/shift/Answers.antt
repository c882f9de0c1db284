use Rattle.sv_out.proofs.Maps.{shift_shown}
use Rattle.sv_out.proofs.map_files.MapShelfShelf.shift.Goals as goal

pub returns-in-Some-clause-change : goal.returns-in-Some-clause-change
returns-in-Some-clause-change c =
    shift_shown c.args.self.now.files c.begin.new.self.files c.remove.new.self c.put.new.self.files _ _ _ _
    c.in_ok-begin.ensures.files c.in_ok-name.ensures c.in-Some.ensures.value c.in-Some.ensures.updates c.in_ok-put-in-Some.ensures.put
