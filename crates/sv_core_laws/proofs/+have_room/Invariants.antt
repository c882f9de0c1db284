use Rattle.std.proofs.Common.{length}
use Rattle.sv_core_laws.proofs.+have_room.Given as goal

abbrev pub decreases-have_room : goal.decreases-have_room
decreases-have_room l = length l.groups.now
