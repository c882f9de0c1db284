use Rattle.crossbeam_channel.specs.Ends.{ruled_capacity, sends_on}
use Rattle.sv_lane.proofs.making.lane.Given as goal

abbrev pub ghosts-open : goal.ghosts-open
ghosts-open g a = record { room = ruled_capacity (sends_on a.sender.now) }
