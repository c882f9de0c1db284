-- The statuses of commands by their numbers.
use Rattle.std.specs.Prelude.{ℕ, nat_le, if◌then◌else◌}
use Rattle.sv_commands.specs.declared.status.Status.{Status}
use Rattle.sv_commands.specs.declared.status.Status.TheVariants.{Done, Faulted, Refused, NotRunning}
use Rattle.sv_commands.specs.declared.status.Status.TheVariants.{NotFound, Unanswered}

-- the number by which the program tells a status
abbrev pub number : Status → ℕ
number Done = 0
number Faulted = 1
number Refused = 2
number NotRunning = 3
number NotFound = 4
number Unanswered = 7

-- the one of two with the greater number
abbrev pub worse : Status → Status → Status
worse one other = if nat_le (number one) (number other) then other else one
