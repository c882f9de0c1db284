-- How a conversation goes on.
use Rattle.std.specs.Prelude.{ℕ}
use Rattle.sv_commands.specs.Statuses as status
use Rattle.sv_commands.specs.declared.status.Status.TheVariants.{Unanswered}
use Rattle.sv_ctl.specs.declared.talk.course.Course.{Course}
use Rattle.sv_ctl.specs.declared.talk.course.Course.TheVariants.{On, Broken, Quit, Lost, NoMemory}
use Rattle.sv_ctl.specs.declared.talk.course.Course.TheVariants.{Unprinted}

-- the status of the program
abbrev pub number : Course → ℕ
number (On so_far) = status.number so_far
number (Quit so_far) = status.number so_far
number Broken = status.number Unanswered
number Lost = 5
number NoMemory = 6
number Unprinted = 8

-- how it goes on after a command: a further one may follow one that its reply ended
abbrev pub settled : Course → Course
settled Broken = On Unanswered
settled course = course

-- there is no connection, or the link, the input or the shelf failed
abbrev pub IsLost : Course → Type 0
IsLost Lost = Unit {0}
IsLost course = ⊥

-- a text may ask for it: neither memory nor the output failed
abbrev pub IsSayable : Course → Type 0
IsSayable NoMemory = ⊥
IsSayable Unprinted = ⊥
IsSayable course = Unit {0}

-- the output failed
abbrev pub IsUnprinted : Course → Type 0
IsUnprinted Unprinted = Unit {0}
IsUnprinted course = ⊥
