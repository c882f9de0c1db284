-- What comes to the child of a place, and what becomes of it: the step that the table of the manual
-- gives.
use Rattle.std.specs.Prelude.{ℕ, List, Option, Some, None, Bool, false, ◌&&◌, not, nat_eq}
use Rattle.std.specs.Prelude.{slice_set, if◌then◌else◌}
use Rattle.sv_base.specs.declared.ids.Run.{Run}
use Rattle.sv_base.specs.declared.spec.Spec.{Spec}
use Rattle.sv_base.specs.declared.state.Mood.{Mood}
use Rattle.sv_child.specs.ChildTable.{Stimulus, happens}
use Rattle.sv_child.specs.ChildTable.Stimulus.{Ended, Spawned, Spawn_failed, Start as Is_to_start}
use Rattle.sv_child.specs.ChildTable.Stimulus.{Stop as Is_to_stop, Time as Time_passes}
use Rattle.sv_child.specs.Moves.{Answer}
use Rattle.sv_child.specs.declared.child.Child.{Child}
use Rattle.sv_child.specs.declared.step.ChildDeed.{ChildDeed}
use Rattle.sv_child.specs.declared.step.Step.{Step}
use Rattle.sv_children.specs.Crew.{Crew, Member, member_at}
use Rattle.sv_children.specs.declared.news.News.{News}
use Rattle.sv_children.specs.declared.news.News.TheVariants.{Time, Exit, Start, Stop}
use Rattle.sv_children.specs.declared.news.Told.{Told}
use Rattle.sv_children.specs.declared.news.Told.TheVariants.{Started, NotStarted}

-- the child's process runs as this run
abbrev pub is_run : Option Run → ℕ → Bool
is_run None run = false
is_run (Some own) run = nat_eq own.0 run

-- and it has one
abbrev pub is_living_run : Run → Child → Bool
is_living_run run child = is_run child.run run.0 && not (nat_eq child.pid 0)

-- the stimulus that news are to a child, if they concern it: an exit is that of one run
abbrev pub stimulus_of : News → Child → Option Stimulus
stimulus_of Time child = Some Time_passes
stimulus_of (Exit run how) child = if is_living_run run child then Some (Ended how) else None
stimulus_of Start child = Some Is_to_start
stimulus_of Stop child = Some Is_to_stop

-- the stimulus of a spawn's answer
abbrev pub stimulus_told : Run → Told → Child → Option Stimulus
stimulus_told run (Started pid) child = Some (Spawned run pid)
stimulus_told run (NotStarted fault) child = Some (Spawn_failed fault)

-- what the table says to a child that a stimulus may come to
abbrev pub said : Option Stimulus → Spec → Child → Mood → ℕ → Option Answer
said None spec child mood now = None
said (Some stimulus) spec child mood now = Some (happens spec child stimulus mood now)

-- to a child as the roster has it, if it is there
abbrev pub said_to : (Child → Option Stimulus) → Option Member → Mood → ℕ → Option Answer
said_to stimulus None mood now = None
said_to stimulus (Some m) mood now = said (stimulus m.child) m.spec m.child mood now

-- what it says to the child of a place
abbrev pub said_at : (Child → Option Stimulus) → ℕ → Mood → ℕ → Crew → Option Answer
said_at stimulus place mood now crew = said_to stimulus (member_at crew place) mood now

-- the step that a child took
abbrev pub step_of : Option Answer → Option Step
step_of None = None
step_of (Some answer) = Some answer.step

-- what is to be done after it
abbrev pub deed_of : Option Step → Option ChildDeed
deed_of None = None
deed_of (Some step) = step.deed

-- the child after it
abbrev pub child_after : Option Answer → Child → Child
child_after None child = child
child_after (Some answer) child = answer.child

-- all children after it
abbrev pub children_after : ℕ → Option Answer → List Child → List Child
children_after place None children = children
children_after place (Some answer) children = slice_set children place answer.child

-- the crew after it
abbrev pub moved : ℕ → Option Answer → Crew → Crew
moved place answer crew = record crew { all = children_after place answer crew.all }
