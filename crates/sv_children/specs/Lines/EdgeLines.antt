-- The lines that a child gives: at its edges, at its spawn, and at its KILL.
use Rattle.std.specs.Prelude.{ℕ, Option, Some, None, false}
use Rattle.sv_base.specs.declared.state.How.{How}
use Rattle.sv_base.specs.declared.state.State.{State}
use Rattle.sv_base.specs.declared.state.State.TheVariants.{Stopped, Starting, Running, Backoff}
use Rattle.sv_base.specs.declared.state.State.TheVariants.{Stopping, Exited, Fatal}
use Rattle.sv_child.specs.declared.step.ChildDeed.{ChildDeed}
use Rattle.sv_child.specs.declared.step.ChildDeed.TheVariants.{Kill}
use Rattle.sv_child.specs.declared.step.Edge.{Edge}
use Rattle.sv_children.specs.Crew.{Crew, Member, member_at}
use Rattle.sv_children.specs.declared.news.News.{News}
use Rattle.sv_children.specs.declared.news.News.TheVariants.{Time, Exit}
use Rattle.sv_children.specs.EdgeFacts.{is_expected}
use Rattle.sv_children.specs.Lines.Rows.{exited_line, gave_up_line, killing_line, refused_line, spawned_line}
use Rattle.sv_children.specs.Lines.Rows.{stopped_line, success_line}
use Rattle.sv_children.specs.declared.lines.line.Line.{Line}

-- how the process ended, where the news are that it did
abbrev pub how_of : News → Option How
how_of (Exit run how) = Some how
how_of news = None

-- the line of entering this state from that: of a child as it is after its step, whose process
-- ended so, if it did
abbrev pub entry_line : State → State → Option How → Member → Option Line
entry_line Running from how m = Some (success_line m.spec)
entry_line Backoff Starting (Some how) m = Some (exited_line m.spec.name how false)
entry_line Backoff Starting None m = Some (refused_line m.child.fault)
entry_line Exited from (Some how) m =
    Some (exited_line m.spec.name how (is_expected m.spec m.child))
entry_line Stopped Stopping (Some how) m = Some (stopped_line m.spec.name how)
entry_line Fatal from how m = Some (gave_up_line m.spec.name)
entry_line to from how m = None

-- of a child that may not be there
abbrev pub line_of : Option Member → Option How → Edge → Option Line
line_of None how edge = None
line_of (Some m) how edge = entry_line edge.to edge.from how m

-- the line of an edge of the child of a place
abbrev pub line_at : Crew → ℕ → Option How → Edge → Option Line
line_at crew place how edge = line_of (member_at crew place) how edge

-- that the spawn of a child was answered by this number
abbrev pub spawned_of : Option Member → ℕ → Option Line
spawned_of None pid = None
spawned_of (Some m) pid = Some (spawned_line m.spec.name pid)

abbrev pub spawned_at : Crew → ℕ → ℕ → Option Line
spawned_at crew place pid = spawned_of (member_at crew place) pid

-- that a child is sent KILL
abbrev pub killing_of : Option Member → Option Line
killing_of None = None
killing_of (Some m) = Some (killing_line m.spec.name m.child.pid)

-- what is done for the child of a place at these news: a signal that time brings is the KILL by
-- deadline
abbrev pub killing_at : News → Option ChildDeed → Crew → ℕ → Option Line
killing_at Time (Some (Kill signal group)) crew place = killing_of (member_at crew place)
killing_at news deed crew place = None
