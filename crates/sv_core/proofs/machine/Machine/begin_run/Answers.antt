use Rattle.std.proofs.Common.{◌≡◌, ℕ, Bool, Option, ap, subst, sym, ◌∙◌}
use Rattle.sv_children.specs.Crew.{Crew, member_at}
use Rattle.sv_core.proofs.Shown.{runs_there}
use Rattle.sv_core.specs.Logging.{notes_if}
use Rattle.sv_core.specs.Moves.{begins_as, begins_output, is_listener_of}
use Rattle.sv_core.specs.StandsFor.{Shows}
use Rattle.sv_core.specs.World.{World}
use Rattle.sv_children.specs.Lines.EdgeLines.{spawned_at}
use Rattle.sv_children.specs.declared.lines.line.Line.{Line}
use Rattle.sv_runs.specs.RunBook.{begun}
use Rattle.sv_core.proofs.machine.Machine.begin_run.Goals as goal

pub returns-in_ok-note_if-in-Some-clause-begins : goal.returns-in_ok-note_if-in-Some-clause-begins
returns-in_ok-note_if-in-Some-clause-begins c = λ older w s.
    let place = c.args.asked.child in
    let run = c.args.asked.run in
    let pid = c.in-Some.pid in
    let children : c.args.self.now.children ≡ w.children = ap (λ (v : World). v.children) (sym s.is) in
    let listens : c.is_listener-is_listener.result ≡ is_listener_of (member_at w.children place) =
    c.is_listener-is_listener.ensures ∙ ap (λ (crew : Crew). is_listener_of (member_at crew place)) children in
    let booked = runs_there c.args.self.now older w (begun run place pid c.is_listener-is_listener.result) s c.begin.new.self c.in_ok-begin-in-Some.ensures in
    let opened = c.in_ok-begin_output-in-Some.ensures.begins older _ booked in
    let line : c.in_ok-line-in-Some.line ≡ spawned_at w.children place pid =
    c.in_ok-line-in-Some.ensures ∙ ap (λ (crew : Crew). spawned_at crew place pid) children in
    let noted = c.in_ok-note_if-in-Some.ensures.notes older _ opened in
    let new = c.note_if.new.self in
    let lined = subst (λ (l : Option Line). Shows new older (notes_if l (begins_output place run pid (record w { runs = begun run place pid c.is_listener-is_listener.result w.runs })))) line noted in
    let heard = subst (λ (b : Bool). Shows new older (notes_if (spawned_at w.children place pid) (begins_output place run pid (record w { runs = begun run place pid b w.runs })))) listens lined in
    subst (λ (started : Option ℕ). Shows new older (begins_as place run started w)) (sym c.in-Some.is) heard
