use Rattle.std.proofs.Common.{◌≡◌, Option, ap, subst, sym, ◌∙◌}
use Rattle.sv_children.specs.Crew.{Crew}
use Rattle.sv_core.specs.Logging.{notes_if}
use Rattle.sv_core.specs.StandsFor.{Shows}
use Rattle.sv_core.specs.World.{World}
use Rattle.sv_children.specs.Lines.EdgeLines.{killing_at}
use Rattle.sv_children.specs.declared.lines.line.Line.{Line}
use Rattle.sv_core.proofs.machine.Machine.act_noted.Goals as goal

pub returns-clause-does : goal.returns-clause-does
returns-clause-does c = λ older w k s.
    let news = c.args.news.now in
    let children : c.args.self.now.children ≡ w.children = ap (λ (v : World). v.children) (sym s.is) in
    let line : c.in_ok-line.line ≡ killing_at news c.args.deed w.children c.args.child =
    c.in_ok-line.ensures ∙ ap (λ (crew : Crew). killing_at news c.args.deed crew c.args.child) children in
    let noted = subst (λ (l : Option Line). Shows c.note_if.new.self older (notes_if l w)) line
    (c.in_ok-note_if.ensures.notes older w s) in
    c.in_ok-asked.ensures.does older _ k noted
