use Rattle.std.proofs.Common.{sym, ap, ◌∙◌}
use Rattle.sv_expand.specs.Places.{text_at}
use Rattle.sv_expand.proofs.Places.{at_place, no_place}
use Rattle.sv_expand.proofs.names.NamedTexts.text_of.Goals as goal

pub returns-in-Some : goal.returns-in-Some
returns-in-Some c =
    c.text_at.ensures ∙ ap (text_at c.in-Some.place) c.as_slice.ensures ∙ sym (at_place c.args.name.now c.args.self.now c.in-Some.place (sym c.in-Some.ensures))

pub returns-in-None : goal.returns-in-None
returns-in-None c = sym (no_place c.args.name.now c.args.self.now (sym c.in-None.ensures))
