use Rattle.std.proofs.Common.{ap, sym, ◌∙◌}
use Rattle.sv_ini.specs.declared.section.Section.{Section}
use Rattle.sv_ini.proofs.Index.{index_kept}
use Rattle.sv_ini.proofs.reading.Drafts.set.Goals as goal

pub invariant_of-self : goal.invariant_of-self
invariant_of-self c = λ name.
    let same = c.set.ensures.name ∙ ap (λ (s : Section). s.name) c.index_mut-draft.ensures.value in
    c.self.invariant name
    ∙ sym (index_kept (λ (s : Section). s.name) c.self.inside.drafts.items c.args.place c.set.new.self
    c.index_mut-draft.result.now same name)
