use Rattle.std.proofs.Common.{[], sym, ap, ◌∙◌}
use Rattle.sv_xmlcall.specs.Trees.{Trees, view, trees_view}
use Rattle.sv_xmlcall.specs.Machine.{InParam, AtParams, AtParamEnd, At, at, run, the_limits, kept}
use Rattle.sv_xmlcall.specs.declared.tag.Tag.TheVariants as tag
use Rattle.sv_xmlcall.specs.declared.stop.Stop.TheVariants as stop
use Rattle.sv_xmlcall.proofs.DocumentLaws.{closes_param, closing_goes, closing_halts}
use Rattle.sv_xmlread.proofs.read.one_param.Goals as goal

pub returns-in-Ok-kept-clause-reads : goal.returns-in-Ok-kept-clause-reads
returns-in-Ok-kept-clause-reads c method =
    let before = trees_view c.args.params.items in
    let n = c.value.new.opened in
    let all = kept the_limits n before (view c.in-Ok.one) in
    c.in-Ok.ensures.reads (InParam method before)
    ∙ closing_goes (AtParamEnd method all) tag.EndParam n c.in-Ok.rest.now c.in-Ok-closing.behind.now (closes_param method all) c.in-Ok-closing.ensures.value
    ∙ ap (λ (q : Trees). run the_limits (at (At (AtParams method q)) [] n) c.in-Ok-closing.behind.now) (sym c.in-Ok-kept.ensures)

pub returns-in-Err-closing-clause-reads : goal.returns-in-Err-closing-clause-reads
returns-in-Err-closing-clause-reads c method =
    let before = trees_view c.args.params.items in
    let n = c.value.new.opened in
    let all = kept the_limits n before (view c.in-Ok.one) in
    closing_halts (AtParamEnd method all) tag.EndParam n c.in-Ok.rest.now _ (stop.At c.in-Err-closing.bad.0) (closes_param method all) (c.in-Ok.ensures.reads (InParam method before)) c.in-Err-closing.ensures.value
