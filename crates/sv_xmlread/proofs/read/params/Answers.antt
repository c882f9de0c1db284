use Rattle.std.proofs.Common.{[], List, sym, ap, ◌∙◌}
use Rattle.sv_xmlcall.specs.Trees.{trees_view}
use Rattle.sv_xmlcall.specs.Machine.{AtDone, At, at, run, the_limits}
use Rattle.sv_xmlcall.specs.declared.value.Value.{Value}
use Rattle.sv_xmlcall.specs.declared.stop.Stop.TheVariants as stop
use Rattle.sv_xmlcall.proofs.DocumentLaws.{begun_some, begun_none, begun_halts, with_flag, a_call}
use Rattle.sv_xmlread.proofs.read.params.Goals as goal

pub returns-in-Ok-true-default : goal.returns-in-Ok-true-default
returns-in-Ok-true-default c method =
    let t = c.in-Ok-true-default in
    begun_some method c.args.opened.now c.args.bytes.now t.rest.now c.further_params.new.opened (λ x. trees_view x.0.items) (λ x. x.1.now) c.further_params.result (with_flag _ _ _ _ t.ensures t.field-0-0-test) (c.further_params.ensures method)

pub returns-in-Ok-false-default : goal.returns-in-Ok-false-default
returns-in-Ok-false-default c method =
    let t = c.in-Ok-false-default in
    begun_none method c.args.opened.now c.args.bytes.now t.rest.now (with_flag _ _ _ _ t.ensures t.field-0-0-test)
    ∙ ap (λ (x : List Value). run the_limits (at (At (AtDone (a_call method (trees_view x)))) [] c.args.opened.now) t.rest.now) (sym c.new.ensures.items)

pub returns-in-Err : goal.returns-in-Err
returns-in-Err c method = begun_halts method c.args.opened.now c.args.bytes.now (stop.At c.in-Err.bad.0) c.in-Err.ensures
