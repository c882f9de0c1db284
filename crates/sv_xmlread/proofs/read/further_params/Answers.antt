use Rattle.std.proofs.Common.{sym, ◌∙◌, arith}
use Rattle.sv_xmlcall.specs.Trees.{trees_view}
use Rattle.sv_xmlcall.specs.declared.stop.Stop.TheVariants as stop
use Rattle.sv_xmlcall.proofs.DocumentLaws.{param_halts, param_none, param_some, halts_from, with_flag}
use Rattle.sv_xmlread.proofs.read.further_params.Goals as goal

pub loop-behind-preserved : goal.loop-behind-preserved
loop-behind-preserved c =
    let l = c.loop-behind in
    let t = c.in-Ok-true-default in
    let before = trees_view l.params.items in
    record {
      reads = λ method.
          sym (c.in-Ok.ensures.reads method)
          ∙ sym (param_some method before l.opened l.rest.now t.behind.now _ (l.invariant.reads method) (with_flag _ _ _ _ t.ensures.value t.field-0-0-test));
      shorter = omega (arith, c.in-Ok.ensures.shorter, t.ensures.shorter, l.invariant.shorter);
    }

pub returns-in-Err-one_param : goal.returns-in-Err-one_param
returns-in-Err-one_param c method =
    let l = c.loop-behind in
    let t = c.in-Ok-true-default in
    halts_from c.one_param.new.opened _ _ c.in-Err-one_param.stop
    (param_some method (trees_view l.params.items) l.opened l.rest.now t.behind.now _ (l.invariant.reads method) (with_flag _ _ _ _ t.ensures.value t.field-0-0-test))
    (c.in-Err-one_param.ensures.reads method)

pub returns-in-Ok-false-default : goal.returns-in-Ok-false-default
returns-in-Ok-false-default c method =
    let l = c.loop-behind in
    let t = c.in-Ok-false-default in
    param_none method (trees_view l.params.items) l.opened l.rest.now t.behind.now _ (l.invariant.reads method) (with_flag _ _ _ _ t.ensures.value t.field-0-0-test)

pub returns-in-Err : goal.returns-in-Err
returns-in-Err c method =
    let l = c.loop-behind in
    param_halts method (trees_view l.params.items) l.opened l.rest.now _ (stop.At c.in-Err.bad.0) (l.invariant.reads method) c.in-Err.ensures.value
