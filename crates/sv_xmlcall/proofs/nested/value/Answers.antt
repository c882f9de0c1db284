use Rattle.std.proofs.Common.{◌∷◌, [], arith, sym, ap, ◌∙◌}
use Rattle.sv_xmlcall.specs.Machine.{Go}
use Rattle.sv_xmlcall.specs.Stages.{stage_view, frames_on, turn_view}
use Rattle.sv_xmlcall.specs.Turns.{turned, settled_state}
use Rattle.sv_xmlcall.proofs.StageLaws.{stage_halts, stage_goes, stage_deep, settle_halts}
use Rattle.sv_xmlcall.proofs.nested.value.Goals as goal

pub returns-in-Err-clause-reads : goal.returns-in-Err-clause-reads
returns-in-Err-clause-reads c frame =
    let l = c.loop-read in
    stage_halts (stage_view l.stage) (frames_on (frame ∷ []) l.stack.items) l.opened l.rest.now _ c.in-Err.stop (l.invariant.reads frame) c.in-Err.ensures.value

pub loop-read-preserved : goal.loop-read-preserved
loop-read-preserved c =
    let l = c.loop-read in
    record {
      reads = λ frame.
          stage_goes (stage_view l.stage) (frames_on (frame ∷ []) l.stack.items) l.opened l.rest.now _ (turn_view c.in-Ok.read.0) c.in-Ok.read.1.now _ (l.invariant.reads frame) c.in-Ok.ensures.value
          (c.in-Ok-On.ensures frame ∙ ap (λ s. Go (settled_state frame s (frames_on (frame ∷ []) c.settle.new.stack.items) c.settle.new.opened)) c.in-Ok-On.field-0-is);
      shorter = omega (arith, c.in-Ok.ensures.shorter, l.invariant.shorter);
    }

pub returns-in-Ok-Done-clause-reads : goal.returns-in-Ok-Done-clause-reads
returns-in-Ok-Done-clause-reads c frame =
    let l = c.loop-read in
    sym (stage_goes (stage_view l.stage) (frames_on (frame ∷ []) l.stack.items) l.opened l.rest.now _ (turn_view c.in-Ok.read.0) c.in-Ok.read.1.now _ (l.invariant.reads frame) c.in-Ok.ensures.value
    (c.in-Ok-Done.ensures frame ∙ ap (λ s. Go (settled_state frame s (frames_on (frame ∷ []) c.settle.new.stack.items) c.settle.new.opened)) c.in-Ok-Done.field-0-is))

pub returns-in-Err-settle-clause-reads : goal.returns-in-Err-settle-clause-reads
returns-in-Err-settle-clause-reads c frame =
    let l = c.loop-read in
    settle_halts (λ f. turned (turn_view c.in-Ok.read.0) (frames_on (f ∷ []) l.stack.items) l.opened) (λ f s. settled_state f s (frames_on (f ∷ []) c.settle.new.stack.items) c.settle.new.opened)
    frame c.settle.new.opened _ c.in-Err-settle.stop c.in-Err-settle.ensures
    (λ e. stage_deep (stage_view l.stage) (frames_on (frame ∷ []) l.stack.items) l.opened l.rest.now _ (turn_view c.in-Ok.read.0) c.in-Ok.read.1.now (l.invariant.reads frame) c.in-Ok.ensures.value e)
