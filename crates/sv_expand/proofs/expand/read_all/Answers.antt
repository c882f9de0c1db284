use Rattle.std.proofs.Common.{length, ap, ◌∙◌, arith, length-append}
use Rattle.std.proofs.lemmas.Str.{IsUtf8-past_char}
use Rattle.std.specs.Prelude.{encode_utf8}
use Rattle.sv_expand.proofs.Turns.{expansion_turn, expansion_end, expansion_fault}
use Rattle.sv_expand.proofs.expand.read_all.Goals as goal

pub returns-in-Err-clause-fault : goal.returns-in-Err-clause-fault
returns-in-Err-clause-fault c =
    let held = c.loop-at.invariant in
    let step = c.in-Some.ensures.steps in
    expansion_fault c.args.names.now _ _ _ _ c.in-Some.c _ _ c.in-Err.fault held.text step.1 step.0 c.in-Err.ensures.fault held.same

pub loop-at-preserved : goal.loop-at-preserved
loop-at-preserved c =
    let held = c.loop-at.invariant in
    let step = c.in-Some.ensures.steps in
    let size = ap length step.1 ∙ length-append (encode_utf8 c.in-Some.c) _ in
    record {
      text = IsUtf8-past_char _ _ c.in-Some.c held.text step.1;
      place = omega (arith, size, step.2, held.place);
      same = expansion_turn c.args.names.now _ _ _ _ _ c.in-Some.c _ _ _ held.text step.1 step.0 step.2 c.in-Ok.ensures.read held.same;
    }

pub returns-clause-read : goal.returns-clause-read
returns-clause-read c = expansion_end c.args.names.now _ _ _ _ c.in-None.ensures.steps.0 c.loop-at.invariant.same
