use Rattle.std.proofs.lemmas.Str.{IsUtf8-past_char}
use Rattle.sv_expand.proofs.Turns.{word_turn, word_end}
use Rattle.sv_expand.proofs.words.read_all.Goals as goal

pub loop-c-preserved : goal.loop-c-preserved
loop-c-preserved c =
    let held = c.loop-c.invariant in
    let parts = c.in-Some.ensures.steps.0 in
    record {
      text = IsUtf8-past_char _ _ c.in-Some.c held.text parts;
      same = word_turn _ _ c.in-Some.c _ _ _ held.text parts c.in_ok-read.ensures held.same;
    }

pub returns : goal.returns
returns c = word_end _ _ _ c.in-None.ensures.steps.0.0 c.loop-c.invariant.same
