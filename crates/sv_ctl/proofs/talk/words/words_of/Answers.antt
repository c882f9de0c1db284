use Rattle.std.proofs.Common.{sym}
use Rattle.sv_ctl.proofs.TalkLemmas.WordLists.{words_step}
use Rattle.sv_ctl.proofs.talk.words.words_of.Goals as goal

pub loop-cut-preserved : goal.loop-cut-preserved
loop-cut-preserved c = record {
  same = words_step c.loop-cut.words _ _ c.loop-cut.left.now c.in-Some.cut.0.now c.in-Some.cut.1.now (sym c.in-Some.ensures.cut)
      c.loop-cut.invariant.same c.in_ok-add_word.ensures;
  valid = c.in-Some.ensures.text;
}
