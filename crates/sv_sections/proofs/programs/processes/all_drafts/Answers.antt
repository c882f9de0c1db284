use Rattle.std.proofs.Common.{◌∙◌, ℕ, ap, arith}
use Rattle.sv_keys.specs.KnownNames.{with_process}
use Rattle.sv_sections.proofs.ProgramsLemmas.Drafts.{one_draft}
use Rattle.sv_sections.proofs.programs.processes.all_drafts.Goals as goal

pub loop-left-preserved : goal.loop-left-preserved
loop-left-preserved c = record {
  same = one_draft c.args.listener c.args.program.now c.args.keys.now c.loop-left.known c.args.count c.loop-left.done c.in_ok-done.done
      c.loop-left.process c.loop-left.left c.in_ok-names.names c.in_ok-draft.draft (omega (arith, c.loop-left-test.true))
      (c.in_ok-names.ensures ∙ ap (λ (n : ℕ). with_process c.loop-left.known n c.loop-left.process) c.get.ensures.value) c.in_ok-draft.ensures c.in_ok-done.ensures
      ∙ c.loop-left.invariant.same;
  few = omega (arith, c.loop-left.invariant.few, c.loop-left-test.true);
}
