use Rattle.std.proofs.Common.{◌≤◌, ◌+◌, ◌*◌, ◌^◌, List}
use Rattle.sv_generated.proofs.Counting.{AnswersOn}
use Rattle.sv_generated.specs.Taken.{Beginning, IsAfter, first_of}
use Rattle.sv_out.specs.declared.input.Input.{Input}
use Rattle.sv_generated.proofs.taking.answer_all.Given as goal

abbrev pub invariant-loop : goal.invariant-loop
invariant-loop l = record {
  goes : (begins : Beginning) (inputs : List Input)
      → IsAfter l.initial.machine l.initial.counts (first_of begins) inputs →
      AnswersOn l.machine l.counts (first_of begins) inputs l.counter;
  few_kills : l.counts.kills ≤ l.initial.counts.kills + l.counter * 2 ^ 64;
  few_edges : l.counts.edges ≤ l.initial.counts.edges + l.counter * 2 ^ 64;
}
