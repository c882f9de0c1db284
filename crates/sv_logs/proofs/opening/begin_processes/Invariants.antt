use Rattle.std.proofs.Common.{◌≡◌, drop}
use Rattle.sv_logs.specs.Opening.{processes_begin}
use Rattle.sv_logs.proofs.opening.begin_processes.Given as goal

abbrev pub invariant-loop-spec : goal.invariant-loop-spec
invariant-loop-spec l = record {
  begun : processes_begin (drop l.spec-index l.specs) l.sizes ≡ processes_begin l.specs l.initial.sizes;
}
