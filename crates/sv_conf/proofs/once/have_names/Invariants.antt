use Rattle.std.proofs.Common.{◌≡◌, ◌≤◌, ◌+◌, false}
use Rattle.std.specs.HashSet.{contains_text}
use Rattle.sv_conf.specs.Once.{have_names}
use Rattle.sv_conf.proofs.once.have_names.Given as goal

abbrev pub invariant-loop-left : goal.invariant-loop-left
invariant-loop-left l = record {
  same : have_names l.program l.keys l.known l.count (λ name. contains_text l.seen name) l.process l.left
      ≡ have_names l.program l.keys l.initial.known l.count (λ _. false) l.initial.process l.initial.left;
  few : l.process + l.left ≤ 1001024;
}

abbrev pub decreases-loop-left : goal.decreases-loop-left
decreases-loop-left l = l.left
