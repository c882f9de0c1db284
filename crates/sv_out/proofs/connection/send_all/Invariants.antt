use Rattle.std.proofs.Common.{◌≡◌, ◌≤◌, List, ℕ, ◌++◌, length, option_map}
use Rattle.sv_out.specs.Exchanges.{sent_more}
use Rattle.sv_out.proofs.connection.send_all.Given as goal

abbrev pub invariant-loop-rest : goal.invariant-loop-rest
invariant-loop-rest g l = record {
  sent : (front : List ℕ) × (l.text ≡ front ++ l.rest) × (g.K.Link.told l.link ≡ option_map (sent_more front) (g.K.Link.told l.initial.link));
  later : g.K.Link.faults l.initial.link ≤ g.K.Link.faults l.link;
}

abbrev pub decreases-loop-rest : goal.decreases-loop-rest
decreases-loop-rest g l = length l.rest
