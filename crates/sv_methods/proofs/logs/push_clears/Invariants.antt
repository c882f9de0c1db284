use Rattle.std.proofs.Common.{◌≡◌, ◌++◌, map, take}
use Rattle.sv_methods.specs.Logs.{clear_request}
use Rattle.sv_methods.proofs.logs.push_clears.Given as goal

abbrev pub invariant-loop-spec : goal.invariant-loop-spec
invariant-loop-spec l = l.requests.items ≡ l.initial.requests.items ++ map clear_request (take l.spec-index l.specs)
