use Rattle.std.proofs.Common.{◌≡◌, map, take}
use Rattle.sv_groups.specs.StartOrder.{processes}
use Rattle.sv_methods.specs.Logs.{clear_request}
use Rattle.sv_methods.proofs.logs.clear_requests.Given as goal

abbrev pub invariant-loop-group : goal.invariant-loop-group
invariant-loop-group l = l.requests.items ≡ map clear_request (processes (take l.group-index l.groups))
