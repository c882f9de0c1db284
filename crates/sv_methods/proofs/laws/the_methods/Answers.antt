use Rattle.std.proofs.Common.{ap}
use Rattle.sv_methods.proofs.MethodLaws.{named_by}
use Rattle.sv_methods.specs.MethodTable.{signature_row}
use Rattle.sv_methods.proofs.laws.the_methods.Goals as goal

pub returns-clause-named : goal.returns-clause-named
returns-clause-named c = λ method. named_by method

pub returns-clause-signed : goal.returns-clause-signed
returns-clause-signed c = λ method. ap signature_row (named_by method)
