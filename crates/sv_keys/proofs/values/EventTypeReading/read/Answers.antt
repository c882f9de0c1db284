use Rattle.std.proofs.Common.{◌∙◌, ap}
use Rattle.sv_keys.specs.Values.{kind_of}
use Rattle.sv_keys.proofs.values.EventTypeReading.read.Goals as goal

pub returns : goal.returns
returns c = c.kind_of.ensures.found ∙ ap kind_of c.as_str.ensures
