use Rattle.std.proofs.Common.{arith}
use Rattle.std.proofs.lemmas.Grind.{text_groups}
use Rattle.sv_sections.proofs.programs.homes.add_home.Goals as goal

pub returns : goal.returns
returns c = grind (arith, text_groups)
