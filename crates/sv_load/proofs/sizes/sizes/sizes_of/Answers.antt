use Rattle.std.proofs.Common.{rules}
use Rattle.sv_load.proofs.SizesLemmas.Logs.{names_are, names_rising}
use Rattle.sv_load.proofs.sizes.sizes.sizes_of.Goals as goal

pub returns-clause-files : goal.returns-clause-files
returns-clause-files g c =
    names_are (λ sizes. sizes.items) c.args.config.now c.as_slice.result.now c.sizes_of_all.result
    c.sizes_of_all.ensures.names (search rules)

pub returns-clause-rise : goal.returns-clause-rise
returns-clause-rise g c =
    names_rising (λ sizes. sizes.items) c.as_slice.result.now c.sizes_of_all.result
    c.sizes_of_all.ensures.names c.as_slice.ensures.rise
