use Rattle.sv_load.proofs.Listings.{all_listed}
use Rattle.sv_load.proofs.listing.names_of_all.Goals as goal

pub returns-clause-listed : goal.returns-clause-listed
returns-clause-listed g c = λ files told.
    all_listed files c.args.patterns.now c.loop-left.left.now c.loop-left.names.items c.from_vec.result c.in_default.len_below
    (c.loop-left.invariant.listed files told) c.from_vec.ensures
