use Rattle.std.proofs.Common.{Ok, ap, sym, ◌∙◌}
use Rattle.sv_load.specs.Listing.{each_once}
use Rattle.sv_load.proofs.Loads.{failed_texts}
use Rattle.sv_load.proofs.loading.included_in.Goals as goal

pub returns-clause-fault : goal.returns-clause-fault
returns-clause-fault g c =
    failed_texts (g.S.Shelf.files c.args.shelf.now) c.args.host.now c.args.main.now c.as_slice.result.now c.as_slice-2.result.now
    c.as_slice-3.result.now c.texts_of.result (c.in_ok-patterns.ensures.patterns ∙ ap (λ ps. Ok ps) (sym c.as_slice.ensures.value))
    (λ files told. rw c.as_slice-2.ensures (c.in_ok-names.ensures.listed files told)) (c.as_slice-3.ensures ∙ c.in_ok-names-2.ensures)
    c.texts_of.ensures.failed
