use Rattle.std.proofs.Common.{◌∙◌}
use Rattle.sv_out.proofs.Maps.{exact_names, rising_names}
use Rattle.sv_out.proofs.map_files.MapShelfShelf.names.Goals as goal

pub returns-clause-rising : goal.returns-clause-rising
returns-clause-rising c =
    rising_names c.args.pattern.now _ _ _ _ c.loop-name.invariant c.in-None.ensures.steps.0
    (c.into_iter-name-iterator.ensures.into_iter_gives ∙ c.keys-name-items.ensures.rest) c.keys-name-items.ensures.ordered

pub returns-clause-exact : goal.returns-clause-exact
returns-clause-exact c = λ files told.
    exact_names c.args.pattern.now _ _ _ _ c.begin.new.self.files c.args.self.now.files files
    c.loop-name.invariant c.in-None.ensures.steps.0 c.into_iter-name-iterator.ensures.into_iter_gives
    c.in_ok-begin.ensures.files c.keys-name-items.ensures.has told
