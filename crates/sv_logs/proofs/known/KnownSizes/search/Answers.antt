use Rattle.std.proofs.Common.{rules}
use Rattle.std.proofs.lemmas.Fn.{always_returns_same}
use Rattle.std.specs.Cmp.Lexicographic.{slice_cmp}
use Rattle.std.specs.Ordering.{nat_cmp}
use Rattle.sv_logs.proofs.Places.{searched}
use Rattle.sv_logs.proofs.known.KnownSizes.search.Goals as goal

pub returns : goal.returns
returns c =
    let facts = c.binary_search_by.ensures in
    let by_name = facts.position (λ known. slice_cmp nat_cmp known.0 c.args.file.now) (always_returns_same _ _ _ (λ a r g called. (search rules, search rules))) in
    rw (← c.self.view_is, ← c.as_slice.ensures.value) (searched c.args.file.now _ (rw c.as_slice.ensures.value c.self.invariant) _ facts.bound by_name)
