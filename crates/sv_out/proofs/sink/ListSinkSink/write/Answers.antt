use Rattle.std.proofs.Common.{◌≡◌, ◌==◌, ℕ, true, ap, sym, ◌∙◌, subst}
use Rattle.std.specs.List.{list_any}
use Rattle.sv_out.specs.Plans.{fails_next, sink_plan}
use Rattle.sv_out.proofs.sink.ListSinkSink.write.Goals as goal

-- a call that was told to fail is one of those
pub returns-then-contains-clause-only : goal.returns-then-contains-clause-only
returns-then-contains-clause-only c = λ _ none.
    let told : list_any (λ call. call == c.saturating_add-self.result) c.args.self.now.failing.items ≡ true
    = ap (λ calls. list_any (λ call. call == c.saturating_add-self.result) calls) (sym c.as_slice.ensures.value)
    ∙ sym c.contains.ensures.value ∙ c.if-contains.true in
    let fails : fails_next (sink_plan c.args.self.now) ≡ true
    = subst (λ (n : ℕ). list_any (λ call. call == n) c.args.self.now.failing.items ≡ true) c.saturating_add-self.ensures told in
    absurd (cc)
