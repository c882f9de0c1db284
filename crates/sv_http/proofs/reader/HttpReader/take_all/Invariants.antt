use Rattle.std.proofs.Common.{◌≡◌, ◌++◌, List, ℕ, length}
use Rattle.sv_http.specs.ReaderPlaces.{Advances, shown}
use Rattle.sv_http.specs.declared.reader.StreamProgress.TheVariants as place
use Rattle.sv_http.proofs.reader.HttpReader.take_all.Given as goal

abbrev pub invariant-loop-rest : goal.invariant-loop-rest
invariant-loop-rest l = record {
  advances : (taken : List ℕ) × (l.piece ≡ taken ++ l.rest)
      × Advances l.initial.self.guard (shown l.initial.self l.initial.asks.items) taken (shown l.self l.asks.items);
  over : l.initial.self.place ≡ place.Over → (l.asks.items ≡ l.initial.asks.items) × (l.self.place ≡ place.Over);
  guard : l.self.guard ≡ l.initial.self.guard;
}

abbrev pub decreases-loop-rest : goal.decreases-loop-rest
decreases-loop-rest l = length l.rest
