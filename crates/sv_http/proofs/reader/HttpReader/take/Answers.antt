use Rattle.std.proofs.Common.{◌≡◌, ◌∙◌, sym, subst, true, ℕ, take}
use Rattle.std.specs.List.{list_all}
use Rattle.sv_http.specs.RequestStream.{ends_line}
use Rattle.sv_http.proofs.Advances.{dropped_all}
use Rattle.sv_http.proofs.Steps.{dropped_taken, no_bytes}
use Rattle.sv_http.proofs.reader.HttpReader.take.Goals as goal

pub returns-then-ends_line-clause-advances : goal.returns-then-ends_line-clause-advances
returns-then-ends_line-clause-advances c =
    dropped_taken c.args.self.now.guard c.args.self.now.place c.in-Head.line c.args.self.now.head.items c.args.self.now.body.items _ c.args.asks.now.items c.in-Head.is
    (sym c.as_slice.ensures.value ∙ no_bytes c.as_slice.result.now c.if-is_empty.ensures)
    (subst (λ (count : ℕ). list_all ends_line (take count c.args.bytes.now) ≡ true) (sym c.dropped.ensures.value) (dropped_all c.args.bytes.now))
