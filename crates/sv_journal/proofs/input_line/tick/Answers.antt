use Rattle.std.proofs.Common.{◌∙◌, ◌≡◌, ap, sym, Ok, List, ℕ}
use Rattle.std.proofs.lemmas.Slice.Eq.{bytes_eq-Decides}
use Rattle.std.specs.Prelude.{codes}
use Rattle.sv_journal.proofs.TickLines.{tick_read}
use Rattle.sv_out.specs.declared.input.Input.TheVariants.{Tick}
use Rattle.sv_journal.proofs.input_line.tick.Goals as goal

pub returns-in-Ok : goal.returns-in-Ok
returns-in-Ok c =
    let rest : c.in-Ok.rest.now ≡ codes " tick" =
    (bytes_eq-Decides c.in-Ok.rest.now c.as_slice.result.now).0 (sym c.eq.ensures ∙ c.if-eq.true) ∙ c.as_slice.ensures in
    tick_read c.args.bytes.now c.in-Ok.milliseconds (c.in-Ok.ensures.value ∙ ap (λ (r : List ℕ). Ok (c.in-Ok.milliseconds, r)) rest)
    ∙ ap (λ (at : ℕ). Ok (Tick at)) (sym c.moment.ensures)
