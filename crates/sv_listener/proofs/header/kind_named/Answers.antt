use Rattle.std.proofs.Common.{ap, sym, ◌∙◌}
use Rattle.std.proofs.lemmas.Slice.Eq.{bytes_eq-Decides}
use Rattle.sv_listener.proofs.Spelled.{kind_is_found}
use Rattle.sv_listener.specs.Reading.{kind_in}
use Rattle.sv_listener.proofs.header.kind_named.Goals as goal

pub returns-then-eq : goal.returns-then-eq
returns-then-eq c =
    sym (kind_is_found c.usual_kind-usual.result)
    ∙ ap kind_in (sym c.name.ensures ∙ (bytes_eq-Decides c.name.result.now c.args.name.now).0 (sym c.eq.ensures ∙ c.if-eq.true))
