-- What is written to logs, on the worlds that the machine's fields show.
use Rattle.std.proofs.Common.{◌≡◌, ℕ, List, [], ◌∷◌, ◌++◌, ap, append_assoc, refl, sym, ◌∙◌}
use Rattle.sv_base.specs.declared.spec.LogSpec.{LogSpec}
use Rattle.sv_core.specs.Logging.{logs, tells_drop, tells_drops}
use Rattle.sv_core.specs.World.{World}
use Rattle.sv_logs.specs.Logging.{log_orders, logged}
use Rattle.sv_out.specs.declared.order.Order.{Order}

-- a piece was added to a log
pub logged_there : (w : World) (older given later : List Order) (sizes : List (List ℕ × ℕ)) (log : LogSpec) (piece : List ℕ)
    → w.given ≡ older ++ given → sizes ≡ logged log piece w.sizes → later ≡ given ++ log_orders log piece w.sizes
    → logs log piece w ≡ record w { sizes = sizes; given = older ++ later }
logged_there w older given later sizes log piece is is_sizes added =
    let all : w.given ++ log_orders log piece w.sizes ≡ older ++ later =
    rw (is, added) (append_assoc older given (log_orders log piece w.sizes)) in
    ap (λ (known : List (List ℕ × ℕ)). record w { sizes = known; given = w.given ++ log_orders log piece w.sizes }) (sym is_sizes)
    ∙ ap (λ (orders : List Order). record w { sizes = sizes; given = orders }) all

-- one more report
pub one_more_told : (reports : List Order) (report : Order) (w : World)
    → tells_drops (reports ++ report ∷ []) w ≡ tells_drop report (tells_drops reports w)
one_more_told [] report w = refl
one_more_told (first ∷ reports) report w = one_more_told reports report (tells_drop first w)
