-- The keys of a section's processes, one process further.
use Rattle.std.proofs.Common.{◌≡◌, ◌+◌, ◌-◌, ◌<◌, ℕ, suc, zero, List, Bool, Result, refl, arith}
use Rattle.sv_keys.specs.KeyTable.{Keys, draft_of}
use Rattle.sv_keys.specs.KnownNames.{with_process}
use Rattle.sv_sections.specs.Programs.Processes.{with_next, drafts_from}
use Rattle.sv_keys.specs.declared.judged.KeyFault.{KeyFault}
use Rattle.sv_keys.specs.declared.table.Draft.{Draft}
use Rattle.sv_expand.specs.declared.names.Names.{Names}

pub one_draft : (listener : Bool) (program : List ℕ) (keys pairs : Keys) (count : ℕ) (done next : Result (List Draft) KeyFault) (process left : ℕ)
    (names : Names) (drafted : Result Draft KeyFault) → 0 < left → names ≡ with_process pairs count process
    → drafted ≡ draft_of listener program keys names → next ≡ with_next done drafted
    → drafts_from listener program keys names.pairs count next (process + 1) (left - 1) ≡ drafts_from listener program keys pairs count done process left
one_draft listener program keys pairs count done next process zero names drafted some is_names is_drafted is_next = absurd (omega arith)
one_draft listener program keys pairs count done next process (suc n) names drafted some is_names is_drafted is_next =
    let e : suc n - 1 ≡ n = omega arith in
    rw (is_next, is_drafted, is_names, e) refl
