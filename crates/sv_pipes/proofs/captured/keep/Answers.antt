use Rattle.std.proofs.Common.{ℕ, ◌++◌, ◌-◌, length, drop, ap, ◌∙◌}
use Rattle.sv_pipes.proofs.PlainBytes.{kept_at_once}
use Rattle.sv_pipes.specs.CaptureCut.{last_of}
use Rattle.sv_pipes.proofs.captured.keep.Goals as goal

pub returns-clause-kept : goal.returns-clause-kept
returns-clause-kept c =
    let limit : ℕ = c.args.limit in
    let body = c.args.body.now.items in
    let bytes = c.args.bytes.now in
    c.in_ok-push_all.ensures.items ∙ ap (λ front. front ++ c.split_at.result.1.now) c.keep_last.ensures
    ∙ ap (λ last. last_of (limit - length last) body ++ last) c.split_at.ensures.back
    ∙ ap (λ n. last_of (limit - length (drop n bytes)) body ++ drop n bytes) c.saturating_sub.ensures
    ∙ kept_at_once limit body bytes c.requires
