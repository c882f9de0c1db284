use Rattle.std.proofs.Common.{◌∙◌, ap, map, sym}
use Rattle.sv_supervise.proofs.Values.{refused}
use Rattle.sv_supervise.proofs.arguments.arguments_of.Goals as goal

pub returns : goal.returns
returns c =
    sym (refused c.args.words.now _ c.in-Err.error
    (ap (map (λ word. word.now)) c.as_slice.ensures.value ∙ c.in_ok-words.ensures)
    (λ none. c.in_default.not-OutOfMemory (c.kind.ensures ∙ none)) c.in-Err.ensures.fails)
