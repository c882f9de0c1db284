-- No line begins with the mark of an order's line.
use Rattle.std.proofs.Common.{◌≢◌, ℕ, List, ◌++◌, sym, ap, ◌∙◌}
use Rattle.std.specs.Prelude.{codes}
use Rattle.sv_out.specs.declared.input.Input.{Input}
use Rattle.sv_journal.specs.declared.header.Header.{Header}
use Rattle.sv_journal.specs.JournalLine.{FitsInput, input_line, FitsHeader, header_line}
use Rattle.sv_journal.specs.ReadingLines.{input_at, answer_at, header_at}
use Rattle.sv_journal.proofs.InputLaws.{input_again}
use Rattle.sv_journal.proofs.HeaderLaws.{header_again}
use Rattle.sv_journal.proofs.Results.{never}

pub marked_input : (i : Input) (rest : List ℕ) → FitsInput i → input_line i ≢ codes "> " ++ rest
unfolding input_at answer_at
marked_input i rest fits = λ e. never _ i (ap input_at (sym e) ∙ input_again i fits)

pub marked_header : (h : Header) (rest : List ℕ) → FitsHeader h → header_line h ≢ codes "> " ++ rest
unfolding header_at
marked_header h rest fits = λ e. never _ h (ap header_at (sym e) ∙ header_again h fits)
