-- No line has two meanings.
use Rattle.std.proofs.Common.{◌≡◌, sym, ap, ◌∙◌}
use Rattle.sv_out.specs.declared.input.Input.{Input}
use Rattle.sv_journal.specs.declared.header.Header.{Header}
use Rattle.sv_journal.specs.JournalLine.{FitsInput, input_line, FitsHeader, header_line}
use Rattle.sv_journal.specs.ReadingLines.{input_at, header_at}
use Rattle.sv_journal.proofs.InputLaws.{input_again}
use Rattle.sv_journal.proofs.HeaderLaws.{header_again}
use Rattle.sv_journal.proofs.Results.{ok_value}

pub one_input : (one other : Input) → FitsInput one → FitsInput other → input_line one ≡ input_line other → one ≡ other
one_input one other f g e = ok_value one other (sym (input_again one f) ∙ ap input_at e ∙ input_again other g)

pub one_header : (one other : Header) → FitsHeader one → FitsHeader other → header_line one ≡ header_line other → one ≡ other
one_header one other f g e = ok_value one other (sym (header_again one f) ∙ ap header_at e ∙ header_again other g)
