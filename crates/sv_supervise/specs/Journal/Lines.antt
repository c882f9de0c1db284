-- What a daemon's journal tells of inputs and orders.
use Rattle.std.specs.Prelude.{[], ◌∷◌, ◌++◌, codes}
use Rattle.sv_base.specs.Ascii.{line_feed}
use Rattle.sv_supervise.specs.MainLoop.Journal.{Texts}
use Rattle.sv_journal.specs.JournalLine.{input_line, order_line}
use Rattle.sv_supervise.specs.declared.journal.lines.JournalLines.{JournalLines}
use Rattle.sv_supervise.specs.declared.journal.lines.JournalLines.TheVariants.{Kept, Quiet}

-- each input has its line, and each order one after a mark
abbrev pub journal_texts : Texts
journal_texts = record {
  of_input = λ input. input_line input ++ line_feed ∷ [];
  of_order = λ order. codes "> " ++ order_line order ++ line_feed ∷ [];
}

-- nothing is told
abbrev pub no_texts : Texts
no_texts = record { of_input = λ input. []; of_order = λ order. [] }

-- what is told, where a journal is kept or not
abbrev pub texts_of : JournalLines → Texts
texts_of Kept = journal_texts
texts_of Quiet = no_texts
