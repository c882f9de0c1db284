-- What the kinds of lines that the code finds stand for.
use Rattle.sv_moving.specs.declared.kind.LineKind.{LineKind as Found}
use Rattle.sv_moving.specs.declared.kind.LineKind.TheVariants as found
use Rattle.sv_moving.specs.Lines.{LineKind}
use Rattle.sv_moving.specs.Lines.LineKind.{Blank, Comment, Further, Opens, Sets, Keyless, Faulty}

-- the line's kind, and its texts as characters
abbrev pub seen : Found → LineKind
seen found.Blank = Blank
seen found.Comment = Comment
seen (found.Further text) = Further text.now
seen (found.Opens name) = Opens name.now
seen (found.Sets key value) = Sets key.now value.now
seen found.Keyless = Keyless
seen found.Faulty = Faulty
