-- What the kinds of lines that the code finds stand for.
use Rattle.std.specs.Str.{str_to_ascii_lowercase}
use Rattle.sv_ini.specs.declared.kind.LineKind.{LineKind as Found}
use Rattle.sv_ini.specs.declared.kind.LineKind.TheVariants as found
use Rattle.sv_ini.specs.Lines.{LineKind}
use Rattle.sv_ini.specs.Lines.LineKind.{Blank, Comment, Further, Opens, Sets, Bad}

-- the line's kind, its texts as bytes and its key in lower case
abbrev pub seen : Found → LineKind
seen found.Blank = Blank
seen found.Comment = Comment
seen (found.Further text) = Further text.now
seen (found.Opens name) = Opens name.now
seen (found.Sets key value) = Sets (str_to_ascii_lowercase key.now) value.now
seen found.Bad = Bad
