-- The numbers of faults; out of memory has none.
use Rattle.std.specs.Prelude.{ℕ, Option, Some, None}
use Rattle.sv_expand.specs.declared.fault.WordFault.{WordFault}
use Rattle.sv_expand.specs.declared.fault.WordFault.TheVariants as word
use Rattle.sv_expand.specs.declared.fault.PairFault.{PairFault}
use Rattle.sv_expand.specs.declared.fault.PairFault.TheVariants as pair
use Rattle.sv_expand.specs.declared.fault.ExpandFault.{ExpandFault}
use Rattle.sv_expand.specs.declared.fault.ExpandFault.TheVariants as expand

-- of a text without words
abbrev pub word_number : WordFault → Option ℕ
word_number word.OpenQuote = Some 1
word_number word.OutOfMemory = None

-- of a text without pairs
abbrev pub pair_number : PairFault → Option ℕ
pair_number (pair.BadPair place) = Some 1
pair_number pair.OutOfMemory = None

-- of a text without an expansion
abbrev pub expand_number : ExpandFault → Option ℕ
expand_number (expand.Unknown name) = Some 1
expand_number (expand.BadForm place) = Some 2
expand_number expand.OutOfMemory = None
