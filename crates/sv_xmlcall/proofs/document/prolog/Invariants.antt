use Rattle.std.proofs.Common.{◌≡◌, length, false}
use Rattle.sv_xmlcall.specs.Reading.{prolog_from}
use Rattle.sv_letters.specs.declared.letters.Awaits.TheVariants.{Character}
use Rattle.sv_xmlcall.proofs.document.prolog.Given as goal

abbrev pub invariant-loop-rest : goal.invariant-loop-rest
invariant-loop-rest l = prolog_from l.question l.awaits l.rest ≡ prolog_from false Character l.bytes

abbrev pub decreases-loop-rest : goal.decreases-loop-rest
decreases-loop-rest l = length l.rest
