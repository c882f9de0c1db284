use Rattle.std.proofs.Common.{◌≡◌, map, take}
use Rattle.sv_xmlcall.specs.Trees.{text, view}
use Rattle.sv_methods.proofs.rows.words.Given as goal

abbrev pub invariant-loop-word : goal.invariant-loop-word
invariant-loop-word l = map view l.values.items ≡ map (λ word. text word.now) (take l.word-index l.words)
