-- The spellings of methods as values.
use Rattle.sv_methods.specs.MethodNames.{spelling}
use Rattle.sv_methods.specs.declared.method.Method.{Method}
use Rattle.sv_xmlcall.specs.Trees.{Tree, text}

-- the spelling of a method as a value
abbrev pub spelling_tree : Method → Tree
spelling_tree method = text (spelling method)
