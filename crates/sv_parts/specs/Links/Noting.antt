-- What the notes of a link change.
use Rattle.std.specs.Prelude.{◌≡◌, ◌-◌}
use Rattle.sv_parts.specs.declared.links.life.LinkLife.{LinkLife}

-- one Send less is unwritten
abbrev pub Settles : LinkLife → LinkLife → Type 0
Settles old new = new ≡ record old { unwritten = old.unwritten - 1 }
