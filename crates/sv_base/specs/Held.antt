use Rattle.std.specs.Prelude.{List, ℕ, string_bytes}
use Rattle.sv_base.specs.declared.text.Held.{Held}
use Rattle.sv_base.specs.declared.text.Held.TheVariants.{Fixed, Owned}

-- the bytes of a text, however it is held
abbrev pub held_bytes : Held → List ℕ
held_bytes (Fixed text) = text.now
held_bytes (Owned text) = string_bytes text
