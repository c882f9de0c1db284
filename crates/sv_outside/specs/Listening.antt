-- What one that accepts links tells.
use Rattle.std.specs.Prelude.{ℕ, Bool, List, Option, Some, if◌then◌else◌}
use Rattle.sv_out.specs.Faults.{counted}
use Rattle.sv_out.specs.declared.script.ScriptLink.{ScriptLink}
use Rattle.sv_outside.specs.declared.listening.ScriptListen.{ScriptListen}

-- how many calls it had, and how many links it gave, as far as the numbers go
pub record Accepts : Type 0 where
  pub calls : ℕ
  pub given : ℕ

-- after one call more, which gave a link or failed
abbrev pub accepted : Bool → Accepts → Accepts
accepted gave accepts = record {
  calls = counted accepts.calls;
  given = if gave then counted accepts.given else accepts.given;
}

-- that of the form in memory
abbrev pub told_accepts : ScriptListen → Option Accepts
told_accepts listen = Some (record { calls = listen.asked; given = listen.given })

-- the links that it still has to give
abbrev pub links_left : ScriptListen → List ScriptLink
links_left listen = listen.links.items

-- how many of its calls failed
abbrev pub listen_faults : ScriptListen → ℕ
listen_faults listen = listen.calls.faults
