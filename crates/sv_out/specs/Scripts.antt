-- What a connection and a dial in memory tell.
use Rattle.std.specs.Prelude.{ℕ, List, Option, Some, take}
use Rattle.sv_out.specs.declared.connection.Exchange.{Exchange}
use Rattle.sv_out.specs.declared.script.ScriptDial.{ScriptDial}
use Rattle.sv_out.specs.declared.script.ScriptLink.{ScriptLink}

-- what went over the connection so far
abbrev pub told_exchange : ScriptLink → Option Exchange
told_exchange link = Some (record {
  place = link.place;
  sent = link.sent.items;
  heard = take link.at link.bytes.items;
  ended = link.ended;
})

-- how many calls of it failed
abbrev pub link_faults : ScriptLink → ℕ
link_faults link = link.calls.faults

-- what went over the connections that were taken back
abbrev pub told_exchanges : ScriptDial → Option (List Exchange)
told_exchanges dial = Some dial.exchanges.items

-- how many calls of a dial failed, and how many connections with faults it took back
abbrev pub dial_faults : ScriptDial → ℕ
dial_faults dial = dial.calls.faults
