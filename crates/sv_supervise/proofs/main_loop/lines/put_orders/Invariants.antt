use Rattle.std.proofs.Common.{◌≡◌, ◌++◌, take}
use Rattle.std.specs.Prelude.{string_bytes}
use Rattle.sv_supervise.specs.MainLoop.Journal.{orders_text}
use Rattle.sv_supervise.proofs.main_loop.lines.put_orders.Given as goal

abbrev pub invariant-loop-order : goal.invariant-loop-order
invariant-loop-order g l = string_bytes l.text ≡ string_bytes l.initial.text ++ orders_text (g.L.Lines.texts l.lines) (take l.order-index l.orders)
