use Rattle.sv_threads.proofs.Beginnings.{starts}
use Rattle.sv_threads.proofs.world.ThreadWorld.new.Goals as goal

pub returns-clause-starts : goal.returns-clause-starts
returns-clause-starts g c =
    starts _ _ _ _ c.new-gate.result c.hand_console.new.gate c.hand_ticker.new.gate c.hand_links.new.gate _ c.new-gate.ensures
    c.hand_console.ensures c.hand_ticker.ensures c.hand_links.ensures c.hand_links-2.ensures
