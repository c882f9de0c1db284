use Rattle.sv_core.proofs.Stopped.{stopped_there}
use Rattle.sv_core.proofs.machine.Machine.stop.Goals as goal

pub returns-clause-stops : goal.returns-clause-stops
returns-clause-stops c = λ older w s.
    stopped_there c.signal.new.self older c.args.child w c.in_ok-deed.deed (c.in_ok-deed.ensures.deed older w s)
    (c.in_ok-signal.ensures.signals older _ (c.in_ok-deed.ensures.moves older w s))
