use Rattle.std.proofs.Common.{refl}
use Rattle.sv_threads.proofs.Questions.{hands_spawn, spawned}
use Rattle.sv_threads.proofs.world.ThreadWorld.hand_on.Goals as goal

pub returns-in-Spawn-clause-hands : goal.returns-in-Spawn-clause-hands
returns-in-Spawn-clause-hands g c =
    hands_spawn _ _ _ _ _ _ c.in-Spawn.order c.in-Spawn.is
    (spawned _ _ _ _ _ c.in-Spawn.order _ c.spawn-given.ensures.spawns c.spawn-given.ensures.refused
    c.spawn-given.ensures.no_thread c.answer_spawn.ensures refl)
