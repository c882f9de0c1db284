use Rattle.sv_parts.proofs.RunsLemmas.Endings.{begins, stopped, whole}
use Rattle.sv_parts.proofs.runs.spawning.spawn.Goals as goal

pub returns-then-start_jobs-clause-spawns : goal.returns-then-start_jobs-clause-spawns
returns-then-start_jobs-clause-spawns g c = (
  c.in-Ok.ensures.asked,
  whole _ _ _ _ _ c.if-start_jobs.true c.jobs_of-jobs.ensures c.start_jobs.ensures.starts,
  begins _ _ _ _ _ _ _ c.new.ensures c.in_ok-words.ensures.none c.reserve.ensures.items c.push_reserved.ensures.items,
)

pub returns-clause-spawns : goal.returns-clause-spawns
returns-clause-spawns g c = (
  stopped _ _ _ _ _ _ _ _ _ _ c.if-start_jobs.false c.jobs_of-jobs.ensures c.start_jobs.ensures.starts c.in-Ok.ensures.asked c.in_ok-_sent.ensures.asked,
  c.reserve.ensures.items,
)
