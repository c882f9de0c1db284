use Rattle.sv_jobs.proofs.Consoles.{console_unmade}
use Rattle.sv_jobs.proofs.consoling.console.Goals as goal

pub returns-in_default-clause-consoled : goal.returns-in_default-clause-consoled
returns-in_default-clause-consoled g c = console_unmade _ _ _ c.post.ensures.posted
