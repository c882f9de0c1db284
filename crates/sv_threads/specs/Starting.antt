-- The jobs that a world of threads begins with.
use Rattle.std.specs.Prelude.{◌≡◌, ℕ, Bool, List, [], Option}
use Rattle.sv_base.specs.declared.state.Side.TheVariants.{Inet, Unix}
use Rattle.sv_threads.specs.FirstJobs.Handing.{Hands, HandsLinks}
use Rattle.sv_parts.specs.declared.links.live_links.LiveLinks.{LiveLinks}
use Rattle.sv_outside.specs.declared.jobs.JobWord.{JobWord}
use Rattle.sv_outside.specs.declared.jobs.JobWord.TheVariants.{Console, Ticker}

-- what a gate kept so far, and its count of faults
pub record Stage : Type 0 where
  pub kept : Option (List JobWord)
  pub faults : ℕ

-- the job of the console, that of the ticker, and those of the servers were handed over, in this
-- order, each once
pub record Starts (inet unix : Bool) (kept : Option (List JobWord)) (faults : ℕ)
    (kept_after : Option (List JobWord)) (faults_after : ℕ) : Type 0 where
  pub first : Stage
  pub second : Stage
  pub third : Stage
  pub console : Hands Console kept faults first.kept first.faults
  pub ticker : Hands Ticker first.kept first.faults second.kept second.faults
  pub over_inet : HandsLinks Inet inet second.kept second.faults third.kept third.faults
  pub over_unix : HandsLinks Unix unix third.kept third.faults kept_after faults_after

-- there was no link yet
pub record HasNoLink {K : Type 0} (links : LiveLinks K) : Type 0 where
  pub count : links.count ≡ 0
  pub waiting : links.waiting.items ≡ []
  pub lives : links.lives.items ≡ []
  pub lost : links.lost.items ≡ []
