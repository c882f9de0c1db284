-- How a world begins.
use Rattle.std.proofs.Common.{◌≡◌, ℕ, Bool, List, Option, subst}
use Rattle.sv_base.specs.declared.state.Side.TheVariants.{Inet, Unix}
use Rattle.sv_threads.specs.FirstJobs.Handing.{Hands, HandsLinks}
use Rattle.sv_outside.specs.declared.jobs.JobWord.{JobWord}
use Rattle.sv_outside.specs.declared.jobs.JobWord.TheVariants.{Console, Ticker}
use Rattle.sv_threads.specs.Starting.{Starts}

-- a gate as it is made, and after each job that it was handed
pub starts : (inet unix : Bool) (kept : Option (List JobWord)) (faults : ℕ) (made first second third last : Option (List JobWord) × ℕ)
    → made ≡ (kept, faults) → Hands Console made.0 made.1 first.0 first.1 → Hands Ticker first.0 first.1 second.0 second.1
    → HandsLinks Inet inet second.0 second.1 third.0 third.1 → HandsLinks Unix unix third.0 third.1 last.0 last.1
    → Starts inet unix kept faults last.0 last.1
starts inet unix kept faults made first second third last is console ticker over_inet over_unix = record {
  first = record { kept = first.0; faults = first.1 };
  second = record { kept = second.0; faults = second.1 };
  third = record { kept = third.0; faults = third.1 };
  console = subst (λ (g : Option (List JobWord) × ℕ). Hands Console g.0 g.1 first.0 first.1) is console;
  ticker = ticker;
  over_inet = over_inet;
  over_unix = over_unix;
}
