-- Texts that were worked out by hand.
use Rattle.std.specs.Prelude.{◌≡◌, ℕ, List, [], ◌∷◌, Some, None, codes}
use Rattle.sv_info.specs.Faults.{fault_text}
use Rattle.sv_info.specs.Times.{clock_text}
use Rattle.sv_info.specs.declared.fault.Fault.TheVariants.{AlreadyStarted, BadArguments, BadName}
use Rattle.sv_info.specs.declared.fault.Fault.TheVariants.{Failed, NoFile}

-- the time of a day: midnight, before noon, noon, the last minute
pub record IsClock : Type 0 where
  pub midnight : clock_text 0 ≡ codes "12:00 AM"
  pub morning : clock_text 549 ≡ codes "09:09 AM"
  pub before_noon : clock_text 719 ≡ codes "11:59 AM"
  pub noon : clock_text 720 ≡ codes "12:00 PM"
  pub last : clock_text 1439 ≡ codes "11:59 PM"

-- texts of faults with and without what the call named
pub record AreFaultTexts : Type 0 where
  pub started : fault_text AlreadyStarted (Some (codes "x")) ≡ codes "ALREADY_STARTED: x"
  pub nameless : fault_text NoFile None ≡ codes "NO_FILE"
  pub failed : fault_text Failed (Some (codes "x")) ≡ codes "FAILED"
  pub arguments : fault_text BadArguments (Some (codes "x")) ≡ codes "BAD_ARGUMENTS"
  pub name : fault_text BadName (Some (codes "g:*")) ≡ codes "BAD_NAME: g:*"

-- the names of the members of what is said of a process, in their order
abbrev pub member_names : List (List ℕ)
member_names =
    codes "name" ∷ codes "group" ∷ codes "description" ∷ codes "start" ∷ codes "stop" ∷ codes "now"
    ∷ codes "state" ∷ codes "statename" ∷ codes "spawnerr" ∷ codes "exitstatus" ∷ codes "logfile"
    ∷ codes "stdout_logfile" ∷ codes "stderr_logfile" ∷ codes "pid" ∷ []
