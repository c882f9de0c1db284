-- The statuses of a crash reporter.
use Rattle.std.specs.Prelude.{◌≡◌, ℕ, List, Option}
use Rattle.sv_listener.specs.CrashLines.{Reported}
use Rattle.sv_listener.specs.Listening.{Listens, end_number}
use Rattle.sv_listener.specs.declared.listening.ListenEnd.{ListenEnd}

-- the end with this number has its row of the table, and what was written is the lines of the
-- events that were given
pub record ReportsAs (status : ℕ)
    (left left_after written written_after out out_after : Option (List ℕ)) : Type 0 where
  pub end : ListenEnd
  pub number : status ≡ end_number end
  pub row : Listens end left left_after written written_after (Reported out out_after)
