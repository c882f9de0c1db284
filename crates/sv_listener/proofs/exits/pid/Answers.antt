use Rattle.std.proofs.Common.{◌≡◌, Option, None, Some, ℕ, subst}
use Rattle.std.specs.Prelude.{MatchOption}
use Rattle.sv_listener.proofs.Numbers.{pid_is}
use Rattle.sv_listener.proofs.exits.pid.Goals as goal

pub returns : goal.returns
returns c =
    let P : Option ℕ → Type 0 = λ said. MatchOption c.pid_of.result (said ≡ None) (λ pid. said ≡ Some pid) in
    subst P (pid_is c.args.digits.now) c.pid_of.ensures
