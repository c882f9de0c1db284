-- The deeds of the daemon's inputs are those of its machine.
use Rattle.std.proofs.Common.{◌≡◌, Bool, cond, List, [], ◌∷◌, ◌++◌, refl, ap}
use Rattle.sv_core.specs.Deeds as machine
use Rattle.sv_core.specs.MachineState.{Model, accepts, next, orders}
use Rattle.sv_supervise.specs.MainLoop.Rules as daemon
use Rattle.sv_out.specs.declared.input.Input.{Input}
use Rattle.sv_supervise.specs.Machines.{core_rules}

cond_both : {A : Type 0} (b : Bool) (x x2 y y2 : A) → x ≡ x2 → y ≡ y2 → cond b x y ≡ cond b x2 y2
cond_both b x x2 y y2 e f = cc

pub same_deeds : (m : Model) (inputs : List Input) → daemon.deeds core_rules m inputs ≡ machine.deeds m inputs
same_deeds m [] = refl
same_deeds m (i ∷ is) = cond_both (accepts m i) _ _ _ _ (ap (λ more. orders m i ++ more) (same_deeds (next m i) is)) (same_deeds m is)

pub same_state : (m : Model) (inputs : List Input) → daemon.after core_rules m inputs ≡ machine.after m inputs
same_state m [] = refl
same_state m (i ∷ is) = cond_both (accepts m i) _ _ _ _ (same_state (next m i) is) (same_state m is)
