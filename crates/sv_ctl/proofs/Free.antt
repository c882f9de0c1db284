-- The server by the words of the options.
use Rattle.std.proofs.Common.{◌≡◌, List, ℕ, Option, None, Some, Result, Ok, Err, refl, sym, ap, ◌∙◌}
use Rattle.sv_base.specs.declared.config.ClientSpec.{ClientSpec}
use Rattle.sv_ctl.specs.Serving.{Freely}
use Rattle.sv_ctl.specs.declared.refusal.Refusal.{Refusal}
use Rattle.sv_ctl.specs.declared.refusal.Refusal.TheVariants.{Words, Missing, Conf, Unreadable, OutOfMemory}

pub freely_from : {A : Type 0} (Holds Wanted : Result A Refusal → Type 0) (result : Result A Refusal)
    → ((r : Result A Refusal) → Holds r → Wanted r) → Freely Holds result → Freely Wanted result
freely_from Holds Wanted (Ok value) so holds = so (Ok value) holds
freely_from Holds Wanted (Err Words) so holds = so (Err Words) holds
freely_from Holds Wanted (Err (Missing file)) so holds = so (Err (Missing file)) holds
freely_from Holds Wanted (Err (Conf fault)) so holds = so (Err (Conf fault)) holds
freely_from Holds Wanted (Err (Unreadable name)) so holds = so (Err (Unreadable name)) holds
freely_from Holds Wanted (Err OutOfMemory) so holds = tt

pub freely : {A : Type 0} (Holds : Result A Refusal → Type 0) (result : Result A Refusal) → Holds result → Freely Holds result
freely Holds (Ok value) holds = holds
freely Holds (Err Words) holds = holds
freely Holds (Err (Missing file)) holds = holds
freely Holds (Err (Conf fault)) holds = holds
freely Holds (Err (Unreadable name)) holds = holds
freely Holds (Err OutOfMemory) holds = tt
