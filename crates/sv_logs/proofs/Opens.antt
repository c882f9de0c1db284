-- One group more, and one process more, whose logs begin.
use Rattle.std.proofs.Common.{◌≡◌, ℕ, ◌+◌, ◌<◌, List, length, get_or, drop, refl}
use Rattle.std.proofs.Math.Seq.{drop-cons}
use Rattle.std.proofs.Common.{add-one}
use Rattle.sv_base.specs.declared.spec.GroupSpec.{GroupSpec}
use Rattle.sv_base.specs.declared.spec.Spec.{Spec}
use Rattle.sv_logs.specs.Opening.{begins, groups_begin, processes_begin}
use Rattle.sv_logs.specs.Sizes.{Sizes}

pub one_group : (groups : List GroupSpec) (place : ℕ) (d : GroupSpec) (sizes : Sizes) → place < length groups
    → groups_begin (drop (place + 1) groups) (processes_begin (get_or groups place d).members sizes) ≡ groups_begin (drop place groups) sizes
one_group groups place d sizes below = rw (drop-cons groups place d below, add-one) refl

pub one_process : (specs : List Spec) (place : ℕ) (d : Spec) (sizes : Sizes) → place < length specs
    → processes_begin (drop (place + 1) specs) (begins (get_or specs place d).stderr (begins (get_or specs place d).stdout sizes))
    ≡ processes_begin (drop place specs) sizes
one_process specs place d sizes below = rw (drop-cons specs place d below, add-one) refl
