use Rattle.std.proofs.Common.{Option, None, ◌<◌, length, arith}
use Rattle.std.proofs.lemmas.List.Edits.{map_over_more}
use Rattle.sv_pool.specs.declared.taken.Taken.{Taken}
use Rattle.sv_pool.proofs.pool.forget_held.Goals as goal

pub loop-place-preserved : goal.loop-place-preserved
loop-place-preserved c =
    let f : Option Taken → Option Taken = λ _. None in
    let h : c.loop-place.place-index < length c.deref_mut-place-items.result.now = omega arith in
    map_over_more f c.deref_mut-place-items.result.now c.loop-place.place-items c.loop-place.place-index c.place-item.result h c.loop-place.invariant c.place-item.is
