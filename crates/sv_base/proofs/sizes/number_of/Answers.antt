use Rattle.std.proofs.Common.{◌^◌, ◌≤◌, ◌+◌, ◌-◌, ◌*◌, get_or, arith}
use Rattle.sv_base.proofs.Digits.{stays_large}
use Rattle.sv_base.proofs.sizes.number_of.Goals as goal

pub returns-in-None : goal.returns-in-None
returns-in-None c = λ small.
    let large : 2 ^ 64 ≤ 10 * c.loop-digit.number + (get_or c.args.digits.now c.loop-digit.digit-index 0 - 48) =
    omega (arith, c.in-None.ensures) in
    let still = stays_large c.args.digits.now c.loop-digit.number c.loop-digit.digit-index (2 ^ 64) c.loop-digit-test.true c.loop-digit.invariant.same large in
    absurd (omega (arith, still, small))
