use Rattle.std.proofs.Common.{◌<◌, ◌^◌, ℕ, Option, sym, subst, arith}
use Rattle.std.specs.Prelude.{SomeIff}
use Rattle.std.specs.Str.Parse.{digits_value}
use Rattle.sv_listener.proofs.Numbers.{value_large}
use Rattle.sv_listener.proofs.header.value_of.Goals as goal

pub returns-in_err-tens : goal.returns-in_err-tens
returns-in_err-tens c =
    let total : ℕ = digits_value 10 c.args.digits.now in
    let P : Option ℕ → Type 0 = λ found. SomeIff found (total < 2 ^ 64) total in
    subst P (sym c.from_residual.ensures)
    (value_large total c.loop-rest.value c.loop-rest.rest.now c.loop-rest.invariant.follow (omega arith)
    (λ small. c.in_err-tens.ensures (omega (arith, small))))

pub returns-in_err-value : goal.returns-in_err-value
returns-in_err-value c =
    let total : ℕ = digits_value 10 c.args.digits.now in
    let P : Option ℕ → Type 0 = λ found. SomeIff found (total < 2 ^ 64) total in
    subst P (sym c.from_residual-in_err-value.ensures)
    (value_large total c.loop-rest.value c.loop-rest.rest.now c.loop-rest.invariant.follow (omega arith)
    (λ small. c.in_err-value.ensures (omega (arith, small, c.in_ok-tens.ensures.1, c.saturating_sub.ensures, c.from.ensures))))
