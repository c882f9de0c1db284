-- The run of a number: a linear congruential generator, whose states give its inputs one after the
-- other.
use Rattle.std.specs.Prelude.{◌+◌, ◌*◌, ◌/◌, ◌%◌, ◌^◌, ◌==◌, ◌&&◌, ℕ, zero, suc, nat_lt}
use Rattle.std.specs.Prelude.{if◌then◌else◌}
use Rattle.sv_generated.specs.declared.draw.Draw.{Draw}
use Rattle.sv_generated.specs.declared.draw.Draw.TheVariants.{Tick, Exit, Stop, Start}

-- each state follows from the one before
abbrev pub next_state : ℕ → ℕ
next_state state = (state * 1103515245 + 12345) % 2 ^ 31

-- the state after so many inputs
abbrev pub state_after : ℕ → ℕ → ℕ
state_after number zero = number
state_after number (suc draws) = next_state (state_after number draws)

-- the number of a program
abbrev pub program_of : ℕ → ℕ
program_of part = part / 4 % 200

-- the input at this moment that a part of the state gives, where so many runs were issued: one of
-- four kinds by its last two bits; an exit, where no run was issued, is a tick
abbrev pub draw_of : ℕ → ℕ → ℕ → Draw
draw_of at part issued =
    if (part % 4 == 1) && nat_lt 0 issued then Exit at (record { 0 = 1 + part / 4 % issued })
    else if part % 4 == 2 then Stop at (program_of part)
    else if part % 4 == 3 then Start at (program_of part)
    else Tick at
