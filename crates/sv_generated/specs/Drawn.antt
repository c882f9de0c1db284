-- The inputs of a run, one after the other.
use Rattle.std.specs.Prelude.{◌≡◌, ◌*◌, ◌/◌, ℕ, suc}
use Rattle.sv_generated.specs.Generator.{draw_of, state_after}
use Rattle.sv_generated.specs.declared.draw.Draw.{Draw}
use Rattle.sv_generated.specs.declared.generated.Generated.{Generated}

-- the input after so many others: they come every 100 milliseconds, from 0 on
abbrev pub nth_draw : ℕ → ℕ → ℕ → Draw
nth_draw number draws issued =
    draw_of (100 * draws) (state_after number (suc draws) / 65536) issued

-- of the run of this number so many inputs were drawn
pub record HasDrawn (x : Generated) (number draws : ℕ) : Type 0 where
  pub number_is : x.number ≡ number
  pub drawn_is : x.drawn ≡ draws
  pub state_is : x.state ≡ state_after number draws
