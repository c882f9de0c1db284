-- How long a reader waits between its polls.
use Rattle.std.specs.Prelude.{◌≤◌, ◌∷◌, ℕ, List, [], Option, replicate, if◌then◌else◌}
use Rattle.sv_follow.specs.Follower.{is_anew}
use Rattle.sv_follow.specs.declared.follower.Follower.{Follower}
use Rattle.sv_outside.specs.Told.{GrowsWhileTold}

-- a second in milliseconds, but nothing where the poll before found the log rotated
abbrev pub rest_of : Follower → List ℕ
rest_of follower = if is_anew follower then [] else 1000 ∷ []

-- it waited for a second at a time, and no more often than so many polls
pub record Rests (before after : Option (List ℕ)) (polls : ℕ) : Type 0 where
  pub count : ℕ
  pub few : count ≤ polls
  pub told : GrowsWhileTold before after (replicate count 1000)
