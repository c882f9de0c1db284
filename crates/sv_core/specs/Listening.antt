-- What a listener says, and what becomes of the event that it holds (the manual's chapter on
-- events, "Event Listener States").
use Rattle.std.specs.Prelude.{ℕ, List, [], ◌∷◌, ◌^◌, ◌%◌, Option, Some, None, codes, if◌then◌else◌}
use Rattle.std.specs.Str.{bytes_eq}
use Rattle.sv_base.specs.declared.ids.Run.{Run}
use Rattle.sv_base.specs.declared.state.How.{How}
use Rattle.sv_children.specs.News.{stimulus_of}
use Rattle.sv_children.specs.declared.news.News.TheVariants as news_is
use Rattle.sv_core.specs.Logging.{tells_drops}
use Rattle.sv_core.specs.Moves.{comes}
use Rattle.sv_core.specs.World.{World}
use Rattle.sv_pipes.specs.declared.tokens.Token.{Token}
use Rattle.sv_pipes.specs.declared.tokens.Token.TheVariants.{Ready, Result, Wrong}
use Rattle.sv_pool.specs.Listeners.{acknowledges, holds, rejection_reports, rejects}
use Rattle.sv_runs.specs.RunBook.{heard, living, lost, new_tokens, process_ended, stdin_lost}
use Rattle.sv_runs.specs.RunBook.{teller}

-- the number of the child of a place, which has 32 bits
abbrev pub id_of : ℕ → ℕ
id_of place = place % 2 ^ 32

-- the event that the listener of a place holds is done with
abbrev pub is_done_with : ℕ → World → World
is_done_with c w = record w { pools = acknowledges (id_of c) w.pools }

-- it goes back to the front of its pool, and what the pool drops for it is reported
abbrev pub gives_back : ℕ → World → World
gives_back c w =
    tells_drops (rejection_reports (id_of c) w.pools)
    (record w { pools = rejects (id_of c) w.pools })

-- the result OK accepts the event, every other rejects it
abbrev pub takes_result : ℕ → List ℕ → World → World
takes_result c body w = if bytes_eq body (codes "OK") then is_done_with c w else gives_back c w

-- what a listener tells: what can't go on makes it UNKNOWN, and rejects the event
abbrev pub tells : ℕ → Token → World → World
tells c Ready w = w
tells c (Result body) w = takes_result c body w
tells c Wrong w = gives_back c w

-- one after the other
abbrev pub tells_all : ℕ → List Token → World → World
tells_all c [] w = w
tells_all c (token ∷ tokens) w = tells_all c tokens (tells c token w)

-- where it is a listener that tells it
abbrev pub tells_by : Option ℕ → List Token → World → World
tells_by None tokens w = w
tells_by (Some c) tokens w = tells_all c tokens w

-- bytes come on the stdout of a run
abbrev pub hears : Run → List ℕ → World → World
hears run bytes w =
    tells_by (teller run w.runs) (new_tokens run bytes w.runs)
    (record w { runs = heard run bytes w.runs })

-- the process of a run of this child ended: the child takes its step, and then the event that it
-- holds goes back
abbrev pub exits_of : Option ℕ → Run → How → World → World
exits_of None run how w = w
exits_of (Some c) run how w =
    let after = comes (Some how) (stimulus_of (news_is.Exit run how)) c w in
    gives_back c (record after { runs = process_ended run after.runs })

-- the process of a run ended
abbrev pub exits : Run → How → World → World
exits run how w = exits_of (living run w.runs) run how w

-- a listener that a write failed to, and that holds an event, counts as UNKNOWN from then on
abbrev pub loses_of : Option ℕ → Run → World → World
loses_of None run w = w
loses_of (Some c) run w =
    if holds (id_of c) w.pools then gives_back c (record w { runs = lost run w.runs }) else w

-- a write to a run failed: its stdin is closed
abbrev pub loses_stdin : Run → World → World
loses_stdin run w = loses_of (living run w.runs) run (record w { runs = stdin_lost run w.runs })
