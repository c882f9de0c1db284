-- The bytes of a stream that are read and not decided yet: those of the request that isn't whole.
use Rattle.std.specs.Prelude.{◌+◌, ℕ, List, [], ◌∷◌, Option, None, Some, length, drop}
use Rattle.std.specs.List.{prefix_len}
use Rattle.sv_http.specs.AskTable.{body_limit}
use Rattle.sv_http.specs.AsksOf.{asks_of, first_ask}
use Rattle.sv_http.specs.RequestStream.{ends_line, head_limit}
use Rattle.sv_http.specs.declared.ask.Ask.{Ask}
use Rattle.sv_http.specs.declared.ask.Ask.TheVariants.{Call, Bad}
use Rattle.sv_http.specs.declared.guard.Guard.{Guard}

-- what follows the first ask: nothing counts after a refusal
abbrev pub behind_first : Option (Ask × List ℕ) → List ℕ
behind_first None = []
behind_first (Some (Bad refusal, rest)) = []
behind_first (Some (Call body close, rest)) = rest

-- what follows these asks, with which the stream begins
abbrev pub behind_asks : Guard → List Ask → List ℕ → List ℕ
behind_asks guard [] stream = stream
behind_asks guard (ask ∷ asks) stream =
    behind_asks guard asks (behind_first (first_ask guard stream))

-- the head and the body so far after the last ask, without the CR and LF that are dropped before a
-- head
abbrev pub undecided : Guard → List ℕ → List ℕ
undecided guard stream =
    let rest =
    behind_asks guard (asks_of guard stream) stream in drop (prefix_len ends_line rest) rest

-- how many bytes of the stream are not decided
unfoldable pub held_of : Guard → List ℕ → ℕ
held_of guard stream = length (undecided guard stream)

-- the most bytes of a head and a body
abbrev pub held_limit : ℕ
held_limit = head_limit + body_limit
