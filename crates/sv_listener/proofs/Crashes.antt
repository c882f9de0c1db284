-- One event of a crash reporter.
use Rattle.std.proofs.Common.{◌≡◌, ℕ, List, [], ◌∷◌, Option, append-nil, sym, subst}
use Rattle.std.specs.Io.KnownBytes.{Appends}
use Rattle.sv_listener.specs.CrashLines.{Reported, crash_in, crash_lines, line_for}
use Rattle.sv_listener.specs.declared.events.Heard.{Heard}
use Rattle.sv_listener.specs.declared.handler.Verdict.TheVariants as verdict
use Rattle.sv_out.specs.Written.{AppendsFront}

pub line_alone : (event : Heard) → line_for (crash_in event) ≡ crash_lines (event ∷ [])
line_alone event = sym (append-nil (line_for (crash_in event)))

front_of_whole : (a b : Option (List ℕ)) (text : List ℕ) → Appends a b text → AppendsFront a b text
front_of_whole a b text wrote = record { front = text; rest = []; parts = sym (append-nil text); appends = wrote }

-- an event with its verdict, whose line was written
pub reported_one : (a b : Option (List ℕ)) (event : Heard) → Appends a b (line_for (crash_in event)) → Reported a b (event ∷ []) (verdict.Ok ∷ [])
reported_one a b event wrote =
    let P : List ℕ → Type 0 = λ text. Appends a b text in
    let now : Appends a b (crash_lines (event ∷ [])) = subst P (line_alone event) wrote in
    record { done = tt; whole = λ _. now; part = front_of_whole a b (crash_lines (event ∷ [])) now }

-- an event without a verdict, of whose line a prefix was written
pub reported_part : (a b : Option (List ℕ)) (event : Heard) → AppendsFront a b (line_for (crash_in event)) → Reported a b (event ∷ []) []
reported_part a b event part =
    let Q : List ℕ → Type 0 = λ text. AppendsFront a b text in
    record { done = tt; whole = λ none. absurd (cc); part = subst Q (line_alone event) part }
