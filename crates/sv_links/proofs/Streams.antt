-- The asks of a stream that grows.
use Rattle.std.proofs.Common.{◌≡◌, ℕ, List, [], ◌∷◌, ◌++◌, refl, ap, ◌∙◌, append_assoc}
use Rattle.sv_http.proofs.AskReading.{asks_are}
use Rattle.sv_http.proofs.Streams.{asks_unique}
use Rattle.sv_http.specs.AsksOf.{asks_of}
use Rattle.sv_http.specs.RequestStream.{AreAsks}
use Rattle.sv_http.specs.declared.ask.Ask.{Ask}
use Rattle.sv_http.specs.declared.ask.Ask.TheVariants.{Call, Bad}
use Rattle.sv_http.specs.declared.guard.Guard.{Guard}

longer_front : (text rest more : List ℕ) (stream : List ℕ) → stream ≡ text ++ rest → stream ++ more ≡ text ++ (rest ++ more)
longer_front text rest more stream e = ap (λ (s : List ℕ). s ++ more) e ∙ append_assoc text rest more

-- what was asked stays, and more may follow
grows : (guard : Guard) (stream more : List ℕ) (asks : List Ask) → AreAsks guard stream asks → (later : List Ask) × AreAsks guard (stream ++ more) (asks ++ later)
grows guard stream more [] are = (asks_of guard (stream ++ more), asks_are guard (stream ++ more))
grows guard stream more (Call body close ∷ asks) are =
    let text = are.0 in
    let rest = are.1 in
    let further = grows guard rest more asks are.4 in
    (further.0, (text, rest ++ more, longer_front text rest more stream are.2, are.3, further.1))
grows guard stream more (Bad refusal ∷ asks) are =
    let text = are.0 in
    let rest = are.1 in
    ([], (text, rest ++ more, longer_front text rest more stream are.2, are.3, rw are.4 refl))

pub asks_grow : (guard : Guard) (stream more : List ℕ) → (later : List Ask) × (asks_of guard (stream ++ more) ≡ asks_of guard stream ++ later)
asks_grow guard stream more =
    let further = grows guard stream more (asks_of guard stream) (asks_are guard stream) in
    (further.0, asks_unique guard (stream ++ more) (asks_of guard (stream ++ more)) (asks_of guard stream ++ further.0) (asks_are guard (stream ++ more)) further.1)
