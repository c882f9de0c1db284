-- What is heard of envelopes, one after the other, and of a prefix of one.
use Rattle.std.proofs.Common.{◌≡◌, ◌<◌, ◌^◌, ◌++◌, ℕ, List, [], ◌∷◌, map, refl, ap, ◌∙◌, append_assoc}
use Rattle.std.specs.List.{flat_map}
use Rattle.sv_events.specs.EventText.{envelope_of}
use Rattle.sv_listener.proofs.Written.{hears_front as hears_front_of, hears_whole}
use Rattle.sv_listener.specs.EventText.{CanBeHeard as Can, Event}
use Rattle.sv_listener.specs.Hearing.{Hearing, hearing_of}
use Rattle.sv_listener.specs.declared.events.Heard.{Heard}
use Rattle.sv_listener_laws.specs.BothEnds.{AreFit, IsSound, Names}
use Rattle.sv_listener_laws.specs.InStep.{heard_as}
use Rattle.sv_pool.specs.declared.taken.Taken.{Taken}

-- an event that was taken can be heard
pub record CanBeHeard (taken : Taken) : Type 0 where
  pub sound : IsSound taken.event
  pub number : taken.poolserial < 2 ^ 64

abbrev pub envelope : Names → Taken → List ℕ
envelope names taken = envelope_of names.server names.pool taken.poolserial taken.event

abbrev pub event_for : Names → Taken → Event
event_for names taken = record {
  server = names.server;
  pool = names.pool;
  serial = taken.event.serial;
  poolserial = taken.poolserial;
  kind = taken.event.kind;
  body = taken.event.body;
}

can_be : (names : Names) (taken : Taken) → AreFit names → CanBeHeard taken → Can (event_for names taken)
can_be names taken fit can = record {
  server = fit.server;
  pool = fit.pool;
  server_line = fit.server_line;
  pool_line = fit.pool_line;
  short = fit.short;
  serial = can.sound.serial;
  poolserial = can.number;
  body = can.sound.body;
}

pub hears_front : (names : Names) (taken : Taken) (front : List ℕ) (more : ℕ) (left : List ℕ) → AreFit names → CanBeHeard taken
    → front ++ more ∷ left ≡ envelope names taken → (hearing_of front).events ≡ []
hears_front names taken front more left fit can same = hears_front_of (event_for names taken) front more left (can_be names taken fit can) same

abbrev pub envelopes : Names → List Taken → List ℕ
envelopes names handed = flat_map (envelope names) handed

abbrev pub AllCan : List Taken → Type 0
AllCan [] = Unit {0}
AllCan (taken ∷ handed) = CanBeHeard taken × AllCan handed

pub hears_all : (names : Names) (handed : List Taken) (more : List ℕ) → AreFit names → AllCan handed
    → (hearing_of (envelopes names handed ++ more)).events ≡ map (heard_as names) handed ++ (hearing_of more).events
hears_all names [] more fit can = refl
hears_all names (taken ∷ handed) more fit can =
    ap (λ (b : List ℕ). (hearing_of b).events) (append_assoc (envelope names taken) (envelopes names handed) more)
    ∙ ap (λ (h : Hearing). h.events) (hears_whole (event_for names taken) (envelopes names handed ++ more) (can_be names taken fit can.0))
    ∙ ap (λ (l : List Heard). heard_as names taken ∷ l) (hears_all names handed more fit can.1)
