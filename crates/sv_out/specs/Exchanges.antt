-- What went over a connection, step by step, and what a dial keeps of it.
use Rattle.std.specs.Prelude.{◌≡◌, ◌==◌, ◌&&◌, ◌||◌, ◌++◌, ◌∷◌, ℕ, List, [], false, Option, Some}
use Rattle.std.specs.Prelude.{Result, Ok, Err, length, take, nat_lt, option_map}
use Rattle.std.specs.Option.{ForSome}
use Rattle.sv_base.specs.declared.config.Place.{Place}
use Rattle.sv_out.specs.declared.connection.Exchange.{Exchange}
use Rattle.sv_out.specs.declared.dialing.DialFault.{DialFault}
use Rattle.sv_out.specs.declared.dialing.DialFault.TheVariants.{Failed, OutOfMemory}

-- a connection over which nothing went yet
abbrev pub fresh : Place → Exchange
fresh place = record { place = place; sent = []; heard = []; ended = false }

-- so many bytes were read into this room; none is the end, where there was room
abbrev pub heard_more : ℕ → List ℕ → Exchange → Exchange
heard_more count into exchange = record exchange {
  heard = exchange.heard ++ take count into;
  ended = exchange.ended || (count == 0 && nat_lt 0 (length into));
}

-- these bytes were written
abbrev pub sent_more : List ℕ → Exchange → Exchange
sent_more bytes exchange = record exchange { sent = exchange.sent ++ bytes }

-- what a read leaves
abbrev pub after_read : {E : Type 0} → Result ℕ E → List ℕ → Exchange → Exchange
after_read (Ok count) into exchange = heard_more count into exchange
after_read (Err failed) into exchange = exchange

-- what a write leaves
abbrev pub after_write : {E : Type 0} → Result ℕ E → List ℕ → Exchange → Exchange
after_write (Ok count) piece exchange = sent_more (take count piece) exchange
after_write (Err failed) piece exchange = exchange

-- a prefix of this text was written
pub record SentFront (old new : Option Exchange) (text : List ℕ) : Type 0 where
  pub front : List ℕ
  pub rest : List ℕ
  pub parts : text ≡ front ++ rest
  pub sent : new ≡ option_map (sent_more front) old

-- the link of a told dial tells that nothing went over it
abbrev pub IsFresh : Place → Option (List Exchange) → Option Exchange → Type 0
IsFresh place dial link = ForSome dial (λ exchanges. link ≡ Some (fresh place))

-- a told dial tells the exchange of a told link as the last
abbrev pub Keeps : Option (List Exchange) → Option (List Exchange) → Option Exchange → Type 0
Keeps old new link =
    ForSome old (λ exchanges. ForSome link (λ exchange. new ≡ Some (exchanges ++ exchange ∷ [])))

-- the dial failed
abbrev pub IsRefused : {A : Type 0} → Result A DialFault → Type 0
IsRefused (Ok link) = ⊥
IsRefused (Err Failed) = Unit {0}
IsRefused (Err OutOfMemory) = ⊥
