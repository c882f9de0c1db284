-- What the changes of a run leave as it was.
use Rattle.std.proofs.lemmas.Bool.{false≢true}
use Rattle.std.proofs.Common.{◌≡◌, ℕ, List, Bool, true, false, ◌&&◌, if◌then◌else◌, refl}
use Rattle.sv_base.specs.declared.state.Stream.{Stream}
use Rattle.sv_base.specs.declared.state.Stream.TheVariants.{Out, Err}
use Rattle.sv_runs.proofs.StreamsLemmas.Books.{KeepsNumber}
use Rattle.sv_runs.proofs.StreamsLemmas.Kept.{LeavesOpen, LeavesOver}
use Rattle.sv_runs.specs.Streams.StreamBook.{channel_of, ends, has_ended, is_over, joins, takes}

joins_number : (channel : Stream) (bytes : List ℕ) → KeepsNumber (joins channel bytes)
joins_number Out bytes s = refl
joins_number Err bytes s = refl

joins_open : (channel : Stream) (bytes : List ℕ) → LeavesOpen (joins channel bytes)
joins_open Out bytes s = refl
joins_open Err bytes s = refl

pub takes_number : (pipe : Stream) (bytes : List ℕ) → KeepsNumber (takes pipe bytes)
takes_number pipe bytes s = by_test (has_ended pipe s) where
  by_test : (b : Bool) → (if b then s else joins (channel_of pipe s) bytes s).number ≡ s.number
  by_test true = refl
  by_test false = joins_number (channel_of pipe s) bytes s

pub takes_open : (pipe : Stream) (bytes : List ℕ) → LeavesOpen (takes pipe bytes)
takes_open pipe bytes s = by_test (has_ended pipe s) where
  by_test : (b : Bool) → is_over (if b then s else joins (channel_of pipe s) bytes s) ≡ is_over s
  by_test true = refl
  by_test false = joins_open (channel_of pipe s) bytes s

first_true : (a b : Bool) → (a && b) ≡ true → (true && b) ≡ true
first_true true b e = e
first_true false b e = absurd (false≢true e)

second_true : (a b : Bool) → (a && b) ≡ true → (a && true) ≡ true
second_true true b e = refl
second_true false b e = e

pub ends_number : (pipe : Stream) → KeepsNumber (ends pipe)
ends_number Out s = refl
ends_number Err s = refl

pub ends_over : (pipe : Stream) → LeavesOver (ends pipe)
ends_over Out s e = first_true s.out_ended s.err_ended e
ends_over Err s e = second_true s.out_ended s.err_ended e
