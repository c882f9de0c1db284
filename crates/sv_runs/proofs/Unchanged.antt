-- What the changes of a run leave as it was.
use Rattle.std.proofs.lemmas.Bool.{false≢true}
use Rattle.std.proofs.Common.{◌≡◌, ℕ, List, Bool, true, false, ◌&&◌, if◌then◌else◌, refl, ◌++◌, ◌∷◌, [], ◌∙◌}
use Rattle.sv_base.specs.declared.state.Stream.{Stream}
use Rattle.sv_base.specs.declared.state.Stream.TheVariants.{Out, Err}
use Rattle.sv_pipes.specs.Talk.{said}
use Rattle.sv_pipes.specs.Talk.Mark.{Sent}
use Rattle.sv_runs.specs.RunBook.{RunRecord, ends, ends_pipe, gets, is_over, is_talking, may_get, says}
use Rattle.sv_runs.proofs.Books.{KeepsNumber}
use Rattle.sv_runs.proofs.Kept.{LeavesOpen, LeavesOver}

pub says_number : (bytes : List ℕ) → KeepsNumber (says bytes)
says_number bytes r = by_test (is_talking r) where
  by_test : (b : Bool) → (if b then record r { talk = r.talk ++ said bytes } else r).number ≡ r.number
  by_test true = refl
  by_test false = refl

pub says_open : (bytes : List ℕ) → LeavesOpen (says bytes)
says_open bytes r = by_test (is_talking r) where
  by_test : (b : Bool) → is_over (if b then record r { talk = r.talk ++ said bytes } else r) ≡ is_over r
  by_test true = refl
  by_test false = refl

pub gets_number : KeepsNumber gets
gets_number r = by_test (may_get r) where
  by_test : (b : Bool) → (if b then record r { talk = r.talk ++ Sent ∷ [] } else r).number ≡ r.number
  by_test true = refl
  by_test false = refl

pub gets_open : LeavesOpen gets
gets_open r = by_test (may_get r) where
  by_test : (b : Bool) → is_over (if b then record r { talk = r.talk ++ Sent ∷ [] } else r) ≡ is_over r
  by_test true = refl
  by_test false = refl

-- a run that goes on after a change was over before it alone
pub over_too : (f : RunRecord → RunRecord) → LeavesOpen f → LeavesOver f
over_too f leaves r e = leaves r ∙ e

first_true : (a b c : Bool) → (a && b && c) ≡ true → (true && b && c) ≡ true
first_true true b c e = e
first_true false b c e = absurd (false≢true e)

second_true : (a b c : Bool) → (a && b && c) ≡ true → (a && true && c) ≡ true
second_true true true c e = e
second_true true false c e = absurd (false≢true e)
second_true false b c e = e

third_true : (a b c : Bool) → (a && b && c) ≡ true → (a && b && true) ≡ true
third_true true true c e = refl
third_true true false c e = e
third_true false b c e = e

pub ends_over : LeavesOver ends
ends_over r e = first_true r.ended r.out_ended r.err_ended e

pub pipe_over : (stream : Stream) → LeavesOver (ends_pipe stream)
pipe_over Out r e = second_true r.ended r.out_ended r.err_ended e
pipe_over Err r e = third_true r.ended r.out_ended r.err_ended e

pub pipe_number : (stream : Stream) → KeepsNumber (ends_pipe stream)
pipe_number Out r = refl
pipe_number Err r = refl
