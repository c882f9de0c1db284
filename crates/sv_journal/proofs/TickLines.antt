-- The line of a clock moment.
use Rattle.std.proofs.Common.{◌≡◌, ◌∙◌, ◌-◌, ◌&&◌, ℕ, suc, Bool, true, false, cond, List, [], ◌∷◌, length, Result, Ok, Err, refl, ap}
use Rattle.std.specs.Prelude.{codes, nat_le}
use Rattle.std.specs.Char.{is_ascii_digit}
use Rattle.sv_base.specs.Limits.{moment_limit}
use Rattle.sv_journal.proofs.SharpLines.{chosen_event}
use Rattle.sv_journal.specs.Reading.{◌>>=◌, digits_at, number_at}
use Rattle.sv_journal.specs.ReadingLines.{begins_with_digit, event_at, event_of, input_at, keyword_then, verb_word, verbs, word_then}
use Rattle.sv_out.specs.declared.input.Input.TheVariants.{Tick}

was_digit : (digit least : Bool) (value : ℕ × List ℕ) (left : ℕ) (read : ℕ × List ℕ) → cond (digit && least) (Ok value) (Err left) ≡ Ok read → digit ≡ true
was_digit true least value left read e = refl
was_digit false least value left read e = cc

starts : (bs : List ℕ) (read : ℕ × List ℕ) → number_at 0 moment_limit bs ≡ Ok read → begins_with_digit bs ≡ true
starts [] read e = cc
starts (b ∷ bs) read e = was_digit (is_ascii_digit b) (nat_le 0 (b - 48)) (digits_at moment_limit (b - 48) bs) (suc (length bs)) read e

event_read : (bs : List ℕ) (at : ℕ) → number_at 0 moment_limit bs ≡ Ok (at, codes " tick") → event_at bs ≡ Ok (Tick at)
unfolding event_at event_of
event_read bs at read =
    ap (λ (r : Result (ℕ × List ℕ) ℕ). r >>= (λ p. word_then (codes " ") (keyword_then verb_word verbs (event_of p.0)) p.1)) read

pub tick_read : (bs : List ℕ) (at : ℕ) → number_at 0 moment_limit bs ≡ Ok (at, codes " tick") → input_at bs ≡ Ok (Tick at)
tick_read bs at read = chosen_event bs (starts bs (at, codes " tick") read) ∙ event_read bs at read
