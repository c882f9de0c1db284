-- The readers of lines stop at the first byte with which no good line goes on.
use Rattle.std.proofs.Common.{◌≡◌, ℕ, ◌≤◌, Bool, true, false, cond, not, List, [], ◌∷◌, ◌++◌, Result, Ok, Err, inl, inr, refl, sym, ap, ◌∙◌, arith}
use Rattle.std.specs.Prelude.{codes}
use Rattle.std.proofs.lemmas.Bool.{cases_Bool, not-true}
use Rattle.sv_base.specs.Limits.{moment_limit}
use Rattle.sv_base.specs.Names.{signal_name}
use Rattle.sv_base.specs.declared.ids.Run.{Run}
use Rattle.sv_base.specs.declared.signal.Signal.{Signal}
use Rattle.sv_base.specs.declared.signal.Signal.TheVariants as signal_is
use Rattle.sv_base.specs.declared.state.How.TheVariants as how_is
use Rattle.sv_base.specs.declared.state.Stream.{Stream}
use Rattle.sv_base.specs.declared.state.Stream.TheVariants as stream_is
use Rattle.sv_base.specs.declared.state.Side.TheVariants as side_is
use Rattle.sv_base.specs.declared.state.Autorestart.{Autorestart}
use Rattle.sv_base.specs.declared.state.Autorestart.TheVariants as autorestart_is
use Rattle.sv_out.specs.declared.input.Input.{Input}
use Rattle.sv_out.specs.declared.input.Input.TheVariants as input_is
use Rattle.sv_journal.specs.declared.header.Header.{Header}
use Rattle.sv_journal.specs.declared.header.Header.TheVariants as header_is
use Rattle.sv_journal.specs.declared.words.Verb.{Verb}
use Rattle.sv_journal.specs.declared.words.Verb.TheVariants as verb_is
use Rattle.sv_journal.specs.declared.words.Ending.{Ending}
use Rattle.sv_journal.specs.declared.words.Ending.TheVariants as ending_is
use Rattle.sv_journal.specs.declared.words.Answer.{Answer}
use Rattle.sv_journal.specs.declared.words.Answer.TheVariants as answer_is
use Rattle.sv_journal.specs.declared.words.Told.TheVariants as told_is
use Rattle.sv_journal.specs.declared.words.Opening.{Opening}
use Rattle.sv_journal.specs.declared.words.Opening.TheVariants as opening_is
use Rattle.sv_letters.specs.declared.letters.Letters.{Letters}
use Rattle.sv_letters.specs.declared.letters.Letters.TheVariants.{OfText, OfName, OfBytes}
use Rattle.sv_journal.specs.Limits.{number_limit, run_limit, program_limit}
use Rattle.sv_journal.specs.JournalLine.{autorestart_word, side_word, input_line, FitsInput, header_line, FitsHeader}
use Rattle.sv_journal.specs.Reading.{◌>>=◌, end_at, token_at}
use Rattle.sv_journal.specs.ReadingLines.{verb_word, verbs, told_signal, told_signals, told_word, ending_word, endings, answer_word, answers, sides, opening_word, openings, signals, autorestarts, word_then, keyword_then, number_then, token_then, last_token_then, last_piece_then, how_at, exit_at, out_at, out_end_at, open_at, link_piece_at, link_end_at, event_of, event_at, answer_of, answer_at, begins_with_digit, input_at, codes_at, restart_at, start_at, program_at, env_at, size_at, include_at, header_of, header_at}
use Rattle.sv_journal.proofs.CommaLaws.{ends_codes}
use Rattle.sv_journal.proofs.Columns.{Exact}
use Rattle.sv_journal.proofs.HeaderLaws.{program_fits, header_takes, header_fits, header_again, opening_again, signal_again, autorestart_again}
use Rattle.sv_journal.proofs.InputLaws.{moment_fits, number_fits, run_fits, told_again, code_fits, signal_fits, verb_again, side_again, ending_again, answer_again, decimal_begins, input_takes, input_fits, input_again}
use Rattle.sv_journal.proofs.NumberLaws.{IsLimit}
use Rattle.sv_journal.proofs.Sharp.{Failure, Sharp, any, plain, space, plain_no_digit, plain_ends, sharp_end, sharp_word, sharp_keyword, sharp_number}
use Rattle.sv_journal.proofs.SharpAbove.{names_sharp}
use Rattle.sv_journal.proofs.SharpCodes.{sharp_codes}
use Rattle.sv_journal.proofs.SharpPiece.{sharp_piece}
use Rattle.sv_journal.proofs.SharpToken.{sharp_token}

plain_ends_codes : (bs : List ℕ) → plain bs ≡ true → ends_codes bs ≡ true
plain_ends_codes [] e = refl
plain_ends_codes (b ∷ bs) e = space b bs ends_codes true refl e

sharp_same : {X : Type 0} (g h : List ℕ → Result X ℕ) (Q : List ℕ → Bool) → ((bs : List ℕ) → g bs ≡ h bs) → Sharp h Q → Sharp g Q
sharp_same g h Q same s = record {
  sample = s.sample;
  value = s.value;
  reads = same s.sample ∙ s.reads;
  has = s.has;
  fails = λ bs left e. let f = s.fails bs left (sym (same bs) ∙ e) in record {
    front = f.front;
    bad = f.bad;
    parts = f.parts;
    size = f.size;
    local = λ b more other q. same (f.front ++ b ∷ other) ∙ f.local b more other q;
    tail = f.tail;
    value = f.value;
    completed = same (f.front ++ f.tail) ∙ f.completed;
    has = f.has;
  };
}

last_same : {X : Type 0} (letters : Letters) (value : List ℕ → X) (bs : List ℕ) → last_token_then letters value bs ≡ token_then letters (λ v. end_at (value v)) bs
last_same {X} letters value bs = go (token_at letters bs)
  where
    at_end : (v rest : List ℕ) → (end_at v rest >>= (λ v. Ok (value v))) ≡ end_at (value v) rest
    at_end v [] = refl
    at_end v (b ∷ bs) = refl

    go : (r : Result (List ℕ × List ℕ) ℕ) → ((r >>= (λ r. end_at r.0 r.1)) >>= (λ v. Ok (value v))) ≡ (r >>= (λ r. end_at (value r.0) r.1))
    go (Ok r) = at_end r.0 r.1
    go (Err left) = refl

last_token : {X : Type 0} (letters : Letters) (value : List ℕ → X) → Sharp (last_token_then letters value) any
last_token letters value =
    sharp_same (last_token_then letters value) (token_then letters (λ v. end_at (value v))) any (last_same letters value) (sharp_token letters (λ v. end_at (value v)) plain plain_ends (λ v. sharp_end (value v)))

last_number : {X : Type 0} (least limit : ℕ) (value : ℕ → X) → IsLimit limit → least ≤ 1 → Sharp (number_then least limit (λ n. end_at (value n))) any
last_number least limit value fits one = sharp_number least limit (λ n. end_at (value n)) plain any fits one plain_no_digit (λ n x h. refl) (λ n. sharp_end (value n))

-- any text begins so
weaker : {X : Type 0} {h : List ℕ → Result X ℕ} {P : List ℕ → Bool} → Sharp h P → Sharp h any
weaker s = record {
  sample = s.sample;
  value = s.value;
  reads = s.reads;
  has = refl;
  fails = λ bs left e. let f = s.fails bs left e in record { front = f.front; bad = f.bad; parts = f.parts; size = f.size; local = f.local; tail = f.tail; value = f.value; completed = f.completed; has = refl };
}

how_sharp : (at : ℕ) (run : Run) (ending : Ending) → Sharp (how_at at run ending) any
unfolding how_at
how_sharp at run ending_is.Code = last_number 0 255 (λ code. input_is.Exit at run (how_is.Code code)) code_fits (omega arith)
how_sharp at run ending_is.Signal = last_number 1 64 (λ signal. input_is.Exit at run (how_is.Signal signal)) signal_fits (omega arith)

exit_sharp : (at : ℕ) → Sharp (exit_at at) any
unfolding exit_at
exit_sharp at =
    sharp_number 0 run_limit (λ run. word_then (codes " ") (keyword_then ending_word endings (how_at at (record { 0 = run })))) plain any run_fits (omega arith) plain_no_digit (λ n x h. refl) (λ run.
    sharp_word 32 [] (keyword_then ending_word endings (how_at at (record { 0 = run }))) any plain (λ x. refl)
    (sharp_keyword ending_word endings ending_is.Code (how_at at (record { 0 = run })) any ending_again (λ k x. refl) (how_sharp at (record { 0 = run }))))

out_sharp : (at : ℕ) (stream : Stream) → Sharp (out_at at stream) any
unfolding out_at
out_sharp at stream =
    sharp_number 0 run_limit (λ run. word_then (codes " ") (last_piece_then (λ bytes. input_is.Out at (record { 0 = run }) stream bytes))) plain any run_fits (omega arith) plain_no_digit (λ n x h. refl) (λ run.
    sharp_word 32 [] (last_piece_then (λ bytes. input_is.Out at (record { 0 = run }) stream bytes)) any plain (λ x. refl) (sharp_piece (λ bytes. input_is.Out at (record { 0 = run }) stream bytes)))

out_end_sharp : (at : ℕ) (stream : Stream) → Sharp (out_end_at at stream) any
unfolding out_end_at
out_end_sharp at stream = last_number 0 run_limit (λ run. input_is.OutEnd at (record { 0 = run }) stream) run_fits (omega arith)

open_sharp : (at : ℕ) → Sharp (open_at at) any
unfolding open_at
open_sharp at =
    sharp_number 0 run_limit (λ link. word_then (codes " ") (keyword_then side_word sides (λ side. end_at (input_is.Open at (record { 0 = link }) side)))) plain any run_fits (omega arith) plain_no_digit (λ n x h. refl) (λ link.
    sharp_word 32 [] (keyword_then side_word sides (λ side. end_at (input_is.Open at (record { 0 = link }) side))) any plain (λ x. refl)
    (sharp_keyword side_word sides side_is.Inet (λ side. end_at (input_is.Open at (record { 0 = link }) side)) any side_again (λ k x. refl) (λ side. weaker (sharp_end (input_is.Open at (record { 0 = link }) side)))))

link_piece_sharp : (at : ℕ) → Sharp (link_piece_at at) any
unfolding link_piece_at
link_piece_sharp at =
    sharp_number 0 run_limit (λ link. word_then (codes " ") (last_piece_then (λ bytes. input_is.Piece at (record { 0 = link }) bytes))) plain any run_fits (omega arith) plain_no_digit (λ n x h. refl) (λ link.
    sharp_word 32 [] (last_piece_then (λ bytes. input_is.Piece at (record { 0 = link }) bytes)) any plain (λ x. refl) (sharp_piece (λ bytes. input_is.Piece at (record { 0 = link }) bytes)))

link_end_sharp : (at : ℕ) → Sharp (link_end_at at) any
unfolding link_end_at
link_end_sharp at = last_number 0 run_limit (λ link. input_is.LinkEnd at (record { 0 = link })) run_fits (omega arith)

event_of_sharp : (at : ℕ) (verb : Verb) → Sharp (event_of at verb) any
unfolding event_of
event_of_sharp at verb_is.Tick = weaker (sharp_end (input_is.Tick at))
event_of_sharp at verb_is.Exit = exit_sharp at
event_of_sharp at verb_is.Out = out_sharp at stream_is.Out
event_of_sharp at verb_is.Err = out_sharp at stream_is.Err
event_of_sharp at verb_is.OutEnd = out_end_sharp at stream_is.Out
event_of_sharp at verb_is.ErrEnd = out_end_sharp at stream_is.Err
event_of_sharp at verb_is.Open = open_sharp at
event_of_sharp at verb_is.Piece = link_piece_sharp at
event_of_sharp at verb_is.End = link_end_sharp at
event_of_sharp at verb_is.Start = last_token OfText (λ name. input_is.Start at name)
event_of_sharp at verb_is.Stop = last_token OfText (λ name. input_is.Stop at name)
event_of_sharp at verb_is.Signal =
    sharp_keyword told_word told_signals told_is.Term (λ told. end_at (input_is.Signal at (told_signal told))) any told_again (λ k x. refl) (λ told. weaker (sharp_end (input_is.Signal at (told_signal told))))

event_sharp : Sharp event_at begins_with_digit
unfolding event_at
event_sharp =
    sharp_number 0 moment_limit (λ at. word_then (codes " ") (keyword_then verb_word verbs (event_of at))) plain begins_with_digit moment_fits (omega arith) plain_no_digit (λ n x h. decimal_begins n x (omega arith)) (λ at.
    sharp_word 32 [] (keyword_then verb_word verbs (event_of at)) any plain (λ x. refl)
    (sharp_keyword verb_word verbs verb_is.Tick (event_of at) any verb_again (λ k x. refl) (event_of_sharp at)))

answer_of_sharp : (answer : Answer) → Sharp (answer_of answer) any
unfolding answer_of
answer_of_sharp answer_is.Pid = last_number 1 run_limit (λ pid. input_is.Pid pid) run_fits (omega arith)
answer_of_sharp answer_is.NoFile = weaker (sharp_end input_is.NoFile)
answer_of_sharp answer_is.NotExecutable = weaker (sharp_end input_is.NotExecutable)
answer_of_sharp answer_is.Refused = last_token OfText (λ reason. input_is.Refused reason)
answer_of_sharp answer_is.Bytes = last_token OfBytes (λ bytes. input_is.Read bytes)
answer_of_sharp answer_is.Done = weaker (sharp_end input_is.Done)
answer_of_sharp answer_is.Missing = weaker (sharp_end input_is.Missing)
answer_of_sharp answer_is.Names = names_sharp
answer_of_sharp answer_is.Size = last_number 0 number_limit (λ size. input_is.Size size) number_fits (omega arith)
answer_of_sharp answer_is.Failed = last_number 0 number_limit (λ number. input_is.Failed number) number_fits (omega arith)

abbrev no_digit : List ℕ → Bool
no_digit bs = not (begins_with_digit bs)

answer_begins : (answer : Answer) (rest : List ℕ) → no_digit (answer_word answer ++ rest) ≡ true
answer_begins answer_is.Pid rest = refl
answer_begins answer_is.NoFile rest = refl
answer_begins answer_is.NotExecutable rest = refl
answer_begins answer_is.Refused rest = refl
answer_begins answer_is.Bytes rest = refl
answer_begins answer_is.Done rest = refl
answer_begins answer_is.Missing rest = refl
answer_begins answer_is.Names rest = refl
answer_begins answer_is.Size rest = refl
answer_begins answer_is.Failed rest = refl

answer_sharp : Sharp answer_at no_digit
unfolding answer_at
answer_sharp = sharp_keyword answer_word answers answer_is.Pid answer_of no_digit answer_again answer_begins answer_of_sharp

digit_head : (front : List ℕ) (b : ℕ) (more other : List ℕ) → begins_with_digit (front ++ b ∷ more) ≡ begins_with_digit (front ++ b ∷ other)
digit_head [] b more other = refl
digit_head (c ∷ front) b more other = refl

pub chosen_event : (bs : List ℕ) → begins_with_digit bs ≡ true → input_at bs ≡ event_at bs
unfolding input_at
chosen_event bs e = go (begins_with_digit bs) e
  where
    go : (t : Bool) → t ≡ true → cond t (event_at bs) (answer_at bs) ≡ event_at bs
    go true e = refl
    go false e = cc e

chosen_answer : (bs : List ℕ) → begins_with_digit bs ≡ false → input_at bs ≡ answer_at bs
unfolding input_at
chosen_answer bs e = go (begins_with_digit bs) e
  where
    go : (t : Bool) → t ≡ false → cond t (event_at bs) (answer_at bs) ≡ answer_at bs
    go false e = refl
    go true e = cc e

chosen_fails : (next : List ℕ → Result Input ℕ) (Q : List ℕ → Bool) (t : Bool) → ((bs : List ℕ) → begins_with_digit bs ≡ t → input_at bs ≡ next bs) → ((bs : List ℕ) → Q bs ≡ true → begins_with_digit bs ≡ t)
    → Sharp next Q → (bs : List ℕ) (left : ℕ) → begins_with_digit bs ≡ t → input_at bs ≡ Err left → Failure input_at any bs left
chosen_fails next Q t same begins s bs left is e =
    let f = s.fails bs left (sym (same bs is) ∙ e) in
    record {
      front = f.front;
      bad = f.bad;
      parts = f.parts;
      size = f.size;
      local = λ b more other q.
          same (f.front ++ b ∷ other) (sym (digit_head f.front b more other) ∙ ap begins_with_digit (sym (f.parts ∙ ap (λ (l : List ℕ). f.front ++ l) q)) ∙ is) ∙ f.local b more other q;
      tail = f.tail;
      value = f.value;
      completed = same (f.front ++ f.tail) (begins (f.front ++ f.tail) f.has) ∙ f.completed;
      has = refl;
    }

input_sharp : Sharp input_at any
input_sharp = record {
  sample = event_sharp.sample;
  value = event_sharp.value;
  reads = chosen_event event_sharp.sample event_sharp.has ∙ event_sharp.reads;
  has = refl;
  fails = λ bs left e. elim (cases_Bool (begins_with_digit bs)) [
    | inl h ↦ chosen_fails event_at begins_with_digit true chosen_event (λ bs e. e) event_sharp bs left h e
    | inr h ↦ chosen_fails answer_at no_digit false chosen_answer (λ bs e. not-true (begins_with_digit bs) e) answer_sharp bs left h e
  ];
}

pub input_exact : Exact input_at FitsInput input_line
input_exact = record { takes = input_takes; fits = input_fits; again = input_again; sharp = input_sharp }

-- headers
codes_sharp : (name : List ℕ) (startsecs startretries : ℕ) (autorestart : Autorestart) → Sharp (codes_at name startsecs startretries autorestart) any
unfolding codes_at
codes_sharp name startsecs startretries autorestart =
    let made : List ℕ → Signal → ℕ → Header = λ exitcodes stopsignal stopwaitsecs. header_is.Program (record {
      name = name;
      startsecs = startsecs;
      startretries = startretries;
      autorestart = autorestart;
      exitcodes = exitcodes;
      stopsignal = stopsignal;
      stopwaitsecs = stopwaitsecs;
    }) in
    sharp_codes (λ exitcodes. word_then (codes " ") (keyword_then signal_name signals (λ stopsignal. word_then (codes " ") (number_then 0 program_limit (λ stopwaitsecs. end_at (made exitcodes stopsignal stopwaitsecs)))))) plain plain_ends_codes (λ exitcodes.
    sharp_word 32 [] (keyword_then signal_name signals (λ stopsignal. word_then (codes " ") (number_then 0 program_limit (λ stopwaitsecs. end_at (made exitcodes stopsignal stopwaitsecs))))) any plain (λ x. refl)
    (sharp_keyword signal_name signals signal_is.Term (λ stopsignal. word_then (codes " ") (number_then 0 program_limit (λ stopwaitsecs. end_at (made exitcodes stopsignal stopwaitsecs)))) any signal_again (λ k x. refl) (λ stopsignal.
    sharp_word 32 [] (number_then 0 program_limit (λ stopwaitsecs. end_at (made exitcodes stopsignal stopwaitsecs))) any any (λ x. refl)
    (last_number 0 program_limit (made exitcodes stopsignal) program_fits (omega arith)))))

restart_sharp : (name : List ℕ) (startsecs startretries : ℕ) → Sharp (restart_at name startsecs startretries) any
unfolding restart_at
restart_sharp name startsecs startretries =
    sharp_keyword autorestart_word autorestarts autorestart_is.Always (λ autorestart. word_then (codes " ") (codes_at name startsecs startretries autorestart)) any autorestart_again (λ k x. refl) (λ autorestart.
    sharp_word 32 [] (codes_at name startsecs startretries autorestart) any any (λ x. refl) (codes_sharp name startsecs startretries autorestart))

start_sharp : (name : List ℕ) → Sharp (start_at name) any
unfolding start_at
start_sharp name =
    sharp_number 0 program_limit (λ startsecs. word_then (codes " ") (number_then 0 program_limit (λ startretries. word_then (codes " ") (restart_at name startsecs startretries)))) plain any program_fits (omega arith) plain_no_digit (λ n x h. refl) (λ startsecs.
    sharp_word 32 [] (number_then 0 program_limit (λ startretries. word_then (codes " ") (restart_at name startsecs startretries))) any plain (λ x. refl)
    (sharp_number 0 program_limit (λ startretries. word_then (codes " ") (restart_at name startsecs startretries)) plain any program_fits (omega arith) plain_no_digit (λ n x h. refl) (λ startretries.
    sharp_word 32 [] (restart_at name startsecs startretries) any plain (λ x. refl) (restart_sharp name startsecs startretries))))

program_sharp : Sharp program_at any
unfolding program_at
program_sharp = sharp_token OfName (λ name. word_then (codes " ") (start_at name)) plain plain_ends (λ name. sharp_word 32 [] (start_at name) any plain (λ x. refl) (start_sharp name))

env_sharp : Sharp env_at any
unfolding env_at
env_sharp =
    sharp_token OfText (λ name. word_then (codes " ") (last_token_then OfText (λ value. header_is.Env name value))) plain plain_ends (λ name.
    sharp_word 32 [] (last_token_then OfText (λ value. header_is.Env name value)) any plain (λ x. refl) (last_token OfText (λ value. header_is.Env name value)))

size_sharp : Sharp size_at any
unfolding size_at
size_sharp =
    sharp_token OfText (λ file. word_then (codes " ") (number_then 0 number_limit (λ size. end_at (header_is.Size file size)))) plain plain_ends (λ file.
    sharp_word 32 [] (number_then 0 number_limit (λ size. end_at (header_is.Size file size))) any plain (λ x. refl) (last_number 0 number_limit (λ size. header_is.Size file size) number_fits (omega arith)))

include_sharp : Sharp include_at any
unfolding include_at
include_sharp =
    sharp_token OfText (λ name. word_then (codes " ") (last_token_then OfBytes (λ text. header_is.Include name text))) plain plain_ends (λ name.
    sharp_word 32 [] (last_token_then OfBytes (λ text. header_is.Include name text)) any plain (λ x. refl) (last_token OfBytes (λ text. header_is.Include name text)))

header_of_sharp : (opening : Opening) → Sharp (header_of opening) any
unfolding header_of
header_of_sharp opening_is.Short = weaker (sharp_end (header_is.Journal 0))
header_of_sharp opening_is.Long = weaker (sharp_end (header_is.Journal 1))
header_of_sharp opening_is.Program = program_sharp
header_of_sharp opening_is.Host = last_token OfText (λ name. header_is.Host name)
header_of_sharp opening_is.Here = last_token OfText (λ directory. header_is.Here directory)
header_of_sharp opening_is.Pid = last_number 0 run_limit (λ pid. header_is.Pid pid) run_fits (omega arith)
header_of_sharp opening_is.Env = env_sharp
header_of_sharp opening_is.Size = size_sharp
header_of_sharp opening_is.Conf = last_token OfBytes (λ text. header_is.Conf text)
header_of_sharp opening_is.Include = include_sharp
header_of_sharp opening_is.Go = last_number 0 moment_limit (λ at. header_is.Go at) moment_fits (omega arith)

header_sharp : Sharp header_at any
unfolding header_at
header_sharp = sharp_keyword opening_word openings opening_is.Go header_of any opening_again (λ k x. refl) header_of_sharp

pub header_exact : Exact header_at FitsHeader header_line
header_exact = record { takes = header_takes; fits = header_fits; again = header_again; sharp = header_sharp }
