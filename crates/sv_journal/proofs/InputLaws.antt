-- Each line that is read as an input is the line of that input, and the line of each input is read as it.
use Rattle.std.proofs.Common.{◌≡◌, ℕ, ◌+◌, ◌%◌, ◌^◌, ◌<◌, ◌≤◌, ◌≢◌, Bool, true, false, cond, List, [], ◌∷◌, ◌++◌, length, Result, Ok, None, refl, sym, ap, ◌∙◌, subst, arith, append_assoc, append-nil, IsUtf8}
use Rattle.std.specs.Prelude.{codes}
use Rattle.std.specs.List.{flat_map}
use Rattle.std.specs.Fmt.{decimal}
use Rattle.std.proofs.lemmas.Fmt.{decimal_by_steps}
use Rattle.sv_base.specs.Limits.{moment_limit}
use Rattle.sv_base.specs.declared.ids.Run.{Run}
use Rattle.sv_base.specs.declared.ids.LinkId.{LinkId}
use Rattle.sv_base.specs.declared.state.How.{How}
use Rattle.sv_base.specs.declared.state.How.TheVariants as how_is
use Rattle.sv_base.specs.declared.state.Stream.{Stream}
use Rattle.sv_base.specs.declared.state.Stream.TheVariants as stream_is
use Rattle.sv_base.specs.declared.state.Side.{Side}
use Rattle.sv_base.specs.declared.state.Side.TheVariants as side_is
use Rattle.sv_out.specs.Files.{AreRising}
use Rattle.sv_out.specs.declared.input.Input.{Input}
use Rattle.sv_out.specs.declared.input.Input.TheVariants as input_is
use Rattle.sv_out.proofs.NamesInOrder.{rise_rising, rising_rise}
use Rattle.sv_journal.specs.declared.words.Verb.{Verb}
use Rattle.sv_journal.specs.declared.words.Verb.TheVariants as verb_is
use Rattle.sv_base.specs.declared.signal.Signal.TheVariants as signal_is
use Rattle.sv_journal.specs.declared.words.Told.{Told}
use Rattle.sv_journal.specs.declared.words.Told.TheVariants as told_is
use Rattle.sv_journal.specs.declared.words.Ending.{Ending}
use Rattle.sv_journal.specs.declared.words.Ending.TheVariants as ending_is
use Rattle.sv_journal.specs.declared.words.Answer.{Answer}
use Rattle.sv_journal.specs.declared.words.Answer.TheVariants as answer_is
use Rattle.sv_letters.specs.declared.letters.Letters.{Letters}
use Rattle.sv_letters.specs.declared.letters.Letters.TheVariants.{OfText, OfBytes}
use Rattle.sv_journal.specs.Limits.{number_limit, run_limit}
use Rattle.sv_journal.specs.Spelling.{token}
use Rattle.sv_journal.specs.JournalLine.{IsPiece, AreTexts, then_token, how_words, FitsHow, stream_word, stream_end_word, side_word, input_line, FitsInput}
use Rattle.sv_journal.specs.Names.{names_at}
use Rattle.sv_journal.specs.Reading.{◌>>=◌, end_at, keyword_at}
use Rattle.sv_journal.specs.ReadingLines.{verb_word, verbs, told_signal, told_signals, told_word, ending_word, endings, answer_word, answers, sides, word_then, keyword_then, number_then, last_token_then, last_piece_then, how_at, exit_at, out_at, out_end_at, open_at, link_piece_at, link_end_at, event_of, event_at, names_line_at, answer_of, answer_at, begins_with_digit, input_at}
use Rattle.sv_journal.proofs.AboveLaws.{begin_above, names_take, names_plain, names_again}
use Rattle.sv_journal.proofs.LineParts.{bind_then, end_takes, word_then_takes, keyword_then_takes, number_then_takes, last_token_takes}
use Rattle.sv_journal.proofs.Names.{good_text, text_good, good_bytes, bytes_good}
use Rattle.sv_journal.proofs.NumberLaws.{IsLimit, number_again, digit_from}
use Rattle.sv_journal.proofs.PieceLaws.{last_piece_takes, end_piece}
use Rattle.sv_journal.proofs.Sharp.{plain_no_digit}
use Rattle.sv_journal.proofs.TokenLaws.{Good, token_again}

pub moment_fits : IsLimit moment_limit
moment_fits = (omega arith, omega arith)

pub run_fits : IsLimit run_limit
run_fits = (omega arith, omega arith)

pub number_fits : IsLimit number_limit
number_fits = (omega arith, omega arith)

pub code_fits : IsLimit 255
code_fits = (omega arith, omega arith)

pub signal_fits : IsLimit 64
signal_fits = (omega arith, omega arith)

record Ended (at : ℕ) (run : Run) (front : List ℕ) (i : Input) : Type 0 where
  how : How
  is : i ≡ input_is.Exit at run how
  fits : FitsHow how
  same : front ≡ how_words how

how_takes : (at : ℕ) (run : Run) (ending : Ending) (bs : List ℕ) (i : Input) → how_at at run ending bs ≡ Ok i → Ended at run (ending_word ending ++ bs) i
unfolding how_at
how_takes at run ending_is.Code bs i e =
    number_then_takes 0 255 (λ code. end_at (input_is.Exit at run (how_is.Code code))) bs i code_fits e (λ code rest taken e.
    let end = end_takes (input_is.Exit at run (how_is.Code code)) i rest e in
    record {
      how = how_is.Code code;
      is = sym end.1;
      fits = taken.high;
      same = ap (λ (l : List ℕ). codes "code " ++ l) (taken.same ∙ ap (λ (l : List ℕ). decimal code ++ l) end.0 ∙ append-nil (decimal code));
    })
how_takes at run ending_is.Signal bs i e =
    number_then_takes 1 64 (λ signal. end_at (input_is.Exit at run (how_is.Signal signal))) bs i signal_fits e (λ signal rest taken e.
    let end = end_takes (input_is.Exit at run (how_is.Signal signal)) i rest e in
    record {
      how = how_is.Signal signal;
      is = sym end.1;
      fits = (taken.low, taken.high);
      same = ap (λ (l : List ℕ). codes "signal " ++ l) (taken.same ∙ ap (λ (l : List ℕ). decimal signal ++ l) end.0 ∙ append-nil (decimal signal));
    })

record Meant (line : List ℕ) (i : Input) : Type 0 where
  same : line ≡ input_line i
  fits : FitsInput i

-- five parts, grouped from the left
joined_five : (a b c d e : List ℕ) → a ++ (b ++ (c ++ (d ++ e))) ≡ (((a ++ b) ++ c) ++ d) ++ e
joined_five a b c d e = simp append_assoc

joined_three : (a b c : List ℕ) → a ++ (b ++ c) ≡ (a ++ b) ++ c
joined_three a b c = sym (append_assoc a b c)

exit_takes : (at : ℕ) (bs : List ℕ) (i : Input) → at ≤ moment_limit → exit_at at bs ≡ Ok i → Meant (decimal at ++ (codes " exit " ++ bs)) i
unfolding exit_at
exit_takes at bs i fits e =
    number_then_takes 0 run_limit (λ run. word_then (codes " ") (keyword_then ending_word endings (how_at at (record { 0 = run })))) bs i run_fits e (λ run rest taken e.
    word_then_takes (codes " ") (keyword_then ending_word endings (how_at at (record { 0 = run }))) rest i e (λ rest2 is2 e.
    keyword_then_takes ending_word endings (how_at at (record { 0 = run })) rest2 i e (λ ending rest3 is3 e.
    let h = how_takes at (record { 0 = run }) ending rest3 i e in
    let whole : bs ≡ decimal run ++ (codes " " ++ how_words h.how) = taken.same ∙ ap (λ (l : List ℕ). decimal run ++ l) (is2 ∙ ap (λ (l : List ℕ). codes " " ++ l) (is3 ∙ h.same)) in
    record {
      same = ap (λ (l : List ℕ). decimal at ++ (codes " exit " ++ l)) whole ∙ joined_five (decimal at) (codes " exit ") (decimal run) (codes " ") (how_words h.how) ∙ ap input_line (sym h.is);
      fits = subst FitsInput (sym h.is) (fits, taken.high, h.fits);
    })))

out_takes : (at : ℕ) (stream : Stream) (bs : List ℕ) (i : Input) → at ≤ moment_limit → out_at at stream bs ≡ Ok i → Meant (decimal at ++ (stream_word stream ++ bs)) i
unfolding out_at
out_takes at stream bs i fits e =
    number_then_takes 0 run_limit (λ run. word_then (codes " ") (last_piece_then (λ bytes. input_is.Out at (record { 0 = run }) stream bytes))) bs i run_fits e (λ run rest taken e.
    word_then_takes (codes " ") (last_piece_then (λ bytes. input_is.Out at (record { 0 = run }) stream bytes)) rest i e (λ rest2 is2 e.
    last_piece_takes (λ bytes. input_is.Out at (record { 0 = run }) stream bytes) rest2 i e (λ bytes piece is.
    let whole : bs ≡ decimal run ++ (codes " " ++ token bytes) = taken.same ∙ ap (λ (l : List ℕ). decimal run ++ l) (is2 ∙ ap (λ (l : List ℕ). codes " " ++ l) piece.same) in
    record {
      same = ap (λ (l : List ℕ). decimal at ++ (stream_word stream ++ l)) whole ∙ joined_five (decimal at) (stream_word stream) (decimal run) (codes " ") (token bytes) ∙ ap input_line (sym is);
      fits = subst FitsInput (sym is) (fits, taken.high, piece.fits);
    })))

out_end_takes : (at : ℕ) (stream : Stream) (bs : List ℕ) (i : Input) → at ≤ moment_limit → out_end_at at stream bs ≡ Ok i → Meant (decimal at ++ (stream_end_word stream ++ bs)) i
unfolding out_end_at
out_end_takes at stream bs i fits e =
    number_then_takes 0 run_limit (λ run. end_at (input_is.OutEnd at (record { 0 = run }) stream)) bs i run_fits e (λ run rest taken e.
    let end = end_takes (input_is.OutEnd at (record { 0 = run }) stream) i rest e in
    let whole : bs ≡ decimal run = taken.same ∙ ap (λ (l : List ℕ). decimal run ++ l) end.0 ∙ append-nil (decimal run) in
    record {
      same = ap (λ (l : List ℕ). decimal at ++ (stream_end_word stream ++ l)) whole ∙ joined_three (decimal at) (stream_end_word stream) (decimal run) ∙ ap input_line end.1;
      fits = subst FitsInput end.1 (fits, taken.high);
    })

open_takes : (at : ℕ) (bs : List ℕ) (i : Input) → at ≤ moment_limit → open_at at bs ≡ Ok i → Meant (decimal at ++ (codes " open " ++ bs)) i
unfolding open_at
open_takes at bs i fits e =
    number_then_takes 0 run_limit (λ link. word_then (codes " ") (keyword_then side_word sides (λ side. end_at (input_is.Open at (record { 0 = link }) side)))) bs i run_fits e (λ link rest taken e.
    word_then_takes (codes " ") (keyword_then side_word sides (λ side. end_at (input_is.Open at (record { 0 = link }) side))) rest i e (λ rest2 is2 e.
    keyword_then_takes side_word sides (λ side. end_at (input_is.Open at (record { 0 = link }) side)) rest2 i e (λ side rest3 is3 e.
    let end = end_takes (input_is.Open at (record { 0 = link }) side) i rest3 e in
    let last : rest2 ≡ side_word side = is3 ∙ ap (λ (l : List ℕ). side_word side ++ l) end.0 ∙ append-nil (side_word side) in
    let whole : bs ≡ decimal link ++ (codes " " ++ side_word side) = taken.same ∙ ap (λ (l : List ℕ). decimal link ++ l) (is2 ∙ ap (λ (l : List ℕ). codes " " ++ l) last) in
    record {
      same = ap (λ (l : List ℕ). decimal at ++ (codes " open " ++ l)) whole ∙ joined_five (decimal at) (codes " open ") (decimal link) (codes " ") (side_word side) ∙ ap input_line end.1;
      fits = subst FitsInput end.1 (fits, taken.high);
    })))

link_piece_takes : (at : ℕ) (bs : List ℕ) (i : Input) → at ≤ moment_limit → link_piece_at at bs ≡ Ok i → Meant (decimal at ++ (codes " piece " ++ bs)) i
unfolding link_piece_at
link_piece_takes at bs i fits e =
    number_then_takes 0 run_limit (λ link. word_then (codes " ") (last_piece_then (λ bytes. input_is.Piece at (record { 0 = link }) bytes))) bs i run_fits e (λ link rest taken e.
    word_then_takes (codes " ") (last_piece_then (λ bytes. input_is.Piece at (record { 0 = link }) bytes)) rest i e (λ rest2 is2 e.
    last_piece_takes (λ bytes. input_is.Piece at (record { 0 = link }) bytes) rest2 i e (λ bytes piece is.
    let whole : bs ≡ decimal link ++ (codes " " ++ token bytes) = taken.same ∙ ap (λ (l : List ℕ). decimal link ++ l) (is2 ∙ ap (λ (l : List ℕ). codes " " ++ l) piece.same) in
    record {
      same = ap (λ (l : List ℕ). decimal at ++ (codes " piece " ++ l)) whole ∙ joined_five (decimal at) (codes " piece ") (decimal link) (codes " ") (token bytes) ∙ ap input_line (sym is);
      fits = subst FitsInput (sym is) (fits, taken.high, piece.fits);
    })))

link_end_takes : (at : ℕ) (bs : List ℕ) (i : Input) → at ≤ moment_limit → link_end_at at bs ≡ Ok i → Meant (decimal at ++ (codes " end " ++ bs)) i
unfolding link_end_at
link_end_takes at bs i fits e =
    number_then_takes 0 run_limit (λ link. end_at (input_is.LinkEnd at (record { 0 = link }))) bs i run_fits e (λ link rest taken e.
    let end = end_takes (input_is.LinkEnd at (record { 0 = link })) i rest e in
    let whole : bs ≡ decimal link = taken.same ∙ ap (λ (l : List ℕ). decimal link ++ l) end.0 ∙ append-nil (decimal link) in
    record {
      same = ap (λ (l : List ℕ). decimal at ++ (codes " end " ++ l)) whole ∙ joined_three (decimal at) (codes " end ") (decimal link) ∙ ap input_line end.1;
      fits = subst FitsInput end.1 (fits, taken.high);
    })

told_not_hup : (told : Told) → told_signal told ≢ signal_is.Hup
told_not_hup told_is.Term = λ e. cc
told_not_hup told_is.Int = λ e. cc
told_not_hup told_is.Quit = λ e. cc
told_not_hup told_is.Kill = λ e. cc
told_not_hup told_is.Usr1 = λ e. cc
told_not_hup told_is.Usr2 = λ e. cc

event_of_takes : (at : ℕ) (verb : Verb) (bs : List ℕ) (i : Input) → at ≤ moment_limit → event_of at verb bs ≡ Ok i → Meant (decimal at ++ (codes " " ++ (verb_word verb ++ bs))) i
unfolding event_of
event_of_takes at verb_is.Tick bs i fits e =
    let end = end_takes (input_is.Tick at) i bs e in
    record {
      same = ap (λ (l : List ℕ). decimal at ++ (codes " tick" ++ l)) end.0 ∙ ap input_line end.1;
      fits = subst FitsInput end.1 fits;
    }
event_of_takes at verb_is.Exit bs i fits e = exit_takes at bs i fits e
event_of_takes at verb_is.Out bs i fits e = out_takes at stream_is.Out bs i fits e
event_of_takes at verb_is.Err bs i fits e = out_takes at stream_is.Err bs i fits e
event_of_takes at verb_is.OutEnd bs i fits e = out_end_takes at stream_is.Out bs i fits e
event_of_takes at verb_is.ErrEnd bs i fits e = out_end_takes at stream_is.Err bs i fits e
event_of_takes at verb_is.Open bs i fits e = open_takes at bs i fits e
event_of_takes at verb_is.Piece bs i fits e = link_piece_takes at bs i fits e
event_of_takes at verb_is.End bs i fits e = link_end_takes at bs i fits e
event_of_takes at verb_is.Start bs i fits e =
    last_token_takes OfText (λ name. input_is.Start at name) bs i e (λ name taken is.
    record {
      same = ap (λ (l : List ℕ). decimal at ++ (codes " start " ++ l)) (taken.same ∙ append-nil (token name)) ∙ sym (append_assoc (decimal at) (codes " start ") (token name)) ∙ ap input_line (sym is);
      fits = subst FitsInput (sym is) (fits, text_good name taken.good);
    })
event_of_takes at verb_is.Stop bs i fits e =
    last_token_takes OfText (λ name. input_is.Stop at name) bs i e (λ name taken is.
    record {
      same = ap (λ (l : List ℕ). decimal at ++ (codes " stop " ++ l)) (taken.same ∙ append-nil (token name)) ∙ sym (append_assoc (decimal at) (codes " stop ") (token name)) ∙ ap input_line (sym is);
      fits = subst FitsInput (sym is) (fits, text_good name taken.good);
    })
event_of_takes at verb_is.Signal bs i fits e =
    keyword_then_takes told_word told_signals (λ told. end_at (input_is.Signal at (told_signal told))) bs i e (λ told rest is e.
    let end = end_takes (input_is.Signal at (told_signal told)) i rest e in
    let whole : bs ≡ told_word told = is ∙ ap (λ (l : List ℕ). told_word told ++ l) end.0 ∙ append-nil (told_word told) in
    record {
      same = ap (λ (l : List ℕ). decimal at ++ (codes " signal " ++ l)) whole ∙ sym (append_assoc (decimal at) (codes " signal ") (told_word told)) ∙ ap input_line end.1;
      fits = subst FitsInput end.1 (fits, told_not_hup told);
    })

event_takes : (bs : List ℕ) (i : Input) → event_at bs ≡ Ok i → Meant bs i
unfolding event_at
event_takes bs i e =
    number_then_takes 0 moment_limit (λ at. word_then (codes " ") (keyword_then verb_word verbs (event_of at))) bs i moment_fits e (λ at rest taken e.
    word_then_takes (codes " ") (keyword_then verb_word verbs (event_of at)) rest i e (λ rest2 is2 e.
    keyword_then_takes verb_word verbs (event_of at) rest2 i e (λ verb rest3 is3 e.
    let m = event_of_takes at verb rest3 i taken.high e in
    record {
      same = taken.same ∙ ap (λ (l : List ℕ). decimal at ++ l) (is2 ∙ ap (λ (l : List ℕ). codes " " ++ l) is3) ∙ m.same;
      fits = m.fits;
    })))

names_line_takes : (bs : List ℕ) (i : Input) → names_line_at bs ≡ Ok i → Meant (codes "names " ++ bs) i
unfolding names_line_at
names_line_takes bs i e =
    number_then_takes 0 number_limit (λ n bs. names_at None n bs >>= (λ r. end_at (input_is.Names r.0) r.1)) bs i number_fits e (λ n rest taken e.
    bind_then (names_at None n rest) (λ r. end_at (input_is.Names r.0) r.1) i e (λ r is e.
    let t = names_take None n rest r.0 r.1 is in
    let end = end_takes (input_is.Names r.0) i r.1 e in
    let whole : bs ≡ decimal (length r.0) ++ flat_map then_token r.0 =
    taken.same ∙ ap (λ (l : List ℕ). decimal n ++ l) (t.same ∙ ap (λ (l : List ℕ). flat_map then_token r.0 ++ l) end.0 ∙ append-nil (flat_map then_token r.0))
    ∙ ap (λ (m : ℕ). decimal m ++ flat_map then_token r.0) (sym t.count) in
    record {
      same = ap (λ (l : List ℕ). codes "names " ++ l) whole ∙ ap input_line end.1;
      fits = subst FitsInput end.1 (t.texts, subst (λ (m : ℕ). m ≤ number_limit) (sym t.count) taken.high, rise_rising r.0 t.rises);
    }))

answer_of_takes : (answer : Answer) (bs : List ℕ) (i : Input) → answer_of answer bs ≡ Ok i → Meant (answer_word answer ++ bs) i
unfolding answer_of
answer_of_takes answer_is.Pid bs i e =
    number_then_takes 1 run_limit (λ pid. end_at (input_is.Pid pid)) bs i run_fits e (λ pid rest taken e.
    let end = end_takes (input_is.Pid pid) i rest e in
    record {
      same = ap (λ (l : List ℕ). codes "pid " ++ l) (taken.same ∙ ap (λ (l : List ℕ). decimal pid ++ l) end.0 ∙ append-nil (decimal pid)) ∙ ap input_line end.1;
      fits = subst FitsInput end.1 (taken.low, taken.high);
    })
answer_of_takes answer_is.NoFile bs i e =
    let end = end_takes input_is.NoFile i bs e in
    record { same = ap (λ (l : List ℕ). codes "nofile" ++ l) end.0 ∙ ap input_line end.1; fits = subst FitsInput end.1 tt }
answer_of_takes answer_is.NotExecutable bs i e =
    let end = end_takes input_is.NotExecutable i bs e in
    record { same = ap (λ (l : List ℕ). codes "notexec" ++ l) end.0 ∙ ap input_line end.1; fits = subst FitsInput end.1 tt }
answer_of_takes answer_is.Refused bs i e =
    last_token_takes OfText (λ reason. input_is.Refused reason) bs i e (λ reason taken is.
    record {
      same = ap (λ (l : List ℕ). codes "refused " ++ l) (taken.same ∙ append-nil (token reason)) ∙ ap input_line (sym is);
      fits = subst FitsInput (sym is) (text_good reason taken.good);
    })
answer_of_takes answer_is.Bytes bs i e =
    last_token_takes OfBytes (λ bytes. input_is.Read bytes) bs i e (λ bytes taken is.
    record {
      same = ap (λ (l : List ℕ). codes "bytes " ++ l) (taken.same ∙ append-nil (token bytes)) ∙ ap input_line (sym is);
      fits = subst FitsInput (sym is) (bytes_good bytes taken.good);
    })
answer_of_takes answer_is.Done bs i e =
    let end = end_takes input_is.Done i bs e in
    record { same = ap (λ (l : List ℕ). codes "done" ++ l) end.0 ∙ ap input_line end.1; fits = subst FitsInput end.1 tt }
answer_of_takes answer_is.Missing bs i e =
    let end = end_takes input_is.Missing i bs e in
    record { same = ap (λ (l : List ℕ). codes "missing" ++ l) end.0 ∙ ap input_line end.1; fits = subst FitsInput end.1 tt }
answer_of_takes answer_is.Names bs i e = names_line_takes bs i e
answer_of_takes answer_is.Size bs i e =
    number_then_takes 0 number_limit (λ size. end_at (input_is.Size size)) bs i number_fits e (λ size rest taken e.
    let end = end_takes (input_is.Size size) i rest e in
    record {
      same = ap (λ (l : List ℕ). codes "size " ++ l) (taken.same ∙ ap (λ (l : List ℕ). decimal size ++ l) end.0 ∙ append-nil (decimal size)) ∙ ap input_line end.1;
      fits = subst FitsInput end.1 taken.high;
    })
answer_of_takes answer_is.Failed bs i e =
    number_then_takes 0 number_limit (λ number. end_at (input_is.Failed number)) bs i number_fits e (λ number rest taken e.
    let end = end_takes (input_is.Failed number) i rest e in
    record {
      same = ap (λ (l : List ℕ). codes "failed " ++ l) (taken.same ∙ ap (λ (l : List ℕ). decimal number ++ l) end.0 ∙ append-nil (decimal number)) ∙ ap input_line end.1;
      fits = subst FitsInput end.1 taken.high;
    })

answer_takes : (bs : List ℕ) (i : Input) → answer_at bs ≡ Ok i → Meant bs i
unfolding answer_at
answer_takes bs i e =
    keyword_then_takes answer_word answers answer_of bs i e (λ answer rest is e.
    let m = answer_of_takes answer rest i e in
    record { same = is ∙ m.same; fits = m.fits })

input_means : (bs : List ℕ) (i : Input) → input_at bs ≡ Ok i → Meant bs i
unfolding input_at
input_means bs i e = go (begins_with_digit bs) e
  where
    go : (t : Bool) → cond t (event_at bs) (answer_at bs) ≡ Ok i → Meant bs i
    go true e = event_takes bs i e
    go false e = answer_takes bs i e

pub input_takes : (bs : List ℕ) (i : Input) → input_at bs ≡ Ok i → bs ≡ input_line i
input_takes bs i e = (input_means bs i e).same

pub input_fits : (bs : List ℕ) (i : Input) → input_at bs ≡ Ok i → FitsInput i
input_fits bs i e = (input_means bs i e).fits

pub verb_again : (verb : Verb) (rest : List ℕ) → keyword_at verb_word verbs (verb_word verb ++ rest) ≡ Ok (verb, rest)
verb_again verb_is.Tick rest = refl
verb_again verb_is.Exit rest = refl
verb_again verb_is.Out rest = refl
verb_again verb_is.Err rest = refl
verb_again verb_is.OutEnd rest = refl
verb_again verb_is.ErrEnd rest = refl
verb_again verb_is.Open rest = refl
verb_again verb_is.Piece rest = refl
verb_again verb_is.End rest = refl
verb_again verb_is.Start rest = refl
verb_again verb_is.Stop rest = refl
verb_again verb_is.Signal rest = refl

pub told_again : (told : Told) (rest : List ℕ) → keyword_at told_word told_signals (told_word told ++ rest) ≡ Ok (told, rest)
told_again told_is.Term rest = refl
told_again told_is.Int rest = refl
told_again told_is.Quit rest = refl
told_again told_is.Kill rest = refl
told_again told_is.Usr1 rest = refl
told_again told_is.Usr2 rest = refl

pub ending_again : (ending : Ending) (rest : List ℕ) → keyword_at ending_word endings (ending_word ending ++ rest) ≡ Ok (ending, rest)
ending_again ending_is.Code rest = refl
ending_again ending_is.Signal rest = refl

pub side_again : (side : Side) (rest : List ℕ) → keyword_at side_word sides (side_word side ++ rest) ≡ Ok (side, rest)
side_again side_is.Inet rest = refl
side_again side_is.Unix rest = refl

pub answer_again : (answer : Answer) (rest : List ℕ) → keyword_at answer_word answers (answer_word answer ++ rest) ≡ Ok (answer, rest)
answer_again answer_is.Pid rest = refl
answer_again answer_is.NoFile rest = refl
answer_again answer_is.NotExecutable rest = refl
answer_again answer_is.Refused rest = refl
answer_again answer_is.Bytes rest = refl
answer_again answer_is.Done rest = refl
answer_again answer_is.Missing rest = refl
answer_again answer_is.Names rest = refl
answer_again answer_is.Size rest = refl
answer_again answer_is.Failed rest = refl

pub decimal_begins : (n : ℕ) (rest : List ℕ) → n < 2 ^ 64 → begins_with_digit (decimal n ++ rest) ≡ true
decimal_begins n rest fits = decimal_by_steps (λ n ds. (rest : List ℕ) → begins_with_digit (ds ++ rest) ≡ true)
    (λ k small rest. digit_from (48 + k) (omega arith) (omega arith))
    (λ k ds big ih rest. ap begins_with_digit (append_assoc ds ((48 + k % 10) ∷ []) rest) ∙ ih ((48 + k % 10) ∷ rest))
    n fits rest

event_again : (at : ℕ) (verb : Verb) (rest : List ℕ) → at ≤ moment_limit → input_at (decimal at ++ (codes " " ++ (verb_word verb ++ rest))) ≡ event_of at verb rest
unfolding input_at event_at
event_again at verb rest fits =
    let line = decimal at ++ (codes " " ++ (verb_word verb ++ rest)) in
    ap (λ (t : Bool). cond t (event_at line) (answer_at line)) (decimal_begins at _ (omega arith))
    ∙ ap (λ (r : Result (ℕ × List ℕ) ℕ). r >>= (λ r. word_then (codes " ") (keyword_then verb_word verbs (event_of r.0)) r.1)) (number_again 0 moment_limit at (codes " " ++ (verb_word verb ++ rest)) moment_fits (omega arith) (omega arith) fits refl)
    ∙ ap (λ (r : Result (Verb × List ℕ) ℕ). r >>= (λ r. event_of at r.0 r.1)) (verb_again verb rest)

pub end_number : {X : Type 0} (least limit n : ℕ) (value : ℕ → X) → IsLimit limit → least ≤ 1 → least ≤ n → n ≤ limit → number_then least limit (λ n. end_at (value n)) (decimal n) ≡ Ok (value n)
end_number {X} least limit n value fits one low high =
    ap (number_then least limit (λ n. end_at (value n))) (sym (append-nil (decimal n)))
    ∙ ap (λ (r : Result (ℕ × List ℕ) ℕ). r >>= (λ r. end_at (value r.0) r.1)) (number_again least limit n [] fits one low high refl)

pub end_token : {X : Type 0} (letters : Letters) (value : List ℕ → X) (v : List ℕ) → Good letters v → last_token_then letters value (token v) ≡ Ok (value v)
end_token {X} letters value v good =
    ap (last_token_then letters value) (sym (append-nil (token v)))
    ∙ ap (λ (r : Result (List ℕ × List ℕ) ℕ). (r >>= (λ r. end_at r.0 r.1)) >>= (λ v. Ok (value v))) (token_again letters v [] good refl)

end_text : {X : Type 0} (value : List ℕ → X) (v : List ℕ) → IsUtf8 v → last_token_then OfText value (token v) ≡ Ok (value v)
end_text value v fits = end_token OfText value v (good_text v fits)

how_again : (at : ℕ) (run : Run) (how : How) → FitsHow how → keyword_then ending_word endings (how_at at run) (how_words how) ≡ Ok (input_is.Exit at run how)
unfolding how_at
how_again at run (how_is.Code code) fits =
    ap (λ (r : Result (Ending × List ℕ) ℕ). r >>= (λ r. how_at at run r.0 r.1)) (ending_again ending_is.Code (decimal code))
    ∙ end_number 0 255 code (λ code. input_is.Exit at run (how_is.Code code)) code_fits (omega arith) (omega arith) fits
how_again at run (how_is.Signal signal) fits =
    ap (λ (r : Result (Ending × List ℕ) ℕ). r >>= (λ r. how_at at run r.0 r.1)) (ending_again ending_is.Signal (decimal signal))
    ∙ end_number 1 64 signal (λ signal. input_is.Exit at run (how_is.Signal signal)) signal_fits (omega arith) fits.0 fits.1

exit_again : (at : ℕ) (run : Run) (how : How) → run.0 ≤ run_limit → FitsHow how → exit_at at (decimal run.0 ++ (codes " " ++ how_words how)) ≡ Ok (input_is.Exit at run how)
unfolding exit_at
exit_again at run how small fits =
    ap (λ (r : Result (ℕ × List ℕ) ℕ). r >>= (λ r. word_then (codes " ") (keyword_then ending_word endings (how_at at (record { 0 = r.0 }))) r.1)) (number_again 0 run_limit run.0 (codes " " ++ how_words how) run_fits (omega arith) (omega arith) small refl)
    ∙ how_again at run how fits

-- a run or a link, and what is read after it
numbered_again : (next : ℕ → List ℕ → Result Input ℕ) (n : ℕ) (rest : List ℕ) → n ≤ run_limit → number_then 0 run_limit (λ n. word_then (codes " ") (next n)) (decimal n ++ (codes " " ++ rest)) ≡ next n rest
numbered_again next n rest small =
    ap (λ (r : Result (ℕ × List ℕ) ℕ). r >>= (λ r. word_then (codes " ") (next r.0) r.1)) (number_again 0 run_limit n (codes " " ++ rest) run_fits (omega arith) (omega arith) small refl)

out_again : (at : ℕ) (run : Run) (stream : Stream) (bytes : List ℕ) → run.0 ≤ run_limit → IsPiece bytes → out_at at stream (decimal run.0 ++ (codes " " ++ token bytes)) ≡ Ok (input_is.Out at run stream bytes)
unfolding out_at
out_again at run stream bytes small piece =
    numbered_again (λ run. last_piece_then (λ bytes. input_is.Out at (record { 0 = run }) stream bytes)) run.0 (token bytes) small
    ∙ end_piece (λ bytes. input_is.Out at run stream bytes) bytes piece

out_end_again : (at : ℕ) (run : Run) (stream : Stream) → run.0 ≤ run_limit → out_end_at at stream (decimal run.0) ≡ Ok (input_is.OutEnd at run stream)
unfolding out_end_at
out_end_again at run stream small =
    end_number 0 run_limit run.0 (λ run. input_is.OutEnd at (record { 0 = run }) stream) run_fits (omega arith) (omega arith) small

open_again : (at : ℕ) (link : LinkId) (side : Side) → link.0 ≤ run_limit → open_at at (decimal link.0 ++ (codes " " ++ side_word side)) ≡ Ok (input_is.Open at link side)
unfolding open_at
open_again at link side small =
    numbered_again (λ link. keyword_then side_word sides (λ side. end_at (input_is.Open at (record { 0 = link }) side))) link.0 (side_word side) small
    ∙ ap (keyword_then side_word sides (λ side. end_at (input_is.Open at link side))) (sym (append-nil (side_word side)))
    ∙ ap (λ (r : Result (Side × List ℕ) ℕ). r >>= (λ r. end_at (input_is.Open at link r.0) r.1)) (side_again side [])

link_piece_again : (at : ℕ) (link : LinkId) (bytes : List ℕ) → link.0 ≤ run_limit → IsPiece bytes → link_piece_at at (decimal link.0 ++ (codes " " ++ token bytes)) ≡ Ok (input_is.Piece at link bytes)
unfolding link_piece_at
link_piece_again at link bytes small piece =
    numbered_again (λ link. last_piece_then (λ bytes. input_is.Piece at (record { 0 = link }) bytes)) link.0 (token bytes) small
    ∙ end_piece (λ bytes. input_is.Piece at link bytes) bytes piece

link_end_again : (at : ℕ) (link : LinkId) → link.0 ≤ run_limit → link_end_at at (decimal link.0) ≡ Ok (input_is.LinkEnd at link)
unfolding link_end_at
link_end_again at link small =
    end_number 0 run_limit link.0 (λ link. input_is.LinkEnd at (record { 0 = link })) run_fits (omega arith) (omega arith) small

answer_then : (answer : Answer) (rest : List ℕ) → input_at (answer_word answer ++ rest) ≡ answer_of answer rest
unfolding input_at answer_at
answer_then answer_is.Pid rest = refl
answer_then answer_is.NoFile rest = refl
answer_then answer_is.NotExecutable rest = refl
answer_then answer_is.Refused rest = refl
answer_then answer_is.Bytes rest = refl
answer_then answer_is.Done rest = refl
answer_then answer_is.Missing rest = refl
answer_then answer_is.Names rest = refl
answer_then answer_is.Size rest = refl
answer_then answer_is.Failed rest = refl

begin_any : (names : List (List ℕ)) → begin_above None names ≡ true
begin_any [] = refl
begin_any (name ∷ names) = refl

names_line_again : (names : List (List ℕ)) → AreTexts names → length names ≤ number_limit → AreRising names
    → names_line_at (decimal (length names) ++ flat_map then_token names) ≡ Ok (input_is.Names names)
unfolding names_line_at
names_line_again names texts few rising =
    ap (λ (l : List ℕ). names_line_at (decimal (length names) ++ l)) (sym (append-nil (flat_map then_token names)))
    ∙ ap (λ (r : Result (ℕ × List ℕ) ℕ). r >>= (λ r. names_at None r.0 r.1 >>= (λ r. end_at (input_is.Names r.0) r.1)))
    (number_again 0 number_limit (length names) (flat_map then_token names ++ []) number_fits (omega arith) (omega arith) few (plain_no_digit (flat_map then_token names ++ []) (names_plain names [] refl)))
    ∙ ap (λ (r : Result (List (List ℕ) × List ℕ) ℕ). r >>= (λ r. end_at (input_is.Names r.0) r.1))
    (names_again None names [] texts (begin_any names) (rising_rise names rising) refl)

signal_again : (at : ℕ) (told : Told) → at ≤ moment_limit → input_at (input_line (input_is.Signal at (told_signal told))) ≡ Ok (input_is.Signal at (told_signal told))
unfolding event_of
signal_again at told fits =
    ap input_at (append_assoc (decimal at) (codes " signal ") (told_word told))
    ∙ event_again at verb_is.Signal (told_word told) fits
    ∙ ap (keyword_then told_word told_signals (λ t. end_at (input_is.Signal at (told_signal t)))) (sym (append-nil (told_word told)))
    ∙ ap (λ (r : Result (Told × List ℕ) ℕ). r >>= (λ r. end_at (input_is.Signal at (told_signal r.0)) r.1)) (told_again told [])

pub input_again : (i : Input) → FitsInput i → input_at (input_line i) ≡ Ok i
unfolding event_of answer_of
input_again (input_is.Tick at) fits = event_again at verb_is.Tick [] fits
input_again (input_is.Exit at run how) fits =
    ap input_at (simp append_assoc) ∙ event_again at verb_is.Exit (decimal run.0 ++ (codes " " ++ how_words how)) fits.0 ∙ exit_again at run how fits.1 fits.2
input_again (input_is.Out at run stream_is.Out bytes) fits =
    ap input_at (simp append_assoc) ∙ event_again at verb_is.Out (decimal run.0 ++ (codes " " ++ token bytes)) fits.0 ∙ out_again at run stream_is.Out bytes fits.1 fits.2
input_again (input_is.Out at run stream_is.Err bytes) fits =
    ap input_at (simp append_assoc) ∙ event_again at verb_is.Err (decimal run.0 ++ (codes " " ++ token bytes)) fits.0 ∙ out_again at run stream_is.Err bytes fits.1 fits.2
input_again (input_is.OutEnd at run stream_is.Out) fits =
    ap input_at (append_assoc (decimal at) (codes " outend ") (decimal run.0)) ∙ event_again at verb_is.OutEnd (decimal run.0) fits.0 ∙ out_end_again at run stream_is.Out fits.1
input_again (input_is.OutEnd at run stream_is.Err) fits =
    ap input_at (append_assoc (decimal at) (codes " errend ") (decimal run.0)) ∙ event_again at verb_is.ErrEnd (decimal run.0) fits.0 ∙ out_end_again at run stream_is.Err fits.1
input_again (input_is.Open at link side) fits =
    ap input_at (simp append_assoc) ∙ event_again at verb_is.Open (decimal link.0 ++ (codes " " ++ side_word side)) fits.0 ∙ open_again at link side fits.1
input_again (input_is.Piece at link bytes) fits =
    ap input_at (simp append_assoc) ∙ event_again at verb_is.Piece (decimal link.0 ++ (codes " " ++ token bytes)) fits.0 ∙ link_piece_again at link bytes fits.1 fits.2
input_again (input_is.LinkEnd at link) fits =
    ap input_at (append_assoc (decimal at) (codes " end ") (decimal link.0)) ∙ event_again at verb_is.End (decimal link.0) fits.0 ∙ link_end_again at link fits.1
input_again (input_is.Start at name) fits =
    ap input_at (append_assoc (decimal at) (codes " start ") (token name)) ∙ event_again at verb_is.Start (token name) fits.0 ∙ end_text (λ name. input_is.Start at name) name fits.1
input_again (input_is.Stop at name) fits =
    ap input_at (append_assoc (decimal at) (codes " stop ") (token name)) ∙ event_again at verb_is.Stop (token name) fits.0 ∙ end_text (λ name. input_is.Stop at name) name fits.1
input_again (input_is.Signal at signal_is.Term) fits = signal_again at told_is.Term fits.0
input_again (input_is.Signal at signal_is.Hup) fits = absurd (fits.1 refl)
input_again (input_is.Signal at signal_is.Int) fits = signal_again at told_is.Int fits.0
input_again (input_is.Signal at signal_is.Quit) fits = signal_again at told_is.Quit fits.0
input_again (input_is.Signal at signal_is.Kill) fits = signal_again at told_is.Kill fits.0
input_again (input_is.Signal at signal_is.Usr1) fits = signal_again at told_is.Usr1 fits.0
input_again (input_is.Signal at signal_is.Usr2) fits = signal_again at told_is.Usr2 fits.0
input_again (input_is.Pid pid) fits = answer_then answer_is.Pid (decimal pid) ∙ end_number 1 run_limit pid (λ pid. input_is.Pid pid) run_fits (omega arith) fits.0 fits.1
input_again input_is.NoFile fits = answer_then answer_is.NoFile []
input_again input_is.NotExecutable fits = answer_then answer_is.NotExecutable []
input_again (input_is.Read bytes) fits = answer_then answer_is.Bytes (token bytes) ∙ end_token OfBytes (λ bytes. input_is.Read bytes) bytes (good_bytes bytes fits)
input_again input_is.Done fits = answer_then answer_is.Done []
input_again input_is.Missing fits = answer_then answer_is.Missing []
input_again (input_is.Names names) fits = answer_then answer_is.Names (decimal (length names) ++ flat_map then_token names) ∙ names_line_again names fits.0 fits.1 fits.2
input_again (input_is.Size size) fits = answer_then answer_is.Size (decimal size) ∙ end_number 0 number_limit size (λ size. input_is.Size size) number_fits (omega arith) (omega arith) fits
input_again (input_is.Failed number) fits = answer_then answer_is.Failed (decimal number) ∙ end_number 0 number_limit number (λ number. input_is.Failed number) number_fits (omega arith) (omega arith) fits
input_again (input_is.Refused reason) fits = answer_then answer_is.Refused (token reason) ∙ end_text (λ reason. input_is.Refused reason) reason fits

-- the input of a line is what is read from it
pub read_again : (i : Input) (line : List ℕ) → FitsInput i → line ≡ input_line i → input_at line ≡ Ok i
read_again i line fits e = ap input_at e ∙ input_again i fits
