-- No line holds a line feed.
use Rattle.std.proofs.Common.{◌≡◌, ℕ, ◌+◌, ◌/◌, ◌%◌, ◌^◌, ◌<◌, ◌≤◌, true, false, not, ◌&&◌, eqb, leb, List, [], ◌∷◌, ◌++◌, length, inl, inr, refl, sym, ◌∙◌, subst, arith}
use Rattle.std.specs.Prelude.{codes}
use Rattle.std.specs.List.{flat_map, list_any, list_all}
use Rattle.std.specs.Fmt.{decimal}
use Rattle.std.proofs.lemmas.Bool.{cases_Bool, cases_lt, lt-ltb, le-ltb, ne_eqb, and_parts, leb-true}
use Rattle.std.proofs.lemmas.Fmt.{decimal_by_steps}
use Rattle.std.proofs.lemmas.List.Folds.{list_any-append}
use Rattle.sv_base.specs.Names.{signal_name}
use Rattle.sv_base.specs.declared.signal.Signal.{Signal}
use Rattle.sv_base.specs.declared.signal.Signal.TheVariants as signal_is
use Rattle.sv_base.specs.declared.state.How.{How}
use Rattle.sv_base.specs.declared.state.How.TheVariants as how_is
use Rattle.sv_base.specs.declared.state.Stream.{Stream}
use Rattle.sv_base.specs.declared.state.Stream.TheVariants as stream_is
use Rattle.sv_base.specs.declared.state.Side.{Side}
use Rattle.sv_base.specs.declared.state.Side.TheVariants as side_is
use Rattle.sv_base.specs.declared.state.Autorestart.{Autorestart}
use Rattle.sv_base.specs.declared.state.Autorestart.TheVariants as autorestart_is
use Rattle.sv_out.specs.declared.input.Input.{Input}
use Rattle.sv_out.specs.declared.input.Input.TheVariants as input_is
use Rattle.sv_journal.specs.declared.header.Header.{Header}
use Rattle.sv_journal.specs.declared.header.Header.TheVariants as header_is
use Rattle.sv_journal.specs.declared.header.Program.{Program}
use Rattle.sv_journal.specs.Limits.{number_limit}
use Rattle.sv_journal.specs.Spelling.{stands_for_itself, hex_digit, byte_spelling, bytes_spelling, token, comma_list}
use Rattle.sv_journal.specs.JournalLine.{how_words, FitsHow, stream_word, stream_end_word, side_word, then_token, counted_words, input_line, FitsInput, autorestart_word, is_exit_code, header_line, FitsHeader, program_line, FitsProgram}
use Rattle.sv_journal.proofs.TokenLaws.{spelled_itself, spelled_escaped}

abbrev pub Plain : List ℕ → Type 0
Plain bs = list_any (λ (b : ℕ). eqb b 10) bs ≡ false

pub joined : (a b : List ℕ) → Plain a → Plain b → Plain (a ++ b)
joined a b p q = list_any-append (λ (b : ℕ). eqb b 10) a b ∙ rw (p, q) refl

pub number : (n : ℕ) → n < 2 ^ 64 → Plain (decimal n)
number n fits = decimal_by_steps (λ n ds. Plain ds)
    (λ k small. rw (ne_eqb (48 + k) 10 (omega arith)) refl)
    (λ k ds big ih. joined ds ((48 + k % 10) ∷ []) ih (rw (ne_eqb (48 + k % 10) 10 (omega arith)) refl))
    n fits

digit : (n : ℕ) → eqb (hex_digit n) 10 ≡ false
digit n = elim (cases_lt n 10) [
  | inl u ↦ rw (lt-ltb n 10 u) (ne_eqb (48 + n) 10 (omega arith))
  | inr l ↦ rw (le-ltb n 10 l) (ne_eqb (55 + n) 10 (omega arith))
]

letter : (b : ℕ) → Plain (byte_spelling b)
letter b = elim (cases_Bool (stands_for_itself b)) [
  | inl e ↦ subst Plain (sym (spelled_itself b e)) (rw (itself_is_none b e) refl)
  | inr e ↦ subst Plain (sym (spelled_escaped b e)) (rw (digit (b / 16), digit (b % 16)) refl)
]
  where
    itself_is_none : (b : ℕ) → stands_for_itself b ≡ true → eqb b 10 ≡ false
    itself_is_none b e =
        let p = and_parts (leb 33 b && leb b 126) (not (eqb b 37)) e in
        let q = and_parts (leb 33 b) (leb b 126) p.0 in
        let l = leb-true 33 b q.0 in
        ne_eqb b 10 (omega arith)

letters : (bs : List ℕ) → Plain (bytes_spelling bs)
letters [] = refl
letters (b ∷ bs) = joined (byte_spelling b) (bytes_spelling bs) (letter b) (letters bs)

pub text : (bs : List ℕ) → Plain (token bs)
text [] = refl
text (b ∷ bs) = letters (b ∷ bs)

exit_codes : (ns : List ℕ) → list_all is_exit_code ns ≡ true → Plain (comma_list ns)
exit_codes [] fits = refl
exit_codes (n ∷ []) fits =
    let p = and_parts (is_exit_code n) true fits in
    let small = leb-true n 255 p.0 in
    number n (omega arith)
exit_codes (n ∷ m ∷ ms) fits =
    let p = and_parts (is_exit_code n) (list_all is_exit_code (m ∷ ms)) fits in
    let small = leb-true n 255 p.0 in
    joined (decimal n) (44 ∷ comma_list (m ∷ ms)) (number n (omega arith)) (exit_codes (m ∷ ms) p.1)

how : (how : How) → FitsHow how → Plain (how_words how)
how (how_is.Code code) fits = joined (codes "code ") (decimal code) refl (number code (omega arith))
how (how_is.Signal signal) fits = joined (codes "signal ") (decimal signal) refl (number signal (let most = fits.1 in omega arith))

-- a number, and a plain rest
after_number : (n : ℕ) (rest : List ℕ) → n < 2 ^ 64 → Plain rest → Plain (decimal n ++ rest)
after_number n rest fits plain = joined (decimal n) rest (number n fits) plain

pub signal : (signal : Signal) → Plain (signal_name signal)
signal signal_is.Term = refl
signal signal_is.Hup = refl
signal signal_is.Int = refl
signal signal_is.Quit = refl
signal signal_is.Kill = refl
signal signal_is.Usr1 = refl
signal signal_is.Usr2 = refl

stream : (stream : Stream) → Plain (stream_word stream)
stream stream_is.Out = refl
stream stream_is.Err = refl

stream_end : (stream : Stream) → Plain (stream_end_word stream)
stream_end stream_is.Out = refl
stream_end stream_is.Err = refl

side : (side : Side) → Plain (side_word side)
side side_is.Inet = refl
side side_is.Unix = refl

-- a plain prefix, a space and a plain part
spaced : (front part : List ℕ) → Plain front → Plain part → Plain (front ++ codes " " ++ part)
spaced front part p q = joined (front ++ codes " ") part (joined front (codes " ") p refl) q

-- a moment, a plain word and the number of a run or a link
numbered : (at : ℕ) (word : List ℕ) (n : ℕ) → at < 2 ^ 64 → n < 2 ^ 64 → Plain word → Plain (decimal at ++ word ++ decimal n)
numbered at word n early small plain = joined (decimal at ++ word) (decimal n) (after_number at word early plain) (number n small)

-- a text after a space
pub behind : (v : List ℕ) → Plain (then_token v)
behind v = joined (codes " ") (token v) refl (text v)

pub words : (xs : List (List ℕ)) → Plain (flat_map then_token xs)
words [] = refl
words (x ∷ xs) = joined (then_token x) (flat_map then_token xs) (behind x) (words xs)

-- how many items there are, and each of them
pub counted_list : (n : ℕ) (items : List ℕ) → n ≤ number_limit → Plain items → Plain (codes " " ++ decimal n ++ items)
counted_list n items small plain = joined (codes " " ++ decimal n) items (joined (codes " ") (decimal n) refl (number n (omega arith))) plain

pub plain_input : (i : Input) → FitsInput i → Plain (input_line i)
plain_input (input_is.Tick at) fits = after_number at (codes " tick") (omega arith) refl
plain_input (input_is.Exit at run how_ended) fits =
    let moment = fits.0 in
    let small = fits.1 in
    joined (decimal at ++ codes " exit " ++ decimal run.0 ++ codes " ") (how_words how_ended)
    (joined (decimal at ++ codes " exit " ++ decimal run.0) (codes " ")
    (joined (decimal at ++ codes " exit ") (decimal run.0) (after_number at (codes " exit ") (omega arith) refl) (number run.0 (omega arith))) refl)
    (how how_ended fits.2)
plain_input (input_is.Out at run which bytes) fits =
    let moment = fits.0 in
    let small = fits.1 in
    spaced (decimal at ++ stream_word which ++ decimal run.0) (token bytes) (numbered at (stream_word which) run.0 (omega arith) (omega arith) (stream which)) (text bytes)
plain_input (input_is.OutEnd at run which) fits =
    let moment = fits.0 in
    let small = fits.1 in
    numbered at (stream_end_word which) run.0 (omega arith) (omega arith) (stream_end which)
plain_input (input_is.Open at link kind) fits =
    let moment = fits.0 in
    let small = fits.1 in
    spaced (decimal at ++ codes " open " ++ decimal link.0) (side_word kind) (numbered at (codes " open ") link.0 (omega arith) (omega arith) refl) (side kind)
plain_input (input_is.Piece at link bytes) fits =
    let moment = fits.0 in
    let small = fits.1 in
    spaced (decimal at ++ codes " piece " ++ decimal link.0) (token bytes) (numbered at (codes " piece ") link.0 (omega arith) (omega arith) refl) (text bytes)
plain_input (input_is.LinkEnd at link) fits =
    let moment = fits.0 in
    let small = fits.1 in
    numbered at (codes " end ") link.0 (omega arith) (omega arith) refl
plain_input (input_is.Start at name) fits =
    let moment = fits.0 in
    joined (decimal at ++ codes " start ") (token name) (after_number at (codes " start ") (omega arith) refl) (text name)
plain_input (input_is.Stop at name) fits =
    let moment = fits.0 in
    joined (decimal at ++ codes " stop ") (token name) (after_number at (codes " stop ") (omega arith) refl) (text name)
plain_input (input_is.Signal at told) fits =
    let moment = fits.0 in
    joined (decimal at ++ codes " signal ") (signal_name told) (after_number at (codes " signal ") (omega arith) refl) (signal told)
plain_input (input_is.Pid pid) fits = let most = fits.1 in joined (codes "pid ") (decimal pid) refl (number pid (omega arith))
plain_input input_is.NoFile fits = refl
plain_input input_is.NotExecutable fits = refl
plain_input (input_is.Read bytes) fits = joined (codes "bytes ") (token bytes) refl (text bytes)
plain_input input_is.Done fits = refl
plain_input input_is.Missing fits = refl
plain_input (input_is.Names names) fits = joined (codes "names") (counted_words names) refl (counted_list (length names) (flat_map then_token names) fits.1 (words names))
plain_input (input_is.Size size) fits = joined (codes "size ") (decimal size) refl (number size (omega arith))
plain_input (input_is.Failed failed) fits = joined (codes "failed ") (decimal failed) refl (number failed (omega arith))
plain_input (input_is.Refused reason) fits = joined (codes "refused ") (token reason) refl (text reason)

autorestart : (autorestart : Autorestart) → Plain (autorestart_word autorestart)
autorestart autorestart_is.Never = refl
autorestart autorestart_is.Unexpected = refl
autorestart autorestart_is.Always = refl

program : (p : Program) → FitsProgram p → Plain (program_line p)
program p fits =
    let secs = fits.1 in
    let retries = fits.2 in
    let wait = fits.5 in
    let a = codes "program " ++ token p.name in
    let b = a ++ codes " " ++ decimal p.startsecs in
    let c = b ++ codes " " ++ decimal p.startretries in
    let d = c ++ codes " " ++ autorestart_word p.autorestart in
    let e = d ++ codes " " ++ comma_list p.exitcodes in
    let f = e ++ codes " " ++ signal_name p.stopsignal in
    spaced f (decimal p.stopwaitsecs)
    (spaced e (signal_name p.stopsignal)
    (spaced d (comma_list p.exitcodes)
    (spaced c (autorestart_word p.autorestart)
    (spaced b (decimal p.startretries)
    (spaced a (decimal p.startsecs) (joined (codes "program ") (token p.name) refl (text p.name)) (number p.startsecs (omega arith)))
    (number p.startretries (omega arith)))
    (autorestart p.autorestart))
    (exit_codes p.exitcodes fits.4))
    (signal p.stopsignal))
    (number p.stopwaitsecs (omega arith))

pub plain_header : (h : Header) → FitsHeader h → Plain (header_line h)
plain_header (header_is.Journal version) fits = joined (codes "supervisor-journal ") (decimal version) refl (number version (omega arith))
plain_header (header_is.Program p) fits = program p fits
plain_header (header_is.Host name) fits = joined (codes "host ") (token name) refl (text name)
plain_header (header_is.Here directory) fits = joined (codes "here ") (token directory) refl (text directory)
plain_header (header_is.Pid pid) fits = joined (codes "pid ") (decimal pid) refl (number pid (omega arith))
plain_header (header_is.Env name value) fits = spaced (codes "env " ++ token name) (token value) (joined (codes "env ") (token name) refl (text name)) (text value)
plain_header (header_is.Size file size) fits =
    let most = fits.1 in
    spaced (codes "size " ++ token file) (decimal size) (joined (codes "size ") (token file) refl (text file)) (number size (omega arith))
plain_header (header_is.Conf bytes) fits = joined (codes "conf ") (token bytes) refl (text bytes)
plain_header (header_is.Include name bytes) fits = spaced (codes "include " ++ token name) (token bytes) (joined (codes "include ") (token name) refl (text name)) (text bytes)
plain_header (header_is.Go at) fits = joined (codes "go ") (decimal at) refl (number at (omega arith))
