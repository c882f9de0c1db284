-- Each line that is read as a header is the line of that header, and the line of each header is read as it.
use Rattle.std.proofs.Common.{◌≡◌, ℕ, zero, suc, ◌+◌, ◌≤◌, List, [], ◌∷◌, ◌++◌, Result, Ok, None, IsUtf8, refl, sym, ap, ◌∙◌, subst, arith, append_assoc, append-nil}
use Rattle.std.specs.Prelude.{codes}
use Rattle.std.specs.Fmt.{decimal}
use Rattle.std.proofs.lemmas.Fmt.{decimal_digit}
use Rattle.sv_base.specs.Limits.{moment_limit}
use Rattle.sv_base.specs.Names.{signal_name}
use Rattle.sv_base.specs.declared.signal.Signal.{Signal}
use Rattle.sv_base.specs.declared.signal.Signal.TheVariants as signal_is
use Rattle.sv_base.specs.declared.state.Autorestart.{Autorestart}
use Rattle.sv_base.specs.declared.state.Autorestart.TheVariants as autorestart_is
use Rattle.sv_journal.specs.declared.header.Header.{Header}
use Rattle.sv_journal.specs.declared.header.Header.TheVariants as header_is
use Rattle.sv_journal.specs.declared.header.Program.{Program}
use Rattle.sv_journal.specs.declared.words.Opening.{Opening}
use Rattle.sv_journal.specs.declared.words.Opening.TheVariants as opening_is
use Rattle.sv_letters.specs.declared.letters.Letters.{Letters}
use Rattle.sv_letters.specs.declared.letters.Letters.TheVariants.{OfText, OfName, OfBytes}
use Rattle.sv_journal.specs.Limits.{number_limit, run_limit, program_limit}
use Rattle.sv_journal.specs.Spelling.{token, comma_list}
use Rattle.sv_journal.specs.ProgramNames.{IsName}
use Rattle.sv_journal.specs.JournalLine.{AreBytes, autorestart_word, header_line, FitsProgram, FitsHeader}
use Rattle.sv_journal.specs.Reading.{◌>>=◌, end_at, keyword_at, codes_from}
use Rattle.sv_journal.specs.ReadingLines.{opening_word, openings, signals, autorestarts, word_then, keyword_then, number_then, codes_then, last_token_then, codes_at, restart_at, start_at, program_at, env_at, size_at, include_at, header_of, header_at}
use Rattle.sv_journal.proofs.CommaLaws.{CodesTaken, codes_take, codes_again}
use Rattle.sv_journal.proofs.InputLaws.{moment_fits, run_fits, number_fits, end_number, end_token}
use Rattle.sv_journal.proofs.LineParts.{bind_then, end_takes, word_then_takes, keyword_then_takes, number_then_takes, token_then_takes, last_token_takes}
use Rattle.sv_journal.proofs.Names.{good_name, name_good, good_text, text_good, good_bytes, bytes_good}
use Rattle.sv_journal.proofs.NumberLaws.{IsLimit, number_again}
use Rattle.sv_journal.proofs.TokenLaws.{TokenTaken, token_again}

pub program_fits : IsLimit program_limit
program_fits = (omega arith, omega arith)

pub codes_then_takes : {X P : Type 0} (next : List ℕ → List ℕ → Result X ℕ) (bs : List ℕ) (x : X) → codes_then next bs ≡ Ok x
    → ((cs rest : List ℕ) → CodesTaken [] bs cs rest → next cs rest ≡ Ok x → P) → P
codes_then_takes next bs x e k =
    bind_then (codes_from None bs) (λ r. next r.0 r.1) x e (λ r is e. k r.0 r.1 (codes_take None bs r.0 r.1 tt is) e)

record Meant (line : List ℕ) (h : Header) : Type 0 where
  same : line ≡ header_line h
  fits : FitsHeader h

-- a program's line from its exit codes on, after what was read before
record Front (name : List ℕ) (startsecs startretries : ℕ) : Type 0 where
  is_name : IsName name
  secs : startsecs ≤ program_limit
  retries : startretries ≤ program_limit

abbrev front_line : List ℕ → ℕ → ℕ → Autorestart → List ℕ
front_line name startsecs startretries autorestart =
    codes "program " ++ token name ++ codes " " ++ decimal startsecs ++ codes " " ++ decimal startretries ++ codes " " ++ autorestart_word autorestart ++ codes " "

codes_takes : (name : List ℕ) (startsecs startretries : ℕ) (autorestart : Autorestart) (bs : List ℕ) (h : Header) → Front name startsecs startretries
    → codes_at name startsecs startretries autorestart bs ≡ Ok h → Meant (front_line name startsecs startretries autorestart ++ bs) h
unfolding codes_at
codes_takes name startsecs startretries autorestart bs h front e =
    let made : List ℕ → Signal → ℕ → Header = λ exitcodes stopsignal stopwaitsecs. header_is.Program (record {
      name = name;
      startsecs = startsecs;
      startretries = startretries;
      autorestart = autorestart;
      exitcodes = exitcodes;
      stopsignal = stopsignal;
      stopwaitsecs = stopwaitsecs;
    }) in
    codes_then_takes (λ exitcodes. word_then (codes " ") (keyword_then signal_name signals (λ stopsignal. word_then (codes " ") (number_then 0 program_limit (λ stopwaitsecs. end_at (made exitcodes stopsignal stopwaitsecs)))))) bs h e (λ exitcodes rest taken e.
    word_then_takes (codes " ") (keyword_then signal_name signals (λ stopsignal. word_then (codes " ") (number_then 0 program_limit (λ stopwaitsecs. end_at (made exitcodes stopsignal stopwaitsecs))))) rest h e (λ rest2 is2 e.
    keyword_then_takes signal_name signals (λ stopsignal. word_then (codes " ") (number_then 0 program_limit (λ stopwaitsecs. end_at (made exitcodes stopsignal stopwaitsecs)))) rest2 h e (λ stopsignal rest3 is3 e.
    word_then_takes (codes " ") (number_then 0 program_limit (λ stopwaitsecs. end_at (made exitcodes stopsignal stopwaitsecs))) rest3 h e (λ rest4 is4 e.
    number_then_takes 0 program_limit (λ stopwaitsecs. end_at (made exitcodes stopsignal stopwaitsecs)) rest4 h program_fits e (λ stopwaitsecs rest5 number e.
    let end = end_takes (made exitcodes stopsignal stopwaitsecs) h rest5 e in
    let last : rest4 ≡ decimal stopwaitsecs = number.same ∙ ap (λ (l : List ℕ). decimal stopwaitsecs ++ l) end.0 ∙ append-nil (decimal stopwaitsecs) in
    let whole : bs ≡ comma_list exitcodes ++ (codes " " ++ (signal_name stopsignal ++ (codes " " ++ decimal stopwaitsecs))) =
    taken.same ∙ ap (λ (l : List ℕ). comma_list exitcodes ++ l) (is2 ∙ ap (λ (l : List ℕ). codes " " ++ l) (is3 ∙ ap (λ (l : List ℕ). signal_name stopsignal ++ l) (is4 ∙ ap (λ (l : List ℕ). codes " " ++ l) last))) in
    record {
      same = ap (λ (l : List ℕ). front_line name startsecs startretries autorestart ++ l) whole
          ∙ regroup (front_line name startsecs startretries autorestart) (comma_list exitcodes) (codes " ") (signal_name stopsignal) (codes " ") (decimal stopwaitsecs)
          ∙ ap header_line end.1;
      fits = subst FitsHeader end.1 (front.is_name, front.secs, front.retries, taken.some, taken.fits, number.high);
    })))))
  where
    regroup : (a b c d e f : List ℕ) → a ++ (b ++ (c ++ (d ++ (e ++ f)))) ≡ ((((a ++ b) ++ c) ++ d) ++ e) ++ f
    regroup a b c d e f = simp append_assoc

restart_takes : (name : List ℕ) (startsecs startretries : ℕ) (bs : List ℕ) (h : Header) → Front name startsecs startretries
    → restart_at name startsecs startretries bs ≡ Ok h
    → Meant (codes "program " ++ token name ++ codes " " ++ decimal startsecs ++ codes " " ++ decimal startretries ++ codes " " ++ bs) h
unfolding restart_at
restart_takes name startsecs startretries bs h front e =
    keyword_then_takes autorestart_word autorestarts (λ autorestart. word_then (codes " ") (codes_at name startsecs startretries autorestart)) bs h e (λ autorestart rest is e.
    word_then_takes (codes " ") (codes_at name startsecs startretries autorestart) rest h e (λ rest2 is2 e.
    let m = codes_takes name startsecs startretries autorestart rest2 h front e in
    let before = codes "program " ++ token name ++ codes " " ++ decimal startsecs ++ codes " " ++ decimal startretries ++ codes " " in
    record {
      same = ap (λ (l : List ℕ). before ++ l) (is ∙ ap (λ (l : List ℕ). autorestart_word autorestart ++ l) is2) ∙ regroup before (autorestart_word autorestart) (codes " ") rest2 ∙ m.same;
      fits = m.fits;
    }))
  where
    regroup : (a b c d : List ℕ) → a ++ (b ++ (c ++ d)) ≡ ((a ++ b) ++ c) ++ d
    regroup a b c d = simp append_assoc

start_takes : (name bs : List ℕ) (h : Header) → IsName name → start_at name bs ≡ Ok h → Meant (codes "program " ++ token name ++ codes " " ++ bs) h
unfolding start_at
start_takes name bs h is_name e =
    number_then_takes 0 program_limit (λ startsecs. word_then (codes " ") (number_then 0 program_limit (λ startretries. word_then (codes " ") (restart_at name startsecs startretries)))) bs h program_fits e (λ startsecs rest secs e.
    word_then_takes (codes " ") (number_then 0 program_limit (λ startretries. word_then (codes " ") (restart_at name startsecs startretries))) rest h e (λ rest2 is2 e.
    number_then_takes 0 program_limit (λ startretries. word_then (codes " ") (restart_at name startsecs startretries)) rest2 h program_fits e (λ startretries rest3 retries e.
    word_then_takes (codes " ") (restart_at name startsecs startretries) rest3 h e (λ rest4 is4 e.
    let m = restart_takes name startsecs startretries rest4 h (record { is_name = is_name; secs = secs.high; retries = retries.high }) e in
    let before = codes "program " ++ token name ++ codes " " in
    record {
      same = ap (λ (l : List ℕ). before ++ l) (secs.same ∙ ap (λ (l : List ℕ). decimal startsecs ++ l) (is2 ∙ ap (λ (l : List ℕ). codes " " ++ l) (retries.same ∙ ap (λ (l : List ℕ). decimal startretries ++ l) is4)))
          ∙ regroup before (decimal startsecs) (codes " ") (decimal startretries) (codes " ") rest4 ∙ m.same;
      fits = m.fits;
    }))))
  where
    regroup : (a b c d e f : List ℕ) → a ++ (b ++ (c ++ (d ++ (e ++ f)))) ≡ ((((a ++ b) ++ c) ++ d) ++ e) ++ f
    regroup a b c d e f = simp append_assoc

program_takes : (bs : List ℕ) (h : Header) → program_at bs ≡ Ok h → Meant (codes "program " ++ bs) h
unfolding program_at
program_takes bs h e =
    token_then_takes OfName (λ name. word_then (codes " ") (start_at name)) bs h e (λ name rest taken e.
    word_then_takes (codes " ") (start_at name) rest h e (λ rest2 is e.
    let m = start_takes name rest2 h (name_good name taken.good) e in
    record {
      same = ap (λ (l : List ℕ). codes "program " ++ l) (taken.same ∙ ap (λ (l : List ℕ). token name ++ l) is) ∙ regroup (codes "program ") (token name) (codes " ") rest2 ∙ m.same;
      fits = m.fits;
    }))
  where
    regroup : (a b c d : List ℕ) → a ++ (b ++ (c ++ d)) ≡ ((a ++ b) ++ c) ++ d
    regroup a b c d = simp append_assoc

-- a token that ends the line
last_is : (letters : Letters) (bs v : List ℕ) → TokenTaken letters bs v [] → bs ≡ token v
last_is letters bs v t = t.same ∙ append-nil (token v)

-- a token, a space and a last part
two_parts : (word bs first after part : List ℕ) → bs ≡ first ++ after → after ≡ codes " " ++ part → word ++ bs ≡ word ++ first ++ codes " " ++ part
two_parts word bs first after part is more =
    ap (λ (l : List ℕ). word ++ l) (is ∙ ap (λ (l : List ℕ). first ++ l) more) ∙ regroup word first (codes " ") part
  where
    regroup : (a b c d : List ℕ) → a ++ (b ++ (c ++ d)) ≡ ((a ++ b) ++ c) ++ d
    regroup a b c d = simp append_assoc

env_takes : (bs : List ℕ) (h : Header) → env_at bs ≡ Ok h → Meant (codes "env " ++ bs) h
unfolding env_at
env_takes bs h e =
    token_then_takes OfText (λ name. word_then (codes " ") (last_token_then OfText (λ value. header_is.Env name value))) bs h e (λ name rest taken e.
    word_then_takes (codes " ") (last_token_then OfText (λ value. header_is.Env name value)) rest h e (λ rest2 is e.
    last_token_takes OfText (λ value. header_is.Env name value) rest2 h e (λ value last is_env.
    record {
      same = two_parts (codes "env ") bs (token name) rest (token value) taken.same (is ∙ ap (λ (l : List ℕ). codes " " ++ l) (last_is OfText rest2 value last)) ∙ ap header_line (sym is_env);
      fits = subst FitsHeader (sym is_env) (text_good name taken.good, text_good value last.good);
    })))

size_takes : (bs : List ℕ) (h : Header) → size_at bs ≡ Ok h → Meant (codes "size " ++ bs) h
unfolding size_at
size_takes bs h e =
    token_then_takes OfText (λ file. word_then (codes " ") (number_then 0 number_limit (λ size. end_at (header_is.Size file size)))) bs h e (λ file rest taken e.
    word_then_takes (codes " ") (number_then 0 number_limit (λ size. end_at (header_is.Size file size))) rest h e (λ rest2 is e.
    number_then_takes 0 number_limit (λ size. end_at (header_is.Size file size)) rest2 h number_fits e (λ size rest3 number e.
    let end = end_takes (header_is.Size file size) h rest3 e in
    let last : rest2 ≡ decimal size = number.same ∙ ap (λ (l : List ℕ). decimal size ++ l) end.0 ∙ append-nil (decimal size) in
    record {
      same = two_parts (codes "size ") bs (token file) rest (decimal size) taken.same (is ∙ ap (λ (l : List ℕ). codes " " ++ l) last) ∙ ap header_line end.1;
      fits = subst FitsHeader end.1 (text_good file taken.good, number.high);
    })))

include_takes : (bs : List ℕ) (h : Header) → include_at bs ≡ Ok h → Meant (codes "include " ++ bs) h
unfolding include_at
include_takes bs h e =
    token_then_takes OfText (λ name. word_then (codes " ") (last_token_then OfBytes (λ text. header_is.Include name text))) bs h e (λ name rest taken e.
    word_then_takes (codes " ") (last_token_then OfBytes (λ text. header_is.Include name text)) rest h e (λ rest2 is e.
    last_token_takes OfBytes (λ text. header_is.Include name text) rest2 h e (λ text last is_include.
    record {
      same = two_parts (codes "include ") bs (token name) rest (token text) taken.same (is ∙ ap (λ (l : List ℕ). codes " " ++ l) (last_is OfBytes rest2 text last)) ∙ ap header_line (sym is_include);
      fits = subst FitsHeader (sym is_include) (text_good name taken.good, bytes_good text last.good);
    })))

-- the title of a journal of this version
title_takes : (version : ℕ) (bs : List ℕ) (h : Header) → version ≤ 1 → end_at (header_is.Journal version) bs ≡ Ok h → Meant (codes "supervisor-journal " ++ ((48 + version) ∷ bs)) h
title_takes version bs h fits e =
    let end = end_takes (header_is.Journal version) h bs e in
    record {
      same = ap (λ (l : List ℕ). codes "supervisor-journal " ++ ((48 + version) ∷ l)) end.0 ∙ ap (λ (l : List ℕ). codes "supervisor-journal " ++ l) (sym (decimal_digit version (omega arith))) ∙ ap header_line end.1;
      fits = subst FitsHeader end.1 fits;
    }

header_of_takes : (opening : Opening) (bs : List ℕ) (h : Header) → header_of opening bs ≡ Ok h → Meant (opening_word opening ++ bs) h
unfolding header_of
header_of_takes opening_is.Short bs h e = title_takes 0 bs h (omega arith) e
header_of_takes opening_is.Long bs h e = title_takes 1 bs h (omega arith) e
header_of_takes opening_is.Program bs h e = program_takes bs h e
header_of_takes opening_is.Host bs h e =
    last_token_takes OfText (λ name. header_is.Host name) bs h e (λ name last is. record {
      same = ap (λ (l : List ℕ). codes "host " ++ l) (last_is OfText bs name last) ∙ ap header_line (sym is);
      fits = subst FitsHeader (sym is) (text_good name last.good);
    })
header_of_takes opening_is.Here bs h e =
    last_token_takes OfText (λ directory. header_is.Here directory) bs h e (λ directory last is. record {
      same = ap (λ (l : List ℕ). codes "here " ++ l) (last_is OfText bs directory last) ∙ ap header_line (sym is);
      fits = subst FitsHeader (sym is) (text_good directory last.good);
    })
header_of_takes opening_is.Pid bs h e =
    number_then_takes 0 run_limit (λ pid. end_at (header_is.Pid pid)) bs h run_fits e (λ pid rest taken e.
    let end = end_takes (header_is.Pid pid) h rest e in
    record {
      same = ap (λ (l : List ℕ). codes "pid " ++ l) (taken.same ∙ ap (λ (l : List ℕ). decimal pid ++ l) end.0 ∙ append-nil (decimal pid)) ∙ ap header_line end.1;
      fits = subst FitsHeader end.1 taken.high;
    })
header_of_takes opening_is.Env bs h e = env_takes bs h e
header_of_takes opening_is.Size bs h e = size_takes bs h e
header_of_takes opening_is.Conf bs h e =
    last_token_takes OfBytes (λ text. header_is.Conf text) bs h e (λ text last is. record {
      same = ap (λ (l : List ℕ). codes "conf " ++ l) (last_is OfBytes bs text last) ∙ ap header_line (sym is);
      fits = subst FitsHeader (sym is) (bytes_good text last.good);
    })
header_of_takes opening_is.Include bs h e = include_takes bs h e
header_of_takes opening_is.Go bs h e =
    number_then_takes 0 moment_limit (λ at. end_at (header_is.Go at)) bs h moment_fits e (λ at rest taken e.
    let end = end_takes (header_is.Go at) h rest e in
    record {
      same = ap (λ (l : List ℕ). codes "go " ++ l) (taken.same ∙ ap (λ (l : List ℕ). decimal at ++ l) end.0 ∙ append-nil (decimal at)) ∙ ap header_line end.1;
      fits = subst FitsHeader end.1 taken.high;
    })

header_means : (bs : List ℕ) (h : Header) → header_at bs ≡ Ok h → Meant bs h
unfolding header_at
header_means bs h e =
    keyword_then_takes opening_word openings header_of bs h e (λ opening rest is e.
    let m = header_of_takes opening rest h e in
    record { same = is ∙ m.same; fits = m.fits })

pub header_takes : (bs : List ℕ) (h : Header) → header_at bs ≡ Ok h → bs ≡ header_line h
header_takes bs h e = (header_means bs h e).same

pub header_fits : (bs : List ℕ) (h : Header) → header_at bs ≡ Ok h → FitsHeader h
header_fits bs h e = (header_means bs h e).fits

pub opening_again : (opening : Opening) (rest : List ℕ) → keyword_at opening_word openings (opening_word opening ++ rest) ≡ Ok (opening, rest)
opening_again opening_is.Short rest = refl
opening_again opening_is.Long rest = refl
opening_again opening_is.Program rest = refl
opening_again opening_is.Host rest = refl
opening_again opening_is.Here rest = refl
opening_again opening_is.Pid rest = refl
opening_again opening_is.Env rest = refl
opening_again opening_is.Size rest = refl
opening_again opening_is.Conf rest = refl
opening_again opening_is.Include rest = refl
opening_again opening_is.Go rest = refl

pub signal_again : (signal : Signal) (rest : List ℕ) → keyword_at signal_name signals (signal_name signal ++ rest) ≡ Ok (signal, rest)
signal_again signal_is.Term rest = refl
signal_again signal_is.Hup rest = refl
signal_again signal_is.Int rest = refl
signal_again signal_is.Quit rest = refl
signal_again signal_is.Kill rest = refl
signal_again signal_is.Usr1 rest = refl
signal_again signal_is.Usr2 rest = refl

pub autorestart_again : (autorestart : Autorestart) (rest : List ℕ) → keyword_at autorestart_word autorestarts (autorestart_word autorestart ++ rest) ≡ Ok (autorestart, rest)
autorestart_again autorestart_is.Never rest = refl
autorestart_again autorestart_is.Unexpected rest = refl
autorestart_again autorestart_is.Always rest = refl

abbrev ProgramOf : List ℕ → ℕ → ℕ → Autorestart → List ℕ → Signal → ℕ → Header
ProgramOf name startsecs startretries autorestart exitcodes stopsignal stopwaitsecs = header_is.Program (record {
  name = name;
  startsecs = startsecs;
  startretries = startretries;
  autorestart = autorestart;
  exitcodes = exitcodes;
  stopsignal = stopsignal;
  stopwaitsecs = stopwaitsecs;
})

codes_part : (p : Program) → FitsProgram p
    → codes_at p.name p.startsecs p.startretries p.autorestart (comma_list p.exitcodes ++ (codes " " ++ (signal_name p.stopsignal ++ (codes " " ++ (decimal p.stopwaitsecs ++ []))))) ≡ Ok (header_is.Program p)
unfolding codes_at
codes_part p fits =
    ap (λ (r : Result (List ℕ × List ℕ) ℕ). r >>= (λ r. word_then (codes " ") (keyword_then signal_name signals (λ stopsignal. word_then (codes " ") (number_then 0 program_limit (λ stopwaitsecs. end_at (ProgramOf p.name p.startsecs p.startretries p.autorestart r.0 stopsignal stopwaitsecs))))) r.1))
    (codes_again p.exitcodes (codes " " ++ (signal_name p.stopsignal ++ (codes " " ++ (decimal p.stopwaitsecs ++ [])))) fits.3 fits.4 refl)
    ∙ ap (λ (r : Result (Signal × List ℕ) ℕ). r >>= (λ r. word_then (codes " ") (number_then 0 program_limit (λ stopwaitsecs. end_at (ProgramOf p.name p.startsecs p.startretries p.autorestart p.exitcodes r.0 stopwaitsecs))) r.1))
    (signal_again p.stopsignal (codes " " ++ (decimal p.stopwaitsecs ++ [])))
    ∙ ap (λ (r : Result (ℕ × List ℕ) ℕ). r >>= (λ r. end_at (ProgramOf p.name p.startsecs p.startretries p.autorestart p.exitcodes p.stopsignal r.0) r.1))
    (number_again 0 program_limit p.stopwaitsecs [] program_fits (omega arith) (omega arith) fits.5 refl)

program_part : (p : Program) → FitsProgram p
    → header_at (codes "program " ++ (token p.name ++ (codes " " ++ (decimal p.startsecs ++ (codes " " ++ (decimal p.startretries ++ (codes " " ++ (autorestart_word p.autorestart ++ (codes " "
    ++ (comma_list p.exitcodes ++ (codes " " ++ (signal_name p.stopsignal ++ (codes " " ++ (decimal p.stopwaitsecs ++ [])))))))))))))) ≡ Ok (header_is.Program p)
unfolding header_at header_of program_at start_at restart_at
program_part p fits =
    let last = comma_list p.exitcodes ++ (codes " " ++ (signal_name p.stopsignal ++ (codes " " ++ (decimal p.stopwaitsecs ++ [])))) in
    let third = autorestart_word p.autorestart ++ (codes " " ++ last) in
    let second = decimal p.startretries ++ (codes " " ++ third) in
    let first = decimal p.startsecs ++ (codes " " ++ second) in
    ap (λ (r : Result (List ℕ × List ℕ) ℕ). r >>= (λ r. word_then (codes " ") (start_at r.0) r.1)) (token_again OfName p.name (codes " " ++ first) (good_name p.name fits.0) refl)
    ∙ ap (λ (r : Result (ℕ × List ℕ) ℕ). r >>= (λ r. word_then (codes " ") (number_then 0 program_limit (λ startretries. word_then (codes " ") (restart_at p.name r.0 startretries))) r.1)) (number_again 0 program_limit p.startsecs (codes " " ++ second) program_fits (omega arith) (omega arith) fits.1 refl)
    ∙ ap (λ (r : Result (ℕ × List ℕ) ℕ). r >>= (λ r. word_then (codes " ") (restart_at p.name p.startsecs r.0) r.1)) (number_again 0 program_limit p.startretries (codes " " ++ third) program_fits (omega arith) (omega arith) fits.2 refl)
    ∙ ap (λ (r : Result (Autorestart × List ℕ) ℕ). r >>= (λ r. word_then (codes " ") (codes_at p.name p.startsecs p.startretries r.0) r.1)) (autorestart_again p.autorestart (codes " " ++ last))
    ∙ codes_part p fits

program_regroup : (a b c d e f g h i j k l m n : List ℕ)
    → a ++ b ++ c ++ d ++ e ++ f ++ g ++ h ++ i ++ j ++ k ++ l ++ m ++ n ≡ a ++ (b ++ (c ++ (d ++ (e ++ (f ++ (g ++ (h ++ (i ++ (j ++ (k ++ (l ++ (m ++ (n ++ [])))))))))))))
program_regroup a b c d e f g h i j k l m n = simp (append_assoc, append-nil)

-- a first token, a space and a last part, as the reader finds them
apart : (word first part : List ℕ) → word ++ first ++ codes " " ++ part ≡ word ++ (first ++ (codes " " ++ part))
apart word first part = regroup word first (codes " ") part
  where
    regroup : (a b c d : List ℕ) → ((a ++ b) ++ c) ++ d ≡ a ++ (b ++ (c ++ d))
    regroup a b c d = simp append_assoc

opened : (opening : Opening) (rest : List ℕ) → header_at (opening_word opening ++ rest) ≡ header_of opening rest
unfolding header_at
opened opening rest = ap (λ (r : Result (Opening × List ℕ) ℕ). r >>= (λ r. header_of r.0 r.1)) (opening_again opening rest)

env_again : (name value : List ℕ) → IsUtf8 name → IsUtf8 value → env_at (token name ++ (codes " " ++ token value)) ≡ Ok (header_is.Env name value)
unfolding env_at
env_again name value f g =
    ap (λ (r : Result (List ℕ × List ℕ) ℕ). r >>= (λ r. word_then (codes " ") (last_token_then OfText (λ value. header_is.Env r.0 value)) r.1)) (token_again OfText name (codes " " ++ token value) (good_text name f) refl)
    ∙ end_token OfText (λ value. header_is.Env name value) value (good_text value g)

size_again : (file : List ℕ) (size : ℕ) → IsUtf8 file → size ≤ number_limit → size_at (token file ++ (codes " " ++ decimal size)) ≡ Ok (header_is.Size file size)
unfolding size_at
size_again file size f g =
    ap (λ (r : Result (List ℕ × List ℕ) ℕ). r >>= (λ r. word_then (codes " ") (number_then 0 number_limit (λ size. end_at (header_is.Size r.0 size))) r.1)) (token_again OfText file (codes " " ++ decimal size) (good_text file f) refl)
    ∙ end_number 0 number_limit size (λ size. header_is.Size file size) number_fits (omega arith) (omega arith) g

include_again : (name text : List ℕ) → IsUtf8 name → AreBytes text → include_at (token name ++ (codes " " ++ token text)) ≡ Ok (header_is.Include name text)
unfolding include_at
include_again name text f g =
    ap (λ (r : Result (List ℕ × List ℕ) ℕ). r >>= (λ r. word_then (codes " ") (last_token_then OfBytes (λ text. header_is.Include r.0 text)) r.1)) (token_again OfText name (codes " " ++ token text) (good_text name f) refl)
    ∙ end_token OfBytes (λ text. header_is.Include name text) text (good_bytes text g)

title_again : (version : ℕ) → version ≤ 1 → header_at (codes "supervisor-journal " ++ decimal version) ≡ Ok (header_is.Journal version)
unfolding header_at header_of
title_again zero fits = ap (λ (l : List ℕ). header_at (codes "supervisor-journal " ++ l)) (decimal_digit 0 (omega arith))
title_again (suc zero) fits = ap (λ (l : List ℕ). header_at (codes "supervisor-journal " ++ l)) (decimal_digit 1 (omega arith))
title_again (suc (suc n)) fits = absurd (omega arith)

pub header_again : (h : Header) → FitsHeader h → header_at (header_line h) ≡ Ok h
unfolding header_at header_of
header_again (header_is.Journal version) fits = title_again version fits
header_again (header_is.Host name) fits = opened opening_is.Host (token name) ∙ end_token OfText (λ name. header_is.Host name) name (good_text name fits)
header_again (header_is.Here directory) fits = opened opening_is.Here (token directory) ∙ end_token OfText (λ directory. header_is.Here directory) directory (good_text directory fits)
header_again (header_is.Pid pid) fits = opened opening_is.Pid (decimal pid) ∙ end_number 0 run_limit pid (λ pid. header_is.Pid pid) run_fits (omega arith) (omega arith) fits
header_again (header_is.Env name value) fits =
    ap header_at (apart (codes "env ") (token name) (token value)) ∙ opened opening_is.Env (token name ++ (codes " " ++ token value)) ∙ env_again name value fits.0 fits.1
header_again (header_is.Size file size) fits =
    ap header_at (apart (codes "size ") (token file) (decimal size)) ∙ opened opening_is.Size (token file ++ (codes " " ++ decimal size)) ∙ size_again file size fits.0 fits.1
header_again (header_is.Conf text) fits = opened opening_is.Conf (token text) ∙ end_token OfBytes (λ text. header_is.Conf text) text (good_bytes text fits)
header_again (header_is.Include name text) fits =
    ap header_at (apart (codes "include ") (token name) (token text)) ∙ opened opening_is.Include (token name ++ (codes " " ++ token text)) ∙ include_again name text fits.0 fits.1
header_again (header_is.Program p) fits =
    ap header_at (program_regroup (codes "program ") (token p.name) (codes " ") (decimal p.startsecs) (codes " ") (decimal p.startretries) (codes " ") (autorestart_word p.autorestart) (codes " ") (comma_list p.exitcodes) (codes " ") (signal_name p.stopsignal) (codes " ") (decimal p.stopwaitsecs))
    ∙ program_part p fits
header_again (header_is.Go at) fits =
    ap (λ (l : List ℕ). header_at (codes "go " ++ l)) (sym (append-nil (decimal at)))
    ∙ ap (λ (r : Result (ℕ × List ℕ) ℕ). r >>= (λ r. end_at (header_is.Go r.0) r.1)) (number_again 0 moment_limit at [] moment_fits (omega arith) (omega arith) fits refl)

-- the header of a line is what is read from it
pub read_again : (h : Header) (line : List ℕ) → FitsHeader h → line ≡ header_line h → header_at line ≡ Ok h
read_again h line fits e = ap header_at e ∙ header_again h fits
