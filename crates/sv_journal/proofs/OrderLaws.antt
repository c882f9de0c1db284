-- Each line that is read as an order is the line of that order, and the line of each order is read as it.
use Rattle.std.proofs.Common.{◌≡◌, ℕ, ◌≤◌, true, false, List, [], ◌++◌, length, Result, Ok, IsUtf8, refl, sym, ap, ◌∙◌, subst, arith, append_assoc, append-nil}
use Rattle.std.specs.Prelude.{codes}
use Rattle.std.specs.Fmt.{decimal}
use Rattle.sv_base.specs.Names.{signal_name, state_name}
use Rattle.sv_base.specs.declared.ids.Run.{Run}
use Rattle.sv_base.specs.declared.signal.Signal.{Signal}
use Rattle.sv_base.specs.declared.state.State.{State}
use Rattle.sv_base.specs.declared.state.State.TheVariants as state_is
use Rattle.sv_out.specs.declared.order.Order.{Order}
use Rattle.sv_out.specs.declared.order.Order.TheVariants as order_is
use Rattle.sv_out.specs.declared.order.SpawnOrder.{SpawnOrder}
use Rattle.sv_journal.specs.declared.order_words.OrderWord.{OrderWord}
use Rattle.sv_journal.specs.declared.order_words.OrderWord.TheVariants as word_is
use Rattle.sv_journal.specs.declared.order_words.Receiver.{Receiver}
use Rattle.sv_journal.specs.declared.order_words.Receiver.TheVariants as receiver_is
use Rattle.sv_letters.specs.declared.letters.Letters.TheVariants.{OfBytes}
use Rattle.sv_journal.specs.Limits.{number_limit, run_limit}
use Rattle.sv_journal.specs.JournalLine.{AreBytes, then_token, then_pair, counted_words, counted_pairs, order_line}
use Rattle.sv_journal.specs.Orders.{FitsSpawn, FitsOrder}
use Rattle.sv_journal.specs.Reading.{◌>>=◌, end_at, keyword_at, last_token_at}
use Rattle.sv_journal.specs.ReadingLines.{signals, word_then, keyword_then, number_then}
use Rattle.sv_journal.specs.OrderReading.{order_word, order_words, states, is_group, receiver_word, receivers, text_at, text_then, pair_at, counted_at, counted_then, text_numbers_at, number_bytes_at, last_text_at, text_bytes_at, two_texts_at, last_number_at, edge_at, state_at, kill_at, command_at, place_at, spawn_at, order_of, order_at}
use Rattle.sv_journal.proofs.HeaderLaws.{signal_again}
use Rattle.sv_journal.proofs.InputLaws.{number_fits, run_fits, end_number}
use Rattle.sv_journal.proofs.LineParts.{bind_then, end_takes, word_then_takes, keyword_then_takes, number_then_takes}
use Rattle.sv_journal.proofs.Results.{ok_value}
use Rattle.sv_journal.proofs.OrderParts.{text_then_takes, text_goes, number_goes, counted_takes, counted_again, text_item, pair_item, fit_texts, texts_fit, fit_pairs, pairs_fit, last_text_takes, last_bytes_takes, last_text_again, last_bytes_again, FitsPair}

record Meant (line : List ℕ) (o : Order) : Type 0 where
  same : line ≡ order_line o
  fits : FitsOrder o

-- what is after a prefix, part by part
more : (front a rest bs line : List ℕ) → bs ≡ a ++ rest → (front ++ a) ++ rest ≡ line → front ++ bs ≡ line
more front a rest bs line is e = ap (λ (l : List ℕ). front ++ l) is ∙ sym (append_assoc front a rest) ∙ e

over : (front rest line : List ℕ) → rest ≡ [] → front ≡ line → front ++ rest ≡ line
over front rest line is e = ap (λ (l : List ℕ). front ++ l) is ∙ append-nil front ∙ e

-- a text and two numbers
record TextNumbers (bs text : List ℕ) (first second : ℕ) : Type 0 where
  same : (word : List ℕ) → word ++ bs ≡ word ++ then_token text ++ codes " " ++ decimal first ++ codes " " ++ decimal second
  good : IsUtf8 text
  one : first ≤ number_limit
  two : second ≤ number_limit

text_numbers_take : (bs : List ℕ) (r : List ℕ × ℕ × ℕ) → text_numbers_at bs ≡ Ok r → TextNumbers bs r.0 r.1 r.2
unfolding text_numbers_at
text_numbers_take bs r e =
    text_then_takes (λ text. word_then (codes " ") (number_then 0 number_limit (λ first. word_then (codes " ") (number_then 0 number_limit (λ second. end_at (text, first, second)))))) bs r e (λ text rest taken e.
    word_then_takes (codes " ") (number_then 0 number_limit (λ first. word_then (codes " ") (number_then 0 number_limit (λ second. end_at (text, first, second))))) rest r e (λ rest2 is2 e.
    number_then_takes 0 number_limit (λ first. word_then (codes " ") (number_then 0 number_limit (λ second. end_at (text, first, second)))) rest2 r number_fits e (λ first rest3 one e.
    word_then_takes (codes " ") (number_then 0 number_limit (λ second. end_at (text, first, second))) rest3 r e (λ rest4 is4 e.
    number_then_takes 0 number_limit (λ second. end_at (text, first, second)) rest4 r number_fits e (λ second rest5 two e.
    let end = end_takes (text, first, second) r rest5 e in
    subst (λ (q : List ℕ × ℕ × ℕ). TextNumbers bs q.0 q.1 q.2) end.1 (record {
      same = λ word.
          more word (then_token text) rest bs _ taken.same
          (more (word ++ then_token text) (codes " ") rest2 rest _ is2
          (more (word ++ then_token text ++ codes " ") (decimal first) rest3 rest2 _ one.same
          (more (word ++ then_token text ++ codes " " ++ decimal first) (codes " ") rest4 rest3 _ is4
          (more (word ++ then_token text ++ codes " " ++ decimal first ++ codes " ") (decimal second) rest5 rest4 _ two.same
          (over (word ++ then_token text ++ codes " " ++ decimal first ++ codes " " ++ decimal second) rest5 _ end.0 refl)))));
      good = taken.good;
      one = one.high;
      two = two.high;
    }))))))

text_numbers_again : (text : List ℕ) (first second : ℕ) → IsUtf8 text → first ≤ number_limit → second ≤ number_limit
    → text_numbers_at (then_token text ++ (codes " " ++ (decimal first ++ (codes " " ++ decimal second)))) ≡ Ok (text, first, second)
unfolding text_numbers_at
text_numbers_again text first second good one two =
    text_goes (λ text. word_then (codes " ") (number_then 0 number_limit (λ first. word_then (codes " ") (number_then 0 number_limit (λ second. end_at (text, first, second)))))) text (codes " " ++ (decimal first ++ (codes " " ++ decimal second))) good refl
    ∙ number_goes number_limit (λ first. word_then (codes " ") (number_then 0 number_limit (λ second. end_at (text, first, second)))) first (codes " " ++ decimal second) number_fits one refl
    ∙ end_number 0 number_limit second (λ second. (text, first, second)) number_fits (omega arith) (omega arith) two

-- a run or a link, and bytes
number_bytes_take : (bs : List ℕ) (r : ℕ × List ℕ) → number_bytes_at bs ≡ Ok r → ((word : List ℕ) → word ++ bs ≡ word ++ decimal r.0 ++ then_token r.1) × (r.0 ≤ run_limit) × AreBytes r.1
unfolding number_bytes_at
number_bytes_take bs r e =
    number_then_takes 0 run_limit (λ number. word_then (codes " ") (λ bs. last_token_at OfBytes bs >>= (λ bytes. Ok (number, bytes)))) bs r run_fits e (λ number rest taken e.
    word_then_takes (codes " ") (λ bs. last_token_at OfBytes bs >>= (λ bytes. Ok (number, bytes))) rest r e (λ rest2 is2 e.
    bind_then (last_token_at OfBytes rest2) (λ bytes. Ok (number, bytes)) r e (λ bytes is e.
    let last = last_bytes_takes rest2 bytes is in
    let whole : rest ≡ then_token bytes = is2 ∙ ap (λ (l : List ℕ). codes " " ++ l) last.0 in
    subst (λ (q : ℕ × List ℕ). ((word : List ℕ) → word ++ bs ≡ word ++ decimal q.0 ++ then_token q.1) × (q.0 ≤ run_limit) × AreBytes q.1) (ok_value (number, bytes) r e)
    (λ word. more word (decimal number) rest bs _ taken.same (ap (λ (l : List ℕ). word ++ decimal number ++ l) whole), taken.high, last.1))))

number_bytes_again : (number : ℕ) (bytes : List ℕ) → number ≤ run_limit → AreBytes bytes → number_bytes_at (decimal number ++ then_token bytes) ≡ Ok (number, bytes)
unfolding number_bytes_at
number_bytes_again number bytes small good =
    number_goes run_limit (λ number. word_then (codes " ") (λ bs. last_token_at OfBytes bs >>= (λ bytes. Ok (number, bytes)))) number (then_token bytes) run_fits small refl
    ∙ ap (λ (r : Result (List ℕ) ℕ). r >>= (λ bytes. Ok (number, bytes))) (last_bytes_again bytes good)

-- a text and bytes
text_bytes_take : (bs : List ℕ) (r : List ℕ × List ℕ) → text_bytes_at bs ≡ Ok r → ((word : List ℕ) → word ++ bs ≡ word ++ then_token r.0 ++ then_token r.1) × IsUtf8 r.0 × AreBytes r.1
unfolding text_bytes_at
text_bytes_take bs r e =
    text_then_takes (λ text. word_then (codes " ") (λ bs. last_token_at OfBytes bs >>= (λ bytes. Ok (text, bytes)))) bs r e (λ text rest taken e.
    word_then_takes (codes " ") (λ bs. last_token_at OfBytes bs >>= (λ bytes. Ok (text, bytes))) rest r e (λ rest2 is2 e.
    bind_then (last_token_at OfBytes rest2) (λ bytes. Ok (text, bytes)) r e (λ bytes is e.
    let last = last_bytes_takes rest2 bytes is in
    let whole : rest ≡ then_token bytes = is2 ∙ ap (λ (l : List ℕ). codes " " ++ l) last.0 in
    subst (λ (q : List ℕ × List ℕ). ((word : List ℕ) → word ++ bs ≡ word ++ then_token q.0 ++ then_token q.1) × IsUtf8 q.0 × AreBytes q.1) (ok_value (text, bytes) r e)
    (λ word. more word (then_token text) rest bs _ taken.same (ap (λ (l : List ℕ). word ++ then_token text ++ l) whole), taken.good, last.1))))

text_bytes_again : (text bytes : List ℕ) → IsUtf8 text → AreBytes bytes → text_bytes_at (then_token text ++ then_token bytes) ≡ Ok (text, bytes)
unfolding text_bytes_at
text_bytes_again text bytes one good =
    text_goes (λ text. word_then (codes " ") (λ bs. last_token_at OfBytes bs >>= (λ bytes. Ok (text, bytes)))) text (then_token bytes) one refl
    ∙ ap (λ (r : Result (List ℕ) ℕ). r >>= (λ bytes. Ok (text, bytes))) (last_bytes_again bytes good)

-- two texts
two_texts_take : (bs : List ℕ) (r : List ℕ × List ℕ) → two_texts_at bs ≡ Ok r → ((word : List ℕ) → word ++ bs ≡ word ++ then_token r.0 ++ then_token r.1) × IsUtf8 r.0 × IsUtf8 r.1
unfolding two_texts_at
two_texts_take bs r e =
    text_then_takes (λ one bs. last_text_at bs >>= (λ other. Ok (one, other))) bs r e (λ one rest taken e.
    bind_then (last_text_at rest) (λ other. Ok (one, other)) r e (λ other is e.
    let last = last_text_takes rest other is in
    subst (λ (q : List ℕ × List ℕ). ((word : List ℕ) → word ++ bs ≡ word ++ then_token q.0 ++ then_token q.1) × IsUtf8 q.0 × IsUtf8 q.1) (ok_value (one, other) r e)
    (λ word. more word (then_token one) rest bs _ taken.same (ap (λ (l : List ℕ). word ++ then_token one ++ l) last.0), taken.good, last.1)))

two_texts_again : (one other : List ℕ) → IsUtf8 one → IsUtf8 other → two_texts_at (then_token one ++ then_token other) ≡ Ok (one, other)
unfolding two_texts_at
two_texts_again one other good better =
    text_goes (λ one bs. last_text_at bs >>= (λ other. Ok (one, other))) one (then_token other) good refl
    ∙ ap (λ (r : Result (List ℕ) ℕ). r >>= (λ other. Ok (one, other))) (last_text_again other better)

-- a run or a link
last_number_takes : (bs : List ℕ) (n : ℕ) → last_number_at bs ≡ Ok n → (bs ≡ decimal n) × (n ≤ run_limit)
unfolding last_number_at
last_number_takes bs n e =
    number_then_takes 0 run_limit end_at bs n run_fits e (λ m rest taken e.
    let end = end_takes m n rest e in
    (taken.same ∙ ap (λ (l : List ℕ). decimal m ++ l) end.0 ∙ append-nil (decimal m) ∙ ap decimal end.1, subst (λ (k : ℕ). k ≤ run_limit) end.1 taken.high))

last_number_again : (n : ℕ) → n ≤ run_limit → last_number_at (decimal n) ≡ Ok n
unfolding last_number_at
last_number_again n small = end_number 0 run_limit n (λ n. n) run_fits (omega arith) (omega arith) small

-- the tables of words
pub word_again : (word : OrderWord) (rest : List ℕ) → keyword_at order_word order_words (order_word word ++ rest) ≡ Ok (word, rest)
word_again word_is.State rest = refl
word_again word_is.Dropped rest = refl
word_again word_is.Spawn rest = refl
word_again word_is.Kill rest = refl
word_again word_is.Stdin rest = refl
word_again word_is.Append rest = refl
word_again word_is.Shift rest = refl
word_again word_is.Fresh rest = refl
word_again word_is.Read rest = refl
word_again word_is.Clear rest = refl
word_again word_is.Names rest = refl
word_again word_is.Size rest = refl
word_again word_is.Send rest = refl
word_again word_is.More rest = refl
word_again word_is.Close rest = refl
word_again word_is.Halt rest = refl

pub state_again : (state : State) (rest : List ℕ) → keyword_at state_name states (state_name state ++ rest) ≡ Ok (state, rest)
state_again state_is.Stopped rest = refl
state_again state_is.Starting rest = refl
state_again state_is.Running rest = refl
state_again state_is.Backoff rest = refl
state_again state_is.Stopping rest = refl
state_again state_is.Exited rest = refl
state_again state_is.Fatal rest = refl
state_again state_is.Unknown rest = refl

pub receiver_again : (one : Receiver) (rest : List ℕ) → keyword_at receiver_word receivers (receiver_word one ++ rest) ≡ Ok (one, rest)
receiver_again receiver_is.Child rest = refl
receiver_again receiver_is.Group rest = refl

pub keyword_goes : {K X : Type 0} (spelling : K → List ℕ) (ks : List K) (next : K → List ℕ → Result X ℕ) (k : K) (rest : List ℕ)
    → ((k : K) (rest : List ℕ) → keyword_at spelling ks (spelling k ++ rest) ≡ Ok (k, rest)) → keyword_then spelling ks next (spelling k ++ rest) ≡ next k rest
keyword_goes {K} {X} spelling ks next k rest again = ap (λ (r : Result (K × List ℕ) ℕ). r >>= (λ r. next r.0 r.1)) (again k rest)

-- the report of an edge
edge_takes : (group name bs : List ℕ) (o : Order) (front : List ℕ) → IsUtf8 group → IsUtf8 name → front ≡ codes "state" ++ then_token group ++ then_token name
    → edge_at group name bs ≡ Ok o → Meant (front ++ bs) o
unfolding edge_at
edge_takes group name bs o front one two begins e =
    word_then_takes (codes " ") (keyword_then state_name states (λ from. word_then (codes " ") (keyword_then state_name states (λ to. end_at (order_is.State group name from to))))) bs o e (λ rest2 is2 e.
    keyword_then_takes state_name states (λ from. word_then (codes " ") (keyword_then state_name states (λ to. end_at (order_is.State group name from to)))) rest2 o e (λ from rest3 is3 e.
    word_then_takes (codes " ") (keyword_then state_name states (λ to. end_at (order_is.State group name from to))) rest3 o e (λ rest4 is4 e.
    keyword_then_takes state_name states (λ to. end_at (order_is.State group name from to)) rest4 o e (λ to rest5 is5 e.
    let end = end_takes (order_is.State group name from to) o rest5 e in
    record {
      same =
          more front (codes " ") rest2 bs _ is2
          (more (front ++ codes " ") (state_name from) rest3 rest2 _ is3
          (more (front ++ codes " " ++ state_name from) (codes " ") rest4 rest3 _ is4
          (more (front ++ codes " " ++ state_name from ++ codes " ") (state_name to) rest5 rest4 _ is5
          (over (front ++ codes " " ++ state_name from ++ codes " " ++ state_name to) rest5 _ end.0
          (ap (λ (l : List ℕ). l ++ codes " " ++ state_name from ++ codes " " ++ state_name to) begins ∙ ap order_line end.1)))));
      fits = subst FitsOrder end.1 (one, two);
    }))))

state_takes : (bs : List ℕ) (o : Order) → state_at bs ≡ Ok o → Meant (codes "state" ++ bs) o
unfolding state_at
state_takes bs o e =
    text_then_takes (λ group. text_then (edge_at group)) bs o e (λ group rest one e.
    text_then_takes (edge_at group) rest o e (λ name rest2 two e.
    let m = edge_takes group name rest2 o (codes "state" ++ then_token group ++ then_token name) one.good two.good refl e in
    record {
      same = more (codes "state") (then_token group) rest bs _ one.same (more (codes "state" ++ then_token group) (then_token name) rest2 rest _ two.same m.same);
      fits = m.fits;
    }))

edge_again : (group name : List ℕ) (from to : State) → edge_at group name (codes " " ++ (state_name from ++ (codes " " ++ (state_name to ++ [])))) ≡ Ok (order_is.State group name from to)
unfolding edge_at
edge_again group name from to =
    keyword_goes state_name states (λ from. word_then (codes " ") (keyword_then state_name states (λ to. end_at (order_is.State group name from to)))) from (codes " " ++ (state_name to ++ [])) state_again
    ∙ keyword_goes state_name states (λ to. end_at (order_is.State group name from to)) to [] state_again

-- a signal
kill_takes : (bs : List ℕ) (o : Order) → kill_at bs ≡ Ok o → Meant (codes "kill " ++ bs) o
unfolding kill_at
kill_takes bs o e =
    let made : ℕ → Signal → Receiver → Order = λ run signal one. order_is.Kill (record { 0 = run }) signal (is_group one) in
    number_then_takes 0 run_limit (λ run. word_then (codes " ") (keyword_then signal_name signals (λ signal. keyword_then receiver_word receivers (λ one. end_at (made run signal one))))) bs o run_fits e (λ run rest taken e.
    word_then_takes (codes " ") (keyword_then signal_name signals (λ signal. keyword_then receiver_word receivers (λ one. end_at (made run signal one)))) rest o e (λ rest2 is2 e.
    keyword_then_takes signal_name signals (λ signal. keyword_then receiver_word receivers (λ one. end_at (made run signal one))) rest2 o e (λ signal rest3 is3 e.
    keyword_then_takes receiver_word receivers (λ one. end_at (made run signal one)) rest3 o e (λ one rest4 is4 e.
    let end = end_takes (made run signal one) o rest4 e in
    record {
      same =
          more (codes "kill ") (decimal run) rest bs _ taken.same
          (more (codes "kill " ++ decimal run) (codes " ") rest2 rest _ is2
          (more (codes "kill " ++ decimal run ++ codes " ") (signal_name signal) rest3 rest2 _ is3
          (more (codes "kill " ++ decimal run ++ codes " " ++ signal_name signal) (receiver_word one) rest4 rest3 _ is4
          (over (codes "kill " ++ decimal run ++ codes " " ++ signal_name signal ++ receiver_word one) rest4 _ end.0 (ap order_line end.1)))));
      fits = subst FitsOrder end.1 taken.high;
    }))))

kill_again : (run : Run) (signal : Signal) (one : Receiver) → run.0 ≤ run_limit
    → kill_at (decimal run.0 ++ (codes " " ++ (signal_name signal ++ (receiver_word one ++ [])))) ≡ Ok (order_is.Kill run signal (is_group one))
unfolding kill_at
kill_again run signal one small =
    number_goes run_limit (λ run. word_then (codes " ") (keyword_then signal_name signals (λ signal. keyword_then receiver_word receivers (λ one. end_at (order_is.Kill (record { 0 = run }) signal (is_group one)))))) run.0 (codes " " ++ (signal_name signal ++ (receiver_word one ++ []))) run_fits small refl
    ∙ keyword_goes signal_name signals (λ signal. keyword_then receiver_word receivers (λ one. end_at (order_is.Kill run signal (is_group one)))) signal (receiver_word one ++ []) signal_again
    ∙ keyword_goes receiver_word receivers (λ one. end_at (order_is.Kill run signal (is_group one))) one [] receiver_again

-- a spawn
abbrev made_spawn : ℕ → List ℕ → List ℕ → List ℕ → List ℕ → List ℕ → List (List ℕ) → List (List ℕ × List ℕ) → Order
made_spawn run group name directory umask user words environment = order_is.Spawn (record {
  run = record { 0 = run };
  group = group;
  name = name;
  directory = directory;
  umask = umask;
  user = user;
  words = words;
  environment = environment;
})

record Named (run : ℕ) (group name directory umask user front : List ℕ) : Type 0 where
  small : run ≤ run_limit
  texts : IsUtf8 group × IsUtf8 name × IsUtf8 directory × IsUtf8 umask × IsUtf8 user
  begins : front ≡ codes "spawn " ++ decimal run ++ then_token group ++ then_token name ++ then_token directory ++ then_token umask ++ then_token user

counted_then_takes : {A X P : Type 0} (item_at : List ℕ → Result (A × List ℕ) ℕ) (next : List A → List ℕ → Result X ℕ) (bs : List ℕ) (x : X) → counted_then item_at next bs ≡ Ok x
    → ((xs : List A) (rest : List ℕ) → counted_at item_at bs ≡ Ok (xs, rest) → next xs rest ≡ Ok x → P) → P
counted_then_takes item_at next bs x e k = bind_then (counted_at item_at bs) (λ r. next r.0 r.1) x e (λ r is e. k r.0 r.1 is e)

command_takes : (run : ℕ) (group name directory umask user bs : List ℕ) (o : Order) (front : List ℕ) → Named run group name directory umask user front
    → command_at run group name directory umask user bs ≡ Ok o → Meant (front ++ bs) o
unfolding command_at
command_takes run group name directory umask user bs o front named e =
    counted_then_takes text_at (λ words. counted_then pair_at (λ environment. end_at (made_spawn run group name directory umask user words environment))) bs o e (λ words rest is e.
    counted_then_takes pair_at (λ environment. end_at (made_spawn run group name directory umask user words environment)) rest o e (λ environment rest2 is2 e.
    let end = end_takes (made_spawn run group name directory umask user words environment) o rest2 e in
    let one = counted_takes text_at IsUtf8 then_token text_item bs words rest is in
    let two = counted_takes pair_at FitsPair then_pair pair_item rest environment rest2 is2 in
    let t = named.texts in
    record {
      same =
          more front (counted_words words) rest bs _ one.same
          (more (front ++ counted_words words) (counted_pairs environment) rest2 rest _ two.same
          (over (front ++ counted_words words ++ counted_pairs environment) rest2 _ end.0
          (ap (λ (l : List ℕ). l ++ counted_words words ++ counted_pairs environment) named.begins ∙ ap order_line end.1)));
      fits = subst FitsOrder end.1 (named.small, t.0, t.1, t.2, t.3, t.4, fit_texts words one.fits, one.few, fit_pairs environment two.fits, two.few);
    }))

place_takes : (run : ℕ) (group name bs : List ℕ) (o : Order) (front : List ℕ) → run ≤ run_limit → IsUtf8 group → IsUtf8 name → front ≡ codes "spawn " ++ decimal run ++ then_token group ++ then_token name
    → place_at run group name bs ≡ Ok o → Meant (front ++ bs) o
unfolding place_at
place_takes run group name bs o front small first second begins e =
    text_then_takes (λ directory. text_then (λ umask. text_then (λ user. command_at run group name directory umask user))) bs o e (λ directory rest one e.
    text_then_takes (λ umask. text_then (λ user. command_at run group name directory umask user)) rest o e (λ umask rest2 two e.
    text_then_takes (λ user. command_at run group name directory umask user) rest2 o e (λ user rest3 three e.
    let m = command_takes run group name directory umask user rest3 o (front ++ then_token directory ++ then_token umask ++ then_token user) (record {
      small = small;
      texts = (first, second, one.good, two.good, three.good);
      begins = ap (λ (l : List ℕ). l ++ then_token directory ++ then_token umask ++ then_token user) begins;
    }) e in
    record {
      same =
          more front (then_token directory) rest bs _ one.same
          (more (front ++ then_token directory) (then_token umask) rest2 rest _ two.same
          (more (front ++ then_token directory ++ then_token umask) (then_token user) rest3 rest2 _ three.same m.same));
      fits = m.fits;
    })))

spawn_takes : (bs : List ℕ) (o : Order) → spawn_at bs ≡ Ok o → Meant (codes "spawn " ++ bs) o
unfolding spawn_at
spawn_takes bs o e =
    number_then_takes 0 run_limit (λ run. text_then (λ group. text_then (λ name. place_at run group name))) bs o run_fits e (λ run rest taken e.
    text_then_takes (λ group. text_then (λ name. place_at run group name)) rest o e (λ group rest2 one e.
    text_then_takes (λ name. place_at run group name) rest2 o e (λ name rest3 two e.
    let m = place_takes run group name rest3 o (codes "spawn " ++ decimal run ++ then_token group ++ then_token name) taken.high one.good two.good refl e in
    record {
      same =
          more (codes "spawn ") (decimal run) rest bs _ taken.same
          (more (codes "spawn " ++ decimal run) (then_token group) rest2 rest _ one.same
          (more (codes "spawn " ++ decimal run ++ then_token group) (then_token name) rest3 rest2 _ two.same m.same));
      fits = m.fits;
    })))

counted_goes : {A X : Type 0} (item_at : List ℕ → Result (A × List ℕ) ℕ) (next : List A → List ℕ → Result X ℕ) (bs : List ℕ) (xs : List A) (rest : List ℕ)
    → counted_at item_at bs ≡ Ok (xs, rest) → counted_then item_at next bs ≡ next xs rest
counted_goes {A} {X} item_at next bs xs rest e = ap (λ (r : Result (List A × List ℕ) ℕ). r >>= (λ r. next r.0 r.1)) e

command_again : (s : SpawnOrder) → FitsSpawn s
    → command_at s.run.0 s.group s.name s.directory s.umask s.user (counted_words s.words ++ (counted_pairs s.environment ++ [])) ≡ Ok (order_is.Spawn s)
unfolding command_at
command_again s fits =
    let made : List (List ℕ) → List (List ℕ × List ℕ) → Order = made_spawn s.run.0 s.group s.name s.directory s.umask s.user in
    counted_goes text_at (λ words. counted_then pair_at (λ environment. end_at (made words environment))) (counted_words s.words ++ (counted_pairs s.environment ++ [])) s.words (counted_pairs s.environment ++ [])
    (counted_again text_at IsUtf8 then_token text_item s.words (counted_pairs s.environment ++ []) (texts_fit s.words fits.6) fits.7 refl)
    ∙ counted_goes pair_at (λ environment. end_at (made s.words environment)) (counted_pairs s.environment ++ []) s.environment []
    (counted_again pair_at FitsPair then_pair pair_item s.environment [] (pairs_fit s.environment fits.8) fits.9 refl)

spawn_again : (s : SpawnOrder) → FitsSpawn s
    → spawn_at (decimal s.run.0 ++ (then_token s.group ++ (then_token s.name ++ (then_token s.directory ++ (then_token s.umask ++ (then_token s.user ++ (counted_words s.words ++ (counted_pairs s.environment ++ [])))))))) ≡ Ok (order_is.Spawn s)
unfolding spawn_at place_at
spawn_again s fits =
    let last = counted_words s.words ++ (counted_pairs s.environment ++ []) in
    let user = then_token s.user ++ last in
    let umask = then_token s.umask ++ user in
    let directory = then_token s.directory ++ umask in
    let name = then_token s.name ++ directory in
    number_goes run_limit (λ run. text_then (λ group. text_then (λ name. place_at run group name))) s.run.0 (then_token s.group ++ name) run_fits fits.0 refl
    ∙ text_goes (λ group. text_then (λ name. place_at s.run.0 group name)) s.group name fits.1 refl
    ∙ text_goes (λ name. place_at s.run.0 s.group name) s.name directory fits.2 refl
    ∙ text_goes (λ directory. text_then (λ umask. text_then (λ user. command_at s.run.0 s.group s.name directory umask user))) s.directory umask fits.3 refl
    ∙ text_goes (λ umask. text_then (λ user. command_at s.run.0 s.group s.name s.directory umask user)) s.umask user fits.4 refl
    ∙ text_goes (λ user. command_at s.run.0 s.group s.name s.directory s.umask user) s.user last fits.5 refl
    ∙ command_again s fits

-- whole lines
order_of_takes : (word : OrderWord) (bs : List ℕ) (o : Order) → order_of word bs ≡ Ok o → Meant (order_word word ++ bs) o
unfolding order_of
order_of_takes word_is.State bs o e = state_takes bs o e
order_of_takes word_is.Dropped bs o e =
    bind_then (text_numbers_at bs) (λ r. Ok (order_is.Dropped r.0 r.1 r.2)) o e (λ r is e.
    let t = text_numbers_take bs r is in
    let same = ok_value (order_is.Dropped r.0 r.1 r.2) o e in
    record { same = t.same (codes "dropped") ∙ ap order_line same; fits = subst FitsOrder same (t.good, t.one, t.two) })
order_of_takes word_is.Spawn bs o e = spawn_takes bs o e
order_of_takes word_is.Kill bs o e = kill_takes bs o e
order_of_takes word_is.Stdin bs o e =
    bind_then (number_bytes_at bs) (λ r. Ok (order_is.Stdin (record { 0 = r.0 }) r.1)) o e (λ r is e.
    let t = number_bytes_take bs r is in
    let same = ok_value (order_is.Stdin (record { 0 = r.0 }) r.1) o e in
    record { same = t.0 (codes "stdin ") ∙ ap order_line same; fits = subst FitsOrder same (t.1, t.2) })
order_of_takes word_is.Append bs o e =
    bind_then (text_bytes_at bs) (λ r. Ok (order_is.Append r.0 r.1)) o e (λ r is e.
    let t = text_bytes_take bs r is in
    let same = ok_value (order_is.Append r.0 r.1) o e in
    record { same = t.0 (codes "append") ∙ ap order_line same; fits = subst FitsOrder same (t.1, t.2) })
order_of_takes word_is.Shift bs o e =
    bind_then (two_texts_at bs) (λ r. Ok (order_is.Shift r.0 r.1)) o e (λ r is e.
    let t = two_texts_take bs r is in
    let same = ok_value (order_is.Shift r.0 r.1) o e in
    record { same = t.0 (codes "shift") ∙ ap order_line same; fits = subst FitsOrder same (t.1, t.2) })
order_of_takes word_is.Fresh bs o e =
    bind_then (last_text_at bs) (λ file. Ok (order_is.Fresh file)) o e (λ file is e.
    let t = last_text_takes bs file is in
    let same = ok_value (order_is.Fresh file) o e in
    record { same = ap (λ (l : List ℕ). codes "fresh" ++ l) t.0 ∙ ap order_line same; fits = subst FitsOrder same t.1 })
order_of_takes word_is.Read bs o e =
    bind_then (text_numbers_at bs) (λ r. Ok (order_is.ReadFile r.0 r.1 r.2)) o e (λ r is e.
    let t = text_numbers_take bs r is in
    let same = ok_value (order_is.ReadFile r.0 r.1 r.2) o e in
    record { same = t.same (codes "read") ∙ ap order_line same; fits = subst FitsOrder same (t.good, t.one, t.two) })
order_of_takes word_is.Clear bs o e =
    bind_then (last_text_at bs) (λ file. Ok (order_is.ClearFile file)) o e (λ file is e.
    let t = last_text_takes bs file is in
    let same = ok_value (order_is.ClearFile file) o e in
    record { same = ap (λ (l : List ℕ). codes "clear" ++ l) t.0 ∙ ap order_line same; fits = subst FitsOrder same t.1 })
order_of_takes word_is.Names bs o e =
    bind_then (last_text_at bs) (λ pattern. Ok (order_is.Names pattern)) o e (λ pattern is e.
    let t = last_text_takes bs pattern is in
    let same = ok_value (order_is.Names pattern) o e in
    record { same = ap (λ (l : List ℕ). codes "names" ++ l) t.0 ∙ ap order_line same; fits = subst FitsOrder same t.1 })
order_of_takes word_is.Size bs o e =
    bind_then (last_text_at bs) (λ file. Ok (order_is.Size file)) o e (λ file is e.
    let t = last_text_takes bs file is in
    let same = ok_value (order_is.Size file) o e in
    record { same = ap (λ (l : List ℕ). codes "size" ++ l) t.0 ∙ ap order_line same; fits = subst FitsOrder same t.1 })
order_of_takes word_is.Send bs o e =
    bind_then (number_bytes_at bs) (λ r. Ok (order_is.Send (record { 0 = r.0 }) r.1)) o e (λ r is e.
    let t = number_bytes_take bs r is in
    let same = ok_value (order_is.Send (record { 0 = r.0 }) r.1) o e in
    record { same = t.0 (codes "send ") ∙ ap order_line same; fits = subst FitsOrder same (t.1, t.2) })
order_of_takes word_is.More bs o e =
    bind_then (last_number_at bs) (λ link. Ok (order_is.More (record { 0 = link }))) o e (λ link is e.
    let t = last_number_takes bs link is in
    let same = ok_value (order_is.More (record { 0 = link })) o e in
    record { same = ap (λ (l : List ℕ). codes "more " ++ l) t.0 ∙ ap order_line same; fits = subst FitsOrder same t.1 })
order_of_takes word_is.Close bs o e =
    bind_then (last_number_at bs) (λ link. Ok (order_is.Close (record { 0 = link }))) o e (λ link is e.
    let t = last_number_takes bs link is in
    let same = ok_value (order_is.Close (record { 0 = link })) o e in
    record { same = ap (λ (l : List ℕ). codes "close " ++ l) t.0 ∙ ap order_line same; fits = subst FitsOrder same t.1 })
order_of_takes word_is.Halt bs o e =
    let end = end_takes order_is.Halt o bs e in
    record { same = ap (λ (l : List ℕ). codes "halt" ++ l) end.0 ∙ ap order_line end.1; fits = subst FitsOrder end.1 tt }

order_means : (bs : List ℕ) (o : Order) → order_at bs ≡ Ok o → Meant bs o
unfolding order_at
order_means bs o e =
    keyword_then_takes order_word order_words order_of bs o e (λ word rest is e.
    let m = order_of_takes word rest o e in
    record { same = is ∙ m.same; fits = m.fits })

pub order_takes : (bs : List ℕ) (o : Order) → order_at bs ≡ Ok o → bs ≡ order_line o
order_takes bs o e = (order_means bs o e).same

pub order_fits : (bs : List ℕ) (o : Order) → order_at bs ≡ Ok o → FitsOrder o
order_fits bs o e = (order_means bs o e).fits

opened : (word : OrderWord) (rest : List ℕ) → order_at (order_word word ++ rest) ≡ order_of word rest
unfolding order_at
opened word rest = keyword_goes order_word order_words order_of word rest word_again

three : (a b c : List ℕ) → a ++ b ++ c ≡ a ++ (b ++ c)
three a b c = append_assoc a b c

six : (a b c d e f : List ℕ) → a ++ b ++ c ++ d ++ e ++ f ≡ a ++ (b ++ (c ++ (d ++ (e ++ f))))
six a b c d e f = simp append_assoc

seven : (a b c d e f g : List ℕ) → a ++ b ++ c ++ d ++ e ++ f ++ g ≡ a ++ (b ++ (c ++ (d ++ (e ++ (f ++ (g ++ []))))))
seven a b c d e f g = simp (append_assoc, append-nil)

five : (a b c d e : List ℕ) → a ++ b ++ c ++ d ++ e ≡ a ++ (b ++ (c ++ (d ++ (e ++ []))))
five a b c d e = simp (append_assoc, append-nil)

nine : (a b c d e f g h i : List ℕ) → a ++ b ++ c ++ d ++ e ++ f ++ g ++ h ++ i ≡ a ++ (b ++ (c ++ (d ++ (e ++ (f ++ (g ++ (h ++ (i ++ []))))))))
nine a b c d e f g h i = simp (append_assoc, append-nil)

kill_line : (run : Run) (signal : Signal) (one : Receiver) → run.0 ≤ run_limit → order_at (order_line (order_is.Kill run signal (is_group one))) ≡ Ok (order_is.Kill run signal (is_group one))
unfolding order_of
kill_line run signal one small =
    ap order_at (five (codes "kill ") (decimal run.0) (codes " ") (signal_name signal) (receiver_word one))
    ∙ opened word_is.Kill (decimal run.0 ++ (codes " " ++ (signal_name signal ++ (receiver_word one ++ []))))
    ∙ kill_again run signal one small

state_line : (group name : List ℕ) (from to : State) → IsUtf8 group × IsUtf8 name
    → state_at (then_token group ++ (then_token name ++ (codes " " ++ (state_name from ++ (codes " " ++ (state_name to ++ [])))))) ≡ Ok (order_is.State group name from to)
unfolding state_at
state_line group name from to fits =
    text_goes (λ group. text_then (edge_at group)) group (then_token name ++ (codes " " ++ (state_name from ++ (codes " " ++ (state_name to ++ []))))) fits.0 refl
    ∙ text_goes (edge_at group) name (codes " " ++ (state_name from ++ (codes " " ++ (state_name to ++ [])))) fits.1 refl
    ∙ edge_again group name from to

pub order_again : (o : Order) → FitsOrder o → order_at (order_line o) ≡ Ok o
unfolding order_of
order_again (order_is.State group name from to) fits =
    ap order_at (seven (codes "state") (then_token group) (then_token name) (codes " ") (state_name from) (codes " ") (state_name to))
    ∙ opened word_is.State (then_token group ++ (then_token name ++ (codes " " ++ (state_name from ++ (codes " " ++ (state_name to ++ []))))))
    ∙ state_line group name from to fits
order_again (order_is.Dropped pool serial poolserial) fits =
    ap order_at (six (codes "dropped") (then_token pool) (codes " ") (decimal serial) (codes " ") (decimal poolserial))
    ∙ opened word_is.Dropped (then_token pool ++ (codes " " ++ (decimal serial ++ (codes " " ++ decimal poolserial))))
    ∙ ap (λ (r : Result (List ℕ × ℕ × ℕ) ℕ). r >>= (λ r. Ok (order_is.Dropped r.0 r.1 r.2))) (text_numbers_again pool serial poolserial fits.0 fits.1 fits.2)
order_again (order_is.Spawn s) fits =
    ap order_at (nine (codes "spawn ") (decimal s.run.0) (then_token s.group) (then_token s.name) (then_token s.directory) (then_token s.umask) (then_token s.user) (counted_words s.words) (counted_pairs s.environment))
    ∙ opened word_is.Spawn (decimal s.run.0 ++ (then_token s.group ++ (then_token s.name ++ (then_token s.directory ++ (then_token s.umask ++ (then_token s.user ++ (counted_words s.words ++ (counted_pairs s.environment ++ []))))))))
    ∙ spawn_again s fits
order_again (order_is.Kill run signal true) fits = kill_line run signal receiver_is.Group fits
order_again (order_is.Kill run signal false) fits = kill_line run signal receiver_is.Child fits
order_again (order_is.Stdin run bytes) fits =
    ap order_at (three (codes "stdin ") (decimal run.0) (then_token bytes))
    ∙ opened word_is.Stdin (decimal run.0 ++ then_token bytes)
    ∙ ap (λ (r : Result (ℕ × List ℕ) ℕ). r >>= (λ r. Ok (order_is.Stdin (record { 0 = r.0 }) r.1))) (number_bytes_again run.0 bytes fits.0 fits.1)
order_again (order_is.Append file bytes) fits =
    ap order_at (three (codes "append") (then_token file) (then_token bytes))
    ∙ opened word_is.Append (then_token file ++ then_token bytes)
    ∙ ap (λ (r : Result (List ℕ × List ℕ) ℕ). r >>= (λ r. Ok (order_is.Append r.0 r.1))) (text_bytes_again file bytes fits.0 fits.1)
order_again (order_is.Shift from to) fits =
    ap order_at (three (codes "shift") (then_token from) (then_token to))
    ∙ opened word_is.Shift (then_token from ++ then_token to)
    ∙ ap (λ (r : Result (List ℕ × List ℕ) ℕ). r >>= (λ r. Ok (order_is.Shift r.0 r.1))) (two_texts_again from to fits.0 fits.1)
order_again (order_is.Fresh file) fits =
    opened word_is.Fresh (then_token file) ∙ ap (λ (r : Result (List ℕ) ℕ). r >>= (λ file. Ok (order_is.Fresh file))) (last_text_again file fits)
order_again (order_is.ReadFile file start length) fits =
    ap order_at (six (codes "read") (then_token file) (codes " ") (decimal start) (codes " ") (decimal length))
    ∙ opened word_is.Read (then_token file ++ (codes " " ++ (decimal start ++ (codes " " ++ decimal length))))
    ∙ ap (λ (r : Result (List ℕ × ℕ × ℕ) ℕ). r >>= (λ r. Ok (order_is.ReadFile r.0 r.1 r.2))) (text_numbers_again file start length fits.0 fits.1 fits.2)
order_again (order_is.ClearFile file) fits =
    opened word_is.Clear (then_token file) ∙ ap (λ (r : Result (List ℕ) ℕ). r >>= (λ file. Ok (order_is.ClearFile file))) (last_text_again file fits)
order_again (order_is.Names pattern) fits =
    opened word_is.Names (then_token pattern) ∙ ap (λ (r : Result (List ℕ) ℕ). r >>= (λ pattern. Ok (order_is.Names pattern))) (last_text_again pattern fits)
order_again (order_is.Size file) fits =
    opened word_is.Size (then_token file) ∙ ap (λ (r : Result (List ℕ) ℕ). r >>= (λ file. Ok (order_is.Size file))) (last_text_again file fits)
order_again (order_is.Send link bytes) fits =
    ap order_at (three (codes "send ") (decimal link.0) (then_token bytes))
    ∙ opened word_is.Send (decimal link.0 ++ then_token bytes)
    ∙ ap (λ (r : Result (ℕ × List ℕ) ℕ). r >>= (λ r. Ok (order_is.Send (record { 0 = r.0 }) r.1))) (number_bytes_again link.0 bytes fits.0 fits.1)
order_again (order_is.More link) fits =
    opened word_is.More (decimal link.0) ∙ ap (λ (r : Result ℕ ℕ). r >>= (λ link. Ok (order_is.More (record { 0 = link })))) (last_number_again link.0 fits)
order_again (order_is.Close link) fits =
    opened word_is.Close (decimal link.0) ∙ ap (λ (r : Result ℕ ℕ). r >>= (λ link. Ok (order_is.Close (record { 0 = link })))) (last_number_again link.0 fits)
order_again order_is.Halt fits = opened word_is.Halt []

-- the order of a line is what is read from it
pub read_again : (o : Order) (line : List ℕ) → FitsOrder o → line ≡ order_line o → order_at line ≡ Ok o
read_again o line fits e = ap order_at e ∙ order_again o fits
