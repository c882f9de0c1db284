-- The readers of order lines stop at the first byte with which no good line goes on.
use Rattle.std.proofs.Common.{◌≡◌, ℕ, zero, suc, Bool, List, [], ◌∷◌, ◌++◌, Result, Ok, Err, refl, sym, ap, ◌∙◌, arith}
use Rattle.std.specs.Prelude.{codes}
use Rattle.sv_base.specs.Names.{signal_name, state_name}
use Rattle.sv_base.specs.declared.signal.Signal.{Signal}
use Rattle.sv_base.specs.declared.signal.Signal.TheVariants as signal_is
use Rattle.sv_base.specs.declared.state.State.TheVariants as state_is
use Rattle.sv_out.specs.declared.order.Order.{Order}
use Rattle.sv_out.specs.declared.order.Order.TheVariants as order_is
use Rattle.sv_journal.specs.declared.order_words.OrderWord.{OrderWord}
use Rattle.sv_journal.specs.declared.order_words.OrderWord.TheVariants as word_is
use Rattle.sv_journal.specs.declared.order_words.Receiver.{Receiver}
use Rattle.sv_journal.specs.declared.order_words.Receiver.TheVariants as receiver_is
use Rattle.sv_letters.specs.declared.letters.Letters.{Letters}
use Rattle.sv_letters.specs.declared.letters.Letters.TheVariants.{OfText, OfBytes}
use Rattle.sv_journal.specs.Limits.{number_limit, run_limit}
use Rattle.sv_journal.specs.JournalLine.{order_line}
use Rattle.sv_journal.specs.Orders.{FitsOrder}
use Rattle.sv_journal.specs.Reading.{◌>>=◌, end_at, word_at, token_at, number_at, last_token_at, with_item}
use Rattle.sv_journal.specs.ReadingLines.{signals, word_then, keyword_then, number_then, token_then}
use Rattle.sv_journal.specs.OrderReading.{order_word, order_words, states, is_group, receiver_word, receivers, text_at, text_then, pair_at, items_at, counted_then, text_numbers_at, number_bytes_at, last_text_at, text_bytes_at, two_texts_at, last_number_at, edge_at, state_at, kill_at, command_at, place_at, spawn_at, order_of, order_at}
use Rattle.sv_journal.proofs.Columns.{Exact}
use Rattle.sv_journal.proofs.HeaderLaws.{signal_again}
use Rattle.sv_journal.proofs.InputLaws.{number_fits, run_fits}
use Rattle.sv_journal.proofs.NumberLaws.{IsLimit}
use Rattle.sv_journal.proofs.OrderLaws.{word_again, state_again, receiver_again, order_takes, order_fits, order_again}
use Rattle.sv_journal.proofs.Sharp.{Sharp, any, plain, plain_no_digit, plain_ends, err_value, sharp_end, sharp_word, sharp_keyword, sharp_number}
use Rattle.sv_journal.proofs.SharpToken.{sharp_token}

-- a reader that gives the same everywhere
pub sharp_same : {X : Type 0} (g h : List ℕ → Result X ℕ) (Q : List ℕ → Bool) → ((bs : List ℕ) → g bs ≡ h bs) → Sharp h Q → Sharp g Q
sharp_same g h Q same s = record {
  sample = s.sample;
  value = s.value;
  reads = same s.sample ∙ s.reads;
  has = s.has;
  fails = λ bs left e. let f = s.fails bs left (sym (same bs) ∙ e) in record {
    front = f.front;
    bad = f.bad;
    parts = f.parts;
    size = f.size;
    local = λ b more other q. same (f.front ++ b ∷ other) ∙ f.local b more other q;
    tail = f.tail;
    value = f.value;
    completed = same (f.front ++ f.tail) ∙ f.completed;
    has = f.has;
  };
}

-- any text begins so
weaker : {X : Type 0} {h : List ℕ → Result X ℕ} {P : List ℕ → Bool} → Sharp h P → Sharp h any
weaker s = record {
  sample = s.sample;
  value = s.value;
  reads = s.reads;
  has = refl;
  fails = λ bs left e. let f = s.fails bs left e in record { front = f.front; bad = f.bad; parts = f.parts; size = f.size; local = f.local; tail = f.tail; value = f.value; completed = f.completed; has = refl };
}

-- what becomes of the value doesn't matter
mapped_fails : {X Y : Type 0} (f : X → Y) (r : Result X ℕ) (left : ℕ) → (r >>= (λ x. Ok (f x))) ≡ Err left → r ≡ Err left
mapped_fails f (Ok x) left e = cc e
mapped_fails {X} {Y} f (Err other) left e = ap Err (err_value {X = Y} other left e)

sharp_map : {X Y : Type 0} (h : List ℕ → Result X ℕ) (f : X → Y) (Q : List ℕ → Bool) → Sharp h Q → Sharp (λ bs. h bs >>= (λ x. Ok (f x))) Q
sharp_map {X} {Y} h f Q s = record {
  sample = s.sample;
  value = f s.value;
  reads = ap (λ (r : Result X ℕ). r >>= (λ x. Ok (f x))) s.reads;
  has = s.has;
  fails = λ bs left e. let g = s.fails bs left (mapped_fails f (h bs) left e) in record {
    front = g.front;
    bad = g.bad;
    parts = g.parts;
    size = g.size;
    local = λ b more other q. ap (λ (r : Result X ℕ). r >>= (λ x. Ok (f x))) (g.local b more other q);
    tail = g.tail;
    value = f g.value;
    completed = ap (λ (r : Result X ℕ). r >>= (λ x. Ok (f x))) g.completed;
    has = g.has;
  };
}

-- a reader after a reader after a reader
pub bind_twice : {A B C : Type 0} (r : Result A ℕ) (f : A → Result B ℕ) (g : B → Result C ℕ) → ((r >>= f) >>= g) ≡ (r >>= (λ x. f x >>= g))
bind_twice (Ok x) f g = refl
bind_twice (Err left) f g = refl

-- parts
sharp_text : {X : Type 0} (next : List ℕ → List ℕ → Result X ℕ) → ((v : List ℕ) → Sharp (next v) plain) → Sharp (text_then next) plain
sharp_text next sharp =
    sharp_same (text_then next) (word_then (codes " ") (token_then OfText next)) plain (λ bs. bind_twice (word_at (codes " ") bs) (token_at OfText) (λ r. next r.0 r.1))
    (sharp_word 32 [] (token_then OfText next) any plain (λ x. refl) (sharp_token OfText next plain plain_ends sharp))

last_token : (letters : Letters) → Sharp (last_token_at letters) any
last_token letters = sharp_token letters (λ v. end_at v) plain plain_ends (λ v. sharp_end v)

last_text : Sharp last_text_at plain
unfolding last_text_at
last_text = sharp_word 32 [] (last_token_at OfText) any plain (λ x. refl) (last_token OfText)

last_bytes : {X : Type 0} (f : List ℕ → X) → Sharp (word_then (codes " ") (λ bs. last_token_at OfBytes bs >>= (λ bytes. Ok (f bytes)))) plain
last_bytes f = sharp_word 32 [] (λ bs. last_token_at OfBytes bs >>= (λ bytes. Ok (f bytes))) any plain (λ x. refl) (sharp_map (last_token_at OfBytes) f any (last_token OfBytes))

-- a number that is after a space, and what reads the rest
spaced_number : {X : Type 0} (limit : ℕ) (next : ℕ → List ℕ → Result X ℕ) → IsLimit limit → ((n : ℕ) → Sharp (next n) plain) → Sharp (word_then (codes " ") (number_then 0 limit next)) plain
spaced_number limit next fits sharp =
    sharp_word 32 [] (number_then 0 limit next) any plain (λ x. refl) (sharp_number 0 limit next plain any fits (omega arith) plain_no_digit (λ n x h. refl) sharp)

text_numbers : Sharp text_numbers_at plain
unfolding text_numbers_at
text_numbers =
    sharp_text (λ text. word_then (codes " ") (number_then 0 number_limit (λ first. word_then (codes " ") (number_then 0 number_limit (λ second. end_at (text, first, second)))))) (λ text.
    spaced_number number_limit (λ first. word_then (codes " ") (number_then 0 number_limit (λ second. end_at (text, first, second)))) number_fits (λ first.
    spaced_number number_limit (λ second. end_at (text, first, second)) number_fits (λ second. sharp_end (text, first, second))))

number_bytes : Sharp number_bytes_at any
unfolding number_bytes_at
number_bytes =
    sharp_number 0 run_limit (λ number. word_then (codes " ") (λ bs. last_token_at OfBytes bs >>= (λ bytes. Ok (number, bytes)))) plain any run_fits (omega arith) plain_no_digit (λ n x h. refl) (λ number.
    last_bytes (λ bytes. (number, bytes)))

text_bytes : Sharp text_bytes_at plain
unfolding text_bytes_at
text_bytes = sharp_text (λ text. word_then (codes " ") (λ bs. last_token_at OfBytes bs >>= (λ bytes. Ok (text, bytes)))) (λ text. last_bytes (λ bytes. (text, bytes)))

two_texts : Sharp two_texts_at plain
unfolding two_texts_at
two_texts = sharp_text (λ one bs. last_text_at bs >>= (λ other. Ok (one, other))) (λ one. sharp_map last_text_at (λ other. (one, other)) plain last_text)

last_number : Sharp last_number_at any
unfolding last_number_at
last_number = sharp_number 0 run_limit end_at plain any run_fits (omega arith) plain_no_digit (λ n x h. refl) (λ n. sharp_end n)

edge_sharp : (group name : List ℕ) → Sharp (edge_at group name) plain
unfolding edge_at
edge_sharp group name =
    sharp_word 32 [] (keyword_then state_name states (λ from. word_then (codes " ") (keyword_then state_name states (λ to. end_at (order_is.State group name from to))))) any plain (λ x. refl)
    (sharp_keyword state_name states state_is.Stopped (λ from. word_then (codes " ") (keyword_then state_name states (λ to. end_at (order_is.State group name from to)))) any state_again (λ k x. refl) (λ from.
    sharp_word 32 [] (keyword_then state_name states (λ to. end_at (order_is.State group name from to))) any any (λ x. refl)
    (sharp_keyword state_name states state_is.Stopped (λ to. end_at (order_is.State group name from to)) any state_again (λ k x. refl) (λ to. weaker (sharp_end (order_is.State group name from to))))))

state_sharp : Sharp state_at any
unfolding state_at
state_sharp = weaker (sharp_text (λ group. text_then (edge_at group)) (λ group. sharp_text (edge_at group) (λ name. edge_sharp group name)))

kill_sharp : Sharp kill_at any
unfolding kill_at
kill_sharp =
    let made : ℕ → Signal → Receiver → Order = λ run signal one. order_is.Kill (record { 0 = run }) signal (is_group one) in
    sharp_number 0 run_limit (λ run. word_then (codes " ") (keyword_then signal_name signals (λ signal. keyword_then receiver_word receivers (λ one. end_at (made run signal one))))) plain any run_fits (omega arith) plain_no_digit (λ n x h. refl) (λ run.
    sharp_word 32 [] (keyword_then signal_name signals (λ signal. keyword_then receiver_word receivers (λ one. end_at (made run signal one)))) any plain (λ x. refl)
    (sharp_keyword signal_name signals signal_is.Term (λ signal. keyword_then receiver_word receivers (λ one. end_at (made run signal one))) any signal_again (λ k x. refl) (λ signal.
    sharp_keyword receiver_word receivers receiver_is.Child (λ one. end_at (made run signal one)) any receiver_again (λ k x. refl) (λ one. weaker (sharp_end (made run signal one))))))

-- items
abbrev items_then : {A X : Type 0} → (List ℕ → Result (A × List ℕ) ℕ) → ℕ → (List A → List ℕ → Result X ℕ) → List ℕ → Result X ℕ
items_then item_at n next bs = items_at item_at n bs >>= (λ r. next r.0 r.1)

-- what reads an item and then the rest is sharp where what reads the rest is
abbrev SharpItem : {A : Type 0} → Type 0 → (List ℕ → Result (A × List ℕ) ℕ) → Type 0
SharpItem {A} X item_at = (next : A → List ℕ → Result X ℕ) → ((x : A) → Sharp (next x) plain) → Sharp (λ bs. item_at bs >>= (λ r. next r.0 r.1)) plain

with_item_then : {A X : Type 0} (x : A) (r : Result (List A × List ℕ) ℕ) (next : List A → List ℕ → Result X ℕ) → (with_item x r >>= (λ r. next r.0 r.1)) ≡ (r >>= (λ r. next (x ∷ r.0) r.1))
with_item_then x (Ok r) next = refl
with_item_then x (Err left) next = refl

item_first : {A X : Type 0} (item_at : List ℕ → Result (A × List ℕ) ℕ) (n : ℕ) (next : List A → List ℕ → Result X ℕ) (r : Result (A × List ℕ) ℕ)
    → ((r >>= (λ r. with_item r.0 (items_at item_at n r.1))) >>= (λ r. next r.0 r.1)) ≡ (r >>= (λ r. items_then item_at n (λ xs. next (r.0 ∷ xs)) r.1))
item_first item_at n next (Ok r) = with_item_then r.0 (items_at item_at n r.1) next
item_first item_at n next (Err left) = refl

sharp_items : {A X : Type 0} (item_at : List ℕ → Result (A × List ℕ) ℕ) → SharpItem X item_at → (n : ℕ) (next : List A → List ℕ → Result X ℕ) → ((xs : List A) → Sharp (next xs) plain) → Sharp (items_then item_at n next) plain
sharp_items item_at item zero next sharp = sharp_same (items_then item_at zero next) (next []) plain (λ bs. refl) (sharp [])
sharp_items item_at item (suc n) next sharp =
    sharp_same (items_then item_at (suc n) next) (λ bs. item_at bs >>= (λ r. items_then item_at n (λ xs. next (r.0 ∷ xs)) r.1)) plain (λ bs. item_first item_at n next (item_at bs))
    (item (λ x. items_then item_at n (λ xs. next (x ∷ xs))) (λ x. sharp_items item_at item n (λ xs. next (x ∷ xs)) (λ xs. sharp (x ∷ xs))))

sharp_counted : {A X : Type 0} (item_at : List ℕ → Result (A × List ℕ) ℕ) → SharpItem X item_at → (next : List A → List ℕ → Result X ℕ) → ((xs : List A) → Sharp (next xs) plain) → Sharp (counted_then item_at next) plain
sharp_counted item_at item next sharp =
    sharp_same (counted_then item_at next) (word_then (codes " ") (number_then 0 number_limit (λ n. items_then item_at n next))) plain
    (λ bs. bind_twice (word_at (codes " ") bs) (number_then 0 number_limit (items_at item_at)) (λ r. next r.0 r.1) ∙ inside (word_at (codes " ") bs))
    (spaced_number number_limit (λ n. items_then item_at n next) number_fits (λ n. sharp_items item_at item n next sharp))
  where
    inside : (r : Result (List ℕ) ℕ) → (r >>= (λ rest. number_then 0 number_limit (items_at item_at) rest >>= (λ r. next r.0 r.1))) ≡ (r >>= number_then 0 number_limit (λ n. items_then item_at n next))
    inside (Ok rest) = bind_twice (number_at 0 number_limit rest) (λ r. items_at item_at r.0 r.1) (λ r. next r.0 r.1)
    inside (Err left) = refl

abbrev value_at : List ℕ → List ℕ → Result ((List ℕ × List ℕ) × List ℕ) ℕ
value_at name = text_then (λ value rest. Ok ((name, value), rest))

sharp_pair : {X : Type 0} → SharpItem X pair_at
sharp_pair {X} next sharp =
    sharp_same (λ bs. pair_at bs >>= (λ r. next r.0 r.1)) (text_then (λ name. text_then (λ value. next (name, value)))) plain
    (λ bs. bind_twice (text_at bs) (λ r. value_at r.0 r.1) (λ r. next r.0 r.1) ∙ inside (text_at bs))
    (sharp_text (λ name. text_then (λ value. next (name, value))) (λ name. sharp_text (λ value. next (name, value)) (λ value. sharp (name, value))))
  where
    paired : List ℕ → List ℕ × List ℕ → Result ((List ℕ × List ℕ) × List ℕ) ℕ
    paired name q = Ok ((name, q.0), q.1)

    value_then : (name : List ℕ) (r : Result (List ℕ × List ℕ) ℕ) → ((r >>= paired name) >>= (λ r. next r.0 r.1)) ≡ (r >>= (λ q. next (name, q.0) q.1))
    value_then name (Ok q) = refl
    value_then name (Err left) = refl

    inside : (r : Result (List ℕ × List ℕ) ℕ) → (r >>= (λ r. value_at r.0 r.1 >>= (λ r. next r.0 r.1))) ≡ (r >>= (λ r. text_then (λ value. next (r.0, value)) r.1))
    inside (Ok r) = value_then r.0 (text_at r.1)
    inside (Err left) = refl

command_sharp : (run : ℕ) (group name directory umask user : List ℕ) → Sharp (command_at run group name directory umask user) plain
unfolding command_at
command_sharp run group name directory umask user =
    let made : List (List ℕ) → List (List ℕ × List ℕ) → Order = λ words environment. order_is.Spawn (record {
      run = record { 0 = run };
      group = group;
      name = name;
      directory = directory;
      umask = umask;
      user = user;
      words = words;
      environment = environment;
    }) in
    sharp_counted text_at sharp_text (λ words. counted_then pair_at (λ environment. end_at (made words environment))) (λ words.
    sharp_counted pair_at sharp_pair (λ environment. end_at (made words environment)) (λ environment. sharp_end (made words environment)))

place_sharp : (run : ℕ) (group name : List ℕ) → Sharp (place_at run group name) plain
unfolding place_at
place_sharp run group name =
    sharp_text (λ directory. text_then (λ umask. text_then (λ user. command_at run group name directory umask user))) (λ directory.
    sharp_text (λ umask. text_then (λ user. command_at run group name directory umask user)) (λ umask.
    sharp_text (λ user. command_at run group name directory umask user) (λ user. command_sharp run group name directory umask user)))

spawn_sharp : Sharp spawn_at any
unfolding spawn_at
spawn_sharp =
    sharp_number 0 run_limit (λ run. text_then (λ group. text_then (λ name. place_at run group name))) plain any run_fits (omega arith) plain_no_digit (λ n x h. refl) (λ run.
    sharp_text (λ group. text_then (λ name. place_at run group name)) (λ group.
    sharp_text (λ name. place_at run group name) (λ name. place_sharp run group name)))

order_of_sharp : (word : OrderWord) → Sharp (order_of word) any
unfolding order_of
order_of_sharp word_is.State = state_sharp
order_of_sharp word_is.Dropped = weaker (sharp_map text_numbers_at (λ r. order_is.Dropped r.0 r.1 r.2) plain text_numbers)
order_of_sharp word_is.Spawn = spawn_sharp
order_of_sharp word_is.Kill = kill_sharp
order_of_sharp word_is.Stdin = sharp_map number_bytes_at (λ r. order_is.Stdin (record { 0 = r.0 }) r.1) any number_bytes
order_of_sharp word_is.Append = weaker (sharp_map text_bytes_at (λ r. order_is.Append r.0 r.1) plain text_bytes)
order_of_sharp word_is.Shift = weaker (sharp_map two_texts_at (λ r. order_is.Shift r.0 r.1) plain two_texts)
order_of_sharp word_is.Fresh = weaker (sharp_map last_text_at (λ file. order_is.Fresh file) plain last_text)
order_of_sharp word_is.Read = weaker (sharp_map text_numbers_at (λ r. order_is.ReadFile r.0 r.1 r.2) plain text_numbers)
order_of_sharp word_is.Clear = weaker (sharp_map last_text_at (λ file. order_is.ClearFile file) plain last_text)
order_of_sharp word_is.Names = weaker (sharp_map last_text_at (λ pattern. order_is.Names pattern) plain last_text)
order_of_sharp word_is.Size = weaker (sharp_map last_text_at (λ file. order_is.Size file) plain last_text)
order_of_sharp word_is.Send = sharp_map number_bytes_at (λ r. order_is.Send (record { 0 = r.0 }) r.1) any number_bytes
order_of_sharp word_is.More = sharp_map last_number_at (λ link. order_is.More (record { 0 = link })) any last_number
order_of_sharp word_is.Close = sharp_map last_number_at (λ link. order_is.Close (record { 0 = link })) any last_number
order_of_sharp word_is.Halt = weaker (sharp_end order_is.Halt)

order_sharp : Sharp order_at any
unfolding order_at
order_sharp = sharp_keyword order_word order_words word_is.Halt order_of any word_again (λ k x. refl) order_of_sharp

pub order_exact : Exact order_at FitsOrder order_line
order_exact = record { takes = order_takes; fits = order_fits; again = order_again; sharp = order_sharp }
