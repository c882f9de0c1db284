-- What the readers of order lines give, in the terms of the readers of their parts, and which
-- orders have a line.
use Rattle.std.specs.Prelude.{ℕ, zero, suc, List, [], ◌∷◌, ◌++◌, Bool, true, false, Result, Ok, Err}
use Rattle.std.specs.Prelude.{codes}
use Rattle.sv_base.specs.Names.{signal_name, state_name}
use Rattle.sv_base.specs.declared.state.State.{State}
use Rattle.sv_base.specs.declared.state.State.TheVariants as state_is
use Rattle.sv_out.specs.declared.order.Order.{Order}
use Rattle.sv_out.specs.declared.order.Order.TheVariants as order_is
use Rattle.sv_journal.specs.declared.order_words.OrderWord.{OrderWord}
use Rattle.sv_journal.specs.declared.order_words.OrderWord.TheVariants as word_is
use Rattle.sv_journal.specs.declared.order_words.Receiver.{Receiver}
use Rattle.sv_journal.specs.declared.order_words.Receiver.TheVariants as receiver_is
use Rattle.sv_letters.specs.declared.letters.Letters.TheVariants.{OfText, OfBytes}
use Rattle.sv_journal.specs.JournalLine.{receiver}
use Rattle.sv_journal.specs.Limits.{number_limit, run_limit}
use Rattle.sv_journal.specs.Reading.{◌>>=◌, word_at, token_at, end_at, last_token_at, with_item}
use Rattle.sv_journal.specs.ReadingLines.{signals, word_then, keyword_then, number_then}

-- the first word of an order line, with the space after it where a number follows
abbrev pub order_word : OrderWord → List ℕ
order_word word_is.State = codes "state"
order_word word_is.Dropped = codes "dropped"
order_word word_is.Spawn = codes "spawn "
order_word word_is.Kill = codes "kill "
order_word word_is.Stdin = codes "stdin "
order_word word_is.Append = codes "append"
order_word word_is.Shift = codes "shift"
order_word word_is.Fresh = codes "fresh"
order_word word_is.Read = codes "read"
order_word word_is.Clear = codes "clear"
order_word word_is.Names = codes "names"
order_word word_is.Size = codes "size"
order_word word_is.Send = codes "send "
order_word word_is.More = codes "more "
order_word word_is.Close = codes "close "
order_word word_is.Halt = codes "halt"

-- of which none begins another
abbrev pub order_words : List OrderWord
order_words =
    word_is.State
    ∷ word_is.Dropped
    ∷ word_is.Spawn
    ∷ word_is.Kill
    ∷ word_is.Stdin
    ∷ word_is.Append
    ∷ word_is.Shift
    ∷ word_is.Fresh
    ∷ word_is.Read
    ∷ word_is.Clear
    ∷ word_is.Names
    ∷ word_is.Size
    ∷ word_is.Send
    ∷ word_is.More
    ∷ word_is.Close
    ∷ word_is.Halt
    ∷ []

-- the states of a child
abbrev pub states : List State
states =
    state_is.Stopped
    ∷ state_is.Starting
    ∷ state_is.Running
    ∷ state_is.Backoff
    ∷ state_is.Stopping
    ∷ state_is.Exited
    ∷ state_is.Fatal
    ∷ state_is.Unknown
    ∷ []

-- whether a group is sent a signal
abbrev pub is_group : Receiver → Bool
is_group receiver_is.Child = false
is_group receiver_is.Group = true

-- the word of the one who is sent a signal
abbrev pub receiver_word : Receiver → List ℕ
receiver_word one = receiver (is_group one)

-- both of them
abbrev pub receivers : List Receiver
receivers = receiver_is.Child ∷ receiver_is.Group ∷ []

-- a text after a space, and what follows it
abbrev pub text_at : List ℕ → Result (List ℕ × List ℕ) ℕ
text_at bs = word_at (codes " ") bs >>= token_at OfText

-- a text after a space, and then what reads the rest
abbrev pub text_then : {X : Type 0} → (List ℕ → List ℕ → Result X ℕ) → List ℕ → Result X ℕ
text_then next bs = text_at bs >>= (λ r. next r.0 r.1)

-- these items, and then what was read after them
abbrev pub with_items : {A : Type 0} → List A → Result (List A × List ℕ) ℕ
    → Result (List A × List ℕ) ℕ
with_items items (Ok r) = Ok (items ++ r.0, r.1)
with_items items (Err left) = Err left

-- a name and a value, each after a space
abbrev pub pair_at : List ℕ → Result ((List ℕ × List ℕ) × List ℕ) ℕ
pair_at = text_then (λ name. text_then (λ value rest. Ok ((name, value), rest)))

-- so many items, read one after the other
abbrev pub items_at : {A : Type 0} → (List ℕ → Result (A × List ℕ) ℕ) → ℕ → List ℕ
    → Result (List A × List ℕ) ℕ
items_at item_at zero bs = Ok ([], bs)
items_at item_at (suc n) bs = item_at bs >>= (λ r. with_item r.0 (items_at item_at n r.1))

-- how many items there are, after a space, and each of them
abbrev pub counted_at : {A : Type 0} → (List ℕ → Result (A × List ℕ) ℕ) → List ℕ
    → Result (List A × List ℕ) ℕ
counted_at item_at = word_then (codes " ") (number_then 0 number_limit (items_at item_at))

-- how many items there are, each of them, and then what reads the rest
abbrev pub counted_then : {A X : Type 0} → (List ℕ → Result (A × List ℕ) ℕ)
    → (List A → List ℕ → Result X ℕ) → List ℕ → Result X ℕ
counted_then item_at next bs = counted_at item_at bs >>= (λ r. next r.0 r.1)

-- a text and two numbers, which end the line
unfoldable pub text_numbers_at : List ℕ → Result (List ℕ × ℕ × ℕ) ℕ
text_numbers_at =
    text_then (λ text.
    word_then (codes " ") (number_then 0 number_limit (λ first.
    word_then (codes " ") (number_then 0 number_limit (λ second. end_at (text, first, second))))))

-- a run or a link, and bytes after a space, which end the line
unfoldable pub number_bytes_at : List ℕ → Result (ℕ × List ℕ) ℕ
number_bytes_at =
    number_then 0 run_limit
    (λ number. word_then (codes " ")
    (λ bs. last_token_at OfBytes bs >>= (λ bytes. Ok (number, bytes))))

-- a text after a space, which ends the line
unfoldable pub last_text_at : List ℕ → Result (List ℕ) ℕ
last_text_at = word_then (codes " ") (last_token_at OfText)

-- a text, and bytes after a space, which end the line
unfoldable pub text_bytes_at : List ℕ → Result (List ℕ × List ℕ) ℕ
text_bytes_at =
    text_then
    (λ text. word_then (codes " ")
    (λ bs. last_token_at OfBytes bs >>= (λ bytes. Ok (text, bytes))))

-- two texts, which end the line
unfoldable pub two_texts_at : List ℕ → Result (List ℕ × List ℕ) ℕ
two_texts_at = text_then (λ one bs. last_text_at bs >>= (λ other. Ok (one, other)))

-- a run or a link, which ends the line
unfoldable pub last_number_at : List ℕ → Result ℕ ℕ
last_number_at = number_then 0 run_limit end_at

-- two states, which end the line
unfoldable pub edge_at : List ℕ → List ℕ → List ℕ → Result Order ℕ
edge_at group name =
    word_then (codes " ") (keyword_then state_name states (λ from.
    word_then (codes " ")
    (keyword_then state_name states (λ to. end_at (order_is.State group name from to)))))

-- the report of an edge
unfoldable pub state_at : List ℕ → Result Order ℕ
state_at = text_then (λ group. text_then (edge_at group))

-- a signal, and who is sent it
unfoldable pub kill_at : List ℕ → Result Order ℕ
kill_at =
    number_then 0 run_limit (λ run.
    word_then (codes " ") (keyword_then signal_name signals (λ signal.
    keyword_then receiver_word receivers
    (λ receiver. end_at (order_is.Kill (record { 0 = run }) signal (is_group receiver))))))

-- the words and the environment of a spawn, which end the line
unfoldable pub command_at : ℕ → List ℕ → List ℕ → List ℕ → List ℕ → List ℕ → List ℕ → Result Order ℕ
command_at run group name directory umask user =
    counted_then text_at (λ words.
    counted_then pair_at (λ environment.
    end_at (order_is.Spawn (record {
      run = record { 0 = run };
      group = group;
      name = name;
      directory = directory;
      umask = umask;
      user = user;
      words = words;
      environment = environment;
    }))))

-- a spawn from its directory on
unfoldable pub place_at : ℕ → List ℕ → List ℕ → List ℕ → Result Order ℕ
place_at run group name =
    text_then
    (λ directory. text_then
    (λ umask. text_then (λ user. command_at run group name directory umask user)))

-- a spawn
unfoldable pub spawn_at : List ℕ → Result Order ℕ
spawn_at =
    number_then 0 run_limit
    (λ run. text_then (λ group. text_then (λ name. place_at run group name)))

-- what follows the word of an order line
unfoldable pub order_of : OrderWord → List ℕ → Result Order ℕ
order_of word_is.State bs = state_at bs
order_of word_is.Dropped bs = text_numbers_at bs >>= (λ r. Ok (order_is.Dropped r.0 r.1 r.2))
order_of word_is.Spawn bs = spawn_at bs
order_of word_is.Kill bs = kill_at bs
order_of word_is.Stdin bs =
    number_bytes_at bs >>= (λ r. Ok (order_is.Stdin (record { 0 = r.0 }) r.1))
order_of word_is.Append bs = text_bytes_at bs >>= (λ r. Ok (order_is.Append r.0 r.1))
order_of word_is.Shift bs = two_texts_at bs >>= (λ r. Ok (order_is.Shift r.0 r.1))
order_of word_is.Fresh bs = last_text_at bs >>= (λ file. Ok (order_is.Fresh file))
order_of word_is.Read bs = text_numbers_at bs >>= (λ r. Ok (order_is.ReadFile r.0 r.1 r.2))
order_of word_is.Clear bs = last_text_at bs >>= (λ file. Ok (order_is.ClearFile file))
order_of word_is.Names bs = last_text_at bs >>= (λ pattern. Ok (order_is.Names pattern))
order_of word_is.Size bs = last_text_at bs >>= (λ file. Ok (order_is.Size file))
order_of word_is.Send bs = number_bytes_at bs >>= (λ r. Ok (order_is.Send (record { 0 = r.0 }) r.1))
order_of word_is.More bs = last_number_at bs >>= (λ link. Ok (order_is.More (record { 0 = link })))
order_of word_is.Close bs =
    last_number_at bs >>= (λ link. Ok (order_is.Close (record { 0 = link })))
order_of word_is.Halt bs = end_at order_is.Halt bs

-- an order line: its word and the rest
unfoldable pub order_at : List ℕ → Result Order ℕ
order_at = keyword_then order_word order_words order_of
