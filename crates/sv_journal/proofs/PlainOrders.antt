-- No line of an order holds a line feed, and none has two meanings.
use Rattle.std.proofs.Common.{◌≡◌, ℕ, ◌^◌, ◌<◌, ◌≤◌, true, false, List, [], ◌∷◌, ◌++◌, length, refl, sym, ap, ◌∙◌, arith}
use Rattle.std.specs.Prelude.{codes}
use Rattle.std.specs.List.{flat_map}
use Rattle.std.specs.Fmt.{decimal}
use Rattle.sv_base.specs.Names.{signal_name, state_name}
use Rattle.sv_base.specs.declared.signal.Signal.{Signal}
use Rattle.sv_base.specs.declared.state.State.{State}
use Rattle.sv_base.specs.declared.state.State.TheVariants as state_is
use Rattle.sv_out.specs.declared.order.Order.{Order}
use Rattle.sv_out.specs.declared.order.Order.TheVariants as order_is
use Rattle.sv_out.specs.declared.order.SpawnOrder.{SpawnOrder}
use Rattle.sv_journal.specs.Limits.{number_limit, run_limit}
use Rattle.sv_journal.specs.JournalLine.{then_token, then_pair, counted_words, counted_pairs, receiver, order_line}
use Rattle.sv_journal.specs.Orders.{FitsSpawn, FitsOrder}
use Rattle.sv_journal.specs.OrderReading.{order_at}
use Rattle.sv_journal.proofs.NoLineFeed.{Plain, joined, number, signal, behind, words, counted_list}
use Rattle.sv_journal.proofs.OrderLaws.{order_again}
use Rattle.sv_journal.proofs.Results.{ok_value}

pub one_order : (one other : Order) → FitsOrder one → FitsOrder other → order_line one ≡ order_line other → one ≡ other
one_order one other f g e = ok_value one other (sym (order_again one f) ∙ ap order_at e ∙ order_again other g)

-- a plain prefix, and a text after a space
more : (front v : List ℕ) → Plain front → Plain (front ++ then_token v)
more front v plain = joined front (then_token v) plain (behind v)

-- a plain prefix, and a number after a space
counted : (front : List ℕ) (n : ℕ) → n ≤ number_limit → Plain front → Plain (front ++ codes " " ++ decimal n)
counted front n small plain = joined (front ++ codes " ") (decimal n) (joined front (codes " ") plain refl) (number n (omega arith))

states : (state : State) → Plain (state_name state)
states state_is.Stopped = refl
states state_is.Starting = refl
states state_is.Running = refl
states state_is.Backoff = refl
states state_is.Stopping = refl
states state_is.Exited = refl
states state_is.Fatal = refl
states state_is.Unknown = refl

-- a plain prefix, and a state after a space
stated : (front : List ℕ) (state : State) → Plain front → Plain (front ++ codes " " ++ state_name state)
stated front state plain = joined (front ++ codes " ") (state_name state) (joined front (codes " ") plain refl) (states state)

pairs : (xs : List (List ℕ × List ℕ)) → Plain (flat_map then_pair xs)
pairs [] = refl
pairs (x ∷ xs) = joined (then_pair x) (flat_map then_pair xs) (more (then_token x.0) x.1 (behind x.0)) (pairs xs)

spawn : (s : SpawnOrder) → FitsSpawn s → Plain (order_line (order_is.Spawn s))
spawn s fits =
    let small = fits.0 in
    let a = codes "spawn " ++ decimal s.run.0 in
    let b = a ++ then_token s.group in
    let c = b ++ then_token s.name in
    let d = c ++ then_token s.directory in
    let e = d ++ then_token s.umask in
    let f = e ++ then_token s.user in
    joined (f ++ counted_words s.words) (counted_pairs s.environment)
    (joined f (counted_words s.words)
    (more e s.user (more d s.umask (more c s.directory (more b s.name (more a s.group (joined (codes "spawn ") (decimal s.run.0) refl (number s.run.0 (omega arith))))))))
    (counted_list (length s.words) (flat_map then_token s.words) fits.7 (words s.words)))
    (counted_list (length s.environment) (flat_map then_pair s.environment) fits.9 (pairs s.environment))

-- a word, the number of a run or a link, and bytes
sent : (word : List ℕ) (n : ℕ) (bytes : List ℕ) → n < 2 ^ 64 → Plain word → Plain (word ++ decimal n ++ then_token bytes)
sent word n bytes small plain = more (word ++ decimal n) bytes (joined word (decimal n) plain (number n small))

kill : (run : ℕ) (told : Signal) (receiver : List ℕ) → run ≤ run_limit → Plain receiver → Plain (codes "kill " ++ decimal run ++ codes " " ++ signal_name told ++ receiver)
kill run told receiver small plain =
    joined (codes "kill " ++ decimal run ++ codes " " ++ signal_name told) receiver
    (joined (codes "kill " ++ decimal run ++ codes " ") (signal_name told)
    (joined (codes "kill " ++ decimal run) (codes " ") (joined (codes "kill ") (decimal run) refl (number run (omega arith))) refl)
    (signal told))
    plain

pub plain_order : (o : Order) → FitsOrder o → Plain (order_line o)
plain_order (order_is.State group name from to) fits =
    let named = codes "state" ++ then_token group ++ then_token name in
    stated (named ++ codes " " ++ state_name from) to (stated named from (more (codes "state" ++ then_token group) name (more (codes "state") group refl)))
plain_order (order_is.Dropped pool serial poolserial) fits =
    counted (codes "dropped" ++ then_token pool ++ codes " " ++ decimal serial) poolserial fits.2 (counted (codes "dropped" ++ then_token pool) serial fits.1 (more (codes "dropped") pool refl))
plain_order (order_is.Spawn s) fits = spawn s fits
plain_order (order_is.Kill run told true) fits = kill run.0 told (codes " group") fits refl
plain_order (order_is.Kill run told false) fits = kill run.0 told (codes " child") fits refl
plain_order (order_is.Stdin run bytes) fits = let small = fits.0 in sent (codes "stdin ") run.0 bytes (omega arith) refl
plain_order (order_is.Append file bytes) fits = more (codes "append" ++ then_token file) bytes (more (codes "append") file refl)
plain_order (order_is.Shift from to) fits = more (codes "shift" ++ then_token from) to (more (codes "shift") from refl)
plain_order (order_is.Fresh file) fits = more (codes "fresh") file refl
plain_order (order_is.ReadFile file start size) fits =
    counted (codes "read" ++ then_token file ++ codes " " ++ decimal start) size fits.2 (counted (codes "read" ++ then_token file) start fits.1 (more (codes "read") file refl))
plain_order (order_is.ClearFile file) fits = more (codes "clear") file refl
plain_order (order_is.Names pattern) fits = more (codes "names") pattern refl
plain_order (order_is.Size file) fits = more (codes "size") file refl
plain_order (order_is.Send link bytes) fits = let small = fits.0 in sent (codes "send ") link.0 bytes (omega arith) refl
plain_order (order_is.More link) fits = joined (codes "more ") (decimal link.0) refl (number link.0 (omega arith))
plain_order (order_is.Close link) fits = joined (codes "close ") (decimal link.0) refl (number link.0 (omega arith))
plain_order order_is.Halt fits = refl
