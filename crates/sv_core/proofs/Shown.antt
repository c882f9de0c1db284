-- The worlds that a machine shows, as its fields change.
use Rattle.std.proofs.Common.{◌≡◌, ◌≤◌, ◌<◌, ◌+◌, ℕ, zero, suc, true, false, List, [], ◌∷◌, ◌++◌, Option, Some, None, length, drop, take, get_or, ◌-◌, ◌∙◌, arith, append_assoc, refl, subst, sym, ap}
use Rattle.std.proofs.Math.Seq.{take-length}
use Rattle.std.specs.Prelude.{slice_get}
use Rattle.sv_base.specs.declared.ids.Run.{Run}
use Rattle.sv_base.specs.declared.kind.Kind.{Kind}
use Rattle.sv_base.specs.declared.state.How.{How}
use Rattle.sv_base.specs.declared.state.Stream.{Stream}
use Rattle.sv_calls.specs.CallBook.{CallBook}
use Rattle.sv_calls.specs.StandsFor as kept_calls
use Rattle.sv_calls.specs.declared.calls.Calls.{Calls}
use Rattle.sv_child.specs.ChildTable.{Stimulus}
use Rattle.sv_child.specs.declared.child.Child.{Child}
use Rattle.sv_child.specs.declared.step.Edge.{Edge}
use Rattle.sv_child.specs.declared.step.Step.{Step}
use Rattle.sv_children.specs.Crew.{Crew}
use Rattle.sv_children.specs.News.{step_of}
use Rattle.sv_children.specs.Orders.{reports_at}
use Rattle.sv_core.specs.Events.{offers_if}
use Rattle.sv_core.specs.Frames.{Makes, Stops}
use Rattle.sv_core.specs.HandingOut.{hands_from, hands_to, is_up, ready_of, ready_one, sends, sends_to}
use Rattle.sv_core.specs.Listening.{gives_back, hears, id_of, loses_of, tells, tells_all, tells_by}
use Rattle.sv_core.specs.Logging.{notes_if}
use Rattle.sv_core.specs.Output.{takes_all, takes_part, takes_parts}
use Rattle.sv_core.specs.Moves.{changed, comes, goes_edge, goes_edge_if, goes_edges, reported, says}
use Rattle.sv_core.specs.StandsFor.{At, Shows, shown, stopped}
use Rattle.sv_core.specs.Sweeps.{Turn}
use Rattle.sv_core.specs.World.{World, gives}
use Rattle.sv_core.specs.declared.machine.Machine.{Machine}
use Rattle.sv_events.specs.declared.fact.Fact.{Fact}
use Rattle.sv_children.specs.EdgeFacts.{fact_at, kind_of, pid_at}
use Rattle.sv_children.specs.Lines.EdgeLines.{line_at}
use Rattle.sv_children.specs.declared.lines.line.Line.{Line}
use Rattle.sv_links.specs.LinkBook.{LinkRecord}
use Rattle.sv_links.specs.StandsFor as kept_links
use Rattle.sv_links.specs.declared.links.Links.{Links}
use Rattle.sv_out.specs.declared.order.Order.{Order}
use Rattle.sv_pipes.specs.declared.parts.Part.{Part}
use Rattle.sv_pipes.specs.declared.tokens.Token.{Token}
use Rattle.sv_pool.specs.EventPools.{EventPools}
use Rattle.sv_pool.specs.StandsFor as kept_pools
use Rattle.sv_pool.specs.Listeners.{holds}
use Rattle.sv_pool.specs.declared.pools.Pools.{Pools}
use Rattle.sv_runs.specs.RunBook.{RunBook, heard, lost, new_tokens, teller}
use Rattle.sv_runs.specs.StandsFor as kept_runs
use Rattle.sv_runs.specs.declared.runs.Runs.{Runs}
use Rattle.sv_runs.specs.Streams.StandsFor as kept_streams
use Rattle.sv_runs.specs.Streams.StreamBook.{StreamRecord}
use Rattle.sv_runs.specs.declared.streams.owner.Owner.{Owner}
use Rattle.sv_runs.specs.declared.streams.streams.Streams.{Streams}

-- what is made of each world that is written out from the fields is made of each that is shown
pub made : (f : World → World) (x y : Machine)
    → ((older : List Order) (pools : EventPools) (runs : RunBook) (streams : List StreamRecord) (links : List LinkRecord) (calls : CallBook)
    → kept_pools.StandsFor x.pools pools → kept_runs.StandsFor x.runs runs → kept_streams.StandsFor x.streams streams
    → kept_links.StandsFor x.links links → kept_calls.StandsFor x.calls calls → Shows y older (f (shown x older pools runs streams links calls)))
    → Makes f x y
made f x y goes older w s = subst (λ (u : World). Shows y older (f u)) (sym s.is) (goes older s.pools s.runs s.streams s.links s.calls s.pools_kept s.runs_kept s.streams_kept s.links_kept s.calls_kept)

-- the same of a step that may ask
pub stops : (step : World → (World → Turn) → Turn) (left : (World → Turn) → World → Turn) (x y : Machine)
    → ((older : List Order) (pools : EventPools) (runs : RunBook) (streams : List StreamRecord) (links : List LinkRecord) (calls : CallBook) (k : World → Turn)
    → kept_pools.StandsFor x.pools pools → kept_runs.StandsFor x.runs runs → kept_streams.StandsFor x.streams streams
    → kept_links.StandsFor x.links links → kept_calls.StandsFor x.calls calls → At y older (step (shown x older pools runs streams links calls) k) (left k))
    → Stops step left x y
stops step left x y goes older w k s =
    subst (λ (u : World). At y older (step u k) (left k)) (sym s.is) (goes older s.pools s.runs s.streams s.links s.calls k s.pools_kept s.runs_kept s.streams_kept s.links_kept s.calls_kept)

-- a turn that is the same goes on in the same way
pub at_same : (y : Machine) (older : List Order) (t u : Turn) (f : World → Turn) → t ≡ u → At y older u f → At y older t f
at_same y older t u f same at = record { world = at.world; shows = at.shows; is = rw same at.is }

-- what is added to the orders of the input in hand is added to all orders
pub all_added : (older given later more : List Order) → later ≡ given ++ more → older ++ later ≡ (older ++ given) ++ more
all_added older given later more is = rw is (sym (append_assoc older given more))

pub given_there : (w : World) (older given later more : List Order) → w.given ≡ older ++ given → later ≡ given ++ more
    → record w { given = w.given ++ more } ≡ record w { given = older ++ later }
given_there w older given later more is added =
    ap (λ (all : List Order). record w { given = all }) (rw (is, added) (append_assoc older given more))

pub edge_gone : (z : Machine) (older : List Order) (how : Option How) (c pid : ℕ) (edge : Edge) (w : World) (kind : Kind)
    (fact : Option Fact) (line : Option Line) → kind ≡ kind_of edge.to → fact ≡ fact_at w.children c pid edge
    → line ≡ line_at w.children c how edge
    → Shows z older (offers_if kind fact (notes_if line (record w { given = w.given ++ reports_at w.children c (Some edge ∷ []) })))
    → Shows z older (goes_edge how c pid edge w)
edge_gone z older how c pid edge w kind fact line is_kind is_fact is_line shows =
    let told = record w { given = w.given ++ reports_at w.children c (Some edge ∷ []) } in
    let lined = notes_if (line_at w.children c how edge) told in
    subst (λ (k : Kind). Shows z older (offers_if k (fact_at w.children c pid edge) lined)) is_kind
    (subst (λ (f : Option Fact). Shows z older (offers_if kind f lined)) is_fact
    (subst (λ (l : Option Line). Shows z older (offers_if kind fact (notes_if l told))) is_line shows))

-- a stimulus came to the child of a place, and what it took is reported
pub came_there : (z : Machine) (older : List Order) (how : Option How) (c : ℕ) (stimulus : Child → Option Stimulus) (w : World) (pid : ℕ) (step : Option Step)
    → pid ≡ pid_at w.children c → step ≡ step_of (says stimulus c w)
    → Shows z older (reported how c pid step (changed c (says stimulus c w) w))
    → Shows z older (comes how stimulus c w)
came_there z older how c stimulus w pid step is_pid is_step shows =
    let after = changed c (says stimulus c w) w in
    subst (λ (p : ℕ). Shows z older (reported how c p (step_of (says stimulus c w)) after)) is_pid
    (subst (λ (s : Option Step). Shows z older (reported how c pid s after)) is_step shows)

-- the children are others
pub children_there : (w : World) (crew crew' : Crew) → crew ≡ crew' → record w { children = crew } ≡ record w { children = crew' }
children_there w crew crew' same = ap (λ (c : Crew). record w { children = c }) same

-- one more edge
pub edges_next : (how : Option How) (c pid : ℕ) (edges : List (Option Edge)) (i : ℕ) (d : Option Edge) (w : World)
    → i < length edges
    → goes_edges how c pid (drop i edges) w ≡ goes_edges how c pid (drop (i + 1) edges) (goes_edge_if how c pid (get_or edges i d) w)
edges_next how c pid [] i d w within = absurd (omega (arith, within))
edges_next how c pid (edge ∷ edges) zero d w within = refl
edges_next how c pid (edge ∷ edges) (suc i) d w within =
    let size : suc (i + 1) ≡ suc i + 1 = omega arith in
    edges_next how c pid edges i d w (omega (arith, within))
    ∙ ap (λ (n : ℕ). goes_edges how c pid (drop n (edge ∷ edges)) (goes_edge_if how c pid (get_or edges i d) w)) size

-- a step that didn't ask goes on in the world that is shown
pub done_at : (y : Machine) (older : List Order) (w : World) (k : World → Turn) → Shows y older w → At y older (k w) (stopped None k)
unfolding stopped
done_at y older w k s = record { world = w; shows = s; is = refl }

-- the runs are others
pub runs_there : (y : Machine) (older : List Order) (w : World) (change : RunBook → RunBook) → Shows y older w
    → (runs : Runs) → ((book : RunBook) → kept_runs.StandsFor y.runs book → kept_runs.StandsFor runs (change book))
    → Shows (record y { runs = runs }) older (record w { runs = change w.runs })
runs_there y older w change s runs step = record {
  pools = s.pools;
  runs = change s.runs;
  is = ap (λ (v : World). record v { runs = change v.runs }) s.is;
  pools_kept = s.pools_kept;
  runs_kept = step s.runs s.runs_kept;
  streams = s.streams;
  streams_kept = s.streams_kept;
  links = s.links;
  links_kept = s.links_kept;
  calls = s.calls;
  calls_kept = s.calls_kept;
}

-- one more token
pub tokens_told : (z : Machine) (older : List Order) (c : ℕ) (tokens : List Token) (w : World) (own : Token)
    → 1 ≤ length tokens → own ≡ get_or tokens 0 own
    → Shows z older (tells_all c (take (length tokens - 1) (drop 1 tokens)) (tells c own w))
    → Shows z older (tells_all c tokens w)
tokens_told z older c [] w own some is shows = absurd (omega (arith, some))
tokens_told z older c (token ∷ tokens) w own some is shows =
    let size : length (token ∷ tokens) - 1 ≡ length tokens = omega arith in
    let rest : take (length (token ∷ tokens) - 1) tokens ≡ tokens = ap (λ (n : ℕ). take n tokens) size ∙ take-length tokens in
    subst (λ (t : Token). Shows z older (tells_all c tokens (tells c t w))) is
    (subst (λ (ts : List Token). Shows z older (tells_all c ts (tells c own w))) rest shows)

-- what a run says is told
pub heard_there : (z : Machine) (older : List Order) (run : Run) (bytes bytes' : List ℕ) (w : World) (book : RunBook)
    (found : Option ℕ) (tokens : List Token)
    → w.runs ≡ book → bytes' ≡ bytes → found ≡ teller run book → tokens ≡ new_tokens run bytes' book
    → Shows z older (tells_by found tokens (record w { runs = heard run bytes' w.runs }))
    → Shows z older (hears run bytes w)
heard_there z older run bytes bytes' w book found tokens is_book is_bytes is_found is_tokens shows =
    let after = record w { runs = heard run bytes' w.runs } in
    subst (λ (said : List ℕ). Shows z older (hears run said w)) is_bytes
    (subst (λ (t : Option ℕ). Shows z older (tells_by t (new_tokens run bytes' w.runs) after)) (is_found ∙ ap (teller run) (sym is_book))
    (subst (λ (ts : List Token). Shows z older (tells_by found ts after)) (is_tokens ∙ ap (new_tokens run bytes') (sym is_book)) shows))

-- the child of a place
pub at_there : (xs : List Child) (i : ℕ) (x : Child) → i < length xs → x ≡ get_or xs i x → slice_get xs i ≡ Some x
at_there [] i x within is = absurd (omega (arith, within))
at_there (y ∷ xs) zero x within is = ap Some (sym is)
at_there (y ∷ xs) (suc i) x within is = at_there xs i x (omega (arith, within)) is

-- whether the listener of a place is ready
pub up_there : (x : Machine) (older : List Order) (w : World) (c : ℕ) (child : Child) (found : Option Run) → Shows x older w
    → slice_get x.children.all c ≡ Some child → is_up child.state ≡ true → found ≡ ready_one child.run w.runs
    → found ≡ ready_of (slice_get w.children.all c) w.runs
up_there x older w c child found s at up is =
    let here : ready_of (slice_get w.children.all c) w.runs ≡ ready_of (Some child) w.runs =
    ap (λ (o : Option Child). ready_of o w.runs) (ap (λ (v : World). slice_get v.children.all c) s.is ∙ at) in
    is ∙ sym (here ∙ rw up refl)

pub down_there : (x : Machine) (older : List Order) (w : World) (c : ℕ) (child : Child) → Shows x older w
    → slice_get x.children.all c ≡ Some child → is_up child.state ≡ false
    → None ≡ ready_of (slice_get w.children.all c) w.runs
down_there x older w c child s at down =
    let here : ready_of (slice_get w.children.all c) w.runs ≡ ready_of (Some child) w.runs =
    ap (λ (o : Option Child). ready_of o w.runs) (ap (λ (v : World). slice_get v.children.all c) s.is ∙ at) in
    sym (here ∙ rw down refl)

-- a listener that a write failed to, and that holds an event
pub lost_there : (z : Machine) (older : List Order) (c : ℕ) (run : Run) (child : Option ℕ) (w : World)
    → child ≡ Some c → holds (id_of c) w.pools ≡ true
    → Shows z older (gives_back c (record w { runs = lost run w.runs }))
    → Shows z older (loses_of child run w)
lost_there z older c run child w is test shows =
    subst (λ (o : Option ℕ). Shows z older (loses_of o run w)) (sym is) (rw test shows)

-- an event is sent
pub sent_there : (z : Machine) (older : List Order) (found : Option Run) (run : Run) (c : ℕ) (w : World)
    → found ≡ Some run → Shows z older (sends run c w) → Shows z older (sends_to found c w)
sent_there z older found run c w is shows = subst (λ (o : Option Run). Shows z older (sends_to o c w)) (sym is) shows

-- the pools, the runs and the orders are others
pub sends_there : (w : World) (older given later more : List Order) (pools : EventPools) (book : RunBook)
    → w.given ≡ older ++ given → later ≡ given ++ more
    → record w { pools = pools; runs = book; given = w.given ++ more } ≡ record w { pools = pools; runs = book; given = older ++ later }
sends_there w older given later more pools book is added =
    ap (λ (all : List Order). record w { pools = pools; runs = book; given = all }) (rw (is, added) (append_assoc older given more))

pub hands_next : (n c : ℕ) (w : World) → c < n → hands_from (n - c) c w ≡ hands_from (n - (c + 1)) (c + 1) (hands_to c w)
hands_next n c w below =
    let size : n - c ≡ suc (n - (c + 1)) = omega arith in ap (λ left. hands_from left c w) size

pub hands_done : (n c : ℕ) (w : World) → n ≤ c → hands_from (n - c) c w ≡ w
hands_done n c w past = let size : n - c ≡ 0 = omega arith in ap (λ left. hands_from left c w) size

-- what the runs wrote is something else
pub streams_there : (y : Machine) (older : List Order) (w : World) (change : List StreamRecord → List StreamRecord)
    → Shows y older w → (streams : Streams)
    → ((book : List StreamRecord) → kept_streams.StandsFor y.streams book → kept_streams.StandsFor streams (change book))
    → Shows (record y { streams = streams }) older (record w { streams = change w.streams })
streams_there y older w change s streams step = record {
  pools = s.pools;
  runs = s.runs;
  is = ap (λ (v : World). record v { streams = change v.streams }) s.is;
  pools_kept = s.pools_kept;
  runs_kept = s.runs_kept;
  streams = change s.streams;
  streams_kept = step s.streams s.streams_kept;
  links = s.links;
  links_kept = s.links_kept;
  calls = s.calls;
  calls_kept = s.calls_kept;
}

-- one more part
pub parts_taken : (z : Machine) (older : List Order) (owner : Owner) (channel : Stream) (parts : List Part) (w : World) (own : Part)
    → 1 ≤ length parts → own ≡ get_or parts 0 own
    → Shows z older (takes_parts owner channel (take (length parts - 1) (drop 1 parts)) (takes_part owner channel own w))
    → Shows z older (takes_parts owner channel parts w)
parts_taken z older owner channel [] w own some is shows = absurd (omega (arith, some))
parts_taken z older owner channel (part ∷ parts) w own some is shows =
    let size : length (part ∷ parts) - 1 ≡ length parts = omega arith in
    let rest : take (length (part ∷ parts) - 1) parts ≡ parts = ap (λ (n : ℕ). take n parts) size ∙ take-length parts in
    subst (λ (p : Part). Shows z older (takes_parts owner channel parts (takes_part owner channel p w))) is
    (subst (λ (ps : List Part). Shows z older (takes_parts owner channel ps (takes_part owner channel own w))) rest shows)

-- the same parts of the same run
pub all_taken : (z : Machine) (older : List Order) (owner owner' : Option Owner) (channel channel' : Option Stream)
    (parts parts' : List Part) (w : World) → owner ≡ owner' → channel ≡ channel' → parts ≡ parts'
    → Shows z older (takes_all owner channel parts w) → Shows z older (takes_all owner' channel' parts' w)
all_taken z older owner owner' channel channel' parts parts' w is_owner is_channel is_parts shows =
    subst (λ (o : Option Owner). Shows z older (takes_all o channel' parts' w)) is_owner
    (subst (λ (ch : Option Stream). Shows z older (takes_all owner ch parts' w)) is_channel
    (subst (λ (ps : List Part). Shows z older (takes_all owner channel ps w)) is_parts shows))

-- the links are others
pub links_there : (y : Machine) (older : List Order) (w : World) (change : List LinkRecord → List LinkRecord)
    → Shows y older w → (links : Links)
    → ((book : List LinkRecord) → kept_links.StandsFor y.links book → kept_links.StandsFor links (change book))
    → Shows (record y { links = links }) older (record w { links = change w.links })
links_there y older w change s links step = record {
  pools = s.pools;
  runs = s.runs;
  is = ap (λ (v : World). record v { links = change v.links }) s.is;
  pools_kept = s.pools_kept;
  runs_kept = s.runs_kept;
  streams = s.streams;
  streams_kept = s.streams_kept;
  links = change s.links;
  links_kept = step s.links s.links_kept;
  calls = s.calls;
  calls_kept = s.calls_kept;
}

-- the calls in hand are others
pub calls_there : (y : Machine) (older : List Order) (w : World) (change : CallBook → CallBook)
    → Shows y older w → (calls : Calls)
    → ((book : CallBook) → kept_calls.StandsFor y.calls book → kept_calls.StandsFor calls (change book))
    → Shows (record y { calls = calls }) older (record w { calls = change w.calls })
calls_there y older w change s calls step = record {
  pools = s.pools;
  runs = s.runs;
  is = ap (λ (v : World). record v { calls = change v.calls }) s.is;
  pools_kept = s.pools_kept;
  runs_kept = s.runs_kept;
  streams = s.streams;
  streams_kept = s.streams_kept;
  links = s.links;
  links_kept = s.links_kept;
  calls = change s.calls;
  calls_kept = step s.calls s.calls_kept;
}

-- one more order is given
pub order_there : (y z : Machine) (older : List Order) (w : World) (more : Order) → Shows y older w
    → z ≡ record y { hand = record y.hand { given = z.hand.given } } → z.hand.given.items ≡ y.hand.given.items ++ more ∷ []
    → Shows z older (gives more w)
order_there y z older w more s same added = record {
  pools = s.pools;
  runs = s.runs;
  is = ap (gives more) s.is
      ∙ ap (λ (all : List Order). record (shown y older s.pools s.runs s.streams s.links s.calls) { given = all })
      (append_assoc older y.hand.given.items (more ∷ []) ∙ ap (λ (orders : List Order). older ++ orders) (sym added))
      ∙ ap (λ (m : Machine). shown m older s.pools s.runs s.streams s.links s.calls) (sym same);
  pools_kept = subst (λ (pools : Pools). kept_pools.StandsFor pools s.pools) (sym (ap (λ (m : Machine). m.pools) same)) s.pools_kept;
  runs_kept = subst (λ (runs : Runs). kept_runs.StandsFor runs s.runs) (sym (ap (λ (m : Machine). m.runs) same)) s.runs_kept;
  streams = s.streams;
  streams_kept = subst (λ (streams : Streams). kept_streams.StandsFor streams s.streams) (sym (ap (λ (m : Machine). m.streams) same)) s.streams_kept;
  links = s.links;
  links_kept = subst (λ (links : Links). kept_links.StandsFor links s.links) (sym (ap (λ (m : Machine). m.links) same)) s.links_kept;
  calls = s.calls;
  calls_kept = subst (λ (calls : Calls). kept_calls.StandsFor calls s.calls) (sym (ap (λ (m : Machine). m.calls) same)) s.calls_kept;
}
