-- What a turn does with links, and which orders to links tell of it.
use Rattle.std.proofs.Common.{◌≡◌, ◌&&◌, ℕ, List, [], ◌∷◌, Bool, true, filter, append-nil, refl, sym, ap, ◌∙◌}
use Rattle.sv_base.specs.declared.config.Config.{Config}
use Rattle.sv_base.specs.declared.config.Host.{Host}
use Rattle.sv_children.specs.Orders.{kill_at}
use Rattle.sv_core_laws.proofs.LinkOrders.{each_link_order}
use Rattle.sv_core_laws.proofs.Reported.{all_given}
use Rattle.sv_core_laws.proofs.Walk.{kept_after}
use Rattle.sv_core.specs.Deeds.{after, deeds}
use Rattle.sv_core.specs.Events.{offers}
use Rattle.sv_core_laws.specs.LinkHistory.{LinkEntry, LinksHaveAHistory, entry_orders, is_to_link}
use Rattle.sv_core.specs.Listening.{gives_back, id_of}
use Rattle.sv_core.specs.Logging.{logs}
use Rattle.sv_core.specs.MachineState.{now, opening}
use Rattle.sv_core.specs.Moves.{says}
use Rattle.sv_core.specs.World.{World}
use Rattle.sv_links.specs.LinkBook.{LinkRecord}
use Rattle.sv_links.specs.LinkDeeds.{Deed}
use Rattle.sv_out.specs.declared.input.Input.{Input}
use Rattle.sv_out.specs.declared.order.Order.TheVariants as order
use Rattle.sv_out.specs.declared.order.Order.{Order}
use Rattle.sv_pool.specs.Listeners.{hand_orders}
use Rattle.sv_core.specs.Moves.{comes}
use Rattle.sv_core_laws.proofs.PlainSteps.{PlainSteps, plainly}
use Rattle.sv_core_laws.proofs.LinkTells.{Tells, follow, same, silent, still}
use Rattle.sv_core_laws.proofs.Steps.{does_with_link}
use Rattle.sv_core_laws.proofs.Silent.{added_log, moved, no_hand, no_kill, none_to_link, offered, returned}

-- ---- something is done with a link

links_only : (entry : LinkEntry) (book : List LinkRecord) → filter is_to_link (entry_orders entry book) ≡ entry_orders entry book
links_only entry book =
    each_link_order (λ (orders : List Order). filter is_to_link orders ≡ orders) refl
    (λ link bytes rest is. ap (λ (orders : List Order). order.Send link bytes ∷ orders) is)
    (λ link rest is. ap (λ (orders : List Order). order.More link ∷ orders) is)
    (λ link rest is. ap (λ (orders : List Order). order.Close link ∷ orders) is)
    entry.deed entry.bytes book

pub linked : (may : Deed → Bool) (entry : LinkEntry) (w : World) → may entry.deed ≡ true → Tells may w (does_with_link entry w)
linked may entry w ok = record {
  all = entry ∷ [];
  allowed = ap (λ (b : Bool). b && true) ok;
  links = refl;
  more = entry_orders entry w.links;
  added = refl;
  told = links_only entry w.links ∙ sym (append-nil (entry_orders entry w.links));
}

-- with what may be done
pub tells_steps : (may : Deed → Bool) → PlainSteps (Tells may)
tells_steps may = record {
  may = may;
  same = same may;
  follow = follow may;
  rewound = λ at w. record { all = []; allowed = refl; links = refl; more = []; added = sym (append-nil w.given); told = refl };
  came = λ how stimulus c w. silent may w (comes how stimulus c w) (moved how c (says stimulus c w) w);
  killed = λ c signal group w. record {
    all = [];
    allowed = refl;
    links = refl;
    more = kill_at w.children c signal group;
    added = refl;
    told = none_to_link (kill_at w.children c signal group) (no_kill w.children c signal group);
  };
  ordered = λ spawning w. record { all = []; allowed = refl; links = refl; more = order.Spawn spawning ∷ []; added = refl; told = refl };
  steered = λ course w same. record { all = []; allowed = refl; links = refl; more = []; added = sym (append-nil w.given); told = refl };
  ended = λ w. record { all = []; allowed = refl; links = refl; more = order.Halt ∷ []; added = refl; told = refl };
  linked = linked may;
  read = λ file start length w. record { all = []; allowed = refl; links = refl; more = order.ReadFile file start length ∷ []; added = refl; told = refl };
  called = λ calls w. record { all = []; allowed = refl; links = refl; more = []; added = sym (append-nil w.given); told = refl };
  told = λ run bytes w. record { all = []; allowed = refl; links = refl; more = order.Stdin run bytes ∷ []; added = refl; told = refl };
  wiped = λ file w. record { all = []; allowed = refl; links = refl; more = order.ClearFile file ∷ []; added = refl; told = refl };
  emptied = λ file w. record { all = []; allowed = refl; links = refl; more = []; added = sym (append-nil w.given); told = refl };
  offered = λ kind fact w. silent may w (offers kind fact w) (offered kind fact w);
  clocked = λ clock w. record { all = []; allowed = refl; links = refl; more = []; added = sym (append-nil w.given); told = refl };
  booked = λ runs w. record { all = []; allowed = refl; links = refl; more = []; added = sym (append-nil w.given); told = refl };
  done = λ c w. record { all = []; allowed = refl; links = refl; more = []; added = sym (append-nil w.given); told = refl };
  returned = λ c w. silent may w (gives_back c w) (returned c w);
  sent = λ run c w. record {
    all = [];
    allowed = refl;
    links = refl;
    more = hand_orders w.config.identifier run (id_of c) w.pools;
    added = refl;
    told = none_to_link (hand_orders w.config.identifier run (id_of c) w.pools) (no_hand w.config.identifier run (id_of c) w.pools.each);
  };
  logged = λ log piece w. silent may w (logs log piece w) (added_log log piece w);
  written = λ streams w. record { all = []; allowed = refl; links = refl; more = []; added = sym (append-nil w.given); told = refl };
}

-- ---- all inputs

pub history : (config : Config) (sizes : List (List ℕ × ℕ)) (host : Host) (inputs : List Input)
    → LinksHaveAHistory (after (opening config sizes host) inputs) (deeds (opening config sizes host) inputs)
unfolding tells_steps
history config sizes host inputs =
    let m = opening config sizes host in
    let all : Deed → Bool = λ deed. true in
    let tells : Tells all (now m) (now (after m inputs)) =
    kept_after (Tells all) (plainly (Tells all) (tells_steps all)) (λ deed. refl) (λ w. still all w _ refl refl) m inputs tt in
    record {
      all = tells.all;
      links = tells.links;
      orders = ap (filter is_to_link) (sym (all_given config sizes host inputs) ∙ tells.added) ∙ tells.told;
    }
