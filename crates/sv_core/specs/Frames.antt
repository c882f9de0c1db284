-- What a step of a turn may change; all else is as it was. And what it makes of the world that the
-- machine shows.
use Rattle.std.specs.Prelude.{◌≡◌, List}
use Rattle.sv_core.specs.StandsFor.{At, Shows}
use Rattle.sv_core.specs.Sweeps.{Turn}
use Rattle.sv_core.specs.World.{World}
use Rattle.sv_core.specs.declared.machine.Machine.{Machine}
use Rattle.sv_out.specs.declared.order.Order.{Order}

-- events are offered, logs written to, and orders given
abbrev pub GivesOrders : Machine → Machine → Type 0
GivesOrders old new =
    new ≡ record old
    { pools = new.pools; sizes = new.sizes; hand = record old.hand { given = new.hand.given } }

-- listeners are heard as well, or sent to
abbrev pub HearsListeners : Machine → Machine → Type 0
HearsListeners old new = new ≡ record old {
  pools = new.pools;
  sizes = new.sizes;
  runs = new.runs;
  streams = new.streams;
  hand = record old.hand { given = new.hand.given };
}

-- children move as well
abbrev pub MovesChildren : Machine → Machine → Type 0
MovesChildren old new = new ≡ record old {
  children = new.children;
  pools = new.pools;
  sizes = new.sizes;
  hand = record old.hand { given = new.hand.given };
}

-- and runs are numbered
abbrev pub StartsRuns : Machine → Machine → Type 0
StartsRuns old new = new ≡ record old {
  children = new.children;
  pools = new.pools;
  sizes = new.sizes;
  runs = new.runs;
  streams = new.streams;
  numbers = record old.numbers { next_run = new.numbers.next_run };
  hand = record old.hand { given = new.hand.given };
}

-- the daemon's course changes, and orders are given
abbrev pub ChangesCourse : Machine → Machine → Type 0
ChangesCourse old new = new ≡ record old {
  course = new.course;
  pools = new.pools;
  sizes = new.sizes;
  hand = record old.hand { given = new.hand.given };
}

-- the links are served
abbrev pub ServesLinks : Machine → Machine → Type 0
ServesLinks old new =
    new ≡ record old { links = new.links; hand = record old.hand { given = new.hand.given } }

-- calls of links are answered
abbrev pub AnswersCalls : Machine → Machine → Type 0
AnswersCalls old new = new ≡ record old {
  links = new.links;
  calls = new.calls;
  hand = record old.hand { given = new.hand.given };
}

-- the links are closed, and the daemon's course ends
abbrev pub EndsCourse : Machine → Machine → Type 0
EndsCourse old new = new ≡ record old {
  course = new.course;
  links = new.links;
  hand = record old.hand { given = new.hand.given };
}

-- children move, and the daemon's course changes
abbrev pub MovesPlan : Machine → Machine → Type 0
MovesPlan old new = new ≡ record old {
  children = new.children;
  course = new.course;
  pools = new.pools;
  sizes = new.sizes;
  hand = record old.hand { given = new.hand.given };
}

-- all that a step of a turn may change
abbrev pub MovesOn : Machine → Machine → Type 0
MovesOn old new = new ≡ record old {
  children = new.children;
  course = new.course;
  pools = new.pools;
  sizes = new.sizes;
  runs = new.runs;
  streams = new.streams;
  links = new.links;
  calls = new.calls;
  numbers = record old.numbers { next_run = new.numbers.next_run };
  hand = record old.hand { given = new.hand.given };
}

-- all that a turn may change: also its moment, the clock and where it was left
abbrev pub GoesOn : Machine → Machine → Type 0
GoesOn old new = new ≡ record old {
  children = new.children;
  course = new.course;
  clock = new.clock;
  pools = new.pools;
  sizes = new.sizes;
  runs = new.runs;
  streams = new.streams;
  links = new.links;
  calls = new.calls;
  numbers = record old.numbers { next_run = new.numbers.next_run };
  hand = new.hand;
}

-- a step makes of the world that was shown the world that is shown now
abbrev pub Makes : (World → World) → Machine → Machine → Type 0
Makes f old new = (older : List Order) (w : World) → Shows old older w → Shows new older (f w)

-- a step that may ask goes from a world that was shown to one that is shown now, with this left of
-- it
abbrev pub Stops : (World → (World → Turn) → Turn) → ((World → Turn) → World → Turn) → Machine
    → Machine → Type 0
Stops step left old new = (older : List Order) (w : World) (k : World → Turn)
    → Shows old older w → At new older (step w k) (left k)
