-- How one input is taken.
use Rattle.std.proofs.Common.{◌≡◌, ℕ, ◌+◌, Bool, true, false, cond, List, [], ◌∷◌, ◌++◌, length, take, drop, Option, Ok, Err, inl, inr, refl, sym, ap, ◌∙◌, subst, arith, append-nil}
use Rattle.std.proofs.lemmas.List.{take-append-drop}
use Rattle.std.specs.Option.{ForSome}
use Rattle.sv_out.specs.Written.{AppendsFront}
use Rattle.std.specs.Prelude.{option_map}
use Rattle.std.specs.Io.KnownBytes.{Appends}
use Rattle.std.proofs.KnownBytes.{Appends-nil}
use Rattle.sv_out.specs.declared.input.Input.{Input}
use Rattle.sv_out.specs.declared.order.Order.{Order}
use Rattle.sv_outside.specs.Worlds.{Takes}
use Rattle.sv_outside.specs.declared.world.NextFault.{NextFault}
use Rattle.sv_outside.specs.declared.world.NextFault.TheVariants as fault_is
use Rattle.sv_supervise.specs.MainLoop.Course.{AreTaken, Begins, GoesOn, IsRefused, Partly, Stands, Stops, Whole}
use Rattle.sv_supervise.specs.MainLoop.Rules.{Rules, after, deeds}
use Rattle.sv_supervise.specs.MainLoop.Journal.{Texts, entry, history, orders_text}
use Rattle.sv_supervise.specs.MainLoop.Telling.{Told, Went, IsUsedUp, grown, led, told}
use Rattle.sv_supervise.specs.MainLoop.Working.{HandsFront, Worked, WorkedPartly, WorksOff}
use Rattle.sv_supervise.specs.declared.main_loop.serving.End.{End}
use Rattle.sv_supervise.specs.declared.main_loop.serving.End.TheVariants.{Halted, NoMemory, Broken, Ended, Full, Unwritten, Misplaced}
use Rattle.sv_supervise.proofs.MainLoopLemmas.Lists.{grown_none, led_none, went_is}

-- an input was given, and then worked off
pub took : (old mid new : Told) (input : Input) (handed : List Order) (text : List ℕ) → mid.given ≡ grown (input ∷ []) old.given → old.left ≡ led (input ∷ []) mid.left
    → mid.handed ≡ old.handed → mid.journal ≡ old.journal → Worked mid new handed text → Went old new (input ∷ []) handed text
took old mid new input handed text given left same quiet worked = record {
  given = worked.given ∙ given;
  left = left ∙ ap (led (input ∷ [])) (sym worked.left);
  handed = worked.handed ∙ ap (grown handed) same;
  written = subst (λ j. Appends j new.journal text) quiet worked.written;
}

deeds_one : {M : Type 0} (R : Rules M) → (m : M) (i : Input) → R.accepts m i ≡ true → R.orders m i ≡ deeds R m (i ∷ [])
deeds_one R m i e = sym (append-nil (R.orders m i)) ∙ ap (λ (t : Bool). cond t (R.orders m i ++ []) []) (sym e)

history_one : {M : Type 0} (R : Rules M) (k : Texts) → (m : M) (i : Input) → R.accepts m i ≡ true → entry k i (R.orders m i) ≡ history R k m (i ∷ [])
history_one R k m i e = sym (append-nil (entry k i (R.orders m i))) ∙ ap (λ (t : Bool). cond t (entry k i (R.orders m i) ++ []) []) (sym e)

after_one : {M : Type 0} (R : Rules M) → (m : M) (i : Input) → R.accepts m i ≡ true → R.next m i ≡ after R m (i ∷ [])
after_one R m i e = ap (λ (t : Bool). cond t (R.next m i) m) (sym e)

whole_one : {M : Type 0} (R : Rules M) → (k : Texts) (m : M) (old new : Told) (i : Input) → R.halted m ≡ false → R.accepts m i ≡ true
    → Went old new (i ∷ []) (R.orders m i) (entry k i (R.orders m i)) → Whole R k m old new (i ∷ [])
whole_one R k m old new i going e went = record {
  taken = (going, e, tt);
  went = went_is old new (i ∷ []) (i ∷ []) (R.orders m i) (deeds R m (i ∷ [])) (entry k i (R.orders m i)) (history R k m (i ∷ []))
      refl (deeds_one R m i e) (history_one R k m i e) went;
}

pub stands_one : {M : Type 0} (R : Rules M) → (k : Texts) (m : M) (stands : M → Type 0) (old mid new : Told) (i : Input) → R.halted m ≡ false → R.accepts m i ≡ true
    → mid.given ≡ grown (i ∷ []) old.given → old.left ≡ led (i ∷ []) mid.left
    → mid.handed ≡ old.handed → mid.journal ≡ old.journal → WorksOff R k m stands i mid new (Ok tt) → Stands R k m stands old new (i ∷ [])
stands_one R k m stands old mid new i going e given left same quiet works = record {
  whole = (
    whole_one R k m old new i going e (took old mid new i (R.orders m i) (entry k i (R.orders m i)) given left same quiet works.0),
    ap R.halted (sym (after_one R m i e)) ∙ works.2,
  );
  stands = subst (λ s. stands s) (after_one R m i e) works.1;
}

partly_one : {M : Type 0} (R : Rules M) → (k : Texts) (m : M) (old mid new : Told) (i : Input) (handed : List Order) → R.halted m ≡ false → R.accepts m i ≡ true
    → mid.given ≡ grown (i ∷ []) old.given → old.left ≡ led (i ∷ []) mid.left
    → mid.handed ≡ old.handed → mid.journal ≡ old.journal → WorkedPartly R k m i mid new handed → Partly R k m old new [] i handed
partly_one R k m old mid new i handed going e given left same quiet works = record {
  text = works.text;
  taken = (going, e, tt);
  orders_begin = works.orders_begin;
  text_begins = works.text_begins;
  text_first = works.text_first;
  went = took old mid new i handed works.text given left same quiet works.worked;
}

pub stops_one : {M : Type 0} (R : Rules M) → (k : Texts) (count : ℕ) (m : M) (stands : M → Type 0) (old mid new : Told) (i : Input) (end : End) → R.halted m ≡ false → R.accepts m i ≡ true
    → mid.given ≡ grown (i ∷ []) old.given → old.left ≡ led (i ∷ []) mid.left
    → mid.handed ≡ old.handed → mid.journal ≡ old.journal → WorksOff R k m stands i mid new (Err end) → Stops R k count m old new end
stops_one R k count m stands old mid new i Halted going e given left same quiet works =
    (i ∷ [], whole_one R k m old new i going e (took old mid new i (R.orders m i) (entry k i (R.orders m i)) given left same quiet works.0), ap R.halted (sym (after_one R m i e)) ∙ works.1)
stops_one R k count m stands old mid new i NoMemory going e given left same quiet works =
    inr ([], i, works.0, partly_one R k m old mid new i works.0 going e given left same quiet works.1)
stops_one R k count m stands old mid new i Broken going e given left same quiet works = absurd works
stops_one R k count m stands old mid new i Ended going e given left same quiet works = absurd works
stops_one R k count m stands old mid new i Full going e given left same quiet works = absurd works
stops_one R k count m stands old mid new i Unwritten going e given left same quiet works =
    ([], i, partly_one R k m old mid new i [] going e given left same quiet works)
stops_one R k count m stands old mid new i (Misplaced number) going e given left same quiet works = absurd works

-- nothing was given
pub none_given : {M : Type 0} (R : Rules M) → (k : Texts) (m : M) (old new : Told) → R.halted m ≡ false → new.given ≡ old.given → new.left ≡ old.left → new.handed ≡ old.handed → new.journal ≡ old.journal
    → GoesOn R k m old new []
none_given R k m old new going given left handed quiet = (
  record {
    taken = tt;
    went = record {
      given = given ∙ grown_none old.given;
      left = sym left ∙ led_none new.left;
      handed = handed ∙ grown_none old.handed;
      written = subst (λ j. Appends old.journal j []) (sym quiet) (Appends-nil old.journal);
    };
  },
  going,
)

-- an input was given that isn't accepted
pub one_refused : {M : Type 0} (R : Rules M) → (k : Texts) (m : M) (old new : Told) (i : Input) → R.halted m ≡ false → R.accepts m i ≡ false → new.given ≡ grown (i ∷ []) old.given → old.left ≡ led (i ∷ []) new.left
    → new.handed ≡ old.handed → new.journal ≡ old.journal → IsRefused R k m old new 1
one_refused R k m old new i going refused given left handed quiet = record {
  before = [];
  last = i;
  taken = tt;
  going = going;
  refused = refused;
  count = refl;
  went = record {
    given = given;
    left = left;
    handed = handed ∙ grown_none old.handed;
    written = subst (λ j. Appends old.journal j []) (sym quiet) (Appends-nil old.journal);
  };
}

-- some of the orders were handed over
pub hands_some : (orders : List Order) (n : ℕ) (before between now : Option (List Order)) → between ≡ grown (take n orders) before → now ≡ between → HandsFront before now orders
hands_some orders n before between now is same = record {
  front = take n orders;
  begins = record { rest = drop n orders; parts = sym (take-append-drop n orders) };
  handed = same ∙ is;
}

-- nothing came of an input yet
pub nothing_worked : {M : Type 0} (R : Rules M) (k : Texts) (m : M) (i : Input) (old : Told) → (handed : List Order) × WorkedPartly R k m i old old handed
nothing_worked R k m i old = (
  [],
  record {
    text = [];
    orders_begin = record { rest = R.orders m i; parts = refl };
    text_begins = record { rest = entry k i (R.orders m i); parts = refl };
    text_first = inl refl;
    worked = record { given = refl; left = refl; handed = grown_none old.handed; written = Appends-nil old.journal };
  },
)

-- the text of an input with its orders
whole_text : {M : Type 0} (R : Rules M) (k : Texts) (m : M) (i : Input) (begun whole : List ℕ) (given : List Order) → given ≡ R.orders m i → begun ≡ k.of_input i
    → whole ≡ begun ++ orders_text k given → whole ≡ entry k i (R.orders m i)
whole_text R k m i begun whole given is first text =
    text ∙ ap (λ l. l ++ orders_text k given) first ∙ ap (λ os. entry k i os) is

-- some of the text was written
pub unwritten : {M : Type 0} (R : Rules M) (k : Texts) (m : M) (i : Input) (old new : Told) (begun whole : List ℕ) (given : List Order) → given ≡ R.orders m i → begun ≡ k.of_input i
    → whole ≡ begun ++ orders_text k given → AppendsFront old.journal new.journal whole → new.given ≡ old.given → new.left ≡ old.left → new.handed ≡ old.handed
    → WorkedPartly R k m i old new []
unwritten R k m i old new begun whole given is first text wrote same_given same_left same_handed = record {
  text = wrote.front;
  orders_begin = record { rest = R.orders m i; parts = refl };
  text_begins = record { rest = wrote.rest; parts = sym (whole_text R k m i begun whole given is first text) ∙ wrote.parts };
  text_first = inl refl;
  worked = record { given = same_given; left = same_left; handed = same_handed ∙ grown_none old.handed; written = wrote.appends };
}

-- the text was written, and some of the orders were handed over
pub handed_partly : {M : Type 0} (R : Rules M) (k : Texts) (m : M) (i : Input) (old new : Told) (begun whole : List ℕ) (given : List Order) → given ≡ R.orders m i → begun ≡ k.of_input i
    → whole ≡ begun ++ orders_text k given → Appends old.journal new.journal whole → new.given ≡ old.given → new.left ≡ old.left → HandsFront old.handed new.handed given
    → (handed : List Order) × WorkedPartly R k m i old new handed
handed_partly R k m i old new begun whole given is first text wrote same_given same_left hands = (
  hands.front,
  record {
    text = whole;
    orders_begin = record { rest = hands.begins.rest; parts = sym is ∙ hands.begins.parts };
    text_begins = record { rest = []; parts = sym (whole_text R k m i begun whole given is first text) ∙ sym (append-nil whole) };
    text_first = inr (whole_text R k m i begun whole given is first text);
    worked = record { given = same_given; left = same_left; handed = hands.handed; written = wrote };
  },
)

-- all was written and handed over
pub all_worked : {M : Type 0} (R : Rules M) (k : Texts) (m : M) (i : Input) (old new : Told) (begun whole : List ℕ) (given : List Order) → given ≡ R.orders m i → begun ≡ k.of_input i
    → whole ≡ begun ++ orders_text k given → Appends old.journal new.journal whole → new.given ≡ old.given → new.left ≡ old.left → new.handed ≡ grown given old.handed
    → Worked old new (R.orders m i) (entry k i (R.orders m i))
all_worked R k m i old new begun whole given is first text wrote same_given same_left hands = record {
  given = same_given;
  left = same_left;
  handed = hands ∙ ap (λ os. grown os old.handed) is;
  written = subst (λ l. Appends old.journal new.journal l) (whole_text R k m i begun whole given is first text) wrote;
}

-- no input is left
used_up : (before now : Option (List Input)) → now ≡ before → ForSome before (λ inputs. inputs ≡ []) → ForSome now (λ inputs. inputs ≡ [])
used_up before now same used = subst (λ left. ForSome left (λ inputs. inputs ≡ [])) (sym same) used

-- a call that gave no input took none
pub takes_nothing : (old new : Option (List Input)) (fault : NextFault) → Takes old new (Err fault) → new ≡ old
takes_nothing old new fault_is.Failed takes = takes
takes_nothing old new fault_is.Ended takes = takes.0
takes_nothing old new fault_is.OutOfMemory takes = takes

-- and at the end none is left
pub takes_the_end : (old new : Option (List Input)) (fault : NextFault) → fault ≡ fault_is.Ended → Takes old new (Err fault)
    → ForSome new (λ inputs. inputs ≡ [])
takes_the_end old new fault_is.Failed is takes = cc
takes_the_end old new fault_is.Ended is takes = used_up old new takes.0 takes.1
takes_the_end old new fault_is.OutOfMemory is takes = cc
