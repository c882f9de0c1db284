-- The course of a daemon over a world: which inputs were given, and what of their orders was handed
-- over and of their texts written, by the way in which it ended.
use Rattle.std.specs.Prelude.{◌≡◌, ◌⊎◌, ◌+◌, ◌-◌, ◌^◌, ℕ, List, [], ◌∷◌, ◌++◌, Bool, true, false}
use Rattle.std.specs.Prelude.{length}
use Rattle.sv_out.specs.declared.input.Input.{Input}
use Rattle.sv_out.specs.declared.order.Order.{Order}
use Rattle.sv_supervise.specs.MainLoop.Rules.{Rules, after, deeds}
use Rattle.sv_supervise.specs.MainLoop.Journal.{Texts, entry, history}
use Rattle.sv_supervise.specs.MainLoop.Telling.{IsUsedUp, Told, Went}
use Rattle.sv_supervise.specs.declared.main_loop.serving.End.{End}
use Rattle.sv_supervise.specs.declared.main_loop.serving.End.TheVariants.{Halted, NoMemory, Broken, Ended, Full}
use Rattle.sv_supervise.specs.declared.main_loop.serving.End.TheVariants.{Unwritten, Misplaced}

-- each of these inputs comes before the halt, and is accepted where it comes
abbrev pub AreTaken : {M : Type 0} → Rules M → M → List Input → Type 0
AreTaken R m [] = Unit {0}
AreTaken R m (i ∷ is) =
    (R.halted m ≡ false) × (R.accepts m i ≡ true) × AreTaken R (R.next m i) is

-- each input that was given was worked off: its orders were handed over, and its text is in the
-- journal
pub record Whole {M : Type 0} (R : Rules M) (texts : Texts) (m : M) (old new : Told)
    (inputs : List Input) : Type 0 where
  pub taken : AreTaken R m inputs
  pub went : Went old new inputs (deeds R m inputs) (history R texts m inputs)

-- a list begins so
pub record Begins {A : Type 0} (front whole : List A) : Type 0 where
  pub rest : List A
  pub parts : whole ≡ front ++ rest

-- the last input was accepted, and some of its orders were handed over and some of its text
-- written; no order before all of it
pub record Partly {M : Type 0} (R : Rules M) (texts : Texts) (m : M) (old new : Told)
    (before : List Input) (last : Input) (handed : List Order) : Type 0 where
  pub text : List ℕ
  pub taken : AreTaken R m (before ++ last ∷ [])
  pub orders_begin : Begins handed (R.orders (after R m before) last)
  pub text_begins : Begins text (entry texts last (R.orders (after R m before) last))
  pub text_first : (handed ≡ []) ⊎ (text ≡ entry texts last (R.orders (after R m before) last))
  pub went : Went old new (before ++ last ∷ []) (deeds R m before ++ handed)
      (history R texts m before ++ text)

-- the last input, which is the one of this number, isn't accepted, and nothing comes of it
pub record IsRefused {M : Type 0} (R : Rules M) (texts : Texts) (m : M) (old new : Told)
    (number : ℕ) : Type 0 where
  pub before : List Input
  pub last : Input
  pub taken : AreTaken R m before
  pub going : R.halted (after R m before) ≡ false
  pub refused : R.accepts (after R m before) last ≡ false
  pub count : number ≡ length before + 1
  pub went : Went old new (before ++ last ∷ []) (deeds R m before) (history R texts m before)

-- all inputs were worked off, and none brought the halt
abbrev pub GoesOn : {M : Type 0} → Rules M → Texts → M → Told → Told → List Input → Type 0
GoesOn R texts m old new inputs =
    Whole R texts m old new inputs × (R.halted (after R m inputs) ≡ false)

-- how a daemon came to this end from a state in which it was given so many inputs
abbrev pub Stops : {M : Type 0} → Rules M → Texts → ℕ → M → Told → Told → End → Type 0
Stops R texts count m old new Halted =
    (inputs : List Input) × Whole R texts m old new inputs × (R.halted (after R m inputs) ≡ true)
Stops R texts count m old new NoMemory =
    ((inputs : List Input) × GoesOn R texts m old new inputs)
    ⊎
    ((before : List Input) × (last : Input) × (handed : List Order)
    × Partly R texts m old new before last handed)
Stops R texts count m old new Broken = (inputs : List Input) × GoesOn R texts m old new inputs
Stops R texts count m old new Ended =
    (inputs : List Input) × GoesOn R texts m old new inputs × IsUsedUp new
Stops R texts count m old new Full =
    (inputs : List Input) × GoesOn R texts m old new inputs × (count + length inputs ≡ 2 ^ 64 - 1)
Stops R texts count m old new Unwritten =
    (before : List Input) × (last : Input) × Partly R texts m old new before last []
Stops R texts count m old new (Misplaced number) =
    (within : ℕ) × IsRefused R texts m old new within × (number ≡ count + within)

-- the machine stands where these inputs lead, and the daemon goes on
pub record Stands {M : Type 0} (R : Rules M) (texts : Texts) (m : M) (IsAt : M → Type 0)
    (old new : Told) (inputs : List Input) : Type 0 where
  pub whole : GoesOn R texts m old new inputs
  pub stands : IsAt (after R m inputs)
