-- What the stages and turns of a value are in the reading of a text byte by byte.
use Rattle.std.specs.Prelude.{ℕ, ◌≡◌, List, [], ◌∷◌, length, Bool, true, false, nat_le}
use Rattle.std.specs.Prelude.{if◌then◌else◌, Result, Ok, Err}
use Rattle.sv_xmlcall.specs.Trees.{Tree, text, view}
use Rattle.sv_xmlcall.specs.Machine.{Frame, InArray, InMember, State, Step, Go, Deep, At, AtValue}
use Rattle.sv_xmlcall.specs.Machine.{AtFormEnd, AtData, AtItems, AtMembers, AtMemberEnd, at, goes}
use Rattle.sv_xmlcall.specs.Machine.{run, counted, after_value, the_limits}
use Rattle.sv_xmlcall.specs.Machine.{Opened as behind_value}
use Rattle.sv_xmlcall.specs.Stages.{Standing, Before, Opened, Formed, Data, Items, Further, Ended}
use Rattle.sv_xmlcall.specs.Stages.{Turning, On, Opening, Item, Named, Whole, stage_view}
use Rattle.sv_xmlcall.specs.Running.{Halts}
use Rattle.sv_xmlcall.specs.declared.nested.Settled.{Settled}
use Rattle.sv_xmlcall.specs.declared.nested.Settled.TheVariants as settled
use Rattle.sv_xmlcall.specs.declared.stop.Stop.{Stop}
use Rattle.sv_xmlcall.specs.declared.stop.Stop.TheVariants as stop

-- the state of the reading byte by byte that a stage is
abbrev pub stand : Standing → List Frame → ℕ → State
stand Before frames count = at (At AtValue) frames count
stand Opened frames count = at (behind_value []) frames count
stand (Formed value) frames count = at (At (AtFormEnd value)) frames count
stand Data frames count = at (At AtData) frames count
stand (Items items) frames count = at (At (AtItems items)) frames count
stand (Further members) frames count = at (At (AtMembers members)) frames count
stand (Ended members) frames count = at (At (AtMemberEnd members)) frames count

-- the step after the opening of a value, empty or not, that was counted
abbrev pub opened_of : Bool → List Frame → ℕ → Step
opened_of false frames count = goes (behind_value []) frames count
opened_of true frames count = Go (after_value the_limits (text []) frames count)

-- the step after `<value/>` or `<value>`: not deeper than 32, and counted
abbrev pub opening_of : Bool → List Frame → ℕ → Step
opening_of empty frames count =
    if nat_le (length frames) 32 then opened_of empty frames (counted the_limits count) else Deep

-- the step of a turn
abbrev pub turned : Turning → List Frame → ℕ → Step
turned (On standing) frames count = Go (stand standing frames count)
turned (Opening empty) frames count = opening_of empty frames count
turned (Item items empty) frames count = opening_of empty (InArray items ∷ frames) count
turned (Named members name) frames count = goes (At AtValue) (InMember members name ∷ frames) count
turned (Whole value) frames count = Go (after_value the_limits value frames count)

-- the state after a turn: that of a stage, or after the outermost value, which stands in this
-- frame
abbrev pub settled_state : Frame → Settled → List Frame → ℕ → State
settled_state frame (settled.On stage) frames count = stand (stage_view stage) frames count
settled_state frame (settled.Done value) frames count =
    after_value the_limits (view value) (frame ∷ []) count

-- the code goes on from a turn, in what frame ever the outermost value stands
abbrev pub Settles : (Frame → Step) → (Frame → Settled → State) → Result Settled Stop → Type 0
Settles before behind (Ok s) = (frame : Frame) → before frame ≡ Go (behind frame s)
Settles before behind (Err (stop.At left)) = ⊥
Settles before behind (Err stop.TooDeep) = (frame : Frame) → before frame ≡ Deep
Settles before behind (Err stop.OutOfMemory) = Unit {0}

-- the text comes to what it comes to after the value that is read in this frame
abbrev pub ReadsValue : {X : Type 0} → Frame → ℕ → List ℕ → ℕ → (X → Tree) → (X → List ℕ)
    → Result X Stop → Type 0
ReadsValue frame before bytes opened tree rest (Ok x) =
    run the_limits (at (At AtValue) (frame ∷ []) before) bytes ≡ run the_limits
    (after_value the_limits (tree x) (frame ∷ []) opened) (rest x)
ReadsValue frame before bytes opened tree rest (Err stop) =
    Halts stop opened (run the_limits (at (At AtValue) (frame ∷ []) before) bytes)
