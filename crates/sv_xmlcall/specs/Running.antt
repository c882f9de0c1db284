-- A reader and the reading of a text byte by byte.
use Rattle.std.specs.Prelude.{ℕ, ◌≡◌, List, [], ◌∷◌, Result, Ok, Err}
use Rattle.sv_xmlcall.specs.Machine.{State, Verdict, Expecting, AtDone, Frame, Close, goes, enter}
use Rattle.sv_xmlcall.specs.Machine.{tags_of, NotRead, TooDeep, run, the_limits, unless_many}
use Rattle.sv_xmlcall.specs.declared.tag.Tag.{Tag}
use Rattle.sv_xmlcall.specs.declared.stop.Stop.{Stop}
use Rattle.sv_xmlcall.specs.declared.stop.Stop.TheVariants as stop

-- the code stops where this verdict is given, after so many values; running out of memory is always
-- allowed
abbrev pub Halts : Stop → ℕ → Verdict → Type 0
Halts (stop.At left) count verdict = verdict ≡ unless_many the_limits count (NotRead left)
Halts stop.TooDeep count verdict = verdict ≡ TooDeep
Halts stop.OutOfMemory count verdict = Unit {0}

-- from this state and these bytes the text comes to what it comes to from the state and the bytes
-- that are given
abbrev pub Goes : {X : Type 0} → State → List ℕ → (X → State) → (X → List ℕ) → ℕ → Result X Stop
    → Type 0
Goes state bytes on rest count (Ok x) = run the_limits state bytes ≡ run the_limits (on x) (rest x)
Goes state bytes on rest count (Err stop) = Halts stop count (run the_limits state bytes)

-- the text does not end at a place before a tag
abbrev pub IsOpen : Expecting → Type 0
IsOpen (AtDone spelled) = ⊥
IsOpen place = Unit {0}

-- a place at which this closing tag stands, and no other tag
pub record Closes (place : Expecting) (t : Tag) : Type 0 where
  pub only : tags_of place ≡ t ∷ []
  pub goes_on : IsOpen place
  pub shut : (frames : List Frame) (count : ℕ)
      → enter the_limits place t frames count ≡ goes (Close place) frames count
