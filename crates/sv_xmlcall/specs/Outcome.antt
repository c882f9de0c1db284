-- What the readers give.
use Rattle.std.specs.Prelude.{ℕ, ◌≡◌, Result, Ok, Err}
use Rattle.sv_letters.specs.declared.bad_byte.BadByte.{BadByte}
use Rattle.sv_xmlcall.specs.declared.stop.Stop.{Stop}
use Rattle.sv_xmlcall.specs.declared.stop.Stop.TheVariants.{At, TooDeep, OutOfMemory}

-- the code stops where reading does, or has no memory
abbrev pub Stops : {Y : Type 0} → Stop → Result Y ℕ → Type 0
Stops (At left) read = read ≡ Err left
Stops TooDeep read = ⊥
Stops OutOfMemory read = Unit {0}

-- the code gives what is read
abbrev pub Gives : {X Y : Type 0} → (X → Y) → Result X Stop → Result Y ℕ → Type 0
Gives view (Ok x) read = read ≡ Ok (view x)
Gives view (Err stop) read = Stops stop read

-- the code that takes no memory gives what is read
abbrev pub GivesAlways : {X Y : Type 0} → (X → Y) → Result X BadByte → Result Y ℕ → Type 0
GivesAlways view (Ok x) read = read ≡ Ok (view x)
GivesAlways view (Err bad) read = read ≡ Err bad.0
