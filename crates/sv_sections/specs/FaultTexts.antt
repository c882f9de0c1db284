-- How faults are printed: number, name and parts, with single spaces.
use Rattle.std.specs.Prelude.{◌≡◌, ◌++◌, ◌∷◌, ℕ, List, Option, Some, None, Result, Err, codes, ⊤}
use Rattle.std.specs.Fmt.{decimal}
use Rattle.sv_base.specs.Ascii.{space}
use Rattle.sv_sections.specs.declared.fault.ConfFault.{ConfFault}
use Rattle.sv_sections.specs.declared.fault.ConfFault.TheVariants.{Ini, Missing, BadValue, Expand}
use Rattle.sv_sections.specs.declared.fault.ConfFault.TheVariants.{NeedsNumber, NoSuchProgram}
use Rattle.sv_sections.specs.declared.fault.ConfFault.TheVariants.{Unsupported, TwiceNamed, TooMany}
use Rattle.sv_sections.specs.declared.fault.ConfFault.TheVariants.{OutOfMemory}
use Rattle.sv_ini.specs.declared.fault.IniFault.{IniFault}
use Rattle.sv_ini.specs.declared.fault.IniFault.TheVariants as ini

-- the number of a fault; out of memory has none
abbrev pub fault_number : ConfFault → Option ℕ
fault_number (Ini fault) = Some 1
fault_number (Missing section key) = Some 2
fault_number (BadValue section key) = Some 3
fault_number (Expand section key) = Some 4
fault_number (NeedsNumber section) = Some 5
fault_number (NoSuchProgram group name) = Some 6
fault_number (Unsupported section) = Some 7
fault_number (TwiceNamed name) = Some 8
fault_number TooMany = Some 9
fault_number OutOfMemory = None

-- a head and one part
abbrev pub with_one : List ℕ → List ℕ → List ℕ
with_one head part = head ++ space ∷ part

-- a head and two parts
abbrev pub with_two : List ℕ → List ℕ → List ℕ → List ℕ
with_two head one other = head ++ space ∷ (one ++ space ∷ other)

-- the parts of a fault in a text's lines are the inner number, name and place
abbrev pub ini_text : IniFault → List ℕ
ini_text (ini.NotUtf8 place) = with_one (codes "1 Ini 1 NotUtf8") (decimal place)
ini_text (ini.BadLine line) = with_one (codes "1 Ini 2 BadLine") (decimal line)
ini_text (ini.OutsideSection line) = with_one (codes "1 Ini 3 OutsideSection") (decimal line)
ini_text ini.TooLong = codes "1 Ini 4 TooLong"
ini_text ini.OutOfMemory = codes "out of memory"

-- the printed text of a fault
abbrev pub fault_text : ConfFault → List ℕ
fault_text (Ini fault) = ini_text fault
fault_text (Missing section key) = with_two (codes "2 Missing") section key
fault_text (BadValue section key) = with_two (codes "3 BadValue") section key
fault_text (Expand section key) = with_two (codes "4 Expand") section key
fault_text (NeedsNumber section) = with_one (codes "5 NeedsNumber") section
fault_text (NoSuchProgram group name) = with_two (codes "6 NoSuchProgram") group name
fault_text (Unsupported section) = with_one (codes "7 Unsupported") section
fault_text (TwiceNamed name) = with_one (codes "8 TwiceNamed") name
fault_text TooMany = codes "9 TooMany"
fault_text OutOfMemory = codes "out of memory"

-- a fault is the one that the definition gives; running out of memory is always allowed
abbrev pub IsFault : {A : Type 0} → ConfFault → Result A ConfFault → Type 0
IsFault OutOfMemory given = ⊤
IsFault fault given = given ≡ Err fault
