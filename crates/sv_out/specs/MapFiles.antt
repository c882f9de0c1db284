-- The files of a shelf in memory.
use Rattle.std.specs.Prelude.{◌≡◌, ℕ, List, Option, None, Some}
use Rattle.std.specs.Ordering.{nat_cmp}
use Rattle.std.specs.Cmp.Lexicographic.{slice_cmp}
use Rattle.std.specs.BTreeMap.{BTreeMap, get}
use Rattle.sv_out.specs.Files.{Files, put}
use Rattle.sv_out.specs.declared.map_files.MapShelf.{MapShelf}
use Rattle.sv_out.specs.declared.files.ShelfFault.{ShelfFault}
use Rattle.sv_out.specs.declared.files.ShelfFault.TheVariants.{Missing, Failed, OutOfMemory}

-- the files that a map holds
abbrev pub shown : BTreeMap (List ℕ) (List ℕ) → Files
shown map name = get (slice_cmp nat_cmp) map name

-- the files of a shelf in memory
abbrev pub files_of : MapShelf → Files
files_of shelf = shown shelf.files

-- as the trait tells them
abbrev pub told_files : MapShelf → Option Files
told_files shelf = Some (files_of shelf)

-- how many calls of it failed
abbrev pub shelf_faults : MapShelf → ℕ
shelf_faults shelf = shelf.calls.faults

-- this file now stands there
abbrev pub IsPut : Files → Files → List ℕ → List ℕ → Type 0
IsPut before after name bytes = (other : List ℕ) → after other ≡ put name (Some bytes) before other

-- why a file wasn't given: it isn't there, or memory was refused
abbrev pub IsMissing : Option (List ℕ) → ShelfFault → Type 0
IsMissing held Missing = held ≡ None
IsMissing held Failed = ⊥
IsMissing held OutOfMemory = Unit {0}

-- there is no file
abbrev pub HasNone : Files → Type 0
HasNone files = (name : List ℕ) → files name ≡ None
