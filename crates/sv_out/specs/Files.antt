-- The files of a shelf: a map from names to bytes, and what each call answers of it or makes of it.
use Rattle.std.specs.Prelude.{◌≡◌, ◌-◌, ◌^◌, ◌&&◌, ◌++◌, ℕ, List, [], Option, None, Some, Result}
use Rattle.std.specs.Prelude.{Ok, Err, is_some, length, min, take, drop, if◌then◌else◌}
use Rattle.std.specs.Option.{ForSome, unwrap_or}
use Rattle.std.specs.List.{list_any}
use Rattle.std.specs.List.Sorted.{IsStrictlySortedBy}
use Rattle.std.specs.Ordering.{nat_cmp}
use Rattle.std.specs.Cmp.Lexicographic.{slice_cmp}
use Rattle.std.specs.Str.{bytes_eq}
use Rattle.sv_out.specs.Patterns.{matches}
use Rattle.sv_out.specs.declared.files.ShelfFault.{ShelfFault}
use Rattle.sv_out.specs.declared.files.ShelfFault.TheVariants.{Missing, Failed, OutOfMemory}

-- the files by name: the bytes of each, and none where there is no such file
abbrev pub Files : Type 0
Files = List ℕ → Option (List ℕ)

-- the files, where this one name now stands for that
abbrev pub put : List ℕ → Option (List ℕ) → Files → Files
put name held files other = if bytes_eq name other then held else files other

-- the files, where a piece stands at the end of one; a missing one is made
abbrev pub appended : List ℕ → List ℕ → Files → Files
appended name piece files = put name (Some (unwrap_or (files name) [] ++ piece)) files

-- a file renamed over another; a missing one changes nothing
abbrev pub renamed : List ℕ → List ℕ → Option (List ℕ) → Files → Files
renamed from to None files = files
renamed from to (Some bytes) files = put to (Some bytes) (put from None files)

-- a file renamed, where it is there
abbrev pub shifted : List ℕ → List ℕ → Files → Files
shifted from to files = renamed from to (files from) files

-- the files, where one is there and empty
abbrev pub emptied : List ℕ → Files → Files
emptied name files = put name (Some []) files

-- what a read of a file gives: some view of its bytes, or Missing exactly where a told map lacks it
abbrev pub Reads : {A : Type 0} → Option Files → List ℕ → (List ℕ → A) → Result A ShelfFault
    → Type 0
Reads told name view (Ok value) =
    ForSome told (λ files. (bytes : List ℕ) × (files name ≡ Some bytes) × (value ≡ view bytes))
Reads told name view (Err Missing) = ForSome told (λ files. files name ≡ None)
Reads told name view (Err Failed) = Unit {0}
Reads told name view (Err OutOfMemory) = Unit {0}

-- the size of a file; it stops at the greatest number of 64 bits
abbrev pub size_of : List ℕ → ℕ
size_of bytes = min (length bytes) (2 ^ 64 - 1)

-- the bytes from a place on, at most so many
abbrev pub part_of : ℕ → ℕ → List ℕ → List ℕ
part_of start most bytes = take most (drop start bytes)

-- names rise by bytes, each once
abbrev pub AreRising : List (List ℕ) → Type 0
AreRising names = IsStrictlySortedBy (slice_cmp nat_cmp) names

-- the names of the files that match a pattern
abbrev pub AreNames : List ℕ → List (List ℕ) → Files → Type 0
AreNames pattern names files =
    (name : List ℕ)
    → list_any (bytes_eq name) names ≡ (matches pattern name && is_some (files name))

-- a told map became what this makes of it
abbrev pub Becomes : Option Files → Option Files → (Files → Files) → Type 0
Becomes None new change = new ≡ None
Becomes (Some before) None change = ⊥
Becomes (Some before) (Some after) change = (name : List ℕ) → after name ≡ change before name

-- what a call that changes files leaves: the change; after a failure what was there
abbrev pub Changes : Option Files → Option Files → (Files → Files) → Result (Unit {0}) ShelfFault
    → Type 0
Changes old new change (Ok done) = Becomes old new change
Changes old new change (Err Missing) = ⊥
Changes old new change (Err Failed) = Becomes old new (λ files. files)
Changes old new change (Err OutOfMemory) = Unit {0}

-- the error is a failure
abbrev pub IsFailure : {A : Type 0} → Result A ShelfFault → Type 0
IsFailure (Ok value) = ⊥
IsFailure (Err Missing) = ⊥
IsFailure (Err Failed) = Unit {0}
IsFailure (Err OutOfMemory) = ⊥
