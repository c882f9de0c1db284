-- What an order that asks for something of a file comes to.
use Rattle.std.specs.Prelude.{◌≡◌, ℕ, List, Option, None, Some, Result, Ok, Err}
use Rattle.std.specs.Option.{ForSome}
use Rattle.sv_parts.specs.declared.files.asking.FileAnswer.{FileAnswer}
use Rattle.sv_parts.specs.declared.files.asking.FileAnswer.TheVariants.{Read, Done, Missing, Names}
use Rattle.sv_parts.specs.declared.files.asking.FileAnswer.TheVariants.{Size, Failed}
use Rattle.sv_out.specs.Files.{AreNames, Becomes, Files, emptied, part_of, size_of}

-- a told map has the file, with these bytes of it
abbrev pub HasPart : Option Files → List ℕ → ℕ → ℕ → List ℕ → Type 0
HasPart told name start most part =
    ForSome told
    (λ files. (bytes : List ℕ) × (files name ≡ Some bytes) × (part ≡ part_of start most bytes))

-- a told map has the file, of this size
abbrev pub HasSize : Option Files → List ℕ → ℕ → Type 0
HasSize told name size =
    ForSome told (λ files. (bytes : List ℕ) × (files name ≡ Some bytes) × (size ≡ size_of bytes))

-- a told map has no such file
abbrev pub HasNo : Option Files → List ℕ → Type 0
HasNo told name = ForSome told (λ files. files name ≡ None)

-- a told map has such a file
abbrev pub Has : Option Files → List ℕ → Type 0
Has told name = ForSome told (λ files. (bytes : List ℕ) × (files name ≡ Some bytes))

-- a part of a file is answered by the shelf's
abbrev pub Parts : {E : Type 0} → Option Files → List ℕ → ℕ → ℕ → Result FileAnswer E → Type 0
Parts told name start most (Ok (Read part)) = HasPart told name start most part
Parts told name start most (Ok Done) = ⊥
Parts told name start most (Ok Missing) = HasNo told name
Parts told name start most (Ok (Names names)) = ⊥
Parts told name start most (Ok (Size size)) = ⊥
Parts told name start most (Ok Failed) = Unit {0}
Parts told name start most (Err error) = Unit {0}

-- a file that is there becomes empty; a missing one, and one of which a call failed, stays as it is
abbrev pub Clears : {E : Type 0} → Option Files → Option Files → List ℕ → Result FileAnswer E
    → Type 0
Clears old new name (Ok (Read part)) = ⊥
Clears old new name (Ok Done) = Has old name × Becomes old new (emptied name)
Clears old new name (Ok Missing) = HasNo old name × (new ≡ old)
Clears old new name (Ok (Names names)) = ⊥
Clears old new name (Ok (Size size)) = ⊥
Clears old new name (Ok Failed) = Becomes old new (λ files. files)
Clears old new name (Err error) = Unit {0}

-- a question for names is answered by those that the pattern matches
abbrev pub Lists : {E : Type 0} → Option Files → List ℕ → Result FileAnswer E → Type 0
Lists told pattern (Ok (Read part)) = ⊥
Lists told pattern (Ok Done) = ⊥
Lists told pattern (Ok Missing) = ⊥
Lists told pattern (Ok (Names names)) = ForSome told (AreNames pattern names)
Lists told pattern (Ok (Size size)) = ⊥
Lists told pattern (Ok Failed) = Unit {0}
Lists told pattern (Err error) = Unit {0}

-- a question for a size is answered by the file's
abbrev pub Sizes : {E : Type 0} → Option Files → List ℕ → Result FileAnswer E → Type 0
Sizes told name (Ok (Read part)) = ⊥
Sizes told name (Ok Done) = ⊥
Sizes told name (Ok Missing) = HasNo told name
Sizes told name (Ok (Names names)) = ⊥
Sizes told name (Ok (Size size)) = HasSize told name size
Sizes told name (Ok Failed) = Unit {0}
Sizes told name (Err error) = Unit {0}

-- there is no answer
abbrev pub IsUnanswered : {E : Type 0} → Result FileAnswer E → Type 0
IsUnanswered (Ok (Read part)) = ⊥
IsUnanswered (Ok Done) = ⊥
IsUnanswered (Ok Missing) = ⊥
IsUnanswered (Ok (Names names)) = ⊥
IsUnanswered (Ok (Size size)) = ⊥
IsUnanswered (Ok Failed) = Unit {0}
IsUnanswered (Err error) = ⊥
