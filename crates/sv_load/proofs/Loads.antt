-- Where the reading of the included texts fails.
use Rattle.std.proofs.Common.{◌≡◌, ℕ, List, Option, Some, Result, Ok, Err, IfErr, inr, subst}
use Rattle.std.specs.Option.{ForSome}
use Rattle.sv_base.specs.declared.config.Host.{Host}
use Rattle.sv_sections.specs.Includes.{includes_of}
use Rattle.sv_out.specs.Files.{Files}
use Rattle.sv_load.specs.Listing.{AreListed, each_once}
use Rattle.sv_load.specs.Loading.{CantInclude, FailsAtOneOf}
use Rattle.sv_load.specs.declared.fault.LoadFault.{LoadFault}
use Rattle.sv_load.specs.declared.fault.LoadFault.TheVariants.{Missing, Refused, Failed, OutOfMemory}

texts_failed : (files : Files) (host : Host) (main : List ℕ) (patterns names once : List (List ℕ)) (fault : LoadFault)
    → includes_of main host ≡ Ok patterns → AreListed files patterns names → once ≡ each_once names → FailsAtOneOf once fault
    → CantInclude files host main fault
texts_failed files host main patterns names once Missing given listed is failed = failed
texts_failed files host main patterns names once (Refused fault) given listed is failed = absurd failed
texts_failed files host main patterns names once (Failed name) given listed is failed = record {
  patterns = patterns;
  given = given;
  which = inr (names, listed, subst (λ (ns : List (List ℕ)). FailsAtOneOf ns (Failed name)) is failed);
}
texts_failed files host main patterns names once OutOfMemory given listed is failed = tt

-- a text that can't be read is one of a listed name
pub failed_texts : {A : Type 0} (told : Option Files) (host : Host) (main : List ℕ) (patterns names once : List (List ℕ))
    (result : Result A LoadFault) → includes_of main host ≡ Ok patterns
    → ((files : Files) → told ≡ Some files → AreListed files patterns names) → once ≡ each_once names
    → IfErr result (FailsAtOneOf once) → IfErr result (λ fault. ForSome told (λ files. CantInclude files host main fault))
failed_texts told host main patterns names once (Ok value) given listed is failed = tt
failed_texts told host main patterns names once (Err fault) given listed is failed =
    λ files is_told. texts_failed files host main patterns names once fault given (listed files is_told) is failed
