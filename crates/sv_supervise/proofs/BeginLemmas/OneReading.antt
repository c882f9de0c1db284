-- Files are read in one way.
use Rattle.std.proofs.Common.{◌≡◌, ℕ, List, [], ◌∷◌, ◌++◌, Option, Some, Result, Ok, Err, inl, inr, sym, ap, ◌∙◌, subst}
use Rattle.sv_base.specs.declared.config.Config.{Config}
use Rattle.sv_base.specs.declared.config.Host.{Host}
use Rattle.sv_conf.specs.Configuration.{configuration_of}
use Rattle.sv_sections.specs.Includes.{includes_of}
use Rattle.sv_sections.specs.declared.fault.ConfFault.{ConfFault}
use Rattle.sv_load.specs.Listing.{AreListed, IsAnswer, each_once, texts_of}
use Rattle.sv_load.specs.Loading.{AreIncluded, CantLoad, HoldsOf, Loads}
use Rattle.sv_load.specs.declared.fault.LoadFault.TheVariants as fault_is
use Rattle.sv_load.specs.declared.loading.Loaded.{Loaded}
use Rattle.sv_out.specs.Files.{Files}
use Rattle.sv_load.specs.Sizes.LogSizes.{log_files, sizes_on}
use Rattle.sv_supervise.specs.Begin.Beginnings.{BeginsWith}
use Rattle.sv_supervise.specs.Begin.OneReading.{IsOnlyReading}
use Rattle.sv_supervise.specs.declared.begin.beginning.Beginning.{Beginning}
use Rattle.sv_supervise.proofs.BeginLemmas.NameLists.{same_names}

same_ok : {A E : Type 0} (read : Result A E) (one other : A) → read ≡ Ok one → read ≡ Ok other → one ≡ other
same_ok read one other is was = cc

same_some : {A : Type 0} (held : Option A) (one other : A) → held ≡ Some one → held ≡ Some other → one ≡ other
same_some held one other is was = cc

not_both : {A E : Type 0} (read : Result A E) (value : A) (fault : E) → read ≡ Ok value → read ≡ Err fault → ⊥
not_both read value fault is was = cc

one_answer : (files : Files) (pattern : List ℕ) (one other : List (List ℕ)) → IsAnswer files pattern one → IsAnswer files pattern other → one ≡ other
one_answer files pattern one other is was = same_names one other is.0 was.0 (λ name. is.1 name ∙ sym (was.1 name))

one_listing : (files : Files) (patterns one other : List (List ℕ)) → AreListed files patterns one → AreListed files patterns other → one ≡ other
one_listing files [] one other is was = is ∙ sym was
one_listing files (pattern ∷ patterns) one other is was =
    let first : is.0 ≡ was.0 = one_answer files pattern is.0 was.0 is.2 was.2 in
    let rest : is.1 ≡ was.1 = one_listing files patterns is.1 was.1 is.3 was.3 in
    is.4 ∙ (ap (λ (names : List (List ℕ)). names ++ is.1) first ∙ (ap (λ (names : List (List ℕ)). was.0 ++ names) rest ∙ sym was.4))

one_inclusion : (files : Files) (host : Host) (main : List ℕ) (one other : List (List ℕ × List ℕ)) → AreIncluded files host main one
    → AreIncluded files host main other → one ≡ other
one_inclusion files host main one other is was =
    let patterns : is.patterns ≡ was.patterns = same_ok (includes_of main host) is.patterns was.patterns is.given was.given in
    let names : is.names ≡ was.names =
    one_listing files is.patterns is.names was.names is.listed (subst (λ (all : List (List ℕ)). AreListed files all was.names) (sym patterns) was.listed) in
    is.read ∙ (ap (λ (all : List (List ℕ)). texts_of files (each_once all)) names ∙ sym was.read)

abbrev made : List ℕ → List (List ℕ × List ℕ) → Config → Loaded
made main included config = record { main = main; included = included; config = config }

same_parts : (one other : Loaded) → one.main ≡ other.main → one.included ≡ other.included → one.config ≡ other.config → one ≡ other
same_parts one other main included config =
    ap (λ (text : List ℕ). made text one.included one.config) main
    ∙ (ap (λ (texts : List (List ℕ × List ℕ)). made other.main texts one.config) included
    ∙ ap (λ (read : Config). made other.main other.included read) config)

one_loaded : (files : Files) (file : List ℕ) (host : Host) (one other : Loaded) → Loads files file host (Ok one) → Loads files file host (Ok other) → one ≡ other
one_loaded files file host one other is was =
    let main : one.main ≡ other.main = same_some (files file) one.main other.main is.0 was.0 in
    let included : one.included ≡ other.included =
    one_inclusion files host one.main one.included other.included is.1 (subst (λ (text : List ℕ). AreIncluded files host text other.included) (sym main) was.1) in
    let read : configuration_of one.main one.included host ≡ Ok other.config =
    subst (λ (text : List ℕ). configuration_of text one.included host ≡ Ok other.config) (sym main)
    (subst (λ (texts : List (List ℕ × List ℕ)). configuration_of other.main texts host ≡ Ok other.config) (sym included) was.2) in
    same_parts one other main included (same_ok (configuration_of one.main one.included host) one.config other.config is.2 read)

-- what is read isn't refused
unrefused : (files : Files) (file : List ℕ) (host : Host) (loaded : Loaded) (fault : ConfFault) → Loads files file host (Ok loaded)
    → Loads files file host (Err (fault_is.Refused fault)) → ⊥
unrefused files file host loaded fault is refused =
    let why : CantLoad files host (fault_is.Refused fault) loaded.main = subst (HoldsOf (CantLoad files host (fault_is.Refused fault))) is.0 refused in
    elim why [
      | inl at_once ↦ not_both (includes_of loaded.main host) is.1.patterns fault is.1.given at_once
      | inr faulty ↦
          let same : faulty.included ≡ loaded.included = one_inclusion files host loaded.main faulty.included loaded.included faulty.are_included is.1 in
          not_both (configuration_of loaded.main loaded.included host) loaded.config fault is.2
          (subst (λ (texts : List (List ℕ × List ℕ)). configuration_of loaded.main texts host ≡ Err fault) same faulty.first)
    ]

pub only_reading : (files : Files) (file : List ℕ) (host : Host) (beginning : Beginning) → BeginsWith files file host (Ok beginning)
    → IsOnlyReading files file host beginning
only_reading files file host beginning is = record {
  one = λ other was.
      let same : beginning.loaded ≡ other.loaded = one_loaded files file host beginning.loaded other.loaded is.0 was.0 in record {
        loaded = same;
        sizes = is.1 ∙ (ap (λ (loaded : Loaded). sizes_on files (log_files loaded.config)) same ∙ sym was.1);
      };
  good = λ fault refused. unrefused files file host beginning.loaded fault is.0 refused;
}
