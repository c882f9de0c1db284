-- What is read is accepted.
use Rattle.std.proofs.Common.{◌≡◌, ◌<◌, ◌^◌, ℕ, List, Option, None, Some, Ok, length, sym, ap, ◌∙◌, subst}
use Rattle.sv_supervise.specs.Arguments.{arguments_of}
use Rattle.sv_supervise.specs.declared.arguments.Arguments.{Arguments}
use Rattle.sv_base.specs.declared.config.Host.{Host}
use Rattle.sv_supervise.specs.Begin.Beginnings.{BeginsWith}
use Rattle.sv_supervise.specs.Begin.OneReading.{AreTheSame, IsOnlyReading}
use Rattle.sv_supervise.specs.declared.begin.beginning.Beginning.{Beginning}
use Rattle.sv_supervise.proofs.BeginLemmas.OneReading.{only_reading}
use Rattle.sv_core.specs.MachineState.{Model, opening}
use Rattle.sv_load.specs.declared.loading.Loaded.{Loaded}
use Rattle.sv_out.specs.Files.{Files}
use Rattle.sv_out.specs.declared.input.Input.{Input}
use Rattle.sv_supervise.specs.Completeness.{EndsInHalt, IsAccepted, LeadsToHalt}
use Rattle.sv_supervise.specs.Supervising.{Reads, machine_of}

some_is_there : {A : Type 0} (held : Option A) (value : A) → held ≡ Some value → held ≡ None → ⊥
some_is_there held value is none = cc

pub accepted : (words : List (List ℕ)) (host : Host) (files : Files) → Reads words host files → IsAccepted words host files
accepted words host files reads = record {
  arguments = reads.arguments;
  said = reads.said;
  there = λ none. some_is_there (files reads.arguments.file) reads.beginning.loaded.main reads.begins.0.0 none;
  good = λ fault refused. (only_reading files reads.arguments.file host reads.beginning reads.begins).good fault refused;
}

same_words : (told : Option Arguments) (one other : Arguments) → told ≡ Some one → told ≡ Some other → one ≡ other
same_words told one other is was = cc

-- the same machine begins
same_machine : (one other : Beginning) (host : Host) → AreTheSame one other → machine_of one host ≡ machine_of other host
same_machine one other host same =
    ap (λ (loaded : Loaded). opening loaded.config one.sizes.items host) same.loaded
    ∙ ap (λ (sizes : List (List ℕ × ℕ)). opening other.loaded.config sizes host) same.sizes

same_beginning : (words : List (List ℕ)) (host : Host) (files : Files) (one other : Reads words host files) → AreTheSame one.beginning other.beginning
same_beginning words host files one other =
    let words_same : one.arguments ≡ other.arguments = same_words (arguments_of words) one.arguments other.arguments one.said other.said in
    let begins : BeginsWith files one.arguments.file host (Ok other.beginning) =
    subst (λ (arguments : Arguments). BeginsWith files arguments.file host (Ok other.beginning)) (sym words_same) other.begins in
    let only : IsOnlyReading files one.arguments.file host one.beginning = only_reading files one.arguments.file host one.beginning one.begins in
    only.one other.beginning begins

pub leads : (words : List (List ℕ)) (host : Host) (files : Files) (reads : Reads words host files) (left : Option (List Input)) (inputs : List Input)
    → left ≡ Some inputs → length inputs < 2 ^ 64 → EndsInHalt (machine_of reads.beginning host) inputs → LeadsToHalt words host files left
leads words host files reads left inputs all few ends = record {
  inputs = inputs;
  all = all;
  few = few;
  halts = λ other. subst (λ (m : Model). EndsInHalt m inputs)
      (same_machine reads.beginning other.beginning host (same_beginning words host files reads other)) ends;
}
