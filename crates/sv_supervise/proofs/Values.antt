-- The values of the words.
use Rattle.std.proofs.Common.{◌≡◌, ◌≢◌, ℕ, List, [], ◌∷◌, None, refl, inl, inr, subst}
use Rattle.clap.specs.Words.{HasKind, IsAmong, Kinds, Row, fault_of, first_of, first_value, kind_of, matches_of, rows_of}
use Rattle.clap.specs.declared.error.Error.{Error}
use Rattle.clap.specs.declared.error.kind.ErrorKind.{ErrorKind}
use Rattle.clap.specs.declared.error.kind.ErrorKind.TheVariants as kind
use Rattle.clap.specs.declared.parser.matches.Found.{Found}
use Rattle.clap.proofs.WalkLemmas.{first_value-rows}
use Rattle.sv_supervise.specs.Arguments.{arguments_by, arguments_of, command_line, with_name}

pub first_in_rows : (found : Found) (name : List ℕ) → first_value found name ≡ first_of name (rows_of found)
first_in_rows found name = first_value-rows found name

refused_by : (kind : ErrorKind) (kinds : Kinds) (rows : List Row) → IsAmong kind kinds → arguments_by kinds rows ≡ None
refused_by kind [] rows among = absurd among
refused_by kind (first ∷ kinds) rows among = refl

-- an error of another kind than out of memory comes only where the command line refuses the words
pub refused : (words all : List (List ℕ)) (error : Error) → all ≡ with_name words → kind_of error ≢ kind.OutOfMemory
    → HasKind (fault_of command_line all) error → arguments_of words ≡ None
refused words all error is known fails =
    let among : HasKind (fault_of command_line (with_name words)) error =
    subst (λ (texts : List (List ℕ)). HasKind (fault_of command_line texts) error) is fails in
    elim among [
      | inl none ↦ absurd (known none)
      | inr one ↦ refused_by (kind_of error) (fault_of command_line (with_name words))
          (matches_of command_line (with_name words)) one
    ]
