-- What becomes of the files as pieces are logged and files cleared one after the other: of a log's
-- file and its backups, what the appends of the pieces that are logged to it, and its clears, make
-- of them.
use Rattle.std.specs.Prelude.{◌≡◌, ◌≢◌, ℕ, suc, ◌-◌, ◌^◌, ◌<◌, ◌≤◌, List, [], ◌∷◌, Option, Some}
use Rattle.std.specs.Prelude.{None, Bool, false, length, min, filter}
use Rattle.std.specs.List.{All}
use Rattle.std.specs.Option.{option_map}
use Rattle.std.specs.Str.{bytes_eq}
use Rattle.sv_base.specs.declared.config.FileOrder.{FileOrder}
use Rattle.sv_base.specs.declared.config.FileOrder.TheVariants as file
use Rattle.sv_base.specs.declared.spec.LogSpec.{LogSpec}
use Rattle.sv_logs.specs.LogDeeds.{LogDeed, all_sizes, sizes_after}
use Rattle.sv_logs.specs.LogDeeds.LogDeed.{Adds, Empties}
use Rattle.sv_logs.specs.Logging.{log_orders, plan_as}
use Rattle.sv_logs.specs.Sizes.{Sizes, size_in}
use Rattle.sv_logs.specs.Rotation.{Files, IsAppended, bytes_of, carried, kept, put}
use Rattle.sv_out.specs.declared.order.Order.{Order}
use Rattle.sv_out.specs.declared.order.Order.TheVariants.{Append, Shift, Fresh}

-- the step in the keeping of a log that an order is, if it is one
abbrev pub file_order : Order → Option FileOrder
file_order (Append name bytes) = Some (file.Append name bytes)
file_order (Shift from to) = Some (file.Shift from to)
file_order (Fresh name) = Some (file.Fresh name)
file_order order = None

-- the files after a step, if it is one
abbrev pub done_if : Option FileOrder → Files → Files
done_if None files = files
done_if (Some order) files = carried order files

-- the files after the steps among these orders were carried out, one after the other
abbrev pub done : List Order → Files → Files
done [] files = files
done (order ∷ orders) files = done orders (done_if (file_order order) files)

-- this is the name of a log's file
abbrev pub is_file : List ℕ → Option (List ℕ) → Bool
is_file name None = false
is_file name (Some own) = bytes_eq own name

-- a file was made empty; one that isn't there stays missing
abbrev pub emptied : List ℕ → Files → Files
emptied name files = put name (option_map (λ bytes. []) (files name)) files

-- the files after a deed was carried out
abbrev pub deed_done : LogDeed → Sizes → Files → Files
deed_done (Adds log piece) sizes files = done (log_orders log piece sizes) files
deed_done (Empties name) sizes files = emptied name files

-- and after all of these, one after the other
abbrev pub all_done : List LogDeed → Sizes → Files → Files
all_done [] sizes files = files
all_done (deed ∷ deeds) sizes files =
    all_done deeds (sizes_after deed sizes) (deed_done deed sizes files)

-- this deed is of the file of this name
abbrev pub is_of_file : List ℕ → LogDeed → Bool
is_of_file name (Adds log piece) = is_file name log.file
is_of_file name (Empties own) = bytes_eq own name

-- of these deeds those of the file of this name
abbrev pub deeds_of : List ℕ → List LogDeed → List LogDeed
deeds_of name deeds = filter (is_of_file name) deeds

-- the piece was appended to this file of the log, and what followed holds of the files after it
pub record IsFollowed (name : List ℕ) (log : LogSpec) (piece : List ℕ) (before : Files)
    (follows : Files → Type 0) : Type 0 where
  pub between : Files
  pub appended : IsAppended (plan_as name (length (bytes_of before name)) log) piece before between
  pub rest : follows between

-- these are the files after the deeds of this file, one after the other: pieces were appended to
-- it, each as its log has it, and it was made empty
abbrev pub AreCarriedOut : List ℕ → List LogDeed → Files → Files → Type 0
AreCarriedOut name [] before after = (other : List ℕ) → after other ≡ before other
AreCarriedOut name (Adds log piece ∷ deeds) before after =
    IsFollowed name log piece before (λ between. AreCarriedOut name deeds between after)
AreCarriedOut name (Empties own ∷ deeds) before after =
    AreCarriedOut name deeds (emptied name before) after

-- the known size of a file is its size; it stops at the greatest number
abbrev pub IsSize : List ℕ → Sizes → Files → Type 0
IsSize name sizes files = size_in name sizes ≡ min (length (bytes_of files name)) (2 ^ 64 - 1)

-- this name is none of the log's backups: its file with `.i` after it, for i from 1 to their number
abbrev pub IsNoBackup : List ℕ → LogSpec → Type 0
IsNoBackup name log =
    (file : List ℕ) (number : ℕ) → log.file ≡ Some file → number < log.backups
    → name ≢ kept file (suc number)

-- neither log's file is a backup of the other; its limits are those of a log
pub record IsBeside (log other : LogSpec) : Type 0 where
  pub no_backup : (file : List ℕ) → other.file ≡ Some file → IsNoBackup file log
  pub no_file : (file : List ℕ) → log.file ≡ Some file → IsNoBackup file other
  pub maxbytes : other.maxbytes < 2 ^ 64
  pub backups : other.backups ≤ 1000

-- so it is of what is done to another log; a file that is made empty is none of the log's backups
abbrev pub IsBesideDeed : LogSpec → LogDeed → Type 0
IsBesideDeed log (Adds other piece) = IsBeside log other
IsBesideDeed log (Empties name) = IsNoBackup name log

-- of the log's file and its backups the files hold what the deeds of this file, and no others, made
-- of them, one after the other; and its known size is its size
pub record HasLogged (name : List ℕ) (log : LogSpec) (deeds : List LogDeed) (sizes : Sizes)
    (before after : Files) : Type 0 where
  pub alone : Files
  pub carried : AreCarriedOut name (deeds_of name deeds) before alone
  pub same : (number : ℕ) → number ≤ log.backups
      → after (kept name number) ≡ alone (kept name number)
  pub known : IsSize name (all_sizes deeds sizes) after

-- No logged byte is lost but by rotation and by a clear: where pieces are logged and files are
-- cleared one after the other, and the orders for that are carried out, each log's file has what
-- was logged to it since. In the beginning its known size is its size.
abbrev pub EachFileHasWhatWasLogged : Type 0
EachFileHasWhatWasLogged =
    (log : LogSpec) (name : List ℕ) (deeds : List LogDeed) (sizes : Sizes) (files : Files)
    → log.file ≡ Some name
    → log.backups ≤ 1000
    → All (IsBesideDeed log) deeds
    → IsSize name sizes files
    → HasLogged name log deeds sizes files (all_done deeds sizes files)
