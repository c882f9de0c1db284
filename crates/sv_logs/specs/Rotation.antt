-- The files of a log and its rotation (the manual's chapter on logging, `logfile_maxbytes` and
-- `logfile_backups`).
use Rattle.std.specs.Prelude.{◌≡◌, ◌≢◌, ◌<◌, ◌≤◌, ◌+◌, ◌-◌, ◌^◌, ◌++◌, ◌∷◌, ℕ, zero, suc, List, []}
use Rattle.std.specs.Prelude.{Bool, ◌&&◌, nat_lt, nat_le, Option, Some, None, length, min}
use Rattle.std.specs.Prelude.{if◌then◌else◌}
use Rattle.std.specs.Bool.{MatchBool}
use Rattle.std.specs.Option.{unwrap_or, option_or}
use Rattle.std.specs.Str.{bytes_eq}
use Rattle.std.specs.Fmt.{decimal}
use Rattle.sv_base.specs.Ascii.{full_stop}
use Rattle.sv_base.specs.declared.config.FileOrder.{FileOrder}
use Rattle.sv_base.specs.declared.config.FileOrder.TheVariants.{Append, Shift, Fresh}
use Rattle.sv_logs.specs.declared.plan.LogPlan.{LogPlan}

-- the files by name: the bytes of each, and none where there is no such file
abbrev pub Files : Type 0
Files = List ℕ → Option (List ℕ)

-- what a file holds, and nothing where it is missing
abbrev pub bytes_of : Files → List ℕ → List ℕ
bytes_of files name = unwrap_or (files name) []

-- the files, where this one name now stands for that
abbrev pub put : List ℕ → Option (List ℕ) → Files → Files
put name held files other = if bytes_eq other name then held else files other

-- a file renamed over another; a missing one changes nothing
abbrev pub renamed : List ℕ → List ℕ → Option (List ℕ) → Files → Files
renamed from to None files = files
renamed from to (Some bytes) files = put to (Some bytes) (put from None files)

-- the files after one order
abbrev pub carried : FileOrder → Files → Files
carried (Append name bytes) files = put name (Some (bytes_of files name ++ bytes)) files
carried (Shift from to) files = renamed from to (files from) files
carried (Fresh name) files = put name (Some []) files

-- the files after these orders, one after the other
abbrev pub all_carried : List FileOrder → Files → Files
all_carried [] files = files
all_carried (order ∷ orders) files = all_carried orders (carried order files)

-- a log's file, and after it its backups: the file's name, a point and 1, 2, 3
abbrev pub kept : List ℕ → ℕ → List ℕ
kept file zero = file
kept file (suc number) = file ++ full_stop ∷ decimal (suc number)

-- a log is rotated from its greatest size on; 0 is never
abbrev pub is_over : ℕ → ℕ → Bool
is_over maxbytes size = nat_lt 0 maxbytes && nat_le maxbytes size

-- a rotation with so many backups: the file is empty, the first backup holds what the file held,
-- each further one what the one before it held, and only the last one, where the one before it was
-- missing, what it held itself
pub record IsRotated (file : List ℕ) (backups : ℕ) (before after : Files) : Type 0 where
  pub fresh : after file ≡ Some []
  pub up : (number : ℕ) → suc number < backups
      → after (kept file (suc number)) ≡ before (kept file number)
  pub last : (number : ℕ) → suc number ≡ backups
      → after (kept file (suc number)) ≡ option_or (before (kept file number))
      (before (kept file (suc number)))
  pub others : (name : List ℕ) → ((number : ℕ) → number ≤ backups → name ≢ kept file number)
      → after name ≡ before name

-- the files after an append to a log: its file has grown by the piece, and where it is over by
-- that, it is rotated
abbrev pub IsAppended : LogPlan → List ℕ → Files → Files → Type 0
IsAppended plan piece before after =
    let held = bytes_of before plan.file ++ piece in
    let grown = put plan.file (Some held) before in
    MatchBool (is_over plan.maxbytes (length held))
    (IsRotated plan.file plan.backups grown after)
    ((name : List ℕ) → after name ≡ grown name)

-- the plan knows the size of its file; the known size stops at the greatest number
abbrev pub IsKnown : LogPlan → Files → Type 0
IsKnown plan files = plan.size ≡ min (length (bytes_of files plan.file)) (2 ^ 64 - 1)

-- the size that is known after an append and before a rotation
abbrev pub grown_size : LogPlan → List ℕ → ℕ
grown_size plan piece = min (plan.size + length piece) (2 ^ 64 - 1)

-- the orders that move a log up by one: the last backup first, the file itself last
abbrev pub moves : List ℕ → ℕ → List FileOrder
moves file zero = []
moves file (suc number) = Shift (kept file number) (kept file (suc number)) ∷ moves file number

-- the orders of an append
abbrev pub orders_of : LogPlan → List ℕ → List FileOrder
orders_of plan piece =
    if is_over plan.maxbytes (grown_size plan piece)
    then Append plan.file piece ∷ moves plan.file plan.backups ++ Fresh plan.file ∷ []
    else Append plan.file piece ∷ []

-- the plan after an append
abbrev pub after_append : LogPlan → List ℕ → LogPlan
after_append plan piece = record plan {
  size = if is_over plan.maxbytes (grown_size plan piece) then 0 else grown_size plan piece;
}
