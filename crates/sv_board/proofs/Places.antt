-- The row of a report's process.
use Rattle.std.proofs.Common.{◌≡◌, ℕ, Bool, true, false, ◌&&◌, List, slice_index_or, slice_set, Some, sym, refl, ap, ◌∙◌, subst}
use Rattle.std.proofs.lemmas.List.Quantifiers.{position-Some}
use Rattle.std.proofs.lemmas.Slice.Eq.{bytes_eq-Decides}
use Rattle.std.specs.List.{position}
use Rattle.std.specs.Str.{bytes_eq}
use Rattle.sv_board.specs.Board.{after, is_of, put_row, row_of}
use Rattle.sv_board.specs.declared.row.Report.{Report}
use Rattle.sv_board.specs.declared.row.Row.{Row}

both_true : (a b : Bool) → (a && b) ≡ true → (a ≡ true) × (b ≡ true)
both_true true b e = (refl, e)
both_true false b e = cc

-- a row with the state of a report of its process is the report's row
changed_row : (r : Report) (row : Row) → is_of r row ≡ true → record { group = row.group; name = row.name; state = r.to } ≡ row_of r
changed_row r row is =
    let both = both_true (bytes_eq row.group r.group) (bytes_eq row.name r.name) is in
    let group : row.group ≡ r.group = (bytes_eq-Decides row.group r.group).0 both.0 in
    let name : row.name ≡ r.name = (bytes_eq-Decides row.name r.name).0 both.1 in
    λ i. record { group = group i; name = name i; state = r.to }

-- the change of the state of the row at the place of a report's process
pub changed : (rows : List Row) (r : Report) (place : ℕ) (row : Row) → position (is_of r) rows ≡ Some place → row ≡ slice_index_or rows place row
    → slice_set rows place (record { group = row.group; name = row.name; state = r.to }) ≡ after rows r
changed rows r place row found at =
    let is : is_of r row ≡ true = subst (λ (x : Row). is_of r x ≡ true) (sym at) ((position-Some (is_of r) rows place row found).1) in
    ap (slice_set rows place) (changed_row r row is) ∙ sym (ap (put_row rows (row_of r)) found)
