-- Keys and values that mean something else here although both read them alike: when a row of the table applies.
use Rattle.std.specs.Prelude.{ℕ, List, Bool, true, ◌&&◌, not, nat_eq}
use Rattle.std.specs.List.{list_any, starts_with}
use Rattle.std.specs.Str.{bytes_eq, str_to_ascii_lowercase}
use Rattle.sv_moving.specs.declared.meaning.Meaning.{Meaning}
use Rattle.sv_moving.specs.declared.rows.Row.{Row}
use Rattle.sv_moving.specs.declared.rows.Test.{Test}
use Rattle.sv_moving.specs.declared.rows.Test.TheVariants.{Always, Is, IsNot, Says, SaysNot, Begins}

-- whether a value passes a test
abbrev pub passes : Test → List ℕ → Bool
passes Always value = true
passes (Is words) value = list_any (λ word. bytes_eq word.now value) words.now
passes (IsNot words) value = not (list_any (λ word. bytes_eq word.now value) words.now)
passes (Says words) value =
    list_any (λ word. bytes_eq (str_to_ascii_lowercase value) (str_to_ascii_lowercase word.now)) words.now
passes (SaysNot words) value =
    not (list_any (λ word. bytes_eq (str_to_ascii_lowercase value) (str_to_ascii_lowercase word.now)) words.now)
passes (Begins word) value = starts_with nat_eq value word.now

-- whether the section's name begins like one of the row's titles, the key is the row's, and the value passes
-- its test
abbrev pub applies : Row → Meaning → Bool
applies row meaning =
    (list_any (λ title. starts_with nat_eq meaning.section title.now) row.titles.now
    && bytes_eq meaning.key row.key.now)
    && passes row.test meaning.value
