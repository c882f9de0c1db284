-- The date of a day that is counted from 1 January 1970.
use Rattle.std.specs.Prelude.{ℕ, zero, suc, ◌+◌, ◌/◌, ◌%◌, ◌≤◌, List, [], ◌∷◌, pos, Bool, true}
use Rattle.std.specs.Prelude.{false, nat_lt}
use Rattle.jiff_core.specs.Calendar.{days_in_month}
use Rattle.sv_logs.specs.declared.dates.Day.{Day}

-- the first day of the month after, or of the year after
abbrev pub month_after : Bool → Day → Day
month_after true d = record { year = d.year; month = d.month + 1; day = 1 }
month_after false d = record { year = d.year + 1; month = 1; day = 1 }

-- the day after, within the month or not
abbrev pub next_day : Bool → Day → Day
next_day true d = record { year = d.year; month = d.month; day = d.day + 1 }
next_day false d = month_after (nat_lt d.month 12) d

-- the day after, by the lengths of the months
abbrev pub day_after : Day → Day
day_after d = next_day (nat_lt d.day (days_in_month (pos d.year) d.month)) d

-- the date so many days after 1 January 1970
unfoldable pub date_of : ℕ → Day
date_of zero = record { year = 1970; month = 1; day = 1 }
date_of (suc n) = day_after (date_of n)

-- a year of four digits, one of twelve months, one of at most 31 days
pub record IsOfCalendar (d : Day) : Type 0 where
  pub since : 1970 ≤ d.year
  pub year : d.year ≤ 9999
  pub month : d.month ≤ 12
  pub day : d.day ≤ 31

-- a number below 100 by two digits, as in the texts of dates and times
abbrev pub two_digits : ℕ → List ℕ
two_digits n = (48 + n / 10) ∷ (48 + n % 10) ∷ []
