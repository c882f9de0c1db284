-- The texts of times: how long a process is up, and when it stopped.
use Rattle.std.specs.Prelude.{ℕ, ◌+◌, ◌-◌, ◌/◌, ◌%◌, List, [], ◌∷◌, ◌++◌, Option, Some, None, codes}
use Rattle.std.specs.Prelude.{◌==◌, nat_lt, if◌then◌else◌}
use Rattle.std.specs.Fmt.{decimal}
use Rattle.sv_base.specs.Ascii.{colon, space}
use Rattle.sv_logs.specs.Dates.{date_of, two_digits}
use Rattle.sv_logs.specs.declared.dates.Day.{Day}

-- H:MM:SS of seconds
abbrev pub hours_text : ℕ → List ℕ
hours_text s = decimal (s / 3600) ++ colon ∷ two_digits (s / 60 % 60) ++ colon ∷ two_digits (s % 60)

-- the days before it, from one day on
abbrev pub days_text : ℕ → List ℕ
days_text n =
    if n == 0 then [] else if n == 1 then codes "1 day, " else decimal n ++ codes " days, "

-- how long so many seconds are
abbrev pub uptime_text : ℕ → List ℕ
uptime_text s = days_text (s / 86400) ++ hours_text (s % 86400)

-- whole seconds from a start to now; none where there was no start
abbrev pub seconds_since : Option ℕ → ℕ → ℕ
seconds_since None now = 0
seconds_since (Some start) now = (now - start) / 1000

-- the English name of a month by three letters
abbrev pub month_name : ℕ → List ℕ
month_name month =
    if month == 1 then codes "Jan"
    else if month == 2 then codes "Feb"
    else if month == 3 then codes "Mar"
    else if month == 4 then codes "Apr"
    else if month == 5 then codes "May"
    else if month == 6 then codes "Jun"
    else if month == 7 then codes "Jul"
    else if month == 8 then codes "Aug"
    else if month == 9 then codes "Sep"
    else if month == 10 then codes "Oct"
    else if month == 11 then codes "Nov"
    else codes "Dec"

-- the hour by twelve, and the half of the day
abbrev pub hour_of_twelve : ℕ → ℕ
hour_of_twelve hour = if hour % 12 == 0 then 12 else hour % 12

-- the half of the day of an hour
abbrev pub half_name : ℕ → List ℕ
half_name hour = if nat_lt hour 12 then codes "AM" else codes "PM"

-- HH:MM AM of the minutes of a day
abbrev pub clock_text : ℕ → List ℕ
clock_text minutes =
    two_digits (hour_of_twelve (minutes / 60)) ++ colon ∷ two_digits (minutes % 60)
    ++ space ∷ half_name (minutes / 60)

-- Mon DD
abbrev pub day_text : Day → List ℕ
day_text day = month_name day.month ++ space ∷ two_digits day.day

-- Mon DD HH:MM AM of a moment, in UTC
abbrev pub moment_text : ℕ → List ℕ
moment_text moment =
    day_text (date_of (moment / 86400000)) ++ space ∷ clock_text (moment % 86400000 / 60000)
