-- The day that is reached by counting has that number.
use Rattle.std.proofs.Common.{◌≡◌, ℕ, zero, suc, ◌+◌, ◌<◌, ◌≤◌, ◌⊎◌, inl, inr, pos, ◌+ℤ◌, unsigned_abs, Bool, true, false, nat_lt, refl, ap, arith, rules, add-one, lit≤}
use Rattle.std.proofs.lemmas.Bool.{ltb-true, ltb-false}
use Rattle.jiff_core.specs.Calendar.{days_from_civil, days_in_month, IsCivilDate}
use Rattle.jiff_core.specs.Date.{epoch_day}
use Rattle.jiff_core.specs.declared.civil.date.Date.{Date}
use Rattle.jiff_core.proofs.DateLemmas.{days_from_civil-day, days_from_civil-next_month, days_from_civil-next_year, days_from_civil-max, epoch_day_injective}
use Rattle.jiff_core.proofs.CalendarLemmas.{days_in_month_bounds}
use Rattle.jiff_core.proofs.SignedLemmas.{signed_arith}
use Rattle.jiff_core.proofs.StandardFacts.{known_days}
use Rattle.sv_logs.specs.Dates.{date_of, day_after, next_day, month_after, IsOfCalendar}
use Rattle.sv_logs.specs.declared.dates.Day.{Day}

-- a day of the calendar, with its number
pub record IsDay (n : ℕ) (d : Day) : Type 0 where
  pub civil : IsCivilDate (pos d.year) d.month d.day
  pub number : days_from_civil (pos d.year) d.month d.day ≡ pos n
  pub since : 1970 ≤ d.year

within_month : (n : ℕ) (d : Day) → IsDay n d → d.day < days_in_month (pos d.year) d.month → IsDay (n + 1) (next_day true d)
within_month n d is below = record {
  civil = (is.civil.0, is.civil.1, (omega arith, omega arith));
  number = omega (arith, signed_arith, is.number, days_from_civil-day (pos d.year) d.month d.day (d.day + 1) is.civil.2.0 (omega arith));
  since = is.since;
}

next_month : (n : ℕ) (d : Day) → IsDay n d → d.day ≡ days_in_month (pos d.year) d.month → d.month < 12 → IsDay (n + 1) (month_after true d)
next_month n d is last below = record {
  civil = (is.civil.0, (omega arith, omega arith), (omega arith, omega (arith, days_in_month_bounds (pos d.year) (d.month + 1))));
  number = omega (arith, signed_arith, is.number, days_from_civil-next_month (pos d.year) d.month d.day is.civil.1.0 last);
  since = is.since;
}

below_or_at : (a b : ℕ) → a ≤ b → (a < b) ⊎ (a ≡ b)
below_or_at a b h = grind arith

next_year : (n : ℕ) (d : Day) → n < 2_930_000 → IsDay n d → d.day ≡ days_in_month (pos d.year) d.month → d.month ≡ 12 → IsDay (n + 1) (month_after false d)
next_year n d few is last december =
    let thirty_one : d.day ≡ 31 = rw december at last in
    let there : days_from_civil (pos d.year) 12 31 ≡ pos n = rw (december, thirty_one) at is.number in
    elim (below_or_at d.year 9999 (omega (arith, signed_arith, is.civil.0.1))) [
      | inl before ↦ record {
        civil = ((omega (arith, signed_arith), omega (arith, signed_arith)), (lit≤ tt, lit≤ tt), (lit≤ tt, omega (arith, days_in_month_bounds (pos (d.year + 1)) 1)));
        number = omega (arith, signed_arith, there, days_from_civil-next_year (pos d.year) (pos (d.year + 1)) (omega (arith, signed_arith)) refl);
        since = omega (arith, is.since);
      }
      | inr at ↦
          let end : pos d.year ≡ pos 9999 = ap pos at in
          absurd (omega (arith, signed_arith, few, days_from_civil-max, rw end at there))
    ]

month_passes : (last : Bool) (n : ℕ) (d : Day) → n < 2_930_000 → IsDay n d → d.day ≡ days_in_month (pos d.year) d.month → nat_lt d.month 12 ≡ last → IsDay (n + 1) (month_after last d)
month_passes true n d few is last e = next_month n d is last (ltb-true d.month 12 e)
month_passes false n d few is last e =
    next_year n d few is last (omega (arith, ltb-false d.month 12 e, is.civil.1.1))

day_passes : (within : Bool) (n : ℕ) (d : Day) → n < 2_930_000 → IsDay n d → nat_lt d.day (days_in_month (pos d.year) d.month) ≡ within → IsDay (n + 1) (next_day within d)
day_passes true n d few is e = within_month n d is (ltb-true d.day (days_in_month (pos d.year) d.month) e)
day_passes false n d few is e =
    month_passes (nat_lt d.month 12) n d few is (omega (arith, ltb-false d.day (days_in_month (pos d.year) d.month) e, is.civil.2.1)) refl

-- the day after, long before the calendar's end
one_more : (n : ℕ) (d : Day) → n < 2_930_000 → IsDay n d → IsDay (n + 1) (day_after d)
one_more n d few is = day_passes (nat_lt d.day (days_in_month (pos d.year) d.month)) n d few is refl

first_day : IsDay 0 (date_of 0)
unfolding date_of
first_day = record { civil = search rules; number = known_days.0; since = search rules }

is_day : (n : ℕ) → n ≤ 2_930_000 → IsDay n (date_of n)
unfolding date_of
is_day zero few = first_day
is_day (suc n) few = rw (← add-one) (one_more n (date_of n) (omega arith) (is_day n (omega arith)))

same_day : (reached : Day) (year month day : ℕ) → year ≡ reached.year → month ≡ reached.month → day ≡ reached.day
    → (record { year = year; month = month; day = day }) ≡ reached
same_day reached year month day ey em ed = rw (ey, em, ed) refl

-- the date of a day number is the date that is reached by counting
counted : (d : Date) (n : ℕ) → n ≤ 2928240 → epoch_day d +ℤ pos 4371587 ≡ pos (n + 4371587)
    → (d.year ≡ pos (date_of n).year) × (d.month ≡ (date_of n).month) × (d.day ≡ (date_of n).day)
counted d n few e =
    let is = is_day n (omega arith) in
    let reached : Date = record { year = pos (date_of n).year; month = (date_of n).month; day = (date_of n).day; year_in = is.civil.0; month_in = is.civil.1; day_in = is.civil.2 } in
    epoch_day_injective d reached (omega (arith, signed_arith, e, is.number))

-- and it is one of the calendar
pub of_calendar : (n : ℕ) → n ≤ 2928240 → IsOfCalendar (date_of n)
of_calendar n few =
    let is = is_day n (omega arith) in
    record {
      since = is.since;
      year = omega (arith, signed_arith, is.civil.0.1);
      month = is.civil.1.1;
      day = omega (arith, is.civil.2.1, days_in_month_bounds (pos (date_of n).year) (date_of n).month);
    }

-- the parts of the date of a day number
pub is_date : (d : Date) (n year : ℕ) → n ≤ 2928240 → epoch_day d +ℤ pos 4371587 ≡ pos (n + 4371587) → year ≡ unsigned_abs d.year
    → (record { year = year; month = d.month; day = d.day }) ≡ date_of n
is_date d n year few e is_year =
    let is = counted d n few e in
    same_day (date_of n) year d.month d.day (rw is.0 at is_year) is.1 is.2
