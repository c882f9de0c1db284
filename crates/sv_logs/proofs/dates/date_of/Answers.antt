use Rattle.std.proofs.Common.{◌≤◌, ◌/◌, arith, subst, sym}
use Rattle.sv_logs.specs.Dates.{IsOfCalendar}
use Rattle.sv_logs.proofs.DateLaws.{is_date, of_calendar}
use Rattle.sv_logs.proofs.dates.date_of.Goals as goal

pub returns-clause-date : goal.returns-clause-date
returns-clause-date c =
    let few : c.args.moment / 86400000 ≤ 2928240 = omega arith in
    is_date c.civil_date-date.result (c.args.moment / 86400000) c.year_of.result few
    (rw c.milliseconds.ensures.value at c.civil_date-date.ensures) c.year_of.ensures

pub returns-clause-calendar : goal.returns-clause-calendar
returns-clause-calendar c =
    let few : c.args.moment / 86400000 ≤ 2928240 = omega arith in
    subst IsOfCalendar (sym (is_date c.civil_date-date.result (c.args.moment / 86400000) c.year_of.result few
    (rw c.milliseconds.ensures.value at c.civil_date-date.ensures) c.year_of.ensures))
    (of_calendar (c.args.moment / 86400000) few)
