use Rattle.std.proofs.Common.{refl}
use Rattle.sv_core_laws.proofs.NumbersBegin.{begin_again}
use Rattle.sv_core.specs.Sweeps.{asks}
use Rattle.sv_core_laws.proofs.worked_journals.Goals as goal

pub returns-clause-starts_stays_up_and_exits : goal.returns-clause-starts_stays_up_and_exits
unfolding asks
returns-clause-starts_stays_up_and_exits c = λ rest. refl

pub returns-clause-three_retries_then_fatal : goal.returns-clause-three_retries_then_fatal
unfolding asks
returns-clause-three_retries_then_fatal c = λ rest. refl

pub returns-clause-up_at_once : goal.returns-clause-up_at_once
unfolding asks
returns-clause-up_at_once c = λ rest. refl

pub returns-clause-clock_goes_back : goal.returns-clause-clock_goes_back
unfolding asks
returns-clause-clock_goes_back c = λ rest. refl

pub returns-clause-kill_at_each_deadline : goal.returns-clause-kill_at_each_deadline
unfolding asks
returns-clause-kill_at_each_deadline c = λ rest. refl

pub returns-clause-spawn_that_fails : goal.returns-clause-spawn_that_fails
unfolding asks
returns-clause-spawn_that_fails c = λ rest. refl

pub returns-clause-groups_stop_one_by_one : goal.returns-clause-groups_stop_one_by_one
unfolding asks
returns-clause-groups_stop_one_by_one c = λ rest. refl

pub returns-clause-no_run_number_left : goal.returns-clause-no_run_number_left
unfolding asks
returns-clause-no_run_number_left c = λ rest. refl

pub returns-clause-order_numbers_begin_again : goal.returns-clause-order_numbers_begin_again
returns-clause-order_numbers_begin_again c = begin_again
