use Rattle.sv_links.proofs.Accounts.{all_begun, in_order, only_last}
use Rattle.sv_links.proofs.laws.replies_are_in_order.Goals as goal

pub returns-clause-in_order : goal.returns-clause-in_order
returns-clause-in_order c = in_order

pub returns-clause-all_begun : goal.returns-clause-all_begun
returns-clause-all_begun c = all_begun

pub returns-clause-close : goal.returns-clause-close
returns-clause-close c = only_last
