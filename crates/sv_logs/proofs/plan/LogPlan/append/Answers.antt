use Rattle.std.proofs.Common.{◌≡◌, ◌^◌, ◌<◌, arith, rules}
use Rattle.sv_logs.specs.Rotation.{after_append}
use Rattle.sv_logs.proofs.Rotating.{is_appended, is_known}
use Rattle.sv_logs.proofs.plan.LogPlan.append.Goals as goal

pub returns-clause-files : goal.returns-clause-files
returns-clause-files c = λ files known.
    let few : c.args.self.now.backups < 2 ^ 64 = omega (arith, c.in_ok-orders.ensures.few) in
    rw c.in_ok-orders.ensures.orders (is_appended c.args.self.now c.args.piece.now files (omega arith) few known)

pub returns-clause-known : goal.returns-clause-known
returns-clause-known c = λ files known.
    let few : c.args.self.now.backups < 2 ^ 64 = omega (arith, c.in_ok-orders.ensures.few) in
    let size : c.if-is_over.self ≡ (after_append c.args.self.now c.args.piece.now).size = search rules in
    rw (c.in_ok-orders.ensures.orders, size) (is_known c.args.self.now c.args.piece.now files few known)
