use Rattle.std.proofs.Common.{Some, None, ap, sym}
use Rattle.sv_core.proofs.Left.{acting_of_none, calling_act, calling_none, made_at, same_at, stays_at, went_on}
use Rattle.sv_core.proofs.Shown.{at_same}
use Rattle.sv_core.specs.Calling.{read_answered}
use Rattle.sv_core.specs.Left.{acting_of, calling, calling_answered}
use Rattle.sv_core.specs.declared.place.Calling.{Calling}
use Rattle.sv_core.specs.declared.place.Calling.TheVariants as calling_is
use Rattle.sv_core.proofs.machine.Machine.go_on_in_call.Goals as goal

pub returns-in_ok-answer_read-in-Read-clause-goes : goal.returns-in_ok-answer_read-in-Read-clause-goes
returns-in_ok-answer_read-in-Read-clause-goes c = λ older w k s.
    let link = c.args.link in
    let v = read_answered link c.in-Read.reading c.args.reply w in
    at_same c.answer_read.new.self older _ (k v) _ (ap (λ (p : Calling). calling_answered link p c.args.reply w k) c.in-Read.is)
    (made_at c.answer_read.new.self older v k (calling link None k) (calling_none link k)
    (c.in_ok-answer_read-in-Read.ensures.answered older w s))

pub returns-in-None-clause-goes : goal.returns-in-None-clause-goes
returns-in-None-clause-goes c = λ older w k s.
    let link = c.args.link in
    at_same c.go_on_acting.new.self older _ _ _ (ap (λ (p : Calling). calling_answered link p c.args.reply w k) c.in-Act.is)
    (same_at c.go_on_acting.new.self older _ k (calling link None k) (λ v. sym (calling_none link k v))
    (went_on (acting_of link) (acting_of_none link) c.go_on_acting.new.self older _ _ k c.in-None.is
    (c.in_ok-go_on_acting-in-Act.ensures.goes older w k s)))

pub returns-in-Some-clause-goes : goal.returns-in-Some-clause-goes
returns-in-Some-clause-goes c = λ older w k s.
    let link = c.args.link in
    let p = c.in-Some.acting in
    at_same c.go_on_acting.new.self older _ _ _ (ap (λ (left : Calling). calling_answered link left c.args.reply w k) c.in-Act.is)
    (stays_at (acting_of link) c.go_on_acting.new.self older _ _ p k (calling link (Some (calling_is.Act p)) k)
    (λ v. sym (calling_act link p k v)) c.in-Some.is (c.in_ok-go_on_acting-in-Act.ensures.goes older w k s))
