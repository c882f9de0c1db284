use Rattle.std.proofs.Common.{Some, None, pos, ap, subst, sym}
use Rattle.sv_core.proofs.Left.{acting_of_none, calling_act, calling_none, calling_read, made_at, reading_none, same_at, stays_at, went_on}
use Rattle.sv_core.proofs.Shown.{at_same}
use Rattle.sv_core.specs.Calling.{answers_call, comes_of}
use Rattle.sv_core.specs.Left.{acting_of, calling, reading}
use Rattle.sv_core.specs.StandsFor.{Shows}
use Rattle.sv_core.specs.declared.place.Calling.TheVariants as calling_is
use Rattle.sv_methods.specs.Outcomes.{outcome}
use Rattle.sv_methods.specs.declared.planned.Planned.{Planned}
use Rattle.sv_xmlcall.specs.Trees.{Reply, Faults, Returns, view}
use Rattle.sv_core.proofs.machine.Machine.come_of.Goals as goal

pub returns-in-Now-clause-comes : goal.returns-in-Now-clause-comes
returns-in-Now-clause-comes c = λ older w k s.
    let link = c.args.link in
    let v = answers_call link (Returns (view c.in-Now.value)) w in
    at_same c.answer_call.new.self older _ (k v) _ (ap (λ (planned : Planned). comes_of link c.args.subject (outcome planned) w k) c.in-Now.is)
    (made_at c.answer_call.new.self older v k (calling link None k) (calling_none link k)
    (c.in_ok-answer_call-in-Now.ensures.answers older w s))

pub returns-in-Fault-clause-comes : goal.returns-in-Fault-clause-comes
returns-in-Fault-clause-comes c = λ older w k s.
    let link = c.args.link in
    let fault = c.in-Fault.text in
    let v = answers_call link (Faults (pos c.in-Fault.number) fault) w in
    let y = c.answer_call-in-Fault.new.self in
    at_same y older _ (k v) _ (ap (λ (planned : Planned). comes_of link c.args.subject (outcome planned) w k) c.in-Fault.is)
    (made_at y older v k (calling link None k) (calling_none link k)
    (subst (λ (reply : Reply). Shows y older (answers_call link reply w)) c.faulted.ensures
    (c.in_ok-answer_call-in-Fault.ensures.answers older w s)))

pub returns-in-None-clause-comes : goal.returns-in-None-clause-comes
returns-in-None-clause-comes c = λ older w k s.
    let link = c.args.link in
    let y = c.act_for.new.self in
    at_same y older _ _ _ (ap (λ (planned : Planned). comes_of link c.args.subject (outcome planned) w k) c.in-Do.is)
    (same_at y older _ k (calling link None k) (λ v. sym (calling_none link k v))
    (went_on (acting_of link) (acting_of_none link) y older _ _ k c.in-None.is (c.in_ok-act_for-in-Do.ensures.acts older w k s)))

pub returns-in-Do-clause-comes : goal.returns-in-Do-clause-comes
returns-in-Do-clause-comes c = λ older w k s.
    let link = c.args.link in
    let y = c.act_for.new.self in
    let p = c.in-Some.acting in
    at_same y older _ _ _ (ap (λ (planned : Planned). comes_of link c.args.subject (outcome planned) w k) c.in-Do.is)
    (stays_at (acting_of link) y older _ _ p k (calling link (Some (calling_is.Act p)) k) (λ v. sym (calling_act link p k v)) c.in-Some.is
    (c.in_ok-act_for-in-Do.ensures.acts older w k s))

pub returns-in-None-2-clause-comes : goal.returns-in-None-2-clause-comes
returns-in-None-2-clause-comes c = λ older w k s.
    let link = c.args.link in
    let y = c.read.new.self in
    at_same y older _ _ _ (ap (λ (planned : Planned). comes_of link c.args.subject (outcome planned) w k) c.in-Read.is)
    (same_at y older _ k (calling link None k) (λ v. sym (calling_none link k v))
    (went_on (reading link) (reading_none link) y older _ _ k c.in-None-2.is (c.in_ok-read-in-Read.ensures.reads older w k s)))

pub returns-clause-comes : goal.returns-clause-comes
returns-clause-comes c = λ older w k s.
    let link = c.args.link in
    let y = c.read.new.self in
    let p = c.in-Some-2.reading in
    at_same y older _ _ _ (ap (λ (planned : Planned). comes_of link c.args.subject (outcome planned) w k) c.in-Read.is)
    (stays_at (reading link) y older _ _ p k (calling link (Some (calling_is.Read p)) k) (λ v. sym (calling_read link p k v)) c.in-Some-2.is
    (c.in_ok-read-in-Read.ensures.reads older w k s))
