use Rattle.std.proofs.Common.{◌≡◌, ◌-◌, ℕ, List, [], ◌∷◌, ◌++◌, length, drop, drop_of_length-le, append_assoc, length-drop, ap, sym, ◌∙◌, subst, arith}
use Rattle.std.proofs.lemmas.List.{drop-drop}
use Rattle.sv_listener.proofs.Hearings.{first_within, goes_event, goes_fault}
use Rattle.sv_listener.specs.Hearing.{first_of}
use Rattle.sv_listener.specs.Takes.{GoesOn}
use Rattle.sv_listener.specs.declared.events.Heard.{Heard}
use Rattle.sv_listener.specs.declared.first.First.TheVariants.{Fault, Whole}
use Rattle.sv_listener.proofs.side.take_events.Goals as goal

pub returns-in-Fault-clause-takes : goal.returns-in-Fault-clause-takes
returns-in-Fault-clause-takes c = λ stream earlier goes.
    let rest : List ℕ = drop c.events.count c.args.bytes.now in
    let is : first_of rest ≡ Fault c.in-Fault.fault = ap first_of (sym c.split_at.ensures.back) ∙ sym c.in_ok-first_of.ensures.first ∙ c.in-Fault.is in (
      goes_fault rest stream (earlier ++ c.events.events.items) c.in-Fault.fault (c.events.invariant.takes stream earlier goes) is,
      drop_of_length-le c.args.bytes.now (omega arith),
    )

pub events-preserved : goal.events-preserved
events-preserved c =
    let rest : List ℕ = drop c.events.count c.args.bytes.now in
    let is : first_of rest ≡ Whole c.in-Whole.event c.in-Whole.size
    = ap first_of (sym c.split_at.ensures.back) ∙ sym c.in_ok-first_of.ensures.first ∙ c.in-Whole.is in
    let within = first_within rest c.in-Whole.event c.in-Whole.size is in
    let left : length rest ≡ length c.args.bytes.now - c.events.count = length-drop c.events.count c.args.bytes.now in
    record {
      within = omega (arith, within.1, left, c.events.invariant.within);
      takes = λ stream earlier goes.
          let now = goes_event rest stream (earlier ++ c.events.events.items) c.in-Whole.event c.in-Whole.size (c.events.invariant.takes stream earlier goes) is in
          subst (λ (b : List ℕ). GoesOn b stream (earlier ++ c.push.new.self.items)) (drop-drop c.in-Whole.size c.events.count c.args.bytes.now)
          (subst (λ (e : List Heard). GoesOn (drop c.in-Whole.size rest) stream e)
          (append_assoc earlier c.events.events.items (c.in-Whole.event ∷ []) ∙ ap (λ e. earlier ++ e) (sym c.in_ok-push-in-Whole.ensures.items)) now);
    }
