use Rattle.std.proofs.Common.{◌++◌, drop, ap, sym, ◌∙◌, refl}
use Rattle.sv_listener.proofs.Hearings.{fed, stands_hearing}
use Rattle.sv_listener.specs.Hearing.{Hearing}
use Rattle.sv_listener.proofs.side.ListenerSide.feed_into.Goals as goal

stands_after : goal.returns-clause-heard
stands_after c = λ stream events stands. (
  refl,
  fed c.args.self.now.held.items c.args.piece.now c.as_slice.result.now c.in_ok-self.field-0.items (drop c.in_ok-taken.taken.count c.as_slice.result.now) c.args.self.now.fault c.in_ok-taken.taken.fault
      c.clear.new.self.items c.take_events.new.events.items stream events (sym c.is_some.ensures ∙ c.if-is_some.false)
      (c.as_slice.ensures.value ∙ c.in_ok-extend_from_slice.ensures.items ∙ ap (λ b. b.items ++ c.args.piece.now) c.replace-bytes.ensures.value)
      c.clear.ensures.items c.in_ok-taken.ensures.takes
      (c.in_ok-self.ensures ∙ ap (λ b. drop c.in_ok-taken.taken.count b) (sym c.as_slice.ensures.value)) stands.1,
)

pub returns-clause-heard : goal.returns-clause-heard
returns-clause-heard c = stands_after c

pub returns-clause-read : goal.returns-clause-read
returns-clause-read c = λ stream events stands.
    let now = stands_after c stream events stands in
    sym (ap (λ (h : Hearing). h.events)
    (stands_hearing c.in_ok-taken.taken.fault c.in_ok-self.field-0.items (stream ++ c.args.piece.now) (events ++ c.take_events.new.events.items) now.1))
