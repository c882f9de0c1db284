use Rattle.std.proofs.Common.{ap, length, take, arith}
use Rattle.std.proofs.lemmas.List.{length-take}
use Rattle.sv_http.specs.ReaderPlaces.{shown}
use Rattle.sv_http.proofs.Steps.{call_taken}
use Rattle.sv_http.proofs.reader.HttpReader.take_body.Goals as goal

pub returns-in_ok-call-clause-advances : goal.returns-in_ok-call-clause-advances
returns-in_ok-call-clause-advances c =
    call_taken c.args.self.now.guard c.args.self.now.place c.args.size c.args.close c.args.self.now.head.items c.args.self.now.body.items
    c.extend_from_slice.new.self.items (take c.min-count.result c.args.bytes.now) c.args.asks.now.items
    (shown c.call.new.self c.call.new.asks.items) c.requires.place c.in_ok-extend_from_slice.ensures.items
    (omega (arith, c.if-as_slice-size.true, ap length c.as_slice-2.ensures.value))
    (omega (arith, c.min-count.ensures, c.max-room.ensures, c.saturating_sub.ensures, ap length c.as_slice.ensures.value, length-take c.min-count.result c.args.bytes.now))
    c.in_ok-call.ensures.called
