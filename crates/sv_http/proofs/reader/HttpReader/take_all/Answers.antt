use Rattle.std.proofs.Common.{◌∙◌, ◌++◌, take, subst}
use Rattle.sv_http.proofs.Steps.{advances_more, part_taken}
use Rattle.sv_http.specs.ReaderPlaces.{Advances, shown}
use Rattle.sv_http.specs.declared.guard.Guard.{Guard}
use Rattle.sv_http.proofs.reader.HttpReader.take_all.Goals as goal

pub loop-rest-preserved : goal.loop-rest-preserved
loop-rest-preserved c =
    let before = c.loop-rest.invariant.advances in
    let front = take c.in_ok-count.count c.loop-rest.rest.now in
    let more : Advances c.args.self.now.guard (shown c.loop-rest.self c.loop-rest.asks.items) front (shown c.take.new.self c.take.new.asks.items)
    = subst (λ (guard : Guard). Advances guard (shown c.loop-rest.self c.loop-rest.asks.items) front (shown c.take.new.self c.take.new.asks.items))
    c.loop-rest.invariant.guard c.in_ok-count.ensures.advances in
    record {
      advances = (
        before.0 ++ front,
        part_taken c.args.piece.now before.0 c.loop-rest.rest.now c.in_ok-count.count before.1,
        advances_more c.args.self.now.guard (shown c.args.self.now c.args.asks.now.items) (shown c.loop-rest.self c.loop-rest.asks.items)
            (shown c.take.new.self c.take.new.asks.items) before.0 front before.2 more,
      );
      over = λ is. let was = c.loop-rest.invariant.over is in
          let now = c.in_ok-count.ensures.over was.1 in (now.0 ∙ was.0, now.1);
      guard = c.in_ok-count.ensures.guard ∙ c.loop-rest.invariant.guard;
    }
