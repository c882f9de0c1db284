use Rattle.std.proofs.Common.{◌≡◌, ◌<◌, ◌++◌, length, sym, ◌∙◌, arith}
use Rattle.std.proofs.lemmas.List.{take-append-drop}
use Rattle.sv_pipes.proofs.ResultBytes.{body_goes}
use Rattle.sv_pipes.proofs.talk.ListenerTalk.take_all.Goals as goal

pub loop-rest-preserved-in-Body : goal.loop-rest-preserved-in-Body
loop-rest-preserved-in-Body c =
    let me = c.loop-rest.self in
    let front = c.split_at.result.0.now in
    let back = c.split_at.result.1.now in
    let rest = c.loop-rest.rest.now in
    let short : length me.held.items < c.in-Body.number = rw c.in-Body.is at me.open_result in
    let split : rest ≡ front ++ back
    = rw (c.split_at.ensures.front, c.split_at.ensures.back) (sym (take-append-drop c.min.result rest)) in
    body_goes c.in-Body.count c.in-Body.number me.held.items front back rest c.loop-rest.tokens.items me.place _ c.in-Body.is
    (omega (arith, short)) (omega (arith, short)) split c.in_ok-body.ensures
    ∙ c.loop-rest.invariant
