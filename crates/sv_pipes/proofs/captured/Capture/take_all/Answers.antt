use Rattle.std.proofs.Common.{◌≡◌, ◌++◌, ℕ, sym, ◌∙◌, subst}
use Rattle.std.proofs.lemmas.List.{take-append-drop}
use Rattle.sv_pipes.proofs.PlainBytes.{goes_behind}
use Rattle.sv_pipes.specs.CapturePlaces.{CaptureState, shown, steps}
use Rattle.sv_pipes.proofs.captured.Capture.take_all.Goals as goal

pub loop-rest-preserved : goal.loop-rest-preserved
loop-rest-preserved c =
    let was = c.loop-rest.invariant in
    let is = c.in_ok-take_plain.ensures in
    let front = c.split_at.result.0.now in
    let back = c.split_at.result.1.now in
    let rest = c.loop-rest.rest.now in
    let reading : CaptureState = shown c.loop-rest.self c.loop-rest.parts.items c.loop-rest.logged.items in
    let after : CaptureState = shown c.take_plain.new.self c.loop-rest.parts.items c.take_plain.new.logged.items in
    let split : rest ≡ front ++ back
    = rw (c.split_at.ensures.front, c.split_at.ensures.back) (sym (take-append-drop c.plain_front-front.result rest)) in
    record {
      same = subst (λ (limit : ℕ). steps limit after back ≡ steps limit reading rest) was.limit
          (goes_behind c.loop-rest.self.limit front back rest reading after split (is.steps c.loop-rest.parts.items)) ∙ was.same;
      limit = is.limit ∙ was.limit;
      broken = is.broken ∙ was.broken;
    }
