use Rattle.std.proofs.Common.{◌∙◌, ◌<◌, ◌++◌, List, ℕ, ap, subst, length, take, arith, MatchOption}
use Rattle.std.proofs.lemmas.List.{length-take}
use Rattle.sv_http.specs.ReaderPlaces.{shown, IsFound, IsSearched}
use Rattle.sv_http.proofs.Advances.{begun_take}
use Rattle.sv_http.proofs.Steps.{whole_taken, searched_taken, front_taken, when_none, when_some}
use Rattle.sv_http.proofs.reader.HttpReader.take_head.Goals as goal

pub returns-in_ok-end_head-in-None-clause-advances :
    goal.returns-in_ok-end_head-in-None-clause-advances
returns-in_ok-end_head-in-None-clause-advances c =
    let front = front_taken c.look-count.result.0 c.min.result c.args.bytes.now c.look-count.ensures.most in
    let some : 0 < c.look-count.result.0
    = c.look-count.ensures.least (omega (arith, c.requires.some, c.min.ensures, c.max-room.ensures, length-take c.min.result c.args.bytes.now)) in
    whole_taken c.args.self.now.guard c.args.self.now.place c.args.line c.args.self.now.head.items c.args.self.now.body.items
    c.extend_from_slice.new.self.items (take c.look-count.result.0 c.args.bytes.now) c.args.asks.now.items
    (shown c.end_head.new.self c.end_head.new.asks.items) c.requires.place
    (c.in_ok-extend_from_slice.ensures.items ∙ ap (λ back. c.args.self.now.head.items ++ back) front)
    (λ empty. begun_take c.look-count.result.0 c.args.bytes.now some (c.requires.begun empty))
    (λ earlier searched. when_none c.look-count.result.1 (IsFound (earlier ++ take c.look-count.result.0 c.args.bytes.now))
    (IsSearched (earlier ++ take c.look-count.result.0 c.args.bytes.now)) c.in-None.is
    (subst (λ (part : List ℕ). MatchOption c.look-count.result.1 (IsFound (earlier ++ part)) (IsSearched (earlier ++ part))) front
    (c.look-count.ensures.searched earlier searched)))
    (omega (
      arith,
      c.look-count.ensures.most,
      c.min.ensures,
      c.max-room.ensures,
      c.saturating_sub.ensures,
      ap length c.as_slice.ensures.value,
      length-take c.min.result c.args.bytes.now,
      length-take c.look-count.result.0 c.args.bytes.now,
    ))
    c.in_ok-end_head-in-None.ensures.ends

pub returns-in_ok-go_on-in-Some-clause-advances :
    goal.returns-in_ok-go_on-in-Some-clause-advances
returns-in_ok-go_on-in-Some-clause-advances c =
    let front = front_taken c.look-count.result.0 c.min.result c.args.bytes.now c.look-count.ensures.most in
    let some : 0 < c.look-count.result.0
    = c.look-count.ensures.least (omega (arith, c.requires.some, c.min.ensures, c.max-room.ensures, length-take c.min.result c.args.bytes.now)) in
    searched_taken c.args.self.now.guard c.args.self.now.place c.args.line c.in-Some.line c.args.self.now.head.items c.args.self.now.body.items
    c.extend_from_slice.new.self.items (take c.look-count.result.0 c.args.bytes.now) c.args.asks.now.items
    (shown c.go_on.new.self c.go_on.new.asks.items) c.requires.place
    (c.in_ok-extend_from_slice.ensures.items ∙ ap (λ back. c.args.self.now.head.items ++ back) front)
    (λ empty. begun_take c.look-count.result.0 c.args.bytes.now some (c.requires.begun empty))
    (λ earlier searched. when_some c.look-count.result.1 (IsFound (earlier ++ take c.look-count.result.0 c.args.bytes.now))
    (IsSearched (earlier ++ take c.look-count.result.0 c.args.bytes.now)) c.in-Some.line c.in-Some.is
    (subst (λ (part : List ℕ). MatchOption c.look-count.result.1 (IsFound (earlier ++ part)) (IsSearched (earlier ++ part))) front
    (c.look-count.ensures.searched earlier searched)))
    (omega (
      arith,
      c.look-count.ensures.most,
      c.min.ensures,
      c.max-room.ensures,
      c.saturating_sub.ensures,
      ap length c.as_slice.ensures.value,
      length-take c.min.result c.args.bytes.now,
      length-take c.look-count.result.0 c.args.bytes.now,
    ))
    c.in_ok-go_on-in-Some.ensures.goes_on
