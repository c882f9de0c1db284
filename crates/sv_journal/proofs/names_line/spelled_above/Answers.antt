use Rattle.std.proofs.Common.{◌≡◌, ◌-◌, length, take, drop, ap, ◌∙◌}
use Rattle.sv_journal.specs.Reading.{token_from, with_front}
use Rattle.sv_journal.specs.Reading.Stage.{Between}
use Rattle.sv_journal.specs.Names.{above_from}
use Rattle.sv_letters.specs.declared.letters.Letters.TheVariants.{OfText}
use Rattle.sv_letters.specs.declared.letters.Awaits.{Awaits}
use Rattle.sv_letters.specs.declared.letters.Awaits.TheVariants.{Character}
use Rattle.sv_journal.proofs.ReadingNames.{tied_at, lifted_at, last_at}
use Rattle.sv_journal.proofs.names_line.spelled_above.Goals as goal

pub returns-then-next-same : goal.returns-then-next-same
returns-then-next-same c =
    let all = above_from c.args.below.now Character c.args.bytes.now in
    let read : with_front c.push.new.self.items (token_from OfText (Between c.after-awaits.result) c.in_ok-next.after.now) ≡ all =
    ap (λ (a : Awaits). with_front c.push.new.self.items (token_from OfText (Between a) c.in_ok-next.after.now)) c.after-awaits.ensures
    ∙ lifted_at c.loop-left.left.now c.loop-left.awaits c.loop-left.rest.now c.loop-left.value.items c.push.new.self.items c.in_ok-next.next c.in_ok-next.after.now all
    c.in-len1-up.len_at_least c.in_ok-next.ensures c.in_ok-push.ensures.items c.if-next-same.true c.loop-left.invariant in
    rw (← read) c.spelled_behind.ensures

pub loop-left-preserved : goal.loop-left-preserved
loop-left-preserved c =
    ap (λ (a : Awaits). with_front c.push.new.self.items (above_from (take (length c.loop-left.left.now - 1) (drop 1 c.loop-left.left.now)) a c.in_ok-next.after.now)) c.after-awaits.ensures
    ∙ tied_at c.loop-left.left.now c.loop-left.awaits c.loop-left.rest.now c.loop-left.value.items c.push.new.self.items c.in_ok-next.next c.in_ok-next.after.now
    (above_from c.args.below.now Character c.args.bytes.now) c.in-len1-up.len_at_least c.in_ok-next.ensures c.in_ok-push.ensures.items c.if-next-same.false c.loop-left.invariant

pub returns : goal.returns
returns c =
    let all = above_from c.args.below.now Character c.args.bytes.now in
    let read : with_front c.push-2.new.self.items (token_from OfText (Between c.after.result) c.in_ok-next-2.after.now) ≡ all =
    ap (λ (a : Awaits). with_front c.push-2.new.self.items (token_from OfText (Between a) c.in_ok-next-2.after.now)) c.after.ensures
    ∙ last_at c.loop-left.left.now c.loop-left.awaits c.loop-left.rest.now c.loop-left.value.items c.push-2.new.self.items c.in_ok-next-2.next c.in_ok-next-2.after.now all
    c.in_default.len_below c.in_ok-next-2.ensures c.in_ok-push-2.ensures.items c.loop-left.invariant in
    rw (← read) c.spelled_behind-2.ensures
