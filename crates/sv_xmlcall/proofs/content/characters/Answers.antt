use Rattle.std.proofs.Common.{ℕ, List, Result, Ok, arith, sym, ap, ◌∙◌}
use Rattle.sv_xmlcall.proofs.Texts.{reaches_begin_at, reaches_more, reaches_end, open_begin, piece_open, whole_utf8}
use Rattle.sv_xmlcall.proofs.SimpleLaws.{ran, ran_open, ran_wide, ran_wide_open, stops_text}
use Rattle.sv_xmlcall.proofs.content.characters.Goals as goal

abbrev given : List ℕ → List ℕ → Result (List ℕ × List ℕ) ℕ
given text rest = Ok (text, rest)

pub loop-value-init : goal.loop-value-init
loop-value-init c = record {
  read = reaches_begin_at c.args.kept.now c.args.bytes.now c.in_ok-value.value.items c.in_ok-value.ensures.items;
  letters = open_begin c.args.kept.now c.in_ok-value.value.items c.in_ok-value.ensures.items c.requires;
  shorter = omega arith;
}

pub loop-value-preserved : goal.loop-value-preserved
loop-value-preserved c =
    let l = c.loop-value in
    let plain = c.in_ok-behind_run in
    let other = c.in_ok-then in
    let s = c.in-Ok-Some in
    let r = ran c.args.kept.now c.args.bytes.now l.value.items c.run.new.kept.items l.awaits l.rest.now plain.behind_run.now l.invariant.read plain.ensures.run plain.ensures.behind in
    let read = ran_wide c.args.kept.now c.args.bytes.now c.run.new.kept.items c.wide.new.kept.items l.awaits other.then plain.behind_run.now other.behind_wide.now r other.ensures.run other.ensures.next other.ensures.behind in
    let o = ran_open l.value.items c.run.new.kept.items l.awaits l.rest.now l.invariant.letters plain.ensures.run in
    let letters = ran_wide_open c.run.new.kept.items c.wide.new.kept.items l.awaits other.then plain.behind_run.now o other.ensures.run other.ensures.next in
    let v = rw s.field-0-is at s.ensures.value in
    let less = rw s.field-0-is at s.ensures.shorter in
    record {
      read = reaches_more c.args.kept.now c.args.bytes.now c.wide.new.kept.items c.piece.new.kept.items other.then s.next other.behind_wide.now s.behind.now read v less;
      letters = piece_open c.wide.new.kept.items other.then other.behind_wide.now c.piece.new.kept.items s.next s.behind.now letters v;
      shorter = omega (arith, less, other.ensures.shorter, plain.ensures.shorter, l.invariant.shorter);
    }

pub text_of-requires : goal.text_of-requires
text_of-requires c =
    let l = c.loop-value in
    let plain = c.in_ok-behind_run in
    let other = c.in_ok-then in
    let o = ran_open l.value.items c.run.new.kept.items l.awaits l.rest.now l.invariant.letters plain.ensures.run in
    let letters = ran_wide_open c.run.new.kept.items c.wide.new.kept.items l.awaits other.then plain.behind_run.now o other.ensures.run other.ensures.next in
    whole_utf8 c.wide.new.kept.items other.then other.behind_wide.now c.piece.new.kept.items letters (rw c.in-Ok-None.field-0-is at c.in-Ok-None.ensures.value)

pub returns-in-Ok-None-clause-value : goal.returns-in-Ok-None-clause-value
returns-in-Ok-None-clause-value c =
    let l = c.loop-value in
    let plain = c.in_ok-behind_run in
    let other = c.in_ok-then in
    let r = ran c.args.kept.now c.args.bytes.now l.value.items c.run.new.kept.items l.awaits l.rest.now plain.behind_run.now l.invariant.read plain.ensures.run plain.ensures.behind in
    let read = ran_wide c.args.kept.now c.args.bytes.now c.run.new.kept.items c.wide.new.kept.items l.awaits other.then plain.behind_run.now other.behind_wide.now r other.ensures.run other.ensures.next other.ensures.behind in
    reaches_end c.args.kept.now c.args.bytes.now c.wide.new.kept.items c.piece.new.kept.items other.then other.behind_wide.now read (rw c.in-Ok-None.field-0-is at c.in-Ok-None.ensures.value)
    ∙ ap (λ (x : List ℕ). given x other.behind_wide.now) (sym c.text_of.ensures)

pub returns-in-Err-clause-value : goal.returns-in-Err-clause-value
returns-in-Err-clause-value c =
    let l = c.loop-value in
    let plain = c.in_ok-behind_run in
    let other = c.in_ok-then in
    let r = ran c.args.kept.now c.args.bytes.now l.value.items c.run.new.kept.items l.awaits l.rest.now plain.behind_run.now l.invariant.read plain.ensures.run plain.ensures.behind in
    let read = ran_wide c.args.kept.now c.args.bytes.now c.run.new.kept.items c.wide.new.kept.items l.awaits other.then plain.behind_run.now other.behind_wide.now r other.ensures.run other.ensures.next other.ensures.behind in
    stops_text c.args.kept.now c.args.bytes.now c.wide.new.kept.items other.then other.behind_wide.now c.in-Err.stop read c.in-Err.ensures.value
