use Rattle.std.proofs.Common.{arith, ◌≡◌, ◌≤◌, ℕ, subst, sym}
use Rattle.sv_core.specs.Deeds.{deeds}
use Rattle.sv_generated.specs.Drawn.{HasDrawn}
use Rattle.sv_generated.proofs.Counting.{draw_answered, draw_asking, draw_fits, few_spawned, is_next, none_next}
use Rattle.sv_generated.specs.Counted.{Counted}
use Rattle.sv_generated.specs.Generated.{inputs_after}
use Rattle.sv_generated.specs.Taken.{first_of}
use Rattle.sv_generated.proofs.taking.run_through.Goals as goal

pub draw-requires : goal.draw-requires
draw-requires c =
    let b = c.requires.begins in
    few_spawned b.0 b.1.few c.args.number c.loop-draw.generated.drawn c.loop-draw.machine c.loop-draw.counts
    (c.loop-draw.invariant.goes b.0 b.1)
    (omega (arith, c.loop-draw.invariant.within, c.requires.few))

pub take-requires-clause-spawns : goal.take-requires-clause-spawns
take-requires-clause-spawns c =
    let b = c.requires.begins in
    few_spawned b.0 b.1.few c.args.number c.loop-draw.generated.drawn c.loop-draw.machine c.loop-draw.counts
    (c.loop-draw.invariant.goes b.0 b.1)
    (omega (arith, c.loop-draw.invariant.within, c.requires.few))

pub take-requires-clause-fits : goal.take-requires-clause-fits
take-requires-clause-fits c =
    let b = c.requires.begins in
    let next =
    is_next c.loop-draw.generated c.draw.new.self c.args.number c.loop-draw.counts.spawns c.in-Some.draw
    c.loop-draw.invariant.has c.in-Some.ensures.next c.in-Some.ensures.end in
    draw_fits b.0 b.1.few c.args.number c.loop-draw.generated.drawn c.loop-draw.machine c.loop-draw.counts
    c.in-Some.draw c.in_ok-input_of.field-0
    (c.loop-draw.invariant.goes b.0 b.1) next.drawn c.in_ok-input_of.ensures

pub answer_all-requires-clause-asking : goal.answer_all-requires-clause-asking
answer_all-requires-clause-asking c =
    let b = c.requires.begins in
    let at = c.loop-draw.invariant.goes b.0 b.1 in
    let next =
    is_next c.loop-draw.generated c.draw.new.self c.args.number c.loop-draw.counts.spawns c.in-Some.draw
    c.loop-draw.invariant.has c.in-Some.ensures.next c.in-Some.ensures.end in
    draw_asking b.0 b.1.few c.args.number c.loop-draw.generated.drawn c.loop-draw.machine c.take.new.machine
    c.loop-draw.counts c.take.new.counts c.in-Some.draw c.in_ok-input_of.field-0 at next.drawn c.in_ok-input_of.ensures
    (c.in_ok-take.ensures.after (first_of b.0)
    (inputs_after (first_of b.0) c.args.number c.loop-draw.generated.drawn) at)
    (omega (arith, next.below, c.requires.few))

pub loop-draw-preserved : goal.loop-draw-preserved
loop-draw-preserved c =
    let next =
    is_next c.loop-draw.generated c.draw.new.self c.args.number c.loop-draw.counts.spawns c.in-Some.draw
    c.loop-draw.invariant.has c.in-Some.ensures.next c.in-Some.ensures.end in
    record {
      has = subst (λ (n : ℕ). HasDrawn c.draw.new.self c.args.number n) (sym next.has.drawn_is) next.has;
      within = omega (arith, next.below, next.has.drawn_is);
      goes = λ begins is.
          let at = c.loop-draw.invariant.goes begins is in
          let all = inputs_after (first_of begins) c.args.number c.loop-draw.generated.drawn in
          draw_answered begins is.few c.args.number c.loop-draw.generated.drawn c.loop-draw.machine
          c.answer_all.new.machine c.loop-draw.counts c.answer_all.new.counts c.in-Some.draw
          c.in_ok-input_of.field-0 c.draw.new.self.drawn at next.drawn c.in_ok-input_of.ensures next.has.drawn_is
          (c.in_ok-answer_all.ensures.after begins _ (c.in_ok-take.ensures.after (first_of begins) all at));
      few_kills = omega (
        arith,
        c.answer_all.ensures.few_kills,
        c.take.ensures.few_kills,
        c.loop-draw.invariant.few_kills,
        next.has.drawn_is,
      );
      few_edges = omega (
        arith,
        c.answer_all.ensures.few_edges,
        c.take.ensures.few_edges,
        c.loop-draw.invariant.few_edges,
        next.has.drawn_is,
      );
    }

pub returns : goal.returns
returns c = λ begins is.
    let all : c.args.number ≤ c.loop-draw.generated.drawn =
    none_next c.loop-draw.generated c.draw.new.self c.args.number c.loop-draw.counts.spawns c.draw.result
    c.in_default.is c.loop-draw.invariant.has c.draw.ensures.next in
    let end : c.loop-draw.generated.drawn ≡ c.args.number = omega (arith, all, c.loop-draw.invariant.within) in
    subst (λ (n : ℕ). Counted c.loop-draw.counts
    (deeds (first_of begins) (inputs_after (first_of begins) c.args.number n))) end
    (c.loop-draw.invariant.goes begins is).counted
