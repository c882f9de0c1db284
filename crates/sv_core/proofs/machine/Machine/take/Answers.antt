use Rattle.std.proofs.Common.{ap, rules, sym}
use Rattle.sv_core.proofs.Shown.{at_same}
use Rattle.sv_core.proofs.Standing.{taken_there}
use Rattle.sv_core.specs.StandsFor.{rest, turn_after}
use Rattle.sv_core.specs.declared.machine.Machine.{Machine}
use Rattle.sv_core.specs.declared.numbers.Numbers.{Numbers}
use Rattle.sv_core.specs.declared.part.Part.{Part}
use Rattle.sv_core.proofs.machine.Machine.take.Goals as goal

pub returns : goal.returns
returns c =
    let mid = c.hear.new.self in
    let new : Machine = record mid { numbers = c.note.new.self; hand = record mid.hand { given = c.replace.new.dest } } in
    record {
      whole = search rules;
      idle = search rules;
      notes = search rules;
      turn = λ older w none s.
          let at = c.in_ok-hear.ensures.turn older w s in
          at_same new _ _ _ _ (ap (λ (p : Part). turn_after c.args.self.now.numbers p (rest c.args.self.now.hand.place w)) (sym c.part_of.ensures))
          (record {
            world = at.world;
            shows = taken_there mid new older c.replace.result.items at.world
                (ap (λ (n : Numbers). record mid { numbers = n; hand = record mid.hand { given = c.replace.new.dest } }) c.in_ok-note.ensures.kept)
                (search rules) (search rules) at.shows;
            is = at.is;
          });
    }
