use Rattle.std.proofs.Common.{ap, rules}
use Rattle.sv_core.proofs.Standing.{taken_there}
use Rattle.sv_core.specs.declared.machine.Machine.{Machine}
use Rattle.sv_core.specs.declared.numbers.Numbers.{Numbers}
use Rattle.sv_core.proofs.machine.Machine.take_tick.Goals as goal

pub returns : goal.returns
returns c =
    let mid = c.hear.new.self in
    let new : Machine = record mid { numbers = c.note.new.self; hand = record mid.hand { given = c.swap.new.y } } in
    record {
      whole = search rules;
      idle = search rules;
      notes = search rules;
      turn = λ older w none s.
          let at = c.in_ok-hear.ensures.turn older w s in
          record {
            world = at.world;
            shows = taken_there mid new older c.swap.new.x.items at.world
                (ap (λ (n : Numbers). record mid { numbers = n; hand = record mid.hand { given = c.swap.new.y } }) c.in_ok-note.ensures.kept)
                (search rules) (search rules) at.shows;
            is = at.is;
          };
    }
