use Rattle.std.proofs.Common.{ℕ, Option, subst, sym}
use Rattle.sv_core.proofs.Shown.{runs_there}
use Rattle.sv_core.specs.Listening.{exits_of}
use Rattle.sv_core.specs.StandsFor.{Shows}
use Rattle.sv_runs.specs.RunBook.{process_ended}
use Rattle.sv_core.proofs.machine.Machine.exit_of.Goals as goal

pub returns-in_ok-give_back-in-Some-clause-exits : goal.returns-in_ok-give_back-in-Some-clause-exits
returns-in_ok-give_back-in-Some-clause-exits c = λ older w s.
    let moved = c.in_ok-bring-in-Some.ensures.moves older w s in
    let booked = runs_there c.bring.new.self older _ (process_ended c.args.run) moved c.end_process.new.self c.end_process.ensures in
    subst (λ (child : Option ℕ). Shows c.give_back.new.self older (exits_of child c.args.run c.args.how w)) (sym c.in-Some.is)
    (c.in_ok-give_back-in-Some.ensures.gives older _ booked)
