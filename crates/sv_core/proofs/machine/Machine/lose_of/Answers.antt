use Rattle.std.proofs.Common.{ℕ, ap, sym, ◌∙◌}
use Rattle.sv_core.proofs.Shown.{lost_there, runs_there}
use Rattle.sv_core.specs.Listening.{id_of}
use Rattle.sv_core.specs.World.{World}
use Rattle.sv_pool.specs.Listeners.{holds}
use Rattle.sv_runs.specs.RunBook.{lost}
use Rattle.sv_core.proofs.machine.Machine.lose_of.Goals as goal

pub returns-in_ok-give_back-in-Some-clause-loses : goal.returns-in_ok-give_back-in-Some-clause-loses
returns-in_ok-give_back-in-Some-clause-loses c = λ older w s.
    let child = c.in-Some.child in
    let booked = runs_there c.args.self.now older w (lost c.args.run) s c.lose.new.self c.lose.ensures in
    lost_there c.give_back.new.self older child c.args.run c.args.child w c.in-Some.is
    (ap (λ (v : World). holds (id_of child) v.pools) s.is ∙ ap (λ (id : ℕ). holds id s.pools) (sym c.id_of.ensures)
    ∙ sym (c.holds.ensures s.pools s.pools_kept) ∙ c.if-holds.true)
    (c.in_ok-give_back-in-Some.ensures.gives older _ booked)
