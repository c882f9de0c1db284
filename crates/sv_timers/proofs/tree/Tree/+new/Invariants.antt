use Rattle.sv_timers.proofs.tree.Tree.+new.Given as goal

abbrev pub decreases-new : goal.decreases-new
decreases-new l = l.children
