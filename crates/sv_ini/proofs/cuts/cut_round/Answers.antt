use Rattle.std.proofs.lemmas.Str.{IsCharBoundary-after_ascii}
use Rattle.sv_ini.proofs.cuts.cut_round.Goals as goal

pub split_at-requires-in-Some : goal.split_at-requires-in-Some
split_at-requires-in-Some c =
    let inside = rw c.in-Some.is at c.requires in
    IsCharBoundary-after_ascii c.args.text.now c.in-Some.at c.utf8.text inside.0 inside.1
