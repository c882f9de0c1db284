use Rattle.std.proofs.Common.{ℕ, length, Option, ap, ◌∙◌}
use Rattle.std.specs.Option.{unwrap_or}
use Rattle.std.specs.Str.{bytes_eq}
use Rattle.sv_moving.specs.declared.keys.Entry.{Entry}
use Rattle.sv_moving.proofs.Places.{place_from_position}
use Rattle.sv_moving.proofs.keys.place_of_key.Goals as goal

pub returns-in-Some : goal.returns-in-Some
returns-in-Some c =
    ap (λ (r : Option ℕ). unwrap_or r (length c.args.keys.now)) c.in-Some.ensures
    ∙ place_from_position (λ (e : Entry). bytes_eq e.key c.args.key.now) c.args.keys.now

pub returns-in-None : goal.returns-in-None
returns-in-None c =
    ap (λ (r : Option ℕ). unwrap_or r (length c.args.keys.now)) c.in-None.ensures
    ∙ place_from_position (λ (e : Entry). bytes_eq e.key c.args.key.now) c.args.keys.now
