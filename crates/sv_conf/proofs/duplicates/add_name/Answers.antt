use Rattle.std.proofs.Common.{◌≡◌, string_bytes}
use Rattle.std.proofs.lemmas.Map.Text.{hash_set_updates_text}
use Rattle.std.proofs.lemmas.Result.{IfOk-at_ok}
use Rattle.std.specs.HashSet.{contains_text}
use Rattle.std.specs.Str.{bytes_eq}
use Rattle.sv_conf.proofs.Lookups.{is_or_was}
use Rattle.sv_conf.proofs.duplicates.add_name.Goals as goal

pub returns : goal.returns
returns c = λ other.
    let key = IfOk-at_ok (λ s. string_bytes s ≡ c.args.name.now) c.in_ok-name.was c.from_str.ensures.ok in
    let has = hash_set_updates_text (string_bytes c.in_ok-name.name) c.args.names.now c.insert.new.self _ c.in_ok-insert.ensures.updates other in
    is_or_was (bytes_eq c.args.name.now other) (contains_text c.args.names.now other) (contains_text c.insert.new.self other) (rw key at has)
