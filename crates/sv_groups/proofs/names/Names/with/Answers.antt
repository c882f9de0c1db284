use Rattle.std.proofs.Common.{rules, ◌≡◌, ◌∙◌, take, drop, fold, []}
use Rattle.std.specs.Str.{bytes_eq}
use Rattle.indexmap.specs.IndexSet.{insert_key}
use Rattle.sv_groups.proofs.Named.{names_with, processes_with}
use Rattle.sv_groups.proofs.Processes.{rest_is}
use Rattle.sv_groups.specs.Alike.{same_names}
use Rattle.sv_groups.specs.Lookup.{names_in}
use Rattle.sv_groups.specs.Names.{with_names, with_processes}
use Rattle.sv_groups.proofs.names.Names.with.Goals as goal

pub returns : goal.returns
returns c =
    let before = take c.args.place c.args.groups.now in
    let rest = drop c.args.place c.args.groups.now in
    let names : c.add_all-2.new.self.groups.keys ≡ with_names (insert_key bytes_eq (with_names [] before) c.args.group.now.name) rest = search (rules, rest_is) in
    let processes : c.add_all-2.new.self.processes.keys ≡ with_processes (fold (insert_key same_names) (with_processes [] before) (names_in c.args.group.now)) rest = search (rules, rest_is) in
    (names ∙ names_with before rest c.args.group.now c.requires.roster, processes ∙ processes_with before rest c.args.group.now c.requires.roster)
