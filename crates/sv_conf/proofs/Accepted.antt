-- The groups of an accepted configuration are a roster.
use Rattle.std.proofs.Common.{◌≡◌, ℕ, List, [], Bool, true, false, refl, subst}
use Rattle.std.specs.Prelude.{Result, Ok, Err, codes, if◌then◌else◌}
use Rattle.sv_base.specs.Roster.{is_roster}
use Rattle.sv_base.specs.declared.config.Config.{Config}
use Rattle.sv_base.specs.declared.config.Host.{Host}
use Rattle.sv_base.specs.declared.spec.GroupSpec.{GroupSpec}
use Rattle.sv_conf.specs.Configuration.{all_groups, has_rpc, each_once, sorted_groups, ◌>>=◌, with_groups, config_of, of_groups, of_parts, of_sections, configuration_of}
use Rattle.sv_sections.specs.Programs.Programs.{all_parts}
use Rattle.sv_sections.specs.AllSections.{with_included, all_supported}
use Rattle.sv_sections.specs.Includes.{sections_in, section_named, patterns_of}
use Rattle.sv_sections.specs.ServerSections.{others_of, common_of}
use Rattle.sv_sections.specs.declared.fault.ConfFault.{ConfFault}
use Rattle.sv_sections.specs.declared.fault.ConfFault.TheVariants.{TooMany}
use Rattle.sv_sections.specs.declared.server.Others.{Others}
use Rattle.sv_ini.specs.declared.section.Section.{Section}

-- what is given is accepted with a roster only
abbrev Good : Result Config ConfFault → Type 0
Good (Ok config) = is_roster config.groups ≡ true
Good (Err fault) = Unit {0}

-- a step after which all is good
then_good : {A : Type 0} (first : Result A ConfFault) (next : A → Result Config ConfFault) → ((x : A) → Good (next x)) → Good (first >>= next)
then_good (Ok x) next good = good x
then_good (Err fault) next good = tt

by_test : (few : Bool) (config : Config) → is_roster config.groups ≡ few → Good (if few then Ok config else Err TooMany)
by_test true config e = e
by_test false config e = tt

good_config : (others : Others) (rpc : Bool) (groups : List GroupSpec) → Good (config_of others rpc groups)
unfolding config_of with_groups
good_config others rpc groups = by_test (is_roster groups) (with_groups others rpc groups) refl

good_groups : (others : Others) (rpc : Bool) (groups : List GroupSpec) → Good (of_groups others rpc groups)
unfolding of_groups
good_groups others rpc groups = then_good (each_once [] groups) (λ good. config_of others rpc (sorted_groups groups)) (λ good. good_config others rpc (sorted_groups groups))

good_parts : (host : Host) (sections : List Section) (others : Others) (parts : List (List GroupSpec)) → Good (of_parts host sections others parts)
unfolding of_parts
good_parts host sections others parts = then_good (all_groups host sections parts) _ (λ groups. good_groups others (has_rpc sections) groups)

good_sections : (host : Host) (sections : List Section) → Good (of_sections host sections)
unfolding of_sections
good_sections host sections =
    let others = others_of host sections in
    then_good (all_supported sections) _ (λ good.
    then_good (all_parts host (common_of others) sections) _ (λ parts.
    then_good others _ (λ known. good_parts host sections known parts)))

good_configuration : (main : List ℕ) (included : List (List ℕ × List ℕ)) (host : Host) → Good (configuration_of main included host)
unfolding configuration_of
good_configuration main included host =
    then_good (sections_in main) _ (λ sections.
    then_good (patterns_of host (section_named (codes "include") sections)) _ (λ patterns.
    then_good (with_included sections included) _ (λ all. good_sections host all)))

at_ok : (given : Result Config ConfFault) (config : Config) → given ≡ Ok config → Good given → is_roster config.groups ≡ true
at_ok given config e good = subst Good e good

pub accepted_roster : (main : List ℕ) (included : List (List ℕ × List ℕ)) (host : Host) (config : Config)
    → configuration_of main included host ≡ Ok config → is_roster config.groups ≡ true
accepted_roster main included host config e = at_ok (configuration_of main included host) config e (good_configuration main included host)
