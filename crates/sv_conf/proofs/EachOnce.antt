-- One group more, whose name isn't that of one before it.
use Rattle.std.proofs.Common.{◌≡◌, ◌+◌, ◌-◌, ◌≤◌, ℕ, List, [], ◌∷◌, true, false, take, drop, length, get_or, ap, sym, ◌∙◌}
use Rattle.std.specs.Prelude.{Some, None, Err}
use Rattle.std.specs.List.{list_any}
use Rattle.std.specs.Str.{bytes_eq}
use Rattle.sv_base.specs.declared.spec.GroupSpec.{GroupSpec}
use Rattle.sv_conf.specs.Configuration.{twice_in, each_once}
use Rattle.sv_sections.proofs.Folds.{parted, taken_more}
use Rattle.sv_conf.specs.Duplicates.{first_twice}
use Rattle.sv_sections.specs.declared.fault.ConfFault.TheVariants.{TwiceNamed}

module _ (groups left : List GroupSpec) (place : ℕ) (group : GroupSpec) (some : 1 ≤ length left) (read : group ≡ get_or left 0 group)
    (same : each_once (take place groups) left ≡ each_once [] groups) where
  parts : each_once (take place groups) (group ∷ take (length left - 1) (drop 1 left)) ≡ each_once [] groups
  parts = ap (λ xs. each_once (take place groups) xs) (sym (parted left group some read)) ∙ same

  pub named_twice : list_any (λ (other : GroupSpec). bytes_eq other.name group.name) (take place groups) ≡ true → each_once [] groups ≡ Err (TwiceNamed group.name)
  unfolding twice_in
  named_twice there = sym (rw there at parts)

  pub process_twice : (name : List ℕ) → list_any (λ (other : GroupSpec). bytes_eq other.name group.name) (take place groups) ≡ false → first_twice [] group.members ≡ Some name
      → each_once [] groups ≡ Err (TwiceNamed name)
  unfolding twice_in
  process_twice name fresh twice = sym (rw (fresh, twice) at parts)

  pub goes_on : left ≡ drop place groups → list_any (λ (other : GroupSpec). bytes_eq other.name group.name) (take place groups) ≡ false → first_twice [] group.members ≡ None
      → each_once (take (place + 1) groups) (take (length left - 1) (drop 1 left)) ≡ each_once [] groups
  unfolding twice_in
  goes_on lies fresh none =
      rw (taken_more groups place group (take (length left - 1) (drop 1 left)) (sym (parted left group some read) ∙ lies)) (rw (fresh, none) at parts)
