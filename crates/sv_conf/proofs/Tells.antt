-- What a section tells whatever the group is, and for all processes, it tells for each.
use Rattle.std.proofs.Common.{◌≡◌, ◌⊎◌, inl, inr, ℕ, List, [], ◌∷◌, ◌++◌, Bool, true, false, refl, ap, sym, ◌∙◌, subst, map}
use Rattle.std.specs.Prelude.{Option, Some, None, codes, if◌then◌else◌}
use Rattle.std.specs.Str.{bytes_eq}
use Rattle.std.proofs.lemmas.Slice.Eq.{bytes_eq-Decides}
use Rattle.sv_base.specs.declared.config.Host.{Host}
use Rattle.sv_conf.specs.Once.{section_pairs}
use Rattle.sv_conf.proofs.Keeping.{TellsMore}
use Rattle.sv_expand.specs.Values.{value_of}
use Rattle.sv_keys.specs.KnownNames.{env_name, host_pairs, program_pairs, without_numbers, with_count, with_process}

pub same : (one other : List ℕ) → bytes_eq one other ≡ true → one ≡ other
same one other e = (bytes_eq-Decides one other).0 e

abbrev Pairs : Type 0
Pairs = List (List ℕ × List ℕ)

-- names of programs are none of the host's variables
no_variable_group : (variables : Pairs) → value_of (codes "group_name") (map env_name variables) ≡ None
no_variable_group [] = refl
no_variable_group (variable ∷ variables) = no_variable_group variables

no_variable_program : (variables : Pairs) → value_of (codes "program_name") (map env_name variables) ≡ None
no_variable_program [] = refl
no_variable_program (variable ∷ variables) = no_variable_program variables

no_variable_process : (variables : Pairs) → value_of (codes "process_num") (map env_name variables) ≡ None
no_variable_process [] = refl
no_variable_process (variable ∷ variables) = no_variable_process variables

-- behind those that lack it a name has the value of one more pair
behind_value : (name other value : List ℕ) (pairs : Pairs) → value_of name pairs ≡ None
    → value_of name (pairs ++ (other, value) ∷ []) ≡ (if bytes_eq other name then Some value else None)
behind_value name other value [] e = refl
behind_value name other value (pair ∷ pairs) e = by_test (bytes_eq pair.0 name) e (behind_value name other value pairs)
  where
    by_test : (is : Bool) → (if is then Some pair.1 else value_of name pairs) ≡ None
        → (value_of name pairs ≡ None → value_of name (pairs ++ (other, value) ∷ []) ≡ (if bytes_eq other name then Some value else None))
        → (if is then Some pair.1 else value_of name (pairs ++ (other, value) ∷ [])) ≡ (if bytes_eq other name then Some value else None)
    by_test true e rest = cc
    by_test false e rest = rest e

-- a pair of another name changes nothing
same_value : (name other value : List ℕ) (pairs : Pairs) → bytes_eq other name ≡ false → value_of name (pairs ++ (other, value) ∷ []) ≡ value_of name pairs
same_value name other value [] e = rw e refl
same_value name other value (pair ∷ pairs) e = ap (λ rest. if bytes_eq pair.0 name then Some pair.1 else rest) (same_value name other value pairs e)

module _ (host : Host) (program group : List ℕ) where
  program_value : value_of (codes "program_name") (section_pairs host program) ≡ Some program
  program_value = behind_value (codes "program_name") (codes "program_name") program (host_pairs host) (no_variable_program host.environment)

  group_value : value_of (codes "group_name") (section_pairs host program) ≡ None
  group_value = behind_value (codes "group_name") (codes "program_name") program (host_pairs host) (no_variable_group host.environment)

  process_value : value_of (codes "process_num") (section_pairs host program) ≡ None
  process_value = behind_value (codes "process_num") (codes "program_name") program (host_pairs host) (no_variable_process host.environment)

  -- a pair of a section stands in it for each of its groups, but for the group's name
  same_pair : (name : List ℕ) → bytes_eq (codes "group_name") name ≡ false → value_of name (section_pairs host program) ≡ value_of name (program_pairs host program group)
  same_pair name other = by_test (bytes_eq (codes "program_name") name) refl
    where
      by_test : (is : Bool) → bytes_eq (codes "program_name") name ≡ is
          → value_of name (section_pairs host program) ≡ (if is then Some program else if bytes_eq (codes "group_name") name then Some group else value_of name (host_pairs host))
      by_test true e = ap (λ n. value_of n (section_pairs host program)) (sym (same (codes "program_name") name e)) ∙ program_value
      by_test false e = rw other (same_value name (codes "program_name") program (host_pairs host) e)

  -- what is told for all processes and groups of a section is told for a process of a group
  pub draft_tells : (count process : ℕ) → TellsMore (with_count (section_pairs host program) count) (with_process (program_pairs host program group) count process)
  draft_tells count process name = by_group (bytes_eq (codes "group_name") name) refl
    where
      numbers : Bool → Option ℕ → Option ℕ
      numbers is rest = if is then Some process else rest

      by_process : (is : Bool) → bytes_eq (codes "process_num") name ≡ is → bytes_eq (codes "group_name") name ≡ false
          → ((value_of name (section_pairs host program) ≡ None) × (value_of name ((codes "numprocs", count) ∷ []) ≡ None))
          ⊎ ((value_of name (section_pairs host program) ≡ value_of name (program_pairs host program group))
          × (value_of name ((codes "numprocs", count) ∷ []) ≡ numbers is (value_of name ((codes "numprocs", count) ∷ []))))
      by_process true e other = inl (subst (λ n. (value_of n (section_pairs host program) ≡ None) × (value_of n ((codes "numprocs", count) ∷ []) ≡ None)) (same (codes "process_num") name e) (process_value, refl))
      by_process false e other = inr (same_pair name other, refl)

      by_group : (is : Bool) → bytes_eq (codes "group_name") name ≡ is
          → ((value_of name (section_pairs host program) ≡ None) × (value_of name ((codes "numprocs", count) ∷ []) ≡ None))
          ⊎ ((value_of name (section_pairs host program) ≡ value_of name (program_pairs host program group))
          × (value_of name ((codes "numprocs", count) ∷ []) ≡ numbers (bytes_eq (codes "process_num") name) (value_of name ((codes "numprocs", count) ∷ []))))
      by_group true e = inl (subst (λ n. (value_of n (section_pairs host program) ≡ None) × (value_of n ((codes "numprocs", count) ∷ []) ≡ None)) (same (codes "group_name") name e) (group_value, refl))
      by_group false e = by_process (bytes_eq (codes "process_num") name) refl e

  -- of processes as well
  pub name_tells : (count process : ℕ) → TellsMore (with_process (section_pairs host program) count process) (with_process (program_pairs host program group) count process)
  name_tells count process name = by_group (bytes_eq (codes "group_name") name) refl
    where
      by_group : (is : Bool) → bytes_eq (codes "group_name") name ≡ is
          → ((value_of name (section_pairs host program) ≡ None) × (value_of name ((codes "process_num", process) ∷ (codes "numprocs", count) ∷ []) ≡ None))
          ⊎ ((value_of name (section_pairs host program) ≡ value_of name (program_pairs host program group))
          × (value_of name ((codes "process_num", process) ∷ (codes "numprocs", count) ∷ []) ≡ value_of name ((codes "process_num", process) ∷ (codes "numprocs", count) ∷ [])))
      by_group true e = inl (subst (λ n. (value_of n (section_pairs host program) ≡ None) × (value_of n ((codes "process_num", process) ∷ (codes "numprocs", count) ∷ []) ≡ None)) (same (codes "group_name") name e) (group_value, refl))
      by_group false e = inr (same_pair name e, refl)

  -- and without numbers
  pub settings_tell_more : TellsMore (without_numbers (section_pairs host program)) (without_numbers (program_pairs host program group))
  settings_tell_more name = by_group (bytes_eq (codes "group_name") name) refl
    where
      by_group : (is : Bool) → bytes_eq (codes "group_name") name ≡ is
          → ((value_of name (section_pairs host program) ≡ None) × (value_of {V = ℕ} name [] ≡ None))
          ⊎ ((value_of name (section_pairs host program) ≡ value_of name (program_pairs host program group)) × (value_of {V = ℕ} name [] ≡ value_of {V = ℕ} name []))
      by_group true e = inl (subst (λ n. (value_of n (section_pairs host program) ≡ None) × (value_of {V = ℕ} n [] ≡ None)) (same (codes "group_name") name e) (group_value, refl))
      by_group false e = inr (same_pair name e, refl)
