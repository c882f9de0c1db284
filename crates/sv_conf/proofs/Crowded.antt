-- What is known of processes that aren't kept refuses a configuration as the processes themselves would.
use Rattle.std.proofs.Common.{◌≡◌, ◌+◌, ◌-◌, ◌<◌, ◌⊎◌, inl, inr, ℕ, zero, suc, List, [], ◌∷◌, ◌++◌, Bool, true, false, ◌&&◌, ◌||◌, refl, ap, sym, ◌∙◌, map, length, append-nil, length-append, arith}
use Rattle.std.proofs.lemmas.Bool.Decides.{nat_tests}
use Rattle.std.proofs.lemmas.List.{length-map, map-append}
use Rattle.std.specs.Prelude.{◌==◌, Option, Some, None, Result, Ok, Err, nat_le, nat_lt, slice_set, slice_index_or, codes, if◌then◌else◌}
use Rattle.std.specs.List.{find, list_any}
use Rattle.std.specs.Str.{bytes_eq}
use Rattle.sv_base.specs.declared.config.Config.{Config}
use Rattle.sv_base.specs.declared.config.Host.{Host}
use Rattle.sv_base.specs.declared.spec.GroupSpec.{GroupSpec}
use Rattle.sv_base.specs.declared.spec.Spec.{Spec}
use Rattle.sv_conf.proofs.FewEnough.{too_many_past_the_limits}
use Rattle.sv_conf.specs.Configuration.{is_missing, missing_in, members_of, group_at, groups_by, groups_from, all_groups, twice_in, or_twice, each_once, has_rpc, of_groups, of_parts, of_sections}
use Rattle.sv_conf.specs.Crowded.{are_single, is_over, judged_crowd, built, of_others}
use Rattle.sv_conf.specs.Limits.{processes, AreTooMany}
use Rattle.sv_conf.proofs.CrowdFolds.{then_mapped, fault_kept}
use Rattle.sv_conf.specs.Crowds.{size_of, total, crowd_of}
use Rattle.sv_conf.specs.Duplicates.{first_twice}
use Rattle.sv_conf.specs.Emptied.{mapped, kept_if, emptied}
use Rattle.sv_conf.specs.declared.crowd.Crowd.{Crowd}
use Rattle.sv_expand.specs.Results.{and_then}
use Rattle.sv_expand.specs.declared.names.Names.{Names}
use Rattle.sv_ini.specs.declared.section.Section.{Section}
use Rattle.sv_keys.specs.KeyTable.{Keys, priority}
use Rattle.sv_keys.specs.KnownNames.{host_names}
use Rattle.sv_keys.specs.ProgramNames.{titled}
use Rattle.sv_keys.specs.Rows.{needed}
use Rattle.sv_keys.specs.Values.{programs_of}
use Rattle.sv_keys.specs.declared.key.Key.TheVariants as key
use Rattle.sv_sections.specs.Programs.Homes.{all_named, with_part, with_parts}
use Rattle.sv_sections.specs.Programs.Programs.{parts_at, after_programs, no_parts, all_parts}
use Rattle.sv_sections.specs.declared.programs.homes.Named.{Named}
use Rattle.sv_sections.specs.declared.programs.homes.Part.{Part}
use Rattle.sv_sections.specs.AllSections.{all_supported}
use Rattle.sv_sections.specs.FaultTexts.{IsFault}
use Rattle.sv_sections.specs.ServerSections.{others_of, common_of}
use Rattle.sv_sections.specs.SectionFaults.{check_name, or_missing, or_section_fault}
use Rattle.sv_sections.specs.declared.fault.ConfFault.{ConfFault}
use Rattle.sv_sections.specs.declared.fault.ConfFault.TheVariants.{TooMany}
use Rattle.sv_sections.specs.declared.server.Common.{Common}
use Rattle.sv_sections.specs.declared.server.Others.{Others}

-- ---- groups of parts that aren't kept

both : (a b : Bool) → (a && b) ≡ true → (a ≡ true) × (b ≡ true)
both true b e = (refl, e)
both false b e = cc

-- the processes of one part at most
one_part : (parts : List GroupSpec) → nat_le (length parts) 1 ≡ true
    → members_of (map emptied parts) ≡ kept_if (first_twice [] (members_of parts)) (members_of parts)
one_part [] e = refl
one_part (part ∷ []) e = rw (append-nil part.members, append-nil (kept_if (first_twice [] part.members) part.members)) refl
one_part (part ∷ other ∷ parts) e = absurd (too_long (length parts) e)
  where
    too_long : (count : ℕ) → nat_le (suc (suc count)) 1 ≡ true → ⊥
    too_long count e = grind (arith, nat_tests)

group_emptied : (sections : List Section) (names : Names) (title group : List ℕ) (keys : Keys) (parts : List GroupSpec) → nat_le (length parts) 1 ≡ true
    → group_at sections names title group keys (map emptied parts) ≡ mapped emptied (group_at sections names title group keys parts)
unfolding group_at
group_emptied sections names title group keys parts single =
    then_mapped emptied (or_missing title key.Programs keys) _ _ (λ set.
    then_mapped emptied (check_name title group) _ _ (λ named.
    then_mapped emptied (or_section_fault title (needed key.Programs programs_of keys names)) _ _ (λ programs.
    then_mapped emptied (or_section_fault title (priority false keys names)) _ _ (λ priority.
    then_mapped emptied (missing_in group (find (is_missing sections) programs)) _ _ (λ known.
    ap (λ members. Ok (record { name = group; priority = priority; members = members; pool = None })) (one_part parts single))))))

section_emptied : (sections : List Section) (names : Names) (section : Section) (parts : List GroupSpec) (group : Option (List ℕ)) → nat_le (length parts) 1 ≡ true
    → groups_by sections names section (map emptied parts) group ≡ mapped (map emptied) (groups_by sections names section parts group)
unfolding groups_by
section_emptied sections names section parts None single = refl
section_emptied sections names section parts (Some group) single =
    rw (group_emptied sections names section.name group section.keys parts single) (by_group (group_at sections names section.name group section.keys parts))
  where
    by_group : (made : Result GroupSpec ConfFault) → and_then (mapped emptied made) (λ made. Ok (made ∷ [])) ≡ mapped (map emptied) (and_then made (λ made. Ok (made ∷ [])))
    by_group (Ok made) = refl
    by_group (Err fault) = refl

groups_emptied : (sections : List Section) (names : Names) (more : List Section) (groups : List GroupSpec) (parts : List (List GroupSpec)) → are_single parts ≡ true
    → groups_from sections names (map emptied groups) more (map (map emptied) parts) ≡ mapped (map emptied) (groups_from sections names groups more parts)
groups_emptied sections names [] groups parts single = refl
groups_emptied sections names (section ∷ more) groups [] single = refl
groups_emptied sections names (section ∷ more) groups (first ∷ parts) single =
    let each = both (nat_le (length first) 1) (are_single parts) single in
    rw (section_emptied sections names section first (titled (codes "group") section.name) each.0)
    (by_made (groups_by sections names section first (titled (codes "group") section.name)) (λ now. groups_emptied sections names more now parts each.1))
  where
    by_made : (made : Result (List GroupSpec) ConfFault)
        → ((now : List GroupSpec) → groups_from sections names (map emptied now) more (map (map emptied) parts) ≡ mapped (map emptied) (groups_from sections names now more parts))
        → and_then (mapped (map emptied) made) (λ made. groups_from sections names (map emptied groups ++ made) more (map (map emptied) parts))
        ≡ mapped (map emptied) (and_then made (λ made. groups_from sections names (groups ++ made) more parts))
    by_made (Ok made) rest = ap (λ now. groups_from sections names now more (map (map emptied) parts)) (sym (map-append emptied groups made)) ∙ rest (groups ++ made)
    by_made (Err fault) rest = refl

-- ---- names that stand twice

same_twice : (members : List Spec) → first_twice [] (kept_if (first_twice [] members) members) ≡ first_twice [] members
same_twice members = by_first (first_twice [] members) refl
  where
    by_first : (first : Option (List ℕ)) → first_twice [] members ≡ first → first_twice [] (kept_if first members) ≡ first
    by_first None e = refl
    by_first (Some name) e = e

any_emptied : (name : List ℕ) (groups : List GroupSpec)
    → list_any (λ (other : GroupSpec). bytes_eq other.name name) (map emptied groups) ≡ list_any (λ (other : GroupSpec). bytes_eq other.name name) groups
any_emptied name [] = refl
any_emptied name (group ∷ groups) = ap (λ b. bytes_eq group.name name || b) (any_emptied name groups)

once_emptied : (groups before : List GroupSpec) → each_once (map emptied before) (map emptied groups) ≡ each_once before groups
unfolding twice_in
once_emptied [] before = refl
once_emptied (group ∷ groups) before =
    let rest : each_once (map emptied before ++ emptied group ∷ []) (map emptied groups) ≡ each_once (before ++ group ∷ []) groups
    = ap (λ now. each_once now (map emptied groups)) (sym (map-append emptied before (group ∷ []))) ∙ once_emptied groups (before ++ group ∷ []) in
    rw (any_emptied group.name before, same_twice group.members, rest) refl

once_true : (groups before : List GroupSpec) (once : Bool) → each_once before groups ≡ Ok once → once ≡ true
once_true [] before once e = cc
once_true (group ∷ groups) before once e = by_first (or_twice (twice_in before group)) e (once_true groups (before ++ group ∷ []) once)
  where
    by_first : (first : Result Bool ConfFault) → and_then first (λ good. each_once (before ++ group ∷ []) groups) ≡ Ok once
        → (each_once (before ++ group ∷ []) groups ≡ Ok once → once ≡ true) → once ≡ true
    by_first (Ok good) e rest = rest e
    by_first (Err fault) e rest = cc

-- ---- how many processes there are

processes_append : (one other : List GroupSpec) → processes (one ++ other) ≡ processes one + processes other
processes_append [] other = omega arith
processes_append (group ∷ one) other = omega (arith, processes_append one other)

parts_size : (parts : List GroupSpec) → processes parts ≡ size_of parts
parts_size [] = refl
parts_size (part ∷ parts) = omega (arith, parts_size parts)

members_size : (parts : List GroupSpec) → length (members_of parts) ≡ size_of parts
members_size [] = refl
members_size (part ∷ parts) = omega (arith, length-append part.members (members_of parts), members_size parts)

-- whatever is given holds
abbrev Holds : {A : Type 0} → (A → Type 0) → Result A ConfFault → Type 0
Holds good (Ok x) = good x
Holds good (Err fault) = Unit {0}

then_holds : {A B : Type 0} (good : B → Type 0) (first : Result A ConfFault) (next : A → Result B ConfFault) → ((x : A) → Holds good (next x)) → Holds good (and_then first next)
then_holds good (Ok x) next holds = holds x
then_holds good (Err fault) next holds = tt

group_size : (sections : List Section) (names : Names) (title group : List ℕ) (keys : Keys) (parts : List GroupSpec)
    → Holds (λ (made : GroupSpec). length made.members ≡ size_of parts) (group_at sections names title group keys parts)
unfolding group_at
group_size sections names title group keys parts =
    then_holds _ (or_missing title key.Programs keys) _ (λ set.
    then_holds _ (check_name title group) _ (λ named.
    then_holds _ (or_section_fault title (needed key.Programs programs_of keys names)) _ (λ programs.
    then_holds _ (or_section_fault title (priority false keys names)) _ (λ priority.
    then_holds _ (missing_in group (find (is_missing sections) programs)) _ (λ known. members_size parts)))))

section_size : (sections : List Section) (names : Names) (section : Section) (parts : List GroupSpec) (group : Option (List ℕ))
    → Holds (λ (made : List GroupSpec). processes made ≡ size_of parts) (groups_by sections names section parts group)
unfolding groups_by
section_size sections names section parts None = parts_size parts
section_size sections names section parts (Some group) =
    by_group (group_at sections names section.name group section.keys parts) (group_size sections names section.name group section.keys parts)
  where
    by_group : (made : Result GroupSpec ConfFault) → Holds (λ (made : GroupSpec). length made.members ≡ size_of parts) made
        → Holds (λ (made : List GroupSpec). processes made ≡ size_of parts) (and_then made (λ made. Ok (made ∷ [])))
    by_group (Ok made) e = omega (arith, e)
    by_group (Err fault) e = tt

all_sizes : (sections : List Section) (names : Names) (more : List Section) (groups : List GroupSpec) (parts : List (List GroupSpec)) → length more ≡ length parts
    → Holds (λ (all : List GroupSpec). processes all ≡ processes groups + total parts) (groups_from sections names groups more parts)
all_sizes sections names [] groups [] same = omega arith
all_sizes sections names [] groups (first ∷ parts) same = absurd (omega (arith, same))
all_sizes sections names (section ∷ more) groups [] same = absurd (omega (arith, same))
all_sizes sections names (section ∷ more) groups (first ∷ parts) same =
    by_made (groups_by sections names section first (titled (codes "group") section.name)) (section_size sections names section first (titled (codes "group") section.name))
    (λ now. all_sizes sections names more now parts (omega (arith, same)))
  where
    by_sum : (now : List GroupSpec) (all : Result (List GroupSpec) ConfFault) → processes now ≡ processes groups + size_of first
        → Holds (λ (all : List GroupSpec). processes all ≡ processes now + total parts) all → Holds (λ (all : List GroupSpec). processes all ≡ processes groups + total (first ∷ parts)) all
    by_sum now (Ok all) sum e = omega (arith, sum, e)
    by_sum now (Err fault) sum e = tt

    by_made : (made : Result (List GroupSpec) ConfFault) → Holds (λ (made : List GroupSpec). processes made ≡ size_of first) made
        → ((now : List GroupSpec) → Holds (λ (all : List GroupSpec). processes all ≡ processes now + total parts) (groups_from sections names now more parts))
        → Holds (λ (all : List GroupSpec). processes all ≡ processes groups + total (first ∷ parts)) (and_then made (λ made. groups_from sections names (groups ++ made) more parts))
    by_made (Ok made) size rest = by_sum (groups ++ made) (groups_from sections names (groups ++ made) more parts) (omega (arith, size, processes_append groups made)) (rest (groups ++ made))
    by_made (Err fault) size rest = tt

-- ---- the parts of each section have a place

length_set : {A : Type 0} (xs : List A) (place : ℕ) (x : A) → length (slice_set xs place x) ≡ length xs
length_set [] place x = refl
length_set (y ∷ ys) zero x = refl
length_set (y ∷ ys) (suc place) x = ap suc (length_set ys place x)

length_parts : (more : List Part) (parts : List (List GroupSpec)) → length (with_parts parts more) ≡ length parts
length_parts [] parts = refl
length_parts (part ∷ more) parts = length_parts more (with_part parts part) ∙ length_set parts part.place (slice_index_or parts part.place [] ++ part.group ∷ [])

length_after : (host : Host) (common : Common) (named : List Named) (sections : List Section) (place : ℕ) (parts : List (List GroupSpec))
    → Holds (λ (all : List (List GroupSpec)). length all ≡ length parts) (after_programs host common named place parts sections)
length_after host common named [] place parts = refl
length_after host common named (section ∷ sections) place parts =
    by_more (parts_at host common named place section) (λ now. length_after host common named sections (suc place) now)
  where
    by_length : (more : List Part) (all : Result (List (List GroupSpec)) ConfFault) → Holds (λ (all : List (List GroupSpec)). length all ≡ length (with_parts parts more)) all
        → Holds (λ (all : List (List GroupSpec)). length all ≡ length parts) all
    by_length more (Ok all) e = e ∙ length_parts more parts
    by_length more (Err fault) e = tt

    by_more : (more : Result (List Part) ConfFault)
        → ((now : List (List GroupSpec)) → Holds (λ (all : List (List GroupSpec)). length all ≡ length now) (after_programs host common named (suc place) now sections))
        → Holds (λ (all : List (List GroupSpec)). length all ≡ length parts) (and_then more (λ more. after_programs host common named (suc place) (with_parts parts more) sections))
    by_more (Ok more) rest = by_length more (after_programs host common named (suc place) (with_parts parts more) sections) (rest (with_parts parts more))
    by_more (Err fault) rest = tt

length_all : (host : Host) (common : Common) (sections : List Section) → Holds (λ (all : List (List GroupSpec)). length all ≡ length sections) (all_parts host common sections)
unfolding all_parts
length_all host common sections = by_all (after_programs host common (all_named host sections) 0 (map no_parts sections) sections)
    (length_after host common (all_named host sections) sections 0 (map no_parts sections))
  where
    by_all : (all : Result (List (List GroupSpec)) ConfFault) → Holds (λ (all : List (List GroupSpec)). length all ≡ length (map no_parts sections)) all
        → Holds (λ (all : List (List GroupSpec)). length all ≡ length sections) all
    by_all (Ok all) e = e ∙ length-map sections no_parts
    by_all (Err fault) e = tt

-- ---- the answer

over_is : (many : ℕ) (room sizes : ℕ) → room ≡ 1025 - sizes → (nat_lt 256 many || room == 0) ≡ true → (256 < many) ⊎ (1024 < sizes)
over_is many room sizes e over = by_many (nat_lt 256 many) refl over
  where
    by_many : (more : Bool) → nat_lt 256 many ≡ more → (more || room == 0) ≡ true → (256 < many) ⊎ (1024 < sizes)
    by_many true is over = inl (grind (arith, nat_tests))
    by_many false is over = inr (full (1025 - sizes) refl (rw e at over))
      where
        full : (left : ℕ) → 1025 - sizes ≡ left → (left == 0) ≡ true → 1024 < sizes
        full zero none over = omega (arith, none)
        full (suc left) some over = absurd (grind (arith, nat_tests))

module _ (host : Host) (sections : List Section) (others : Others) (parts : List (List GroupSpec)) (single : are_single parts ≡ true) (long : length sections ≡ length parts) where
  -- from the groups on
  groups_refused : (fault : ConfFault) (groups : Result (List GroupSpec) ConfFault)
      → Holds (λ (all : List GroupSpec). processes all ≡ processes [] + total parts) groups
      → and_then (mapped (map emptied) groups) (λ groups. and_then (each_once [] groups) (λ once. if is_over groups (1025 - total parts) then Err TooMany else Ok true)) ≡ Err fault
      → and_then groups (λ groups. of_groups others (has_rpc sections) groups) ≡ Err fault
  unfolding of_groups
  groups_refused fault (Err other) sizes e = cc
  groups_refused fault (Ok groups) sizes e = by_once (each_once [] groups) refl (rw (once_emptied groups []) at e)
    where
      by_over : (over : Bool) → is_over (map emptied groups) (1025 - total parts) ≡ over → each_once [] groups ≡ Ok true
          → Path (Result Bool ConfFault) (if over then Err TooMany else Ok true) (Err fault) → of_groups others (has_rpc sections) groups ≡ Err fault
      by_over false is once e = cc
      by_over true is once e =
          let all : total parts ≡ processes groups = omega (arith, sizes) in
          let many : AreTooMany groups = over_is (length groups) (1025 - total parts) (processes groups) (ap (λ n. 1025 - n) all) (rw (length-map groups emptied) at is) in
          (too_many_past_the_limits others (has_rpc sections) groups once).1 many ∙ same_fault e
        where
          same_fault : Path (Result Bool ConfFault) (Err TooMany) (Err fault) → Path (Result Config ConfFault) (Err TooMany) (Err fault)
          same_fault e = cc

      by_once : (once : Result Bool ConfFault) → each_once [] groups ≡ once
          → and_then once (λ once. if is_over (map emptied groups) (1025 - total parts) then Err TooMany else Ok true) ≡ Err fault → of_groups others (has_rpc sections) groups ≡ Err fault
      by_once (Ok good) is e = by_over (is_over (map emptied groups) (1025 - total parts)) refl (is ∙ ap Ok (once_true groups [] good is)) e
      by_once (Err other) is e = rw is (same_fault e)
        where
          same_fault : Path (Result Bool ConfFault) (Err other) (Err fault) → Path (Result Config ConfFault) (Err other) (Err fault)
          same_fault e = cc

  parts_refused : (fault : ConfFault) → judged_crowd host sections (crowd_of parts) ≡ Err fault → of_parts host sections others parts ≡ Err fault
  unfolding judged_crowd of_parts all_groups
  parts_refused fault e =
      groups_refused fault (groups_from sections (host_names host) [] sections parts) (all_sizes sections (host_names host) sections [] parts long)
      (rw (sym (groups_emptied sections (host_names host) sections [] parts single)) e)

single_emptied : (parts : List (List GroupSpec)) → are_single (map (map emptied) parts) ≡ are_single parts
single_emptied [] = refl
single_emptied (first ∷ parts) = rw (length-map first emptied, single_emptied parts) refl

-- where the parts are known, and each group has one at most, a fault that is seen is the fault of the whole
pub refused_so : (host : Host) (common : Common) (sections : List Section) (others : Others) (crowd : Crowd) (fault : ConfFault)
    → mapped crowd_of (all_parts host common sections) ≡ Ok crowd → are_single crowd.parts ≡ true
    → IsFault fault (judged_crowd host sections crowd) → IsFault fault (built host common sections others)
unfolding built
refused_so host common sections others crowd fault known single is =
    fault_kept (judged_crowd host sections crowd) (built host common sections others)
    (λ fault e. by_parts (all_parts host common sections) (length_all host common sections) refl known fault e) fault is
  where
    inner : (parts : List (List GroupSpec)) → Path (Result Crowd ConfFault) (Ok (crowd_of parts)) (Ok crowd) → crowd_of parts ≡ crowd
    inner parts e = cc

    by_parts : (all : Result (List (List GroupSpec)) ConfFault) → Holds (λ (all : List (List GroupSpec)). length all ≡ length sections) all
        → all_parts host common sections ≡ all → mapped crowd_of all ≡ Ok crowd → (fault : ConfFault) → judged_crowd host sections crowd ≡ Err fault
        → built host common sections others ≡ Err fault
    by_parts (Err other) long is known fault e = cc
    by_parts (Ok parts) long is known fault e =
        let same : crowd_of parts ≡ crowd = inner parts known in
        rw is (parts_refused host sections others parts (sym (single_emptied parts) ∙ ap (λ (c : Crowd). are_single c.parts) same ∙ single) (sym long) fault
        (ap (λ (c : Crowd). judged_crowd host sections c) same ∙ e))

-- from the processes on, with what the other sections were read as
pub read_so : (host : Host) (common : Common) (sections : List Section) (others : Result Others ConfFault) → all_supported sections ≡ Ok true → others ≡ others_of host sections
    → common ≡ common_of others → of_sections host sections ≡ of_others host common sections others
unfolding of_sections of_others
read_so host common sections others supported is_others is_common = rw (is_common, is_others, supported) refl
