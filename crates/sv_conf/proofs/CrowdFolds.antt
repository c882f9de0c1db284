-- What is counted of all sections is what is known of the processes that would be built.
use Rattle.std.proofs.Common.{◌≡◌, ◌+◌, ◌-◌, ℕ, zero, suc, List, [], ◌∷◌, ◌++◌, Bool, true, false, ◌||◌, refl, ap, sym, ◌∙◌, map, length, arith}
use Rattle.std.proofs.lemmas.Bool.Decides.{nat_tests}
use Rattle.std.proofs.lemmas.List.{length-map, map_push}
use Rattle.std.specs.Prelude.{Option, Some, None, Result, Ok, Err, nat_lt, slice_set, slice_index_or, codes, if◌then◌else◌}
use Rattle.std.specs.List.{list_any}
use Rattle.sv_base.specs.declared.config.Host.{Host}
use Rattle.sv_base.specs.declared.spec.GroupSpec.{GroupSpec}
use Rattle.sv_conf.specs.Crowds.{size_of, total, crowd_of, counts_from, numbered_if, are_unnumbered, program_counts, counts_by, counts_at, crowd_with, with_counted, with_counts, crowd_after, whole_crowd}
use Rattle.sv_conf.specs.Emptied.{mapped, emptied, counted_of}
use Rattle.sv_conf.specs.declared.crowd.Crowd.{Crowd}
use Rattle.sv_expand.specs.Results.{and_then}
use Rattle.sv_ini.specs.declared.section.Section.{Section}
use Rattle.sv_keys.specs.KeyTable.{Keys}
use Rattle.sv_keys.specs.ProgramNames.{titled}
use Rattle.sv_keys.specs.declared.judged.KeyFault.{KeyFault}
use Rattle.sv_keys.specs.declared.key.Key.TheVariants as key
use Rattle.sv_sections.specs.Programs.Homes.{all_named, homes_of, own_home, with_part, with_parts}
use Rattle.sv_sections.specs.Programs.Processes.{with_next, part_of, needs_number}
use Rattle.sv_sections.specs.Programs.Programs.{with_place, parts_from, need_numbers, numbered_by, numbered, has_events, program_parts, parts_by, parts_at, after_programs, no_parts, all_parts}
use Rattle.sv_sections.specs.declared.programs.homes.Home.{Home}
use Rattle.sv_sections.specs.declared.programs.homes.Named.{Named}
use Rattle.sv_sections.specs.declared.programs.homes.Part.{Part}
use Rattle.sv_sections.specs.FaultTexts.{IsFault}
use Rattle.sv_sections.specs.SectionFaults.{check_name, or_missing, or_section_fault}
use Rattle.sv_sections.specs.declared.fault.ConfFault.{ConfFault}
use Rattle.sv_sections.specs.declared.fault.ConfFault.TheVariants.{Ini, Missing, BadValue, Expand, NeedsNumber, NoSuchProgram, Unsupported, TwiceNamed, TooMany, OutOfMemory}
use Rattle.sv_sections.specs.declared.server.Common.{Common}

next_mapped : {A B : Type 0} (change : A → B) (done : Result (List A) KeyFault) (next : Result A KeyFault)
    → with_next (mapped (map change) done) (mapped change next) ≡ mapped (map change) (with_next done next)
next_mapped change (Ok done) (Ok next) = ap Ok (sym (map_push change done next))
next_mapped change (Ok done) (Err fault) = refl
next_mapped change (Err fault) (Ok next) = refl
next_mapped change (Err fault) (Err other) = refl

pub then_mapped : {A B C E : Type 0} (change : B → C) (first : Result A E) (f : A → Result B E) (g : A → Result C E) → ((x : A) → g x ≡ mapped change (f x))
    → and_then first g ≡ mapped change (and_then first f)
then_mapped change (Ok x) f g same = same x
then_mapped change (Err fault) f g same = refl

module _ (host : Host) (common : Common) (listener : Bool) (program : List ℕ) (keys : Keys) where
  counts_are : (homes : List Home) (done : Result (List Part) KeyFault)
      → counts_from host common listener program keys (mapped (map (counted_of host program keys)) done) homes
      ≡ mapped (map (counted_of host program keys)) (parts_from host common listener program keys done homes)
  counts_are [] done = refl
  counts_are (home ∷ homes) done =
      ap (λ now. counts_from host common listener program keys now homes)
      (next_mapped (counted_of host program keys) done (with_place home.place (part_of host common listener program keys home.group)))
      ∙ counts_are homes (with_next done (with_place home.place (part_of host common listener program keys home.group)))

  unnumbered_same : (parts : List Part) → are_unnumbered (map (counted_of host program keys) parts)
      ≡ list_any (λ (p : Part). needs_number host program keys p.group.name (length p.group.members)) parts
  unnumbered_same [] = refl
  unnumbered_same (part ∷ parts) = ap (λ b. needs_number host program keys part.group.name (length part.group.members) || b) (unnumbered_same parts)

  numbered_so : (needs : Bool) (title : List ℕ) (parts : List Part)
      → numbered_if needs title (map (counted_of host program keys) parts) ≡ mapped (map (counted_of host program keys)) (numbered_by needs title parts)
  numbered_so true title parts = refl
  numbered_so false title parts = refl

  numbered_same : (title : List ℕ) (parts : Result (List Part) KeyFault)
      → and_then (or_section_fault title (mapped (map (counted_of host program keys)) parts)) (λ counts. numbered_if (are_unnumbered counts) title counts)
      ≡ mapped (map (counted_of host program keys)) (and_then (or_section_fault title parts) (λ parts. numbered host title program keys parts))
  unfolding numbered need_numbers
  numbered_same title (Ok parts) = rw (unnumbered_same parts) (numbered_so (list_any (λ (p : Part). needs_number host program keys p.group.name (length p.group.members)) parts) title parts)
  numbered_same title (Err fault) = refl

  program_counts_are : (title : List ℕ) (homes : List Home)
      → program_counts host common listener title program keys homes ≡ mapped (map (counted_of host program keys)) (program_parts host common listener title program keys homes)
  unfolding program_counts program_parts
  program_counts_are title homes =
      then_mapped (map (counted_of host program keys)) (check_name title program) _ _ (λ good.
      then_mapped (map (counted_of host program keys)) (or_missing title key.Command keys) _ _ (λ set.
      then_mapped (map (counted_of host program keys)) (has_events listener title keys) _ _ (λ set.
      rw (counts_are homes (Ok [])) (numbered_same title (parts_from host common listener program keys (Ok []) homes)))))

-- a part more, and its count
emptied_more : (parts : List (List GroupSpec)) (place : ℕ) (group : GroupSpec)
    → slice_set (map (map emptied) parts) place (slice_index_or (map (map emptied) parts) place [] ++ emptied group ∷ [])
    ≡ map (map emptied) (slice_set parts place (slice_index_or parts place [] ++ group ∷ []))
emptied_more [] place group = refl
emptied_more (first ∷ parts) zero group = ap (λ l. l ∷ map (map emptied) parts) (sym (map_push emptied first group))
emptied_more (first ∷ parts) (suc place) group = ap (λ l. map emptied first ∷ l) (emptied_more parts place group)

size_more : (parts : List GroupSpec) (group : GroupSpec) → size_of (parts ++ group ∷ []) ≡ size_of parts + length group.members
size_more [] group = omega arith
size_more (part ∷ parts) group = omega (arith, size_more parts group)

abbrev added : Bool → ℕ → ℕ
added there count = if there then count else 0

never : (place : ℕ) → nat_lt place 0 ≡ false
never place = grind (arith, nat_tests)

first_there : (count : ℕ) → nat_lt 0 (suc count) ≡ true
first_there count = grind (arith, nat_tests)

next_there : (place count : ℕ) → nat_lt (suc place) (suc count) ≡ nat_lt place count
next_there place count = grind (arith, nat_tests)

total_more : (parts : List (List GroupSpec)) (place : ℕ) (group : GroupSpec)
    → total (slice_set parts place (slice_index_or parts place [] ++ group ∷ [])) ≡ total parts + added (nat_lt place (length parts)) (length group.members)
total_more [] place group = rw (never place) refl
total_more (first ∷ parts) zero group = rw (first_there (length parts)) (omega (arith, size_more first group))
total_more (first ∷ parts) (suc place) group = rw (next_there place (length parts)) (omega (arith, total_more parts place group))

room_more : (all before more : ℕ) → all ≡ before + more → (1025 - before) - more ≡ 1025 - all
room_more all before more e = omega (arith, e)

part_counted : (host : Host) (program : List ℕ) (keys : Keys) (parts : List (List GroupSpec)) (part : Part)
    → with_counted (crowd_of parts) (counted_of host program keys part) ≡ crowd_of (with_part parts part)
part_counted host program keys parts part =
    rw (emptied_more parts part.place part.group, length-map parts (map emptied))
    (ap (λ room. crowd_with (map (map emptied) (with_part parts part)) room)
    (room_more (total (with_part parts part)) (total parts) (added (nat_lt part.place (length parts)) (length part.group.members)) (total_more parts part.place part.group)))

parts_counted : (host : Host) (program : List ℕ) (keys : Keys) (more : List Part) (parts : List (List GroupSpec))
    → with_counts (crowd_of parts) (map (counted_of host program keys) more) ≡ crowd_of (with_parts parts more)
parts_counted host program keys [] parts = refl
parts_counted host program keys (part ∷ more) parts =
    ap (λ crowd. with_counts crowd (map (counted_of host program keys) more)) (part_counted host program keys parts part)
    ∙ parts_counted host program keys more (with_part parts part)

module _ (host : Host) (common : Common) (named : List Named) where
  section_counted : (program : List ℕ) (keys : Keys) (parts : List (List GroupSpec)) (next : Crowd → Result Crowd ConfFault) (more : Result (List Part) ConfFault)
      → and_then (mapped (map (counted_of host program keys)) more) (λ counts. next (with_counts (crowd_of parts) counts)) ≡ and_then more (λ more. next (crowd_of (with_parts parts more)))
  section_counted program keys parts next (Ok more) = ap next (parts_counted host program keys more parts)
  section_counted program keys parts next (Err fault) = refl

  by_titles : (place : ℕ) (section : Section) (parts : List (List GroupSpec)) (next : Crowd → Result Crowd ConfFault) (program listener : Option (List ℕ))
      → and_then (counts_by host common named place section program listener) (λ counts. next (with_counts (crowd_of parts) counts))
      ≡ and_then (parts_by host common named place section program listener) (λ more. next (crowd_of (with_parts parts more)))
  by_titles place section parts next (Some program) listener =
      rw (program_counts_are host common false program section.keys section.name (homes_of place program named))
      (section_counted program section.keys parts next (program_parts host common false section.name program section.keys (homes_of place program named)))
  by_titles place section parts next None (Some listener) =
      rw (program_counts_are host common true listener section.keys section.name (own_home place listener ∷ []))
      (section_counted listener section.keys parts next (program_parts host common true section.name listener section.keys (own_home place listener ∷ [])))
  by_titles place section parts next None None = refl

  step : (place : ℕ) (section : Section) (parts : List (List GroupSpec)) (next : Crowd → Result Crowd ConfFault)
      → and_then (counts_at host common named place section) (λ counts. next (with_counts (crowd_of parts) counts))
      ≡ and_then (parts_at host common named place section) (λ more. next (crowd_of (with_parts parts more)))
  unfolding counts_at parts_at
  step place section parts next = by_titles place section parts next (titled (codes "program") section.name) (titled (codes "eventlistener") section.name)

  sections_counted : (sections : List Section) (place : ℕ) (parts : List (List GroupSpec))
      → crowd_after host common named place (crowd_of parts) sections ≡ mapped crowd_of (after_programs host common named place parts sections)
  sections_counted [] place parts = refl
  sections_counted (section ∷ sections) place parts =
      step place section parts (λ crowd. crowd_after host common named (suc place) crowd sections)
      ∙ then_mapped crowd_of (parts_at host common named place section) (λ more. after_programs host common named (suc place) (with_parts parts more) sections)
      (λ more. crowd_after host common named (suc place) (crowd_of (with_parts parts more)) sections) (λ more. sections_counted sections (suc place) (with_parts parts more))

none_yet : (sections : List Section) → map (map emptied) (map no_parts sections) ≡ map no_parts sections
none_yet [] = refl
none_yet (section ∷ sections) = ap (λ l. [] ∷ l) (none_yet sections)

none_counted : (sections : List Section) → total (map no_parts sections) ≡ 0
none_counted [] = refl
none_counted (section ∷ sections) = omega (arith, none_counted sections)

all_counted : (host : Host) (common : Common) (sections : List Section) → whole_crowd host common sections ≡ mapped crowd_of (all_parts host common sections)
unfolding whole_crowd all_parts
all_counted host common sections =
    ap (λ crowd. crowd_after host common (all_named host sections) 0 crowd sections) start
    ∙ sections_counted host common (all_named host sections) sections 0 (map no_parts sections)
  where
    start : crowd_with (map no_parts sections) 1025 ≡ crowd_of (map no_parts sections)
    start = rw (none_yet sections, none_counted sections) refl

pub crowd_is : (host : Host) (common : Common) (sections : List Section) (crowd : Crowd) → whole_crowd host common sections ≡ Ok crowd
    → mapped crowd_of (all_parts host common sections) ≡ Ok crowd
crowd_is host common sections crowd e = sym (all_counted host common sections) ∙ e

same_fault : {A B : Type 0} (change : A → B) (fault : ConfFault) (given : Result A ConfFault) → mapped change given ≡ Err fault → given ≡ Err fault
same_fault change fault (Ok x) e = cc
same_fault change fault (Err other) e = cc

-- where each fault of the first is one of the second, so is the fault that is told
pub fault_kept : {A B : Type 0} (one : Result A ConfFault) (other : Result B ConfFault) → ((fault : ConfFault) → one ≡ Err fault → other ≡ Err fault)
    → (fault : ConfFault) → IsFault fault one → IsFault fault other
fault_kept one other keeps OutOfMemory e = tt
fault_kept one other keeps (Ini inner) e = keeps (Ini inner) e
fault_kept one other keeps (Missing section name) e = keeps (Missing section name) e
fault_kept one other keeps (BadValue section name) e = keeps (BadValue section name) e
fault_kept one other keeps (Expand section name) e = keeps (Expand section name) e
fault_kept one other keeps (NeedsNumber section) e = keeps (NeedsNumber section) e
fault_kept one other keeps (NoSuchProgram group name) e = keeps (NoSuchProgram group name) e
fault_kept one other keeps (Unsupported section) e = keeps (Unsupported section) e
fault_kept one other keeps (TwiceNamed name) e = keeps (TwiceNamed name) e
fault_kept one other keeps TooMany e = keeps TooMany e

pub fault_is : (host : Host) (common : Common) (sections : List Section) (fault : ConfFault) → IsFault fault (whole_crowd host common sections) → IsFault fault (all_parts host common sections)
fault_is host common sections fault e =
    fault_kept (whole_crowd host common sections) (all_parts host common sections)
    (λ fault e. same_fault crowd_of fault (all_parts host common sections) (sym (all_counted host common sections) ∙ e)) fault e
