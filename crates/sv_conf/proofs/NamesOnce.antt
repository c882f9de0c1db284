-- Where each process has a name of its own, all are in each group as the section's settings tell.
use Rattle.std.proofs.Common.{◌≡◌, ◌+◌, ℕ, zero, suc, ℤ, List, [], ◌∷◌, ◌++◌, Bool, true, false, not, ◌&&◌, ◌||◌, refl, ap, sym, ◌∙◌, append-nil, append_assoc, map, length}
use Rattle.std.proofs.lemmas.List.{length-map}
use Rattle.std.specs.Prelude.{Option, Some, None, Result, Ok, Err, is_ok, IfOk, IfSome, if◌then◌else◌}
use Rattle.std.specs.List.{list_any}
use Rattle.std.specs.Str.{bytes_eq}
use Rattle.sv_base.specs.declared.config.Host.{Host}
use Rattle.sv_base.specs.declared.spec.GroupSpec.{GroupSpec}
use Rattle.sv_base.specs.declared.spec.Spec.{Spec}
use Rattle.sv_conf.proofs.DraftsOnce.{renamed, draft_given, settings_kept, settings_tell}
use Rattle.sv_conf.proofs.Keeping.{row_keeps}
use Rattle.sv_conf.proofs.Tells.{draft_tells, name_tells, settings_tell_more}
use Rattle.sv_conf.specs.Duplicates.{twice_at, first_twice}
use Rattle.sv_conf.specs.Emptied.{mapped, emptied, counted_of, counted_in}
use Rattle.sv_conf.specs.Once.{section_pairs, with_stand_in, with_name, then_new, have_names, sized_by, AreOnce, ReadsOnce, counted_once}
use Rattle.sv_keys.specs.KeyTable.{Keys, draft_of, settings_of}
use Rattle.sv_keys.specs.KnownNames.{program_pairs, without_numbers, with_count, with_process}
use Rattle.sv_keys.specs.ProgramNames.{name_of}
use Rattle.sv_keys.specs.Rows.{row}
use Rattle.sv_keys.specs.declared.judged.KeyFault.{KeyFault}
use Rattle.sv_keys.specs.declared.key.Key.TheVariants.{ProcessName}
use Rattle.sv_keys.specs.declared.table.Draft.{Draft}
use Rattle.sv_keys.specs.declared.table.Settings.{Settings}
use Rattle.sv_sections.specs.Programs.Processes.{spec_of, drafts_from, all_specs, group_from, part_of, needs_number}
use Rattle.sv_sections.specs.Programs.Programs.{with_place}
use Rattle.sv_sections.specs.declared.programs.homes.Home.{Home}
use Rattle.sv_sections.specs.declared.server.Common.{Common}

-- names of which none stands twice or among others
abbrev are_new : (List ℕ → Bool) → List (List ℕ) → Bool
are_new has [] = true
are_new has (name ∷ names) = not (has name) && are_new (with_name has name) names

pub any_last : {A : Type 0} (test : A → Bool) (xs : List A) (x : A) → list_any test (xs ++ x ∷ []) ≡ (test x || list_any test xs)
any_last test [] x = refl
any_last test (y ∷ ys) x = rw (any_last test ys x) (swap (test y) (test x) (list_any test ys))
  where
    swap : (a b c : Bool) → (a || (b || c)) ≡ (b || (a || c))
    swap true true c = refl
    swap true false c = refl
    swap false true c = refl
    swap false false c = refl

both : (a b : Bool) → (not a && b) ≡ true → (a ≡ false) × (b ≡ true)
both true b e = cc
both false b e = (refl, e)

module _ (host : Host) (listener : Bool) (program : List ℕ) (keys : Keys) (group : List ℕ) (count : ℕ) (draft : Draft)
    (is_draft : draft_of listener program (with_stand_in keys) (with_count (section_pairs host program) count) ≡ Ok draft) where
  -- so many further processes have drafts of which only the name differs
  record Drafted (done : List Draft) (has : List ℕ → Bool) (process left : ℕ) : Type 0 where
    names : List (List ℕ)
    drafted : drafts_from listener program keys (program_pairs host program group) count (Ok done) process left ≡ Ok (done ++ map (λ n. renamed n draft) names)
    new : are_new has names ≡ true
    many : length names ≡ left

  one_more : (done : List Draft) (has : List ℕ → Bool) (process left : ℕ)
      → ((done : List Draft) (has : List ℕ → Bool) (process : ℕ) → have_names program keys (section_pairs host program) count has process left ≡ true → Drafted done has process left)
      → (named : Result (List ℕ) KeyFault) → row ProcessName name_of program keys (with_process (section_pairs host program) count process) ≡ named
      → (there : Bool) → (name : List ℕ) → named ≡ Ok name → has name ≡ there
      → (if there then false else have_names program keys (section_pairs host program) count (with_name has name) (process + 1) left) ≡ true
      → Drafted done has process (suc left)
  one_more done has process left more named is true name ok fresh e = cc
  one_more done has process left more named is false name ok fresh e =
      let rest = more (done ++ renamed name draft ∷ []) (with_name has name) (process + 1) e in
      let row_here = row_keeps (with_process (section_pairs host program) count process) (with_process (program_pairs host program group) count process)
      (name_tells host program group count process) ProcessName name_of program keys keys refl name (is ∙ ok) in
      let here = draft_given (with_count (section_pairs host program) count) (with_process (program_pairs host program group) count process)
      (draft_tells host program group count process) listener program name keys row_here draft is_draft in
      record {
        names = name ∷ rest.names;
        drafted = rw here (rest.drafted ∙ ap Ok (append_assoc done (renamed name draft ∷ []) (map (λ n. renamed n draft) rest.names)));
        new = rw (fresh, rest.new) refl;
        many = ap suc rest.many;
      }

  by_name : (done : List Draft) (has : List ℕ → Bool) (process left : ℕ)
      → ((done : List Draft) (has : List ℕ → Bool) (process : ℕ) → have_names program keys (section_pairs host program) count has process left ≡ true → Drafted done has process left)
      → (named : Result (List ℕ) KeyFault) → row ProcessName name_of program keys (with_process (section_pairs host program) count process) ≡ named
      → then_new named has (λ now. have_names program keys (section_pairs host program) count now (process + 1) left) ≡ true
      → Drafted done has process (suc left)
  by_name done has process left more (Err fault) is e = cc
  by_name done has process left more (Ok name) is e = one_more done has process left more (Ok name) is (has name) name refl refl e

  drafts_named : (left : ℕ) (done : List Draft) (has : List ℕ → Bool) (process : ℕ) → have_names program keys (section_pairs host program) count has process left ≡ true
      → Drafted done has process left
  drafts_named zero done has process e = record { names = []; drafted = ap Ok (sym (append-nil done)); new = refl; many = refl }
  drafts_named (suc left) done has process e =
      by_name done has process left (drafts_named left) (row ProcessName name_of program keys (with_process (section_pairs host program) count process)) refl e

module _ (common : Common) (listener : Bool) (group : List ℕ) (priority : ℤ) (draft : Draft) where
  abbrev made : List ℕ → Spec
  made name = spec_of common listener group priority (renamed name draft)

  name_made : (name : List ℕ) → (made name).name ≡ name
  unfolding spec_of
  name_made name = refl

  all_made : (names : List (List ℕ)) → all_specs common listener group priority (map (λ n. renamed n draft) names) ≡ map made names
  all_made [] = refl
  all_made (name ∷ names) = ap (λ specs. made name ∷ specs) (all_made names)

  none_twice : (names : List (List ℕ)) (has : List ℕ → Bool) (before : List Spec)
      → ((name : List ℕ) → has name ≡ list_any (λ (other : Spec). bytes_eq other.name name) before) → are_new has names ≡ true
      → first_twice before (map made names) ≡ None
  unfolding twice_at
  none_twice [] has before same new = refl
  none_twice (name ∷ names) has before same new =
      let parts = both (has name) (are_new (with_name has name) names) new in
      let fresh : list_any (λ (other : Spec). bytes_eq other.name (made name).name) before ≡ false = rw (name_made name) (sym (same name) ∙ parts.0) in
      rw fresh (none_twice names (with_name has name) (before ++ made name ∷ [])
      (λ other. ap (λ b. bytes_eq name other || b) (same other) ∙ ap (λ n. bytes_eq n other || list_any (λ (one : Spec). bytes_eq one.name other) before) (sym (name_made name))
      ∙ sym (any_last (λ (one : Spec). bytes_eq one.name other) before (made name))) parts.1)

-- settings that are read once tell the processes of a section in each group
pub reads_once : (host : Host) (listener : Bool) (program : List ℕ) (keys : Keys) (settings : Settings)
    → settings_of listener keys (without_numbers (section_pairs host program)) ≡ Ok settings
    → is_ok (draft_of listener program (with_stand_in keys) (with_count (section_pairs host program) settings.count)) ≡ true
    → have_names program keys (section_pairs host program) settings.count (λ _. false) settings.start settings.count ≡ true
    → (common : Common) → ReadsOnce host common listener program keys settings
unfolding part_of group_from
reads_once host listener program keys settings is drafts names common group =
    by_draft (draft_of listener program (with_stand_in keys) (with_count (section_pairs host program) settings.count)) refl drafts
  where
    by_draft : (drafted : Result Draft KeyFault) → draft_of listener program (with_stand_in keys) (with_count (section_pairs host program) settings.count) ≡ drafted
        → is_ok drafted ≡ true
        → mapped (λ (part : GroupSpec). (emptied part, length part.members)) (part_of host common listener program keys group) ≡ Ok (sized_by settings group)
    by_draft (Err fault) e ok = cc
    by_draft (Ok draft) e ok =
        let all = drafts_named host listener program keys group settings.count draft e settings.count [] (λ _. false) settings.start names in
        let here = settings_kept (without_numbers (section_pairs host program)) (without_numbers (program_pairs host program group)) (settings_tell_more host program group) listener keys settings is in
        let tells = settings_tell listener keys (without_numbers (program_pairs host program group)) settings here in
        let none = none_twice common listener group settings.priority draft all.names (λ _. false) [] (λ name. refl) all.new in
        let made_all = all_made common listener group settings.priority draft all.names in
        rw (tells.0, tells.1, here, all.drafted, made_all, none) (ap (λ n. Ok (record { name = group; priority = settings.priority; members = []; pool = settings.pool }, n)) (length-map all.names (made common listener group settings.priority draft) ∙ all.many))

-- what settings tell of the processes in a group is what counting them tells
pub counted_so : (host : Host) (common : Common) (listener : Bool) (program : List ℕ) (keys : Keys) (settings : Settings) (home : Home)
    → ReadsOnce host common listener program keys settings
    → Ok (counted_once host program keys settings home) ≡ counted_in host common listener program keys home
counted_so host common listener program keys settings home reads = by_part (part_of host common listener program keys home.group) (reads home.group)
  where
    inner : (part : GroupSpec) → Path (Result (GroupSpec × ℕ) KeyFault) (Ok (emptied part, length part.members)) (Ok (sized_by settings home.group)) → Path (GroupSpec × ℕ) (emptied part, length part.members) (sized_by settings home.group)
    inner part e = cc

    by_part : (part : Result GroupSpec KeyFault) → mapped (λ (part : GroupSpec). (emptied part, length part.members)) part ≡ Ok (sized_by settings home.group)
        → Ok (counted_once host program keys settings home) ≡ mapped (counted_of host program keys) (with_place home.place part)
    by_part (Err fault) e = cc
    by_part (Ok part) e = sym (ap (λ (sized : GroupSpec × ℕ). Ok (record { place = home.place; group = sized.0; count = sized.1; needs = needs_number host program keys sized.0.name sized.1 })) (inner part e))

-- the same of settings that there may be
read_so : (host : Host) (listener : Bool) (program : List ℕ) (keys pairs : Keys) (once : Option Settings) → pairs ≡ section_pairs host program
    → IfSome once (λ (settings : Settings). AreOnce listener program keys pairs settings)
    → IfSome once (λ (settings : Settings). (common : Common) → ReadsOnce host common listener program keys settings)
read_so host listener program keys pairs None is once = tt
read_so host listener program keys pairs (Some settings) is once =
    let there : AreOnce listener program keys (section_pairs host program) settings = rw is at once in
    reads_once host listener program keys settings there.read there.drafted there.named

pub read_result : {E : Type 0} (host : Host) (listener : Bool) (program : List ℕ) (keys pairs : Keys) (once : Result (Option Settings) E) → pairs ≡ section_pairs host program
    → IfOk once (λ once. IfSome once (λ (settings : Settings). AreOnce listener program keys pairs settings))
    → IfOk once (λ once. IfSome once (λ (settings : Settings). (common : Common) → ReadsOnce host common listener program keys settings))
read_result host listener program keys pairs (Ok once) is are = read_so host listener program keys pairs once is are
read_result host listener program keys pairs (Err fault) is are = tt
