-- The names in the sizes with which the daemon begins are those of its log files.
use Rattle.std.proofs.Common.{◌≡◌, ◌∙◌, ◌||◌, ◌&&◌, ℕ, List, [], ◌∷◌, Bool, true, false, IfOk, IsTrue, Option, None, Some, Result, Ok, Err, refl, sym, ap, map, subst}
use Rattle.std.specs.List.{list_any}
use Rattle.std.specs.Str.{bytes_eq}
use Rattle.std.proofs.lemmas.Slice.Eq.{bytes_eq-Decides}
use Rattle.sv_base.specs.declared.config.Config.{Config}
use Rattle.sv_base.specs.declared.spec.GroupSpec.{GroupSpec}
use Rattle.sv_base.specs.declared.spec.Spec.{Spec}
use Rattle.sv_logs.specs.Opening.{begins, begins_as, groups_begin, opening_sizes, processes_begin}
use Rattle.sv_logs.specs.Sizes.{Sizes, is_before, is_before_first, rise, size_in, sized, without_first}
use Rattle.sv_load.specs.Sizes.LogSizes.{group_logs_to, is_log_file, is_name_of, is_one_of, logs_to, name_of}
use Rattle.sv_load.specs.declared.sizes.fault.SizesFault.{SizesFault}

-- the size of the file of this name is known
abbrev is_known : List ℕ → Sizes → Bool
is_known name [] = false
is_known name (known ∷ sizes) = bytes_eq known.0 name || is_known name sizes

or_assoc : (a b c : Bool) → ((a || b) || c) ≡ (a || (b || c))
or_assoc true b c = refl
or_assoc false b c = refl

or_swap : (a b c : Bool) → (a || (b || c)) ≡ (b || (a || c))
or_swap true true c = refl
or_swap true false c = refl
or_swap false b c = refl

or_twice : (a c : Bool) → (a || (a || c)) ≡ (a || c)
or_twice true c = refl
or_twice false c = refl

or_none : (a : Bool) → (a || false) ≡ a
or_none true = refl
or_none false = refl

-- without the file's own entry nothing but that is missing
known_without : (here : Bool) (name file : List ℕ) (known : List ℕ × ℕ) (sizes : Sizes) → bytes_eq known.0 file ≡ here
    → (bytes_eq file name || is_known name (without_first file (known ∷ sizes))) ≡ (bytes_eq file name || is_known name (known ∷ sizes))
known_without true name file known sizes e =
    let same : known.0 ≡ file = (bytes_eq-Decides known.0 file).0 e in
    rw (e, same) (sym (or_twice (bytes_eq file name) (is_known name sizes)))
known_without false name file known sizes e = rw e refl

known_placed : (before : Bool) (name file : List ℕ) (size : ℕ) (known : List ℕ × ℕ) (sizes : Sizes) → is_before known.0 file ≡ before
    → is_known name (sized file size sizes) ≡ (bytes_eq file name || is_known name sizes)
    → is_known name (sized file size (known ∷ sizes)) ≡ (bytes_eq file name || is_known name (known ∷ sizes))
known_placed true name file size known sizes e rest =
    rw e (ap (λ (further : Bool). bytes_eq known.0 name || further) rest
    ∙ or_swap (bytes_eq known.0 name) (bytes_eq file name) (is_known name sizes))
known_placed false name file size known sizes e rest =
    rw e (known_without (bytes_eq known.0 file) name file known sizes refl)

-- the names known after a size was set
known_sized : (name file : List ℕ) (size : ℕ) (sizes : Sizes) → is_known name (sized file size sizes) ≡ (bytes_eq file name || is_known name sizes)
known_sized name file size [] = refl
known_sized name file size (known ∷ sizes) =
    known_placed (is_before known.0 file) name file size known sizes refl (known_sized name file size sizes)

known_begun : (name : List ℕ) (file : Option (List ℕ)) (sizes : Sizes) → is_known name (begins_as file sizes) ≡ (is_name_of name file || is_known name sizes)
known_begun name None sizes = refl
known_begun name (Some file) sizes = known_sized name file (size_in file sizes) sizes

one_process : (name : List ℕ) (spec : Spec) (sizes : Sizes)
    → is_known name (begins spec.stderr (begins spec.stdout sizes)) ≡ (logs_to name spec || is_known name sizes)
one_process name spec sizes =
    known_begun name spec.stderr.file (begins spec.stdout sizes)
    ∙ ap (λ (rest : Bool). is_name_of name spec.stderr.file || rest) (known_begun name spec.stdout.file sizes)
    ∙ or_swap (is_name_of name spec.stderr.file) (is_name_of name spec.stdout.file) (is_known name sizes)
    ∙ sym (or_assoc (is_name_of name spec.stdout.file) (is_name_of name spec.stderr.file) (is_known name sizes))

processes : (name : List ℕ) (specs : List Spec) (sizes : Sizes)
    → is_known name (processes_begin specs sizes) ≡ (list_any (logs_to name) specs || is_known name sizes)
processes name [] sizes = refl
processes name (spec ∷ specs) sizes =
    processes name specs (begins spec.stderr (begins spec.stdout sizes))
    ∙ ap (λ (rest : Bool). list_any (logs_to name) specs || rest) (one_process name spec sizes)
    ∙ or_swap (list_any (logs_to name) specs) (logs_to name spec) (is_known name sizes)
    ∙ sym (or_assoc (logs_to name spec) (list_any (logs_to name) specs) (is_known name sizes))

all_groups : (name : List ℕ) (groups : List GroupSpec) (sizes : Sizes)
    → is_known name (groups_begin groups sizes) ≡ (list_any (group_logs_to name) groups || is_known name sizes)
all_groups name [] sizes = refl
all_groups name (group ∷ groups) sizes =
    all_groups name groups (processes_begin group.members sizes)
    ∙ ap (λ (rest : Bool). list_any (group_logs_to name) groups || rest) (processes name group.members sizes)
    ∙ or_swap (list_any (group_logs_to name) groups) (group_logs_to name group) (is_known name sizes)
    ∙ sym (or_assoc (group_logs_to name group) (list_any (group_logs_to name) groups) (is_known name sizes))

known_files : (config : Config) (name : List ℕ) → is_known name (opening_sizes config []) ≡ is_log_file config name
known_files config name =
    all_groups name config.groups (begins config.main [])
    ∙ ap (λ (rest : Bool). list_any (group_logs_to name) config.groups || rest)
    (known_begun name config.main.file [] ∙ or_none (is_name_of name config.main.file))

known_names : (name : List ℕ) (sizes : Sizes) → is_one_of name (map name_of sizes) ≡ is_known name sizes
known_names name [] = refl
known_names name (known ∷ sizes) = ap (λ (rest : Bool). bytes_eq known.0 name || rest) (known_names name sizes)

-- sizes with the names of the sizes with which the daemon begins
pub names_are : {A : Type 0} (items : A → Sizes) (config : Config) (known : Sizes) (result : Result A SizesFault)
    → IfOk result (λ sizes. map name_of (items sizes) ≡ map name_of known) → known ≡ opening_sizes config []
    → IfOk result (λ sizes. (name : List ℕ) → is_one_of name (map name_of (items sizes)) ≡ is_log_file config name)
names_are items config known (Ok sizes) same is =
    λ name. ap (is_one_of name) same ∙ known_names name known ∙ ap (is_known name) is ∙ known_files config name
names_are items config known (Err fault) same is = tt

-- ---- rising names

abbrev is_first : List ℕ → List (List ℕ) → Bool
is_first name [] = true
is_first name (other ∷ names) = is_before name other

abbrev names_rise : List (List ℕ) → Bool
names_rise [] = true
names_rise (name ∷ names) = is_first name names && names_rise names

first_by_names : (name : List ℕ) (sizes : Sizes) → is_before_first name sizes ≡ is_first name (map name_of sizes)
first_by_names name [] = refl
first_by_names name (known ∷ sizes) = refl

rise_by_names : (sizes : Sizes) → rise sizes ≡ names_rise (map name_of sizes)
rise_by_names [] = refl
rise_by_names (known ∷ sizes) = rw (first_by_names known.0 sizes, rise_by_names sizes) refl

pub names_rising : {A : Type 0} (items : A → Sizes) (known : Sizes) (result : Result A SizesFault)
    → IfOk result (λ sizes. map name_of (items sizes) ≡ map name_of known) → IsTrue (rise known)
    → IfOk result (λ sizes. IsTrue (rise (items sizes)))
names_rising items known (Ok sizes) same rises =
    subst (λ (is : Bool). IsTrue is) (rise_by_names known ∙ ap names_rise (sym same) ∙ sym (rise_by_names (items sizes))) rises
names_rising items known (Err fault) same rises = tt
