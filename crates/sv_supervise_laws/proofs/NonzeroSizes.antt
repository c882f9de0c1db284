-- A log file whose size isn't told begins with 0, so sizes of 0 needn't be told.
use Rattle.std.proofs.Common.{◌≡◌, ℕ, zero, suc, List, [], ◌∷◌, Bool, true, false, ◌||◌, Option, Some, None, map, refl, sym, ap, subst, ◌∙◌, arith}
use Rattle.std.specs.Cmp.Lexicographic.{slice_cmp, nat_list_cmp_total, texts_ties}
use Rattle.std.specs.List.{list_any}
use Rattle.std.specs.Ordering.{nat_cmp, is_eq, is_lt}
use Rattle.std.specs.Prelude.{if◌then◌else◌, nat_lt}
use Rattle.std.specs.Str.{bytes_eq}
use Rattle.std.specs.declared.cmp.Ordering.{Ordering}
use Rattle.std.specs.declared.cmp.Ordering.TheVariants.{Less, Equal, Greater}
use Rattle.std.proofs.lemmas.Bool.{lt-ltb}
use Rattle.std.proofs.lemmas.Slice.Eq.{bytes_eq-Decides}
use Rattle.sv_base.specs.declared.config.Config.{Config}
use Rattle.sv_base.specs.declared.spec.GroupSpec.{GroupSpec}
use Rattle.sv_base.specs.declared.spec.Spec.{Spec}
use Rattle.sv_logs.proofs.Places.{and_left, and_right, both, sized_rises}
use Rattle.sv_logs.specs.Opening.{begins, begins_as, groups_begin, opening_sizes, processes_begin}
use Rattle.sv_logs.specs.Sizes.{Sizes, is_before, is_before_first, rise, size_in, sized, without_first}
use Rattle.sv_load.specs.Sizes.LogSizes.{group_logs_to, is_log_file, is_name_of, is_one_of, logs_to, name_of}
use Rattle.sv_supervise_laws.specs.Rerun.{told_sizes}

-- ---- names

same : (one other : List ℕ) → bytes_eq one other ≡ true → one ≡ other
same one other e = (bytes_eq-Decides one other).0 e

itself : (name : List ℕ) → bytes_eq name name ≡ true
itself name = (bytes_eq-Decides name name).1 refl

less : (answer : Ordering) → is_lt answer ≡ true → answer ≡ Less
less Less e = refl
less Equal e = cc
less Greater e = cc

never_both : (answer : Ordering) → is_lt answer ≡ true → is_eq answer ≡ true → ⊥
never_both Less e f = cc
never_both Equal e f = cc
never_both Greater e f = cc

before_trans : (one other third : List ℕ) → is_before one other ≡ true → is_before other third ≡ true → is_before one third ≡ true
before_trans one other third e f =
    ap is_lt (nat_list_cmp_total.trans one other third (less (slice_cmp nat_cmp one other) e) (less (slice_cmp nat_cmp other third) f))

not_itself : (name : List ℕ) → is_before name name ≡ true → ⊥
not_itself name e = never_both (slice_cmp nat_cmp name name) e (sym (texts_ties name name) ∙ itself name)

never_around : (one other : List ℕ) → is_before one other ≡ true → is_before other one ≡ true → ⊥
never_around one other e f = not_itself one (before_trans one other one e f)

-- ---- what is known of a file

abbrev found : List ℕ → Sizes → Option ℕ
found name [] = None
found name (known ∷ sizes) = if bytes_eq known.0 name then Some known.1 else found name sizes

abbrev or_zero : Option ℕ → ℕ
or_zero None = 0
or_zero (Some size) = size

size_is : (name : List ℕ) (sizes : Sizes) → size_in name sizes ≡ or_zero (found name sizes)
size_is name [] = refl
size_is name (known ∷ sizes) = by (bytes_eq known.0 name) (size_is name sizes)
  where
    by : (here : Bool) → size_in name sizes ≡ or_zero (found name sizes)
        → (if here then known.1 else size_in name sizes) ≡ or_zero (if here then Some known.1 else found name sizes)
    by true rest = refl
    by false rest = rest

found_without : (here : Bool) (name file : List ℕ) (size : ℕ) (known : List ℕ × ℕ) (sizes : Sizes) → bytes_eq known.0 file ≡ here
    → (if bytes_eq file name then Some size else found name (without_first file (known ∷ sizes)))
    ≡ (if bytes_eq file name then Some size else found name (known ∷ sizes))
found_without true name file size known sizes e = by (bytes_eq file name) refl
  where
    skipped : bytes_eq file name ≡ false → bytes_eq known.0 name ≡ false
    skipped f = subst (λ (one : List ℕ). bytes_eq one name ≡ false) (sym (same known.0 file e)) f

    by : (named : Bool) → bytes_eq file name ≡ named
        → (if named then Some size else found name (without_first file (known ∷ sizes)))
        ≡ (if named then Some size else found name (known ∷ sizes))
    by true f = refl
    by false f = rw (e, skipped f) refl
found_without false name file size known sizes e = rw e refl

found_placed : (before : Bool) (name file : List ℕ) (size : ℕ) (known : List ℕ × ℕ) (sizes : Sizes) → is_before known.0 file ≡ before
    → found name (sized file size sizes) ≡ (if bytes_eq file name then Some size else found name sizes)
    → found name (sized file size (known ∷ sizes)) ≡ (if bytes_eq file name then Some size else found name (known ∷ sizes))
found_placed true name file size known sizes e rest = rw e (by (bytes_eq known.0 name) (bytes_eq file name) refl refl)
  where
    by : (here named : Bool) → bytes_eq known.0 name ≡ here → bytes_eq file name ≡ named
        → (if here then Some known.1 else found name (sized file size sizes))
        ≡ (if named then Some size else (if here then Some known.1 else found name sizes))
    by true true h n =
        absurd (not_itself file (subst (λ (one : List ℕ). is_before one file ≡ true) (same known.0 name h ∙ sym (same file name n)) e))
    by true false h n = refl
    by false true h n = rest ∙ rw n refl
    by false false h n = rest ∙ rw n refl
found_placed false name file size known sizes e rest =
    rw e (found_without (bytes_eq known.0 file) name file size known sizes refl)

found_sized : (name file : List ℕ) (size : ℕ) (sizes : Sizes)
    → found name (sized file size sizes) ≡ (if bytes_eq file name then Some size else found name sizes)
found_sized name file size [] = refl
found_sized name file size (known ∷ sizes) =
    found_placed (is_before known.0 file) name file size known sizes refl (found_sized name file size sizes)

-- ---- what is known as the daemon begins

abbrev opened : Bool → Option ℕ → Option ℕ
opened here known = if here then Some (or_zero known) else known

opened_one : (main groups : Bool) (known : Option ℕ) → opened groups (opened main known) ≡ opened (groups || main) known
opened_one true true known = refl
opened_one true false known = refl
opened_one false true known = refl
opened_one false false known = refl

opened_pair : (out err rest : Bool) (known : Option ℕ) → opened rest (opened err (opened out known)) ≡ opened ((out || err) || rest) known
opened_pair true true true known = refl
opened_pair true true false known = refl
opened_pair true false true known = refl
opened_pair true false false known = refl
opened_pair false true true known = refl
opened_pair false true false known = refl
opened_pair false false true known = refl
opened_pair false false false known = refl

opened_next : (first rest : Bool) (known : Option ℕ) → opened rest (opened first known) ≡ opened (first || rest) known
opened_next true true known = refl
opened_next true false known = refl
opened_next false true known = refl
opened_next false false known = refl

found_begun : (name : List ℕ) (file : Option (List ℕ)) (sizes : Sizes)
    → found name (begins_as file sizes) ≡ opened (is_name_of name file) (found name sizes)
found_begun name None sizes = refl
found_begun name (Some file) sizes = found_sized name file (size_in file sizes) sizes ∙ by (bytes_eq file name) refl
  where
    known : bytes_eq file name ≡ true → size_in file sizes ≡ or_zero (found name sizes)
    known e = ap (λ (one : List ℕ). size_in one sizes) (same file name e) ∙ size_is name sizes

    by : (here : Bool) → bytes_eq file name ≡ here
        → (if here then Some (size_in file sizes) else found name sizes) ≡ opened here (found name sizes)
    by true e = ap (λ (size : ℕ). Some size) (known e)
    by false e = refl

found_processes : (name : List ℕ) (specs : List Spec) (sizes : Sizes)
    → found name (processes_begin specs sizes) ≡ opened (list_any (logs_to name) specs) (found name sizes)
found_processes name [] sizes = refl
found_processes name (spec ∷ specs) sizes =
    found_processes name specs (begins spec.stderr (begins spec.stdout sizes))
    ∙ ap (opened (list_any (logs_to name) specs))
    (found_begun name spec.stderr.file (begins spec.stdout sizes)
    ∙ ap (opened (is_name_of name spec.stderr.file)) (found_begun name spec.stdout.file sizes))
    ∙ opened_pair (is_name_of name spec.stdout.file) (is_name_of name spec.stderr.file) (list_any (logs_to name) specs) (found name sizes)

found_groups : (name : List ℕ) (groups : List GroupSpec) (sizes : Sizes)
    → found name (groups_begin groups sizes) ≡ opened (list_any (group_logs_to name) groups) (found name sizes)
found_groups name [] sizes = refl
found_groups name (group ∷ groups) sizes =
    found_groups name groups (processes_begin group.members sizes)
    ∙ ap (opened (list_any (group_logs_to name) groups)) (found_processes name group.members sizes)
    ∙ opened_next (group_logs_to name group) (list_any (group_logs_to name) groups) (found name sizes)

found_opening : (config : Config) (name : List ℕ) (sizes : Sizes)
    → found name (opening_sizes config sizes) ≡ opened (is_log_file config name) (found name sizes)
found_opening config name sizes =
    found_groups name config.groups (begins config.main sizes)
    ∙ ap (opened (list_any (group_logs_to name) config.groups)) (found_begun name config.main.file sizes)
    ∙ opened_one (is_name_of name config.main.file) (list_any (group_logs_to name) config.groups) (found name sizes)

-- ---- sizes above 0

abbrev above : Option ℕ → Option ℕ
above None = None
above (Some size) = if nat_lt 0 size then Some size else None

further : (name first : List ℕ) (sizes : Sizes) → is_before name first ≡ true → is_before_first first sizes ≡ true → is_before_first name sizes ≡ true
further name first [] e f = refl
further name first (next ∷ sizes) e f = before_trans name first next.0 e f

head_rises : (known : List ℕ × ℕ) (sizes : Sizes) → rise (known ∷ sizes) ≡ true → is_before_first known.0 sizes ≡ true
head_rises known sizes rises = and_left (is_before_first known.0 sizes) (rise sizes) rises

tail_rises : (known : List ℕ × ℕ) (sizes : Sizes) → rise (known ∷ sizes) ≡ true → rise sizes ≡ true
tail_rises known sizes rises = and_right (is_before_first known.0 sizes) (rise sizes) rises

one_not_found : (here : Bool) (name : List ℕ) (known : List ℕ × ℕ) (sizes : Sizes) → bytes_eq known.0 name ≡ here
    → is_before name known.0 ≡ true → found name sizes ≡ None → (if here then Some known.1 else found name sizes) ≡ None
one_not_found true name known sizes e first rest =
    absurd (not_itself name (subst (λ (one : List ℕ). is_before name one ≡ true) (same known.0 name e) first))
one_not_found false name known sizes e first rest = rest

none_found : (name : List ℕ) (sizes : Sizes) → is_before_first name sizes ≡ true → rise sizes ≡ true → found name sizes ≡ None
none_found name [] first rises = refl
none_found name (known ∷ sizes) first rises =
    one_not_found (bytes_eq known.0 name) name known sizes refl first
    (none_found name sizes (further name known.0 sizes first (head_rises known sizes rises)) (tail_rises known sizes rises))

told_one : (some here : Bool) (name : List ℕ) (known : List ℕ × ℕ) (sizes : Sizes) → nat_lt 0 known.1 ≡ some → bytes_eq known.0 name ≡ here
    → found name (told_sizes sizes) ≡ above (found name sizes) → (here ≡ true → found name sizes ≡ None)
    → found name (if some then known ∷ told_sizes sizes else told_sizes sizes) ≡ above (if here then Some known.1 else found name sizes)
told_one true true name known sizes s h tail none = rw (h, s) refl
told_one true false name known sizes s h tail none = rw h tail
told_one false true name known sizes s h tail none = rw s (tail ∙ ap above (none refl))
told_one false false name known sizes s h tail none = tail

found_told : (name : List ℕ) (sizes : Sizes) → rise sizes ≡ true → found name (told_sizes sizes) ≡ above (found name sizes)
found_told name [] rises = refl
found_told name (known ∷ sizes) rises =
    told_one (nat_lt 0 known.1) (bytes_eq known.0 name) name known sizes refl refl (found_told name sizes (tail_rises known sizes rises))
    (λ e. subst (λ (one : List ℕ). found one sizes ≡ None) (same known.0 name e)
    (none_found known.0 sizes (head_rises known sizes rises) (tail_rises known sizes rises)))

first_kept : (some : Bool) (name : List ℕ) (known : List ℕ × ℕ) (sizes : Sizes) → is_before name known.0 ≡ true
    → is_before_first name (told_sizes sizes) ≡ true → is_before_first name (if some then known ∷ told_sizes sizes else told_sizes sizes) ≡ true
first_kept true name known sizes first rest = first
first_kept false name known sizes first rest = rest

first_told : (name : List ℕ) (sizes : Sizes) → is_before_first name sizes ≡ true → rise sizes ≡ true → is_before_first name (told_sizes sizes) ≡ true
first_told name [] first rises = refl
first_told name (known ∷ sizes) first rises =
    first_kept (nat_lt 0 known.1) name known sizes first
    (first_told name sizes (further name known.0 sizes first (head_rises known sizes rises)) (tail_rises known sizes rises))

one_kept : (some : Bool) (known : List ℕ × ℕ) (sizes : Sizes) → is_before_first known.0 (told_sizes sizes) ≡ true → rise (told_sizes sizes) ≡ true
    → rise (if some then known ∷ told_sizes sizes else told_sizes sizes) ≡ true
one_kept true known sizes first tail = both (is_before_first known.0 (told_sizes sizes)) (rise (told_sizes sizes)) first tail
one_kept false known sizes first tail = tail

pub told_rise : (sizes : Sizes) → rise sizes ≡ true → rise (told_sizes sizes) ≡ true
told_rise [] rises = refl
told_rise (known ∷ sizes) rises =
    one_kept (nat_lt 0 known.1) known sizes (first_told known.0 sizes (head_rises known sizes rises) (tail_rises known sizes rises))
    (told_rise sizes (tail_rises known sizes rises))

-- ---- rising sizes of which the same is known are the same

begun_rises : (file : Option (List ℕ)) (sizes : Sizes) → rise sizes ≡ true → rise (begins_as file sizes) ≡ true
begun_rises None sizes rises = rises
begun_rises (Some file) sizes rises = sized_rises file (size_in file sizes) sizes rises

processes_rise : (specs : List Spec) (sizes : Sizes) → rise sizes ≡ true → rise (processes_begin specs sizes) ≡ true
processes_rise [] sizes rises = rises
processes_rise (spec ∷ specs) sizes rises =
    processes_rise specs (begins spec.stderr (begins spec.stdout sizes))
    (begun_rises spec.stderr.file (begins spec.stdout sizes) (begun_rises spec.stdout.file sizes rises))

groups_rise : (groups : List GroupSpec) (sizes : Sizes) → rise sizes ≡ true → rise (groups_begin groups sizes) ≡ true
groups_rise [] sizes rises = rises
groups_rise (group ∷ groups) sizes rises =
    groups_rise groups (processes_begin group.members sizes) (processes_rise group.members sizes rises)

pub opening_rises : (config : Config) (sizes : Sizes) → rise sizes ≡ true → rise (opening_sizes config sizes) ≡ true
opening_rises config sizes rises = groups_rise config.groups (begins config.main sizes) (begun_rises config.main.file sizes rises)

found_first : (known : List ℕ × ℕ) (sizes : Sizes) → found known.0 (known ∷ sizes) ≡ Some known.1
found_first known sizes = rw (itself known.0) refl

-- the one is found beside the other's first, so that it stands after it
behind_next : (here : Bool) (name : List ℕ) (known next : List ℕ × ℕ) → bytes_eq next.0 name ≡ here → is_before known.0 next.0 ≡ true
    → (here ≡ false → is_before next.0 name ≡ true) → is_before known.0 name ≡ true
behind_next true name known next h first later = subst (λ (one : List ℕ). is_before known.0 one ≡ true) (same next.0 name h) first
behind_next false name known next h first later = before_trans known.0 next.0 name first (later refl)

behind_first : (name : List ℕ) (size : ℕ) (known : List ℕ × ℕ) (sizes : Sizes) → rise (known ∷ sizes) ≡ true
    → found name (known ∷ sizes) ≡ Some size → bytes_eq known.0 name ≡ false → is_before known.0 name ≡ true
behind_first name size known [] rises e n =
    let nothing : found name (known ∷ []) ≡ None = rw n refl in
    let never : None ≡ Some size = sym nothing ∙ e in cc
behind_first name size known (next ∷ sizes) rises e n =
    let skipped : found name (known ∷ (next ∷ sizes)) ≡ found name (next ∷ sizes) = rw n refl in
    let there : found name (next ∷ sizes) ≡ Some size = sym skipped ∙ e in
    behind_next (bytes_eq next.0 name) name known next refl (head_rises known (next ∷ sizes) rises)
    (λ h. behind_first name size next sizes (tail_rises known (next ∷ sizes) rises) there h)

same_first : (one other : List ℕ × ℕ) (ones others : Sizes) → rise (one ∷ ones) ≡ true → rise (other ∷ others) ≡ true
    → ((name : List ℕ) → found name (one ∷ ones) ≡ found name (other ∷ others)) → one.0 ≡ other.0
same_first one other ones others r s alike = by (bytes_eq other.0 one.0) (bytes_eq one.0 other.0) refl refl
  where
    by : (here there : Bool) → bytes_eq other.0 one.0 ≡ here → bytes_eq one.0 other.0 ≡ there → one.0 ≡ other.0
    by true there h t = sym (same other.0 one.0 h)
    by false true h t = same one.0 other.0 t
    by false false h t =
        absurd (never_around other.0 one.0
        (behind_first one.0 one.1 other others s (sym (alike one.0) ∙ found_first one ones) h)
        (behind_first other.0 other.1 one ones r (alike other.0 ∙ found_first other others) t))

same_tails : (here : Bool) (one other : List ℕ × ℕ) (ones others : Sizes) (name : List ℕ) → rise (one ∷ ones) ≡ true → rise (other ∷ others) ≡ true
    → found name (one ∷ ones) ≡ found name (other ∷ others) → one.0 ≡ other.0 → bytes_eq one.0 name ≡ here → found name ones ≡ found name others
same_tails true one other ones others name r s alike e h =
    let mine : is_before_first name ones ≡ true =
    subst (λ (first : List ℕ). is_before_first first ones ≡ true) (same one.0 name h) (head_rises one ones r) in
    let its : is_before_first name others ≡ true =
    subst (λ (first : List ℕ). is_before_first first others ≡ true) (sym e ∙ same one.0 name h) (head_rises other others s) in
    none_found name ones mine (tail_rises one ones r) ∙ sym (none_found name others its (tail_rises other others s))
same_tails false one other ones others name r s alike e h =
    let there : bytes_eq other.0 name ≡ false = subst (λ (first : List ℕ). bytes_eq first name ≡ false) e h in
    let left : found name (one ∷ ones) ≡ found name ones = rw h refl in
    let right : found name (other ∷ others) ≡ found name others = rw there refl in
    sym left ∙ alike ∙ right

same_heads : (one other : List ℕ × ℕ) (ones others : Sizes) → found one.0 (one ∷ ones) ≡ found one.0 (other ∷ others) → one.0 ≡ other.0 → one ≡ other
same_heads one other ones others alike e =
    let its : found one.0 (other ∷ others) ≡ Some other.1 =
    subst (λ (name : List ℕ). found name (other ∷ others) ≡ Some other.1) (sym e) (found_first other others) in
    let sizes : Some one.1 ≡ Some other.1 = sym (found_first one ones) ∙ alike ∙ its in
    let size : one.1 ≡ other.1 = cc in
    rw (e, size) refl

same_sizes : (ones others : Sizes) → rise ones ≡ true → rise others ≡ true
    → ((name : List ℕ) → found name ones ≡ found name others) → ones ≡ others
same_sizes [] [] r s alike = refl
same_sizes [] (other ∷ others) r s alike =
    let never : None ≡ Some other.1 = alike other.0 ∙ found_first other others in cc
same_sizes (one ∷ ones) [] r s alike =
    let never : None ≡ Some one.1 = sym (alike one.0) ∙ found_first one ones in cc
same_sizes (one ∷ ones) (other ∷ others) r s alike =
    let named : one.0 ≡ other.0 = same_first one other ones others r s alike in
    let first : one ≡ other = same_heads one other ones others (alike one.0) named in
    let rest : ones ≡ others =
    same_sizes ones others (tail_rises one ones r) (tail_rises other others s)
    (λ name. same_tails (bytes_eq one.0 name) one other ones others name r s (alike name) named refl) in
    rw (first, rest) refl

-- ---- a daemon begins the same

or_left : (one other : Bool) → (one || other) ≡ false → one ≡ false
or_left false other e = refl
or_left true other e = e

or_right : (one other : Bool) → (one || other) ≡ false → other ≡ false
or_right false other e = e
or_right true other e = cc

none_of : (name : List ℕ) (sizes : Sizes) → is_one_of name (map name_of sizes) ≡ false → found name sizes ≡ None
none_of name [] e = refl
none_of name (known ∷ sizes) e =
    rw (or_left (bytes_eq known.0 name) (is_one_of name (map name_of sizes)) e)
    (none_of name sizes (or_right (bytes_eq known.0 name) (is_one_of name (map name_of sizes)) e))

above_zero : (size : ℕ) (some : Bool) → nat_lt 0 size ≡ some → or_zero (if some then Some size else None) ≡ size
above_zero size true e = refl
above_zero zero false e = refl
above_zero (suc size) false e = let never : true ≡ false = sym (lt-ltb 0 (suc size) (omega arith)) ∙ e in cc

same_opened : (log : Bool) (known : Option ℕ) → (log ≡ false → known ≡ None) → opened log (above known) ≡ opened log known
same_opened true None none = refl
same_opened true (Some size) none = ap (λ (kept : ℕ). Some kept) (above_zero size (nat_lt 0 size) refl)
same_opened false None none = refl
same_opened false (Some size) none = let never : Some size ≡ None = none refl in cc

pub opens_alike : (config : Config) (sizes : Sizes) → rise sizes ≡ true
    → ((name : List ℕ) → is_one_of name (map name_of sizes) ≡ is_log_file config name)
    → opening_sizes config (told_sizes sizes) ≡ opening_sizes config sizes
opens_alike config sizes rises all =
    same_sizes (opening_sizes config (told_sizes sizes)) (opening_sizes config sizes)
    (opening_rises config (told_sizes sizes) (told_rise sizes rises)) (opening_rises config sizes rises)
    (λ name. found_opening config name (told_sizes sizes)
    ∙ ap (opened (is_log_file config name)) (found_told name sizes rises)
    ∙ same_opened (is_log_file config name) (found name sizes) (λ e. none_of name sizes (all name ∙ e))
    ∙ sym (found_opening config name sizes))
