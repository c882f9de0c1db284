-- What the orders of an append leave of the files.
use Rattle.std.proofs.Common.{◌≡◌, ◌≢◌, ℕ, zero, suc, ◌+◌, ◌-◌, ◌^◌, ◌<◌, ◌≤◌, ◌++◌, ◌∷◌, ◌⊎◌, inl, inr, List, [], Bool, true, false, Option, Some, None, length, min, refl, sym, ap, subst, ◌∙◌, arith, length-append}
use Rattle.std.proofs.lemmas.List.{append_cancel_left}
use Rattle.std.proofs.lemmas.Fmt.{decimal_injective}
use Rattle.std.proofs.lemmas.Slice.Eq.{bytes_eq-Decides}
use Rattle.std.proofs.lemmas.Bool.Decides.{nat_tests}
use Rattle.std.specs.Bool.{MatchBool}
use Rattle.std.specs.Option.{option_or, unwrap_or}
use Rattle.std.specs.Prelude.{if◌then◌else◌}
use Rattle.std.specs.Str.{bytes_eq}
use Rattle.std.specs.Fmt.{decimal}
use Rattle.sv_base.specs.declared.config.FileOrder.{FileOrder}
use Rattle.sv_base.specs.declared.config.FileOrder.TheVariants.{Append, Shift, Fresh}
use Rattle.sv_logs.specs.declared.plan.LogPlan.{LogPlan}
use Rattle.sv_logs.specs.Rotation.{Files, bytes_of, put, renamed, carried, all_carried, kept, is_over, IsRotated, IsAppended, IsKnown, grown_size, moves, orders_of, after_append}

differ : (xs ys : List ℕ) → xs ≢ ys → bytes_eq xs ys ≡ false
differ xs ys h = grind (arith, bytes_eq-Decides xs ys)

put_same : (name : List ℕ) (held : Option (List ℕ)) (files : Files) → put name held files name ≡ held
put_same name held files = let e : bytes_eq name name ≡ true = (bytes_eq-Decides name name).1 refl in rw e refl

put_other : (name : List ℕ) (held : Option (List ℕ)) (files : Files) (other : List ℕ) → other ≢ name
    → put name held files other ≡ files other
put_other name held files other h = let e = differ other name h in rw e refl

kept_injective : (file : List ℕ) (i j : ℕ) → i < 2 ^ 64 → j < 2 ^ 64 → kept file i ≡ kept file j → i ≡ j
kept_injective file zero zero hi hj e = refl
kept_injective file zero (suc j) hi hj e = absurd (omega (arith, length-append file (46 ∷ decimal (suc j)), ap length e))
kept_injective file (suc i) zero hi hj e = absurd (omega (arith, length-append file (46 ∷ decimal (suc i)), ap length e))
kept_injective file (suc i) (suc j) hi hj e =
    let same = append_cancel_left file (46 ∷ decimal (suc i)) (46 ∷ decimal (suc j)) e in
    let digits : decimal (suc i) ≡ decimal (suc j) = cc in
    decimal_injective (suc i) (suc j) hi hj digits

kept_apart : (file : List ℕ) (i j : ℕ) → i < 2 ^ 64 → j < 2 ^ 64 → i ≢ j → kept file i ≢ kept file j
kept_apart file i j hi hj h e = h (kept_injective file i j hi hj e)

-- a file renamed over another
renamed_elsewhere : (from to : List ℕ) (held : Option (List ℕ)) (files : Files) (name : List ℕ) → name ≢ from → name ≢ to
    → renamed from to held files name ≡ files name
renamed_elsewhere from to None files name hf ht = refl
renamed_elsewhere from to (Some bytes) files name hf ht =
    put_other to (Some bytes) (put from None files) name ht ∙ put_other from None files name hf

renamed_to : (from to : List ℕ) (held : Option (List ℕ)) (files : Files)
    → renamed from to held files to ≡ option_or held (files to)
renamed_to from to None files = refl
renamed_to from to (Some bytes) files = put_same to (Some bytes) (put from None files)

renamed_from : (from to : List ℕ) (held : Option (List ℕ)) (files : Files) → from ≢ to → files from ≡ held
    → renamed from to held files from ≡ None
renamed_from from to None files h e = e
renamed_from from to (Some bytes) files h e =
    put_other to (Some bytes) (put from None files) from h ∙ put_same from None files

or_none : (held : Option (List ℕ)) → option_or held None ≡ held
or_none None = refl
or_none (Some bytes) = refl

-- the backups moved up
moves_others : (file : List ℕ) (backups : ℕ) (files : Files) (name : List ℕ)
    → ((number : ℕ) → number ≤ backups → name ≢ kept file number)
    → all_carried (moves file backups) files name ≡ files name
moves_others file zero files name h = refl
moves_others file (suc backups) files name h =
    moves_others file backups (carried (Shift (kept file backups) (kept file (suc backups))) files) name
    (λ number le. h number (omega arith))
    ∙ renamed_elsewhere (kept file backups) (kept file (suc backups)) (files (kept file backups)) files name
    (h backups (omega arith)) (h (suc backups) (omega arith))

moves_last : (file : List ℕ) (number : ℕ) (files : Files) → suc number < 2 ^ 64
    → all_carried (moves file (suc number)) files (kept file (suc number))
    ≡ option_or (files (kept file number)) (files (kept file (suc number)))
moves_last file number files small =
    moves_others file number (carried (Shift (kept file number) (kept file (suc number))) files) (kept file (suc number))
    (λ k le. kept_apart file (suc number) k small (omega arith) (omega arith))
    ∙ renamed_to (kept file number) (kept file (suc number)) (files (kept file number)) files

below_or_at : (a b : ℕ) → a ≤ b → (a < b) ⊎ (a ≡ b)
below_or_at a b h = grind arith

moves_up : (file : List ℕ) (backups : ℕ) (files : Files) → backups < 2 ^ 64 → (number : ℕ) → suc number < backups
    → all_carried (moves file backups) files (kept file (suc number)) ≡ files (kept file number)
moves_up file zero files small number h = absurd (omega arith)
moves_up file (suc zero) files small number h = absurd (omega arith)
moves_up file (suc (suc below)) files small number h =
    let from = kept file (suc below) in
    let to = kept file (suc (suc below)) in
    let after = carried (Shift from to) files in
    elim (below_or_at (suc number) (suc below) (omega arith)) [
      | inl under ↦
          moves_up file (suc below) after (omega arith) number under
          ∙ renamed_elsewhere from to (files from) files (kept file number)
          (kept_apart file number (suc below) (omega arith) (omega arith) (omega arith))
          (kept_apart file number (suc (suc below)) (omega arith) small (omega arith))
      | inr at ↦
          let same : number ≡ below = omega arith in
          subst (λ (k : ℕ). all_carried (moves file (suc below)) after (kept file (suc k)) ≡ files (kept file k)) (sym same)
          (moves_last file below after (omega arith)
          ∙ ap (λ (held : Option (List ℕ)). option_or (after (kept file below)) held)
          (renamed_from from to (files from) files
          (kept_apart file (suc below) (suc (suc below)) (omega arith) small (omega arith)) refl)
          ∙ or_none (after (kept file below))
          ∙ renamed_elsewhere from to (files from) files (kept file below)
          (kept_apart file below (suc below) (omega arith) (omega arith) (omega arith))
          (kept_apart file below (suc (suc below)) (omega arith) small (omega arith)))
    ]

carried-append : (first later : List FileOrder) (files : Files)
    → all_carried (first ++ later) files ≡ all_carried later (all_carried first files)
carried-append [] later files = refl
carried-append (order ∷ first) later files = carried-append first later (carried order files)

rotates : (file : List ℕ) (backups : ℕ) (files : Files) → backups < 2 ^ 64
    → IsRotated file backups files (put file (Some []) (all_carried (moves file backups) files))
rotates file backups files small =
    let after = all_carried (moves file backups) files in
    record {
      fresh = put_same file (Some []) after;
      up = λ number h.
          put_other file (Some []) after (kept file (suc number)) (kept_apart file (suc number) zero (omega arith) (omega arith) (omega arith))
          ∙ moves_up file backups files small number h;
      last = λ number e.
          put_other file (Some []) after (kept file (suc number)) (kept_apart file (suc number) zero (omega arith) (omega arith) (omega arith))
          ∙ subst (λ (n : ℕ). all_carried (moves file n) files (kept file (suc number)) ≡ option_or (files (kept file number)) (files (kept file (suc number)))) e
          (moves_last file number files (omega arith));
      others = λ name h.
          put_other file (Some []) after name (h zero (omega arith))
          ∙ moves_others file backups files name h;
    }

-- an append, whose rotation is asked for or not
appends : (over : Bool) (plan : LogPlan) (piece : List ℕ) (files : Files) → plan.backups < 2 ^ 64
    → MatchBool over
    (IsRotated plan.file plan.backups (put plan.file (Some (bytes_of files plan.file ++ piece)) files)
    (all_carried (if over then Append plan.file piece ∷ moves plan.file plan.backups ++ Fresh plan.file ∷ [] else Append plan.file piece ∷ []) files))
    ((name : List ℕ)
    → all_carried (if over then Append plan.file piece ∷ moves plan.file plan.backups ++ Fresh plan.file ∷ [] else Append plan.file piece ∷ []) files name
    ≡ put plan.file (Some (bytes_of files plan.file ++ piece)) files name)
appends true plan piece files small =
    let grown = put plan.file (Some (bytes_of files plan.file ++ piece)) files in
    subst (IsRotated plan.file plan.backups grown) (sym (carried-append (moves plan.file plan.backups) (Fresh plan.file ∷ []) grown))
    (rotates plan.file plan.backups grown small)
appends false plan piece files small = λ name. refl

same_over : (maxbytes known held more : ℕ) → maxbytes < 2 ^ 64 → known ≡ min held (2 ^ 64 - 1)
    → is_over maxbytes (min (known + more) (2 ^ 64 - 1)) ≡ is_over maxbytes (held + more)
same_over maxbytes known held more small e = grind (arith, nat_tests)

pub is_appended : (plan : LogPlan) (piece : List ℕ) (files : Files) → plan.maxbytes < 2 ^ 64 → plan.backups < 2 ^ 64 → IsKnown plan files
    → IsAppended plan piece files (all_carried (orders_of plan piece) files)
is_appended plan piece files most few known =
    let held = bytes_of files plan.file in
    let over : is_over plan.maxbytes (grown_size plan piece) ≡ is_over plan.maxbytes (length (held ++ piece)) =
    same_over plan.maxbytes plan.size (length held) (length piece) most known
    ∙ ap (is_over plan.maxbytes) (sym (length-append held piece)) in
    rw (← over) (appends (is_over plan.maxbytes (grown_size plan piece)) plan piece files few)

stays_known : (over : Bool) (plan : LogPlan) (piece : List ℕ) (files : Files) → plan.backups < 2 ^ 64 → IsKnown plan files
    → (if over then 0 else grown_size plan piece)
    ≡ min (length (bytes_of (all_carried (if over then Append plan.file piece ∷ moves plan.file plan.backups ++ Fresh plan.file ∷ [] else Append plan.file piece ∷ []) files) plan.file)) (2 ^ 64 - 1)
stays_known true plan piece files few known =
    let rotated = appends true plan piece files few in
    rw rotated.fresh refl
stays_known false plan piece files few known =
    let held = bytes_of files plan.file in
    rw (put_same plan.file (Some (held ++ piece)) files, length-append held piece) (omega arith)

pub is_known : (plan : LogPlan) (piece : List ℕ) (files : Files) → plan.backups < 2 ^ 64 → IsKnown plan files
    → IsKnown (after_append plan piece) (all_carried (orders_of plan piece) files)
is_known plan piece files few known = stays_known (is_over plan.maxbytes (grown_size plan piece)) plan piece files few known

-- names that are neither the file's nor its backups' stay as they are
leaves_if : (over : Bool) (plan : LogPlan) (piece : List ℕ) (files : Files) (name : List ℕ)
    → ((number : ℕ) → number ≤ plan.backups → name ≢ kept plan.file number)
    → all_carried (if over then Append plan.file piece ∷ moves plan.file plan.backups ++ Fresh plan.file ∷ [] else Append plan.file piece ∷ []) files name
    ≡ files name
leaves_if true plan piece files name h =
    let grown = put plan.file (Some (bytes_of files plan.file ++ piece)) files in
    ap (λ (after : Files). after name) (carried-append (moves plan.file plan.backups) (Fresh plan.file ∷ []) grown)
    ∙ put_other plan.file (Some []) (all_carried (moves plan.file plan.backups) grown) name (h zero (omega arith))
    ∙ moves_others plan.file plan.backups grown name h
    ∙ put_other plan.file (Some (bytes_of files plan.file ++ piece)) files name (h zero (omega arith))
leaves_if false plan piece files name h =
    put_other plan.file (Some (bytes_of files plan.file ++ piece)) files name (h zero (omega arith))

pub append_leaves : (plan : LogPlan) (piece : List ℕ) (files : Files) (name : List ℕ)
    → ((number : ℕ) → number ≤ plan.backups → name ≢ kept plan.file number)
    → all_carried (orders_of plan piece) files name ≡ files name
append_leaves plan piece files name h = leaves_if (is_over plan.maxbytes (grown_size plan piece)) plan piece files name h

-- files that agree on a log's file and so many backups
abbrev pub Agree : List ℕ → ℕ → Files → Files → Type 0
Agree file bound one other = (number : ℕ) → number ≤ bound → one (kept file number) ≡ other (kept file number)

put_agrees : (file : List ℕ) (bound : ℕ) (name : List ℕ) (held : Option (List ℕ)) (one other : Files) → Agree file bound one other
    → Agree file bound (put name held one) (put name held other)
put_agrees file bound name held one other agree number le =
    ap (λ (there : Option (List ℕ)). if bytes_eq (kept file number) name then held else there) (agree number le)

renamed_agrees : (file : List ℕ) (bound : ℕ) (from to : List ℕ) (held : Option (List ℕ)) (one other : Files) → Agree file bound one other
    → Agree file bound (renamed from to held one) (renamed from to held other)
renamed_agrees file bound from to None one other agree = agree
renamed_agrees file bound from to (Some bytes) one other agree =
    put_agrees file bound to (Some bytes) (put from None one) (put from None other) (put_agrees file bound from None one other agree)

within_or_past : (number bound : ℕ) → (number ≤ bound) ⊎ (bound < number)
within_or_past number bound = grind arith

shift_agrees : (file : List ℕ) (bound number : ℕ) (one other : Files) → suc number < 2 ^ 64 → Agree file bound one other
    → Agree file bound (carried (Shift (kept file number) (kept file (suc number))) one) (carried (Shift (kept file number) (kept file (suc number))) other)
shift_agrees file bound number one other small agree =
    let from = kept file number in
    let to = kept file (suc number) in
    elim (within_or_past number bound) [
      | inl within ↦
          subst (λ (held : Option (List ℕ)). Agree file bound (renamed from to held one) (renamed from to (other from) other)) (sym (agree number within))
          (renamed_agrees file bound from to (other from) one other agree)
      | inr past ↦ λ (place : ℕ) (le : place ≤ bound).
          let before = kept_apart file place number (omega arith) (omega arith) (omega arith) in
          let behind = kept_apart file place (suc number) (omega arith) small (omega arith) in
          renamed_elsewhere from to (one from) one (kept file place) before behind
          ∙ agree place le
          ∙ sym (renamed_elsewhere from to (other from) other (kept file place) before behind)
    ]

moves_agree : (file : List ℕ) (bound backups : ℕ) (one other : Files) → backups < 2 ^ 64 → Agree file bound one other
    → Agree file bound (all_carried (moves file backups) one) (all_carried (moves file backups) other)
moves_agree file bound zero one other small agree = agree
moves_agree file bound (suc number) one other small agree =
    moves_agree file bound number (carried (Shift (kept file number) (kept file (suc number))) one) (carried (Shift (kept file number) (kept file (suc number))) other)
    (omega arith) (shift_agrees file bound number one other small agree)

grown_agrees : (plan : LogPlan) (piece : List ℕ) (bound : ℕ) (one other : Files) → Agree plan.file bound one other
    → Agree plan.file bound (carried (Append plan.file piece) one) (carried (Append plan.file piece) other)
grown_agrees plan piece bound one other agree =
    subst (λ (held : Option (List ℕ)). Agree plan.file bound (put plan.file (Some (unwrap_or held [] ++ piece)) one) (carried (Append plan.file piece) other)) (sym (agree zero (omega arith)))
    (put_agrees plan.file bound plan.file (Some (bytes_of other plan.file ++ piece)) one other agree)

agrees_if : (over : Bool) (plan : LogPlan) (piece : List ℕ) (bound : ℕ) (one other : Files) → plan.backups < 2 ^ 64 → Agree plan.file bound one other
    → Agree plan.file bound
    (all_carried (if over then Append plan.file piece ∷ moves plan.file plan.backups ++ Fresh plan.file ∷ [] else Append plan.file piece ∷ []) one)
    (all_carried (if over then Append plan.file piece ∷ moves plan.file plan.backups ++ Fresh plan.file ∷ [] else Append plan.file piece ∷ []) other)
agrees_if true plan piece bound one other small agree =
    let grown = carried (Append plan.file piece) one in
    let grown_other = carried (Append plan.file piece) other in
    rw (carried-append (moves plan.file plan.backups) (Fresh plan.file ∷ []) grown, carried-append (moves plan.file plan.backups) (Fresh plan.file ∷ []) grown_other)
    (put_agrees plan.file bound plan.file (Some []) (all_carried (moves plan.file plan.backups) grown) (all_carried (moves plan.file plan.backups) grown_other)
    (moves_agree plan.file bound plan.backups grown grown_other small (grown_agrees plan piece bound one other agree)))
agrees_if false plan piece bound one other small agree = grown_agrees plan piece bound one other agree

-- an append leaves files that agree so
pub append_agrees : (plan : LogPlan) (piece : List ℕ) (bound : ℕ) (one other : Files) → plan.backups < 2 ^ 64 → Agree plan.file bound one other
    → Agree plan.file bound (all_carried (orders_of plan piece) one) (all_carried (orders_of plan piece) other)
append_agrees plan piece bound one other small agree =
    agrees_if (is_over plan.maxbytes (grown_size plan piece)) plan piece bound one other small agree
