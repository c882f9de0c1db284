-- What the orders of logged pieces leave of the files.
use Rattle.std.proofs.Common.{◌≡◌, ◌≢◌, ℕ, zero, suc, ◌-◌, ◌^◌, ◌<◌, ◌≤◌, List, [], ◌∷◌, ◌++◌, Bool, true, false, Option, Some, None, length, min, map, refl, sym, ap, subst, ◌∙◌, append_assoc, arith}
use mathlib.Core.Bool.{false≢true}
use Rattle.std.specs.Fmt.{decimal}
use Rattle.std.specs.List.{All}
use Rattle.std.specs.Option.{option_map, unwrap_or}
use Rattle.std.specs.Str.{bytes_eq}
use Rattle.std.specs.Prelude.{⊤, if◌then◌else◌}
use Rattle.std.specs.Str.Parse.{AllDigits}
use Rattle.std.specs.Char.{digit_value}
use Rattle.std.proofs.lemmas.Fmt.{decimal_is_IsNumeral}
use Rattle.std.proofs.lemmas.List.Elements.{All-tail}
use Rattle.std.proofs.lemmas.Slice.Eq.{bytes_eq-Decides}
use Rattle.sv_base.specs.declared.config.FileOrder.{FileOrder}
use Rattle.sv_base.specs.declared.config.FileOrder.TheVariants as file
use Rattle.sv_base.specs.declared.spec.LogSpec.{LogSpec}
use Rattle.sv_logs.proofs.Places.{size_after, size_beside}
use Rattle.sv_logs.specs.Carrying.{AreCarriedOut, HasLogged, IsBeside, IsBesideDeed, IsNoBackup, IsSize, all_done, deeds_of, done, done_if, emptied, file_order, is_file}
use Rattle.sv_logs.specs.LogDeeds.{LogDeed, all_sizes}
use Rattle.sv_logs.specs.LogDeeds.LogDeed.{Adds, Empties}
use Rattle.sv_logs.specs.Logging.{logged_as, logged_if, order_of, orders_as, orders_if, plan_as}
use Rattle.sv_logs.specs.Sizes.{Sizes, cleared, size_in}
use Rattle.sv_logs.proofs.Rotating.{Agree, append_agrees, append_leaves, is_appended, is_known}
use Rattle.sv_logs.specs.Rotation.{Files, IsKnown, after_append, all_carried, carried, kept, orders_of}
use Rattle.sv_out.specs.declared.order.Order.{Order}

-- ---- orders one after the other

pub done-append : (first later : List Order) (files : Files) → done (first ++ later) files ≡ done later (done first files)
done-append [] later files = refl
done-append (order ∷ first) later files = done-append first later (done_if (file_order order) files)

done_one : (order : FileOrder) (files : Files) → done_if (file_order (order_of order)) files ≡ carried order files
done_one (file.Append name bytes) files = refl
done_one (file.Shift from to) files = refl
done_one (file.Fresh name) files = refl

pub done-all : (orders : List FileOrder) (files : Files) → done (map order_of orders) files ≡ all_carried orders files
done-all [] files = refl
done-all (order ∷ orders) files =
    ap (done (map order_of orders)) (done_one order files) ∙ done-all orders (carried order files)

-- ---- a name with a number after it

abbrev NoPoint : List ℕ → Type 0
NoPoint [] = ⊤
NoPoint (byte ∷ bytes) = (byte ≢ 46) × NoPoint bytes

no_digit : (byte : ℕ) → digit_value byte < 10 → byte ≢ 46
no_digit byte digit e = let e : digit_value 46 < 10 = subst (λ (b : ℕ). digit_value b < 10) e digit in absurd (omega (arith, e))

no_point : (bytes : List ℕ) → AllDigits 10 bytes → NoPoint bytes
no_point [] digits = tt
no_point (byte ∷ bytes) digits = (no_digit byte digits.0, no_point bytes digits.1)

has_point : (front rest : List ℕ) → NoPoint (front ++ 46 ∷ rest) → ⊥
has_point [] rest none = none.0 refl
has_point (byte ∷ front) rest none = has_point front rest none.1

abbrev head_of : List ℕ → ℕ
head_of [] = 0
head_of (byte ∷ bytes) = byte

abbrev tail_of : List ℕ → List ℕ
tail_of [] = []
tail_of (byte ∷ bytes) = bytes

same_front : (one other us vs : List ℕ) → NoPoint us → NoPoint vs → one ++ 46 ∷ us ≡ other ++ 46 ∷ vs → one ≡ other
same_front [] [] us vs nu nv e = refl
same_front [] (byte ∷ other) us vs nu nv e = absurd (has_point other vs (subst NoPoint (ap tail_of e) nu))
same_front (byte ∷ one) [] us vs nu nv e = absurd (has_point one us (subst NoPoint (sym (ap tail_of e)) nv))
same_front (byte ∷ one) (byte2 ∷ other) us vs nu nv e =
    let first : byte ≡ byte2 = ap head_of e in
    let rest : one ≡ other = same_front one other us vs nu nv (ap tail_of e) in
    rw (first, rest) refl

backups_differ : (one other : List ℕ) (i j : ℕ) → suc i < 2 ^ 64 → suc j < 2 ^ 64 → one ≢ other → kept one (suc i) ≢ kept other (suc j)
backups_differ one other i j hi hj differ e =
    differ (same_front one other (decimal (suc i)) (decimal (suc j))
    (no_point (decimal (suc i)) (decimal_is_IsNumeral (suc i) hi).0.1)
    (no_point (decimal (suc j)) (decimal_is_IsNumeral (suc j) hj).0.1) e)

-- the file of a log and its backups are none of those of a log beside it that has another file
apart : (log other : LogSpec) (name own : List ℕ) (i j : ℕ) → log.file ≡ Some name → other.file ≡ Some own → log.backups ≤ 1000 → IsBeside log other
    → own ≢ name → i ≤ log.backups → j ≤ other.backups → kept name i ≢ kept own j
apart log other name own zero zero en eo few beside differ li lj e = differ (sym e)
apart log other name own zero (suc j) en eo few beside differ li lj e = beside.no_file name en own j eo (omega arith) e
apart log other name own (suc i) zero en eo few beside differ li lj e = beside.no_backup own eo name i en (omega arith) (sym e)
apart log other name own (suc i) (suc j) en eo few beside differ li lj e =
    backups_differ name own i j (omega arith) (omega (arith, beside.backups)) (λ same. differ (sym same)) e

-- ---- a file that is made empty

abbrev no_bytes : List ℕ
no_bytes = []

size_emptied : (name : List ℕ) (sizes : Sizes) → size_in name (cleared name sizes) ≡ 0
size_emptied name [] = refl
size_emptied name (known ∷ sizes) = by (bytes_eq known.0 name) refl (size_emptied name sizes)
  where
    by : (b : Bool) → bytes_eq known.0 name ≡ b → size_in name (cleared name sizes) ≡ 0
        → size_in name (if b then (known.0, 0) ∷ sizes else known ∷ cleared name sizes) ≡ 0
    by true e rest = rw e refl
    by false e rest = rw e rest

size_left : (name own : List ℕ) (sizes : Sizes) → own ≢ name → size_in name (cleared own sizes) ≡ size_in name sizes
size_left name own [] differ = refl
size_left name own (known ∷ sizes) differ =
    by (bytes_eq known.0 own) (bytes_eq known.0 name) refl refl (size_left name own sizes differ)
  where
    by : (b d : Bool) → bytes_eq known.0 own ≡ b → bytes_eq known.0 name ≡ d
        → size_in name (cleared own sizes) ≡ size_in name sizes
        → size_in name (if b then (known.0, 0) ∷ sizes else known ∷ cleared own sizes) ≡ (if d then known.1 else size_in name sizes)
    by true true e f rest = absurd (differ (sym ((bytes_eq-Decides known.0 own).0 e) ∙ (bytes_eq-Decides known.0 name).0 f))
    by true false e f rest = rw f refl
    by false true e f rest = rw f refl
    by false false e f rest = rw f rest

none_held : (held : Option (List ℕ)) → length (unwrap_or (option_map (λ (bytes : List ℕ). no_bytes) held) []) ≡ 0
none_held None = refl
none_held (Some bytes) = refl

emptied_itself : (name : List ℕ) (files : Files) → emptied name files name ≡ option_map (λ (bytes : List ℕ). no_bytes) (files name)
emptied_itself name files = rw ((bytes_eq-Decides name name).1 refl) refl

emptied_other : (own other : List ℕ) (files : Files) → other ≢ own → emptied own files other ≡ files other
emptied_other own other files differ = by (bytes_eq other own) refl
  where
    by : (b : Bool) → bytes_eq other own ≡ b → (if b then option_map (λ (bytes : List ℕ). no_bytes) (files own) else files other) ≡ files other
    by true e = absurd (differ ((bytes_eq-Decides other own).0 e))
    by false e = refl

emptied_size : (name : List ℕ) (sizes : Sizes) (files : Files) → IsSize name (cleared name sizes) (emptied name files)
emptied_size name sizes files =
    size_emptied name sizes
    ∙ sym (ap (λ (n : ℕ). min n (2 ^ 64 - 1))
    (ap (λ (held : Option (List ℕ)). length (unwrap_or held [])) (emptied_itself name files) ∙ none_held (files name)))

emptied_agrees : (name : List ℕ) (backups : ℕ) (files alone : Files) → Agree name backups files alone
    → Agree name backups (emptied name files) (emptied name alone)
emptied_agrees name backups files alone agree number le = by (bytes_eq (kept name number) name)
  where
    by : (b : Bool) → (if b then option_map (λ (bytes : List ℕ). no_bytes) (files name) else files (kept name number))
        ≡ (if b then option_map (λ (bytes : List ℕ). no_bytes) (alone name) else alone (kept name number))
    by true = ap (option_map (λ (bytes : List ℕ). no_bytes)) (agree zero (omega arith))
    by false = agree number le

-- ---- one piece after the other

module _ (log : LogSpec) (name : List ℕ) (is : log.file ≡ Some name) (few : log.backups ≤ 1000) where
  abbrev Goes : List LogDeed → Type 0
  Goes deeds = (sizes : Sizes) (files alone : Files) → IsSize name sizes files → Agree name log.backups files alone
      → HasLogged name log deeds sizes alone (all_done deeds sizes files)

  -- what holds after a piece of a log and further deeds, where this is the log's file, and is the one in question or not
  record Ends (held : Option (List ℕ)) (tested : Bool) (other : LogSpec) (piece : List ℕ) (deeds : List LogDeed) (sizes : Sizes) (files before : Files) : Type 0 where
    alone : Files
    carried_out : AreCarriedOut name (if tested then Adds other piece ∷ deeds_of name deeds else deeds_of name deeds) before alone
    same : (number : ℕ) → number ≤ log.backups
        → all_done deeds (logged_if held other piece sizes) (done (orders_if held other piece sizes) files) (kept name number) ≡ alone (kept name number)
    known : IsSize name (all_sizes deeds (logged_if held other piece sizes)) (all_done deeds (logged_if held other piece sizes) (done (orders_if held other piece sizes) files))

  -- a piece that is logged to the file
  own_piece : (other : LogSpec) (piece : List ℕ) (deeds : List LogDeed) (sizes : Sizes) (files before : Files)
      → IsBeside log other → Goes deeds → IsSize name sizes files → Agree name log.backups files before
      → Ends (Some name) true other piece deeds sizes files before
  own_piece other piece deeds sizes files before beside goes known agree =
      let plan = plan_as name (size_in name sizes) other in
      let small : other.backups < 2 ^ 64 = omega (arith, beside.backups) in
      let later = logged_as name other piece sizes in
      let there = all_carried (orders_of plan piece) files in
      let between = all_carried (orders_of plan piece) before in
      let known_before : IsKnown plan before =
      known ∙ ap (λ (held : Option (List ℕ)). min (length (unwrap_or held [])) (2 ^ 64 - 1)) (agree zero (omega arith)) in
      let rest = goes later there between
      (size_after name (after_append plan piece).size sizes ∙ is_known plan piece files small known)
      (append_agrees plan piece log.backups files before small agree) in
      let whole : done (orders_as name other piece sizes) files ≡ there = done-all (orders_of plan piece) files in
      record {
        alone = rest.alone;
        carried_out = record {
          between = between;
          appended = is_appended plan piece before beside.maxbytes small known_before;
          rest = rest.carried;
        };
        same = λ number le. ap (λ (after : Files). all_done deeds later after (kept name number)) whole ∙ rest.same number le;
        known = subst (λ (after : Files). IsSize name (all_sizes deeds later) (all_done deeds later after)) (sym whole) rest.known;
      }

  -- one that is logged to another file
  other_piece : (own : List ℕ) (other : LogSpec) (piece : List ℕ) (deeds : List LogDeed) (sizes : Sizes) (files before : Files)
      → other.file ≡ Some own → own ≢ name
      → IsBeside log other → Goes deeds → IsSize name sizes files → Agree name log.backups files before
      → Ends (Some own) false other piece deeds sizes files before
  other_piece own other piece deeds sizes files before has differ beside goes known agree =
      let plan = plan_as own (size_in own sizes) other in
      let later = logged_as own other piece sizes in
      let there = all_carried (orders_of plan piece) files in
      let left : (number : ℕ) → number ≤ log.backups → there (kept name number) ≡ files (kept name number) =
      λ number le. append_leaves plan piece files (kept name number)
      (λ backup le2. apart log other name own number backup is has few beside differ le le2) in
      let size : IsSize name later there =
      size_beside name own (after_append plan piece).size sizes differ ∙ known
      ∙ ap (λ (held : Option (List ℕ)). min (length (unwrap_or held [])) (2 ^ 64 - 1)) (sym (left zero (omega arith))) in
      let rest = goes later there before size (λ number le. left number le ∙ agree number le) in
      let whole : done (orders_as own other piece sizes) files ≡ there = done-all (orders_of plan piece) files in
      record {
        alone = rest.alone;
        carried_out = rest.carried;
        same = λ number le. ap (λ (after : Files). all_done deeds later after (kept name number)) whole ∙ rest.same number le;
        known = subst (λ (after : Files). IsSize name (all_sizes deeds later) (all_done deeds later after)) (sym whole) rest.known;
      }

  one_piece : (held : Option (List ℕ)) (tested : Bool) (other : LogSpec) (piece : List ℕ) (deeds : List LogDeed) (sizes : Sizes) (files before : Files)
      → other.file ≡ held → is_file name held ≡ tested
      → IsBeside log other → Goes deeds → IsSize name sizes files → Agree name log.backups files before
      → Ends held tested other piece deeds sizes files before
  one_piece None true other piece deeds sizes files before has test beside goes known agree = absurd (false≢true test)
  one_piece None false other piece deeds sizes files before has test beside goes known agree =
      let rest = goes sizes files before known agree in
      record { alone = rest.alone; carried_out = rest.carried; same = rest.same; known = rest.known }
  one_piece (Some own) true other piece deeds sizes files before has test beside goes known agree =
      subst (λ (file : List ℕ). Ends (Some file) true other piece deeds sizes files before) (sym ((bytes_eq-Decides own name).0 test))
      (own_piece other piece deeds sizes files before beside goes known agree)
  one_piece (Some own) false other piece deeds sizes files before has test beside goes known agree =
      other_piece own other piece deeds sizes files before has
      (λ e. false≢true (sym test ∙ (bytes_eq-Decides own name).1 e)) beside goes known agree

  -- what holds after a clear and further deeds, where it is of the file in question or not
  record Clears (own : List ℕ) (tested : Bool) (deeds : List LogDeed) (sizes : Sizes) (files before : Files) : Type 0 where
    alone : Files
    carried_out : AreCarriedOut name (if tested then Empties own ∷ deeds_of name deeds else deeds_of name deeds) before alone
    same : (number : ℕ) → number ≤ log.backups
        → all_done deeds (cleared own sizes) (emptied own files) (kept name number) ≡ alone (kept name number)
    known : IsSize name (all_sizes deeds (cleared own sizes)) (all_done deeds (cleared own sizes) (emptied own files))

  one_clear : (own : List ℕ) (tested : Bool) (deeds : List LogDeed) (sizes : Sizes) (files before : Files)
      → bytes_eq own name ≡ tested → IsNoBackup own log → Goes deeds → IsSize name sizes files → Agree name log.backups files before
      → Clears own tested deeds sizes files before
  one_clear own true deeds sizes files before test beside goes known agree =
      let rest = goes (cleared name sizes) (emptied name files) (emptied name before) (emptied_size name sizes files)
      (emptied_agrees name log.backups files before agree) in
      subst (λ (file : List ℕ). Clears file true deeds sizes files before) (sym ((bytes_eq-Decides own name).0 test))
      (record { alone = rest.alone; carried_out = rest.carried; same = rest.same; known = rest.known })
  one_clear own false deeds sizes files before test beside goes known agree =
      let differ : own ≢ name = λ e. false≢true (sym test ∙ (bytes_eq-Decides own name).1 e) in
      let left : (number : ℕ) → number ≤ log.backups → emptied own files (kept name number) ≡ files (kept name number) =
      λ number le. emptied_other own (kept name number) files (apart_clear number le differ) in
      let size : IsSize name (cleared own sizes) (emptied own files) =
      size_left name own sizes differ ∙ known
      ∙ ap (λ (held : Option (List ℕ)). min (length (unwrap_or held [])) (2 ^ 64 - 1)) (sym (left zero (omega arith))) in
      let rest = goes (cleared own sizes) (emptied own files) before size (λ number le. left number le ∙ agree number le) in
      record { alone = rest.alone; carried_out = rest.carried; same = rest.same; known = rest.known }
    where
      apart_clear : (number : ℕ) → number ≤ log.backups → own ≢ name → kept name number ≢ own
      apart_clear zero le differ e = differ (sym e)
      apart_clear (suc number) le differ e = beside name number is (omega (arith, le)) (sym e)

  goes_on : (deeds : List LogDeed) → All (IsBesideDeed log) deeds → Goes deeds
  goes_on [] all sizes files before known agree = record {
    alone = before;
    carried = λ other. refl;
    same = agree;
    known = known;
  }
  goes_on (Adds other piece ∷ deeds) all sizes files before known agree =
      let beside : IsBeside log other = all 0 (Adds other piece) (omega arith) in
      let ends = one_piece other.file (is_file name other.file) other piece deeds sizes files before refl refl beside
      (goes_on deeds (All-tail (IsBesideDeed log) (Adds other piece) deeds all)) known agree in
      record { alone = ends.alone; carried = ends.carried_out; same = ends.same; known = ends.known }
  goes_on (Empties own ∷ deeds) all sizes files before known agree =
      let beside : IsNoBackup own log = all 0 (Empties own) (omega arith) in
      let ends = one_clear own (bytes_eq own name) deeds sizes files before refl beside
      (goes_on deeds (All-tail (IsBesideDeed log) (Empties own) deeds all)) known agree in
      record { alone = ends.alone; carried = ends.carried_out; same = ends.same; known = ends.known }

-- each log's file has what was logged to it
pub has_logged : (log : LogSpec) (name : List ℕ) (deeds : List LogDeed) (sizes : Sizes) (files : Files)
    → log.file ≡ Some name → log.backups ≤ 1000
    → All (IsBesideDeed log) deeds
    → IsSize name sizes files
    → HasLogged name log deeds sizes files (all_done deeds sizes files)
has_logged log name deeds sizes files is few all known =
    goes_on log name is few deeds all sizes files files known (λ number le. refl)
