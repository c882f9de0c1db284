-- What is read with fewer names is read so with more.
use Rattle.std.proofs.Common.{◌≡◌, ◌+◌, ◌⊎◌, inl, inr, ℕ, List, [], ◌∷◌, Bool, true, false, refl}
use Rattle.std.specs.Prelude.{◌==◌, Option, Some, None, Result, Ok, Err, if◌then◌else◌}
use Rattle.std.specs.Char.{len_utf8}
use Rattle.std.specs.Str.{chars}
use Rattle.sv_expand.specs.Results.{and_then}
use Rattle.sv_expand.specs.Values.{value_of}
use Rattle.sv_expand.specs.Expansion.{Reached, text_told, number_told, with_value, behind_name, after_at, after, after_all, at_start, closed, expansion_of}
use Rattle.sv_expand.specs.declared.fault.ExpandFault.{ExpandFault}
use Rattle.sv_expand.specs.declared.names.Names.{Names}
use Rattle.sv_expand.specs.declared.expanding.ExpansionProgress.{ExpansionProgress}
use Rattle.sv_expand.specs.declared.expanding.ExpansionProgress.TheVariants.{Plain, Percent, Name, AfterName, Zero, Wide}
use Rattle.sv_keys.specs.KeyNames.{key_name}
use Rattle.sv_keys.specs.Rows.{or_no_expansion, expanded, expanded_if, value_at, read_by, row, read_needed, needed}
use Rattle.sv_keys.specs.declared.key.Key.{Key}

-- what the first gives, the second gives
abbrev pub Keeps : {A E : Type 0} → Result A E → Result A E → Type 0
Keeps {A} first second = (value : A) → first ≡ Ok value → second ≡ Ok value

-- what the first gives, the second gives changed
abbrev pub Gives : {A E : Type 0} → (A → A) → Result A E → Result A E → Type 0
Gives {A} change first second = (value : A) → first ≡ Ok value → second ≡ Ok (change value)

pub then_gives : {A B E : Type 0} (change : B → B) (one other : Result A E) (f g : A → Result B E) → Keeps one other
    → ((x : A) → Gives change (f x) (g x)) → Gives change (and_then one f) (and_then other g)
then_gives change (Ok x) other f g keeps gives value e = rw (keeps x refl) (gives x value e)
then_gives change (Err fault) other f g keeps gives value e = cc

pub then_keeps : {A B E : Type 0} (one other : Result A E) (f g : A → Result B E) → Keeps one other
    → ((x : A) → Keeps (f x) (g x)) → Keeps (and_then one f) (and_then other g)
then_keeps one other f g keeps more = then_gives (λ b. b) one other f g keeps more

if_keeps : {A E : Type 0} (b : Bool) (one other more than : Result A E) → Keeps one other → Keeps more than → Keeps (if b then one else more) (if b then other else than)
if_keeps true one other more than keeps rest = keeps
if_keeps false one other more than keeps rest = rest

-- each name that is told is told the same by more
abbrev pub TellsMore : Names → Names → Type 0
TellsMore few more = (name : List ℕ)
    → ((value_of name few.pairs ≡ None) × (value_of name few.numbers ≡ None))
    ⊎ ((value_of name few.pairs ≡ value_of name more.pairs) × (value_of name few.numbers ≡ value_of name more.numbers))

cc_none : {A : Type 0} {goal : Type 0} (value : A) → None ≡ Some value → goal
cc_none value e = cc

module _ (few more : Names) (tells : TellsMore few more) where
  text_kept : (name value : List ℕ) → text_told few name ≡ Some value → text_told more name ≡ Some value
  text_kept name value e = elim (tells name) [ inl lacks ↦ cc_none value (rw (lacks.0, lacks.1) at e) | inr same ↦ rw (same.0, same.1) at e ]

  number_kept : (filler width : ℕ) (name value : List ℕ) → number_told few filler width name ≡ Some value → number_told more filler width name ≡ Some value
  number_kept filler width name value e = elim (tells name) [ inl lacks ↦ cc_none value (rw (lacks.0, lacks.1) at e) | inr same ↦ rw (same.0, same.1) at e ]

  value_keeps : (one other : Option (List ℕ)) (reached : Reached) → ((value : List ℕ) → one ≡ Some value → other ≡ Some value)
      → Keeps (with_value one reached) (with_value other reached)
  value_keeps (Some value) other reached keeps next e = rw (keeps value refl) e
  value_keeps None other reached keeps next e = cc

  behind_keeps : (c : ℕ) (reached : Reached) → Keeps (behind_name few c reached) (behind_name more c reached)
  behind_keeps c reached =
      if_keeps (c == 115) _ _ _ _ (value_keeps (text_told few reached.name) (text_told more reached.name) reached (text_kept reached.name))
      (if_keeps (c == 100) _ _ _ _ (value_keeps (number_told few 32 0 reached.name) (number_told more 32 0 reached.name) reached (number_kept 32 0 reached.name))
      (λ next e. e))

  at_keeps : (progress : ExpansionProgress) (at c : ℕ) (reached : Reached) → Keeps (after_at few progress at c reached) (after_at more progress at c reached)
  at_keeps Plain at c reached = λ next e. e
  at_keeps Percent at c reached = λ next e. e
  at_keeps Name at c reached = λ next e. e
  at_keeps AfterName at c reached = behind_keeps c reached
  at_keeps Zero at c reached = λ next e. e
  at_keeps (Wide filler width) at c reached =
      if_keeps (c == 100) _ _ _ _ (value_keeps (number_told few filler width reached.name) (number_told more filler width reached.name) reached (number_kept filler width reached.name))
      (λ next e. e)

  all_keep : (cs : List ℕ) (at : ℕ) (reached : Reached) → Keeps (after_all few at cs reached) (after_all more at cs reached)
  all_keep [] at reached = λ next e. e
  all_keep (c ∷ cs) at reached =
      then_keeps (after few at c reached) (after more at c reached) (λ next. after_all few (at + len_utf8 c) cs next) (λ next. after_all more (at + len_utf8 c) cs next)
      (at_keeps reached.place at c reached) (λ next. all_keep cs (at + len_utf8 c) next)

  pub expansion_keeps : (text : List ℕ) → Keeps (expansion_of few text) (expansion_of more text)
  expansion_keeps text =
      then_keeps (after_all few 0 (chars text) at_start) (after_all more 0 (chars text) at_start) closed closed (all_keep (chars text) 0 at_start) (λ next value e. e)

  told_keeps : (key : Key) (one other : Result (List ℕ) ExpandFault) → Keeps one other → Keeps (or_no_expansion key one) (or_no_expansion key other)
  told_keeps key (Ok text) other keeps value e = rw (keeps text refl) e
  told_keeps key (Err fault) other keeps value e = cc

  if_set_keeps : (key : Key) (set : Option (List ℕ)) → Keeps (expanded_if few key set) (expanded_if more key set)
  unfolding expanded
  if_set_keeps key None = λ value e. e
  if_set_keeps key (Some text) =
      then_keeps (or_no_expansion key (expansion_of few text)) (or_no_expansion key (expansion_of more text)) (λ text. Ok (Some text)) (λ text. Ok (Some text))
      (told_keeps key (expansion_of few text) (expansion_of more text) (expansion_keeps text)) (λ text value e. e)

  value_keeps_at : (key : Key) (keys others : List (List ℕ × List ℕ)) → value_of (key_name key) keys ≡ value_of (key_name key) others
      → Keeps (value_at key keys few) (value_at key others more)
  unfolding value_at
  value_keeps_at key keys others same = λ value e. if_set_keeps key (value_of (key_name key) others) value (rw same at e)

  pub row_keeps : {T : Type 0} (key : Key) (read : List ℕ → Option T) (default : T) (keys others : List (List ℕ × List ℕ))
      → value_of (key_name key) keys ≡ value_of (key_name key) others → Keeps (row key read default keys few) (row key read default others more)
  unfolding row
  row_keeps key read default keys others same =
      then_keeps (value_at key keys few) (value_at key others more) (read_by key read default) (read_by key read default) (value_keeps_at key keys others same) (λ text value e. e)

  pub needed_keeps : {T : Type 0} (key : Key) (read : List ℕ → Option T) (keys others : List (List ℕ × List ℕ))
      → value_of (key_name key) keys ≡ value_of (key_name key) others → Keeps (needed key read keys few) (needed key read others more)
  unfolding needed
  needed_keeps key read keys others same =
      then_keeps (value_at key keys few) (value_at key others more) (read_needed key read) (read_needed key read) (value_keeps_at key keys others same) (λ text value e. e)
