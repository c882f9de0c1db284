-- Who is next, along a list of the due.
use Rattle.std.proofs.Common.{◌≡◌, ℕ, zero, suc, ◌+◌, ◌<◌, ◌≤◌, List, [], ◌∷◌, ◌++◌, Bool, true, false, Option, None, Some, length, drop, get_or, arith, refl, sym, ap, subst, ◌∙◌}
use Rattle.std.specs.Prelude.{nat_eq, nat_le, slice_get, slice_set, if◌then◌else◌}
use Rattle.std.proofs.lemmas.Bool.{and_parts, eqb-true, le-leb, lt-leb, leb-true, leb-false}
use Rattle.std.proofs.lemmas.List.{length-set}
use Rattle.std.proofs.lemmas.Option.{same_Some}
use Rattle.sv_base.specs.declared.ids.ChildId.{ChildId}
use Rattle.sv_timers.proofs.DueLaws.{none_due_by}
use Rattle.sv_timers.specs.Deadlines.{due_from, earliest_of, is_due}
use Rattle.sv_timers.specs.Looks.{LooksAt, looked_of, looks_of, room_of}
use Rattle.sv_timers.specs.NextDue.{IsFirst, IsList, IsRest, next_due, next_in, rest_past, tells}
use Rattle.sv_timers.specs.declared.list.DueList.{DueList}
use Rattle.sv_timers.specs.declared.list.Rest.{Rest}
use Rattle.sv_timers.specs.declared.looked.Looked.{Looked}

-- ---- one child of a list

drop_here : (xs : List ChildId) (n : ℕ) (d : ChildId) → n < length xs → drop n xs ≡ get_or xs n d ∷ drop (n + 1) xs
drop_here [] n d within = absurd (omega (arith, within))
drop_here (y ∷ ys) zero d within = refl
drop_here (y ∷ ys) (suc n) d within =
    let next : suc n + 1 ≡ suc (n + 1) = omega arith in rw next (drop_here ys n d (omega (arith, within)))

read_here : (xs : List ChildId) (n : ℕ) (d : ChildId) → n < length xs → slice_get xs n ≡ Some (get_or xs n d)
read_here [] n d within = absurd (omega (arith, within))
read_here (y ∷ ys) zero d within = refl
read_here (y ∷ ys) (suc n) d within = read_here ys n d (omega (arith, within))

skips : (from : ℕ) (x : ChildId) (xs : List ChildId) → x.0 < from → next_in from (x ∷ xs) ≡ next_in from xs
skips from x xs before = rw (lt-leb from x.0 before) refl

takes : (from : ℕ) (x : ChildId) (xs : List ChildId) → from ≤ x.0 → next_in from (x ∷ xs) ≡ Some x
takes from x xs there = rw (le-leb from x.0 there) refl

-- the search goes past one child
pub skipped : (xs all : List ChildId) (n from : ℕ) (d : ChildId) → n < length xs → (get_or xs n d).0 < from
    → ((later : ℕ) → from ≤ later → next_in later (drop n xs) ≡ next_in later all)
    → (later : ℕ) → from ≤ later → next_in later (drop (n + 1) xs) ≡ next_in later all
skipped xs all n from d within before so_far later order =
    sym (ap (next_in later) (drop_here xs n d within) ∙ skips later (get_or xs n d) (drop (n + 1) xs) (omega (arith, before, order)))
    ∙ so_far later order

-- or it finds one
pub found : (xs : List ChildId) (told n from : ℕ) (d : ChildId) → n < length xs → from ≤ (get_or xs n d).0
    → ((later : ℕ) → from ≤ later → next_in later (drop n xs) ≡ next_in later (drop told xs))
    → IsFirst xs told from n
found xs told n from d within there so_far = record {
  child = get_or xs n d;
  there = read_here xs n d within;
  past = there;
  first = sym (so_far from (omega arith)) ∙ ap (next_in from) (drop_here xs n d within)
      ∙ takes from (get_or xs n d) (drop (n + 1) xs) there;
  left = λ later after.
      sym (ap (next_in later) (drop_here xs n d within) ∙ skips later (get_or xs n d) (drop (n + 1) xs) after)
      ∙ so_far later (omega (arith, there, after));
}

drop_past : (xs : List ChildId) (n : ℕ) → length xs ≤ n → drop n xs ≡ []
drop_past [] zero past = refl
drop_past [] (suc n) past = refl
drop_past (x ∷ xs) zero past = absurd (omega (arith, past))
drop_past (x ∷ xs) (suc n) past = drop_past xs n (omega (arith, past))

-- or nobody is left
pub none_found : (xs all : List ChildId) (n from : ℕ) → length xs ≤ n
    → ((later : ℕ) → from ≤ later → next_in later (drop n xs) ≡ next_in later all)
    → next_in from all ≡ None
none_found xs all n from past so_far = sym (so_far from (omega arith)) ∙ ap (next_in from) (drop_past xs n past)

-- ---- deadlines that change

-- a deadline before the place makes no difference
next_set : (xs : List (Option ℕ)) (first now i place : ℕ) (deadline : Option ℕ) → first + i < place
    → next_in place (due_from first now (slice_set xs i deadline)) ≡ next_in place (due_from first now xs)
next_set [] first now i place deadline before = refl
next_set (x ∷ xs) first now zero place deadline before = by (is_due deadline now) (is_due x now) where
  by : (one other : Bool)
      → next_in place (if one then record { 0 = first } ∷ due_from (first + 1) now xs else due_from (first + 1) now xs)
      ≡ next_in place (if other then record { 0 = first } ∷ due_from (first + 1) now xs else due_from (first + 1) now xs)
  by true true = refl
  by true false = skips place (record { 0 = first }) (due_from (first + 1) now xs) (omega (arith, before))
  by false true = sym (skips place (record { 0 = first }) (due_from (first + 1) now xs) (omega (arith, before)))
  by false false = refl
next_set (x ∷ xs) first now (suc i) place deadline before =
    by (is_due x now) (next_set xs (first + 1) now i place deadline (omega (arith, before))) where
      by : (b : Bool)
          → next_in place (due_from (first + 1) now (slice_set xs i deadline)) ≡ next_in place (due_from (first + 1) now xs)
          → next_in place (if b then record { 0 = first } ∷ due_from (first + 1) now (slice_set xs i deadline) else due_from (first + 1) now (slice_set xs i deadline))
          ≡ next_in place (if b then record { 0 = first } ∷ due_from (first + 1) now xs else due_from (first + 1) now xs)
      by true e = by_place (nat_le place first) e where
        by_place : (c : Bool)
            → next_in place (due_from (first + 1) now (slice_set xs i deadline)) ≡ next_in place (due_from (first + 1) now xs)
            → (if c then Some (record { 0 = first }) else next_in place (due_from (first + 1) now (slice_set xs i deadline)))
            ≡ (if c then Some (record { 0 = first }) else next_in place (due_from (first + 1) now xs))
        by_place true e = refl
        by_place false e = e
      by false e = e

rest_kept : (rest : Option Rest) (left : List ChildId) (deadlines : List (Option ℕ)) (i : ℕ) (deadline : Option ℕ)
    → IsRest rest left deadlines → IsRest (rest_past rest i) left (slice_set deadlines i deadline)
rest_kept None left deadlines i deadline is = tt
rest_kept (Some rest) left deadlines i deadline is = by (nat_le rest.from i) refl where
  by : (b : Bool) → nat_le rest.from i ≡ b → IsRest (if b then None else Some rest) left (slice_set deadlines i deadline)
  by true e = tt
  by false e = λ place order.
      is place order ∙ sym (next_set deadlines 0 rest.at i place deadline (omega (arith, order, leb-false rest.from i e)))

pub changed : (old : DueList) (rest : Option Rest) (i : ℕ) → rest ≡ rest_past old.rest i
    → (deadlines : List (Option ℕ)) (deadline : Option ℕ) → IsList old deadlines
    → IsList (record old { rest = rest }) (slice_set deadlines i deadline)
changed old rest i same deadlines deadline is = record {
  room = is.room ∙ sym (length-set deadlines i deadline);
  rest = subst (λ (r : Option Rest). IsRest r (drop old.told (looked_of old.looked)) (slice_set deadlines i deadline)) (sym same)
      (rest_kept old.rest (drop old.told (looked_of old.looked)) deadlines i deadline is.rest);
}

-- ---- a settle

pub few_due : (first now : ℕ) (xs : List (Option ℕ)) → length (due_from first now xs) ≤ length xs
few_due first now [] = omega arith
few_due first now (x ∷ xs) = by (is_due x now) (few_due (first + 1) now xs) where
  by : (b : Bool) → length (due_from (first + 1) now xs) ≤ length xs
      → length (if b then record { 0 = first } ∷ due_from (first + 1) now xs else due_from (first + 1) now xs) ≤ length (x ∷ xs)
  by true few = omega (arith, few)
  by false few = omega (arith, few)

pub settled : (old empty new : Looked) (deadlines : List (Option ℕ)) (now : ℕ)
    → room_of old ≡ length deadlines → room_of empty ≡ room_of old → looked_of empty ≡ []
    → LooksAt room_of looked_of looks_of empty new (due_from 0 now deadlines)
    → looked_of new ≡ due_from 0 now deadlines
settled old empty new deadlines now room same none at =
    at.given (omega (arith, few_due 0 now deadlines, room, same, ap length none))
    ∙ ap (λ (l : List ChildId). l ++ due_from 0 now deadlines) none

pub settled_list : (old empty new : Looked) (deadlines : List (Option ℕ)) (now : ℕ)
    → room_of old ≡ length deadlines → room_of empty ≡ room_of old → looked_of empty ≡ []
    → LooksAt room_of looked_of looks_of empty new (due_from 0 now deadlines)
    → IsList (record { looked = new; told = 0; rest = Some (record { from = 0; at = now }) }) deadlines
settled_list old empty new deadlines now room same none at = record {
  room = at.same_room ∙ same ∙ room;
  rest = λ place order. ap (next_in place) (settled old empty new deadlines now room same none at);
}

-- ---- the next of a list is told

told_by : (rest : Option Rest) (from now : ℕ) (left : List ChildId) (deadlines : List (Option ℕ)) → tells rest from now ≡ true
    → IsRest rest left deadlines
    → (place : ℕ) → from ≤ place → next_in place left ≡ next_due place now deadlines
told_by None from now left deadlines e is = cc
told_by (Some rest) from now left deadlines e is = λ place order.
    let parts = and_parts (nat_le rest.from from) (nat_eq rest.at now) e in
    let before : rest.from ≤ from = leb-true rest.from from parts.0 in
    is place (omega (arith, before, order)) ∙ ap (λ n. next_due place n deadlines) (eqb-true rest.at now parts.1)

pub told_none : (list : DueList) (from now : ℕ) → tells list.rest from now ≡ true
    → next_in from (drop list.told (looked_of list.looked)) ≡ None
    → (deadlines : List (Option ℕ)) → IsList list deadlines → None ≡ next_due from now deadlines
told_none list from now e none deadlines is =
    sym none ∙ told_by list.rest from now (drop list.told (looked_of list.looked)) deadlines e is.rest from (omega arith)

pub told_next : (list : DueList) (from now place : ℕ) (child : ChildId) → tells list.rest from now ≡ true
    → (first : IsFirst (looked_of list.looked) list.told from place) → slice_get (looked_of list.looked) place ≡ Some child
    → (deadlines : List (Option ℕ)) → IsList list deadlines → Some child ≡ next_due from now deadlines
told_next list from now place child e first at deadlines is =
    sym at ∙ first.there ∙ sym first.first
    ∙ told_by list.rest from now (drop list.told (looked_of list.looked)) deadlines e is.rest from (omega arith)

pub told_list : (list : DueList) (from now place : ℕ) (child : ChildId) → tells list.rest from now ≡ true
    → (first : IsFirst (looked_of list.looked) list.told from place) → slice_get (looked_of list.looked) place ≡ Some child
    → (deadlines : List (Option ℕ)) → IsList list deadlines
    → IsList (record list { told = place + 1; rest = Some (record { from = child.0 + 1; at = now }) }) deadlines
told_list list from now place child e first at deadlines is =
    let same : child ≡ first.child = same_Some child first.child (sym at ∙ first.there) in
    let number : child.0 ≡ first.child.0 = ap (λ (c : ChildId). c.0) same in
    record {
      room = is.room;
      rest = λ later order.
          first.left later (omega (arith, order, number))
          ∙ told_by list.rest from now (drop list.told (looked_of list.looked)) deadlines e is.rest later (omega (arith, order, number, first.past));
    }

-- where the earliest isn't due, nobody is next
pub none_next : (from now : ℕ) (deadlines : List (Option ℕ)) (earliest : Option ℕ) (due : Bool) → earliest ≡ earliest_of deadlines → due ≡ is_due earliest now
    → due ≡ false → next_due from now deadlines ≡ None
none_next from now deadlines earliest due is told none = ap (next_in from) (none_due_by 0 now deadlines earliest due is told none)
