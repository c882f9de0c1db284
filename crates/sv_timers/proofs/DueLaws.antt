-- What two rows of deadlines, one after the other, say together.
use Rattle.std.proofs.Common.{◌≡◌, ℕ, zero, suc, ◌+◌, ◌-◌, ◌<◌, ◌≤◌, List, [], ◌∷◌, ◌++◌, slice_set, Bool, false, length, replicate, Option, None, Some, refl, sym, ap, subst, ◌∙◌, arith, length-append}
use Rattle.std.proofs.lemmas.List.{append-nil, append_assoc, replicate-append-replicate, length-replicate, length-set, set-append_left, set-append_right}
use Rattle.std.proofs.lemmas.Grind.{common_steps}
use Rattle.sv_base.specs.declared.ids.ChildId.{ChildId}
use Rattle.sv_timers.specs.Deadlines.{earlier, earliest_of, is_due, due_from}
use Rattle.sv_timers.specs.DeadlineTree.{deadlines}
use Rattle.sv_timers.specs.Looks.{LooksAt}
use Rattle.sv_timers.specs.declared.tree.Tree.{Tree}
use Rattle.sv_timers.specs.declared.tree.Tree.TheVariants.{Leaf, Fork'}

pub earlier-assoc : (a b c : Option ℕ) → earlier (earlier a b) c ≡ earlier a (earlier b c)
earlier-assoc None b c = refl
earlier-assoc (Some x) None c = refl
earlier-assoc (Some x) (Some y) None = refl
earlier-assoc (Some x) (Some y) (Some z) = ap Some (omega arith)

pub earliest_of-append : (xs ys : List (Option ℕ)) → earliest_of (xs ++ ys) ≡ earlier (earliest_of xs) (earliest_of ys)
earliest_of-append [] ys = refl
earliest_of-append (x ∷ xs) ys = ap (earlier x) (earliest_of-append xs ys) ∙ sym (earlier-assoc x (earliest_of xs) (earliest_of ys))

pub earliest_of-replicate : (n : ℕ) → earliest_of (replicate n None) ≡ None
earliest_of-replicate zero = refl
earliest_of-replicate (suc n) = earliest_of-replicate n

pub due_from-append : (first now : ℕ) (xs ys : List (Option ℕ))
    → due_from first now (xs ++ ys) ≡ due_from first now xs ++ due_from (first + length xs) now ys
due_from-append first now [] ys = ap (λ n. due_from n now ys) (omega arith)
due_from-append first now (x ∷ xs) ys = grind (arith, common_steps, due_from-append (first + 1) now xs ys)

-- where the earliest isn't due, nobody is
pub none_due : (first now : ℕ) (xs : List (Option ℕ)) → is_due (earliest_of xs) now ≡ false → due_from first now xs ≡ []
none_due first now [] e = refl
none_due first now (None ∷ xs) e = none_due (first + 1) now xs e
none_due first now (Some at ∷ xs) e = grind (arith, common_steps, none_due (first + 1) now xs)

pub none_due_by : (first now : ℕ) (xs : List (Option ℕ)) (earliest : Option ℕ) (due : Bool)
    → earliest ≡ earliest_of xs → due ≡ is_due earliest now → due ≡ false → due_from first now xs ≡ []
none_due_by first now xs earliest due e d n = none_due first now xs (ap (λ x. is_due x now) (sym e) ∙ sym d ∙ n)

-- a tree has a child
pub has_one : (tree : Tree) → 1 ≤ length (deadlines tree)
has_one (Leaf deadline) = omega arith
has_one (Fork' earliest count _ first _ second) = omega (arith, length-append (deadlines first) (deadlines second), has_one first)

module _ {A : Type 0} {room : A → ℕ} {looked : A → List ChildId} {looks : A → ℕ} where
  -- nobody was looked at
  pub looks_none : (a : A) → LooksAt room looked looks a a []
  looks_none a = record { same_room = refl; given = λ few. sym (append-nil (looked a)); count = omega arith }

  -- these were looked at, and then those
  pub looks_both : (a b c : A) (xs ys : List ChildId) → LooksAt room looked looks a b xs → LooksAt room looked looks b c ys
      → LooksAt room looked looks a c (xs ++ ys)
  looks_both a b c xs ys one other = record {
    same_room = other.same_room ∙ one.same_room;
    given = λ few.
        let first : looked b ≡ looked a ++ xs = one.given (omega (arith, few, length-append xs ys)) in
        let second : looked c ≡ looked b ++ ys
        = other.given (omega (arith, few, one.same_room, ap length first, length-append xs ys, length-append (looked a) xs)) in
        second ∙ ap (λ l. l ++ ys) first ∙ append_assoc (looked a) xs ys;
    count = omega (arith, one.count, other.count, length-append xs ys);
  }

  -- both sides of a fork were looked at
  pub fork_looks : (a b c : A) (tree first second one other : Tree) (from count now : ℕ)
      → deadlines tree ≡ deadlines first ++ deadlines second → count ≡ length (deadlines first) → one ≡ first → other ≡ second
      → LooksAt room looked looks a b (due_from from now (deadlines one))
      → LooksAt room looked looks b c (due_from (from + count) now (deadlines other))
      → LooksAt room looked looks a c (due_from from now (deadlines tree))
  fork_looks a b c tree first second one other from count now d n e f x y =
      let x1 = subst (λ t. LooksAt room looked looks a b (due_from from now (deadlines t))) e x in
      let y1 = subst (λ t. LooksAt room looked looks b c (due_from (from + count) now (deadlines t))) f y in
      let y2 = subst (λ k. LooksAt room looked looks b c (due_from (from + k) now (deadlines second))) n y1 in
      subst (λ l. LooksAt room looked looks a c l)
      (sym (ap (due_from from now) d ∙ due_from-append from now (deadlines first) (deadlines second)))
      (looks_both a b c _ _ x1 y2)

-- two rows without deadlines
pub new_earliest : (n m : ℕ) (xs ys : List (Option ℕ)) → xs ≡ replicate n None → ys ≡ replicate m None
    → None ≡ earliest_of (xs ++ ys)
new_earliest n m xs ys e f =
    rw (e, f, earliest_of-append (replicate n None) (replicate m None), earliest_of-replicate n, earliest_of-replicate m) refl

pub new_deadlines : (n m k : ℕ) (xs ys : List (Option ℕ)) → xs ≡ replicate n None → ys ≡ replicate m None → n + m ≡ k
    → xs ++ ys ≡ replicate k None
new_deadlines n m k xs ys e f g = rw (e, f) (replicate-append-replicate n m None ∙ ap (λ i. replicate i None) g)

pub new_length : (n : ℕ) (xs : List (Option ℕ)) → xs ≡ replicate n None → n ≡ length xs
new_length n xs e = rw e (sym (length-replicate n None))

pub earlier_both : (a b r : Option ℕ) (xs ys : List (Option ℕ)) → r ≡ earlier a b → a ≡ earliest_of xs → b ≡ earliest_of ys
    → r ≡ earliest_of (xs ++ ys)
earlier_both a b r xs ys e f g = rw (e, f, g) (sym (earliest_of-append xs ys))

-- one deadline of the first row, or of the second, is put
pub put_first : (xs ys zs : List (Option ℕ)) (i : ℕ) (deadline : Option ℕ) → i < length xs → zs ≡ slice_set xs i deadline
    → zs ++ ys ≡ slice_set (xs ++ ys) i deadline
put_first xs ys zs i deadline within e = rw e (sym (set-append_left xs ys i deadline within))

pub put_second : (xs ys zs : List (Option ℕ)) (n i : ℕ) (deadline : Option ℕ) → n ≡ length xs → n ≤ i
    → zs ≡ slice_set ys (i - n) deadline → xs ++ zs ≡ slice_set (xs ++ ys) i deadline
put_second xs ys zs n i deadline count after e = rw e (sym (set-append_right xs ys n i deadline (sym count) after))

pub put_length : (xs zs : List (Option ℕ)) (n i : ℕ) (deadline : Option ℕ) → n ≡ length xs → zs ≡ slice_set xs i deadline
    → n ≡ length zs
put_length xs zs n i deadline count e = rw e (count ∙ sym (length-set xs i deadline))
