use Rattle.std.proofs.Common.{◌≡◌, ◌+◌, ◌^◌, ◌%◌, ◌<◌, ◌≤◌, ℕ, zero, suc, List, [], ◌∷◌, ◌++◌, length, take, drop, map, replicate, Bool, true, false, nat_eq, nat_lt, Option, Some, None, is_none, slice_get, slice_set, slice_index_or, if◌then◌else◌, refl, ap, sym, ◌∙◌, arith}
use Rattle.std.proofs.lemmas.Bool.Decides.{nat_tests}
use Rattle.std.proofs.lemmas.Grind.{common_steps}
use Rattle.std.proofs.lemmas.List.{length-append, length-drop}
use Rattle.std.proofs.lemmas.List.Sums.{sum_by-append}
use Rattle.std.specs.Option.{option_to_list}
use Rattle.sv_events.specs.declared.event.Event.{Event}
use Rattle.sv_pool.specs.declared.taken.Taken.{Taken}
use Rattle.sv_pool.specs.Account.{Step, after, after_all, everywhere, times, may_take, holds_one, IsAccount}
use Rattle.sv_pool.specs.Account.Step.{Accept, Take, Acknowledge, Reject, Forget}
use Rattle.sv_pool.specs.PoolLists.{Lists, opened, has_room, make_room, numbered, accepted, holding, took, acknowledged, rejected, held_events, forgotten}

-- how often a number stands in two lists
times_append : (n : ℕ) (xs ys : List Taken) → times n (xs ++ ys) ≡ times n xs + times n ys
times_append n xs ys = sum_by-append (λ (t : Taken). if nat_eq t.poolserial n then 1 else 0) xs ys

times_everywhere : (n : ℕ) (l : Lists)
    → times n (everywhere l) ≡ times n l.waiting + times n (held_events l.held) + times n l.acknowledged + times n l.dropped + times n l.given_up
times_everywhere n l = simp (times_append n)

-- the first and the others are all
times_cut : (n : ℕ) (xs : List Taken) → times n (take 1 xs) + times n (drop 1 xs) ≡ times n xs
times_cut n [] = refl
times_cut n (x ∷ xs) = grind (arith, common_steps)

first_one : (xs : List Taken) → option_to_list (slice_get xs 0) ≡ take 1 xs
first_one [] = refl
first_one (x ∷ xs) = refl

-- a listener's place changes
times_held : (n : ℕ) (held : List (Option Taken)) (i : ℕ) (new : Option Taken) → i < length held
    → times n (held_events (slice_set held i new)) + times n (option_to_list (slice_index_or held i None))
    ≡ times n (held_events held) + times n (option_to_list new)
times_held n [] i new within = absurd (omega arith)
times_held n (place ∷ held) zero new within =
    omega (arith, times_append n (option_to_list new) (held_events held), times_append n (option_to_list place) (held_events held))
times_held n (place ∷ held) (suc i) new within =
    omega (arith, times_held n held i new (omega arith), times_append n (option_to_list place) (held_events (slice_set held i new)), times_append n (option_to_list place) (held_events held))

-- to make room moves an event at most
times_room : (n : ℕ) (b : Bool) (l : Lists)
    → times n (everywhere (if b then l else record l { waiting = drop 1 l.waiting; dropped = l.dropped ++ take 1 l.waiting })) ≡ times n (everywhere l)
times_room n true l = refl
times_room n false l =
    let r : Lists = record l { waiting = drop 1 l.waiting; dropped = l.dropped ++ take 1 l.waiting } in
    omega (arith, times_everywhere n l, times_everywhere n r, times_append n l.dropped (take 1 l.waiting), times_cut n l.waiting)

room_held : (b : Bool) (l : Lists)
    → (if b then l else record l { waiting = drop 1 l.waiting; dropped = l.dropped ++ take 1 l.waiting }).held ≡ l.held
room_held true l = refl
room_held false l = refl

room_buffer : (b : Bool) (l : Lists)
    → (if b then l else record l { waiting = drop 1 l.waiting; dropped = l.dropped ++ take 1 l.waiting }).buffer ≡ l.buffer
room_buffer true l = refl
room_buffer false l = refl

room_taken : (b : Bool) (l : Lists)
    → (if b then l else record l { waiting = drop 1 l.waiting; dropped = l.dropped ++ take 1 l.waiting }).taken ≡ l.taken
room_taken true l = refl
room_taken false l = refl

-- and one place is then free
room_left : (b : Bool) (l : Lists) (buffer : ℕ) → b ≡ nat_lt (length l.waiting) l.buffer → l.buffer ≡ buffer → 1 ≤ buffer → length l.waiting ≤ buffer
    → length (if b then l else record l { waiting = drop 1 l.waiting; dropped = l.dropped ++ take 1 l.waiting }).waiting + 1 ≤ buffer
room_left true l buffer e size some room = let less : length l.waiting < l.buffer = grind (arith, nat_tests) in omega arith
room_left false l buffer e size some room = omega (arith, length-drop 1 l.waiting)

times_pushed : (n : ℕ) (r : Lists) (k : ℕ) (x : Taken)
    → times n (everywhere (record r { taken = k; waiting = r.waiting ++ x ∷ [] })) ≡ times n (everywhere r) + times n (x ∷ [])
times_pushed n r k x =
    let new : Lists = record r { taken = k; waiting = r.waiting ++ x ∷ [] } in
    omega (arith, times_everywhere n r, times_everywhere n new, times_append n r.waiting (x ∷ []))

times_accepted : (n : ℕ) (event : Event) (l : Lists)
    → times n (everywhere (accepted event l)) ≡ times n (everywhere l) + times n (numbered event l.taken ∷ [])
times_accepted n event l =
    omega (arith, times_pushed n (make_room l) (l.taken + 1) (numbered event l.taken), times_room n (has_room l) l)

times_took : (n i : ℕ) (l : Lists) → i < length l.held → holding i l.held ≡ None → times n (everywhere (took i l)) ≡ times n (everywhere l)
times_took n i l within none =
    omega (
      arith,
      times_everywhere n l,
      times_everywhere n (took i l),
      times_held n l.held i (slice_get l.waiting 0) within,
      times_cut n l.waiting,
      ap (λ (xs : List Taken). times n xs) (first_one l.waiting),
      ap (λ (o : Option Taken). times n (option_to_list o)) none,
    )

times_acknowledged : (n i : ℕ) (l : Lists) → i < length l.held → times n (everywhere (acknowledged i l)) ≡ times n (everywhere l)
times_acknowledged n i l within =
    omega (
      arith,
      times_everywhere n l,
      times_everywhere n (acknowledged i l),
      times_held n l.held i None within,
      times_append n l.acknowledged (option_to_list (holding i l.held)),
    )

times_rejected : (n i : ℕ) (l : Lists) → i < length l.held → times n (everywhere (rejected i l)) ≡ times n (everywhere l)
times_rejected n i l within =
    omega (
      arith,
      times_everywhere n (make_room l),
      times_everywhere n (rejected i l),
      times_held n l.held i None within,
      times_append n (option_to_list (holding i l.held)) (make_room l).waiting,
      ap (λ (held : List (Option Taken)). times n (held_events held)) (room_held (has_room l) l),
      times_room n (has_room l) l,
    )

none_held : (held : List (Option Taken)) → held_events (map (λ (_ : Option Taken). None) held) ≡ []
none_held [] = refl
none_held (place ∷ held) = none_held held

none_held_yet : (k : ℕ) → held_events (replicate k None) ≡ []
none_held_yet zero = refl
none_held_yet (suc k) = none_held_yet k

times_forgotten : (n : ℕ) (l : Lists) → times n (everywhere (forgotten l)) ≡ times n (everywhere l)
times_forgotten n l =
    omega (
      arith,
      times_everywhere n l,
      times_everywhere n (forgotten l),
      ap (λ (xs : List Taken). times n xs) (none_held l.held),
      times_append n (l.given_up ++ l.waiting) (held_events l.held),
      times_append n l.given_up l.waiting,
    )

-- the next number joins those below
counted : (n taken : ℕ) → taken < 2 ^ 64
    → (if nat_lt n taken then 1 else 0) + (if nat_eq (taken % 2 ^ 64) n then 1 else 0) ≡ (if nat_lt n (taken + 1) then 1 else 0)
counted n taken small = let e : taken % 2 ^ 64 ≡ taken = omega arith in rw e (grind (arith, nat_tests))

may_take_within : (i : ℕ) (l : Lists) → may_take i l ≡ true → i < length l.held
may_take_within i l e = grind (arith, common_steps, nat_tests)

is_none_means : (o : Option Taken) → is_none o ≡ true → o ≡ None
is_none_means None e = refl
is_none_means (Some x) e = cc

may_take_free : (i : ℕ) (l : Lists) → may_take i l ≡ true → holding i l.held ≡ None
may_take_free i l e = is_none_means (holding i l.held) (grind (arith, common_steps, nat_tests))

holds_one_within : (i : ℕ) (l : Lists) → holds_one i l ≡ true → i < length l.held
holds_one_within i l e = grind (arith, common_steps, nat_tests)

take_keeps : (buffer i : ℕ) (l : Lists) (b : Bool) → may_take i l ≡ b → IsAccount buffer l → IsAccount buffer (if b then took i l else l)
take_keeps buffer i l false e account = account
take_keeps buffer i l true e account = record {
  size = account.size;
  once = λ n. times_took n i l (may_take_within i l e) (may_take_free i l e) ∙ account.once n;
  room = omega (arith, length-drop 1 l.waiting, account.room);
}

acknowledge_keeps : (buffer i : ℕ) (l : Lists) (b : Bool) → holds_one i l ≡ b → IsAccount buffer l → IsAccount buffer (if b then acknowledged i l else l)
acknowledge_keeps buffer i l false e account = account
acknowledge_keeps buffer i l true e account = record {
  size = account.size;
  once = λ n. times_acknowledged n i l (holds_one_within i l e) ∙ account.once n;
  room = account.room;
}

at_most_one : (o : Option Taken) → length (option_to_list o) ≤ 1
at_most_one None = omega arith
at_most_one (Some x) = omega arith

reject_keeps : (buffer i : ℕ) (l : Lists) (b : Bool) → 1 ≤ buffer → holds_one i l ≡ b → IsAccount buffer l → IsAccount buffer (if b then rejected i l else l)
reject_keeps buffer i l false some e account = account
reject_keeps buffer i l true some e account = record {
  size = room_buffer (has_room l) l ∙ account.size;
  once = λ n. times_rejected n i l (holds_one_within i l e) ∙ account.once n
      ∙ ap (λ (k : ℕ). if nat_lt n k then 1 else 0) (sym (room_taken (has_room l) l));
  room = omega (
    arith,
    length-append (option_to_list (holding i l.held)) (make_room l).waiting,
    at_most_one (holding i l.held),
    room_left (has_room l) l buffer refl account.size some account.room,
  );
}

accept_keeps : (buffer : ℕ) (event : Event) (l : Lists) → 1 ≤ buffer → l.taken < 2 ^ 64 → IsAccount buffer l → IsAccount buffer (accepted event l)
accept_keeps buffer event l some small account = record {
  size = room_buffer (has_room l) l ∙ account.size;
  once = λ n. omega (arith, times_accepted n event l, account.once n, counted n l.taken small);
  room = omega (arith, length-append (make_room l).waiting (numbered event l.taken ∷ []), room_left (has_room l) l buffer refl account.size some account.room);
}

forget_keeps : (buffer : ℕ) (l : Lists) → IsAccount buffer l → IsAccount buffer (forgotten l)
forget_keeps buffer l account = record {
  size = account.size;
  once = λ n. times_forgotten n l ∙ account.once n;
  room = omega arith;
}

step_keeps : (buffer : ℕ) (l : Lists) (step : Step) → 1 ≤ buffer → l.taken < 2 ^ 64 → IsAccount buffer l → IsAccount buffer (after l step)
step_keeps buffer l (Accept event) some small account = accept_keeps buffer event l some small account
step_keeps buffer l (Take i) some small account = take_keeps buffer i l (may_take i l) refl account
step_keeps buffer l (Acknowledge i) some small account = acknowledge_keeps buffer i l (holds_one i l) refl account
step_keeps buffer l (Reject i) some small account = reject_keeps buffer i l (holds_one i l) some refl account
step_keeps buffer l Forget some small account = forget_keeps buffer l account

took_taken : (b : Bool) (i : ℕ) (l : Lists) → (if b then took i l else l).taken ≡ l.taken
took_taken true i l = refl
took_taken false i l = refl

acknowledged_taken : (b : Bool) (i : ℕ) (l : Lists) → (if b then acknowledged i l else l).taken ≡ l.taken
acknowledged_taken true i l = refl
acknowledged_taken false i l = refl

rejected_taken : (b : Bool) (i : ℕ) (l : Lists) → (if b then rejected i l else l).taken ≡ l.taken
rejected_taken true i l = room_taken (has_room l) l
rejected_taken false i l = refl

-- no step takes an event back
step_taken : (l : Lists) (step : Step) → l.taken ≤ (after l step).taken
step_taken l (Accept event) = omega arith
step_taken l (Take i) = omega (arith, took_taken (may_take i l) i l)
step_taken l (Acknowledge i) = omega (arith, acknowledged_taken (holds_one i l) i l)
step_taken l (Reject i) = omega (arith, rejected_taken (holds_one i l) i l)
step_taken l Forget = omega arith

steps_taken : (l : Lists) (steps : List Step) → l.taken ≤ (after_all l steps).taken
steps_taken l [] = omega arith
steps_taken l (step ∷ steps) = omega (arith, step_taken l step, steps_taken (after l step) steps)

steps_keep : (buffer : ℕ) (l : Lists) (steps : List Step) → 1 ≤ buffer → (after_all l steps).taken < 2 ^ 64 → IsAccount buffer l
    → IsAccount buffer (after_all l steps)
steps_keep buffer l [] some small account = account
steps_keep buffer l (step ∷ steps) some small account =
    steps_keep buffer (after l step) steps some small
    (step_keeps buffer l step some (omega (arith, step_taken l step, steps_taken (after l step) steps, small)) account)

none_below : (n : ℕ) → (let zero_or_one : ℕ = if nat_lt n 0 then 1 else 0 in zero_or_one ≡ 0)
none_below n = grind (arith, nat_tests)

opened_account : (buffer listeners : ℕ) → IsAccount buffer (opened buffer listeners)
opened_account buffer listeners = record {
  size = refl;
  once = λ n. omega (arith, times_everywhere n (opened buffer listeners), ap (λ (xs : List Taken). times n xs) (none_held_yet listeners), none_below n);
  room = omega arith;
}

pub each_is_somewhere : (buffer listeners : ℕ) (steps : List Step) → 1 ≤ buffer → (after_all (opened buffer listeners) steps).taken < 2 ^ 64
    → IsAccount buffer (after_all (opened buffer listeners) steps)
each_is_somewhere buffer listeners steps some small = steps_keep buffer (opened buffer listeners) steps some small (opened_account buffer listeners)
