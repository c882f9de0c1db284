-- The seat of a process leads to its group and to itself.
use Rattle.std.proofs.Common.{◌≡◌, ◌⊎◌, inl, inr, ◌+◌, ◌-◌, ◌≤◌, ◌<◌, ◌++◌, ◌∷◌, [], ap, sym, ◌∙◌, arith, List, ℕ, length, refl, take, drop, zero, suc, append_assoc, get_or, Option, Some, None}
use Rattle.std.specs.List.{remove, slice_get, slice_set}
use Rattle.std.specs.Option.{option_map}
use Rattle.std.proofs.Math.ListN.{set}
use Rattle.std.proofs.lemmas.Bool.{cases_lt}
use Rattle.std.proofs.lemmas.List.{drop_more, length-append, length-map, take_more_set}
use Rattle.std.proofs.lemmas.Option.{get_or_from_slice_get, same_Some, slice_get-map, slice_get_past, slice_get_read, slice_get_within}
use Rattle.sv_base.specs.declared.spec.GroupSpec.{GroupSpec}
use Rattle.sv_base.specs.declared.spec.Spec.{Spec}
use Rattle.sv_groups.proofs.Kept.{size_with, size_without}
use Rattle.sv_groups.specs.Changes.{with_group}
use Rattle.sv_groups.specs.Seats.{seats_from, seats_in}
use Rattle.sv_groups.specs.StartOrder.{pairs_in, pairs_of, processes}
use Rattle.sv_groups.specs.declared.seat.Seat.{Seat}

-- an element of the first of two joined lists
slice_get_here : {X : Type 0} (xs ys : List X) (k : ℕ) → k < length xs → slice_get (xs ++ ys) k ≡ slice_get xs k
slice_get_here [] ys k within = absurd (omega arith)
slice_get_here (x ∷ xs) ys zero within = refl
slice_get_here (x ∷ xs) ys (suc k) within = slice_get_here xs ys k (omega arith)

-- and of the second
slice_get_there : {X : Type 0} (xs ys : List X) (k : ℕ) → slice_get (xs ++ ys) (length xs + k) ≡ slice_get ys k
slice_get_there [] ys k = ap (slice_get ys) (omega arith)
slice_get_there (x ∷ xs) ys k =
    let next : length (x ∷ xs) + k ≡ suc (length xs + k) = omega arith in
    ap (slice_get (x ∷ (xs ++ ys))) next ∙ slice_get_there xs ys k

slice_get_first : {X : Type 0} (x : X) (xs : List X) → slice_get (x ∷ xs) 0 ≡ Some x
slice_get_first x xs = refl

length-seats_in : (group member left : ℕ) → length (seats_in group member left) ≡ left
length-seats_in group member zero = refl
length-seats_in group member (suc left) = ap suc (length-seats_in group (member + 1) left)

pub seats_count : (group : ℕ) (groups : List GroupSpec) → length (seats_from group groups) ≡ length (processes groups)
seats_count group [] = refl
seats_count group (g ∷ gs) =
    omega (arith, length-append (seats_in group 0 (length g.members)) (seats_from (group + 1) gs), length-append g.members (processes gs), length-seats_in group 0 (length g.members), seats_count (group + 1) gs)

pub length-pairs_of : (groups : List GroupSpec) → length (pairs_of groups) ≡ length (processes groups)
length-pairs_of [] = refl
length-pairs_of (g ∷ gs) =
    omega (arith, length-append (pairs_in g) (pairs_of gs), length-append g.members (processes gs), length-map {B = GroupSpec × Spec} g.members (λ (m : Spec). (g, m)), length-pairs_of gs)

seat_in_at : (group member left k : ℕ) → k < left → slice_get (seats_in group member left) k ≡ Some (record { group = group; member = member + k })
seat_in_at group member zero k within = absurd (omega arith)
seat_in_at group member (suc left) zero within =
    ap (λ (n : ℕ). Some (let seat : Seat = record { group = group; member = n } in seat)) (let same : member ≡ member + 0 = omega arith in same)
seat_in_at group member (suc left) (suc k) within =
    seat_in_at group (member + 1) left k (omega arith)
    ∙ ap (λ (n : ℕ). Some (let seat : Seat = record { group = group; member = n } in seat)) (let same : member + 1 + k ≡ member + suc k = omega arith in same)

-- what is there
pub record There {X : Type 0} (xs : List X) (k : ℕ) : Type 0 where
  pub item : X
  pub is : slice_get xs k ≡ Some item

there : {X : Type 0} (xs : List X) (k : ℕ) → k < length xs → There xs k
there [] k within = absurd (omega arith)
there (x ∷ xs) zero within = record { item = x; is = refl }
there (x ∷ xs) (suc k) within = let more = there xs k (omega arith) in record { item = more.item; is = more.is }

-- a seat leads to a group of these and to a member of it, and the two are the pair of this place
pub record Leads (groups : List GroupSpec) (pair : Option (GroupSpec × Spec)) (seat : Seat) : Type 0 where
  pub group : GroupSpec
  pub member : Spec
  pub at_group : slice_get groups seat.group ≡ Some group
  pub at_member : slice_get group.members seat.member ≡ Some member
  pub at_place : pair ≡ Some (group, member)

-- the pair of a member of this group, in a list that begins with those of the group
pair_here : (g : GroupSpec) (pairs : List (GroupSpec × Spec)) (k : ℕ) (m : Spec) → slice_get g.members k ≡ Some m
    → slice_get (pairs_in g ++ pairs) k ≡ Some (g, m)
pair_here g pairs k m is =
    let within : k < length g.members = slice_get_within g.members k m is in
    let as_long : length (pairs_in g) ≡ length g.members = length-map {B = GroupSpec × Spec} g.members (λ (x : Spec). (g, x)) in
    slice_get_here (pairs_in g) pairs k (omega arith)
    ∙ slice_get-map {B = GroupSpec × Spec} (λ (x : Spec). (g, x)) g.members k
    ∙ ap (option_map (λ (x : Spec). (g, x))) is

pair_there : (g : GroupSpec) (pairs : List (GroupSpec × Spec)) (place k : ℕ) → place ≡ length g.members + k
    → slice_get (pairs_in g ++ pairs) place ≡ slice_get pairs k
pair_there g pairs place k is =
    let as_long : length (pairs_in g) ≡ length g.members = length-map {B = GroupSpec × Spec} g.members (λ (x : Spec). (g, x)) in
    let same : place ≡ length (pairs_in g) + k = omega arith in
    ap (slice_get (pairs_in g ++ pairs)) same ∙ slice_get_there (pairs_in g) pairs k

seat_here : (group members : ℕ) (more : List Seat) (k : ℕ) → k < members
    → slice_get (seats_in group 0 members ++ more) k ≡ Some (record { group = group; member = k })
seat_here group members more k within =
    let as_long : length (seats_in group 0 members) ≡ members = length-seats_in group 0 members in
    let same : 0 + k ≡ k = omega arith in
    slice_get_here (seats_in group 0 members) more k (omega arith)
    ∙ seat_in_at group 0 members k within
    ∙ ap (λ (n : ℕ). Some (let seat : Seat = record { group = group; member = n } in seat)) same

seat_there : (group members : ℕ) (more : List Seat) (place k : ℕ) → place ≡ members + k
    → slice_get (seats_in group 0 members ++ more) place ≡ slice_get more k
seat_there group members more place k is =
    let as_long : length (seats_in group 0 members) ≡ members = length-seats_in group 0 members in
    let same : place ≡ length (seats_in group 0 members) + k = omega arith in
    ap (slice_get (seats_in group 0 members ++ more)) same ∙ slice_get_there (seats_in group 0 members) more k

group_at : (before : List GroupSpec) (g : GroupSpec) (gs : List GroupSpec) → slice_get (before ++ g ∷ gs) (length before) ≡ Some g
group_at before g gs =
    let same : length before ≡ length before + 0 = omega arith in
    ap (slice_get (before ++ g ∷ gs)) same ∙ slice_get_there before (g ∷ gs) 0

leads_here : (before : List GroupSpec) (g : GroupSpec) (gs : List GroupSpec) (place : ℕ) (seat : Seat) → place < length g.members
    → slice_get (seats_from (length before) (g ∷ gs)) place ≡ Some seat
    → Leads (before ++ g ∷ gs) (slice_get (pairs_of (g ∷ gs)) place) seat
leads_here before g gs place seat within is =
    let member = there g.members place within in
    let same : record { group = length before; member = place } ≡ seat =
    same_Some _ seat (sym (seat_here (length before) (length g.members) (seats_from (length before + 1) gs) place within) ∙ is) in
    record {
      group = g;
      member = member.item;
      at_group = ap (λ (s : Seat). slice_get (before ++ g ∷ gs) s.group) (sym same) ∙ group_at before g gs;
      at_member = ap (λ (s : Seat). slice_get g.members s.member) (sym same) ∙ member.is;
      at_place = pair_here g (pairs_of gs) place member.item member.is;
    }

-- the groups of which these are the last
leads_from : (before groups : List GroupSpec) (place : ℕ) (seat : Seat)
    → slice_get (seats_from (length before) groups) place ≡ Some seat → Leads (before ++ groups) (slice_get (pairs_of groups) place) seat
leads_from before [] place seat is = cc
leads_from before (g ∷ gs) place seat is = by_side (cases_lt place (length g.members)) (leads_from (before ++ g ∷ []) gs (place - length g.members) seat) where
  moved : length g.members ≤ place → Leads ((before ++ g ∷ []) ++ gs) (slice_get (pairs_of gs) (place - length g.members)) seat
      → Leads (before ++ g ∷ gs) (slice_get (pairs_of (g ∷ gs)) place) seat
  moved past more = record {
    group = more.group;
    member = more.member;
    at_group = ap (λ (all : List GroupSpec). slice_get all seat.group) (sym (append_assoc before (g ∷ []) gs)) ∙ more.at_group;
    at_member = more.at_member;
    at_place = pair_there g (pairs_of gs) place (place - length g.members) (omega arith) ∙ more.at_place;
  }

  one_more : length (before ++ g ∷ []) ≡ length before + 1
  one_more = omega (arith, length-append before (g ∷ []))

  left : length g.members ≤ place → slice_get (seats_from (length (before ++ g ∷ [])) gs) (place - length g.members) ≡ Some seat
  left past =
      ap (λ n. slice_get (seats_from n gs) (place - length g.members)) one_more
      ∙ sym (seat_there (length before) (length g.members) (seats_from (length before + 1) gs) place (place - length g.members) (omega arith))
      ∙ is

  by_side : (place < length g.members) ⊎ (length g.members ≤ place)
      → (slice_get (seats_from (length (before ++ g ∷ [])) gs) (place - length g.members) ≡ Some seat → Leads ((before ++ g ∷ []) ++ gs) (slice_get (pairs_of gs) (place - length g.members)) seat)
      → Leads (before ++ g ∷ gs) (slice_get (pairs_of (g ∷ gs)) place) seat
  by_side (inl within) more = leads_here before g gs place seat within is
  by_side (inr past) more = moved past (more (left past))

pub leads : (groups : List GroupSpec) (place : ℕ) (seat : Seat) → slice_get (seats_from 0 groups) place ≡ Some seat
    → Leads groups (slice_get (pairs_of groups) place) seat
leads groups place seat is = leads_from [] groups place seat is

pub group_within : (groups : List GroupSpec) (place : ℕ) (seat : Seat) → slice_get (seats_from 0 groups) place ≡ Some seat → seat.group < length groups
group_within groups place seat is = let found = leads groups place seat is in slice_get_within groups seat.group found.group found.at_group

same_group : (groups : List GroupSpec) (place : ℕ) (seat : Seat) (g : GroupSpec) (found : Leads groups (slice_get (pairs_of groups) place) seat)
    → g ≡ get_or groups seat.group g → g ≡ found.group
same_group groups place seat g found is = is ∙ get_or_from_slice_get groups seat.group found.group g found.at_group

pub member_within : (groups : List GroupSpec) (place : ℕ) (seat : Seat) (g : GroupSpec) → slice_get (seats_from 0 groups) place ≡ Some seat
    → g ≡ get_or groups seat.group g → seat.member < length g.members
member_within groups place seat g is at_group =
    let found = leads groups place seat is in
    let same : g ≡ found.group = same_group groups place seat g found at_group in
    slice_get_within g.members seat.member found.member (ap (λ (x : GroupSpec). slice_get x.members seat.member) same ∙ found.at_member)

pub pair_at : (groups : List GroupSpec) (place : ℕ) (seat : Seat) (g : GroupSpec) (m : Spec) → slice_get (seats_from 0 groups) place ≡ Some seat
    → g ≡ get_or groups seat.group g → m ≡ get_or g.members seat.member m → slice_get (pairs_of groups) place ≡ Some (g, m)
pair_at groups place seat g m is at_group at_member =
    let found = leads groups place seat is in
    let same : g ≡ found.group = same_group groups place seat g found at_group in
    let there : slice_get g.members seat.member ≡ Some found.member = ap (λ (x : GroupSpec). slice_get x.members seat.member) same ∙ found.at_member in
    let same_member : m ≡ found.member = at_member ∙ get_or_from_slice_get g.members seat.member found.member m there in
    found.at_place ∙ ap (λ (x : GroupSpec). Some (x, found.member)) (sym same) ∙ ap (λ (x : Spec). Some (g, x)) (sym same_member)

-- one seat more is written
pub seat_filled : (group members member next : ℕ) (seats all : List Seat) → member < members → next + member < length seats
    → take (next + member) seats ++ seats_in group member (members - member) ≡ all
    → take (next + (member + 1)) (slice_set seats (next + member) (record { group = group; member = member })) ++ seats_in group (member + 1) (members - (member + 1)) ≡ all
seat_filled group members member next seats all within room so_far =
    let seat : Seat = record { group = group; member = member } in
    let place : next + (member + 1) ≡ next + member + 1 = omega arith in
    let left : members - member ≡ suc (members - (member + 1)) = omega arith in
    ap (λ n. take n (slice_set seats (next + member) seat) ++ seats_in group (member + 1) (members - (member + 1))) place
    ∙ ap (λ (xs : List Seat). xs ++ seats_in group (member + 1) (members - (member + 1))) (take_more_set seats (next + member) seat room)
    ∙ append_assoc (take (next + member) seats) (seat ∷ []) (seats_in group (member + 1) (members - (member + 1)))
    ∙ ap (λ n. take (next + member) seats ++ seats_in group member n) (sym left)
    ∙ so_far

-- one group more is written
pub group_filled : (groups : List GroupSpec) (g : GroupSpec) (place next size : ℕ) (seats written all : List Seat) → place < length groups
    → g ≡ get_or groups place g
    → size ≡ length g.members
    → take (next + size) written ≡ take next seats ++ seats_in place 0 size
    → take next seats ++ seats_from place (drop place groups) ≡ all
    → take (next + size) written ++ seats_from (place + 1) (drop (place + 1) groups) ≡ all
group_filled groups g place next size seats written all within is sized filled so_far =
    let rest : drop place groups ≡ g ∷ drop (place + 1) groups =
    drop_more groups place g within ∙ ap (λ (x : GroupSpec). x ∷ drop (place + 1) groups) (sym is) in
    ap (λ (xs : List Seat). xs ++ seats_from (place + 1) (drop (place + 1) groups)) filled
    ∙ append_assoc (take next seats) (seats_in place 0 size) (seats_from (place + 1) (drop (place + 1) groups))
    ∙ ap (λ n. take next seats ++ (seats_in place 0 n ++ seats_from (place + 1) (drop (place + 1) groups))) sized
    ∙ ap (λ (xs : List GroupSpec). take next seats ++ seats_from place xs) (sym rest)
    ∙ so_far

pub group_counted : (groups : List GroupSpec) (g : GroupSpec) (place next size whole : ℕ) → place < length groups
    → g ≡ get_or groups place g
    → size ≡ length g.members
    → next + length (processes (drop place groups)) ≡ whole
    → next + size + length (processes (drop (place + 1) groups)) ≡ whole
group_counted groups g place next size whole within is sized so_far =
    let rest : drop place groups ≡ g ∷ drop (place + 1) groups =
    drop_more groups place g within ∙ ap (λ (x : GroupSpec). x ∷ drop (place + 1) groups) (sym is) in
    let count : length (processes (drop place groups)) ≡ length g.members + length (processes (drop (place + 1) groups)) =
    ap (λ (xs : List GroupSpec). length (processes xs)) rest ∙ length-append g.members (processes (drop (place + 1) groups)) in
    omega arith

-- what is read of the seats of these groups
pub seat_read : (groups : List GroupSpec) (seats : List Seat) (place : ℕ) (seat : Seat) → seats ≡ seats_from 0 groups → place < length seats
    → seat ≡ get_or seats place seat → slice_get (seats_from 0 groups) place ≡ Some seat
seat_read groups seats place seat is within read =
    ap (λ (xs : List Seat). slice_get xs place) (sym is) ∙ slice_get_read seats (length seats) place seat refl within read

-- past the last seat there is no process
pub pair_past : (groups : List GroupSpec) (place : ℕ) → length (seats_from 0 groups) ≤ place → slice_get (pairs_of groups) place ≡ None
pair_past groups place past =
    slice_get_past (pairs_of groups) place (omega (arith, seats_count 0 groups, length-pairs_of groups))

-- one group less has no more processes than there are seats
pub fewer_without : (groups now : List GroupSpec) (seats : List Seat) (place : ℕ) → seats ≡ seats_from 0 groups → now ≡ remove groups place
    → length (processes now) ≤ length seats
fewer_without groups now seats place is removed =
    let count : length (processes now) ≡ length (processes (remove groups place)) = ap (λ (gs : List GroupSpec). length (processes gs)) removed in
    let size : length seats ≡ length (processes groups) = ap (λ (xs : List Seat). length xs) is ∙ seats_count 0 groups in
    omega (arith, (size_without place groups).1)

-- and one more as many as there are seats then
pub fewer_with : (groups now : List GroupSpec) (group : GroupSpec) (seats more : List Seat) → seats ≡ seats_from 0 groups
    → length more ≡ length seats + length group.members → now ≡ with_group group groups → length (processes now) ≤ length more
fewer_with groups now group seats more is longer added =
    let count : length (processes now) ≡ length (processes (with_group group groups)) = ap (λ (gs : List GroupSpec). length (processes gs)) added in
    let size : length seats ≡ length (processes groups) = ap (λ (xs : List Seat). length xs) is ∙ seats_count 0 groups in
    omega (arith, (size_with group groups).1)
