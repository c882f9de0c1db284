-- The names that the index has are those of the groups and of their processes, each at its place.
use Rattle.std.proofs.Common.{◌≡◌, ◌+◌, ◌≤◌, ◌<◌, ◌++◌, ◌∷◌, [], ap, sym, ◌∙◌, arith, List, ℕ, Bool, true, false, length, refl, take, drop, zero, suc, append_assoc, get_or, Option, Some, None, fold, map}
use Rattle.std.specs.Prelude.{◌&&◌, IfSome, not, if◌then◌else◌}
use Rattle.std.specs.List.{list_any, position, position_from, remove, remove_range}
use Rattle.std.specs.Cmp.Derive.{both_true}
use Rattle.std.specs.Str.{bytes_eq}
use Rattle.std.proofs.lemmas.Grind.{flat_map-append}
use Rattle.std.proofs.lemmas.Iterator.Adapters.{position_from-zero}
use Rattle.std.proofs.lemmas.List.{append-nil, length-append, map-append, take_more}
use Rattle.std.proofs.lemmas.List.Folds.{list_any-append}
use Rattle.std.proofs.lemmas.List.Sums.{fold-append}
use Rattle.std.proofs.Math.Seq.{drop-append_seam}
use Rattle.indexmap.specs.IndexSet.{insert_key}
use Rattle.sv_base.specs.Order.{are_distinct}
use Rattle.sv_base.specs.Roster.{are_memberships, is_roster}
use Rattle.sv_base.specs.declared.spec.GroupSpec.{GroupSpec}
use Rattle.sv_base.specs.declared.spec.Spec.{Spec}
use Rattle.sv_groups.proofs.Kept.{neither, none_of, not_true}
use Rattle.sv_groups.proofs.Processes.{both}
use Rattle.sv_groups.specs.Alike.{same_names}
use Rattle.sv_groups.specs.Lookup.{is_called, names_in, names_of, place_of}
use Rattle.sv_groups.specs.Names.{group_names, with_names, with_processes}
use Rattle.sv_groups.specs.StartOrder.{first_of, members_at, processes}

-- a group has as many names as members
names_length : (own : List ℕ) (members : List Spec) → length {A = List ℕ × List ℕ} (map (λ (m : Spec). (own, m.name)) members) ≡ length members
names_length own [] = refl
names_length own (m ∷ ms) = omega (arith, names_length own ms)

-- where something stands among the names of these, it stands among these
place_through : {X T : Type 0} (f : X → T) (test : T → Bool) (first : ℕ) (xs : List X) → position_from test first (map f xs) ≡ position_from (λ (x : X). test (f x)) first xs
place_through f test first [] = refl
place_through f test first (x ∷ xs) = ap (λ (p : Option ℕ). if test (f x) then Some first else p) (place_through f test (first + 1) xs)

pub group_place : (name : List ℕ) (groups : List GroupSpec) → position (λ (n : List ℕ). bytes_eq n name) (group_names groups) ≡ place_of name groups
group_place name groups =
    position_from-zero (λ (n : List ℕ). bytes_eq n name) (group_names groups)
    ∙ place_through (λ (g : GroupSpec). g.name) (λ (n : List ℕ). bytes_eq n name) 0 groups
    ∙ sym (position_from-zero (λ (g : GroupSpec). bytes_eq g.name name) groups)

pub process_place : (group own : List ℕ) (keys : List (List ℕ × List ℕ)) → position (is_called group own) keys ≡ position_from (is_called group own) 0 keys
process_place group own keys = position_from-zero (is_called group own) keys

-- a place among few is small
pub place_few : (place : Option ℕ) (many few : ℕ) → many ≤ few → IfSome place (λ (k : ℕ). k < many) → IfSome place (λ (k : ℕ). k < few)
place_few None many few size within = within
place_few (Some place) many few size within = omega arith

-- what no one passes, no one passes that passes only where they do
any_less : {X : Type 0} (p q : X → Bool) → ((x : X) → p x ≡ false → q x ≡ false) → (xs : List X) → list_any p xs ≡ false → list_any q xs ≡ false
any_less p q less [] none = refl
any_less p q less (x ∷ xs) none = let parts = neither (p x) (list_any p xs) none in none_of _ _ (less x parts.0) (any_less p q less xs parts.1)

any_none : {X : Type 0} (p : X → Bool) → ((x : X) → p x ≡ false) → (xs : List X) → list_any p xs ≡ false
any_none p none [] = refl
any_none p none (x ∷ xs) = none_of _ _ (none x) (any_none p none xs)

first_false : (a b : Bool) → a ≡ false → (a && b) ≡ false
first_false true b e = cc
first_false false b e = refl

second_false : (a b : Bool) → b ≡ false → (a && b) ≡ false
second_false true b e = e
second_false false b e = refl

-- keys that are inserted, where no two are equal and none is there yet, are put after the others
module _ {X T : Type 0} (eq : T → T → Bool) (f : X → T) where
  abbrev pub are_apart : List X → Bool
  are_apart [] = true
  are_apart (x ∷ xs) = not (list_any (λ (y : X). eq (f y) (f x)) xs) && are_apart xs

  still_new : (x : X) (xs : List X) (keys : List T) → list_any (λ (y : X). eq (f y) (f x)) xs ≡ false
      → list_any (λ (y : X). list_any (eq (f y)) keys) xs ≡ false → list_any (λ (y : X). list_any (eq (f y)) (keys ++ f x ∷ [])) xs ≡ false
  still_new x [] keys apart new = refl
  still_new x (y ∷ ys) keys apart new =
      let this = neither (eq (f y) (f x)) (list_any (λ (z : X). eq (f z) (f x)) ys) apart in
      let that = neither (list_any (eq (f y)) keys) (list_any (λ (z : X). list_any (eq (f z)) keys) ys) new in
      none_of _ _ (list_any-append (eq (f y)) keys (f x ∷ []) ∙ none_of _ _ that.0 (none_of _ _ this.0 refl)) (still_new x ys keys this.1 that.1)

  pub inserted : (xs : List X) (keys : List T) → are_apart xs ≡ true → list_any (λ (x : X). list_any (eq (f x)) keys) xs ≡ false
      → fold (insert_key eq) keys (map f xs) ≡ keys ++ map f xs
  inserted [] keys apart new = sym (append-nil keys)
  inserted (x ∷ xs) keys apart new =
      let this = both (not (list_any (λ (y : X). eq (f y) (f x)) xs)) (are_apart xs) apart in
      let that = neither (list_any (eq (f x)) keys) (list_any (λ (y : X). list_any (eq (f y)) keys) xs) new in
      ap (λ (b : Bool). fold (insert_key eq) (if b then keys else keys ++ f x ∷ []) (map f xs)) that.0
      ∙ inserted xs (keys ++ f x ∷ []) this.1 (still_new x xs keys (not_true _ this.0) that.1)
      ∙ append_assoc keys (f x ∷ []) (map f xs)

-- the names of the groups of a roster
names_built : (groups : List GroupSpec) → are_distinct (λ (g : GroupSpec). g.name) groups ≡ true → with_names [] groups ≡ group_names groups
names_built groups distinct =
    inserted bytes_eq (λ (g : GroupSpec). g.name) groups [] distinct (any_none (λ (g : GroupSpec). list_any (bytes_eq g.name) []) (λ (g : GroupSpec). refl) groups)

-- no two members of a group have the same two names
members_apart : (own : List ℕ) (members : List Spec) → are_distinct (λ (m : Spec). m.name) members ≡ true
    → are_apart same_names (λ (m : Spec). (own, m.name)) members ≡ true
members_apart own [] distinct = refl
members_apart own (m ∷ ms) distinct =
    let parts = both (not (list_any (λ (y : Spec). bytes_eq y.name m.name) ms)) (are_distinct (λ (y : Spec). y.name) ms) distinct in
    both_true
    (ap not (any_less (λ (y : Spec). bytes_eq y.name m.name) (λ (y : Spec). same_names (own, y.name) (own, m.name)) (λ (y : Spec). second_false (bytes_eq own own) (bytes_eq y.name m.name)) ms (not_true _ parts.0)))
    (members_apart own ms parts.1)

-- they are new where no process has the name of the group as its group's
members_new : (own : List ℕ) (members : List Spec) (done : List (List ℕ × List ℕ)) → list_any (λ (k : List ℕ × List ℕ). bytes_eq own k.0) done ≡ false
    → list_any (λ (m : Spec). list_any (same_names (own, m.name)) done) members ≡ false
members_new own members done new =
    any_none (λ (m : Spec). list_any (same_names (own, m.name)) done)
    (λ (m : Spec). any_less (λ (k : List ℕ × List ℕ). bytes_eq own k.0) (same_names (own, m.name)) (λ (k : List ℕ × List ℕ). first_false (bytes_eq own k.0) (bytes_eq m.name k.1)) done new)
    members

none_in : (name own : List ℕ) (members : List Spec) → bytes_eq name own ≡ false
    → list_any (λ (k : List ℕ × List ℕ). bytes_eq name k.0) (map (λ (m : Spec). (own, m.name)) members) ≡ false
none_in name own [] other = refl
none_in name own (m ∷ ms) other = none_of _ _ other (none_in name own ms other)

-- the groups after are still new then
others_new : (g : GroupSpec) (gs : List GroupSpec) (done : List (List ℕ × List ℕ)) → list_any (λ (h : GroupSpec). bytes_eq h.name g.name) gs ≡ false
    → list_any (λ (h : GroupSpec). list_any (λ (k : List ℕ × List ℕ). bytes_eq h.name k.0) done) gs ≡ false
    → list_any (λ (h : GroupSpec). list_any (λ (k : List ℕ × List ℕ). bytes_eq h.name k.0) (done ++ names_in g)) gs ≡ false
others_new g [] done apart new = refl
others_new g (h ∷ hs) done apart new =
    let this = neither (bytes_eq h.name g.name) (list_any (λ (x : GroupSpec). bytes_eq x.name g.name) hs) apart in
    let that = neither (list_any (λ (k : List ℕ × List ℕ). bytes_eq h.name k.0) done) (list_any (λ (x : GroupSpec). list_any (λ (k : List ℕ × List ℕ). bytes_eq x.name k.0) done) hs) new in
    none_of _ _
    (list_any-append (λ (k : List ℕ × List ℕ). bytes_eq h.name k.0) done (names_in g) ∙ none_of _ _ that.0 (none_in h.name g.name g.members this.0))
    (others_new g hs done this.1 that.1)

processes_behind : (groups : List GroupSpec) (done : List (List ℕ × List ℕ)) → are_distinct (λ (g : GroupSpec). g.name) groups ≡ true
    → are_memberships groups ≡ true → list_any (λ (g : GroupSpec). list_any (λ (k : List ℕ × List ℕ). bytes_eq g.name k.0) done) groups ≡ false
    → with_processes done groups ≡ done ++ names_of groups
processes_behind [] done distinct good new = sym (append-nil done)
processes_behind (g ∷ gs) done distinct good new =
    let apart = both (not (list_any (λ (h : GroupSpec). bytes_eq h.name g.name) gs)) (are_distinct (λ (h : GroupSpec). h.name) gs) distinct in
    let goods = both _ (are_memberships gs) good in
    let news = neither (list_any (λ (k : List ℕ × List ℕ). bytes_eq g.name k.0) done) (list_any (λ (h : GroupSpec). list_any (λ (k : List ℕ × List ℕ). bytes_eq h.name k.0) done) gs) new in
    fold-append (insert_key same_names) done (names_in g) (names_of gs)
    ∙ ap (λ (keys : List (List ℕ × List ℕ)). fold (insert_key same_names) keys (names_of gs))
    (inserted same_names (λ (m : Spec). (g.name, m.name)) g.members done (members_apart g.name g.members (both _ _ goods.0).1) (members_new g.name g.members done news.0))
    ∙ processes_behind gs (done ++ names_in g) apart.1 goods.1 (others_new g gs done (not_true _ apart.0) news.1)
    ∙ append_assoc done (names_in g) (names_of gs)

-- the names of a roster, inserted into nothing, are its names in their order
pub names_of_roster : (groups : List GroupSpec) → is_roster groups ≡ true → with_names [] groups ≡ group_names groups
names_of_roster groups r = names_built groups (both _ _ (both _ _ r).0).1

pub processes_of_roster : (groups : List GroupSpec) → is_roster groups ≡ true → with_processes [] groups ≡ names_of groups
processes_of_roster groups r =
    processes_behind groups [] (both _ _ (both _ _ r).0).1 (both _ _ r).1
    (any_none (λ (g : GroupSpec). list_any (λ (k : List ℕ × List ℕ). bytes_eq g.name k.0) []) (λ (g : GroupSpec). refl) groups)

-- the names of one group more, between these
pub names_with : (before rest : List GroupSpec) (group : GroupSpec) → is_roster (before ++ group ∷ rest) ≡ true
    → with_names (insert_key bytes_eq (with_names [] before) group.name) rest ≡ group_names (before ++ group ∷ rest)
names_with before rest group r =
    sym (fold-append (insert_key bytes_eq) [] (group_names before) (group_names (group ∷ rest)))
    ∙ ap (fold (insert_key bytes_eq) []) (sym (map-append (λ (g : GroupSpec). g.name) before (group ∷ rest)))
    ∙ names_of_roster (before ++ group ∷ rest) r

pub processes_with : (before rest : List GroupSpec) (group : GroupSpec) → is_roster (before ++ group ∷ rest) ≡ true
    → with_processes (fold (insert_key same_names) (with_processes [] before) (names_in group)) rest ≡ names_of (before ++ group ∷ rest)
processes_with before rest group r =
    sym (fold-append (insert_key same_names) (with_processes [] before) (names_in group) (names_of rest))
    ∙ sym (fold-append (insert_key same_names) [] (names_of before) (names_of (group ∷ rest)))
    ∙ ap (fold (insert_key same_names) []) (sym (flat_map-append names_in before (group ∷ rest)))
    ∙ processes_of_roster (before ++ group ∷ rest) r

-- a step of the walk through the members of a group
pub process_added : (own : List ℕ) (members : List Spec) (place : ℕ) (member : Spec) (names : List ℕ × List ℕ) (old keys new : List (List ℕ × List ℕ))
    → place < length members → member ≡ get_or members place member → names ≡ (own, member.name)
    → keys ≡ fold (insert_key same_names) old (map (λ (m : Spec). (own, m.name)) (take place members))
    → new ≡ insert_key same_names keys names
    → new ≡ fold (insert_key same_names) old (map (λ (m : Spec). (own, m.name)) (take (place + 1) members))
process_added own members place member names old keys new within read are so_far is =
    let more : take (place + 1) members ≡ take place members ++ member ∷ [] =
    take_more members place member within ∙ ap (λ (m : Spec). take place members ++ m ∷ []) (sym read) in
    is
    ∙ ap (λ (n : List ℕ × List ℕ). insert_key same_names keys n) are
    ∙ ap (λ (ks : List (List ℕ × List ℕ)). insert_key same_names ks (own, member.name)) so_far
    ∙ sym (fold-append (insert_key same_names) old (map (λ (m : Spec). (own, m.name)) (take place members)) ((own, member.name) ∷ []))
    ∙ ap (fold (insert_key same_names) old) (sym (map-append (λ (m : Spec). (own, m.name)) (take place members) (member ∷ [])))
    ∙ ap (λ (ms : List Spec). fold (insert_key same_names) old (map (λ (m : Spec). (own, m.name)) ms)) (sym more)

-- as many processes have names as there are
pub names_count : (groups : List GroupSpec) → length (names_of groups) ≡ length (processes groups)
names_count [] = refl
names_count (g ∷ gs) =
    omega (arith, length-append (names_in g) (names_of gs), length-append g.members (processes gs), names_length g.name g.members, names_count gs)

-- the names without those of the group at a place
pub names_without : (place : ℕ) (groups : List GroupSpec) → group_names (remove groups place) ≡ remove (group_names groups) place
names_without zero [] = refl
names_without (suc place) [] = refl
names_without zero (g ∷ gs) = refl
names_without (suc place) (g ∷ gs) = ap (λ (names : List (List ℕ)). g.name ∷ names) (names_without place gs)

-- what is taken out of the second of two lists
remove_behind : {X : Type 0} (xs ys : List X) (i j : ℕ) → xs ++ remove_range ys i j ≡ remove_range (xs ++ ys) (length xs + i) (length xs + j)
remove_behind [] ys i j =
    ap (λ (n : ℕ). remove_range ys n j) (let from : i ≡ 0 + i = omega arith in from)
    ∙ ap (λ (n : ℕ). remove_range ys (0 + i) n) (let to : j ≡ 0 + j = omega arith in to)
remove_behind {X = X} (x ∷ xs) ys i j =
    let from : suc (length xs + i) ≡ length (x ∷ xs) + i = omega arith in
    let to : suc (length xs + j) ≡ length (x ∷ xs) + j = omega arith in
    ap (λ (zs : List X). x ∷ zs) (remove_behind xs ys i j)
    ∙ ap (λ (n : ℕ). remove_range (x ∷ (xs ++ ys)) n (suc (length xs + j))) from
    ∙ ap (λ (n : ℕ). remove_range (x ∷ (xs ++ ys)) (length (x ∷ xs) + i) n) to

pub processes_without : (place : ℕ) (groups : List GroupSpec)
    → names_of (remove groups place) ≡ remove_range (names_of groups) (first_of place groups) (first_of place groups + length (members_at place groups))
processes_without zero [] = refl
processes_without (suc place) [] = refl
processes_without zero (g ∷ gs) =
    sym (drop-append_seam (names_in g) (names_of gs)) ∙ ap (λ (n : ℕ). drop n (names_in g ++ names_of gs)) (let size : length (names_in g) ≡ 0 + length g.members = omega (arith, names_length g.name g.members) in size)
processes_without (suc place) (g ∷ gs) =
    let size : length (names_in g) ≡ length g.members = names_length g.name g.members in
    let from : length (names_in g) + first_of place gs ≡ first_of (suc place) (g ∷ gs) = omega (arith, length-append g.members (processes (take place gs))) in
    ap (λ (names : List (List ℕ × List ℕ)). names_in g ++ names) (processes_without place gs)
    ∙ remove_behind (names_in g) (names_of gs) (first_of place gs) (first_of place gs + length (members_at place gs))
    ∙ ap (λ (n : ℕ). remove_range (names_in g ++ names_of gs) (length (names_in g) + first_of place gs) n)
    (let to : length (names_in g) + (first_of place gs + length (members_at place gs)) ≡ first_of (suc place) (g ∷ gs) + length (members_at place gs) = omega arith in to)
    ∙ ap (λ (n : ℕ). remove_range (names_in g ++ names_of gs) n (first_of (suc place) (g ∷ gs) + length (members_at place gs))) from
