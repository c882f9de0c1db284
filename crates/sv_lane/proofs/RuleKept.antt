-- Each step of a lane keeps its rule.
use Rattle.std.proofs.Common.{◌≡◌, ◌≢◌, ℕ, suc, ◌+◌, ◌-◌, ◌<◌, ◌≤◌, List, [], ◌∷◌, ◌++◌, length, set, sym, refl, ap, ◌∙◌, subst, ⊎_elim, arith, append_assoc, append-nil, length-append, Some, None}
use Rattle.std.proofs.lemmas.List.{length-map}
use Rattle.std.proofs.Math.ListN.{get_or-append}
use Rattle.std.proofs.Math.Seq.{get_or-append_seam}
use Rattle.std.proofs.lemmas.Option.{none-some}
use mathlib.Core.Option.{some, some-ne-none}
use native.Mathlib.Decide.{dec_le, ℕ_discrete}
use lib.ListN.{get_elem?}
use Rattle.atomic_table.proofs.Lists.{at_set}
use Rattle.crossbeam_channel.specs.Fifo.{Pushes, Pops, Forks, Merges, Learns}
use Rattle.sv_lane.proofs.Put.{put, put-same, put-other}
use Rattle.sv_lane.proofs.Passes.{Each, each_set, each_more}
use Rattle.sv_lane.proofs.Seated.{of_seat-append, of_seat-same, of_seat-other, items_of-append, begins, no_items, get_or-behind}
use Rattle.sv_lane.specs.LaneRule.{Account, AreClosed, Fits, LaneRule}
use Rattle.sv_lane.specs.Order.{of_seat, items_of, IsInOrder, posted_by}
use Rattle.sv_lane.specs.declared.role.Role.{Role}
use Rattle.sv_lane.specs.declared.role.Role.TheVariants.{Opening, Seating, Posting, Taking, Finishing, Spent}

module _ {T : Type 0} where
  -- the first pass alone, of an empty channel
  pub opened : LaneRule {T = T} [] (Opening ∷ [])
  opened = let a : Account T = record { room = 0; made = 0; seating = 0; taking = 0; holder = λ _. None; posted = λ _. []; taken = []; held = [] } in record {
    account = a;
    channel = refl;
    within = omega arith;
    in_order = λ seat. refl;
    unmade = λ seat _. refl;
    each = each_more (Fits a) [] Opening (refl, refl, refl, refl) (λ pass role at. absurd (some-ne-none role (sym at)));
  }

  -- Opening: the first pass becomes the taker's, and the pass of `Seats` comes

  opens_others : (a : Account T) (pass room new : ℕ) → a.seating ≡ pass → a.taking ≡ pass → a.made ≡ 0 → (j : ℕ) (u : Role T) → j ≢ pass → Fits a j u → Fits (record a { room = room; seating = new; taken = [] }) j u
  opens_others a pass room new s t none j Opening other fits = absurd (other (fits.0 ∙ s))
  opens_others a pass room new s t none j (Seating r made closed) other fits = absurd (other (fits.0 ∙ s))
  opens_others a pass room new s t none j (Posting r seat posted) other fits = let less = fits.2 in absurd (omega arith)
  opens_others a pass room new s t none j (Taking r taken) other fits = absurd (other (fits.0 ∙ t))
  opens_others a pass room new s t none j (Finishing closed taken left) other fits = absurd (other (fits.0 ∙ s))
  opens_others a pass room new s t none j Spent other fits = tt

  pub opens : (pass room : ℕ) → Forks {T = T} LaneRule pass Opening (Taking room []) (Seating room 0 [])
  opens pass room items roles rule at =
      let a = rule.account in let mine = rule.each pass Opening at in let there = set roles pass (Taking room []) in
      let b : Account T = record a { room = room; seating = length there; taken = [] } in
      let none : items ≡ [] = sym rule.channel ∙ ap items_of mine.3 in let first = mine.2 in record {
        account = b;
        channel = rule.channel;
        within = subst (λ (l : List T). length l ≤ room) (sym none) (omega arith);
        in_order = λ seat. ap (of_seat seat) mine.3 ∙ sym (rule.unmade seat (omega arith));
        unmade = rule.unmade;
        each = each_more (Fits b) there (Seating room 0 []) (refl, refl, sym mine.2, omega arith, λ seat less. absurd (omega arith))
            (each_set (Fits b) roles pass (Taking room []) (mine.1, refl, refl) (λ j u other e. opens_others a pass room (length there) (sym mine.0) (sym mine.1) mine.2 j u other (rule.each j u e)));
      }

  -- Posting

  closed_apart : (a : Account T) (closed : List (List T)) (seat pass : ℕ) → a.holder seat ≡ Some pass → AreClosed a closed → (k : ℕ) → k < length closed → k ≢ seat
  closed_apart a closed seat pass mine are k less same = none-some pass (sym (are k less).0 ∙ ap a.holder same ∙ mine)

  seat_apart : (a : Account T) (seat pass k j : ℕ) → a.holder seat ≡ Some pass → a.holder k ≡ Some j → j ≢ pass → k ≢ seat
  seat_apart a seat pass k j mine theirs other same = other (let both : Some j ≡ Some pass = sym theirs ∙ ap a.holder same ∙ mine in cc)

  posts_others : (a : Account T) (pass seat : ℕ) (list : List T) (held : List (ℕ × T)) → a.holder seat ≡ Some pass → seat < a.made → (j : ℕ) (u : Role T) → j ≢ pass → Fits a j u → Fits (record a { posted = put a.posted seat list; held = held }) j u
  posts_others a pass seat list held mine less j Opening other fits = let none = fits.2 in absurd (omega arith)
  posts_others a pass seat list held mine less j (Seating r made closed) other fits =
      (fits.0, fits.1, fits.2, fits.3, λ k within. let apart = closed_apart a closed seat pass mine fits.4 k within in ((fits.4 k within).0, put-other a.posted seat k list apart ∙ (fits.4 k within).1))
  posts_others a pass seat list held mine less j (Posting r k posted) other fits =
      (fits.0, fits.1, fits.2, fits.3 ∙ sym (put-other a.posted seat k list (seat_apart a seat pass k j mine fits.0 other)))
  posts_others a pass seat list held mine less j (Taking r taken) other fits = fits
  posts_others a pass seat list held mine less j (Finishing closed taken left) other fits = let all = fits.2 in absurd (closed_apart a closed seat pass mine fits.3 seat (omega arith) refl)
  posts_others a pass seat list held mine less j Spent other fits = tt

  order_posted : (taken held : List (ℕ × T)) (posted : ℕ → List T) (seat : ℕ) (x : T) → IsInOrder taken held posted → (k : ℕ) → Dec (k ≡ seat) → of_seat k (taken ++ (held ++ (seat, x) ∷ [])) ≡ put posted seat (posted seat ++ x ∷ []) k
  order_posted taken held posted seat x order k (yes same) = subst (λ (n : ℕ). of_seat n (taken ++ (held ++ (seat, x) ∷ [])) ≡ put posted seat (posted seat ++ x ∷ []) n) (sym same)
      (ap (of_seat seat) (sym (append_assoc taken held ((seat, x) ∷ []))) ∙ of_seat-append seat (taken ++ held) ((seat, x) ∷ []) ∙ ap (λ (l : List T). l ++ of_seat seat ((seat, x) ∷ [])) (order seat)
      ∙ ap (λ (l : List T). posted seat ++ l) (of_seat-same seat x) ∙ sym (put-same posted seat (posted seat ++ x ∷ [])))
  order_posted taken held posted seat x order k (no apart) =
      ap (of_seat k) (sym (append_assoc taken held ((seat, x) ∷ []))) ∙ of_seat-append k (taken ++ held) ((seat, x) ∷ []) ∙ ap (λ (l : List T). l ++ of_seat k ((seat, x) ∷ [])) (order k)
      ∙ ap (λ (l : List T). posted k ++ l) (of_seat-other seat k x apart) ∙ append-nil (posted k) ∙ sym (put-other posted seat k (posted seat ++ x ∷ []) apart)

  pub posts : (room pass seat : ℕ) (list : List T) (x : T) → Pushes LaneRule room pass (Posting room seat list) x (λ w. w ≡ Posting room seat (list ++ x ∷ []))
  posts room pass seat list x items roles less rule at =
      let a = rule.account in let mine = rule.each pass (Posting room seat list) at in let w : Role T = Posting room seat (list ++ x ∷ []) in
      let more : List T = a.posted seat ++ x ∷ [] in let b : Account T = record a { posted = put a.posted seat more; held = a.held ++ (seat, x) ∷ [] } in
      let fits = mine.1 in let here = mine.2 in (
        w,
        record {
          account = b;
          channel = items_of-append a.held ((seat, x) ∷ []) ∙ ap (λ (l : List T). l ++ x ∷ []) rule.channel;
          within = omega (arith, length-append items (x ∷ []));
          in_order = λ k. order_posted a.taken a.held a.posted seat x rule.in_order k (ℕ_discrete k seat);
          unmade = λ k above. put-other a.posted seat k more (λ same. absurd (omega arith)) ∙ rule.unmade k above;
          each = each_set (Fits b) roles pass w (mine.0, mine.1, mine.2, ap (λ (l : List T). l ++ x ∷ []) mine.3 ∙ sym (put-same a.posted seat more))
              (λ j u other e. posts_others a pass seat more (a.held ++ (seat, x) ∷ []) mine.0 mine.2 j u other (rule.each j u e));
        },
        refl,
      )

  -- Taking

  order_taken : (taken was held rest : List (ℕ × T)) (posted : ℕ → List T) (seat : ℕ) (x : T) → taken ≡ was → held ≡ (seat, x) ∷ rest → IsInOrder was held posted → IsInOrder (taken ++ (seat, x) ∷ []) rest posted
  order_taken taken was held rest posted seat x t h order k =
      ap (of_seat k) (append_assoc taken ((seat, x) ∷ []) rest ∙ ap (λ (l : List (ℕ × T)). l ++ (seat, x) ∷ rest) t ∙ ap (λ (l : List (ℕ × T)). was ++ l) (sym h)) ∙ order k

  takes_others : (a : Account T) (pass : ℕ) (taken held : List (ℕ × T)) → a.taking ≡ pass → (j : ℕ) (u : Role T) → j ≢ pass → Fits a j u → Fits (record a { taken = taken; held = held }) j u
  takes_others a pass taken held mine j Opening other fits = absurd (other (fits.1 ∙ mine))
  takes_others a pass taken held mine j (Seating r made closed) other fits = fits
  takes_others a pass taken held mine j (Posting r k posted) other fits = fits
  takes_others a pass taken held mine j (Taking r was) other fits = absurd (other (fits.0 ∙ mine))
  takes_others a pass taken held mine j (Finishing closed was left) other fits = absurd (other (fits.1 ∙ mine))
  takes_others a pass taken held mine j Spent other fits = tt

  pub takes : (pass room : ℕ) (taken : List (ℕ × T)) → Pops LaneRule pass (Taking room taken) (λ x w. (seat : ℕ) × (w ≡ Taking room (taken ++ (seat, x) ∷ [])))
  takes pass room taken x items roles rule at =
      let a = rule.account in let mine = rule.each pass (Taking room taken) at in let first = begins a.held x items rule.channel in
      let more : List (ℕ × T) = taken ++ (first.0, x) ∷ [] in let w : Role T = Taking room more in let b : Account T = record a { taken = more; held = first.1 } in let short = rule.within in (
        w,
        record {
          account = b;
          channel = first.3;
          within = omega arith;
          in_order = order_taken taken a.taken a.held first.1 a.posted first.0 x mine.2 first.2 rule.in_order;
          unmade = rule.unmade;
          each = each_set (Fits b) roles pass w (mine.0, mine.1, refl) (λ j u other e. takes_others a pass more first.1 (sym mine.0) j u other (rule.each j u e));
        },
        (first.0, refl),
      )

  -- A new seat

  seats_others : (a : Account T) (pass new made : ℕ) → a.seating ≡ pass → made ≡ a.made → (j : ℕ) (u : Role T) → j ≢ pass → Fits a j u → Fits (record a { made = made + 1; holder = put a.holder made (Some new) }) j u
  seats_others a pass new made mine count j Opening other fits = absurd (other (fits.0 ∙ mine))
  seats_others a pass new made mine count j (Seating r was closed) other fits = absurd (other (fits.0 ∙ mine))
  seats_others a pass new made mine count j (Posting r k posted) other fits = let less = fits.2 in
      (put-other a.holder made k (Some new) (λ same. absurd (omega arith)) ∙ fits.0, fits.1, omega arith, fits.3)
  seats_others a pass new made mine count j (Taking r taken) other fits = fits
  seats_others a pass new made mine count j (Finishing closed taken left) other fits = absurd (other (fits.0 ∙ mine))
  seats_others a pass new made mine count j Spent other fits = tt

  pub seats : (pass room made : ℕ) (closed : List (List T)) → Forks LaneRule pass (Seating room made closed) (Seating room (made + 1) closed) (Posting room made [])
  seats pass room made closed items roles rule at =
      let a = rule.account in let mine = rule.each pass (Seating room made closed) at in let there = set roles pass (Seating room (made + 1) closed) in
      let new = length there in let b : Account T = record a { made = made + 1; holder = put a.holder made (Some new) } in
      let count = mine.2 in let within = mine.3 in record {
        account = b;
        channel = rule.channel;
        within = rule.within;
        in_order = rule.in_order;
        unmade = λ k above. rule.unmade k (omega arith);
        each = each_more (Fits b) there (Posting room made []) (put-same a.holder made (Some new), mine.1, omega arith, sym (rule.unmade made (omega arith)))
            (each_set (Fits b) roles pass (Seating room (made + 1) closed)
            (mine.0, mine.1, refl, omega arith, λ k less. (put-other a.holder made k (Some new) (λ same. absurd (omega arith)) ∙ (mine.4 k less).0, (mine.4 k less).1))
            (λ j u other e. seats_others a pass new made (sym mine.0) mine.2 j u other (rule.each j u e)));
      }

  -- Taking in a poster

  -- where two passes changed, one of which is spent
  each_two : (F : ℕ → Role T → Type 0) (roles : List (Role T)) (pass : ℕ) (both : Role T) (other : ℕ) → F other Spent → F pass both → ((j : ℕ) (u : Role T) → j ≢ pass → j ≢ other → get_elem? roles j ≡ some u → F j u) → Each F (set (set roles pass both) other Spent)
  each_two F roles pass both other spent mine others = each_set F (set roles pass both) other Spent spent
      (λ j u apart e. each_set (λ k r. k ≢ other → F k r) roles pass both (λ _. mine) (λ k r here there beyond. others k r here beyond there) j u e apart)

  -- the pass that is taken in had its view before
  was_there : (roles : List (Role T)) (pass other : ℕ) (both u : Role T) → ¬ (other ≡ pass) → get_elem? (set roles pass both) other ≡ some u → get_elem? roles other ≡ some u
  was_there roles pass other both u apart at = ⊎_elim (λ (x : (other ≡ pass) × (both ≡ u)). absurd (apart x.0)) (λ (x : (other ≢ pass) × (get_elem? roles other ≡ some u)). x.1) (at_set roles pass other both u at)

  one_more_closed : (a : Account T) (closed : List (List T)) (seat : ℕ) (list : List T) → seat ≡ length closed → list ≡ a.posted seat → AreClosed a closed → (k : ℕ) → k < length (closed ++ list ∷ []) → Dec (k ≡ seat) → (put a.holder seat None k ≡ None) × (a.posted k ≡ posted_by (closed ++ list ∷ []) k)
  one_more_closed a closed seat list last is are k less (yes same) = (
    ap (put a.holder seat None) same ∙ put-same a.holder seat None,
    ap a.posted same ∙ sym is ∙ sym (get_or-append_seam closed list [] []) ∙ ap (posted_by (closed ++ list ∷ [])) (sym (same ∙ last)),
  )
  one_more_closed a closed seat list last is are k less (no apart) =
      let below : k < length closed = (let all = length-append closed (list ∷ []) in let bound : k < length closed + 1 = subst (λ (n : ℕ). k < n) all less in let ne : k ≡ length closed → ⊥ = (λ same. apart (same ∙ sym last)) in omega arith) in
      (put-other a.holder seat k None apart ∙ (are k below).0, (are k below).1 ∙ sym (get_or-append closed (list ∷ []) [] k below))

  gathers_others : (a : Account T) (pass other seat : ℕ) → a.seating ≡ pass → a.holder seat ≡ Some other → (j : ℕ) (u : Role T) → j ≢ pass → j ≢ other → Fits a j u → Fits (record a { holder = put a.holder seat None }) j u
  gathers_others a pass other seat mine theirs j Opening here there fits = absurd (here (fits.0 ∙ mine))
  gathers_others a pass other seat mine theirs j (Seating r made closed) here there fits = absurd (here (fits.0 ∙ mine))
  gathers_others a pass other seat mine theirs j (Posting r k posted) here there fits = (put-other a.holder seat k None (seat_apart a seat other k j theirs fits.0 there) ∙ fits.0, fits.1, fits.2, fits.3)
  gathers_others a pass other seat mine theirs j (Taking r taken) here there fits = fits
  gathers_others a pass other seat mine theirs j (Finishing closed taken left) here there fits = absurd (here (fits.0 ∙ mine))
  gathers_others a pass other seat mine theirs j Spent here there fits = tt

  pub gathers : (pass room made : ℕ) (closed : List (List T)) (other r seat : ℕ) (list : List T) → seat ≡ length closed → Merges LaneRule pass (Seating room made closed) other (Posting r seat list) (Seating room made (closed ++ list ∷ [])) Spent
  gathers pass room made closed other r seat list last items roles rule at apart there =
      let a = rule.account in let mine = rule.each pass (Seating room made closed) at in
      let theirs = rule.each other (Posting r seat list) (was_there roles pass other (Seating room made (closed ++ list ∷ [])) (Posting r seat list) apart there) in
      let b : Account T = record a { holder = put a.holder seat None } in let count = mine.2 in let less = theirs.2 in record {
        account = b;
        channel = rule.channel;
        within = rule.within;
        in_order = rule.in_order;
        unmade = rule.unmade;
        each = each_two (Fits b) roles pass (Seating room made (closed ++ list ∷ [])) other tt
            (mine.0, mine.1, mine.2, omega (arith, length-append closed (list ∷ [])), λ k below. one_more_closed a closed seat list last theirs.3 mine.4 k below (ℕ_discrete k seat))
            (λ j u here beyond e. gathers_others a pass other seat (sym mine.0) theirs.0 j u here beyond (rule.each j u e));
      }

  -- The pass of `Seats`, which took in all posters, is taken in

  closes_others : (a : Account T) (pass other : ℕ) → a.taking ≡ pass → a.seating ≡ other → (j : ℕ) (u : Role T) → j ≢ pass → j ≢ other → Fits a j u → Fits (record a { seating = pass }) j u
  closes_others a pass other mine theirs j Opening here there fits = absurd (here (fits.1 ∙ mine))
  closes_others a pass other mine theirs j (Seating r made closed) here there fits = absurd (there (fits.0 ∙ theirs))
  closes_others a pass other mine theirs j (Posting r k posted) here there fits = fits
  closes_others a pass other mine theirs j (Taking r taken) here there fits = absurd (here (fits.0 ∙ mine))
  closes_others a pass other mine theirs j (Finishing closed taken left) here there fits = absurd (here (fits.1 ∙ mine))
  closes_others a pass other mine theirs j Spent here there fits = tt

  pub closes : (pass room : ℕ) (taken : List (ℕ × T)) (other r made : ℕ) (closed : List (List T)) → made ≡ length closed → Merges LaneRule pass (Taking room taken) other (Seating r made closed) (Finishing closed taken room) Spent
  closes pass room taken other r made closed all items roles rule at apart there =
      let a = rule.account in let mine = rule.each pass (Taking room taken) at in
      let theirs = rule.each other (Seating r made closed) (was_there roles pass other (Finishing closed taken room) (Seating r made closed) apart there) in
      let b : Account T = record a { seating = pass } in let count = sym (ap length rule.channel) ∙ length-map a.held (λ (x : ℕ × T). x.1) in
      let short = rule.within in let room_is = mine.1 in record {
        account = b;
        channel = rule.channel;
        within = rule.within;
        in_order = rule.in_order;
        unmade = rule.unmade;
        each = each_two (Fits b) roles pass (Finishing closed taken room) other tt (refl, mine.0, sym all ∙ theirs.2, theirs.4, mine.2, omega arith)
            (λ j u here beyond e. closes_others a pass other (sym mine.0) (sym theirs.0) j u here beyond (rule.each j u e));
      }

  -- Taking what is left

  pub empties : (pass : ℕ) (closed : List (List T)) (taken : List (ℕ × T)) (left : ℕ) → Pops LaneRule pass (Finishing closed taken left) (λ x w. (seat : ℕ) × (0 < left) × (w ≡ Finishing closed (taken ++ (seat, x) ∷ []) (left - 1)))
  empties pass closed taken left x items roles rule at =
      let a = rule.account in let mine = rule.each pass (Finishing closed taken left) at in let first = begins a.held x items rule.channel in
      let more : List (ℕ × T) = taken ++ (first.0, x) ∷ [] in let w : Role T = Finishing closed more (left - 1) in let b : Account T = record a { taken = more; held = first.1 } in
      let short = rule.within in let most : suc (length first.1) ≤ left = subst (λ (l : List (ℕ × T)). length l ≤ left) first.2 mine.5 in (
        w,
        record {
          account = b;
          channel = first.3;
          within = omega arith;
          in_order = order_taken taken a.taken a.held first.1 a.posted first.0 x mine.4 first.2 rule.in_order;
          unmade = rule.unmade;
          each = each_set (Fits b) roles pass w (mine.0, mine.1, mine.2, mine.3, refl, omega arith) (λ j u other e. takes_others a pass more first.1 (sym mine.1) j u other (rule.each j u e));
        },
        (first.0, omega arith, refl),
      )

  all_posted : (a : Account T) (closed : List (List T)) → length closed ≡ a.made → AreClosed a closed → ((seat : ℕ) → a.made ≤ seat → a.posted seat ≡ []) → (k : ℕ) → Dec (length closed ≤ k) → a.posted k ≡ posted_by closed k
  all_posted a closed all are unmade k (yes above) = unmade k (omega arith) ∙ sym (get_or-behind closed k [] above)
  all_posted a closed all are unmade k (no not_above) = (are k (omega arith)).1

  -- what the pass that took in all others knows of an empty channel
  pub settles : (pass : ℕ) (closed : List (List T)) (taken : List (ℕ × T)) (left : ℕ) → Learns LaneRule pass (Finishing closed taken left) (λ items. items ≡ [] → (seat : ℕ) → of_seat seat taken ≡ posted_by closed seat)
  settles pass closed taken left items roles rule at none seat =
      let a = rule.account in let mine = rule.each pass (Finishing closed taken left) at in let empty = no_items a.held (rule.channel ∙ none) in
      ap (of_seat seat) (mine.4 ∙ sym (append-nil a.taken) ∙ ap (λ (l : List (ℕ × T)). a.taken ++ l) (sym empty)) ∙ rule.in_order seat ∙ all_posted a closed mine.2 mine.3 rule.unmade seat (dec_le (length closed) seat)
