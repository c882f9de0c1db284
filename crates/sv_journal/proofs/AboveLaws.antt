-- What a reader of names that rise has read is what they spell, and such names are read again.
use Rattle.std.proofs.Common.{◌≡◌, ◌≢◌, ℕ, zero, suc, ◌<◌, ◌≤◌, Bool, true, false, cond, ◌&&◌, eqb, ltb, leb, List, [], ◌∷◌, ◌++◌, length, Result, Ok, Option, Some, None, inl, inr, refl, sym, ap, ◌∙◌, subst, arith, append_assoc, IsUtf8}
use Rattle.std.specs.Prelude.{codes}
use Rattle.std.specs.List.{flat_map}
use Rattle.std.specs.Cmp.Lexicographic.{slice_cmp}
use Rattle.std.specs.Ordering.{nat_cmp, ordering_then, is_lt}
use Rattle.std.specs.declared.cmp.Ordering.{Ordering}
use Rattle.std.specs.declared.cmp.Ordering.TheVariants.{Less, Equal, Greater}
use Rattle.std.proofs.lemmas.Bool.{false≢true, cases_lt, cases_eq, lt-ltb, le-ltb, eq-eqb, ne_eqb, eqb-true, and_parts, and_from, ltb-true, leb-true, le-leb}
use Rattle.sv_out.specs.Rising.{is_before, rise}
use Rattle.sv_journal.specs.Spelling.{byte_spelling, bytes_spelling, token}
use Rattle.sv_letters.specs.Letters.{allows, after}
use Rattle.sv_journal.specs.Escapes.{byte_of}
use Rattle.sv_journal.specs.Reading.{◌>>=◌, with_first, with_item}
use Rattle.sv_journal.specs.Reading.Stage.{Between}
use Rattle.sv_journal.specs.JournalLine.{AreTexts, then_token}
use Rattle.sv_journal.specs.Names.{text_byte, any_from, above_from, name_at, spaced_name_at, names_at}
use Rattle.sv_letters.specs.declared.letters.Letters.TheVariants.{OfText}
use Rattle.sv_letters.specs.declared.letters.Awaits.{Awaits}
use Rattle.sv_letters.specs.declared.letters.Awaits.TheVariants.{Character}
use Rattle.sv_journal.proofs.Escapes.{OneTaken, byte_takes, byte_again}
use Rattle.sv_journal.proofs.Letters.{accepts}
use Rattle.sv_journal.proofs.LineParts.{bind_then, word_then_takes}
use Rattle.sv_journal.proofs.Names.{good_text, text_good}
use Rattle.sv_journal.proofs.Results.{ok_pair, with_item_ok}
use Rattle.sv_journal.proofs.Sharp.{plain, plain_ends}
use Rattle.sv_journal.proofs.TokenLaws.{chosen, with_first_ok, accepts_one, token_takes, token_at_takes, token_again, bytes_again, closes, ends_closes}

-- a byte of a text that isn't below another one
pub from_least : (least : ℕ) (awaits : Awaits) (b : ℕ) → text_byte least awaits b ≡ true → (least ≤ b) × (allows OfText awaits b ≡ true)
from_least least awaits b e =
    let p = and_parts (leb least b) (allows OfText awaits b) e in
    (leb-true least b p.0, p.1)

pub to_least : (least : ℕ) (awaits : Awaits) (b : ℕ) → least ≤ b → allows OfText awaits b ≡ true → text_byte least awaits b ≡ true
to_least least awaits b h a = and_from (leb least b) (allows OfText awaits b) (le-leb least b h) a

same_number : (p x : ℕ) → x ≡ p → nat_cmp p x ≡ Equal
same_number p x e = rw (le-ltb p x (omega arith), eq-eqb p x (sym e)) refl

less_number : (p x : ℕ) → p < x → nat_cmp p x ≡ Less
less_number p x h = rw (lt-ltb p x h) refl

greater_number : (p x : ℕ) → x < p → nat_cmp p x ≡ Greater
greater_number p x h = rw (le-ltb p x (omega arith), ne_eqb p x (λ e. omega arith)) refl

apart : (x same : ℕ) → eqb x same ≡ false → x ≢ same
apart x same e = λ q. false≢true (sym e ∙ eq-eqb x same q)

strictly : (same x : ℕ) → same ≤ x → eqb x same ≡ false → same < x
strictly same x low e = elim (cases_lt same x) [ inl h ↦ h | inr h ↦ absurd (apart x same e (omega arith)) ]

-- what is left of another text stands before these bytes
abbrev pub IsAbove : List ℕ → List ℕ → Type 0
IsAbove left v = slice_cmp nat_cmp left v ≡ Less

pub record AboveTaken (left : List ℕ) (awaits : Awaits) (bs v rest : List ℕ) : Type 0 where
  pub same : bs ≡ bytes_spelling v ++ rest
  pub good : accepts OfText awaits v ≡ true
  pub above : IsAbove left v

-- a byte, and then what was read after it
one_more : (left : List ℕ) (least : ℕ) (awaits : Awaits) (bs : List ℕ) (x : ℕ) (after_it w rest v : List ℕ) → OneTaken (text_byte least awaits) bs x after_it
    → after_it ≡ bytes_spelling w ++ rest → accepts OfText (after OfText awaits x) w ≡ true → v ≡ x ∷ w → IsAbove left (x ∷ w) → AboveTaken left awaits bs v rest
one_more left least awaits bs x after_it w rest v t same good is above =
    let may = from_least least awaits x t.good in
    subst (λ (v : List ℕ). AboveTaken left awaits bs v rest) (sym is) (record {
      same = t.same ∙ ap (λ (l : List ℕ). byte_spelling x ++ l) same ∙ sym (append_assoc (byte_spelling x) (bytes_spelling w) rest);
      good = accepts_one OfText awaits x w t.small may.1 good;
      above = above;
    })

pub above_takes : (left : List ℕ) (awaits : Awaits) (bs v rest : List ℕ) → above_from left awaits bs ≡ Ok (v, rest) → AboveTaken left awaits bs v rest
above_takes [] awaits bs v rest e =
    bind_then (byte_of (text_byte 0 awaits) bs) (λ r. with_first r.0 (any_from awaits r.0 r.1)) (v, rest) e (λ r is e.
    let t = byte_takes (text_byte 0 awaits) bs r.0 r.1 is in
    let w = with_first_ok r.0 (any_from awaits r.0 r.1) v rest e in
    let m = token_takes OfText (Between (after OfText awaits r.0)) r.1 w.w rest tt w.read in
    one_more [] 0 awaits bs r.0 r.1 w.w rest v t m.same m.good w.is refl)
above_takes (same ∷ left) awaits bs v rest e =
    bind_then (byte_of (text_byte same awaits) bs) (λ r. with_first r.0 (cond (eqb r.0 same) (above_from left (after OfText awaits r.0) r.1) (any_from awaits r.0 r.1))) (v, rest) e (λ r is e.
    let t = byte_takes (text_byte same awaits) bs r.0 r.1 is in
    let w = with_first_ok r.0 (cond (eqb r.0 same) (above_from left (after OfText awaits r.0) r.1) (any_from awaits r.0 r.1)) v rest e in
    elim (chosen (eqb r.0 same) _ _ _ w.read) [
      | inl p ↦
          let m = above_takes left (after OfText awaits r.0) r.1 w.w rest p.1 in
          let tied = same_number same r.0 (eqb-true r.0 same p.0) in
          one_more (same ∷ left) same awaits bs r.0 r.1 w.w rest v t m.same m.good w.is (ap (λ (o : Ordering). ordering_then o (slice_cmp nat_cmp left w.w)) tied ∙ m.above)
      | inr p ↦
          let m = token_takes OfText (Between (after OfText awaits r.0)) r.1 w.w rest tt p.1 in
          let may = from_least same awaits r.0 t.good in
          let greater = strictly same r.0 may.0 p.0 in
          one_more (same ∷ left) same awaits bs r.0 r.1 w.w rest v t m.same m.good w.is (ap (λ (o : Ordering). ordering_then o (slice_cmp nat_cmp left w.w)) (less_number same r.0 greater))
    ])

-- a byte that is spelled, and what is read after it
byte_then : (least : ℕ) (awaits : Awaits) (f : ℕ × List ℕ → Result (List ℕ × List ℕ) ℕ) (x : ℕ) (v rest : List ℕ) → x < 256 → least ≤ x → allows OfText awaits x ≡ true
    → (byte_of (text_byte least awaits) (bytes_spelling (x ∷ v) ++ rest) >>= f) ≡ f (x, bytes_spelling v ++ rest)
byte_then least awaits f x v rest small low may =
    ap (λ (l : List ℕ). byte_of (text_byte least awaits) l >>= f) (append_assoc (byte_spelling x) (bytes_spelling v) rest)
    ∙ ap (λ (r : Result (ℕ × List ℕ) ℕ). r >>= f) (byte_again (text_byte least awaits) x (bytes_spelling v ++ rest) small (to_least least awaits x low may))

pub above_again : (left : List ℕ) (awaits : Awaits) (v rest : List ℕ) → accepts OfText awaits v ≡ true → IsAbove left v → closes OfText rest ≡ true
    → above_from left awaits (bytes_spelling v ++ rest) ≡ Ok (v, rest)
above_again [] awaits [] rest good above end = cc above
above_again (same ∷ left) awaits [] rest good above end = cc above
above_again [] awaits (x ∷ v) rest good above end =
    let p = and_parts (ltb x 256 && allows OfText awaits x) (accepts OfText (after OfText awaits x) v) good in
    let q = and_parts (ltb x 256) (allows OfText awaits x) p.0 in
    byte_then 0 awaits (λ r. with_first r.0 (any_from awaits r.0 r.1)) x v rest (ltb-true x 256 q.0) (omega arith) q.1
    ∙ ap (with_first x) (bytes_again OfText (after OfText awaits x) v rest p.1 end)
above_again (same ∷ left) awaits (x ∷ v) rest good above end =
    let p = and_parts (ltb x 256 && allows OfText awaits x) (accepts OfText (after OfText awaits x) v) good in
    let q = and_parts (ltb x 256) (allows OfText awaits x) p.0 in
    let next : ℕ × List ℕ → Result (List ℕ × List ℕ) ℕ = λ r. with_first r.0 (cond (eqb r.0 same) (above_from left (after OfText awaits r.0) r.1) (any_from awaits r.0 r.1)) in
    elim (cases_lt same x) [
      | inl h ↦
          byte_then same awaits next x v rest (ltb-true x 256 q.0) (omega arith) q.1
          ∙ ap (λ (t : Bool). with_first x (cond t (above_from left (after OfText awaits x) (bytes_spelling v ++ rest)) (any_from awaits x (bytes_spelling v ++ rest)))) (ne_eqb x same (λ e. omega arith))
          ∙ ap (with_first x) (bytes_again OfText (after OfText awaits x) v rest p.1 end)
      | inr h ↦ elim (cases_eq x same) [
        | inl is ↦
            let further : IsAbove left v = sym (ap (λ (o : Ordering). ordering_then o (slice_cmp nat_cmp left v)) (same_number same x is)) ∙ above in
            byte_then same awaits next x v rest (ltb-true x 256 q.0) (omega arith) q.1
            ∙ ap (λ (t : Bool). with_first x (cond t (above_from left (after OfText awaits x) (bytes_spelling v ++ rest)) (any_from awaits x (bytes_spelling v ++ rest)))) (eq-eqb x same is)
            ∙ ap (with_first x) (above_again left (after OfText awaits x) v rest p.1 further end)
        | inr not_same ↦
            let lower : x < same = elim (cases_lt x same) [ inl l ↦ l | inr l ↦ absurd (not_same (omega arith)) ] in
            cc (sym (ap (λ (o : Ordering). ordering_then o (slice_cmp nat_cmp left v)) (greater_number same x lower)) ∙ above)
      ]
    ]

-- names
abbrev pub is_above : Option (List ℕ) → List ℕ → Bool
is_above None v = true
is_above (Some below) v = is_lt (slice_cmp nat_cmp below v)

pub record NameTaken (below : Option (List ℕ)) (bs v rest : List ℕ) : Type 0 where
  pub same : bs ≡ token v ++ rest
  pub good : IsUtf8 v
  pub above : is_above below v ≡ true

above_nonempty : (below bs v rest : List ℕ) → AboveTaken below Character bs v rest → NameTaken (Some below) bs v rest
above_nonempty [] bs [] rest t = cc t.above
above_nonempty (b ∷ below) bs [] rest t = cc t.above
above_nonempty below bs (x ∷ v) rest t = record { same = t.same; good = text_good (x ∷ v) t.good; above = ap is_lt t.above }

pub name_takes : (below : Option (List ℕ)) (bs v rest : List ℕ) → name_at below bs ≡ Ok (v, rest) → NameTaken below bs v rest
name_takes None bs v rest e = let t = token_at_takes OfText bs v rest e in record { same = t.same; good = text_good v t.good; above = refl }
name_takes (Some below) bs v rest e = above_nonempty below bs v rest (above_takes below Character bs v rest e)

less : (o : Ordering) → is_lt o ≡ true → o ≡ Less
less Less e = refl
less Equal e = cc e
less Greater e = cc e

token_above : (below v rest : List ℕ) → IsUtf8 v → IsAbove below v → closes OfText rest ≡ true → above_from below Character (token v ++ rest) ≡ Ok (v, rest)
token_above [] [] rest good above end = cc above
token_above (b ∷ below) [] rest good above end = cc above
token_above below (x ∷ v) rest good above end = above_again below Character (x ∷ v) rest (good_text (x ∷ v) good) above end

pub name_again : (below : Option (List ℕ)) (v rest : List ℕ) → IsUtf8 v → is_above below v ≡ true → plain rest ≡ true → name_at below (token v ++ rest) ≡ Ok (v, rest)
name_again None v rest good above follows = token_again OfText v rest (good_text v good) (plain_ends rest follows)
name_again (Some below) v rest good above follows =
    token_above below v rest good (less (slice_cmp nat_cmp below v) above) (ends_closes OfText rest (plain_ends rest follows))

-- the first of these stands above the name before it, if there are both
abbrev pub begin_above : Option (List ℕ) → List (List ℕ) → Bool
begin_above below [] = true
begin_above below (x ∷ xs) = is_above below x

pub begin_is_before : (x : List ℕ) (xs : List (List ℕ)) → begin_above (Some x) xs ≡ is_before x xs
begin_is_before x [] = refl
begin_is_before x (y ∷ ys) = refl

pub record NamesTaken (below : Option (List ℕ)) (n : ℕ) (bs : List ℕ) (xs : List (List ℕ)) (rest : List ℕ) : Type 0 where
  pub same : bs ≡ flat_map then_token xs ++ rest
  pub count : length xs ≡ n
  pub texts : AreTexts xs
  pub begin : begin_above below xs ≡ true
  pub rises : rise xs ≡ true

pub names_take : (below : Option (List ℕ)) (n : ℕ) (bs : List ℕ) (xs : List (List ℕ)) (rest : List ℕ) → names_at below n bs ≡ Ok (xs, rest) → NamesTaken below n bs xs rest
names_take below zero bs xs rest e =
    let p = ok_pair {A = List (List ℕ)} [] xs bs rest e in
    subst (λ (xs : List (List ℕ)). NamesTaken below zero bs xs rest) p.0 (record { same = p.1; count = refl; texts = tt; begin = refl; rises = refl })
names_take below (suc n) bs xs rest e =
    bind_then (spaced_name_at below bs) (λ r. with_item r.0 (names_at (Some r.0) n r.1)) (xs, rest) e (λ r is e.
    word_then_takes (codes " ") (name_at below) bs r is (λ rest2 begins named.
    let first = name_takes below rest2 r.0 r.1 named in
    let split = with_item_ok r.0 (names_at (Some r.0) n r.1) xs rest e in
    let more = names_take (Some r.0) n r.1 split.others rest split.read in
    subst (λ (xs : List (List ℕ)). NamesTaken below (suc n) bs xs rest) (sym split.is) (record {
      same = begins
          ∙ ap (λ (l : List ℕ). codes " " ++ l) (first.same ∙ ap (λ (l : List ℕ). token r.0 ++ l) more.same)
          ∙ sym (append_assoc (then_token r.0) (flat_map then_token split.others) rest);
      count = ap suc more.count;
      texts = (first.good, more.texts);
      begin = first.above;
      rises = and_from (is_before r.0 split.others) (rise split.others) (sym (begin_is_before r.0 split.others) ∙ more.begin) more.rises;
    })))

pub names_plain : (xs : List (List ℕ)) (rest : List ℕ) → plain rest ≡ true → plain (flat_map then_token xs ++ rest) ≡ true
names_plain [] rest follows = follows
names_plain (x ∷ xs) rest follows = ap plain (append_assoc (then_token x) (flat_map then_token xs) rest)

pub names_again : (below : Option (List ℕ)) (xs : List (List ℕ)) (rest : List ℕ) → AreTexts xs → begin_above below xs ≡ true → rise xs ≡ true → plain rest ≡ true
    → names_at below (length xs) (flat_map then_token xs ++ rest) ≡ Ok (xs, rest)
names_again below [] rest texts begin rises follows = refl
names_again below (x ∷ xs) rest texts begin rises follows =
    let p = and_parts (is_before x xs) (rise xs) rises in
    ap (names_at below (suc (length xs))) (append_assoc (then_token x) (flat_map then_token xs) rest)
    ∙ ap (λ (r : Result (List ℕ × List ℕ) ℕ). r >>= (λ r. with_item r.0 (names_at (Some r.0) (length xs) r.1)))
    (name_again below x (flat_map then_token xs ++ rest) texts.0 begin (names_plain xs rest follows))
    ∙ ap (with_item x) (names_again (Some x) xs rest texts.1 (begin_is_before x xs ∙ p.0) p.1 follows)
