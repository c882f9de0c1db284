-- The parts of an order line: what was read is what they spell, and each is read again.
use Rattle.std.proofs.Common.{◌≡◌, ℕ, zero, suc, ◌≤◌, true, List, [], ◌∷◌, ◌++◌, length, Result, Ok, IsUtf8, refl, sym, ap, ◌∙◌, subst, arith, append_assoc, append-nil}
use Rattle.std.specs.Prelude.{codes}
use Rattle.std.specs.List.{flat_map}
use Rattle.std.specs.Fmt.{decimal}
use Rattle.sv_letters.specs.declared.letters.Letters.{Letters}
use Rattle.sv_letters.specs.declared.letters.Letters.TheVariants.{OfText, OfBytes}
use Rattle.sv_journal.specs.Limits.{number_limit}
use Rattle.sv_journal.specs.Spelling.{token}
use Rattle.sv_journal.specs.JournalLine.{AreBytes, AreTexts, then_token, then_pair}
use Rattle.sv_journal.specs.Orders.{ArePairs}
use Rattle.sv_journal.specs.Reading.{◌>>=◌, end_at, token_at, last_token_at, with_item}
use Rattle.sv_journal.specs.ReadingLines.{number_then}
use Rattle.sv_journal.specs.OrderReading.{text_at, text_then, pair_at, items_at, counted_at, last_text_at}
use Rattle.sv_journal.proofs.InputLaws.{number_fits}
use Rattle.sv_journal.proofs.LineParts.{bind_then, end_takes, word_then_takes, number_then_takes}
use Rattle.sv_journal.proofs.Names.{good_text, text_good, good_bytes, bytes_good}
use Rattle.sv_journal.proofs.NumberLaws.{IsLimit, number_again}
use Rattle.sv_journal.proofs.Results.{ok_pair, with_item_ok}
use Rattle.sv_journal.proofs.Sharp.{plain, plain_no_digit, plain_ends}
use Rattle.sv_journal.proofs.TokenLaws.{Good, token_at_takes, token_again}

-- texts
pub record TextTaken (bs v rest : List ℕ) : Type 0 where
  pub same : bs ≡ then_token v ++ rest
  pub good : IsUtf8 v

pub text_takes : (bs v rest : List ℕ) → text_at bs ≡ Ok (v, rest) → TextTaken bs v rest
text_takes bs v rest e =
    word_then_takes (codes " ") (token_at OfText) bs (v, rest) e (λ rest2 is e.
    let t = token_at_takes OfText rest2 v rest e in
    record { same = is ∙ ap (λ (l : List ℕ). codes " " ++ l) t.same; good = text_good v t.good })

pub text_again : (v rest : List ℕ) → IsUtf8 v → plain rest ≡ true → text_at (then_token v ++ rest) ≡ Ok (v, rest)
text_again v rest good follows = token_again OfText v rest (good_text v good) (plain_ends rest follows)

pub text_then_takes : {X P : Type 0} (next : List ℕ → List ℕ → Result X ℕ) (bs : List ℕ) (x : X) → text_then next bs ≡ Ok x
    → ((v rest : List ℕ) → TextTaken bs v rest → next v rest ≡ Ok x → P) → P
text_then_takes next bs x e k = bind_then (text_at bs) (λ r. next r.0 r.1) x e (λ r is e. k r.0 r.1 (text_takes bs r.0 r.1 is) e)

pub text_goes : {X : Type 0} (next : List ℕ → List ℕ → Result X ℕ) (v rest : List ℕ) → IsUtf8 v → plain rest ≡ true → text_then next (then_token v ++ rest) ≡ next v rest
text_goes {X} next v rest good follows = ap (λ (r : Result (List ℕ × List ℕ) ℕ). r >>= (λ r. next r.0 r.1)) (text_again v rest good follows)

pub number_goes : {X : Type 0} (limit : ℕ) (next : ℕ → List ℕ → Result X ℕ) (n : ℕ) (rest : List ℕ) → IsLimit limit → n ≤ limit → plain rest ≡ true
    → number_then 0 limit next (decimal n ++ rest) ≡ next n rest
number_goes {X} limit next n rest fits high follows =
    ap (λ (r : Result (ℕ × List ℕ) ℕ). r >>= (λ r. next r.0 r.1)) (number_again 0 limit n rest fits (omega arith) (omega arith) high (plain_no_digit rest follows))

-- what one reader gives is what these texts spell, and each is read again
pub record IsItem {A : Type 0} (item_at : List ℕ → Result (A × List ℕ) ℕ) (Fits : A → Type 0) (spells : A → List ℕ) : Type 0 where
  pub takes : (bs : List ℕ) (x : A) (rest : List ℕ) → item_at bs ≡ Ok (x, rest) → (bs ≡ spells x ++ rest) × Fits x
  pub again : (x : A) (rest : List ℕ) → Fits x → plain rest ≡ true → item_at (spells x ++ rest) ≡ Ok (x, rest)
  pub begins : (x : A) (rest : List ℕ) → plain (spells x ++ rest) ≡ true

-- each of these fits
abbrev pub AllFit : {A : Type 0} → (A → Type 0) → List A → Type 0
AllFit Fits [] = Unit {0}
AllFit Fits (x ∷ xs) = Fits x × AllFit Fits xs

pub record ItemsTaken {A : Type 0} (Fits : A → Type 0) (spells : A → List ℕ) (n : ℕ) (bs : List ℕ) (xs : List A) (rest : List ℕ) : Type 0 where
  pub same : bs ≡ flat_map spells xs ++ rest
  pub count : length xs ≡ n
  pub fits : AllFit Fits xs

pub items_take : {A : Type 0} (item_at : List ℕ → Result (A × List ℕ) ℕ) (Fits : A → Type 0) (spells : A → List ℕ) → IsItem item_at Fits spells
    → (n : ℕ) (bs : List ℕ) (xs : List A) (rest : List ℕ) → items_at item_at n bs ≡ Ok (xs, rest) → ItemsTaken Fits spells n bs xs rest
items_take {A} item_at Fits spells item zero bs xs rest e =
    let p = ok_pair {A = List A} [] xs bs rest e in
    record {
      same = p.1 ∙ ap (λ (l : List A). flat_map spells l ++ rest) p.0;
      count = ap (λ (l : List A). length l) (sym p.0);
      fits = subst (AllFit Fits) p.0 tt;
    }
items_take {A} item_at Fits spells item (suc n) bs xs rest e =
    bind_then (item_at bs) (λ r. with_item r.0 (items_at item_at n r.1)) (xs, rest) e (λ r is e.
    let first = item.takes bs r.0 r.1 is in
    let split = with_item_ok r.0 (items_at item_at n r.1) xs rest e in
    let more = items_take item_at Fits spells item n r.1 split.others rest split.read in
    record {
      same = first.0 ∙ ap (λ (l : List ℕ). spells r.0 ++ l) more.same ∙ sym (append_assoc (spells r.0) (flat_map spells split.others) rest) ∙ ap (λ (l : List A). flat_map spells l ++ rest) (sym split.is);
      count = ap (λ (l : List A). length l) split.is ∙ ap suc more.count;
      fits = subst (AllFit Fits) (sym split.is) (first.1, more.fits);
    })

items_plain : {A : Type 0} (item_at : List ℕ → Result (A × List ℕ) ℕ) (Fits : A → Type 0) (spells : A → List ℕ) → IsItem item_at Fits spells
    → (xs : List A) (rest : List ℕ) → plain rest ≡ true → plain (flat_map spells xs ++ rest) ≡ true
items_plain item_at Fits spells item [] rest follows = follows
items_plain item_at Fits spells item (x ∷ xs) rest follows =
    ap plain (append_assoc (spells x) (flat_map spells xs) rest) ∙ item.begins x (flat_map spells xs ++ rest)

pub items_again : {A : Type 0} (item_at : List ℕ → Result (A × List ℕ) ℕ) (Fits : A → Type 0) (spells : A → List ℕ) → IsItem item_at Fits spells
    → (xs : List A) (rest : List ℕ) → AllFit Fits xs → plain rest ≡ true → items_at item_at (length xs) (flat_map spells xs ++ rest) ≡ Ok (xs, rest)
items_again item_at Fits spells item [] rest fits follows = refl
items_again {A} item_at Fits spells item (x ∷ xs) rest fits follows =
    ap (items_at item_at (suc (length xs))) (append_assoc (spells x) (flat_map spells xs) rest)
    ∙ ap (λ (r : Result (A × List ℕ) ℕ). r >>= (λ r. with_item r.0 (items_at item_at (length xs) r.1)))
    (item.again x (flat_map spells xs ++ rest) fits.0 (items_plain item_at Fits spells item xs rest follows))
    ∙ ap (with_item x) (items_again item_at Fits spells item xs rest fits.1 follows)

pub record CountedTaken {A : Type 0} (Fits : A → Type 0) (spells : A → List ℕ) (bs : List ℕ) (xs : List A) (rest : List ℕ) : Type 0 where
  pub same : bs ≡ (codes " " ++ decimal (length xs) ++ flat_map spells xs) ++ rest
  pub few : length xs ≤ number_limit
  pub fits : AllFit Fits xs

pub counted_takes : {A : Type 0} (item_at : List ℕ → Result (A × List ℕ) ℕ) (Fits : A → Type 0) (spells : A → List ℕ) → IsItem item_at Fits spells
    → (bs : List ℕ) (xs : List A) (rest : List ℕ) → counted_at item_at bs ≡ Ok (xs, rest) → CountedTaken Fits spells bs xs rest
counted_takes {A} item_at Fits spells item bs xs rest e =
    word_then_takes (codes " ") (number_then 0 number_limit (items_at item_at)) bs (xs, rest) e (λ rest2 is e.
    number_then_takes 0 number_limit (items_at item_at) rest2 (xs, rest) number_fits e (λ n rest3 taken e.
    let t = items_take item_at Fits spells item n rest3 xs rest e in
    record {
      same = is
          ∙ ap (λ (l : List ℕ). codes " " ++ l) (taken.same ∙ ap (λ (l : List ℕ). decimal n ++ l) t.same ∙ ap (λ (m : ℕ). decimal m ++ (flat_map spells xs ++ rest)) (sym t.count))
          ∙ regroup (codes " ") (decimal (length xs)) (flat_map spells xs) rest;
      few = subst (λ (m : ℕ). m ≤ number_limit) (sym t.count) taken.high;
      fits = t.fits;
    }))
  where
    regroup : (a b c d : List ℕ) → a ++ (b ++ (c ++ d)) ≡ (a ++ b ++ c) ++ d
    regroup a b c d = simp append_assoc

pub counted_again : {A : Type 0} (item_at : List ℕ → Result (A × List ℕ) ℕ) (Fits : A → Type 0) (spells : A → List ℕ) → IsItem item_at Fits spells
    → (xs : List A) (rest : List ℕ) → AllFit Fits xs → length xs ≤ number_limit → plain rest ≡ true
    → counted_at item_at ((codes " " ++ decimal (length xs) ++ flat_map spells xs) ++ rest) ≡ Ok (xs, rest)
counted_again item_at Fits spells item xs rest fits few follows =
    ap (counted_at item_at) (regroup (codes " ") (decimal (length xs)) (flat_map spells xs) rest)
    ∙ number_goes number_limit (items_at item_at) (length xs) (flat_map spells xs ++ rest) number_fits few (items_plain item_at Fits spells item xs rest follows)
    ∙ items_again item_at Fits spells item xs rest fits follows
  where
    regroup : (a b c d : List ℕ) → (a ++ b ++ c) ++ d ≡ a ++ (b ++ (c ++ d))
    regroup a b c d = simp append_assoc

-- the texts of a spawn
pub text_item : IsItem text_at IsUtf8 then_token
text_item = record {
  takes = λ bs x rest e. let t = text_takes bs x rest e in (t.same, t.good);
  again = text_again;
  begins = λ x rest. refl;
}

abbrev pub FitsPair : List ℕ × List ℕ → Type 0
FitsPair pair = IsUtf8 pair.0 × IsUtf8 pair.1

pair_takes : (bs : List ℕ) (x : List ℕ × List ℕ) (rest : List ℕ) → pair_at bs ≡ Ok (x, rest) → (bs ≡ then_pair x ++ rest) × FitsPair x
pair_takes bs x rest e =
    text_then_takes (λ name. text_then (λ value rest. Ok ((name, value), rest))) bs (x, rest) e (λ name rest2 first e.
    text_then_takes (λ value rest. Ok ((name, value), rest)) rest2 (x, rest) e (λ value rest3 second e.
    let p = ok_pair (name, value) x rest3 rest e in
    let whole : bs ≡ then_pair (name, value) ++ rest3 = first.same ∙ ap (λ (l : List ℕ). then_token name ++ l) second.same ∙ sym (append_assoc (then_token name) (then_token value) rest3) in (
      whole ∙ ap (λ (l : List ℕ). then_pair (name, value) ++ l) p.1 ∙ ap (λ (q : List ℕ × List ℕ). then_pair q ++ rest) p.0,
      subst FitsPair p.0 (first.good, second.good),
    )))

pair_again : (x : List ℕ × List ℕ) (rest : List ℕ) → FitsPair x → plain rest ≡ true → pair_at (then_pair x ++ rest) ≡ Ok (x, rest)
pair_again x rest fits follows =
    ap pair_at (append_assoc (then_token x.0) (then_token x.1) rest)
    ∙ text_goes (λ name. text_then (λ value rest. Ok ((name, value), rest))) x.0 (then_token x.1 ++ rest) fits.0 refl
    ∙ text_goes (λ value rest. Ok ((x.0, value), rest)) x.1 rest fits.1 follows

pub pair_item : IsItem pair_at FitsPair then_pair
pair_item = record {
  takes = pair_takes;
  again = pair_again;
  begins = λ x rest. refl;
}

pub fit_texts : (xs : List (List ℕ)) → AllFit IsUtf8 xs → AreTexts xs
fit_texts [] fits = tt
fit_texts (x ∷ xs) fits = (fits.0, fit_texts xs fits.1)

pub texts_fit : (xs : List (List ℕ)) → AreTexts xs → AllFit IsUtf8 xs
texts_fit [] fits = tt
texts_fit (x ∷ xs) fits = (fits.0, texts_fit xs fits.1)

pub fit_pairs : (xs : List (List ℕ × List ℕ)) → AllFit FitsPair xs → ArePairs xs
fit_pairs [] fits = tt
fit_pairs (x ∷ xs) fits = (fits.0, fit_pairs xs fits.1)

pub pairs_fit : (xs : List (List ℕ × List ℕ)) → ArePairs xs → AllFit FitsPair xs
pairs_fit [] fits = tt
pairs_fit (x ∷ xs) fits = (fits.0, pairs_fit xs fits.1)

-- parts that end the line
pub last_text_takes : (bs v : List ℕ) → last_text_at bs ≡ Ok v → (bs ≡ then_token v) × IsUtf8 v
unfolding last_text_at
last_text_takes bs v e =
    word_then_takes (codes " ") (last_token_at OfText) bs v e (λ rest is e.
    let t = last_takes OfText rest v e in
    (is ∙ ap (λ (l : List ℕ). codes " " ++ l) t.0, text_good v t.1))
  where
    last_takes : (letters : Letters) (bs v : List ℕ) → last_token_at letters bs ≡ Ok v → (bs ≡ token v) × Good letters v
    last_takes letters bs v e =
        bind_then (token_at letters bs) (λ r. end_at r.0 r.1) v e (λ r is e.
        let end = end_takes r.0 v r.1 e in
        let t = token_at_takes letters bs r.0 r.1 is in
        (t.same ∙ ap (λ (l : List ℕ). token r.0 ++ l) end.0 ∙ append-nil (token r.0) ∙ ap token end.1, subst (Good letters) end.1 t.good))

pub last_bytes_takes : (bs v : List ℕ) → last_token_at OfBytes bs ≡ Ok v → (bs ≡ token v) × AreBytes v
last_bytes_takes bs v e =
    bind_then (token_at OfBytes bs) (λ r. end_at r.0 r.1) v e (λ r is e.
    let end = end_takes r.0 v r.1 e in
    let t = token_at_takes OfBytes bs r.0 r.1 is in
    (t.same ∙ ap (λ (l : List ℕ). token r.0 ++ l) end.0 ∙ append-nil (token r.0) ∙ ap token end.1, subst AreBytes end.1 (bytes_good r.0 t.good)))

pub last_text_again : (v : List ℕ) → IsUtf8 v → last_text_at (then_token v) ≡ Ok v
unfolding last_text_at
last_text_again v good =
    ap (λ (l : List ℕ). last_token_at OfText l) (sym (append-nil (token v)))
    ∙ ap (λ (r : Result (List ℕ × List ℕ) ℕ). r >>= (λ r. end_at r.0 r.1)) (token_again OfText v [] (good_text v good) refl)

pub last_bytes_again : (v : List ℕ) → AreBytes v → last_token_at OfBytes (token v) ≡ Ok v
last_bytes_again v good =
    ap (λ (l : List ℕ). last_token_at OfBytes l) (sym (append-nil (token v)))
    ∙ ap (λ (r : Result (List ℕ × List ℕ) ℕ). r >>= (λ r. end_at r.0 r.1)) (token_again OfBytes v [] (good_bytes v good) refl)
