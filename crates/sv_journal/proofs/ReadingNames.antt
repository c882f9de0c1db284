-- Names read byte by byte are the names read at once.
use Rattle.std.proofs.Common.{◌≡◌, ◌≢◌, ℕ, zero, suc, ◌-◌, ◌<◌, ◌≤◌, Bool, cond, eqb, List, [], ◌∷◌, ◌++◌, length, get_or, take, drop, Result, Ok, Err, Option, Some, None, refl, sym, ap, ◌∙◌, arith, append-nil, length-append, IsUtf8}
use Rattle.std.specs.Prelude.{slice_get}
use Rattle.std.proofs.lemmas.Bool.{eq-eqb, ne_eqb}
use Rattle.std.proofs.lemmas.List.{take_all}
use Rattle.sv_out.specs.Files.{AreRising}
use Rattle.sv_out.proofs.NamesInOrder.{rise_rising}
use Rattle.sv_letters.specs.Letters.{after}
use Rattle.sv_journal.specs.Escapes.{byte_of}
use Rattle.sv_journal.specs.Reading.{Stops, ◌>>=◌, with_first, with_front, with_item}
use Rattle.sv_journal.specs.Names.{text_byte, any_from, above_from, spaced_name_at, names_at}
use Rattle.sv_journal.specs.OrderReading.{with_items}
use Rattle.sv_journal.specs.declared.stop.Stop.{Stop}
use Rattle.sv_letters.specs.declared.letters.Letters.TheVariants.{OfText}
use Rattle.sv_letters.specs.declared.letters.Awaits.{Awaits}
use Rattle.sv_letters.specs.declared.letters.Awaits.TheVariants.{Character}
use Rattle.sv_journal.proofs.AboveLaws.{above_takes, names_take}
use Rattle.sv_journal.proofs.Counted.{joins, stops_so}
use Rattle.sv_journal.proofs.Names.{text_good}
use Rattle.sv_journal.proofs.Stages.{front_first}

-- a byte was read, and f reads the rest
byte_front : (least : ℕ) (awaits : Awaits) (bs xs new : List ℕ) (x : ℕ) (rest : List ℕ) (f : ℕ → List ℕ → Result (List ℕ × List ℕ) ℕ) → byte_of (text_byte least awaits) bs ≡ Ok (x, rest) → new ≡ xs ++ x ∷ []
    → with_front xs (byte_of (text_byte least awaits) bs >>= (λ r. with_first r.0 (f r.0 r.1))) ≡ with_front new (f x rest)
byte_front least awaits bs xs new x rest f read longer =
    ap (λ (r : Result (ℕ × List ℕ) ℕ). with_front xs (r >>= (λ r. with_first r.0 (f r.0 r.1)))) read
    ∙ front_first xs x (f x rest)
    ∙ ap (λ (l : List ℕ). with_front l (f x rest)) (sym longer)

abbrev behind : List ℕ → Awaits → ℕ → ℕ → List ℕ → Result (List ℕ × List ℕ) ℕ
behind left awaits same x rest = cond (eqb x same) (above_from left (after OfText awaits x) rest) (any_from awaits x rest)

-- the byte of the other text was read
pub tied_at : (left : List ℕ) (awaits : Awaits) (bs xs new : List ℕ) (x : ℕ) (rest : List ℕ) (all : Result (List ℕ × List ℕ) ℕ) → 1 ≤ length left
    → byte_of (text_byte (get_or left 0 0) awaits) bs ≡ Ok (x, rest) → new ≡ xs ++ x ∷ [] → x ≡ get_or left 0 0 → with_front xs (above_from left awaits bs) ≡ all
    → with_front new (above_from (take (length left - 1) (drop 1 left)) (after OfText awaits x) rest) ≡ all
tied_at [] awaits bs xs new x rest all some read longer is e = absurd (omega arith)
tied_at (same ∷ left) awaits bs xs new x rest all some read longer is e =
    ap (λ (l : List ℕ). with_front new (above_from l (after OfText awaits x) rest)) (take_all (suc (length left) - 1) left (omega arith))
    ∙ sym (byte_front same awaits bs xs new x rest (behind left awaits same) read longer
    ∙ ap (λ (t : Bool). with_front new (cond t (above_from left (after OfText awaits x) rest) (any_from awaits x rest))) (eq-eqb x same is))
    ∙ e

-- a greater byte was read
pub lifted_at : (left : List ℕ) (awaits : Awaits) (bs xs new : List ℕ) (x : ℕ) (rest : List ℕ) (all : Result (List ℕ × List ℕ) ℕ) → 1 ≤ length left
    → byte_of (text_byte (get_or left 0 0) awaits) bs ≡ Ok (x, rest) → new ≡ xs ++ x ∷ [] → x ≢ get_or left 0 0 → with_front xs (above_from left awaits bs) ≡ all
    → with_front new (any_from awaits x rest) ≡ all
lifted_at [] awaits bs xs new x rest all some read longer other e = absurd (omega arith)
lifted_at (same ∷ left) awaits bs xs new x rest all some read longer other e =
    sym (byte_front same awaits bs xs new x rest (behind left awaits same) read longer
    ∙ ap (λ (t : Bool). with_front new (cond t (above_from left (after OfText awaits x) rest) (any_from awaits x rest))) (ne_eqb x same other))
    ∙ e

-- nothing was left of the other text, and a byte was read
pub last_at : (left : List ℕ) (awaits : Awaits) (bs xs new : List ℕ) (x : ℕ) (rest : List ℕ) (all : Result (List ℕ × List ℕ) ℕ) → length left < 1
    → byte_of (text_byte 0 awaits) bs ≡ Ok (x, rest) → new ≡ xs ++ x ∷ [] → with_front xs (above_from left awaits bs) ≡ all
    → with_front new (any_from awaits x rest) ≡ all
last_at [] awaits bs xs new x rest all none read longer e = sym (byte_front 0 awaits bs xs new x rest (any_from awaits) read longer) ∙ e
last_at (same ∷ left) awaits bs xs new x rest all none read longer e = absurd (omega arith)

byte_stops : {A : Type 0} (left : ℕ) (xs : List ℕ) (r : Result A ℕ) (next : A → Result (List ℕ × List ℕ) ℕ) (all : Result (List ℕ × List ℕ) ℕ)
    → r ≡ Err left → with_front xs (r >>= next) ≡ all → all ≡ Err left
byte_stops left xs r next all stopped e = sym e ∙ ap (λ (r : Result _ ℕ). with_front xs (r >>= next)) stopped

-- no byte of the text is here
pub stops_at : (bad : ℕ) (left : List ℕ) (awaits : Awaits) (bs xs : List ℕ) (all : Result (List ℕ × List ℕ) ℕ) → 1 ≤ length left
    → byte_of (text_byte (get_or left 0 0) awaits) bs ≡ Err bad → with_front xs (above_from left awaits bs) ≡ all → all ≡ Err bad
stops_at bad [] awaits bs xs all some stopped e = absurd (omega arith)
stops_at bad (same ∷ left) awaits bs xs all some stopped e =
    byte_stops bad xs (byte_of (text_byte same awaits) bs) (λ r. with_first r.0 (behind left awaits same r.0 r.1)) all stopped e

pub stops_last : (bad : ℕ) (left : List ℕ) (awaits : Awaits) (bs xs : List ℕ) (all : Result (List ℕ × List ℕ) ℕ) → length left < 1
    → byte_of (text_byte 0 awaits) bs ≡ Err bad → with_front xs (above_from left awaits bs) ≡ all → all ≡ Err bad
stops_last bad [] awaits bs xs all none stopped e = byte_stops bad xs (byte_of (text_byte 0 awaits) bs) (λ r. with_first r.0 (any_from awaits r.0 r.1)) all stopped e
stops_last bad (same ∷ left) awaits bs xs all none stopped e = absurd (omega arith)

pub above_utf8 : (below bs v rest : List ℕ) → above_from below Character bs ≡ Ok (v, rest) → IsUtf8 v
above_utf8 below bs v rest e = text_good v (above_takes below Character bs v rest e).good

-- the last of these names
abbrev last_of : List (List ℕ) → Option (List ℕ)
last_of names = slice_get names (length names - 1)

last_pushed : (names : List (List ℕ)) (name : List ℕ) → last_of (names ++ name ∷ []) ≡ Some name
last_pushed names name =
    let size : length (names ++ name ∷ []) - 1 ≡ length names = let h = length-append names (name ∷ []) in omega arith in
    ap (slice_get (names ++ name ∷ [])) size ∙ at_end names
  where
    at_end : (front : List (List ℕ)) → slice_get (front ++ name ∷ []) (length front) ≡ Some name
    at_end [] = refl
    at_end (first ∷ front) = at_end front

-- nothing is left to read
pub names_none : (left : ℕ) (bs : List ℕ) (xs : List (List ℕ)) (all : Result (List (List ℕ) × List ℕ) ℕ) → left ≡ 0
    → with_items xs (names_at (slice_get xs (length xs - 1)) left bs) ≡ all → all ≡ Ok (xs, bs)
names_none zero bs xs all none e = sym e ∙ ap (λ ys. Ok (ys, bs)) (append-nil xs)
names_none (suc n) bs xs all none e = absurd (omega arith)

-- one more name was read
pub names_more : (left n : ℕ) (bs rest : List ℕ) (xs ys : List (List ℕ)) (x : List ℕ) (all : Result (List (List ℕ) × List ℕ) ℕ) → 0 < left → n ≡ left - 1 → ys ≡ xs ++ x ∷ []
    → spaced_name_at (slice_get xs (length xs - 1)) bs ≡ Ok (x, rest) → with_items xs (names_at (slice_get xs (length xs - 1)) left bs) ≡ all
    → with_items ys (names_at (slice_get ys (length ys - 1)) n rest) ≡ all
names_more zero n bs rest xs ys x all some fewer longer read e = absurd (omega arith)
names_more (suc m) n bs rest xs ys x all some fewer longer read e =
    let same : n ≡ m = omega arith in
    ap (λ (zs : List (List ℕ)). with_items zs (names_at (last_of zs) n rest)) longer
    ∙ ap (λ (last : Option (List ℕ)). with_items (xs ++ x ∷ []) (names_at last n rest)) (last_pushed xs x)
    ∙ ap (λ (k : ℕ). with_items (xs ++ x ∷ []) (names_at (Some x) k rest)) same
    ∙ sym (joins xs x (names_at (Some x) m rest))
    ∙ ap (λ (r : Result (List ℕ × List ℕ) ℕ). with_items xs (r >>= (λ r. with_item r.0 (names_at (Some r.0) m r.1)))) (sym read)
    ∙ e

-- the next name isn't there
pub names_stop : (stop : Stop) (left : ℕ) (bs : List ℕ) (xs : List (List ℕ)) (all : Result (List (List ℕ) × List ℕ) ℕ) → 0 < left
    → Stops stop (spaced_name_at (slice_get xs (length xs - 1)) bs) → with_items xs (names_at (slice_get xs (length xs - 1)) left bs) ≡ all → Stops stop all
names_stop stop zero bs xs all some stopped e = absurd (omega arith)
names_stop stop (suc n) bs xs all some stopped e =
    stops_so stop xs (spaced_name_at (last_of xs) bs) (λ r. with_item r.0 (names_at (Some r.0) n r.1)) all stopped e

pub names_rise : (n : ℕ) (bs : List ℕ) (xs : List (List ℕ)) (rest : List ℕ) → names_at None n bs ≡ Ok (xs, rest) → AreRising xs
names_rise n bs xs rest e = rise_rising xs (names_take None n bs xs rest e).rises
