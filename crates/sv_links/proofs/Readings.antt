-- What is read of an open link, from call to call.
use Rattle.std.proofs.Common.{arith, ◌≡◌, ◌≤◌, ◌<◌, ◌+◌, ℕ, zero, suc, List, [], ◌∷◌, ◌++◌, Option, Some, None, true, false, length, drop, slice_get, refl, sym, ap, ◌∙◌, subst, length-append}
use Rattle.std.proofs.lemmas.Bool.{false≢true}
use Rattle.std.proofs.lemmas.List.{drop-append-le}
use Rattle.std.proofs.lemmas.Option.{slice_get_within}
use Rattle.std.specs.Option.{IsSome, option_to_list}
use Rattle.sv_http.specs.AsksOf.{asks_of}
use Rattle.sv_http.specs.ReaderPlaces.{StandsFor as HttpStandsFor}
use Rattle.sv_http.specs.declared.ask.Ask.{Ask}
use Rattle.sv_http.specs.declared.guard.Guard.{Guard}
use Rattle.sv_http.specs.declared.reader.HttpReader.{HttpReader}
use Rattle.sv_links.specs.LinkBook.{LinkRecord, asks, begins, longer, new_link}
use Rattle.sv_links.specs.StandsFor.{Reads}
use Rattle.sv_links.specs.declared.open_link.OpenLink.{OpenLink}

-- no bytes ask nothing
no_asks : (guard : Guard) → asks_of guard [] ≡ []
unfolding asks_of
no_asks guard = refl

-- a link that begins
pub new_reads : (x : OpenLink) (guard : Guard) → HttpStandsFor x.reader [] [] → x.reader.guard ≡ guard → x.waiting.items ≡ [] → x.is_fed ≡ false
    → x.has_more ≡ true → Reads x (new_link guard)
new_reads x guard stands is waiting fed more = record {
  unended = refl;
  fed = fed;
  more = more;
  guard = is;
  reader = rw (no_asks guard) stands;
  waiting = waiting ∙ sym (no_asks guard);
  begun = omega arith;
}

longer_than : (n : ℕ) (xs ys : List Ask) → n ≤ length xs → n ≤ length (xs ++ ys)
longer_than n xs ys fits = let e = length-append xs ys in omega arith

-- a piece came
pub fed_reads : (x y : OpenLink) (r : LinkRecord) (piece : List ℕ) (told : List Ask)
    → ((stream : List ℕ) (earlier : List Ask) → HttpStandsFor x.reader stream earlier → earlier ++ told ≡ asks_of x.reader.guard (stream ++ piece))
    → ((stream : List ℕ) (earlier : List Ask) → HttpStandsFor x.reader stream earlier → HttpStandsFor y.reader (stream ++ piece) (earlier ++ told))
    → y.reader.guard ≡ x.reader.guard → y.waiting.items ≡ x.waiting.items ++ told → y.is_fed ≡ true → y.has_more ≡ x.has_more → Reads x r
    → Reads y (longer piece r)
fed_reads x y r piece told read stands guard waiting fed more k =
    let grown : asks r ++ told ≡ asks (longer piece r)
    = read r.stream (asks r) k.reader ∙ ap (λ (g : Guard). asks_of g (r.stream ++ piece)) k.guard in
    record {
      unended = k.unended;
      fed = fed;
      more = more ∙ k.more;
      guard = guard ∙ k.guard;
      reader = subst (λ (xs : List Ask). HttpStandsFor y.reader (r.stream ++ piece) xs) grown (stands r.stream (asks r) k.reader);
      waiting = waiting ∙ ap (λ (front : List Ask). front ++ told) k.waiting ∙ sym (drop-append-le r.begun (asks r) told k.begun)
          ∙ ap (λ (xs : List Ask). drop r.begun xs) grown;
      begun = subst (λ (xs : List Ask). r.begun ≤ length xs) grown (longer_than r.begun (asks r) told k.begun);
    }

-- ---- the next request

-- the first item after so many
get_drop : (n : ℕ) (xs : List Ask) → slice_get xs n ≡ slice_get (drop n xs) 0
get_drop zero xs = refl
get_drop (suc n) [] = refl
get_drop (suc n) (x ∷ xs) = get_drop n xs

-- the items after it
drop_next : (n : ℕ) (xs : List Ask) → drop 1 (drop n xs) ≡ drop (suc n) xs
drop_next zero xs = refl
drop_next (suc n) [] = refl
drop_next (suc n) (x ∷ xs) = drop_next n xs

one_more : (n : ℕ) → suc n ≡ n + 1
one_more n = omega arith

popped_first : (o : Option Ask) (xs ys : List Ask) → xs ≡ option_to_list o ++ ys → (0 < length xs → IsSome o) → o ≡ slice_get xs 0
popped_first None [] ys is some = refl
popped_first None (x ∷ xs) ys is some = absurd (false≢true (some (omega arith)))
popped_first (Some x) xs ys is some = rw is refl

-- it is what waits first
pub next_waits : (x : OpenLink) (r : LinkRecord) → Reads x r → slice_get (asks r) r.begun ≡ slice_get x.waiting.items 0
next_waits x r k = get_drop r.begun (asks r) ∙ ap (λ (xs : List Ask). slice_get xs 0) (sym k.waiting)

pub popped_ask : (x y : OpenLink) (r : LinkRecord) (o : Option Ask) → x.waiting.items ≡ option_to_list o ++ y.waiting.items
    → (0 < length x.waiting.items → IsSome o) → Reads x r → o ≡ slice_get (asks r) r.begun
popped_ask x y r o is some k = popped_first o x.waiting.items y.waiting.items is some ∙ sym (next_waits x r k)

-- one is begun
pub begun_reads : (x y : OpenLink) (r : LinkRecord) (ask : Ask) → x.waiting.items ≡ ask ∷ y.waiting.items → y.reader ≡ x.reader
    → y.is_fed ≡ x.is_fed → y.has_more ≡ x.has_more → Reads x r → Reads y (begins r)
begun_reads x y r ask is reader fed more k =
    let there : slice_get (asks r) r.begun ≡ Some ask = next_waits x r k ∙ ap (λ (xs : List Ask). slice_get xs 0) is in
    let within : r.begun < length (asks r) = slice_get_within (asks r) r.begun ask there in
    record {
      unended = k.unended;
      fed = fed ∙ k.fed;
      more = more ∙ k.more;
      guard = ap (λ (reader : HttpReader). reader.guard) reader ∙ k.guard;
      reader = rw reader k.reader;
      waiting = ap (λ (xs : List Ask). drop 1 xs) (sym is ∙ k.waiting) ∙ drop_next r.begun (asks r)
          ∙ ap (λ n. drop n (asks r)) (one_more r.begun);
      begun = omega arith;
    }
