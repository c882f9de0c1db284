-- A token of which a part came, over plain lists. Its first byte, 60, stands in it once.
use Rattle.std.proofs.Common.{◌≡◌, ◌≢◌, ◌<◌, ◌≤◌, ◌+◌, ◌⊎◌, ℕ, List, [], ◌∷◌, ◌++◌, length, take, drop, get_or, true, refl, ap, sym, ◌∙◌, inl, inr, arith, append_assoc, append-nil, length-append, length-drop}
use Rattle.std.proofs.lemmas.Bool.{and_parts}
use Rattle.std.proofs.lemmas.List.{take-append-drop}
use Rattle.std.specs.List.{list_all}
use Rattle.sv_pipes.proofs.Fronts.{no_bytes, word_more, word_outside}
use Rattle.sv_pipes.specs.CaptureCut.{Lacks, IsFirst, IsLongest}
use Rattle.sv_pipes.specs.Kept.{is_plain}

pub record IsToken (token : List ℕ) : Type 0 where
  pub body : List ℕ
  pub is : token ≡ 60 ∷ body
  pub once : list_all is_plain body ≡ true

-- how much of the token came last
pub record At (token shown : List ℕ) (matched : ℕ) : Type 0 where
  pub within : matched < length token
  pub lacks : Lacks token (shown ++ take matched token)
  pub longest : IsLongest token (shown ++ take matched token) (take matched token)

pub unsnoc : (xs : List ℕ) → (xs ≡ []) ⊎ ((init : List ℕ) × (last : ℕ) × (xs ≡ init ++ last ∷ []))
unsnoc [] = inl refl
unsnoc (x ∷ xs) = elim (unsnoc xs) [
  | inl none ↦ inr ([], x, ap (λ rest. x ∷ rest) none)
  | inr u ↦ inr (x ∷ u.0, u.1, ap (λ rest. x ∷ rest) u.2)
]

pub snoc_inj : (xs ys : List ℕ) (a b : ℕ) → xs ++ a ∷ [] ≡ ys ++ b ∷ [] → (xs ≡ ys) × (a ≡ b)
snoc_inj [] [] a b e = (refl, cc)
snoc_inj [] (y ∷ ys) a b e = absurd (omega (arith, ap length e, length-append ys (b ∷ [])))
snoc_inj (x ∷ xs) [] a b e = absurd (omega (arith, ap length e, length-append xs (a ∷ [])))
snoc_inj (x ∷ xs) (y ∷ ys) a b e =
    let heads : x ≡ y = cc in
    let tails : xs ++ a ∷ [] ≡ ys ++ b ∷ [] = cc in
    let rest = snoc_inj xs ys a b tails in
    (cc (heads, rest.0), rest.1)

-- a token that stands for the first time in one byte more ends with it
pub occurs_last : (token bytes front back : List ℕ) (byte : ℕ) → 0 < length token → Lacks token bytes
    → bytes ++ byte ∷ [] ≡ front ++ token ++ back
    → (back ≡ []) × ((init : List ℕ) × (token ≡ init ++ byte ∷ []) × (bytes ≡ front ++ init))
occurs_last token bytes front back byte some lacks same = elim (unsnoc back) [
  | inl none ↦ elim (unsnoc token) [
    | inl empty ↦ absurd (omega (arith, ap length empty))
    | inr u ↦
        let joined : bytes ++ byte ∷ [] ≡ (front ++ u.0) ++ u.1 ∷ []
        = same ∙ ap (λ b. front ++ token ++ b) none ∙ append-nil (front ++ token) ∙ ap (λ t. front ++ t) u.2
        ∙ sym (append_assoc front u.0 (u.1 ∷ [])) in
        let s = snoc_inj bytes (front ++ u.0) byte u.1 joined in
        (none, (u.0, u.2 ∙ ap (λ b. u.0 ++ b ∷ []) (sym s.1), s.0))
  ]
  | inr u ↦
      let joined : bytes ++ byte ∷ [] ≡ ((front ++ token) ++ u.0) ++ u.1 ∷ []
      = same ∙ ap (λ b. front ++ token ++ b) u.2 ∙ sym (append_assoc (front ++ token) u.0 (u.1 ∷ [])) in
      absurd (lacks front u.0 (snoc_inj bytes ((front ++ token) ++ u.0) byte u.1 joined).0)
]

-- the shorter of two tails is a tail of the longer one
pub tails : (shown held before tail : List ℕ) → shown ++ held ≡ before ++ tail → length tail ≤ length held
    → (middle : List ℕ) × (held ≡ middle ++ tail)
tails [] held before tail same short = (before, same)
tails (s ∷ ss) held [] tail same short = absurd (omega (arith, ap length same, length-append ss held))
tails (s ∷ ss) held (b ∷ bs) tail same short = let rest : ss ++ held ≡ bs ++ tail = cc in tails ss held bs tail rest short

pub once_not : (xs ys : List ℕ) → list_all is_plain (xs ++ 60 ∷ ys) ≡ true → ⊥
once_not [] ys all = let no : is_plain 60 ≡ true = (and_parts (is_plain 60) (list_all is_plain ys) all).0 in absurd (cc)
once_not (x ∷ xs) ys all = once_not xs ys (and_parts (is_plain x) (list_all is_plain (xs ++ 60 ∷ ys)) all).1

pub length_take : (token : List ℕ) (n : ℕ) → n ≤ length token → length (take n token) ≡ n
length_take token n within = omega (arith, ap length (take-append-drop n token), length-append (take n token) (drop n token), length-drop n token)

pub drop_all : (xs : List ℕ) (n : ℕ) → length xs ≤ n → drop n xs ≡ []
drop_all xs n over = no_bytes (drop n xs) (omega (arith, length-drop n xs))

-- of the token only its first byte can begin again
one_byte : (token : List ℕ) (matched byte : ℕ) (part rest middle : List ℕ) (size : ℕ) → IsToken token → matched < length token
    → (get_or token matched 0 ≡ byte → ⊥) → token ≡ part ++ byte ∷ rest → take matched token ≡ middle ++ part → size ≡ length part + 1
    → (size ≡ 1) × (byte ≡ 60)
one_byte token matched byte [] rest middle size marks within other split held sized =
    let both : byte ∷ rest ≡ 60 ∷ marks.body = sym split ∙ marks.is in
    (sized, cc)
one_byte token matched byte (y ∷ ys) rest [] size marks within other split held sized =
    absurd (word_outside token matched byte rest [] within other (ap (λ front. front ++ byte ∷ rest) held ∙ sym split ∙ sym (append-nil token)))
one_byte token matched byte (y ∷ ys) rest (z ∷ zs) size marks within other split held sized =
    let first : y ∷ (ys ++ byte ∷ rest) ≡ 60 ∷ marks.body = sym split ∙ marks.is in
    let is_first : y ≡ 60 = cc in
    let whole : z ∷ (zs ++ y ∷ (ys ++ drop matched token)) ≡ 60 ∷ marks.body
    = ap (λ back. z ∷ back) (sym (append_assoc zs (y ∷ ys) (drop matched token))) ∙ ap (λ front. front ++ drop matched token) (sym held)
    ∙ take-append-drop matched token ∙ marks.is in
    let again : marks.body ≡ zs ++ y ∷ (ys ++ drop matched token) = cc in
    absurd (once_not zs (ys ++ drop matched token)
    (ap (λ bytes. list_all is_plain bytes) (sym (again ∙ ap (λ b. zs ++ b ∷ (ys ++ drop matched token)) is_first)) ∙ marks.once))

-- nothing came of the token
pub at_start : (token : List ℕ) → 0 < length token → At token [] 0
at_start token some = record {
  within = some;
  lacks = λ front back same. absurd (omega (arith, ap length same, length-append (front ++ token) back, length-append front token));
  longest = λ front tail rest same is proper. omega (arith, ap length same, length-append front tail);
}

pub more_bytes : (token shown : List ℕ) (matched byte : ℕ) → matched < length token → get_or token matched 0 ≡ byte
    → (shown ++ take matched token) ++ byte ∷ [] ≡ shown ++ take (matched + 1) token
more_bytes token shown matched byte within same =
    append_assoc shown (take matched token) (byte ∷ []) ∙ ap (λ held. shown ++ held) (sym (word_more token matched byte within same))

-- the token goes on
pub at_more : (token shown : List ℕ) (matched byte : ℕ) → At token shown matched → matched + 1 < length token
    → get_or token matched 0 ≡ byte → At token shown (matched + 1)
at_more token shown matched byte at within same =
    let more = more_bytes token shown matched byte at.within same in
    let size = length_take token matched (omega (arith, at.within)) in
    let size_more = length_take token (matched + 1) (omega arith) in
    record {
      within = within;
      lacks = λ front back e.
          let o = occurs_last token (shown ++ take matched token) front back byte (omega (arith, at.within)) at.lacks (more ∙ e) in
          let short = at.longest front o.1.0 (byte ∷ []) o.1.2 o.1.1 (λ none. absurd (cc)) in
          absurd (omega (arith, short, size, ap length o.1.1, length-append o.1.0 (byte ∷ [])));
      longest = λ front tail rest e is proper. elim (unsnoc tail) [
        | inl none ↦ omega (arith, ap length none)
        | inr u ↦
            let joined : (shown ++ take matched token) ++ byte ∷ [] ≡ (front ++ u.0) ++ u.1 ∷ []
            = more ∙ e ∙ ap (λ t. front ++ t) u.2 ∙ sym (append_assoc front u.0 (u.1 ∷ [])) in
            let s = snoc_inj (shown ++ take matched token) (front ++ u.0) byte u.1 joined in
            let split : token ≡ u.0 ++ u.1 ∷ rest = is ∙ ap (λ t. t ++ rest) u.2 ∙ append_assoc u.0 (u.1 ∷ []) rest in
            let short = at.longest front u.0 (u.1 ∷ rest) s.0 split (λ none. absurd (cc)) in
            omega (arith, short, size, size_more, ap length u.2, length-append u.0 (u.1 ∷ []))
      ];
    }

-- the token ends
pub at_end : (token shown : List ℕ) (matched byte : ℕ) → At token shown matched → matched + 1 ≡ length token
    → get_or token matched 0 ≡ byte → (IsFirst token shown) × ((shown ++ take matched token) ++ byte ∷ [] ≡ shown ++ token)
at_end token shown matched byte at full same =
    let nothing : drop (matched + 1) token ≡ [] = drop_all token (matched + 1) (omega arith) in
    let whole : take (matched + 1) token ≡ token
    = sym (append-nil (take (matched + 1) token)) ∙ ap (λ back. take (matched + 1) token ++ back) (sym nothing) ∙ take-append-drop (matched + 1) token in
    let more = more_bytes token shown matched byte at.within same ∙ ap (λ t. shown ++ t) whole in
    ((λ front back e. (occurs_last token (shown ++ take matched token) front back byte (omega (arith, at.within)) at.lacks (more ∙ e)).0), more)

-- another byte comes: no token stands there, and of the token at most its first byte came last
broken_lacks : (token shown : List ℕ) (matched byte : ℕ) → At token shown matched → (get_or token matched 0 ≡ byte → ⊥)
    → Lacks token ((shown ++ take matched token) ++ byte ∷ [])
broken_lacks token shown matched byte at other front back e =
    let size = length_take token matched (omega (arith, at.within)) in
    let o = occurs_last token (shown ++ take matched token) front back byte (omega (arith, at.within)) at.lacks e in
    let short = at.longest front o.1.0 (byte ∷ []) o.1.2 o.1.1 (λ none. absurd (cc)) in
    let full : length o.1.0 ≡ matched = omega (arith, short, size, at.within, ap length o.1.1, length-append o.1.0 (byte ∷ [])) in
    let t = tails shown (take matched token) front o.1.0 o.1.2 short in
    let none : t.0 ≡ [] = no_bytes t.0 (omega (arith, full, size, ap length t.1, length-append t.0 o.1.0)) in
    let same : take matched token ≡ o.1.0 = t.1 ∙ ap (λ m. m ++ o.1.0) none in
    word_outside token matched byte [] [] at.within other
    (ap (λ front. front ++ byte ∷ []) same ∙ sym o.1.1 ∙ sym (append-nil token))

broken_short : (token shown : List ℕ) (matched byte : ℕ) → IsToken token → At token shown matched → (get_or token matched 0 ≡ byte → ⊥)
    → (front tail rest : List ℕ) → (shown ++ take matched token) ++ byte ∷ [] ≡ front ++ tail → token ≡ tail ++ rest → rest ≢ []
    → (length tail ≡ 0) ⊎ ((length tail ≡ 1) × (byte ≡ 60))
broken_short token shown matched byte marks at other front tail rest e is proper = elim (unsnoc tail) [
  | inl none ↦ inl (ap length none)
  | inr u ↦
      let joined : (shown ++ take matched token) ++ byte ∷ [] ≡ (front ++ u.0) ++ u.1 ∷ []
      = e ∙ ap (λ t. front ++ t) u.2 ∙ sym (append_assoc front u.0 (u.1 ∷ [])) in
      let s = snoc_inj (shown ++ take matched token) (front ++ u.0) byte u.1 joined in
      let split : token ≡ u.0 ++ byte ∷ rest
      = is ∙ ap (λ t. t ++ rest) u.2 ∙ append_assoc u.0 (u.1 ∷ []) rest ∙ ap (λ b. u.0 ++ b ∷ rest) (sym s.1) in
      let short = at.longest front u.0 (byte ∷ rest) s.0 split (λ none. absurd (cc)) in
      let t = tails shown (take matched token) front u.0 s.0 short in
      let size : length tail ≡ length u.0 + 1 = ap length u.2 ∙ length-append u.0 (u.1 ∷ []) in
      inr (one_byte token matched byte u.0 rest t.0 (length tail) marks at.within other split t.1 size)
]

-- the token begins again with this byte
pub at_again : (token shown : List ℕ) (matched byte : ℕ) → IsToken token → At token shown matched → (get_or token matched 0 ≡ byte → ⊥)
    → byte ≡ 60 → 1 < length token → (At token (shown ++ take matched token) 1) × (take 1 token ≡ byte ∷ [])
at_again token shown matched byte marks at other mark long =
    let first : take 1 token ≡ byte ∷ [] = ap (λ t. take 1 t) marks.is ∙ ap (λ b. b ∷ []) (sym mark) in
    let bytes : (shown ++ take matched token) ++ byte ∷ [] ≡ (shown ++ take matched token) ++ take 1 token
    = ap (λ held. (shown ++ take matched token) ++ held) (sym first) in (
      record {
        within = long;
        lacks = λ front back e. broken_lacks token shown matched byte at other front back (bytes ∙ e);
        longest = λ front tail rest e is proper. elim (broken_short token shown matched byte marks at other front tail rest (bytes ∙ e) is proper) [
          | inl none ↦ omega arith
          | inr one ↦ omega (arith, one.0, ap length first)
        ];
      },
      first,
    )

-- nothing is left of it
pub at_none : (token shown : List ℕ) (matched byte : ℕ) → IsToken token → At token shown matched → (get_or token matched 0 ≡ byte → ⊥)
    → (byte ≡ 60 → ⊥) → At token (shown ++ take matched token ++ byte ∷ []) 0
at_none token shown matched byte marks at other no_mark =
    let bytes : (shown ++ take matched token) ++ byte ∷ [] ≡ (shown ++ take matched token ++ byte ∷ []) ++ take 0 token
    = sym (append-nil (shown ++ take matched token ++ byte ∷ [])) in
    record {
      within = omega (arith, at.within);
      lacks = λ front back e. broken_lacks token shown matched byte at other front back (bytes ∙ e);
      longest = λ front tail rest e is proper. elim (broken_short token shown matched byte marks at other front tail rest (bytes ∙ e) is proper) [
        | inl none ↦ omega arith
        | inr one ↦ absurd (no_mark one.1)
      ];
    }
