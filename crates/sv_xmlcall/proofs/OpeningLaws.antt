-- The values that the parts of a text around.
use Rattle.std.proofs.Common.{◌≡◌, ℕ, suc, Bool, true, false, not, ◌&&◌, eqb, List, [], ◌∷◌, ◌++◌, inl, inr, refl, sym, ap, ◌∙◌, append_assoc, append-nil, ◌||◌, if◌then◌else◌}
use Rattle.std.specs.List.{list_all}
use Rattle.std.proofs.lemmas.Bool.{cases_Bool, and_parts, eqb-true, false≢true}
use Rattle.sv_xmlcall.specs.Tags.{spelling}
use Rattle.sv_xmlcall.specs.Openings.{begins, opened, deepest}
use Rattle.sv_xmlcall.specs.declared.tag.Tag.{Tag}
use Rattle.sv_xmlcall.specs.declared.tag.Tag.TheVariants as tag
use Rattle.sv_xmlcall.proofs.Fronts.{IsPart}

-- a byte of which something holds is not one of which it does not hold
pub other_than : (f : ℕ → Bool) (b c : ℕ) → f c ≡ false → f b ≡ true → eqb b c ≡ false
other_than f b c fails holds = elim (cases_Bool (eqb b c)) [
  | inl e ↦ absurd (false≢true (sym fails ∙ sym (ap f (eqb-true b c e)) ∙ holds))
  | inr e ↦ e
]

pub byte_opened : (b : ℕ) (bs : List ℕ) → eqb b 60 ≡ false → opened (b ∷ bs) ≡ opened bs
byte_opened b bs e = rw e refl

pub byte_deepest : (around b : ℕ) (bs : List ℕ) → eqb b 60 ≡ false → deepest around (b ∷ bs) ≡ deepest around bs
byte_deepest around b bs e = rw e refl

-- nowhere in these bytes does a value begin or end
abbrev calm_here : List ℕ → Bool
calm_here bs = not (begins (spelling tag.Value) bs) && (not (begins (spelling tag.NoValue) bs) && not (begins (spelling tag.EndValue) bs))

abbrev pub calm : List ℕ → Bool
calm [] = true
calm (b ∷ bs) = calm_here (b ∷ bs) && calm bs

not_false : (a : Bool) → not a ≡ true → a ≡ false
not_false false e = refl
not_false true e = cc e

unopened : (v n : Bool) (k : ℕ) → v ≡ false → n ≡ false → (if v || n then suc k else k) ≡ k
unopened v n k e f = rw (e, f) refl

undeepened : (v n e : Bool) (a b c k : ℕ) → v ≡ false → n ≡ false → e ≡ false → (if v then a else if n then b else if e then c else k) ≡ k
undeepened v n e a b c k f g h = rw (f, g, h) refl

pub calm_opened : (bs : List ℕ) → calm bs ≡ true → opened bs ≡ 0
calm_opened [] c = refl
calm_opened (b ∷ bs) c =
    let p = and_parts (calm_here (b ∷ bs)) (calm bs) c in
    let q = and_parts (not (begins (spelling tag.Value) (b ∷ bs))) (not (begins (spelling tag.NoValue) (b ∷ bs)) && not (begins (spelling tag.EndValue) (b ∷ bs))) p.0 in
    let r = and_parts (not (begins (spelling tag.NoValue) (b ∷ bs))) (not (begins (spelling tag.EndValue) (b ∷ bs))) q.1 in
    unopened (begins (spelling tag.Value) (b ∷ bs)) (begins (spelling tag.NoValue) (b ∷ bs)) (opened bs) (not_false _ q.0) (not_false _ r.0) ∙ calm_opened bs p.1

pub calm_deepest : (around : ℕ) (bs : List ℕ) → calm bs ≡ true → deepest around bs ≡ 0
calm_deepest around [] c = refl
calm_deepest around (b ∷ bs) c =
    let p = and_parts (calm_here (b ∷ bs)) (calm bs) c in
    let q = and_parts (not (begins (spelling tag.Value) (b ∷ bs))) (not (begins (spelling tag.NoValue) (b ∷ bs)) && not (begins (spelling tag.EndValue) (b ∷ bs))) p.0 in
    let r = and_parts (not (begins (spelling tag.NoValue) (b ∷ bs))) (not (begins (spelling tag.EndValue) (b ∷ bs))) q.1 in
    undeepened (begins (spelling tag.Value) (b ∷ bs)) (begins (spelling tag.NoValue) (b ∷ bs)) (begins (spelling tag.EndValue) (b ∷ bs)) _ _ _ (deepest around bs) (not_false _ q.0) (not_false _ r.0) (not_false _ r.1)
    ∙ calm_deepest around bs p.1

-- two words of which none begins the other
abbrev differ : List ℕ → List ℕ → Bool
differ [] word = false
differ (a ∷ rest) [] = false
differ (a ∷ rest) (w ∷ ws) = not (eqb w a) || differ rest ws

begins_not : (a word g : List ℕ) → differ a word ≡ true → begins a (word ++ g) ≡ false
begins_not [] word g d = cc d
begins_not (a ∷ rest) [] g d = cc d
begins_not (a ∷ rest) (w ∷ ws) g d = elim (cases_Bool (eqb w a)) [
  | inl e ↦ let f : differ rest ws ≡ true = rw e at d in rw e (begins_not rest ws g f)
  | inr e ↦ rw e refl
]

abbrev is_free : ℕ → Bool
is_free b = not (eqb b 60)

-- a word that is no tag of a value
abbrev pub is_still : List ℕ → Bool
is_still [] = true
is_still (b ∷ bs) = (differ (spelling tag.Value) (b ∷ bs) && (differ (spelling tag.NoValue) (b ∷ bs) && differ (spelling tag.EndValue) (b ∷ bs))) && list_all is_free bs

free_opened : (bs g : List ℕ) → list_all is_free bs ≡ true → opened (bs ++ g) ≡ opened g
free_opened [] g f = refl
free_opened (b ∷ bs) g f =
    let p = and_parts (is_free b) (list_all is_free bs) f in
    byte_opened b (bs ++ g) (not_false (eqb b 60) p.0) ∙ free_opened bs g p.1

free_deepest : (around : ℕ) (bs g : List ℕ) → list_all is_free bs ≡ true → deepest around (bs ++ g) ≡ deepest around g
free_deepest around [] g f = refl
free_deepest around (b ∷ bs) g f =
    let p = and_parts (is_free b) (list_all is_free bs) f in
    byte_deepest around b (bs ++ g) (not_false (eqb b 60) p.0) ∙ free_deepest around bs g p.1

pub still_opened : (word g : List ℕ) → is_still word ≡ true → opened (word ++ g) ≡ opened g
still_opened [] g s = refl
still_opened (b ∷ bs) g s =
    let p = and_parts (differ (spelling tag.Value) (b ∷ bs) && (differ (spelling tag.NoValue) (b ∷ bs) && differ (spelling tag.EndValue) (b ∷ bs))) (list_all is_free bs) s in
    let q = and_parts (differ (spelling tag.Value) (b ∷ bs)) (differ (spelling tag.NoValue) (b ∷ bs) && differ (spelling tag.EndValue) (b ∷ bs)) p.0 in
    let r = and_parts (differ (spelling tag.NoValue) (b ∷ bs)) (differ (spelling tag.EndValue) (b ∷ bs)) q.1 in
    unopened (begins (spelling tag.Value) ((b ∷ bs) ++ g)) (begins (spelling tag.NoValue) ((b ∷ bs) ++ g)) (opened (bs ++ g)) (begins_not (spelling tag.Value) (b ∷ bs) g q.0) (begins_not (spelling tag.NoValue) (b ∷ bs) g r.0)
    ∙ free_opened bs g p.1

pub still_deepest : (around : ℕ) (word g : List ℕ) → is_still word ≡ true → deepest around (word ++ g) ≡ deepest around g
still_deepest around [] g s = refl
still_deepest around (b ∷ bs) g s =
    let p = and_parts (differ (spelling tag.Value) (b ∷ bs) && (differ (spelling tag.NoValue) (b ∷ bs) && differ (spelling tag.EndValue) (b ∷ bs))) (list_all is_free bs) s in
    let q = and_parts (differ (spelling tag.Value) (b ∷ bs)) (differ (spelling tag.NoValue) (b ∷ bs) && differ (spelling tag.EndValue) (b ∷ bs)) p.0 in
    let r = and_parts (differ (spelling tag.NoValue) (b ∷ bs)) (differ (spelling tag.EndValue) (b ∷ bs)) q.1 in
    undeepened (begins (spelling tag.Value) ((b ∷ bs) ++ g)) (begins (spelling tag.NoValue) ((b ∷ bs) ++ g)) (begins (spelling tag.EndValue) ((b ∷ bs) ++ g)) _ _ _ (deepest around (bs ++ g))
    (begins_not (spelling tag.Value) (b ∷ bs) g q.0) (begins_not (spelling tag.NoValue) (b ∷ bs) g r.0) (begins_not (spelling tag.EndValue) (b ∷ bs) g r.1)
    ∙ free_deepest around bs g p.1

-- something holds of each part of a word, after these bytes
abbrev pub of_parts : (List ℕ → Bool) → List ℕ → List ℕ → Bool
of_parts f read [] = true
of_parts f read (w ∷ ws) = f read && of_parts f (read ++ w ∷ []) ws

of_part : (f : List ℕ → Bool) (read word front : List ℕ) → of_parts f read word ≡ true → IsPart front word → f (read ++ front) ≡ true
of_part f read [] [] h p = cc p.1.1
of_part f read [] (x ∷ front) h p = cc p.1.1
of_part f read (w ∷ ws) [] h p = ap f (append-nil read) ∙ (and_parts (f read) (of_parts f (read ++ w ∷ []) ws) h).0
of_part f read (w ∷ ws) (x ∷ front) h p =
    let is : x ≡ w = cc p.1.1 in
    let rest : front ++ p.0 ∷ p.1.0 ≡ ws = cc p.1.1 in
    let more = of_part f (read ++ w ∷ []) ws front (and_parts (f read) (of_parts f (read ++ w ∷ []) ws) h).1 (p.0, (p.1.0, rest)) in
    ap f (ap (λ (y : ℕ). read ++ y ∷ front) is ∙ sym (append_assoc read (w ∷ []) front)) ∙ more

pub of_tag : (f : List ℕ → Bool) (t : Tag) (front : List ℕ) → of_parts f [] (spelling t) ≡ true → IsPart front (spelling t) → f front ≡ true
of_tag f t front h p = of_part f [] (spelling t) front h p

tag_calm : (t : Tag) → of_parts calm [] (spelling t) ≡ true
tag_calm tag.Declaration = refl
tag_calm any = refl

-- a tag that breaks off opens nothing
pub part_calm : (t : Tag) (front : List ℕ) → IsPart front (spelling t) → calm front ≡ true
part_calm t front p = of_tag calm t front (tag_calm t) p
