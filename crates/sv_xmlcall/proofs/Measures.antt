-- What is read within the limits, beside what is read without: it differs where the bytes that are read open too much.
use Rattle.std.proofs.Common.{◌≡◌, ℕ, suc, ◌+◌, ◌≤◌, min, max, Bool, true, false, eqb, leb, ltb, List, [], ◌∷◌, ◌++◌, length, inl, inr, refl, sym, ap, ◌∙◌, arith, append_assoc, ◌⊎◌, if◌then◌else◌}
use Rattle.std.proofs.lemmas.Bool.{cases_lt, le-ltb, lt-ltb, le-leb, lt-leb}
use Rattle.sv_xmlcall.specs.Spelled.{Spelled}
use Rattle.sv_xmlcall.specs.Openings.{opened, deepest}
use Rattle.sv_xmlcall.specs.Machine.{Limits, the_limits, Control, At, AtStart, AtDone, Frame, Verdict, Read, NotRead, TooMany, TooDeep, Step, Bad, at, goes, next_of, run, on_step, unless_many, finished}
use Rattle.sv_xmlcall.proofs.OpeningLaws.{byte_opened, byte_deepest, calm, calm_opened, calm_deepest}

-- limits that a text of so many bytes does not reach
abbrev pub far : ℕ → Limits
far n = record { nesting = n; values = n; keeping = 65536 }

-- the count of values within the limits
abbrev pub capped : ℕ → ℕ
capped count = min count 65537

-- what is come to within the limits, where so many values stand one inside the other and so many are opened
abbrev pub judged : ℕ → ℕ → Verdict → Verdict
judged deep many verdict = if ltb 32 deep then TooDeep else if ltb 65536 many then TooMany else verdict

-- a text is refused before these bytes, or is read and they are none
abbrev pub Ends : Verdict → List ℕ → Type 0
Ends verdict bad = (verdict ≡ NotRead (length bad)) ⊎ ((spelled : Spelled) × ((verdict ≡ Read spelled) × (bad ≡ [])))

-- what is come to far from the limits and within them, so many values standing around and so many being opened before
pub record Measured (far_off near : Verdict) (around count : ℕ) (bs : List ℕ) : Type 0 where
  pub front : List ℕ
  pub bad : List ℕ
  pub parts : bs ≡ front ++ bad
  pub ends : Ends far_off bad
  pub nearer : near ≡ judged (deepest around front) (count + opened front) far_off

abbrev pub Judged : ℕ → Control → List Frame → ℕ → ℕ → List ℕ → Type 0
Judged n control frames count around bs = Measured (run (far n) (at control frames count) bs) (run the_limits (at control frames (capped count)) bs) around count bs

-- what is come to after a step
abbrev pub behind : Limits → Step → ℕ → List ℕ → Verdict
behind limits step count rest = on_step step (λ s. run limits s rest) (unless_many limits count (NotRead (suc (length rest))))

pub measured_to : (far_off near far2 near2 : Verdict) (around count : ℕ) (bs : List ℕ) → far2 ≡ far_off → near2 ≡ near → Measured far_off near around count bs → Measured far2 near2 around count bs
measured_to far_off near far2 near2 around count bs f e m = record {
  front = m.front;
  bad = m.bad;
  parts = m.parts;
  ends = ends_to far_off far2 m.bad f m.ends;
  nearer = e ∙ m.nearer ∙ ap (judged (deepest around m.front) (count + opened m.front)) (sym f);
}
  where
    ends_to : (v w : Verdict) (bad : List ℕ) → w ≡ v → Ends v bad → Ends w bad
    ends_to v w bad f (inl e) = inl (f ∙ e)
    ends_to v w bad f (inr s) = inr (s.0, (f ∙ s.1.0, s.1.1))

pub far_many : (n count : ℕ) (verdict : Verdict) → count ≤ n → unless_many (far n) count verdict ≡ verdict
far_many n count verdict l = rw (le-ltb n count l) refl

near_many : (deep many count : ℕ) (verdict : Verdict) → deep ≡ 0 → many ≡ count + 0 → unless_many the_limits (capped count) verdict ≡ judged deep many verdict
near_many deep many count verdict d m = elim (cases_lt 65536 count) [
  | inl h ↦ rw (d, m, lt-ltb 65536 (min count 65537) (omega arith), lt-ltb 65536 (count + 0) (omega arith)) refl
  | inr h ↦ rw (d, m, le-ltb 65536 (min count 65537) (omega arith), le-ltb 65536 (count + 0) (omega arith)) refl
]

-- reading ends after bytes that open nothing
pub measured_calm : (n around count : ℕ) (verdict : Verdict) (bs front bad : List ℕ) → count ≤ n → bs ≡ front ++ bad → calm front ≡ true → Ends verdict bad
    → Measured (unless_many (far n) count verdict) (unless_many the_limits (capped count) verdict) around count bs
measured_calm n around count verdict bs front bad l p c e =
    measured_to verdict (unless_many the_limits (capped count) verdict) (unless_many (far n) count verdict) (unless_many the_limits (capped count) verdict) around count bs (far_many n count verdict l) refl
    (record {
      front = front;
      bad = bad;
      parts = p;
      ends = e;
      nearer = near_many (deepest around front) (count + opened front) count verdict (calm_deepest around front c) (ap (λ (x : ℕ). count + x) (calm_opened front c));
    })

pub measured_here : (n around count : ℕ) (verdict : Verdict) (bs : List ℕ) → count ≤ n → Ends verdict bs
    → Measured (unless_many (far n) count verdict) (unless_many the_limits (capped count) verdict) around count bs
measured_here n around count verdict bs l e = measured_calm n around count verdict bs [] bs l refl refl e

pub measured_byte : (far_off near : Verdict) (around count b : ℕ) (bs : List ℕ) → eqb b 60 ≡ false → Measured far_off near around count bs → Measured far_off near around count (b ∷ bs)
measured_byte far_off near around count b bs e m = record {
  front = b ∷ m.front;
  bad = m.bad;
  parts = ap (λ (x : List ℕ). b ∷ x) m.parts;
  ends = m.ends;
  nearer = m.nearer ∙ ap (λ (x : ℕ). judged x (count + opened m.front) far_off) (sym (byte_deepest around b m.front e)) ∙ ap (λ (x : ℕ). judged (deepest around (b ∷ m.front)) (count + x) far_off) (sym (byte_opened b m.front e));
}

-- after a word that opens no value
pub measured_word : (far_off near : Verdict) (around around2 count : ℕ) (word rest : List ℕ) → ((g : List ℕ) → deepest around (word ++ g) ≡ deepest around2 g) → ((g : List ℕ) → opened (word ++ g) ≡ opened g)
    → Measured far_off near around2 count rest → Measured far_off near around count (word ++ rest)
measured_word far_off near around around2 count word rest d o m = record {
  front = word ++ m.front;
  bad = m.bad;
  parts = ap (λ (x : List ℕ). word ++ x) m.parts ∙ sym (append_assoc word m.front m.bad);
  ends = m.ends;
  nearer = m.nearer ∙ ap (λ (x : ℕ). judged x (count + opened m.front) far_off) (sym (d m.front)) ∙ ap (λ (x : ℕ). judged (deepest around (word ++ m.front)) (count + x) far_off) (sym (o m.front));
}

opening : (around deep many many2 : ℕ) (far_off near near2 : Verdict) → near ≡ judged deep many far_off → many2 ≡ many → near2 ≡ (if leb (suc around) 32 then near else TooDeep)
    → near2 ≡ judged (max (suc around) deep) many2 far_off
opening around deep many many2 far_off near near2 e m f = elim (cases_lt 32 (suc around)) [
  | inl h ↦ f ∙ rw (lt-leb (suc around) 32 h, lt-ltb 32 (max (suc around) deep) (omega arith)) refl
  | inr h ↦ f ∙ rw (le-leb (suc around) 32 h) (e ∙ ap (λ (x : ℕ). judged deep x far_off) (sym m) ∙ ap (λ (x : Bool). if x then TooDeep else if ltb 65536 many2 then TooMany else far_off) (same around deep h))
]
  where
    same : (around deep : ℕ) → suc around ≤ 32 → ltb 32 deep ≡ ltb 32 (max (suc around) deep)
    same around deep h = elim (cases_lt 32 deep) [
      | inl d ↦ rw (lt-ltb 32 deep d, lt-ltb 32 (max (suc around) deep) (omega arith)) refl
      | inr d ↦ rw (le-ltb 32 deep d, le-ltb 32 (max (suc around) deep) (omega arith)) refl
    ]

-- after a word that opens a value
pub measured_opening : (far_off near near2 : Verdict) (around around2 count : ℕ) (word rest : List ℕ) → ((g : List ℕ) → deepest around (word ++ g) ≡ max (suc around) (deepest around2 g)) → ((g : List ℕ) → opened (word ++ g) ≡ suc (opened g))
    → near2 ≡ (if leb (suc around) 32 then near else TooDeep) → Measured far_off near around2 (suc count) rest → Measured far_off near2 around count (word ++ rest)
measured_opening far_off near near2 around around2 count word rest d o f m = record {
  front = word ++ m.front;
  bad = m.bad;
  parts = ap (λ (x : List ℕ). word ++ x) m.parts ∙ sym (append_assoc word m.front m.bad);
  ends = m.ends;
  nearer =
      opening around (deepest around2 m.front) (suc count + opened m.front) (count + opened (word ++ m.front)) far_off near near2 m.nearer
      (ap (λ (x : ℕ). count + x) (o m.front) ∙ omega arith) f
      ∙ ap (λ (x : ℕ). judged x (count + opened (word ++ m.front)) far_off) (sym (d m.front));
}

pub finished_ends : (control : Control) → Ends (finished control) []
finished_ends (At (AtDone spelled)) = inr (spelled, (refl, refl))
finished_ends (At (AtStart document)) = inl refl
finished_ends (At place) = inl refl
finished_ends control = inl refl

-- after the last byte
pub judged_end : (n : ℕ) (control : Control) (frames : List Frame) (count around : ℕ) → count ≤ n → Judged n control frames count around []
judged_end n control frames count around l = measured_here n around count (finished control) [] l (finished_ends control)

-- a byte with which no text goes on
pub judged_bad : (n : ℕ) (control : Control) (frames : List Frame) (count around b : ℕ) (bs : List ℕ) → count ≤ n → ((limits : Limits) (count : ℕ) → next_of limits control frames count b ≡ Bad)
    → Judged n control frames count around (b ∷ bs)
judged_bad n control frames count around b bs l e =
    measured_to (unless_many (far n) count (NotRead (suc (length bs)))) (unless_many the_limits (capped count) (NotRead (suc (length bs)))) _ _ around count (b ∷ bs)
    (ap (λ (s : Step). behind (far n) s count bs) (e (far n) count)) (ap (λ (s : Step). behind the_limits s (capped count) bs) (e the_limits (capped count)))
    (measured_here n around count (NotRead (suc (length bs))) (b ∷ bs) l (inl refl))

-- a byte that leads to another place
pub judged_step : (n : ℕ) (control control2 : Control) (frames : List Frame) (count around b : ℕ) (bs : List ℕ) → eqb b 60 ≡ false
    → ((limits : Limits) (count : ℕ) → next_of limits control frames count b ≡ goes control2 frames count)
    → Judged n control2 frames count around bs → Judged n control frames count around (b ∷ bs)
judged_step n control control2 frames count around b bs f e m =
    measured_byte _ _ around count b bs f
    (measured_to _ _ _ _ around count bs (ap (λ (s : Step). behind (far n) s count bs) (e (far n) count)) (ap (λ (s : Step). behind the_limits s (capped count) bs) (e the_limits (capped count))) m)

-- a byte that is read as at another place
pub judged_same : (n : ℕ) (control control2 : Control) (frames : List Frame) (count around b : ℕ) (bs : List ℕ)
    → ((limits : Limits) (count : ℕ) → next_of limits control frames count b ≡ next_of limits control2 frames count b)
    → Judged n control2 frames count around (b ∷ bs) → Judged n control frames count around (b ∷ bs)
judged_same n control control2 frames count around b bs e m =
    measured_to _ _ _ _ around count (b ∷ bs) (ap (λ (s : Step). behind (far n) s count bs) (e (far n) count)) (ap (λ (s : Step). behind the_limits s (capped count) bs) (e the_limits (capped count))) m
