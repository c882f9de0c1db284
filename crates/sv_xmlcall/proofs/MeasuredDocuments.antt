-- What is read within the limits, beside what is read without: a whole text, whose declaration opens nothing.
use Rattle.std.proofs.Common.{◌≡◌, ℕ, suc, ◌+◌, ◌≤◌, Bool, true, false, not, ◌&&◌, eqb, List, [], ◌∷◌, ◌++◌, length, Result, Ok, Err, inl, inr, refl, sym, ap, ◌∙◌, subst, arith, append_assoc, ◌⊎◌, le_refl}
use Rattle.std.proofs.lemmas.Bool.{cases_Bool}
use Rattle.sv_xmlcall.specs.Tags.{spelling, tag_at}
use Rattle.sv_xmlcall.specs.Atoms.{skip_white}
use Rattle.sv_xmlcall.specs.Spelled.{is_white}
use Rattle.sv_letters.specs.Letters.{allows, after}
use Rattle.sv_xmlcall.specs.Openings.{begins, opened, deepest, behind_mark, outside, amount_in, depth_in}
use Rattle.sv_xmlcall.specs.Machine.{Limits, the_limits, Document, OfCall, OfReply, begin_of, AtStart, AtDeclared, AtMethod, AtResponse, Control, At, Prolog, Verdict, NotRead, at, run, start, enter, tags_of, unless_many}
use Rattle.sv_letters.specs.declared.letters.Letters.TheVariants.{OfText}
use Rattle.sv_letters.specs.declared.letters.Awaits.{Awaits}
use Rattle.sv_letters.specs.declared.letters.Awaits.TheVariants.{Character}
use Rattle.sv_xmlcall.specs.declared.tag.Tag.{Tag}
use Rattle.sv_xmlcall.specs.declared.tag.Tag.TheVariants as tag
use Rattle.sv_xmlcall.proofs.Words.{follow}
use Rattle.sv_xmlcall.proofs.TagsBack.{IsOneOf, tag_back, run_tag}
use Rattle.sv_xmlcall.proofs.NestedBack.{tag_shorter}
use Rattle.sv_xmlcall.proofs.Fronts.{IsPart, TagBroken, tag_broken}
use Rattle.sv_xmlcall.proofs.OpeningLaws.{byte_opened, byte_deepest, part_calm, calm, calm_opened, calm_deepest, of_tag, is_still, still_opened, still_deepest}
use Rattle.sv_xmlcall.proofs.Measures.{far, judged, Ends, far_many, Judged, behind}
use Rattle.sv_xmlcall.proofs.MeasuredSteps.{measured, white_free}

-- what is come to far from the limits and within them, where the bytes that are read open so many values, so deep
pub record Weighed (depth amount : List ℕ → ℕ) (far_off near : Verdict) (bs : List ℕ) : Type 0 where
  pub front : List ℕ
  pub bad : List ℕ
  pub parts : bs ≡ front ++ bad
  pub ends : Ends far_off bad
  pub nearer : near ≡ judged (depth front) (amount front) far_off

abbrev pub Weighs : (List ℕ → ℕ) → (List ℕ → ℕ) → ℕ → Control → List ℕ → Type 0
Weighs depth amount n control bs = Weighed depth amount (run (far n) (at control [] 0) bs) (run the_limits (at control [] 0) bs) bs

weighed_behind : (depth amount depth2 amount2 : List ℕ → ℕ) (far_off near far2 near2 : Verdict) (word rest : List ℕ) → far2 ≡ far_off → near2 ≡ near
    → ((g : List ℕ) → depth (word ++ g) ≡ depth2 g) → ((g : List ℕ) → amount (word ++ g) ≡ amount2 g)
    → Weighed depth2 amount2 far_off near rest → Weighed depth amount far2 near2 (word ++ rest)
weighed_behind depth amount depth2 amount2 far_off near far2 near2 word rest f e d a m = record {
  front = word ++ m.front;
  bad = m.bad;
  parts = ap (λ (x : List ℕ). word ++ x) m.parts ∙ sym (append_assoc word m.front m.bad);
  ends = subst (λ (x : Verdict). Ends x m.bad) (sym f) m.ends;
  nearer = e ∙ m.nearer ∙ ap (λ (x : Verdict). judged (depth2 m.front) (amount2 m.front) x) (sym f)
      ∙ ap (λ (x : ℕ). judged x (amount2 m.front) far2) (sym (d m.front)) ∙ ap (λ (x : ℕ). judged (depth (word ++ m.front)) x far2) (sym (a m.front));
}

weighed_here : (n : ℕ) (depth amount : List ℕ → ℕ) (verdict : Verdict) (bs front bad : List ℕ) → bs ≡ front ++ bad → depth front ≡ 0 → amount front ≡ 0 → Ends verdict bad
    → Weighed depth amount (unless_many (far n) 0 verdict) (unless_many the_limits 0 verdict) bs
weighed_here n depth amount verdict bs front bad p d a e = record {
  front = front;
  bad = bad;
  parts = p;
  ends = subst (λ (x : Verdict). Ends x bad) (sym (far_many n 0 verdict (omega arith))) e;
  nearer = sym (far_many n 0 verdict (omega arith)) ∙ ap (λ (x : ℕ). judged x 0 (unless_many (far n) 0 verdict)) (sym d) ∙ ap (λ (x : ℕ). judged (depth front) x (unless_many (far n) 0 verdict)) (sym a);
}

weighed_text : (n : ℕ) (control : Control) (bs : List ℕ) → Judged n control [] 0 0 bs → Weighs (deepest 0) opened n control bs
weighed_text n control bs m = record {
  front = m.front;
  bad = m.bad;
  parts = m.parts;
  ends = m.ends;
  nearer = m.nearer ∙ ap (λ (x : ℕ). judged (deepest 0 m.front) x (run (far n) (at control [] 0) bs)) (from_none (opened m.front));
}
  where
    from_none : (k : ℕ) → 0 + k ≡ k
    from_none k = omega arith

-- in a declaration
abbrev marked_depth : Bool → List ℕ → ℕ
marked_depth question front = deepest 0 (behind_mark question front)

abbrev marked_amount : Bool → List ℕ → ℕ
marked_amount question front = opened (behind_mark question front)

prolog_weighed : (n : ℕ) (document : Document) (question : Bool) (awaits : Awaits) (bs : List ℕ) → length bs ≤ n → Weighs (marked_depth question) (marked_amount question) n (Prolog document question awaits) bs
prolog_weighed n document question awaits [] l = weighed_here n (marked_depth question) (marked_amount question) (NotRead 0) [] [] [] refl refl refl (inl refl)
prolog_weighed n document question awaits (b ∷ bs) l = elim (cases_Bool (question && eqb b 62)) [
  | inl c ↦
      weighed_behind (marked_depth question) (marked_amount question) (deepest 0) opened _ _ _ _ (b ∷ []) bs (ended (far n) document question awaits b bs c) (ended the_limits document question awaits b bs c)
      (λ g. ap (deepest 0) (mark_ends question b g c)) (λ g. ap opened (mark_ends question b g c))
      (weighed_text n (At (AtDeclared document)) bs (measured (length bs) n (At (AtDeclared document)) [] 0 0 bs (le_refl (length bs)) (omega arith, omega arith) (refl, refl)))
  | inr c ↦ elim (cases_Bool (allows OfText awaits b)) [
    | inl a ↦
        weighed_behind (marked_depth question) (marked_amount question) (marked_depth (eqb b 63)) (marked_amount (eqb b 63)) _ _ _ _ (b ∷ []) bs
        (goes_on (far n) document question awaits b bs c a) (goes_on the_limits document question awaits b bs c a)
        (λ g. ap (deepest 0) (mark_goes question b g c)) (λ g. ap opened (mark_goes question b g c))
        (prolog_weighed n document (eqb b 63) (after OfText awaits b) bs (omega arith))
    | inr a ↦
        rw (c, a) (weighed_here n (marked_depth question) (marked_amount question) (NotRead (suc (length bs))) (b ∷ bs) [] (b ∷ bs) refl refl refl (inl refl))
  ]
]
  where
    mark_ends : (question : Bool) (b : ℕ) (g : List ℕ) → (question && eqb b 62) ≡ true → behind_mark question (b ∷ g) ≡ g
    mark_ends question b g c = rw c refl

    mark_goes : (question : Bool) (b : ℕ) (g : List ℕ) → (question && eqb b 62) ≡ false → behind_mark question (b ∷ g) ≡ behind_mark (eqb b 63) g
    mark_goes question b g c = rw c refl

    ended : (limits : Limits) (document : Document) (question : Bool) (awaits : Awaits) (b : ℕ) (bs : List ℕ) → (question && eqb b 62) ≡ true
        → run limits (at (Prolog document question awaits) [] 0) (b ∷ bs) ≡ run limits (at (At (AtDeclared document)) [] 0) bs
    ended limits document question awaits b bs c = rw c refl

    goes_on : (limits : Limits) (document : Document) (question : Bool) (awaits : Awaits) (b : ℕ) (bs : List ℕ) → (question && eqb b 62) ≡ false → allows OfText awaits b ≡ true
        → run limits (at (Prolog document question awaits) [] 0) (b ∷ bs) ≡ run limits (at (Prolog document (eqb b 63) (after OfText awaits b)) [] 0) bs
    goes_on limits document question awaits b bs c a = rw (c, a) refl

-- no declaration begins at the front of these bytes
abbrev undeclared : List ℕ → Bool
undeclared bs = not (begins (spelling tag.Declaration) (skip_white bs))

undeclared_outside : (bs : List ℕ) → undeclared bs ≡ true → outside bs ≡ bs
undeclared_outside bs u = elim (cases_Bool (begins (spelling tag.Declaration) (skip_white bs))) [
  | inl e ↦ let f : false ≡ true = rw e at u in cc f
  | inr e ↦ rw e refl
]

white_depth : (b : ℕ) (g : List ℕ) → is_white b ≡ true → depth_in (b ∷ g) ≡ depth_in g
white_depth b g w = elim (cases_Bool (begins (spelling tag.Declaration) (skip_white g))) [
  | inl e ↦ rw (w, e) refl
  | inr e ↦ rw (w, e) (byte_deepest 0 b g (white_free b w))
]

white_amount : (b : ℕ) (g : List ℕ) → is_white b ≡ true → amount_in (b ∷ g) ≡ amount_in g
white_amount b g w = elim (cases_Bool (begins (spelling tag.Declaration) (skip_white g))) [
  | inl e ↦ rw (w, e) refl
  | inr e ↦ rw (w, e) (byte_opened b g (white_free b w))
]

-- the tags with which a text may begin
declaration_depth : (g : List ℕ) → depth_in (spelling tag.Declaration ++ g) ≡ marked_depth false g
declaration_depth g = refl

declaration_amount : (g : List ℕ) → amount_in (spelling tag.Declaration ++ g) ≡ marked_amount false g
declaration_amount g = refl

begin_outside : (document : Document) (g : List ℕ) → outside (spelling (begin_of document) ++ g) ≡ spelling (begin_of document) ++ g
begin_outside OfCall g = refl
begin_outside OfReply g = refl

begin_still : (document : Document) → is_still (spelling (begin_of document)) ≡ true
begin_still OfCall = refl
begin_still OfReply = refl

part_undeclared : (document : Document) (t : Tag) (front : List ℕ) → IsOneOf t (tags_of (AtStart document)) → IsPart front (spelling t) → undeclared front ≡ true
part_undeclared document t front (inl is) p = of_tag undeclared tag.Declaration front refl (subst (λ (x : Tag). IsPart front (spelling x)) is p)
part_undeclared OfCall t front (inr (inl is)) p = of_tag undeclared tag.MethodCall front refl (subst (λ (x : Tag). IsPart front (spelling x)) is p)
part_undeclared OfReply t front (inr (inl is)) p = of_tag undeclared tag.MethodResponse front refl (subst (λ (x : Tag). IsPart front (spelling x)) is p)
part_undeclared document t front (inr (inr o)) p = absurd o

declared_step : (limits : Limits) (document : Document) (rest : List ℕ) → behind limits (enter limits (AtStart document) tag.Declaration [] 0) 0 rest ≡ run limits (at (Prolog document false Character) [] 0) rest
declared_step limits OfCall rest = refl
declared_step limits OfReply rest = refl

abbrev Begun : ℕ → Document → Tag → List ℕ → Type 0
Begun n document t rest =
    Weighed depth_in amount_in (behind (far n) (enter (far n) (AtStart document) t [] 0) 0 rest) (behind the_limits (enter the_limits (AtStart document) t [] 0) 0 rest) (spelling t ++ rest)

begun : (n : ℕ) (document : Document) (rest : List ℕ) → length rest ≤ n → Begun n document (begin_of document) rest
begun n OfCall rest l =
    weighed_behind depth_in amount_in (deepest 0) opened _ _ _ _ (spelling tag.MethodCall) rest refl refl
    (λ g. ap (deepest 0) (begin_outside OfCall g) ∙ still_deepest 0 (spelling tag.MethodCall) g refl) (λ g. ap opened (begin_outside OfCall g) ∙ still_opened (spelling tag.MethodCall) g refl)
    (weighed_text n (At AtMethod) rest (measured (length rest) n (At AtMethod) [] 0 0 rest (le_refl (length rest)) (omega arith, omega arith) (refl, refl)))
begun n OfReply rest l =
    weighed_behind depth_in amount_in (deepest 0) opened _ _ _ _ (spelling tag.MethodResponse) rest refl refl
    (λ g. ap (deepest 0) (begin_outside OfReply g) ∙ still_deepest 0 (spelling tag.MethodResponse) g refl) (λ g. ap opened (begin_outside OfReply g) ∙ still_opened (spelling tag.MethodResponse) g refl)
    (weighed_text n (At AtResponse) rest (measured (length rest) n (At AtResponse) [] 0 0 rest (le_refl (length rest)) (omega arith, omega arith) (refl, refl)))

first_tag : (n : ℕ) (document : Document) (t : Tag) (rest : List ℕ) → length rest ≤ n → IsOneOf t (tags_of (AtStart document)) → Begun n document t rest
first_tag n document t rest l (inl is) =
    subst (λ (x : Tag). Begun n document x rest) (sym is)
    (weighed_behind depth_in amount_in (marked_depth false) (marked_amount false) _ _ _ _ (spelling tag.Declaration) rest (declared_step (far n) document rest) (declared_step the_limits document rest)
    declaration_depth declaration_amount (prolog_weighed n document false Character rest l))
first_tag n document t rest l (inr (inl is)) = subst (λ (x : Tag). Begun n document x rest) (sym is) (begun n document rest l)
first_tag n document t rest l (inr (inr o)) = absurd o

calm_depth : (bs : List ℕ) → undeclared bs ≡ true → calm bs ≡ true → depth_in bs ≡ 0
calm_depth bs u c = ap (deepest 0) (undeclared_outside bs u) ∙ calm_deepest 0 bs c

calm_amount : (bs : List ℕ) → undeclared bs ≡ true → calm bs ≡ true → amount_in bs ≡ 0
calm_amount bs u c = ap opened (undeclared_outside bs u) ∙ calm_opened bs c

first_broken : (n : ℕ) (document : Document) (bs : List ℕ) (left : ℕ) → (left ≡ length bs) ⊎ TagBroken (tags_of (AtStart document)) bs left
    → Weighed depth_in amount_in (unless_many (far n) 0 (NotRead left)) (unless_many the_limits 0 (NotRead left)) bs
first_broken n document bs left (inl l) = weighed_here n depth_in amount_in (NotRead left) bs [] bs refl refl refl (inl (ap NotRead l))
first_broken n document bs left (inr b) =
    let u = part_undeclared document b.t b.word.front b.one_of b.word.part in
    let c = part_calm b.t b.word.front b.word.part in
    weighed_here n depth_in amount_in (NotRead left) bs b.word.front b.word.bad b.word.parts (calm_depth b.word.front u c) (calm_amount b.word.front u c) (inl (ap NotRead (sym b.word.size)))

first_of : (n : ℕ) (document : Document) (bs : List ℕ) (r : Result (Tag × List ℕ) ℕ) → length bs ≤ n → tag_at (tags_of (AtStart document)) bs ≡ r
    → Weighed depth_in amount_in (follow (far n) (AtStart document) [] 0 r) (follow the_limits (AtStart document) [] 0 r) bs
first_of n document bs (Ok r) l q =
    let f = tag_back (tags_of (AtStart document)) (length bs) bs r q in
    let less = tag_shorter r.0 r.1 bs f.1 in
    subst (λ (x : List ℕ). Weighed depth_in amount_in (follow (far n) (AtStart document) [] 0 (Ok r)) (follow the_limits (AtStart document) [] 0 (Ok r)) x) (sym f.1) (first_tag n document r.0 r.1 (omega arith) f.0)
first_of n document bs (Err left) l q = first_broken n document bs left (tag_broken (tags_of (AtStart document)) (length bs) bs left q)

-- a whole text
pub weighed : (n : ℕ) (document : Document) (bs : List ℕ) → length bs ≤ n → Weighed depth_in amount_in (run (far n) (start document) bs) (run the_limits (start document) bs) bs
weighed n document [] l = weighed_here n depth_in amount_in (NotRead 0) [] [] [] refl refl refl (inl refl)
weighed n document (b ∷ bs) l = elim (cases_Bool (is_white b)) [
  | inl w ↦
      weighed_behind depth_in amount_in depth_in amount_in _ _ _ _ (b ∷ []) bs (passed (far n) document b bs w) (passed the_limits document b bs w) (λ g. white_depth b g w) (λ g. white_amount b g w)
      (weighed n document bs (omega arith))
  | inr w ↦
      weighed_to n document b bs (tagged (far n) document b bs w) (tagged the_limits document b bs w)
      (first_of n document (b ∷ bs) (tag_at (tags_of (AtStart document)) (b ∷ bs)) l refl)
]
  where
    passed : (limits : Limits) (document : Document) (b : ℕ) (bs : List ℕ) → is_white b ≡ true → run limits (start document) (b ∷ bs) ≡ run limits (start document) bs
    passed limits document b bs w = rw w refl

    tagged : (limits : Limits) (document : Document) (b : ℕ) (bs : List ℕ) → is_white b ≡ false → run limits (start document) (b ∷ bs) ≡ follow limits (AtStart document) [] 0 (tag_at (tags_of (AtStart document)) (b ∷ bs))
    tagged limits document b bs w = rw w (run_tag limits (AtStart document) [] 0 (b ∷ bs))

    weighed_to : (n : ℕ) (document : Document) (b : ℕ) (bs : List ℕ) {far_off near : Verdict} → run (far n) (start document) (b ∷ bs) ≡ far_off → run the_limits (start document) (b ∷ bs) ≡ near
        → Weighed depth_in amount_in far_off near (b ∷ bs) → Weighed depth_in amount_in (run (far n) (start document) (b ∷ bs)) (run the_limits (start document) (b ∷ bs)) (b ∷ bs)
    weighed_to n document b bs f e m = weighed_behind depth_in amount_in depth_in amount_in _ _ _ _ [] (b ∷ bs) f e (λ g. refl) (λ g. refl) m
