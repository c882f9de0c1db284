-- Which call or reply was read.
use Rattle.std.proofs.Common.{◌≡◌, ℕ, zero, suc, ◌<◌, ◌≤◌, Bool, true, false, ◌&&◌, eqb, leb, ltb, List, [], ◌∷◌, ◌++◌, length, inl, inr, refl, sym, ap, ◌∙◌, subst, arith, append_assoc, codes}
use Rattle.std.proofs.lemmas.Bool.{cases_Bool, and_parts, eqb-true, ltb-false, leb-true}
use Rattle.sv_xmlcall.specs.Tags.{spelling}
use Rattle.sv_letters.specs.Letters.{allows, after, are_letters, is_whole}
use Rattle.sv_xmlcall.specs.Spelled.{Spelled, is_white}
use Rattle.sv_xmlcall.specs.Trees.{Trees}
use Rattle.sv_xmlcall.specs.Spells.{IsWhite, Ending, IsEnding, printed_end, printed_value, value_of}
use Rattle.sv_xmlcall.specs.SpelledTexts.{HeadText, NoDeclaration, Declared, printed_head, IsHead, ParamText, AreParams, printed_each, values_of}
use Rattle.sv_xmlcall.specs.Machine.{Limits, Document, OfCall, OfReply, begin_of, Expecting, AtStart, AtDeclared, AtMethod, AtParams, AtParamEnd, AtParamsEnd, AtResponse, AtDone, AtValue, InParam, Read, TooMany, At, Prolog, at, run, enter, kept, start, tags_of}
use Rattle.sv_letters.specs.declared.letters.Letters.TheVariants.{OfText}
use Rattle.sv_letters.specs.declared.letters.Awaits.{Awaits}
use Rattle.sv_letters.specs.declared.letters.Awaits.TheVariants.{Character, Private, Continuation}
use Rattle.sv_xmlcall.specs.declared.tag.Tag.{Tag}
use Rattle.sv_xmlcall.specs.declared.tag.Tag.TheVariants as tag
use Rattle.sv_letters.proofs.LetterLaws.{letters_utf8, IsOpen, after_open}
use Rattle.sv_xmlcall.proofs.ValuePassing.{count_behind, count_behind_values, held, held_values}
use Rattle.sv_xmlcall.proofs.DocumentPassing.{NoEnd, marked}
use Rattle.sv_xmlcall.proofs.TagsBack.{Continues, not_read, IsOneOf, ahead, close_back, only_one, end_back}
use Rattle.sv_xmlcall.proofs.ValuesBack.{value_shorter}
use Rattle.sv_xmlcall.proofs.NestedBack.{value_back, ahead_shorter, behind_shorter}

pub mark_between : (awaits : Awaits) → IsOpen awaits → allows OfText awaits 63 ≡ true → awaits ≡ Character
mark_between Character s a = refl
mark_between Private s a = cc a
mark_between (Continuation low high more) s a =
    let p = and_parts (leb low 63) (leb 63 high) a in let l = leb-true low 63 p.0 in let above = s.0 in absurd (omega arith)

pub no_end_more : (x : ℕ) (bs : List ℕ) → NoEnd bs → ((back : List ℕ) → x ≡ 63 → bs ≡ 62 ∷ back → ⊥) → NoEnd (x ∷ bs)
no_end_more x bs n f = λ front back e. go x bs n f front back e
  where
    head_is : (x y : ℕ) (xs ys : List ℕ) → x ∷ xs ≡ y ∷ ys → x ≡ y
    head_is x y xs ys e = cc e

    tail_is : (x y : ℕ) (xs ys : List ℕ) → x ∷ xs ≡ y ∷ ys → xs ≡ ys
    tail_is x y xs ys e = cc e

    go : (x : ℕ) (bs : List ℕ) → NoEnd bs → ((back : List ℕ) → x ≡ 63 → bs ≡ 62 ∷ back → ⊥) → (front back : List ℕ) → x ∷ bs ≡ front ++ 63 ∷ 62 ∷ back → ⊥
    go x bs n f [] back e = f back (head_is x 63 bs (62 ∷ back) e) (tail_is x 63 bs (62 ∷ back) e)
    go x bs n f (y ∷ front) back e = n front back (tail_is x y bs (front ++ 63 ∷ 62 ∷ back) e)

-- the declaration was read after its `<?xml`
pub record PrologBack (limits : Limits) (document : Document) (question : Bool) (awaits : Awaits) (count : ℕ) (bs : List ℕ) (spelled : Spelled) : Type 0 where
  pub declared : List ℕ
  pub letters : are_letters OfText awaits declared ≡ true
  pub free : NoEnd declared
  pub rest : List ℕ
  pub parts : marked question bs ≡ declared ++ 63 ∷ 62 ∷ rest
  pub goes : run limits (at (At (AtDeclared document)) [] count) rest ≡ Read spelled

pub empty_free : NoEnd []
empty_free = λ front back e. nothing_is front back e
  where
    nothing_is : (front back : List ℕ) → [] ≡ front ++ 63 ∷ 62 ∷ back → ⊥
    nothing_is [] back e = cc e
    nothing_is (x ∷ front) back e = cc e

abbrev starts_marked_so : List ℕ → Bool
starts_marked_so [] = false
starts_marked_so (b ∷ bs) = eqb b 63

pub starts_marked : (bs declared rest : List ℕ) → 63 ∷ bs ≡ declared ++ 63 ∷ 62 ∷ rest → (back : List ℕ) → declared ≡ 62 ∷ back → ⊥
starts_marked bs declared rest e back d =
    let f : 63 ∷ bs ≡ 62 ∷ (back ++ 63 ∷ 62 ∷ rest) = e ∙ ap (λ (x : List ℕ). x ++ 63 ∷ 62 ∷ rest) d in other_head bs (back ++ 63 ∷ 62 ∷ rest) f
  where
    other_head : (xs ys : List ℕ) → 63 ∷ xs ≡ 62 ∷ ys → ⊥
    other_head xs ys e = let f : true ≡ false = ap starts_marked_so e in cc f

-- one byte more of the declaration, which is a question mark
mark_more : (limits : Limits) (document : Document) (question : Bool) (awaits : Awaits) (count : ℕ) (bs : List ℕ) (spelled : Spelled)
    → awaits ≡ Character → PrologBack limits document true Character count bs spelled → PrologBack limits document question awaits count (63 ∷ bs) spelled
mark_more limits document false awaits count bs spelled is p = record {
  declared = p.declared;
  letters = ap (λ (w : Awaits). are_letters OfText w p.declared) is ∙ p.letters;
  free = p.free;
  rest = p.rest;
  parts = p.parts;
  goes = p.goes;
}
mark_more limits document true awaits count bs spelled is p = record {
  declared = 63 ∷ p.declared;
  letters = ap (λ (w : Awaits). are_letters OfText w (63 ∷ p.declared)) is ∙ p.letters;
  free = no_end_more 63 p.declared p.free (λ back e d. starts_marked bs p.declared p.rest p.parts back d);
  rest = p.rest;
  parts = ap (λ (x : List ℕ). 63 ∷ x) p.parts;
  goes = p.goes;
}

-- one byte more of the declaration, which is none
byte_more : (limits : Limits) (document : Document) (question : Bool) (awaits : Awaits) (count b : ℕ) (bs : List ℕ) (spelled : Spelled)
    → (question ≡ true → awaits ≡ Character) → (question && eqb b 62) ≡ false → eqb b 63 ≡ false → allows OfText awaits b ≡ true
    → PrologBack limits document false (after OfText awaits b) count bs spelled → PrologBack limits document question awaits count (b ∷ bs) spelled
byte_more limits document false awaits count b bs spelled q n m a p = record {
  declared = b ∷ p.declared;
  letters = rw (a, p.letters) refl;
  free = no_end_more b p.declared p.free (λ back e d. not_mark b m e);
  rest = p.rest;
  parts = ap (λ (x : List ℕ). b ∷ x) p.parts;
  goes = p.goes;
}
  where
    not_mark : (b : ℕ) → eqb b 63 ≡ false → b ≡ 63 → ⊥
    not_mark b m e = let f : true ≡ false = sym (ap (λ (x : ℕ). eqb x 63) e) ∙ m in cc f
byte_more limits document true awaits count b bs spelled q n m a p =
    let is = q refl in
    let a' : allows OfText Character b ≡ true = sym (ap (λ (w : Awaits). allows OfText w b) is) ∙ a in
    let l : are_letters OfText (after OfText Character b) p.declared ≡ true = sym (ap (λ (w : Awaits). are_letters OfText (after OfText w b) p.declared) is) ∙ p.letters in
    record {
      declared = 63 ∷ b ∷ p.declared;
      letters = ap (λ (w : Awaits). are_letters OfText w (63 ∷ b ∷ p.declared)) is ∙ both b p.declared a' l;
      free = no_end_more 63 (b ∷ p.declared) (no_end_more b p.declared p.free (λ back e d. not_mark b m e)) (λ back e d. not_close b n (head_is b p.declared back d));
      rest = p.rest;
      parts = ap (λ (x : List ℕ). 63 ∷ b ∷ x) p.parts;
      goes = p.goes;
    }
  where
    both : (b : ℕ) (d : List ℕ) → allows OfText Character b ≡ true → are_letters OfText (after OfText Character b) d ≡ true → are_letters OfText Character (63 ∷ b ∷ d) ≡ true
    both b d e f = rw (e, f) refl

    not_mark : (b : ℕ) → eqb b 63 ≡ false → b ≡ 63 → ⊥
    not_mark b m e = let f : true ≡ false = sym (ap (λ (x : ℕ). eqb x 63) e) ∙ m in cc f

    not_close : (b : ℕ) → eqb b 62 ≡ false → b ≡ 62 → ⊥
    not_close b m e = let f : true ≡ false = sym (ap (λ (x : ℕ). eqb x 62) e) ∙ m in cc f

    head_is : (b : ℕ) (d back : List ℕ) → b ∷ d ≡ 62 ∷ back → b ≡ 62
    head_is b d back e = cc e

true_false : {P : Type 0} → true ≡ false → P
true_false e = cc e

prolog_end : (limits : Limits) (document : Document) (question : Bool) (awaits : Awaits) (count b : ℕ) (bs : List ℕ) (spelled : Spelled)
    → (question ≡ true → awaits ≡ Character) → question ≡ true → b ≡ 62
    → run limits (at (At (AtDeclared document)) [] count) bs ≡ Read spelled → PrologBack limits document question awaits count (b ∷ bs) spelled
prolog_end limits document false awaits count b bs spelled q t is e = true_false (sym t)
prolog_end limits document true awaits count b bs spelled q t is e =
    record { declared = []; letters = ap is_whole (q refl); free = empty_free; rest = bs; parts = ap (λ (x : ℕ). 63 ∷ x ∷ bs) is; goes = e }

pub prolog_back : (limits : Limits) (document : Document) (question : Bool) (awaits : Awaits) (count : ℕ) (bs : List ℕ) (spelled : Spelled) → IsOpen awaits → (question ≡ true → awaits ≡ Character)
    → run limits (at (Prolog document question awaits) [] count) bs ≡ Read spelled → PrologBack limits document question awaits count bs spelled
prolog_back limits document question awaits count [] spelled s q e = absurd (not_read limits count 0 spelled e)
prolog_back limits document question awaits count (b ∷ bs) spelled s q e = elim (cases_Bool (question && eqb b 62)) [
  | inl c ↦
      let p = and_parts question (eqb b 62) c in
      prolog_end limits document question awaits count b bs spelled q p.0 (eqb-true b 62 p.1) (rw c at e)
  | inr c ↦ elim (cases_Bool (allows OfText awaits b)) [
    | inl a ↦ elim (cases_Bool (eqb b 63)) [
      | inl m ↦
          let is = eqb-true b 63 m in
          let between = mark_between awaits s (subst (λ (x : ℕ). allows OfText awaits x ≡ true) is a) in
          let f : run limits (at (Prolog document (eqb b 63) (after OfText awaits b)) [] count) bs ≡ Read spelled = rw (c, a) at e in
          let g : run limits (at (Prolog document true (after OfText awaits 63)) [] count) bs ≡ Read spelled = subst (λ (x : ℕ). run limits (at (Prolog document (eqb x 63) (after OfText awaits x)) [] count) bs ≡ Read spelled) is f in
          let h : run limits (at (Prolog document true Character) [] count) bs ≡ Read spelled = subst (λ (w : Awaits). run limits (at (Prolog document true (after OfText w 63)) [] count) bs ≡ Read spelled) between g in
          subst (λ (x : ℕ). PrologBack limits document question awaits count (x ∷ bs) spelled) (sym is)
          (mark_more limits document question awaits count bs spelled between (prolog_back limits document true Character count bs spelled tt (λ t. refl) h))
      | inr m ↦
          let f : run limits (at (Prolog document (eqb b 63) (after OfText awaits b)) [] count) bs ≡ Read spelled = rw (c, a) at e in
          let g = subst (λ (x : Bool). run limits (at (Prolog document x (after OfText awaits b)) [] count) bs ≡ Read spelled) m f in
          byte_more limits document question awaits count b bs spelled q c m a
          (prolog_back limits document false (after OfText awaits b) count bs spelled (after_open OfText awaits b) (λ t. true_false (sym t)) g)
    ]
    | inr a ↦ absurd (not_read limits count (suc (length bs)) spelled (rw (c, a) at e))
  ]
]

-- what stands before the outermost element, and its tag, were read
abbrev pub after_begin : Document → Expecting
after_begin OfCall = AtMethod
after_begin OfReply = AtResponse

pub record HeadBack (limits : Limits) (document : Document) (bs : List ℕ) (spelled : Spelled) : Type 0 where
  pub head : HeadText
  pub right : IsHead head
  pub rest : List ℕ
  pub parts : bs ≡ printed_head head ++ spelling (begin_of document) ++ rest
  pub goes : run limits (at (At (after_begin document)) [] 0) rest ≡ Read spelled

declared_begin : (limits : Limits) (document : Document) (t : Tag) (rest : List ℕ) (spelled : Spelled) → t ≡ begin_of document
    → Continues limits (enter limits (AtDeclared document) t [] 0) rest spelled → run limits (at (At (after_begin document)) [] 0) rest ≡ Read spelled
declared_begin limits OfCall t rest spelled is c = subst (λ (x : Tag). Continues limits (enter limits (AtDeclared OfCall) x [] 0) rest spelled) is c
declared_begin limits OfReply t rest spelled is c = subst (λ (x : Tag). Continues limits (enter limits (AtDeclared OfReply) x [] 0) rest spelled) is c

declared_parts : (gap d t rest g2 b r : List ℕ) → rest ≡ t ++ 63 ∷ 62 ∷ (g2 ++ b ++ r) → gap ++ d ++ rest ≡ gap ++ d ++ t ++ codes "?>" ++ g2 ++ b ++ r
declared_parts gap d t rest g2 b r p = ap (λ (x : List ℕ). gap ++ d ++ x) p ∙ regroup gap d t g2 b r
  where
    regroup : (gap d t g2 b r : List ℕ) → gap ++ d ++ (t ++ (codes "?>" ++ (g2 ++ b ++ r))) ≡ gap ++ d ++ t ++ codes "?>" ++ g2 ++ b ++ r
    regroup gap d t g2 b r = simp append_assoc refl

declared_head : (limits : Limits) (document : Document) (gap rest bs : List ℕ) (spelled : Spelled) → IsWhite gap → bs ≡ gap ++ spelling tag.Declaration ++ rest
    → run limits (at (Prolog document false Character) [] 0) rest ≡ Read spelled → HeadBack limits document bs spelled
declared_head limits document gap rest bs spelled w p e =
    let d = prolog_back limits document false Character 0 rest spelled tt (λ t. true_false (sym t)) e in
    let a = ahead limits (AtDeclared document) [] 0 d.rest spelled tt d.goes in
    let is : a.t ≡ begin_of document = only_one a.t (begin_of document) (tags_of (AtDeclared document)) refl a.one_of in
    record {
      head = Declared gap d.declared a.gap;
      right = (w, letters_utf8 OfText refl d.declared d.letters, λ front back f. d.free front back (f ∙ append_assoc front (codes "?>") back), a.white);
      rest = a.rest;
      parts = p ∙ declared_parts gap (spelling tag.Declaration) d.declared rest a.gap (spelling (begin_of document)) a.rest
          (d.parts ∙ ap (λ (x : List ℕ). d.declared ++ 63 ∷ 62 ∷ x) (a.parts ∙ ap (λ (x : Tag). a.gap ++ spelling x ++ a.rest) is));
      goes = declared_begin limits document a.t a.rest spelled is a.goes;
    }

abbrev StartGoes : Limits → Document → Tag → List ℕ → Spelled → Type 0
StartGoes limits document t rest spelled = Continues limits (enter limits (AtStart document) t [] 0) rest spelled

start_declared : (limits : Limits) (document : Document) (rest : List ℕ) (spelled : Spelled) → StartGoes limits document tag.Declaration rest spelled → run limits (at (Prolog document false Character) [] 0) rest ≡ Read spelled
start_declared limits OfCall rest spelled c = c
start_declared limits OfReply rest spelled c = c

start_begin : (limits : Limits) (document : Document) (t : Tag) (rest : List ℕ) (spelled : Spelled) → t ≡ begin_of document → StartGoes limits document t rest spelled → run limits (at (At (after_begin document)) [] 0) rest ≡ Read spelled
start_begin limits OfCall t rest spelled is c = subst (λ (x : Tag). StartGoes limits OfCall x rest spelled) is c
start_begin limits OfReply t rest spelled is c = subst (λ (x : Tag). StartGoes limits OfReply x rest spelled) is c

head_of : (limits : Limits) (document : Document) (bs : List ℕ) (spelled : Spelled) (gap : List ℕ) (t : Tag) (rest : List ℕ) → IsWhite gap → bs ≡ gap ++ spelling t ++ rest
    → IsOneOf t (tags_of (AtStart document)) → StartGoes limits document t rest spelled → HeadBack limits document bs spelled
head_of limits document bs spelled gap t rest w p (inl is) c =
    declared_head limits document gap rest bs spelled w (p ∙ ap (λ (x : Tag). gap ++ spelling x ++ rest) is)
    (start_declared limits document rest spelled (subst (λ (x : Tag). StartGoes limits document x rest spelled) is c))
head_of limits document bs spelled gap t rest w p (inr (inl is)) c = record {
  head = NoDeclaration gap;
  right = w;
  rest = rest;
  parts = p ∙ ap (λ (x : Tag). gap ++ spelling x ++ rest) is;
  goes = start_begin limits document t rest spelled is c;
}
head_of limits document bs spelled gap t rest w p (inr (inr o)) c = absurd o

pub head_back : (limits : Limits) (document : Document) (bs : List ℕ) (spelled : Spelled) → run limits (start document) bs ≡ Read spelled → HeadBack limits document bs spelled
head_back limits document bs spelled e =
    let a = ahead limits (AtStart document) [] 0 bs spelled tt e in
    head_of limits document bs spelled a.gap a.t a.rest a.white a.parts a.one_of a.goes

-- the end of a text
pub record DoneBack (limits : Limits) (count : ℕ) (is : Spelled) (bs : List ℕ) (spelled : Spelled) : Type 0 where
  pub white : IsWhite bs
  pub same : is ≡ spelled
  pub few : count ≤ limits.values

read_same : (one two : Spelled) → Read one ≡ Read two → one ≡ two
read_same one two e = cc e

many_read : (spelled : Spelled) → TooMany ≡ Read spelled → ⊥
many_read spelled e = cc e

pub done_back : (limits : Limits) (count : ℕ) (is : Spelled) (bs : List ℕ) (spelled : Spelled) → run limits (at (At (AtDone is)) [] count) bs ≡ Read spelled → DoneBack limits count is bs spelled
done_back limits count is [] spelled e = elim (cases_Bool (ltb limits.values count)) [
  | inl m ↦ let f : TooMany ≡ Read spelled = rw m at e in absurd (many_read spelled f)
  | inr m ↦ let f : Read is ≡ Read spelled = rw m at e in record { white = refl; same = read_same is spelled f; few = ltb-false limits.values count m }
]
done_back limits count is (b ∷ bs) spelled e = elim (cases_Bool (is_white b)) [
  | inl w ↦
      let d = done_back limits count is bs spelled (rw w at e) in
      record { white = rw (w, d.white) refl; same = d.same; few = d.few }
  | inr w ↦ absurd (not_read limits count (suc (length bs)) spelled (rw w at e))
]

-- the params of a call and their end were read
pub record EachBack (limits : Limits) (method : List ℕ) (before : Trees) (count : ℕ) (bs : List ℕ) (spelled : Spelled) : Type 0 where
  pub params : List ParamText
  pub right : AreParams params
  pub ending : Ending
  pub ends : IsEnding ending
  pub rest : List ℕ
  pub parts : bs ≡ printed_each params ++ printed_end tag.EndParams ending ++ rest
  pub goes : run limits (at (At (AtParamsEnd method (held_values limits (values_of params) before count))) [] (count_behind_values limits (values_of params) count)) rest ≡ Read spelled

abbrev AgainEach : Limits → List ℕ → List ℕ → Spelled → Type 0
AgainEach limits method bs spelled = (before : Trees) (count : ℕ) (rest : List ℕ) → length rest < length bs
    → run limits (at (At (AtParams method before)) [] count) rest ≡ Read spelled → EachBack limits method before count rest spelled

param_parts : (gap s r1 g2 tail v r2 e r3 m ending r : List ℕ) → r1 ≡ g2 ++ tail → tail ≡ v ++ r2 → r2 ≡ e ++ r3 → r3 ≡ m ++ ending ++ r
    → gap ++ s ++ r1 ≡ gap ++ s ++ g2 ++ v ++ e ++ m ++ ending ++ r
param_parts gap s r1 g2 tail v r2 e r3 m ending r a b c d =
    ap (λ (x : List ℕ). gap ++ s ++ x) (a ∙ ap (λ (x : List ℕ). g2 ++ x) (b ∙ ap (λ (x : List ℕ). v ++ x) (c ∙ ap (λ (x : List ℕ). e ++ x) d))) ∙ regroup gap s g2 v e m ending r
  where
    regroup : (gap s g2 v e m ending r : List ℕ) → gap ++ s ++ (g2 ++ (v ++ (e ++ (m ++ ending ++ r)))) ≡ gap ++ s ++ g2 ++ v ++ e ++ m ++ ending ++ r
    regroup gap s g2 v e m ending r = simp append_assoc refl

one_param : (limits : Limits) (method : List ℕ) (before : Trees) (count : ℕ) (bs : List ℕ) (spelled : Spelled) (gap rest : List ℕ) → IsWhite gap → bs ≡ gap ++ spelling tag.Param ++ rest
    → AgainEach limits method bs spelled → run limits (at (At AtValue) (InParam method before ∷ []) count) rest ≡ Read spelled → EachBack limits method before count bs spelled
one_param limits method before count bs spelled gap rest w p more e =
    let s1 : length rest < length bs = ahead_shorter gap tag.Param rest bs p in
    let g = value_back limits (InParam method before ∷ []) count rest spelled e in
    let v = g.value in
    let behind = count_behind limits (value_of v.value) count in
    let values = kept limits behind before (held limits (value_of v.value) count) in
    let close = end_back limits (AtParamEnd method values) tag.EndParam [] behind v.rest spelled (record { only = refl; goes_on = tt; shut = λ frames count. refl }) v.goes in
    let s2 : length g.tail ≤ length rest = behind_shorter g.gap g.tail rest g.parts in
    let s3 : length v.rest < length g.tail = value_shorter v.value v.rest g.tail v.parts in
    let s4 : length close.rest ≤ length v.rest = behind_shorter (printed_end tag.EndParam close.ending) close.rest v.rest close.parts in
    let m = more values behind close.rest (omega arith) close.goes in
    record {
      params = record { before = gap; before_value = g.gap; value = v.value; ending = close.ending } ∷ m.params;
      right = ((w, g.white, v.right, close.right), m.right);
      ending = m.ending;
      ends = m.ends;
      rest = m.rest;
      parts = p ∙ param_parts gap (spelling tag.Param) rest g.gap g.tail (printed_value v.value) v.rest (printed_end tag.EndParam close.ending) close.rest (printed_each m.params) (printed_end tag.EndParams m.ending) m.rest
          g.parts v.parts close.parts m.parts;
      goes = m.goes;
    }

abbrev ParamGoes : Limits → List ℕ → Trees → ℕ → Tag → List ℕ → Spelled → Type 0
ParamGoes limits method before count t rest spelled = Continues limits (enter limits (AtParams method before) t [] count) rest spelled

each_of : (limits : Limits) (method : List ℕ) (before : Trees) (count : ℕ) (bs : List ℕ) (spelled : Spelled) (gap : List ℕ) (t : Tag) (rest : List ℕ) → IsWhite gap → bs ≡ gap ++ spelling t ++ rest
    → AgainEach limits method bs spelled → IsOneOf t (tags_of (AtParams method before)) → ParamGoes limits method before count t rest spelled → EachBack limits method before count bs spelled
each_of limits method before count bs spelled gap t rest w p more (inl is) c =
    one_param limits method before count bs spelled gap rest w (p ∙ ap (λ (x : Tag). gap ++ spelling x ++ rest) is) more
    (subst (λ (x : Tag). ParamGoes limits method before count x rest spelled) is c)
each_of limits method before count bs spelled gap t rest w p more (inr (inl is)) c =
    let q : bs ≡ gap ++ spelling tag.EndParams ++ rest = p ∙ ap (λ (x : Tag). gap ++ spelling x ++ rest) is in
    let e = close_back limits (AtParams method before) tag.EndParams [] count gap rest bs spelled w q (subst (λ (x : Tag). ParamGoes limits method before count x rest spelled) is c) in
    record { params = []; right = tt; ending = e.ending; ends = e.right; rest = e.rest; parts = e.parts; goes = e.goes }
each_of limits method before count bs spelled gap t rest w p more (inr (inr o)) c = absurd o

pub each_back : (fuel : ℕ) (limits : Limits) (method : List ℕ) (before : Trees) (count : ℕ) (bs : List ℕ) (spelled : Spelled) → suc (length bs) ≤ fuel
    → run limits (at (At (AtParams method before)) [] count) bs ≡ Read spelled → EachBack limits method before count bs spelled
each_back zero limits method before count bs spelled l e = absurd (omega arith)
each_back (suc fuel) limits method before count bs spelled l e =
    let a = ahead limits (AtParams method before) [] count bs spelled tt e in
    each_of limits method before count bs spelled a.gap a.t a.rest a.white a.parts
    (λ before count rest s q. each_back fuel limits method before count rest spelled (omega arith) q)
    a.one_of a.goes
