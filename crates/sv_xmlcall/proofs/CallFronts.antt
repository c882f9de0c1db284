-- Where reading is refused within what stands before the outermost element, some spelled text begins with the bytes before; the parts of a call.
use Rattle.std.proofs.Common.{◌≡◌, ◌≢◌, ℕ, zero, suc, Bool, true, false, ◌&&◌, eqb, ltb, List, [], ◌∷◌, ◌++◌, length, inl, inr, refl, sym, ap, ◌∙◌, subst, arith, append_assoc, codes}
use Rattle.std.proofs.lemmas.Bool.{cases_Bool, and_parts, eqb-true, le-leb, ne_eqb}
use Rattle.std.proofs.lemmas.Str.{IsUtf8-nil}
use Rattle.sv_xmlcall.specs.Tags.{spelling}
use Rattle.sv_xmlcall.specs.Spelled.{Spelled, is_white}
use Rattle.sv_letters.specs.Letters.{allows, after, after_continuation, are_letters, is_whole}
use Rattle.sv_xmlcall.specs.Spells.{IsWhite, Letter, AreLetters, printed_text, Ending, IsEnding, printed_shut, ValueText}
use Rattle.sv_xmlcall.specs.SpelledTexts.{HeadText, NoDeclaration, Declared, printed_head, IsHead, ParamText, ParamsText, ArePossible, CallText, IsCall, printed_call, call_of}
use Rattle.sv_xmlcall.specs.Beginnings.{BeginsCall}
use Rattle.sv_xmlcall.specs.Machine.{Limits, Document, OfCall, OfReply, begin_of, AtStart, AtDeclared, AtDone, NotRead, Read, TooMany, At, Prolog, at, run, enter, start, tags_of, unless_many}
use Rattle.sv_letters.specs.declared.letters.Letters.TheVariants.{OfText}
use Rattle.sv_letters.specs.declared.letters.Awaits.{Awaits}
use Rattle.sv_letters.specs.declared.letters.Awaits.TheVariants.{Character, Private, Continuation}
use Rattle.sv_xmlcall.specs.declared.tag.Tag.{Tag}
use Rattle.sv_xmlcall.specs.declared.tag.Tag.TheVariants as tag
use Rattle.sv_letters.proofs.LetterLaws.{letters_utf8, IsOpen, after_open}
use Rattle.sv_xmlcall.proofs.DocumentPassing.{NoEnd, marked}
use Rattle.sv_xmlcall.proofs.TagsBack.{IsOneOf, only_one}
use Rattle.sv_xmlcall.proofs.DocumentsBack.{mark_between, no_end_more, empty_free, starts_marked, after_begin}
use Rattle.sv_xmlcall.proofs.RefusedLaws.{unless_left, not_many, not_read}
use Rattle.sv_xmlcall.proofs.Fronts.{IsFront, front_none, front_on, front_behind, front_to, Good, good_here, good_behind, good_to, Halts, ahead_front}
use Rattle.sv_xmlcall.proofs.NestedFronts.{on_three}

true_false : {P : Type 0} → true ≡ false → P
true_false e = cc e

-- what is left of a declaration, and its `?>`, where a question mark may stand before
pub record Declares (question : Bool) (awaits : Awaits) (x : List ℕ) : Type 0 where
  pub declared : List ℕ
  pub letters : are_letters OfText awaits declared ≡ true
  pub free : NoEnd declared
  pub parts : marked question x ≡ declared ++ 63 ∷ 62 ∷ []

not_byte : (b c : ℕ) → eqb b c ≡ false → eqb c c ≡ true → b ≡ c → ⊥
not_byte b c f t e = let g : true ≡ false = sym t ∙ sym (ap (λ (x : ℕ). eqb x c) e) ∙ f in true_false g

mark_declares : (question : Bool) (awaits : Awaits) (x : List ℕ) → awaits ≡ Character → Declares true Character x → Declares question awaits (63 ∷ x)
mark_declares false awaits x is p = record { declared = p.declared; letters = ap (λ (w : Awaits). are_letters OfText w p.declared) is ∙ p.letters; free = p.free; parts = p.parts }
mark_declares true awaits x is p = record {
  declared = 63 ∷ p.declared;
  letters = ap (λ (w : Awaits). are_letters OfText w (63 ∷ p.declared)) is ∙ p.letters;
  free = no_end_more 63 p.declared p.free (λ back e d. starts_marked x p.declared [] p.parts back d);
  parts = ap (λ (y : List ℕ). 63 ∷ y) p.parts;
}

both : (b : ℕ) (d : List ℕ) → allows OfText Character b ≡ true → are_letters OfText (after OfText Character b) d ≡ true → are_letters OfText Character (63 ∷ b ∷ d) ≡ true
both b d e f = rw (e, f) refl

letters_on : (awaits : Awaits) (b : ℕ) (d : List ℕ) → allows OfText awaits b ≡ true → are_letters OfText (after OfText awaits b) d ≡ true → are_letters OfText awaits (b ∷ d) ≡ true
letters_on awaits b d e f = rw (e, f) refl

head_is : (b : ℕ) (d back : List ℕ) → b ∷ d ≡ 62 ∷ back → b ≡ 62
head_is b d back e = cc e

byte_declares : (question : Bool) (awaits : Awaits) (b : ℕ) (x : List ℕ) → (question ≡ true → awaits ≡ Character) → (question && eqb b 62) ≡ false → eqb b 63 ≡ false → allows OfText awaits b ≡ true
    → Declares false (after OfText awaits b) x → Declares question awaits (b ∷ x)
byte_declares false awaits b x q n m a p = record {
  declared = b ∷ p.declared;
  letters = letters_on awaits b p.declared a p.letters;
  free = no_end_more b p.declared p.free (λ back e d. not_byte b 63 m refl e);
  parts = ap (λ (y : List ℕ). b ∷ y) p.parts;
}
byte_declares true awaits b x q n m a p =
    let is = q refl in
    let a' : allows OfText Character b ≡ true = sym (ap (λ (w : Awaits). allows OfText w b) is) ∙ a in
    let l : are_letters OfText (after OfText Character b) p.declared ≡ true = sym (ap (λ (w : Awaits). are_letters OfText (after OfText w b) p.declared) is) ∙ p.letters in
    record {
      declared = 63 ∷ b ∷ p.declared;
      letters = ap (λ (w : Awaits). are_letters OfText w (63 ∷ b ∷ p.declared)) is ∙ both b p.declared a' l;
      free = no_end_more 63 (b ∷ p.declared) (no_end_more b p.declared p.free (λ back e d. not_byte b 63 m refl e)) (λ back e d. not_byte b 62 n refl (head_is b p.declared back d));
      parts = ap (λ (y : List ℕ). 63 ∷ b ∷ y) p.parts;
    }

end_declares : (question : Bool) (awaits : Awaits) → (question ≡ true → awaits ≡ Character) → question ≡ true → Declares question awaits (codes ">")
end_declares false awaits q t = true_false (sym t)
end_declares true awaits q t = record { declared = []; letters = ap is_whole (q refl); free = empty_free; parts = refl }

-- the rest of a declaration
pub record Rest (question : Bool) (awaits : Awaits) : Type 0 where
  pub x : List ℕ
  pub is : Declares question awaits x

stop_rest : Rest false Character
stop_rest = record { x = codes "?>"; is = mark_declares false Character (codes ">") refl (end_declares true Character (λ t. refl) refl) }

byte_rest : (awaits : Awaits) (b : ℕ) → allows OfText awaits b ≡ true → eqb b 63 ≡ false → Rest false (after OfText awaits b) → Rest false awaits
byte_rest awaits b a m r = record { x = b ∷ r.x; is = byte_declares false awaits b r.x (λ t. true_false (sym t)) refl m a r.is }

more_rest : (more : ℕ) → Rest false (after_continuation more)
more_rest zero = stop_rest
more_rest (suc more) = byte_rest (Continuation 128 191 more) 128 refl refl (more_rest more)

pub rest_of : (awaits : Awaits) → IsOpen awaits → Rest false awaits
rest_of Character s = stop_rest
rest_of Private s = byte_rest Private 128 refl refl (more_rest 1)
rest_of (Continuation low high more) s =
    byte_rest (Continuation low high more) low (rw (le-leb low low (omega arith), le-leb low high s.1) refl) (ne_eqb low 63 (λ e. let l = s.0 in omega arith)) (more_rest more)

abbrev pub PrologFronts : Bool → Awaits → (List ℕ → Type 0) → Type 0
PrologFronts question awaits P = (x : List ℕ) → Declares question awaits x → (g : List ℕ) → IsFront g x → P g

abbrev pub PrologBehind : Limits → Document → Bool → Awaits → List ℕ → ℕ → (List ℕ → Type 0) → Type 0
PrologBehind limits document question awaits bs left P = (x : List ℕ) → Declares question awaits x → (rest : List ℕ) → bs ≡ x ++ rest
    → run limits (at (At (AtDeclared document)) [] 0) rest ≡ NotRead left → Good (λ g. P (x ++ g)) rest left

prolog_here : (limits : Limits) (question : Bool) (awaits : Awaits) (bs : List ℕ) (left : ℕ) (P : List ℕ → Type 0) → IsOpen awaits → (question ≡ true → awaits ≡ Character) → PrologFronts question awaits P
    → unless_many limits 0 (NotRead (length bs)) ≡ NotRead left → Good P bs left
prolog_here limits false awaits bs left P s q fail e =
    let r = rest_of awaits s in good_here P bs left (unless_left limits 0 (length bs) left e).1 (fail r.x r.is [] (front_none r.x))
prolog_here limits true awaits bs left P s q fail e =
    good_here P bs left (unless_left limits 0 (length bs) left e).1 (fail (codes ">") (end_declares true awaits q refl) [] (front_none (codes ">")))

pub prolog_front : (limits : Limits) (document : Document) (question : Bool) (awaits : Awaits) (bs : List ℕ) (left : ℕ) (P : List ℕ → Type 0) → IsOpen awaits → (question ≡ true → awaits ≡ Character)
    → PrologFronts question awaits P → PrologBehind limits document question awaits bs left P
    → run limits (at (Prolog document question awaits) [] 0) bs ≡ NotRead left → Good P bs left
prolog_front limits document question awaits [] left P s q fail more e = prolog_here limits question awaits [] left P s q fail e
prolog_front limits document question awaits (b ∷ bs) left P s q fail more e = elim (cases_Bool (question && eqb b 62)) [
  | inl c ↦
      let p = and_parts question (eqb b 62) c in
      let is = ap (λ (x : ℕ). x ∷ bs) (eqb-true b 62 p.1) in
      good_behind P (codes ">") bs (b ∷ bs) left is (more (codes ">") (end_declares question awaits q p.0) bs is (rw c at e))
  | inr c ↦ elim (cases_Bool (allows OfText awaits b)) [
    | inl a ↦ elim (cases_Bool (eqb b 63)) [
      | inl m ↦
          let is = eqb-true b 63 m in
          let between = mark_between awaits s (subst (λ (x : ℕ). allows OfText awaits x ≡ true) is a) in
          let f : run limits (at (Prolog document (eqb b 63) (after OfText awaits b)) [] 0) bs ≡ NotRead left = rw (c, a) at e in
          let g : run limits (at (Prolog document true (after OfText awaits 63)) [] 0) bs ≡ NotRead left = subst (λ (x : ℕ). run limits (at (Prolog document (eqb x 63) (after OfText awaits x)) [] 0) bs ≡ NotRead left) is f in
          let h : run limits (at (Prolog document true Character) [] 0) bs ≡ NotRead left = subst (λ (w : Awaits). run limits (at (Prolog document true (after OfText w 63)) [] 0) bs ≡ NotRead left) between g in
          good_behind P (codes "?") bs (b ∷ bs) left (ap (λ (x : ℕ). x ∷ bs) is)
          (prolog_front limits document true Character bs left (λ g. P (63 ∷ g)) tt (λ t. refl)
          (λ x d g f. fail (63 ∷ x) (mark_declares question awaits x between d) (63 ∷ g) (f.0, ap (λ (y : List ℕ). 63 ∷ y) f.1))
          (λ x d rest p r. more (63 ∷ x) (mark_declares question awaits x between d) rest (ap (λ (y : ℕ). y ∷ bs) is ∙ ap (λ (y : List ℕ). 63 ∷ y) p) r)
          h)
      | inr m ↦
          let f : run limits (at (Prolog document (eqb b 63) (after OfText awaits b)) [] 0) bs ≡ NotRead left = rw (c, a) at e in
          let g = subst (λ (x : Bool). run limits (at (Prolog document x (after OfText awaits b)) [] 0) bs ≡ NotRead left) m f in
          good_behind P (b ∷ []) bs (b ∷ bs) left refl
          (prolog_front limits document false (after OfText awaits b) bs left (λ g. P (b ∷ g)) (after_open OfText awaits b) (λ t. true_false (sym t))
          (λ x d g f. fail (b ∷ x) (byte_declares question awaits b x q c m a d) (b ∷ g) (f.0, ap (λ (y : List ℕ). b ∷ y) f.1))
          (λ x d rest p r. more (b ∷ x) (byte_declares question awaits b x q c m a d) rest (ap (λ (y : List ℕ). b ∷ y) p) r)
          g)
    ]
    | inr a ↦ prolog_here limits question awaits (b ∷ bs) left P s q fail (rw (c, a) at e)
  ]
]

-- a prefix of what stands before the outermost element, or of its opening tag
abbrev pub HeadFronts : Document → (List ℕ → Type 0) → Type 0
HeadFronts document P = (head : HeadText) → IsHead head → (g : List ℕ) → IsFront g (printed_head head ++ spelling (begin_of document)) → P g

abbrev pub HeadBehind : Limits → Document → ℕ → (List ℕ → Type 0) → Type 0
HeadBehind limits document left P = (head : HeadText) → IsHead head → (rest : List ℕ) → run limits (at (At (after_begin document)) [] 0) rest ≡ NotRead left
    → Good (λ g. P (printed_head head ++ spelling (begin_of document) ++ g)) rest left

abbrev DeclaredHalts : Limits → Document → Tag → List ℕ → ℕ → Type 0
DeclaredHalts limits document t rest left = Halts limits (enter limits (AtDeclared document) t [] 0) 0 rest left

declared_begin : (limits : Limits) (document : Document) (t : Tag) (rest : List ℕ) (left : ℕ) → t ≡ begin_of document → DeclaredHalts limits document t rest left → run limits (at (At (after_begin document)) [] 0) rest ≡ NotRead left
declared_begin limits OfCall t rest left is h = subst (λ (x : Tag). DeclaredHalts limits OfCall x rest left) is h
declared_begin limits OfReply t rest left is h = subst (λ (x : Tag). DeclaredHalts limits OfReply x rest left) is h

head_parts : (a x d g2 m g : List ℕ) → x ≡ d ++ 63 ∷ 62 ∷ [] → a ++ (x ++ (g2 ++ m ++ g)) ≡ a ++ d ++ codes "?>" ++ g2 ++ m ++ g
head_parts a x d g2 m g e = ap (λ (y : List ℕ). a ++ (y ++ (g2 ++ m ++ g))) e ∙ regroup a d (codes "?>") g2 m g
  where
    regroup : (a d q g2 m g : List ℕ) → a ++ (d ++ q ++ (g2 ++ m ++ g)) ≡ a ++ d ++ q ++ g2 ++ m ++ g
    regroup a d q g2 m g = simp append_assoc refl

head_ends : (a x d g2 m : List ℕ) → x ≡ d ++ 63 ∷ 62 ∷ [] → a ++ (x ++ (g2 ++ m)) ≡ a ++ d ++ codes "?>" ++ g2 ++ m
head_ends a x d g2 m e = ap (λ (y : List ℕ). a ++ (y ++ (g2 ++ m))) e ∙ regroup a d (codes "?>") g2 m
  where
    regroup : (a d q g2 m : List ℕ) → a ++ (d ++ q ++ (g2 ++ m)) ≡ a ++ d ++ q ++ g2 ++ m
    regroup a d q g2 m = simp append_assoc refl

declared_end : (a x d : List ℕ) → x ≡ d ++ 63 ∷ 62 ∷ [] → a ++ x ≡ a ++ d ++ codes "?>"
declared_end a x d e = ap (λ (y : List ℕ). a ++ y) e ∙ sym (append_assoc a d (codes "?>"))

no_end_none : (front back : List ℕ) → [] ≢ front ++ codes "?>" ++ back
no_end_none front back = λ e. empty_free front back (e ∙ append_assoc front (codes "?>") back)

declared_front : (limits : Limits) (document : Document) (gap rest : List ℕ) (left : ℕ) (P : List ℕ → Type 0) → IsWhite gap → HeadFronts document P → HeadBehind limits document left P
    → run limits (at (Prolog document false Character) [] 0) rest ≡ NotRead left → Good (λ g. P (gap ++ spelling tag.Declaration ++ g)) rest left
declared_front limits document gap rest left P w fail more e =
    let a = gap ++ spelling tag.Declaration in
    let begin = spelling (begin_of document) in
    prolog_front limits document false Character rest left (λ g. P (a ++ g)) tt (λ t. true_false (sym t))
    (λ x d g f. fail (Declared gap d.declared []) (is_head gap d [] w refl) (a ++ g)
    (front_on (a ++ g) (printed_head (Declared gap d.declared [])) begin
    (front_on (a ++ g) (a ++ d.declared ++ codes "?>") [] (front_to (a ++ g) (a ++ x) (a ++ d.declared ++ codes "?>") (front_behind a g x f) (declared_end a x d.declared d.parts)))))
    (λ x d behind q e2.
    ahead_front limits (AtDeclared document) [] 0 behind left (λ g. P (a ++ (x ++ g))) tt (begin_of document, inl refl)
    (λ g2 v t i g f.
    let is = only_one t (begin_of document) (tags_of (AtDeclared document)) refl i in
    fail (Declared gap d.declared g2) (is_head gap d g2 w v) (a ++ (x ++ (g2 ++ g)))
    (front_to (a ++ (x ++ (g2 ++ g))) (a ++ (x ++ (g2 ++ begin))) (printed_head (Declared gap d.declared g2) ++ begin)
    (front_behind a (x ++ (g2 ++ g)) (x ++ (g2 ++ begin)) (front_behind x (g2 ++ g) (g2 ++ begin) (front_behind g2 g begin (subst (λ (y : Tag). IsFront g (spelling y)) is f))))
    (head_ends a x d.declared g2 begin d.parts)))
    (λ g2 v t last i p h.
    let is = only_one t (begin_of document) (tags_of (AtDeclared document)) refl i in
    subst (λ (y : Tag). Good (λ g. P (a ++ (x ++ (g2 ++ spelling y ++ g)))) last left) (sym is)
    (good_to (λ g. P (printed_head (Declared gap d.declared g2) ++ begin ++ g)) (λ g. P (a ++ (x ++ (g2 ++ begin ++ g)))) last left
    (λ g y. subst P (sym (head_parts a x d.declared g2 begin g d.parts)) y)
    (more (Declared gap d.declared g2) (is_head gap d g2 w v) last (declared_begin limits document t last left is h))))
    e2)
    e
  where
    is_head : (gap : List ℕ) {x : List ℕ} (d : Declares false Character x) (g2 : List ℕ) → IsWhite gap → IsWhite g2 → IsHead (Declared gap d.declared g2)
    is_head gap d g2 w v = (w, letters_utf8 OfText refl d.declared d.letters, λ front back f. d.free front back (f ∙ append_assoc front (codes "?>") back), v)

abbrev StartHalts : Limits → Document → Tag → List ℕ → ℕ → Type 0
StartHalts limits document t rest left = Halts limits (enter limits (AtStart document) t [] 0) 0 rest left

start_declared : (limits : Limits) (document : Document) (rest : List ℕ) (left : ℕ) → StartHalts limits document tag.Declaration rest left → run limits (at (Prolog document false Character) [] 0) rest ≡ NotRead left
start_declared limits OfCall rest left h = h
start_declared limits OfReply rest left h = h

start_begin : (limits : Limits) (document : Document) (t : Tag) (rest : List ℕ) (left : ℕ) → t ≡ begin_of document → StartHalts limits document t rest left → run limits (at (At (after_begin document)) [] 0) rest ≡ NotRead left
start_begin limits OfCall t rest left is h = subst (λ (x : Tag). StartHalts limits OfCall x rest left) is h
start_begin limits OfReply t rest left is h = subst (λ (x : Tag). StartHalts limits OfReply x rest left) is h

start_begins : (document : Document) (P : List ℕ → Type 0) → HeadFronts document P → (gap : List ℕ) → IsWhite gap → (t : Tag) → IsOneOf t (tags_of (AtStart document)) → (g : List ℕ) → IsFront g (spelling t) → P (gap ++ g)
start_begins document P fail gap w t (inl is) g f =
    let h = front_behind gap g (spelling tag.Declaration) (subst (λ (x : Tag). IsFront g (spelling x)) is f) in
    fail (Declared gap [] []) (w, IsUtf8-nil, no_end_none, refl) (gap ++ g)
    (front_on (gap ++ g) (printed_head (Declared gap [] [])) (spelling (begin_of document)) (on_three (gap ++ g) (gap ++ spelling tag.Declaration) [] (codes "?>") [] h))
start_begins document P fail gap w t (inr (inl is)) g f =
    fail (NoDeclaration gap) w (gap ++ g) (front_behind gap g (spelling (begin_of document)) (subst (λ (x : Tag). IsFront g (spelling x)) is f))
start_begins document P fail gap w t (inr (inr o)) g f = absurd o

start_goes : (limits : Limits) (document : Document) (left : ℕ) (P : List ℕ → Type 0) → HeadFronts document P → HeadBehind limits document left P
    → (gap : List ℕ) → IsWhite gap → (t : Tag) (rest : List ℕ) → IsOneOf t (tags_of (AtStart document)) → StartHalts limits document t rest left → Good (λ g. P (gap ++ spelling t ++ g)) rest left
start_goes limits document left P fail more gap w t rest (inl is) h =
    subst (λ (x : Tag). Good (λ g. P (gap ++ spelling x ++ g)) rest left) (sym is)
    (declared_front limits document gap rest left P w fail more (start_declared limits document rest left (subst (λ (x : Tag). StartHalts limits document x rest left) is h)))
start_goes limits document left P fail more gap w t rest (inr (inl is)) h =
    subst (λ (x : Tag). Good (λ g. P (gap ++ spelling x ++ g)) rest left) (sym is)
    (more (NoDeclaration gap) w rest (start_begin limits document t rest left is h))
start_goes limits document left P fail more gap w t rest (inr (inr o)) h = absurd o

-- a whole text
pub head_front : (limits : Limits) (document : Document) (bs : List ℕ) (left : ℕ) (P : List ℕ → Type 0) → HeadFronts document P → HeadBehind limits document left P
    → run limits (start document) bs ≡ NotRead left → Good P bs left
head_front limits document bs left P fail more e =
    ahead_front limits (AtStart document) [] 0 bs left P tt (tag.Declaration, inl refl)
    (λ gap w t i g f. start_begins document P fail gap w t i g f) (λ gap w t rest i p h. start_goes limits document left P fail more gap w t rest i h) e

white_on : (b : ℕ) (gap : List ℕ) → is_white b ≡ true → IsWhite gap → IsWhite (b ∷ gap)
white_on b gap w g = rw (w, g) refl

-- after the whole text
pub done_front : (limits : Limits) (count : ℕ) (spelled : Spelled) (bs : List ℕ) (left : ℕ) (P : List ℕ → Type 0) → ((after : List ℕ) → IsWhite after → P after)
    → run limits (at (At (AtDone spelled)) [] count) bs ≡ NotRead left → Good P bs left
done_front limits count spelled [] left P fail e = elim (cases_Bool (ltb limits.values count)) [
  | inl m ↦ let f : TooMany ≡ NotRead left = rw m at e in not_many left f
  | inr m ↦ let f : Read spelled ≡ NotRead left = rw m at e in not_read spelled left f
]
done_front limits count spelled (b ∷ bs) left P fail e = elim (cases_Bool (is_white b)) [
  | inl w ↦ good_behind P (b ∷ []) bs (b ∷ bs) left refl (done_front limits count spelled bs left (λ g. P (b ∷ g)) (λ after h. fail (b ∷ after) (white_on b after w h)) (rw w at e))
  | inr w ↦ good_here P (b ∷ bs) left (unless_left limits count (suc (length bs)) left (rw w at e)).1 (fail [] refl)
]

-- a param of its parts
abbrev pub param_of : List ℕ → List ℕ → ValueText → Ending → ParamText
param_of gap g2 value ending = record { before = gap; before_value = g2; value = value; ending = ending }

-- each right text of a call gives its prefixes
pub call_begins : (call : CallText) → IsCall call → (g : List ℕ) → IsFront g (printed_call call) → BeginsCall g
call_begins call c g f = record { rest = f.0; call = call_of call; spells = record { text = call; right = c; printed = sym f.1; means = refl } }

-- the parts of a call up to its params
pub record Start : Type 0 where
  pub head : HeadText
  pub before_name : List ℕ
  pub name : List Letter
  pub inside : List ℕ

pub record IsStart (s : Start) : Type 0 where
  pub head : IsHead s.head
  pub before_name : IsWhite s.before_name
  pub letters : AreLetters s.name
  pub named : s.name ≢ []
  pub inside : IsWhite s.inside

abbrev pub started : Start → List ℕ
started s = printed_head s.head ++ spelling tag.MethodCall ++ s.before_name ++ spelling tag.MethodName ++ printed_text s.name ++ printed_shut tag.EndMethodName s.inside

abbrev pub call_with : Start → ParamsText → Ending → List ℕ → CallText
call_with s params ending after = record { head = s.head; before_name = s.before_name; name = s.name; inside = s.inside; params = params; ending = ending; after = after }

pub is_call : (s : Start) (params : ParamsText) (ending : Ending) (after : List ℕ) → IsStart s → ArePossible params → IsEnding ending → IsWhite after → IsCall (call_with s params ending after)
is_call s params ending after i p e w = record { head = i.head; before_name = i.before_name; letters = i.letters; named = i.named; inside = i.inside; params = p; ending = e; after = w }
