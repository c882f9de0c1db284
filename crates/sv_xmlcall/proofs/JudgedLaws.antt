-- What a reader answers is what the good prefix of the bytes tells.
use Rattle.std.proofs.Common.{◌≡◌, ◌≢◌, ℕ, suc, ◌+◌, ◌<◌, ◌≤◌, List, [], ◌∷◌, ◌++◌, length, Result, Ok, Err, inl, inr, refl, sym, ap, ◌∙◌, subst, arith, append_assoc, append-nil, length-append, Option, Some, None}
use Rattle.std.proofs.lemmas.Bool.{cases_lt, lt-ltb, le-ltb}
use Rattle.sv_xmlcall.specs.Tags.{spelling}
use Rattle.sv_xmlcall.specs.Spelled.{Spelled, ACall, AReply}
use Rattle.sv_xmlcall.specs.Trees.{CallTree, Reply, call_view, reply_view}
use Rattle.sv_xmlcall.specs.Sizes.{nested, nested_values}
use Rattle.sv_xmlcall.specs.Spells.{value_of}
use Rattle.sv_xmlcall.specs.SpelledTexts.{params_of, SpellsCall, SpellsReply, call_of, answer_of}
use Rattle.sv_xmlcall.specs.Beginnings.{BeginsCall, BeginsReply, FaultText, IsFaultText, printed_fault, IsLongest}
use Rattle.sv_xmlcall.specs.Openings.{amount_in, depth_in}
use Rattle.sv_xmlcall.specs.Judged.{IsFew, RefusesFor, Judges}
use Rattle.sv_xmlcall.specs.Answers.{FaultIs, ReadsCall, ReadsReply}
use Rattle.sv_xmlcall.specs.Machine.{Limits, the_limits, Document, OfCall, OfReply, AtResponse, AtValue, InFault, Verdict, Read, NotRead, TooMany, TooDeep, At, at, run, start, unless_many, after_fault, whole_fault}
use Rattle.sv_xmlcall.specs.declared.call.Call.{Call}
use Rattle.sv_xmlcall.specs.declared.call.Answered.{Answered}
use Rattle.sv_xmlcall.specs.declared.call.CallFault.{CallFault}
use Rattle.sv_xmlcall.specs.declared.call.CallFault.TheVariants as fault
use Rattle.sv_xmlcall.specs.declared.tag.Tag.TheVariants as tag
use Rattle.sv_xmlcall.proofs.Passing.{Passes, ◌▷◌, ◌▷!◌, white}
use Rattle.sv_xmlcall.proofs.ValuePassing.{count_behind, held, gate_value, value_pass}
use Rattle.sv_xmlcall.proofs.DeepLaws.{value_stops}
use Rattle.sv_xmlcall.proofs.DocumentPassing.{head_pass, reply_begin, call_run, reply_run, answered}
use Rattle.sv_xmlcall.proofs.SpelledLaws.{call_deep, reply_deep}
use Rattle.sv_xmlcall.proofs.CallsBack.{call_text, reply_text}
use Rattle.sv_xmlcall.proofs.RefusedLaws.{unless_left, not_deep, not_many, not_read, refused}
use Rattle.sv_xmlcall.proofs.Fronts.{Good}
use Rattle.sv_xmlcall.proofs.CallGood.{good_call}
use Rattle.sv_xmlcall.proofs.ReplyGood.{good_reply}
use Rattle.sv_xmlcall.proofs.Measures.{far, judged, Ends}
use Rattle.sv_xmlcall.proofs.MeasuredDocuments.{Weighed, weighed}

-- no limits refuse a spelled text at a byte of it
unless_not_left : {P : Type 0} (limits : Limits) (count : ℕ) (spelled : Spelled) (left : ℕ) → unless_many limits count (Read spelled) ≡ NotRead left → P
unless_not_left limits count spelled left e = elim (cases_lt limits.values count) [
  | inl h ↦ let f : TooMany ≡ NotRead left = rw (lt-ltb limits.values count h) at e in not_many left f
  | inr h ↦ let f : Read spelled ≡ NotRead left = rw (le-ltb limits.values count h) at e in not_read spelled left f
]

call_whole : {P : Type 0} (limits : Limits) (bytes : List ℕ) (call : CallTree) (left : ℕ) → SpellsCall bytes call → run limits (start OfCall) bytes ≡ NotRead left → P
call_whole limits bytes call left s e =
    let f = ap (run limits (start OfCall)) s.printed ∙ e in
    elim (cases_lt limits.nesting (nested_values (params_of s.text.params))) [
      | inl h ↦ not_deep left (sym (call_deep limits s.text s.right h) ∙ f)
      | inr h ↦ unless_not_left limits _ _ left (sym (call_run limits s.text s.right h) ∙ f)
    ]

reply_whole : {P : Type 0} (limits : Limits) (bytes : List ℕ) (reply : Reply) (left : ℕ) → 3 ≤ limits.nesting → 3 ≤ limits.values → 3 ≤ limits.keeping → SpellsReply bytes reply → run limits (start OfReply) bytes ≡ NotRead left → P
reply_whole limits bytes reply left n v k s e =
    let f = ap (run limits (start OfReply)) s.printed ∙ e in
    elim (cases_lt limits.nesting (nested (answered s.text.answer))) [
      | inl h ↦ not_deep left (sym (reply_deep limits s.text s.right (omega arith) h) ∙ f)
      | inr h ↦ unless_not_left limits _ _ left (sym (reply_run limits s.text s.right h v k) ∙ f)
    ]

left_other : (m left : ℕ) → NotRead 0 ≡ NotRead (suc m) → ⊥
left_other m left e = cc e

none_left : (limits : Limits) (fault : Option Reply) (count m : ℕ) → run limits (after_fault fault [] count) [] ≡ NotRead (suc m) → ⊥
none_left limits (Some reply) count m e = let l = (unless_left limits count 0 (suc m) e).1 in omega arith
none_left limits None count m e = let l = (unless_left limits count 0 (suc m) e).1 in omega arith

-- nor do they refuse a value in a fault within it
fault_whole : (limits : Limits) (text : FaultText) (m : ℕ) → IsFaultText text → run limits (start OfReply) (printed_fault text) ≡ NotRead (suc m) → ⊥
fault_whole limits text m r e =
    let begin : Passes limits (at (At AtResponse) [] 0) (spelling tag.Fault) (at (At AtValue) (InFault ∷ []) 0) = record { goes = λ rest. refl } in
    let front = head_pass limits OfReply text.head r.0 ▷ reply_begin limits text.head ▷ white limits AtResponse [] 0 text.before r.1 ▷ begin ▷ white limits AtValue (InFault ∷ []) 0 text.before_value r.2 in
    let f = ap (run limits (start OfReply)) (append-nil (printed_fault text)) ∙ e in
    elim (cases_lt (suc limits.nesting) (1 + nested (value_of text.value))) [
      | inl h ↦
          let all = front ▷! value_stops limits (at (At AtValue) (InFault ∷ []) 0) (InFault ∷ []) 0 text.value (gate_value limits (InFault ∷ []) 0) r.3 h in
          not_deep (suc m) (sym (all.stops []) ∙ f)
      | inr h ↦
          let all = front ▷ value_pass limits (at (At AtValue) (InFault ∷ []) 0) (InFault ∷ []) 0 text.value (gate_value limits (InFault ∷ []) 0) r.3 h in
          none_left limits (whole_fault limits (count_behind limits (value_of text.value) 0) (held limits (value_of text.value) 0)) (count_behind limits (value_of text.value) 0) m (sym (all.goes []) ∙ f)
    ]

-- two prefixes of the same bytes: the longer one goes on with the next byte
record Further (front other more bad : List ℕ) : Type 0 where
  pub byte : ℕ
  pub between : List ℕ
  pub is : other ≡ front ++ byte ∷ between
  pub next : bad ≡ byte ∷ (between ++ more)

further : (front bad other more : List ℕ) → front ++ bad ≡ other ++ more → length front < length other → Further front other more bad
further front bad [] more e l = absurd (omega arith)
further [] bad (b ∷ other) more e l = record { byte = b; between = other; is = refl; next = e }
further (a ∷ front) bad (b ∷ other) more e l =
    let same : a ≡ b = cc e in
    let rest : front ++ bad ≡ other ++ more = cc e in
    let f = further front bad other more rest (omega arith) in
    record { byte = f.byte; between = f.between; is = ap (λ (x : List ℕ). b ∷ x) f.is ∙ ap (λ (x : ℕ). x ∷ (front ++ f.byte ∷ f.between)) (sym same); next = f.next }

same_front : (a b c d : List ℕ) → a ++ b ≡ c ++ d → length b ≡ length d → a ≡ c
same_front [] b [] d e l = refl
same_front [] b (y ∷ c) d e l = let f = ap length e in absurd (omega (arith, length-append c d))
same_front (x ∷ a) b [] d e l = let f = ap length e in absurd (omega (arith, length-append a b))
same_front (x ∷ a) b (y ∷ c) d e l =
    let same : x ≡ y = cc e in
    let rest : a ++ b ≡ c ++ d = cc e in
    ap (λ (z : ℕ). z ∷ a) same ∙ ap (λ (z : List ℕ). y ∷ z) (same_front a b c d rest l)

-- what begins a text and is longer than the bytes before a refused one would go on with that
abbrev pub Whole : Limits → Document → (List ℕ → Type 0) → Type 0
Whole limits document Begins = (front : List ℕ) (byte : ℕ) (between : List ℕ) → Begins (front ++ byte ∷ between)
    → ((other : List ℕ) → run limits (start document) (front ++ byte ∷ other) ≡ NotRead (suc (length other))) → ⊥

pub is_longest : (limits : Limits) (document : Document) (Begins : List ℕ → Type 0) (bytes front bad : List ℕ) → Whole limits document Begins → bytes ≡ front ++ bad → Begins front
    → run limits (start document) bytes ≡ NotRead (length bad) → IsLongest Begins bytes front
is_longest limits document Begins bytes front bad whole p b e = record {
  begins = b;
  rest = bad;
  parts = p;
  longest = λ other more q begins. elim (cases_lt (length front) (length other)) [
    | inl h ↦
        let f = further front bad other more (sym p ∙ q) h in
        let g : run limits (start document) (front ++ f.byte ∷ (f.between ++ more)) ≡ NotRead (suc (length (f.between ++ more))) =
        ap (λ (x : List ℕ). run limits (start document) (front ++ x)) (sym f.next) ∙ ap (run limits (start document)) (sym p) ∙ e ∙ ap (λ (x : List ℕ). NotRead (length x)) f.next in
        absurd (whole front f.byte f.between (subst Begins f.is begins) (λ rest. refused limits front f.byte (f.between ++ more) rest (start document) g))
    | inr h ↦ h
  ];
}

all_longest : (Begins : List ℕ → Type 0) (bytes : List ℕ) → Begins bytes → IsLongest Begins bytes bytes
all_longest Begins bytes b = record {
  begins = b;
  rest = [];
  parts = sym (append-nil bytes);
  longest = λ other more q begins. let l = ap length q in omega (arith, length-append other more);
}

pub call_goes : (limits : Limits) → Whole limits OfCall BeginsCall
call_goes limits front byte between b r =
    let g : run limits (start OfCall) (front ++ byte ∷ between ++ b.rest) ≡ NotRead (suc (length (between ++ b.rest))) =
    ap (run limits (start OfCall)) (append_assoc front (byte ∷ between) b.rest) ∙ r (between ++ b.rest) in
    call_whole limits (front ++ byte ∷ between ++ b.rest) b.call (suc (length (between ++ b.rest))) b.spells g

reply_goes : (limits : Limits) → 3 ≤ limits.nesting → 3 ≤ limits.values → 3 ≤ limits.keeping → Whole limits OfReply BeginsReply
reply_goes limits n v k front byte between (inl b) r =
    let g : run limits (start OfReply) (front ++ byte ∷ between ++ b.rest) ≡ NotRead (suc (length (between ++ b.rest))) =
    ap (run limits (start OfReply)) (append_assoc front (byte ∷ between) b.rest) ∙ r (between ++ b.rest) in
    reply_whole limits (front ++ byte ∷ between ++ b.rest) b.reply (suc (length (between ++ b.rest))) n v k b.spells g
reply_goes limits n v k front byte between (inr b) r =
    let g : run limits (start OfReply) (printed_fault b.text) ≡ NotRead (suc (length (between ++ b.rest))) =
    ap (run limits (start OfReply)) (b.printed ∙ append_assoc front (byte ∷ between) b.rest) ∙ r (between ++ b.rest) in
    fault_whole limits b.text (length (between ++ b.rest)) b.right g

same_length : (one two : List ℕ) (rest rest2 : List ℕ) → one ++ rest ≡ two ++ rest2 → length one ≡ length two → one ≡ two
same_length one two rest rest2 e l = let f = ap length e in same_front one rest two rest2 e (omega (arith, length-append one rest, length-append two rest2))

-- there is one longest prefix
pub one_longest : (Begins : List ℕ → Type 0) (bytes one two : List ℕ) → IsLongest Begins bytes one → IsLongest Begins bytes two → one ≡ two
one_longest Begins bytes one two f g =
    let a = f.longest two g.rest g.parts g.begins in
    let b = g.longest one f.rest f.parts f.begins in
    same_length one two f.rest g.rest (sym f.parts ∙ g.parts) (omega arith)

-- the good prefix of the bytes
record Fronted (document : Document) (Begins : List ℕ → Type 0) (bytes : List ℕ) (n : ℕ) : Type 0 where
  pub front : List ℕ
  pub bad : List ℕ
  pub good : IsLongest Begins bytes front
  pub parts : bytes ≡ front ++ bad
  pub ends : Ends (run (far n) (start document) bytes) bad
  pub nearer : run the_limits (start document) bytes ≡ judged (depth_in front) (amount_in front) (run (far n) (start document) bytes)

fronted : (n : ℕ) (document : Document) (Begins : List ℕ → Type 0) (bytes : List ℕ) → Whole (far n) document Begins
    → ((left : ℕ) → run (far n) (start document) bytes ≡ NotRead left → Good Begins bytes left)
    → ((spelled : Spelled) → run (far n) (start document) bytes ≡ Read spelled → Begins bytes)
    → Weighed depth_in amount_in (run (far n) (start document) bytes) (run the_limits (start document) bytes) bytes → Fronted document Begins bytes n
fronted n document Begins bytes whole good read w = record { front = w.front; bad = w.bad; good = by_end w.ends; parts = w.parts; ends = w.ends; nearer = w.nearer }
  where
    by_end : Ends (run (far n) (start document) bytes) w.bad → IsLongest Begins bytes w.front
    by_end (inl e) =
        let g = good (length w.bad) e in
        let is = same_front g.front g.bad w.front w.bad (sym g.parts ∙ w.parts) g.size in
        is_longest (far n) document Begins bytes w.front w.bad whole w.parts (subst Begins is g.good) e
    by_end (inr s) =
        let is : bytes ≡ w.front = w.parts ∙ ap (λ (x : List ℕ). w.front ++ x) s.1.1 ∙ append-nil w.front in
        subst (IsLongest Begins bytes) is (all_longest Begins bytes (read s.0 s.1.0))

far_deep : {P : Type 0} (verdict : Verdict) (bad : List ℕ) → Ends verdict bad → verdict ≡ TooDeep → P
far_deep verdict bad (inl e) d = not_deep (length bad) (sym d ∙ e)
far_deep verdict bad (inr s) d = let f : Read s.0 ≡ TooDeep = sym s.1.0 ∙ d in cc f

far_many : {P : Type 0} (verdict : Verdict) (bad : List ℕ) → Ends verdict bad → verdict ≡ TooMany → P
far_many verdict bad (inl e) m = not_many (length bad) (sym m ∙ e)
far_many verdict bad (inr s) m = let f : Read s.0 ≡ TooMany = sym s.1.0 ∙ m in cc f

far_left : (verdict : Verdict) (bad : List ℕ) (left : ℕ) → Ends verdict bad → verdict ≡ NotRead left → left ≡ length bad
far_left verdict bad left (inl e) l = let f : NotRead left ≡ NotRead (length bad) = sym l ∙ e in cc f
far_left verdict bad left (inr s) l = not_read s.0 left (sym s.1.0 ∙ l)

-- the three ways of judging
record Judging (deep many : ℕ) (far_off near : Verdict) : Type 0 where
  pub too_deep : near ≡ TooDeep → far_off ≢ TooDeep → 32 < deep
  pub too_many : near ≡ TooMany → far_off ≢ TooMany → (deep ≤ 32) × (65536 < many)
  pub few : near ≢ TooDeep → near ≢ TooMany → (deep ≤ 32) × ((many ≤ 65536) × (near ≡ far_off))

deep_many : {P : Type 0} → TooDeep ≡ TooMany → P
deep_many e = cc e

judging : (deep many : ℕ) (far_off near : Verdict) → near ≡ judged deep many far_off → Judging deep many far_off near
judging deep many far_off near e = elim (cases_lt 32 deep) [
  | inl d ↦
      let f : near ≡ TooDeep = e ∙ rw (lt-ltb 32 deep d) refl in
      record { too_deep = λ n o. d; too_many = λ n o. deep_many (sym f ∙ n); few = λ n o. absurd (n f) }
  | inr d ↦ elim (cases_lt 65536 many) [
    | inl m ↦
        let f : near ≡ TooMany = e ∙ rw (le-ltb 32 deep d, lt-ltb 65536 many m) refl in
        record { too_deep = λ n o. deep_many (sym n ∙ f); too_many = λ n o. (d, m); few = λ n o. absurd (o f) }
    | inr m ↦
        let f : near ≡ far_off = e ∙ rw (le-ltb 32 deep d, le-ltb 65536 many m) refl in
        record { too_deep = λ n o. absurd (o (sym f ∙ n)); too_many = λ n o. absurd (o (sym f ∙ n)); few = λ n o. (d, (m, f)) }
  ]
]

read_few : (document : Document) (Begins : List ℕ → Type 0) (bytes : List ℕ) (n : ℕ) (spelled : Spelled) → (f : Fronted document Begins bytes n) → run the_limits (start document) bytes ≡ Read spelled → IsFew f.front
read_few document Begins bytes n spelled f e =
    let far_off = run (far n) (start document) bytes in
    let near = run the_limits (start document) bytes in
    let j = (judging (depth_in f.front) (amount_in f.front) far_off near f.nearer).few (λ d. not_deep_read spelled (sym d ∙ e)) (λ m. not_many_read spelled (sym m ∙ e)) in
    (j.0, j.1.0)
  where
    not_deep_read : (spelled : Spelled) → TooDeep ≡ Read spelled → ⊥
    not_deep_read spelled e = cc e

    not_many_read : (spelled : Spelled) → TooMany ≡ Read spelled → ⊥
    not_many_read spelled e = cc e

refuses_for : (document : Document) (Begins : List ℕ → Type 0) (bytes : List ℕ) (n : ℕ) (why : CallFault) → (f : Fronted document Begins bytes n) → FaultIs why (length bytes) (run the_limits (start document) bytes)
    → RefusesFor f.front why
refuses_for document Begins bytes n fault.TooDeep f e =
    let far_off = run (far n) (start document) bytes in
    let near = run the_limits (start document) bytes in
    (judging (depth_in f.front) (amount_in f.front) far_off near f.nearer).too_deep e (λ d. far_deep far_off f.bad f.ends d)
refuses_for document Begins bytes n fault.TooManyValues f e =
    let far_off = run (far n) (start document) bytes in
    let near = run the_limits (start document) bytes in
    (judging (depth_in f.front) (amount_in f.front) far_off near f.nearer).too_many e (λ m. far_many far_off f.bad f.ends m)
refuses_for document Begins bytes n (fault.NotACall place) f e =
    let far_off = run (far n) (start document) bytes in
    let near = run the_limits (start document) bytes in
    let j = (judging (depth_in f.front) (amount_in f.front) far_off near f.nearer).few (λ d. not_deep e.0 (sym d ∙ e.1.0)) (λ m. not_many e.0 (sym m ∙ e.1.0)) in
    let l = far_left far_off f.bad e.0 f.ends (sym j.1.1 ∙ e.1.0) in
    let p = e.1.1 in
    ((j.0, j.1.0), omega (arith, ap length f.parts, length-append f.front f.bad))
refuses_for document Begins bytes n fault.OutOfMemory f e = tt

fronted_call : (bytes : List ℕ) → Fronted OfCall BeginsCall bytes (length bytes + 3)
fronted_call bytes =
    let n = length bytes + 3 in
    fronted n OfCall BeginsCall bytes (call_goes (far n)) (λ left e. good_call (far n) bytes left e) (λ spelled e. read_call n bytes spelled e) (weighed n OfCall bytes (omega arith))
  where
    read_call : (n : ℕ) (bytes : List ℕ) (spelled : Spelled) → run (far n) (start OfCall) bytes ≡ Read spelled → BeginsCall bytes
    read_call n bytes spelled e =
        let c = call_text (far n) bytes spelled e in
        record { rest = []; call = call_of c.text; spells = record { text = c.text; right = c.right; printed = c.printed ∙ sym (append-nil bytes); means = refl } }

-- what a reader of calls answers
pub judges_call : (bytes : List ℕ) (result : Result Call CallFault) → ReadsCall (run the_limits (start OfCall) bytes) (length bytes) result → Judges BeginsCall bytes result
judges_call bytes (Ok call) r =
    let f = fronted_call bytes in
    record { front = f.front; good = f.good; answers = read_few OfCall BeginsCall bytes (length bytes + 3) (ACall (call_view call)) f r }
judges_call bytes (Err why) r =
    let f = fronted_call bytes in
    record { front = f.front; good = f.good; answers = refuses_for OfCall BeginsCall bytes (length bytes + 3) why f r }

fronted_reply : (bytes : List ℕ) → Fronted OfReply BeginsReply bytes (length bytes + 3)
fronted_reply bytes =
    let n = length bytes + 3 in
    fronted n OfReply BeginsReply bytes (reply_goes (far n) (omega arith) (omega arith) (omega arith)) (λ left e. good_reply (far n) bytes left e) (λ spelled e. read_reply n bytes spelled e) (weighed n OfReply bytes (omega arith))
  where
    read_reply : (n : ℕ) (bytes : List ℕ) (spelled : Spelled) → run (far n) (start OfReply) bytes ≡ Read spelled → BeginsReply bytes
    read_reply n bytes spelled e =
        let r = reply_text (far n) bytes spelled e in
        inl (record { rest = []; reply = answer_of r.text.answer; spells = record { text = r.text; right = r.right; printed = r.printed ∙ sym (append-nil bytes); means = refl } })

-- what a reader of replies answers
pub judges_reply : (bytes : List ℕ) (result : Result Answered CallFault) → ReadsReply (run the_limits (start OfReply) bytes) (length bytes) result → Judges BeginsReply bytes result
judges_reply bytes (Ok answered) r =
    let f = fronted_reply bytes in
    record { front = f.front; good = f.good; answers = read_few OfReply BeginsReply bytes (length bytes + 3) (AReply (reply_view answered)) f r }
judges_reply bytes (Err why) r =
    let f = fronted_reply bytes in
    record { front = f.front; good = f.good; answers = refuses_for OfReply BeginsReply bytes (length bytes + 3) why f r }
