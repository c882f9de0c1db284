-- A text that is read as a call or a reply spells it.
use Rattle.std.proofs.Common.{◌≡◌, ◌≢◌, ℕ, suc, ◌+◌, ◌≤◌, min, true, false, ◌&&◌, List, [], ◌∷◌, ◌++◌, length, Option, Some, None, inl, inr, refl, sym, ap, ◌∙◌, subst, arith, append_assoc, le_refl, ℤ, bytes_eq, leb}
use Rattle.std.proofs.lemmas.Bool.{cases_Bool, and_parts, leb-true}
use Rattle.std.proofs.lemmas.Slice.Eq.{bytes_eq-Decides}
use Rattle.sv_xmlcall.specs.Tags.{spelling}
use Rattle.sv_xmlcall.specs.Spelled.{Spelled, ACall, AReply, fault_of, two_of, named_fault}
use Rattle.sv_xmlcall.specs.Trees.{Tree, Trees, integer, text, structure, no_tree, no_member, member, Reply, Returns, Faults, CallTree}
use Rattle.sv_xmlcall.specs.Sizes.{size, size_of_values}
use Rattle.sv_xmlcall.specs.Spells.{IsWhite, Letter, printed_text, text_of, Ending, IsEnding, printed_shut, printed_end, printed_value, value_of}
use Rattle.sv_xmlcall.specs.SpelledTexts.{printed_head, printed_each, values_of, ParamsText, Without, NoParams, Params, ArePossible, printed_params, params_of, AnswerText, Answer, Fault, IsFault, IsAnswer, printed_answer, SpellsCall, SpellsReply, code_name, string_name, CallText, IsCall, printed_call, ReplyText, IsReply, printed_reply}
use Rattle.sv_xmlcall.specs.Machine.{Limits, OfCall, OfReply, AtMethod, AtCalled, AtParamsEnd, AtResponse, AtReplyParam, AtReplyParamEnd, AtReplyParamsEnd, AtFaultEnd, AtResponseEnd, AtDone, AtValue, InMethod, InReply, InFault, Read, At, Stuck, at, run, enter, start, may_end, after_fault, tags_of, whole_fault}
use Rattle.sv_xmlcall.specs.declared.tag.Tag.{Tag}
use Rattle.sv_xmlcall.specs.declared.tag.Tag.TheVariants as tag
use Rattle.sv_xmlcall.proofs.Passing.{in_text}
use Rattle.sv_xmlcall.proofs.ValuePassing.{count_behind, count_behind_values, held, held_values}
use Rattle.sv_xmlcall.proofs.HeldLaws.{count_min, count_min_values, held_is, held_values_are}
use Rattle.sv_xmlcall.proofs.DocumentPassing.{held_call, held_reply, answered}
use Rattle.sv_xmlcall.proofs.TagsBack.{Continues, not_read, IsOneOf, ahead, close_back, only_one, end_back}
use Rattle.sv_xmlcall.proofs.TextsBack.{text_back}
use Rattle.sv_xmlcall.proofs.NestedBack.{value_back}
use Rattle.sv_xmlcall.proofs.SpelledLaws.{held_reply_is}
use Rattle.sv_xmlcall.proofs.DocumentsBack.{head_back, done_back, each_back}

-- the params of a call and its end were read
record ParamsBack (limits : Limits) (method bs : List ℕ) (spelled : Spelled) : Type 0 where
  pub params : ParamsText
  pub right : ArePossible params
  pub ending : Ending
  pub ends : IsEnding ending
  pub rest : List ℕ
  pub parts : bs ≡ printed_params params ++ printed_end tag.EndMethodCall ending ++ rest
  pub goes : run limits (at (At (AtDone (held_call limits method (params_of params)))) [] (count_behind_values limits (params_of params) 0)) rest ≡ Read spelled

params_parts : (gap s r1 e ep r2 ending r : List ℕ) → r1 ≡ e ++ ep ++ r2 → r2 ≡ ending ++ r → gap ++ s ++ r1 ≡ gap ++ s ++ e ++ ep ++ ending ++ r
params_parts gap s r1 e ep r2 ending r a b = ap (λ (x : List ℕ). gap ++ s ++ x) (a ∙ ap (λ (x : List ℕ). e ++ ep ++ x) b) ∙ regroup gap s e ep ending r
  where
    regroup : (gap s e ep ending r : List ℕ) → gap ++ s ++ (e ++ ep ++ (ending ++ r)) ≡ gap ++ s ++ e ++ ep ++ ending ++ r
    regroup gap s e ep ending r = simp append_assoc refl

abbrev CalledGoes : Limits → List ℕ → Tag → List ℕ → Spelled → Type 0
CalledGoes limits method t rest spelled = Continues limits (enter limits (AtCalled method) t [] 0) rest spelled

params_of_tag : (limits : Limits) (method bs : List ℕ) (spelled : Spelled) (gap : List ℕ) (t : Tag) (rest : List ℕ) → IsWhite gap → bs ≡ gap ++ spelling t ++ rest
    → IsOneOf t (tags_of (AtCalled method)) → CalledGoes limits method t rest spelled → ParamsBack limits method bs spelled
params_of_tag limits method bs spelled gap t rest w p (inl is) c =
    let each = each_back (suc (length rest)) limits method no_tree 0 rest spelled (le_refl (suc (length rest))) (subst (λ (x : Tag). CalledGoes limits method x rest spelled) is c) in
    let values = held_values limits (values_of each.params) no_tree 0 in
    let e = end_back limits (AtParamsEnd method values) tag.EndMethodCall [] (count_behind_values limits (values_of each.params) 0) each.rest spelled (record { only = refl; goes_on = tt; shut = λ frames count. refl }) each.goes in
    record {
      params = Params gap each.params each.ending;
      right = (w, each.right, each.ends);
      ending = e.ending;
      ends = e.right;
      rest = e.rest;
      parts = p ∙ ap (λ (x : Tag). gap ++ spelling x ++ rest) is
          ∙ params_parts gap (spelling tag.Params) rest (printed_each each.params) (printed_end tag.EndParams each.ending) each.rest (printed_end tag.EndMethodCall e.ending) e.rest each.parts e.parts;
      goes = e.goes;
    }
params_of_tag limits method bs spelled gap t rest w p (inr (inl is)) c =
    let e = end_back limits (AtParamsEnd method no_tree) tag.EndMethodCall [] 0 rest spelled (record { only = refl; goes_on = tt; shut = λ frames count. refl })
    (subst (λ (x : Tag). CalledGoes limits method x rest spelled) is c) in
    record {
      params = NoParams gap;
      right = w;
      ending = e.ending;
      ends = e.right;
      rest = e.rest;
      parts = p ∙ ap (λ (x : Tag). gap ++ spelling x ++ rest) is ∙ ap (λ (x : List ℕ). gap ++ spelling tag.NoParams ++ x) e.parts
          ∙ sym (append_assoc (gap ++ spelling tag.NoParams) (printed_end tag.EndMethodCall e.ending) e.rest);
      goes = e.goes;
    }
params_of_tag limits method bs spelled gap t rest w p (inr (inr (inl is))) c =
    let e = close_back limits (AtCalled method) tag.EndMethodCall [] 0 gap rest bs spelled w (p ∙ ap (λ (x : Tag). gap ++ spelling x ++ rest) is)
    (subst (λ (x : Tag). CalledGoes limits method x rest spelled) is c) in
    record { params = Without; right = tt; ending = e.ending; ends = e.right; rest = e.rest; parts = e.parts; goes = e.goes }
params_of_tag limits method bs spelled gap t rest w p (inr (inr (inr o))) c = absurd o

params_back : (limits : Limits) (method bs : List ℕ) (spelled : Spelled) → run limits (at (At (AtCalled method)) [] 0) bs ≡ Read spelled → ParamsBack limits method bs spelled
params_back limits method bs spelled e =
    let a = ahead limits (AtCalled method) [] 0 bs spelled tt e in
    params_of_tag limits method bs spelled a.gap a.t a.rest a.white a.parts a.one_of a.goes

not_true : {P : Type 0} → false ≡ true → P
not_true e = cc e

pub named_back : (letters : List Letter) → may_end InMethod (text_of letters) ≡ true → letters ≢ []
named_back letters m e = let f : false ≡ true = sym (ap (λ (x : List Letter). may_end InMethod (text_of x)) e) ∙ m in not_true f

call_parts : (h b r1 bn n r2 t s r3 p ending after : List ℕ) → r1 ≡ bn ++ n ++ r2 → r2 ≡ t ++ s ++ r3 → r3 ≡ p ++ ending ++ after
    → h ++ b ++ r1 ≡ h ++ b ++ bn ++ n ++ t ++ s ++ p ++ ending ++ after
call_parts h b r1 bn n r2 t s r3 p ending after x y z =
    ap (λ (q : List ℕ). h ++ b ++ q) (x ∙ ap (λ (q : List ℕ). bn ++ n ++ q) (y ∙ ap (λ (q : List ℕ). t ++ s ++ q) z)) ∙ regroup h b bn n t s p ending after
  where
    regroup : (h b bn n t s p ending after : List ℕ) → h ++ b ++ (bn ++ n ++ (t ++ s ++ (p ++ ending ++ after))) ≡ h ++ b ++ bn ++ n ++ t ++ s ++ p ++ ending ++ after
    regroup h b bn n t s p ending after = simp append_assoc refl

call_same : (one two : CallTree) → ACall one ≡ ACall two → one ≡ two
call_same one two e = cc e

reply_same : (one two : Reply) → AReply one ≡ AReply two → one ≡ two
reply_same one two e = cc e

abbrev call_tree : List ℕ → Trees → CallTree
call_tree method params = record { method = method; params = params }

-- a text that is read as a call
pub record CallBack (limits : Limits) (bs : List ℕ) (spelled : Spelled) : Type 0 where
  pub text : CallText
  pub right : IsCall text
  pub printed : printed_call text ≡ bs
  pub same : ACall (call_tree (text_of text.name) (held_values limits (params_of text.params) no_tree 0)) ≡ spelled
  pub few : count_behind_values limits (params_of text.params) 0 ≤ limits.values

pub call_text : (limits : Limits) (bs : List ℕ) (spelled : Spelled) → run limits (start OfCall) bs ≡ Read spelled → CallBack limits bs spelled
call_text limits bs spelled e =
    let h = head_back limits OfCall bs spelled e in
    let a = ahead limits AtMethod [] 0 h.rest spelled tt h.goes in
    let is : a.t ≡ tag.MethodName = only_one a.t tag.MethodName (tags_of AtMethod) refl a.one_of in
    let go : run limits (in_text InMethod [] [] 0) a.rest ≡ Read spelled = subst (λ (x : Tag). Continues limits (enter limits AtMethod x [] 0) a.rest spelled) is a.goes in
    let t = text_back (length a.rest) limits InMethod [] [] 0 a.rest spelled (le_refl (length a.rest)) go in
    let method = text_of t.letters in
    let p = params_back limits method t.rest spelled t.goes in
    let values = params_of p.params in
    let behind = count_behind_values limits values 0 in
    let d = done_back limits behind (held_call limits method values) p.rest spelled p.goes in
    record {
      text = record { head = h.head; before_name = a.gap; name = t.letters; inside = t.inside; params = p.params; ending = p.ending; after = p.rest };
      right = record {
        head = h.right;
        before_name = a.white;
        letters = t.right;
        named = named_back t.letters t.may;
        inside = t.white;
        params = p.right;
        ending = p.ends;
        after = d.white;
      };
      printed = sym (h.parts ∙ call_parts (printed_head h.head) (spelling tag.MethodCall) h.rest a.gap (spelling tag.MethodName) a.rest (printed_text t.letters) (printed_shut tag.EndMethodName t.inside) t.rest
          (printed_params p.params) (printed_end tag.EndMethodCall p.ending) p.rest (a.parts ∙ ap (λ (x : Tag). a.gap ++ spelling x ++ a.rest) is) t.parts p.parts);
      same = d.same;
      few = d.few;
    }

pub call_back : (limits : Limits) (bs : List ℕ) (call : CallTree) → limits.values ≤ limits.keeping → run limits (start OfCall) bs ≡ Read (ACall call) → SpellsCall bs call
call_back limits bs call keep e =
    let c = call_text limits bs (ACall call) e in
    let values = params_of c.text.params in
    let behind = count_behind_values limits values 0 in
    let counted : behind ≡ min (0 + size_of_values values) (suc limits.values) = count_min_values limits values 0 (omega arith) in
    let few : size_of_values values ≤ limits.values = omega (arith, c.few) in
    let kept : held_values limits values no_tree 0 ≡ values = held_values_are limits values no_tree 0 (omega arith) (omega arith) in
    record { text = c.text; right = c.right; printed = c.printed; means = ap (call_tree (text_of c.text.name)) (sym kept) ∙ call_same (call_tree (text_of c.text.name) (held_values limits values no_tree 0)) call c.same }

-- the end of a reply was read
record ReplyEnd (limits : Limits) (reply : Reply) (count : ℕ) (bs : List ℕ) (spelled : Spelled) : Type 0 where
  pub ending : Ending
  pub ends : IsEnding ending
  pub after : List ℕ
  pub white : IsWhite after
  pub parts : bs ≡ printed_end tag.EndMethodResponse ending ++ after
  pub same : AReply reply ≡ spelled
  pub few : count ≤ limits.values

reply_end : (limits : Limits) (reply : Reply) (count : ℕ) (bs : List ℕ) (spelled : Spelled) → run limits (at (At (AtResponseEnd reply)) [] count) bs ≡ Read spelled → ReplyEnd limits reply count bs spelled
reply_end limits reply count bs spelled e =
    let c = end_back limits (AtResponseEnd reply) tag.EndMethodResponse [] count bs spelled (record { only = refl; goes_on = tt; shut = λ frames count. refl }) e in
    let d = done_back limits count (AReply reply) c.rest spelled c.goes in
    record { ending = c.ending; ends = c.right; after = c.rest; white = d.white; parts = c.parts; same = d.same; few = d.few }

-- what a reply holds and its end were read
record AnswerBack (limits : Limits) (bs : List ℕ) (spelled : Spelled) : Type 0 where
  pub answer : AnswerText
  pub right : IsAnswer answer
  pub ending : Ending
  pub ends : IsEnding ending
  pub after : List ℕ
  pub white : IsWhite after
  pub parts : bs ≡ printed_answer answer ++ printed_end tag.EndMethodResponse ending ++ after
  pub same : AReply (held_reply limits answer) ≡ spelled
  pub few : count_behind limits (answered answer) 0 ≤ limits.values

answer_parts : (gap s r0 g1 p r1 g2 tail v r2 e r3 ep r4 ending after : List ℕ) → r0 ≡ g1 ++ p ++ r1 → r1 ≡ g2 ++ tail → tail ≡ v ++ r2 → r2 ≡ e ++ r3 → r3 ≡ ep ++ r4 → r4 ≡ ending ++ after
    → gap ++ s ++ r0 ≡ gap ++ s ++ (g1 ++ p ++ g2 ++ v ++ e) ++ ep ++ ending ++ after
answer_parts gap s r0 g1 p r1 g2 tail v r2 e r3 ep r4 ending after a b c d f g =
    ap (λ (x : List ℕ). gap ++ s ++ x) (a ∙ ap (λ (x : List ℕ). g1 ++ p ++ x) (b ∙ ap (λ (x : List ℕ). g2 ++ x) (c ∙ ap (λ (x : List ℕ). v ++ x) (d ∙ ap (λ (x : List ℕ). e ++ x) (f ∙ ap (λ (x : List ℕ). ep ++ x) g)))))
    ∙ regroup gap s g1 p g2 v e ep ending after
  where
    regroup : (gap s g1 p g2 v e ep ending after : List ℕ)
        → gap ++ s ++ (g1 ++ p ++ (g2 ++ (v ++ (e ++ (ep ++ (ending ++ after)))))) ≡ gap ++ s ++ (g1 ++ p ++ g2 ++ v ++ e) ++ ep ++ ending ++ after
    regroup gap s g1 p g2 v e ep ending after = simp append_assoc refl

pub few_values : (limits : Limits) (value : Tree) → count_behind limits value 0 ≤ limits.values → count_behind limits value 0 ≤ limits.keeping → held limits value 0 ≡ value
few_values limits value few keep =
    let counted : count_behind limits value 0 ≡ min (0 + size value) (suc limits.values) = count_min limits value 0 (omega arith) in
    held_is limits value 0 (omega arith) (omega arith)

value_answer : (limits : Limits) (bs : List ℕ) (spelled : Spelled) (gap rest : List ℕ) → IsWhite gap → bs ≡ gap ++ spelling tag.Params ++ rest
    → run limits (at (At AtReplyParam) [] 0) rest ≡ Read spelled → AnswerBack limits bs spelled
value_answer limits bs spelled gap rest w p e =
    let a = ahead limits AtReplyParam [] 0 rest spelled tt e in
    let is : a.t ≡ tag.Param = only_one a.t tag.Param (tags_of AtReplyParam) refl a.one_of in
    let go : run limits (at (At AtValue) (InReply ∷ []) 0) a.rest ≡ Read spelled = subst (λ (x : Tag). Continues limits (enter limits AtReplyParam x [] 0) a.rest spelled) is a.goes in
    let g = value_back limits (InReply ∷ []) 0 a.rest spelled go in
    let v = g.value in
    let value = held limits (value_of v.value) 0 in
    let behind = count_behind limits (value_of v.value) 0 in
    let one = end_back limits (AtReplyParamEnd value) tag.EndParam [] behind v.rest spelled (record { only = refl; goes_on = tt; shut = λ frames count. refl }) v.goes in
    let two = end_back limits (AtReplyParamsEnd value) tag.EndParams [] behind one.rest spelled (record { only = refl; goes_on = tt; shut = λ frames count. refl }) one.goes in
    let r = reply_end limits (Returns value) behind two.rest spelled two.goes in
    record {
      answer = Answer gap (record { before = a.gap; before_value = g.gap; value = v.value; ending = one.ending }) two.ending;
      right = (w, (a.white, g.white, v.right, one.right), two.right);
      ending = r.ending;
      ends = r.ends;
      after = r.after;
      white = r.white;
      parts = p ∙ answer_parts gap (spelling tag.Params) rest a.gap (spelling tag.Param) a.rest g.gap g.tail (printed_value v.value) v.rest (printed_end tag.EndParam one.ending) one.rest
          (printed_end tag.EndParams two.ending) two.rest (printed_end tag.EndMethodResponse r.ending) r.after
          (a.parts ∙ ap (λ (x : Tag). a.gap ++ spelling x ++ a.rest) is) g.parts v.parts one.parts two.parts r.parts;
      same = r.same;
      few = r.few;
    }

abbrev Nothing : Option Reply
Nothing = None

abbrev Something : Reply → Option Reply
Something reply = Some reply

none_some : {P : Type 0} (reply : Reply) → Nothing ≡ Some reply → P
none_some reply e = cc e

some_is : (one two : Reply) → Something one ≡ Some two → one ≡ two
some_is one two e = cc e

-- a struct that is a fault
pub record FaultBack (value : Tree) (reply : Reply) : Type 0 where
  pub number : ℤ
  pub content : List ℕ
  pub is : IsFault value number content
  pub same : reply ≡ Faults number content

names_are : (code string : List ℕ) (number : ℤ) (content : List ℕ) (reply : Reply) → named_fault (bytes_eq code code_name && bytes_eq string string_name) number content ≡ Some reply
    → (code ≡ code_name) × (string ≡ string_name) × (reply ≡ Faults number content)
names_are code string number content reply e = elim (cases_Bool (bytes_eq code code_name && bytes_eq string string_name)) [
  | inl b ↦
      let p = and_parts (bytes_eq code code_name) (bytes_eq string string_name) b in
      let f : Something (Faults number content) ≡ Some reply = rw b at e in
      ((bytes_eq-Decides code code_name).0 p.0, (bytes_eq-Decides string string_name).0 p.1, sym (some_is (Faults number content) reply f))
  | inr b ↦ let f : Nothing ≡ Some reply = rw b at e in none_some reply f
]

two_back : (first : List ℕ) (one : Tree) (second : List ℕ) (more : Tree) (reply : Reply) → two_of first one second more ≡ Some reply → FaultBack (structure (member first one (member second more no_member))) reply
two_back first (integer number) second (text content) reply e =
    let n = names_are first second number content reply e in
    record {
      number = number;
      content = content;
      is = inl (ap (λ (x : List ℕ). structure (member x (integer number) (member second (text content) no_member))) n.0 ∙ ap (λ (x : List ℕ). structure (member code_name (integer number) (member x (text content) no_member))) n.1);
      same = n.2;
    }
two_back first (text content) second (integer number) reply e =
    let n = names_are second first number content reply e in
    record {
      number = number;
      content = content;
      is = inr (ap (λ (x : List ℕ). structure (member x (text content) (member second (integer number) no_member))) n.1 ∙ ap (λ (x : List ℕ). structure (member string_name (text content) (member x (integer number) no_member))) n.0);
      same = n.2;
    }
two_back first one second more reply e = none_some reply e

pub fault_back : (value : Tree) (reply : Reply) → fault_of value ≡ Some reply → FaultBack value reply
fault_back (structure (member first one (member second more no_member))) reply e = two_back first one second more reply e
fault_back value reply e = none_some reply e

stuck_back : {P : Type 0} (limits : Limits) (count : ℕ) (bs : List ℕ) (spelled : Spelled) → run limits (at Stuck [] count) bs ≡ Read spelled → P
stuck_back limits count [] spelled e = absurd (not_read limits count 0 spelled e)
stuck_back limits count (b ∷ bs) spelled e = absurd (not_read limits count (suc (length bs)) spelled e)

-- the value of a fault is that of one
faulty : (limits : Limits) (count : ℕ) (bs : List ℕ) (spelled : Spelled) (fault : Option Reply) → run limits (after_fault fault [] count) bs ≡ Read spelled
    → (reply : Reply) × (fault ≡ Some reply) × (run limits (at (At (AtFaultEnd reply)) [] count) bs ≡ Read spelled)
faulty limits count bs spelled (Some reply) e = (reply, refl, e)
faulty limits count bs spelled None e = stuck_back limits count bs spelled e

pub fault_kept : (limits : Limits) (count : ℕ) (value : Tree) (reply : Reply) → whole_fault limits count value ≡ Some reply → (count ≤ limits.keeping) × (fault_of value ≡ Some reply)
fault_kept limits count value reply e = elim (cases_Bool (leb count limits.keeping)) [
  | inl k ↦ (leb-true count limits.keeping k, rw k at e)
  | inr k ↦ let f : Nothing ≡ Some reply = rw k at e in none_some reply f
]

fault_parts : (gap s r1 g2 tail v r2 e r3 ending after : List ℕ) → r1 ≡ g2 ++ tail → tail ≡ v ++ r2 → r2 ≡ e ++ r3 → r3 ≡ ending ++ after
    → gap ++ s ++ r1 ≡ gap ++ s ++ g2 ++ v ++ e ++ ending ++ after
fault_parts gap s r1 g2 tail v r2 e r3 ending after a b c d =
    ap (λ (x : List ℕ). gap ++ s ++ x) (a ∙ ap (λ (x : List ℕ). g2 ++ x) (b ∙ ap (λ (x : List ℕ). v ++ x) (c ∙ ap (λ (x : List ℕ). e ++ x) d))) ∙ regroup gap s g2 v e ending after
  where
    regroup : (gap s g2 v e ending after : List ℕ) → gap ++ s ++ (g2 ++ (v ++ (e ++ (ending ++ after)))) ≡ gap ++ s ++ g2 ++ v ++ e ++ ending ++ after
    regroup gap s g2 v e ending after = simp append_assoc refl

fault_answer : (limits : Limits) (bs : List ℕ) (spelled : Spelled) (gap rest : List ℕ) → IsWhite gap → bs ≡ gap ++ spelling tag.Fault ++ rest
    → run limits (at (At AtValue) (InFault ∷ []) 0) rest ≡ Read spelled → AnswerBack limits bs spelled
fault_answer limits bs spelled gap rest w p e =
    let g = value_back limits (InFault ∷ []) 0 rest spelled e in
    let v = g.value in
    let behind = count_behind limits (value_of v.value) 0 in
    let value = held limits (value_of v.value) 0 in
    let whole = faulty limits behind v.rest spelled (whole_fault limits behind value) v.goes in
    let kept = fault_kept limits behind value whole.0 whole.1 in
    let close = end_back limits (AtFaultEnd whole.0) tag.EndFault [] behind v.rest spelled (record { only = refl; goes_on = tt; shut = λ frames count. refl }) whole.2 in
    let r = reply_end limits whole.0 behind close.rest spelled close.goes in
    let f = fault_back (value_of v.value) whole.0 (ap fault_of (sym (few_values limits (value_of v.value) r.few kept.0)) ∙ kept.1) in
    record {
      answer = Fault gap g.gap v.value f.number f.content close.ending;
      right = (w, g.white, v.right, f.is, close.right);
      ending = r.ending;
      ends = r.ends;
      after = r.after;
      white = r.white;
      parts = p ∙ fault_parts gap (spelling tag.Fault) rest g.gap g.tail (printed_value v.value) v.rest (printed_end tag.EndFault close.ending) close.rest (printed_end tag.EndMethodResponse r.ending) r.after
          g.parts v.parts close.parts r.parts;
      same = ap AReply (sym f.same) ∙ r.same;
      few = r.few;
    }

abbrev ResponseGoes : Limits → Tag → List ℕ → Spelled → Type 0
ResponseGoes limits t rest spelled = Continues limits (enter limits AtResponse t [] 0) rest spelled

answer_of_tag : (limits : Limits) (bs : List ℕ) (spelled : Spelled) (gap : List ℕ) (t : Tag) (rest : List ℕ) → IsWhite gap → bs ≡ gap ++ spelling t ++ rest
    → IsOneOf t (tags_of AtResponse) → ResponseGoes limits t rest spelled → AnswerBack limits bs spelled
answer_of_tag limits bs spelled gap t rest w p (inl is) c =
    value_answer limits bs spelled gap rest w (p ∙ ap (λ (x : Tag). gap ++ spelling x ++ rest) is) (subst (λ (x : Tag). ResponseGoes limits x rest spelled) is c)
answer_of_tag limits bs spelled gap t rest w p (inr (inl is)) c =
    fault_answer limits bs spelled gap rest w (p ∙ ap (λ (x : Tag). gap ++ spelling x ++ rest) is) (subst (λ (x : Tag). ResponseGoes limits x rest spelled) is c)
answer_of_tag limits bs spelled gap t rest w p (inr (inr o)) c = absurd o

reply_parts : (h b r1 a ending after : List ℕ) → r1 ≡ a ++ ending ++ after → h ++ b ++ r1 ≡ h ++ b ++ a ++ ending ++ after
reply_parts h b r1 a ending after p = ap (λ (x : List ℕ). h ++ b ++ x) p ∙ regroup h b a ending after
  where
    regroup : (h b a ending after : List ℕ) → h ++ b ++ (a ++ ending ++ after) ≡ h ++ b ++ a ++ ending ++ after
    regroup h b a ending after = simp append_assoc refl

-- a text that is read as a reply
pub record ReplyBack (limits : Limits) (bs : List ℕ) (spelled : Spelled) : Type 0 where
  pub text : ReplyText
  pub right : IsReply text
  pub printed : printed_reply text ≡ bs
  pub same : AReply (held_reply limits text.answer) ≡ spelled
  pub few : count_behind limits (answered text.answer) 0 ≤ limits.values

pub reply_text : (limits : Limits) (bs : List ℕ) (spelled : Spelled) → run limits (start OfReply) bs ≡ Read spelled → ReplyBack limits bs spelled
reply_text limits bs spelled e =
    let h = head_back limits OfReply bs spelled e in
    let t = ahead limits AtResponse [] 0 h.rest spelled tt h.goes in
    let a = answer_of_tag limits h.rest spelled t.gap t.t t.rest t.white t.parts t.one_of t.goes in
    record {
      text = record { head = h.head; answer = a.answer; ending = a.ending; after = a.after };
      right = record { head = h.right; answer = a.right; ending = a.ends; after = a.white };
      printed = sym (h.parts ∙ reply_parts (printed_head h.head) (spelling tag.MethodResponse) h.rest (printed_answer a.answer) (printed_end tag.EndMethodResponse a.ending) a.after a.parts);
      same = a.same;
      few = a.few;
    }

pub reply_back : (limits : Limits) (bs : List ℕ) (reply : Reply) → limits.values ≤ limits.keeping → run limits (start OfReply) bs ≡ Read (AReply reply) → SpellsReply bs reply
reply_back limits bs reply keep e =
    let r = reply_text limits bs (AReply reply) e in
    let value = answered r.text.answer in
    let counted : count_behind limits value 0 ≡ min (0 + size value) (suc limits.values) = count_min limits value 0 (omega arith) in
    let few : size value ≤ limits.values = omega (arith, r.few) in
    record { text = r.text; right = r.right; printed = r.printed; means = sym (held_reply_is limits r.text.answer few keep) ∙ reply_same (held_reply limits r.text.answer) reply r.same }
