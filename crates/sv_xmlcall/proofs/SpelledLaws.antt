-- A text that spells something is read as that, and spells nothing else.
use Rattle.std.proofs.Common.{◌≡◌, ℕ, suc, ◌+◌, ◌<◌, ◌≤◌, min, List, [], ◌∷◌, ◌++◌, length, Ok, Err, Result, inl, inr, refl, sym, ap, ◌∙◌, arith, append_assoc, append-nil, codes, ◌⊎◌, le_trans}
use Rattle.std.proofs.lemmas.Bool.{cases_lt, lt-ltb, le-ltb}
use Rattle.sv_xmlcall.specs.Tags.{spelling}
use Rattle.sv_xmlcall.specs.Spelled.{Spelled, ACall, AReply}
use Rattle.sv_xmlcall.specs.Trees.{Trees, no_tree, CallTree, Reply, Returns, call_view, reply_view}
use Rattle.sv_xmlcall.specs.Sizes.{nested, nested_values, size, size_of_values}
use Rattle.sv_xmlcall.specs.Spells.{text_of, printed_end, value_of}
use Rattle.sv_xmlcall.specs.SpelledTexts.{HeadText, NoDeclaration, Declared, printed_head, ParamText, printed_param, AreParams, printed_each, values_of, ParamsText, Without, NoParams, Params, ArePossible, printed_params, params_of, CallText, IsCall, printed_call, call_of, AnswerText, Answer, Fault, IsAnswer, printed_answer, answer_of, ReplyText, IsReply, printed_reply, Spells, SpellsCall, SpellsReply}
use Rattle.sv_xmlcall.specs.Given.{depth, amount, Refuses, IsWithin, GivesCall, GivesReply, IsBackCall, IsBackReply}
use Rattle.sv_xmlcall.specs.Answers.{verdict_of, FaultIs, ReadsCall, ReadsReply}
use Rattle.sv_xmlcall.specs.Machine.{Limits, the_limits, Document, OfCall, OfReply, AtMethod, AtCalled, AtParams, AtResponse, AtReplyParam, AtValue, AtTextEnd, InMethod, InParam, InReply, State, Verdict, Read, NotRead, TooMany, TooDeep, At, Close, at, run, kept, start, unless_many}
use Rattle.sv_xmlcall.specs.declared.tag.Tag.TheVariants as tag
use Rattle.sv_xmlcall.specs.declared.call.Call.{Call}
use Rattle.sv_xmlcall.specs.declared.call.Answered.{Answered}
use Rattle.sv_xmlcall.specs.declared.call.CallFault.{CallFault}
use Rattle.sv_xmlcall.specs.declared.call.CallFault.TheVariants as fault
use Rattle.sv_xmlcall.proofs.Passing.{Passes, Stops, ◌▷◌, ◌▷!◌, ◌!▷◌, white, shuts, in_text, text_pass}
use Rattle.sv_xmlcall.proofs.ValuePassing.{count_behind, count_behind_values, held, held_values, gate_value}
use Rattle.sv_xmlcall.proofs.HeldLaws.{count_min, count_min_values, held_is, held_values_are}
use Rattle.sv_xmlcall.proofs.DocumentPassing.{head_place, head_pass, call_begin, reply_begin, named, param_pass, call_run, answered, held_reply, fault_size, fault_nested, reply_run}
use Rattle.sv_xmlcall.proofs.DeepLaws.{value_stops}

each_stops : (limits : Limits) (method : List ℕ) (before : Trees) (count : ℕ) (params : List ParamText) → AreParams params → limits.nesting < nested_values (values_of params)
    → Stops limits (at (At (AtParams method before)) [] count) (printed_each params)
each_stops limits method before count [] p over = absurd (omega arith)
each_stops limits method before count (param ∷ params) p over = elim (cases_lt limits.nesting (nested (value_of param.value))) [
  | inl h ↦
      let begin : Passes limits (at (At (AtParams method before)) [] count) (spelling tag.Param) (at (At AtValue) (InParam method before ∷ []) count) = record { goes = λ rest. refl } in
      white limits (AtParams method before) [] count param.before p.0.0 ▷ begin ▷ white limits AtValue (InParam method before ∷ []) count param.before_value p.0.1
      ▷! value_stops limits (at (At AtValue) (InParam method before ∷ []) count) (InParam method before ∷ []) count param.value (gate_value limits (InParam method before ∷ []) count) p.0.2 (omega arith)
      !▷ printed_end tag.EndParam param.ending !▷ printed_each params
  | inr h ↦
      let behind = count_behind limits (value_of param.value) count in
      param_pass limits method before count param p.0 h
      ▷! each_stops limits method (kept limits behind before (held limits (value_of param.value) count)) behind params p.1 (omega arith)
]

params_stop : (limits : Limits) (method : List ℕ) (params : ParamsText) → ArePossible params → limits.nesting < nested_values (params_of params)
    → Stops limits (at (At (AtCalled method)) [] 0) (printed_params params)
params_stop limits method Without p over = absurd (omega arith)
params_stop limits method (NoParams before) p over = absurd (omega arith)
params_stop limits method (Params before params ending) p over =
    let begin : Passes limits (at (At (AtCalled method)) [] 0) (spelling tag.Params) (at (At (AtParams method no_tree)) [] 0) = record { goes = λ rest. refl } in
    white limits (AtCalled method) [] 0 before p.0 ▷ begin ▷! each_stops limits method no_tree 0 params p.1 over !▷ printed_end tag.EndParams ending

stopped : {limits : Limits} {s : State} {bytes : List ℕ} → Stops limits s bytes → run limits s bytes ≡ TooDeep
stopped {limits} {s} {bytes} p = ap (run limits s) (sym (append-nil bytes)) ∙ p.stops []

pub call_deep : (limits : Limits) (call : CallText) → IsCall call → limits.nesting < nested_values (params_of call.params) → run limits (start OfCall) (printed_call call) ≡ TooDeep
call_deep limits call c over =
    let method = text_of call.name in
    let name_begin : Passes limits (at (At AtMethod) [] 0) (spelling tag.MethodName) (in_text InMethod [] [] 0) = record { goes = λ rest. refl } in
    let name_close : Passes limits (in_text InMethod method [] 0) (spelling tag.EndMethodName) (at (Close (AtTextEnd InMethod method)) [] 0) =
    record { goes = λ rest. rw (named call.name c.named) refl } in
    stopped
    (head_pass limits OfCall call.head c.head ▷ call_begin limits call.head ▷ white limits AtMethod [] 0 call.before_name c.before_name ▷ name_begin
    ▷ text_pass limits InMethod [] [] 0 call.name c.letters
    ▷ shuts limits (in_text InMethod method [] 0) tag.EndMethodName (AtTextEnd InMethod method) [] 0 call.inside name_close c.inside
    ▷! params_stop limits method call.params c.params over
    !▷ printed_end tag.EndMethodCall call.ending !▷ call.after)

many : (limits : Limits) (count : ℕ) (spelled : Spelled) → limits.values < count → unless_many limits count (Read spelled) ≡ TooMany
many limits count spelled h = rw (lt-ltb limits.values count h) refl

few : (limits : Limits) (count : ℕ) (spelled : Spelled) → count ≤ limits.values → unless_many limits count (Read spelled) ≡ Read spelled
few limits count spelled h = rw (le-ltb limits.values count h) refl

-- what the text of a call comes to
pub call_verdict : (limits : Limits) (call : CallText) → IsCall call → limits.values ≤ limits.keeping → run limits (start OfCall) (printed_call call) ≡ verdict_of limits (ACall (call_of call))
call_verdict limits call c keep =
    let values = params_of call.params in
    let behind = count_behind_values limits values 0 in
    let counted : behind ≡ min (0 + size_of_values values) (suc limits.values) = count_min_values limits values 0 (omega arith) in
    elim (cases_lt limits.nesting (nested_values values)) [
      | inl h ↦ rw (lt-ltb limits.nesting (nested_values values) h) (call_deep limits call c h)
      | inr h ↦ elim (cases_lt limits.values (size_of_values values)) [
        | inl m ↦
            rw (le-ltb limits.nesting (nested_values values) h, lt-ltb limits.values (size_of_values values) m)
            (call_run limits call c h ∙ many limits behind (ACall (record { method = text_of call.name; params = held_values limits values no_tree 0 })) (omega arith))
        | inr m ↦
            rw (le-ltb limits.nesting (nested_values values) h, le-ltb limits.values (size_of_values values) m)
            (call_run limits call c h ∙ few limits behind (ACall (record { method = text_of call.name; params = held_values limits values no_tree 0 })) (omega arith)
            ∙ ap (λ (x : Trees). Read (ACall (record { method = text_of call.name; params = x }))) (held_values_are limits values no_tree 0 (omega arith) (omega arith)))
      ]
    ]

answer_stops : (limits : Limits) (answer : AnswerText) → IsAnswer answer → 2 ≤ limits.nesting → limits.nesting < nested (answered answer)
    → Stops limits (at (At AtResponse) [] 0) (printed_answer answer)
answer_stops limits (Answer before param of_params) a two over =
    let p = a.1 in
    let params_begin : Passes limits (at (At AtResponse) [] 0) (spelling tag.Params) (at (At AtReplyParam) [] 0) = record { goes = λ rest. refl } in
    let begin : Passes limits (at (At AtReplyParam) [] 0) (spelling tag.Param) (at (At AtValue) (InReply ∷ []) 0) = record { goes = λ rest. refl } in
    let one : Stops limits (at (At AtReplyParam) [] 0) (printed_param param) =
    white limits AtReplyParam [] 0 param.before p.0 ▷ begin ▷ white limits AtValue (InReply ∷ []) 0 param.before_value p.1
    ▷! value_stops limits (at (At AtValue) (InReply ∷ []) 0) (InReply ∷ []) 0 param.value (gate_value limits (InReply ∷ []) 0) p.2 (omega arith)
    !▷ printed_end tag.EndParam param.ending in
    white limits AtResponse [] 0 before a.0 ▷ params_begin ▷! one !▷ printed_end tag.EndParams of_params
answer_stops limits (Fault before before_value value number content of_fault) a two over =
    let n = fault_nested (value_of value) number content a.3 in absurd (omega arith)

pub reply_deep : (limits : Limits) (reply : ReplyText) → IsReply reply → 2 ≤ limits.nesting → limits.nesting < nested (answered reply.answer)
    → run limits (start OfReply) (printed_reply reply) ≡ TooDeep
reply_deep limits reply r two over =
    stopped
    (head_pass limits OfReply reply.head r.head ▷ reply_begin limits reply.head ▷! answer_stops limits reply.answer r.answer two over
    !▷ printed_end tag.EndMethodResponse reply.ending !▷ reply.after)

depth_is : (answer : AnswerText) → IsAnswer answer → depth (AReply (answer_of answer)) ≡ nested (answered answer)
depth_is (Answer before param of_params) a = refl
depth_is (Fault before before_value value number content of_fault) a = sym (fault_nested (value_of value) number content a.3)

amount_is : (answer : AnswerText) → IsAnswer answer → amount (AReply (answer_of answer)) ≡ size (answered answer)
amount_is (Answer before param of_params) a = refl
amount_is (Fault before before_value value number content of_fault) a = sym (fault_size (value_of value) number content a.3)

pub held_reply_is : (limits : Limits) (answer : AnswerText) → size (answered answer) ≤ limits.values → limits.values ≤ limits.keeping → held_reply limits answer ≡ answer_of answer
held_reply_is limits (Answer before param of_params) l k = ap Returns (held_is limits (value_of param.value) 0 (omega arith) (omega arith))
held_reply_is limits (Fault before before_value value number content of_fault) l k = refl

-- limits within which each fault is read
pub record Ample (limits : Limits) : Type 0 where
  pub nesting : 2 ≤ limits.nesting
  pub values : 3 ≤ limits.values
  pub keeping : limits.values ≤ limits.keeping

-- what the text of a reply comes to
pub reply_verdict : (limits : Limits) (reply : ReplyText) → IsReply reply → Ample limits
    → run limits (start OfReply) (printed_reply reply) ≡ verdict_of limits (AReply (answer_of reply.answer))
reply_verdict limits reply r ample =
    let value = answered reply.answer in
    let spelled = AReply (answer_of reply.answer) in
    let behind = count_behind limits value 0 in
    let d = depth_is reply.answer r.answer in
    let a = amount_is reply.answer r.answer in
    let counted : behind ≡ min (0 + size value) (suc limits.values) = count_min limits value 0 (omega arith) in
    elim (cases_lt limits.nesting (nested value)) [
      | inl h ↦ rw (lt-ltb limits.nesting (depth spelled) (omega arith)) (reply_deep limits reply r ample.nesting h)
      | inr h ↦ elim (cases_lt limits.values (size value)) [
        | inl m ↦
            rw (le-ltb limits.nesting (depth spelled) (omega arith), lt-ltb limits.values (amount spelled) (omega arith))
            (reply_run limits reply r h ample.values (le_trans ample.values ample.keeping) ∙ many limits behind (AReply (held_reply limits reply.answer)) (omega arith))
        | inr m ↦
            rw (le-ltb limits.nesting (depth spelled) (omega arith), le-ltb limits.values (amount spelled) (omega arith))
            (reply_run limits reply r h ample.values (le_trans ample.values ample.keeping) ∙ few limits behind (AReply (held_reply limits reply.answer)) (omega arith)
            ∙ ap (λ (x : Reply). Read (AReply x)) (held_reply_is limits reply.answer m ample.keeping))
      ]
    ]

abbrev pub document_of : Spelled → Document
document_of (ACall call) = OfCall
document_of (AReply reply) = OfReply

-- what a text that spells something comes to
pub spelled_verdict : (limits : Limits) (bytes : List ℕ) (spelled : Spelled) → Ample limits → Spells bytes spelled
    → run limits (start (document_of spelled)) bytes ≡ verdict_of limits spelled
spelled_verdict limits bytes (ACall call) ample s =
    ap (run limits (start OfCall)) (sym s.printed) ∙ call_verdict limits s.text s.right ample.keeping ∙ ap (λ (c : CallTree). verdict_of limits (ACall c)) s.means
spelled_verdict limits bytes (AReply reply) ample s =
    ap (run limits (start OfReply)) (sym s.printed) ∙ reply_verdict limits s.text s.right ample ∙ ap (λ (r : Reply). verdict_of limits (AReply r)) s.means

-- limits that lift those of two texts
abbrev lifted : Spelled → Spelled → Limits
lifted one two = record { nesting = depth one + depth two + 2; values = amount one + amount two + 3; keeping = amount one + amount two + 3 }

ample_lifted : (one two : Spelled) → Ample (lifted one two)
ample_lifted one two = record { nesting = omega arith; values = omega arith; keeping = omega arith }

pub verdict_within : (limits : Limits) (spelled : Spelled) → depth spelled ≤ limits.nesting → amount spelled ≤ limits.values → verdict_of limits spelled ≡ Read spelled
verdict_within limits spelled d a = rw (le-ltb limits.nesting (depth spelled) d, le-ltb limits.values (amount spelled) a) refl

read_first : (one two : Spelled) (bytes : List ℕ) → Spells bytes one → run (lifted one two) (start (document_of one)) bytes ≡ Read one
read_first one two bytes s = spelled_verdict (lifted one two) bytes one (ample_lifted one two) s ∙ verdict_within (lifted one two) one (omega arith) (omega arith)

read_second : (one two : Spelled) (bytes : List ℕ) → Spells bytes two → run (lifted one two) (start (document_of two)) bytes ≡ Read two
read_second one two bytes s = spelled_verdict (lifted one two) bytes two (ample_lifted one two) s ∙ verdict_within (lifted one two) two (omega arith) (omega arith)

read_same : (one two : Spelled) → Read one ≡ Read two → one ≡ two
read_same one two e = cc e

left_read : (left : ℕ) (spelled : Spelled) → NotRead left ≡ Read spelled → ⊥
left_read left spelled e = cc e

-- a reply is no call
no_call : (limits : Limits) (head : HeadText) (rest : List ℕ)
    → (left : ℕ) × (run limits (at (At (head_place head OfCall)) [] 0) (spelling tag.MethodResponse ++ rest) ≡ NotRead left)
no_call limits (NoDeclaration before) rest = (suc (length (codes "esponse>" ++ rest)), rw (le-ltb limits.values 0 (omega arith)) refl)
no_call limits (Declared before declared after) rest = (suc (length (codes "esponse>" ++ rest)), rw (le-ltb limits.values 0 (omega arith)) refl)

reply_no_call : (limits : Limits) (reply : ReplyText) → IsReply reply → (left : ℕ) × (run limits (start OfCall) (printed_reply reply) ≡ NotRead left)
reply_no_call limits reply r =
    let a = printed_head reply.head in
    let b = spelling tag.MethodResponse in
    let c = printed_answer reply.answer in
    let d = printed_end tag.EndMethodResponse reply.ending in
    let parts : printed_reply reply ≡ a ++ (b ++ (c ++ (d ++ reply.after))) =
    append_assoc (a ++ b ++ c) d reply.after ∙ append_assoc (a ++ b) c (d ++ reply.after) ∙ append_assoc a b (c ++ (d ++ reply.after)) in
    let n = no_call limits reply.head (c ++ (d ++ reply.after)) in
    (n.0, ap (run limits (start OfCall)) parts ∙ (head_pass limits OfCall reply.head r.head).goes (b ++ (c ++ (d ++ reply.after))) ∙ n.1)

apart : (call : CallTree) (reply : Reply) (bytes : List ℕ) → SpellsCall bytes call → SpellsReply bytes reply → ⊥
apart call reply bytes c r =
    let limits = lifted (ACall call) (AReply reply) in
    let n = reply_no_call limits r.text r.right in
    left_read n.0 (ACall call) (sym n.1 ∙ ap (run limits (start OfCall)) r.printed ∙ read_first (ACall call) (AReply reply) bytes c)

-- no text spells two things
pub one_meaning : (bytes : List ℕ) (one two : Spelled) → Spells bytes one → Spells bytes two → one ≡ two
one_meaning bytes (ACall one) (ACall two) s t = read_same (ACall one) (ACall two) (sym (read_first (ACall one) (ACall two) bytes s) ∙ read_second (ACall one) (ACall two) bytes t)
one_meaning bytes (ACall one) (AReply two) s t = absurd (apart one two bytes s t)
one_meaning bytes (AReply one) (ACall two) s t = absurd (apart two one bytes t s)
one_meaning bytes (AReply one) (AReply two) s t = read_same (AReply one) (AReply two) (sym (read_first (AReply one) (AReply two) bytes s) ∙ read_second (AReply one) (AReply two) bytes t)

-- the three ways in which a text that spells something ends
abbrev pub Ways : Limits → Spelled → Verdict → Type 0
Ways limits spelled verdict =
    ((limits.nesting < depth spelled) × (verdict ≡ TooDeep))
    ⊎ (((depth spelled ≤ limits.nesting) × (limits.values < amount spelled) × (verdict ≡ TooMany))
    ⊎ ((depth spelled ≤ limits.nesting) × (amount spelled ≤ limits.values) × (verdict ≡ Read spelled)))

pub ways : (limits : Limits) (spelled : Spelled) (verdict : Verdict) → verdict ≡ verdict_of limits spelled → Ways limits spelled verdict
ways limits spelled verdict e = elim (cases_lt limits.nesting (depth spelled)) [
  | inl h ↦ inl (h, e ∙ rw (lt-ltb limits.nesting (depth spelled) h) refl)
  | inr h ↦ elim (cases_lt limits.values (amount spelled)) [
    | inl m ↦ inr (inl (h, m, e ∙ rw (le-ltb limits.nesting (depth spelled) h, lt-ltb limits.values (amount spelled) m) refl))
    | inr m ↦ inr (inr (h, m, e ∙ verdict_within limits spelled h m))
  ]
]

deep_many : TooDeep ≡ TooMany → ⊥
deep_many e = cc e

deep_read : (spelled : Spelled) → TooDeep ≡ Read spelled → ⊥
deep_read spelled e = cc e

many_read : (spelled : Spelled) → TooMany ≡ Read spelled → ⊥
many_read spelled e = cc e

deep_left : (left : ℕ) → TooDeep ≡ NotRead left → ⊥
deep_left left e = cc e

many_left : (left : ℕ) → TooMany ≡ NotRead left → ⊥
many_left left e = cc e

refuses : (spelled : Spelled) (fault : CallFault) (size : ℕ) (verdict : Verdict) → Ways the_limits spelled verdict → FaultIs fault size verdict → Refuses spelled fault
refuses spelled fault.TooDeep size verdict (inl w) f = w.0
refuses spelled fault.TooDeep size verdict (inr (inl w)) f = absurd (deep_many (sym f ∙ w.2))
refuses spelled fault.TooDeep size verdict (inr (inr w)) f = absurd (deep_read spelled (sym f ∙ w.2))
refuses spelled fault.TooManyValues size verdict (inl w) f = absurd (deep_many (sym w.1 ∙ f))
refuses spelled fault.TooManyValues size verdict (inr (inl w)) f = (w.0, w.1)
refuses spelled fault.TooManyValues size verdict (inr (inr w)) f = absurd (many_read spelled (sym f ∙ w.2))
refuses spelled (fault.NotACall place) size verdict (inl w) f = absurd (deep_left f.0 (sym w.1 ∙ f.1.0))
refuses spelled (fault.NotACall place) size verdict (inr (inl w)) f = absurd (many_left f.0 (sym w.2 ∙ f.1.0))
refuses spelled (fault.NotACall place) size verdict (inr (inr w)) f = absurd (left_read f.0 spelled (sym f.1.0 ∙ w.2))
refuses spelled fault.OutOfMemory size verdict w f = tt

-- what is read is what is spelled, within the limits
pub found_is : (spelled other : Spelled) (verdict : Verdict) → Ways the_limits spelled verdict → verdict ≡ Read other → (other ≡ spelled) × IsWithin spelled
found_is spelled other verdict (inl w) f = absurd (deep_read other (sym w.1 ∙ f))
found_is spelled other verdict (inr (inl w)) f = absurd (many_read other (sym w.2 ∙ f))
found_is spelled other verdict (inr (inr w)) f = (read_same other spelled (sym f ∙ w.2), (w.0, w.1))

call_same : (one two : CallTree) → ACall one ≡ ACall two → one ≡ two
call_same one two e = cc e

reply_same : (one two : Reply) → AReply one ≡ AReply two → one ≡ two
reply_same one two e = cc e

pub ample_limits : Ample the_limits
ample_limits = record { nesting = omega arith; values = omega arith; keeping = omega arith }

pub gives_call : (bytes : List ℕ) (result : Result Call CallFault) → ReadsCall (run the_limits (start OfCall) bytes) (length bytes) result
    → (spelled : CallTree) → SpellsCall bytes spelled → GivesCall spelled result
gives_call bytes (Ok call) r spelled s =
    let verdict = run the_limits (start OfCall) bytes in
    let f = found_is (ACall spelled) (ACall (call_view call)) verdict (ways the_limits (ACall spelled) verdict (spelled_verdict the_limits bytes (ACall spelled) ample_limits s)) r in
    (call_same (call_view call) spelled f.0, f.1)
gives_call bytes (Err fault) r spelled s =
    let verdict = run the_limits (start OfCall) bytes in
    refuses (ACall spelled) fault (length bytes) verdict (ways the_limits (ACall spelled) verdict (spelled_verdict the_limits bytes (ACall spelled) ample_limits s)) r

pub gives_reply : (bytes : List ℕ) (result : Result Answered CallFault) → ReadsReply (run the_limits (start OfReply) bytes) (length bytes) result
    → (spelled : Reply) → SpellsReply bytes spelled → GivesReply spelled result
gives_reply bytes (Ok answered) r spelled s =
    let verdict = run the_limits (start OfReply) bytes in
    let f = found_is (AReply spelled) (AReply (reply_view answered)) verdict (ways the_limits (AReply spelled) verdict (spelled_verdict the_limits bytes (AReply spelled) ample_limits s)) r in
    (reply_same (reply_view answered) spelled f.0, f.1)
gives_reply bytes (Err fault) r spelled s =
    let verdict = run the_limits (start OfReply) bytes in
    refuses (AReply spelled) fault (length bytes) verdict (ways the_limits (AReply spelled) verdict (spelled_verdict the_limits bytes (AReply spelled) ample_limits s)) r

within_again : (spelled : Spelled) (why : CallFault) → IsWithin spelled → Refuses spelled why → why ≡ fault.OutOfMemory
within_again spelled fault.TooDeep i r = absurd (omega (arith, i.0))
within_again spelled fault.TooManyValues i r = absurd (omega (arith, i.1, r.1))
within_again spelled (fault.NotACall place) i r = absurd r
within_again spelled fault.OutOfMemory i r = refl

-- what is within the limits and was written is given again
pub call_again : (call : CallTree) (result : Result Call CallFault) → IsWithin (ACall call) → GivesCall call result → IsBackCall call result
call_again call (Ok given) i g = g.0
call_again call (Err why) i g = within_again (ACall call) why i g

pub reply_again : (reply : Reply) (result : Result Answered CallFault) → IsWithin (AReply reply) → GivesReply reply result → IsBackReply reply result
reply_again reply (Ok given) i g = g.0
reply_again reply (Err why) i g = within_again (AReply reply) why i g
