-- What the printed text of a whole call or reply comes to.
use Rattle.std.proofs.Common.{◌≡◌, ◌≢◌, ℕ, suc, ◌+◌, ◌≤◌, min, Bool, true, false, ◌&&◌, eqb, List, [], ◌∷◌, ◌++◌, Some, inl, inr, refl, sym, ap, ◌∙◌, subst, arith, append_assoc, append-nil, encode_utf8, codes, IsUtf8, ℤ, Option}
use Rattle.std.proofs.lemmas.Bool.{cases_Bool, cases_lt, and_parts, lt-ltb, le-ltb, le-leb, eqb-true}
use lib.Utf8.{scalars, encodes, encode}
use Rattle.sv_xmlcall.specs.Tags.{spelling}
use Rattle.sv_xmlcall.specs.Spelled.{Spelled, ACall, AReply, fault_of}
use Rattle.sv_letters.specs.Letters.{allows, after, are_letters}
use Rattle.sv_xmlcall.specs.Trees.{Tree, Trees, no_tree, Reply, Returns, Faults}
use Rattle.sv_xmlcall.specs.Sizes.{nested, nested_values, size}
use Rattle.sv_xmlcall.specs.Spells.{Letter, character_of, text_of, Ending, IsEnding, printed_end, printed_value, value_of}
use Rattle.sv_xmlcall.specs.SpelledTexts.{HeadText, NoDeclaration, Declared, printed_head, IsHead, ParamText, IsParam, printed_param, AreParams, printed_each, values_of, ParamsText, Without, NoParams, Params, ArePossible, printed_params, params_of, CallText, IsCall, printed_call, AnswerText, Answer, Fault, IsFault, IsAnswer, printed_answer, ReplyText, IsReply, printed_reply}
use Rattle.sv_xmlcall.specs.Machine.{Limits, Document, OfCall, OfReply, Expecting, AtStart, AtDeclared, AtMethod, AtCalled, AtParams, AtParamEnd, AtParamsEnd, AtResponse, AtReplyParam, AtReplyParamEnd, AtReplyParamsEnd, AtFaultEnd, AtResponseEnd, AtDone, AtValue, AtTextEnd, InMethod, InParam, InReply, InFault, State, Read, At, Close, Prolog, at, run, after_fault, kept, start, is_empty, unless_many, whole_fault}
use Rattle.sv_letters.specs.declared.letters.Letters.TheVariants.{OfText}
use Rattle.sv_letters.specs.declared.letters.Awaits.{Awaits}
use Rattle.sv_letters.specs.declared.letters.Awaits.TheVariants.{Character}
use Rattle.sv_xmlcall.specs.declared.tag.Tag.TheVariants as tag
use Rattle.sv_letters.proofs.LetterLaws.{accept_char}
use Rattle.sv_xmlcall.proofs.Passing.{Passes, ◌▷◌, nothing, to_state, white, shuts, ends, in_text, text_pass, whole_is}
use Rattle.sv_xmlcall.proofs.ValuePassing.{count_behind, count_behind_values, held, held_values, gate_value, value_pass}
use Rattle.sv_xmlcall.proofs.HeldLaws.{count_min, held_is}

accept_all : (cs : List ℕ) → scalars cs ≡ true → are_letters OfText Character (encodes cs) ≡ true
accept_all [] s = refl
accept_all (c ∷ cs) s =
    let p = and_parts _ _ s in
    accept_char OfText refl c p.0 refl (encodes cs) ∙ accept_all cs p.1

accept_utf8 : (bs : List ℕ) → IsUtf8 bs → are_letters OfText Character bs ≡ true
accept_utf8 bs u = subst (λ (x : List ℕ). are_letters OfText Character x ≡ true) u.1.1 (accept_all u.0 u.1.0)

-- a question mark before the bytes, where one was read
abbrev pub marked : Bool → List ℕ → List ℕ
marked true bs = 63 ∷ bs
marked false bs = bs

abbrev pub NoEnd : List ℕ → Type 0
NoEnd bs = (front back : List ℕ) → bs ≢ front ++ 63 ∷ 62 ∷ back

marked_on : (question : Bool) (b : ℕ) (bs : List ℕ) → NoEnd (marked question (b ∷ bs)) → NoEnd (b ∷ bs)
marked_on true b bs n = λ front back e. n (63 ∷ front) back (ap (λ (x : List ℕ). 63 ∷ x) e)
marked_on false b bs n = n

unmarked : (b : ℕ) (bs : List ℕ) → NoEnd (b ∷ bs) → NoEnd (marked (eqb b 63) bs)
unmarked b bs n = elim (cases_Bool (eqb b 63)) [
  | inl q ↦ let s : NoEnd (63 ∷ bs) = subst (λ (x : ℕ). NoEnd (x ∷ bs)) (eqb-true b 63 q) n in rw q s
  | inr q ↦ let s : NoEnd bs = λ front back e. n (b ∷ front) back (ap (λ (x : List ℕ). b ∷ x) e) in rw q s
]

no_end : (question : Bool) (b : ℕ) (bs : List ℕ) → NoEnd (marked question (b ∷ bs)) → (question && eqb b 62) ≡ false
no_end false b bs n = refl
no_end true b bs n = elim (cases_Bool (eqb b 62)) [
  | inl e ↦ absurd (n [] bs (ap (λ (x : ℕ). 63 ∷ x ∷ bs) (eqb-true b 62 e)))
  | inr e ↦ e
]

abbrev last_mark : Bool → List ℕ → Bool
last_mark question [] = question
last_mark question (b ∷ bs) = last_mark (eqb b 63) bs

declared_pass : (limits : Limits) (document : Document) (question : Bool) (awaits : Awaits) (count : ℕ) (bs : List ℕ)
    → are_letters OfText awaits bs ≡ true → NoEnd (marked question bs)
    → Passes limits (at (Prolog document question awaits) [] count) bs (at (Prolog document (last_mark question bs) Character) [] count)
declared_pass limits document question awaits count [] a n = to_state nothing (ap (λ (w : Awaits). at (Prolog document question w) [] count) (whole_is awaits a))
declared_pass limits document question awaits count (b ∷ bs) a n =
    let p = and_parts (allows OfText awaits b) (are_letters OfText (after OfText awaits b) bs) a in
    let more = declared_pass limits document (eqb b 63) (after OfText awaits b) count bs p.1 (unmarked b bs (marked_on question b bs n)) in
    record { goes = λ rest. rw (no_end question b bs n, p.0) (more.goes rest) }

question_pass : (limits : Limits) (document : Document) (question : Bool) (count : ℕ)
    → Passes limits (at (Prolog document question Character) [] count) (codes "?>") (at (At (AtDeclared document)) [] count)
question_pass limits document true count = record { goes = λ rest. refl }
question_pass limits document false count = record { goes = λ rest. refl }

abbrev pub head_place : HeadText → Document → Expecting
head_place (NoDeclaration before) document = AtStart document
head_place (Declared before declared after) document = AtDeclared document

pub head_pass : (limits : Limits) (document : Document) (head : HeadText) → IsHead head
    → Passes limits (start document) (printed_head head) (at (At (head_place head document)) [] 0)
head_pass limits document (NoDeclaration before) h = white limits (AtStart document) [] 0 before h
head_pass limits document (Declared before declared after) h =
    let begin : Passes limits (at (At (AtStart document)) [] 0) (spelling tag.Declaration) (at (Prolog document false Character) [] 0) = declaration_pass limits document in
    let free : NoEnd declared = λ front back e. h.2 front back (e ∙ sym (append_assoc front (codes "?>") back)) in
    white limits (AtStart document) [] 0 before h.0 ▷ begin ▷ declared_pass limits document false Character 0 declared (accept_utf8 declared h.1) free
    ▷ question_pass limits document (last_mark false declared) 0 ▷ white limits (AtDeclared document) [] 0 after h.3
  where
    declaration_pass : (limits : Limits) (document : Document) → Passes limits (at (At (AtStart document)) [] 0) (spelling tag.Declaration) (at (Prolog document false Character) [] 0)
    declaration_pass limits OfCall = record { goes = λ rest. refl }
    declaration_pass limits OfReply = record { goes = λ rest. refl }

pub call_begin : (limits : Limits) (head : HeadText) → Passes limits (at (At (head_place head OfCall)) [] 0) (spelling tag.MethodCall) (at (At AtMethod) [] 0)
call_begin limits (NoDeclaration before) = record { goes = λ rest. refl }
call_begin limits (Declared before declared after) = record { goes = λ rest. refl }

pub reply_begin : (limits : Limits) (head : HeadText) → Passes limits (at (At (head_place head OfReply)) [] 0) (spelling tag.MethodResponse) (at (At AtResponse) [] 0)
reply_begin limits (NoDeclaration before) = record { goes = λ rest. refl }
reply_begin limits (Declared before declared after) = record { goes = λ rest. refl }

not_empty_front : (a b : List ℕ) → is_empty a ≡ false → is_empty (a ++ b) ≡ false
not_empty_front [] b e = cc e
not_empty_front (x ∷ a) b e = refl

encode_not_empty : (c : ℕ) → is_empty (encode c) ≡ false
unfolding encode
encode_not_empty c = elim (cases_lt c 128) [
  | inl h ↦ rw (lt-ltb c 128 h) refl
  | inr h ↦ elim (cases_lt c 2048) [
    | inl u ↦ rw (le-ltb c 128 h, lt-ltb c 2048 u) refl
    | inr l ↦ elim (cases_lt c 65536) [
      | inl u ↦ rw (le-ltb c 128 h, le-ltb c 2048 l, lt-ltb c 65536 u) refl
      | inr m ↦ rw (le-ltb c 128 h, le-ltb c 2048 l, le-ltb c 65536 m) refl
    ]
  ]
]

pub named : (name : List Letter) → name ≢ [] → is_empty (text_of name) ≡ false
named [] n = absurd (n refl)
named (letter ∷ letters) n = not_empty_front (encode_utf8 (character_of letter)) (text_of letters) (encode_not_empty (character_of letter))

-- a param after its opening tag, in whatever frame
pub param_pass : (limits : Limits) (method : List ℕ) (before : Trees) (count : ℕ) (param : ParamText) → IsParam param → nested (value_of param.value) ≤ limits.nesting
    → Passes limits (at (At (AtParams method before)) [] count) (printed_param param)
    (at (At (AtParams method (kept limits (count_behind limits (value_of param.value) count) before (held limits (value_of param.value) count)))) [] (count_behind limits (value_of param.value) count))
param_pass limits method before count param p fits =
    let behind = count_behind limits (value_of param.value) count in
    let more = kept limits behind before (held limits (value_of param.value) count) in
    let begin : Passes limits (at (At (AtParams method before)) [] count) (spelling tag.Param) (at (At AtValue) (InParam method before ∷ []) count) = record { goes = λ rest. refl } in
    let close : Passes limits (at (At (AtParamEnd method more)) [] behind) (spelling tag.EndParam) (at (Close (AtParamEnd method more)) [] behind) = record { goes = λ rest. refl } in
    white limits (AtParams method before) [] count param.before p.0 ▷ begin
    ▷ white limits AtValue (InParam method before ∷ []) count param.before_value p.1
    ▷ value_pass limits (at (At AtValue) (InParam method before ∷ []) count) (InParam method before ∷ []) count param.value (gate_value limits (InParam method before ∷ []) count) p.2 (omega arith)
    ▷ ends limits tag.EndParam (AtParamEnd method more) [] behind param.ending close p.3

each_pass : (limits : Limits) (method : List ℕ) (before : Trees) (count : ℕ) (params : List ParamText) → AreParams params → nested_values (values_of params) ≤ limits.nesting
    → Passes limits (at (At (AtParams method before)) [] count) (printed_each params)
    (at (At (AtParams method (held_values limits (values_of params) before count))) [] (count_behind_values limits (values_of params) count))
each_pass limits method before count [] p fits = nothing
each_pass limits method before count (param ∷ params) p fits =
    param_pass limits method before count param p.0 (omega arith)
    ▷ each_pass limits method (kept limits (count_behind limits (value_of param.value) count) before (held limits (value_of param.value) count)) (count_behind limits (value_of param.value) count) params p.1 (omega arith)

abbrev place_behind : Limits → List ℕ → ParamsText → Expecting
place_behind limits method Without = AtCalled method
place_behind limits method (NoParams before) = AtParamsEnd method no_tree
place_behind limits method (Params before params ending) = AtParamsEnd method (held_values limits (values_of params) no_tree 0)

params_pass : (limits : Limits) (method : List ℕ) (params : ParamsText) → ArePossible params → nested_values (params_of params) ≤ limits.nesting
    → Passes limits (at (At (AtCalled method)) [] 0) (printed_params params) (at (At (place_behind limits method params)) [] (count_behind_values limits (params_of params) 0))
params_pass limits method Without p fits = nothing
params_pass limits method (NoParams before) p fits =
    let begin : Passes limits (at (At (AtCalled method)) [] 0) (spelling tag.NoParams) (at (At (AtParamsEnd method no_tree)) [] 0) = record { goes = λ rest. refl } in
    white limits (AtCalled method) [] 0 before p ▷ begin
params_pass limits method (Params before params ending) p fits =
    let begin : Passes limits (at (At (AtCalled method)) [] 0) (spelling tag.Params) (at (At (AtParams method no_tree)) [] 0) = record { goes = λ rest. refl } in
    let values = held_values limits (values_of params) no_tree 0 in
    let count = count_behind_values limits (values_of params) 0 in
    let close : Passes limits (at (At (AtParams method values)) [] count) (spelling tag.EndParams) (at (Close (AtParams method values)) [] count) = record { goes = λ rest. refl } in
    white limits (AtCalled method) [] 0 before p.0 ▷ begin ▷ each_pass limits method no_tree 0 params p.1 fits ▷ ends limits tag.EndParams (AtParams method values) [] count ending close p.2

-- the call that is read
abbrev pub held_call : Limits → List ℕ → Trees → Spelled
held_call limits method params = ACall (record { method = method; params = held_values limits params no_tree 0 })

call_close : (limits : Limits) (method : List ℕ) (params : ParamsText) (count : ℕ) (ending : Ending) → IsEnding ending
    → Passes limits (at (At (place_behind limits method params)) [] count) (printed_end tag.EndMethodCall ending) (at (At (AtDone (held_call limits method (params_of params)))) [] count)
call_close limits method Without count ending w = ends limits tag.EndMethodCall (AtCalled method) [] count ending (record { goes = λ rest. refl }) w
call_close limits method (NoParams before) count ending w = ends limits tag.EndMethodCall (AtParamsEnd method no_tree) [] count ending (record { goes = λ rest. refl }) w
call_close limits method (Params before params of_params) count ending w =
    ends limits tag.EndMethodCall (AtParamsEnd method (held_values limits (values_of params) no_tree 0)) [] count ending (record { goes = λ rest. refl }) w

pub ended : {limits : Limits} {s : State} {bytes : List ℕ} {spelled : Spelled} {count : ℕ} → Passes limits s bytes (at (At (AtDone spelled)) [] count)
    → run limits s bytes ≡ unless_many limits count (Read spelled)
ended {limits} {s} {bytes} {spelled} {count} p = ap (run limits s) (sym (append-nil bytes)) ∙ p.goes []

-- what the text of a call comes to, where no value stands inside too many others
pub call_run : (limits : Limits) (call : CallText) → IsCall call → nested_values (params_of call.params) ≤ limits.nesting
    → run limits (start OfCall) (printed_call call)
    ≡ unless_many limits (count_behind_values limits (params_of call.params) 0) (Read (held_call limits (text_of call.name) (params_of call.params)))
call_run limits call c fits =
    let method = text_of call.name in
    let count = count_behind_values limits (params_of call.params) 0 in
    let name_begin : Passes limits (at (At AtMethod) [] 0) (spelling tag.MethodName) (in_text InMethod [] [] 0) = record { goes = λ rest. refl } in
    let name_close : Passes limits (in_text InMethod method [] 0) (spelling tag.EndMethodName) (at (Close (AtTextEnd InMethod method)) [] 0) =
    record { goes = λ rest. rw (named call.name c.named) refl } in
    ended
    (head_pass limits OfCall call.head c.head ▷ call_begin limits call.head ▷ white limits AtMethod [] 0 call.before_name c.before_name ▷ name_begin
    ▷ text_pass limits InMethod [] [] 0 call.name c.letters
    ▷ shuts limits (in_text InMethod method [] 0) tag.EndMethodName (AtTextEnd InMethod method) [] 0 call.inside name_close c.inside
    ▷ params_pass limits method call.params c.params fits
    ▷ call_close limits method call.params count call.ending c.ending
    ▷ white limits (AtDone (held_call limits method (params_of call.params))) [] count call.after c.after)

-- the value of a reply, or of a fault
abbrev pub answered : AnswerText → Tree
answered (Answer before param of_params) = value_of param.value
answered (Fault before before_value value number content of_fault) = value_of value

-- the reply that is read
abbrev pub held_reply : Limits → AnswerText → Reply
held_reply limits (Answer before param of_params) = Returns (held limits (value_of param.value) 0)
held_reply limits (Fault before before_value value number content of_fault) = Faults number content

pub fault_size : (value : Tree) (number : ℤ) (content : List ℕ) → IsFault value number content → size value ≡ 3
fault_size value number content (inl e) = ap size e
fault_size value number content (inr e) = ap size e

pub fault_nested : (value : Tree) (number : ℤ) (content : List ℕ) → IsFault value number content → nested value ≡ 2
fault_nested value number content (inl e) = ap nested e
fault_nested value number content (inr e) = ap nested e

fault_is : (value : Tree) (number : ℤ) (content : List ℕ) → IsFault value number content → fault_of value ≡ Some (Faults number content)
fault_is value number content (inl e) = ap fault_of e
fault_is value number content (inr e) = ap fault_of e

answer_pass : (limits : Limits) (answer : AnswerText) → IsAnswer answer → nested (answered answer) ≤ limits.nesting → 3 ≤ limits.values → 3 ≤ limits.keeping
    → Passes limits (at (At AtResponse) [] 0) (printed_answer answer) (at (At (AtResponseEnd (held_reply limits answer))) [] (count_behind limits (answered answer) 0))
answer_pass limits (Answer before param of_params) a fits many keep =
    let p = a.1 in
    let value = held limits (value_of param.value) 0 in
    let behind = count_behind limits (value_of param.value) 0 in
    let params_begin : Passes limits (at (At AtResponse) [] 0) (spelling tag.Params) (at (At AtReplyParam) [] 0) = record { goes = λ rest. refl } in
    let begin : Passes limits (at (At AtReplyParam) [] 0) (spelling tag.Param) (at (At AtValue) (InReply ∷ []) 0) = record { goes = λ rest. refl } in
    let close : Passes limits (at (At (AtReplyParamEnd value)) [] behind) (spelling tag.EndParam) (at (Close (AtReplyParamEnd value)) [] behind) = record { goes = λ rest. refl } in
    let params_close : Passes limits (at (At (AtReplyParamsEnd value)) [] behind) (spelling tag.EndParams) (at (Close (AtReplyParamsEnd value)) [] behind) = record { goes = λ rest. refl } in
    let one : Passes limits (at (At AtReplyParam) [] 0) (printed_param param) (at (At (AtReplyParamsEnd value)) [] behind) =
    white limits AtReplyParam [] 0 param.before p.0 ▷ begin ▷ white limits AtValue (InReply ∷ []) 0 param.before_value p.1
    ▷ value_pass limits (at (At AtValue) (InReply ∷ []) 0) (InReply ∷ []) 0 param.value (gate_value limits (InReply ∷ []) 0) p.2 (omega arith)
    ▷ ends limits tag.EndParam (AtReplyParamEnd value) [] behind param.ending close p.3 in
    white limits AtResponse [] 0 before a.0 ▷ params_begin ▷ one ▷ ends limits tag.EndParams (AtReplyParamsEnd value) [] behind of_params params_close a.2
answer_pass limits (Fault before before_value value number content of_fault) a fits many keep =
    let behind = count_behind limits (value_of value) 0 in
    let begin : Passes limits (at (At AtResponse) [] 0) (spelling tag.Fault) (at (At AtValue) (InFault ∷ []) 0) = record { goes = λ rest. refl } in
    let reply = Faults number content in
    let close : Passes limits (at (At (AtFaultEnd reply)) [] behind) (spelling tag.EndFault) (at (Close (AtFaultEnd reply)) [] behind) = record { goes = λ rest. refl } in
    let s = fault_size (value_of value) number content a.3 in
    let counted : behind ≡ min (0 + size (value_of value)) (suc limits.values) = count_min limits (value_of value) 0 (omega arith) in
    let is : whole_fault limits behind (held limits (value_of value) 0) ≡ Some reply =
    rw (le-leb behind limits.keeping (omega arith)) (ap fault_of (held_is limits (value_of value) 0 (omega arith) (omega arith)) ∙ fault_is (value_of value) number content a.3) in
    let one : Passes limits (at (At AtValue) (InFault ∷ []) 0) (printed_value value) (at (At (AtFaultEnd reply)) [] behind) =
    to_state (value_pass limits (at (At AtValue) (InFault ∷ []) 0) (InFault ∷ []) 0 value (gate_value limits (InFault ∷ []) 0) a.2 (omega arith))
    (ap (λ (o : Option Reply). after_fault o [] behind) is) in
    white limits AtResponse [] 0 before a.0 ▷ begin ▷ white limits AtValue (InFault ∷ []) 0 before_value a.1 ▷ one
    ▷ ends limits tag.EndFault (AtFaultEnd reply) [] behind of_fault close a.4

-- what the text of a reply comes to, where no value stands inside too many others
pub reply_run : (limits : Limits) (reply : ReplyText) → IsReply reply → nested (answered reply.answer) ≤ limits.nesting → 3 ≤ limits.values → 3 ≤ limits.keeping
    → run limits (start OfReply) (printed_reply reply)
    ≡ unless_many limits (count_behind limits (answered reply.answer) 0) (Read (AReply (held_reply limits reply.answer)))
reply_run limits reply r fits many keep =
    let held = held_reply limits reply.answer in
    let behind = count_behind limits (answered reply.answer) 0 in
    let close : Passes limits (at (At (AtResponseEnd held)) [] behind) (spelling tag.EndMethodResponse) (at (Close (AtResponseEnd held)) [] behind) = record { goes = λ rest. refl } in
    ended
    (head_pass limits OfReply reply.head r.head ▷ reply_begin limits reply.head ▷ answer_pass limits reply.answer r.answer fits many keep
    ▷ ends limits tag.EndMethodResponse (AtResponseEnd held) [] behind reply.ending close r.ending
    ▷ white limits (AtDone (AReply held)) [] behind reply.after r.after)
