-- What is read around the values of a call or a reply is what the reading byte by byte goes on with.
use Rattle.std.proofs.Common.{◌≡◌, ℕ, suc, Bool, true, false, ◌&&◌, eqb, ltb, List, [], ◌∷◌, length, Result, Ok, Err, inl, inr, refl, sym, ap, ◌∙◌, subst}
use Rattle.std.proofs.lemmas.Bool.{cases_Bool}
use Rattle.sv_xmlcall.specs.Trees.{Trees, no_tree}
use Rattle.sv_xmlcall.specs.Spelled.{Spelled, ACall, is_white}
use Rattle.sv_letters.specs.Letters.{allows, after}
use Rattle.sv_xmlcall.specs.Tags.{tag_at}
use Rattle.sv_xmlcall.specs.Atoms.{tag_behind, close_at, close_behind, closing_at}
use Rattle.sv_xmlcall.specs.Reading.{◌>>=◌, text_at, shut_at, name_at, method_at, prolog_from}
use Rattle.sv_xmlcall.specs.Documents.{document_of, document_at, head_at, ended_by, begun_of, begun_at, param_of, param_at, answer_of, answer_at, end_at, Comes}
use Rattle.sv_xmlcall.specs.Answers.{FaultIs, faulted, ReadsParams, ReadsFurther}
use Rattle.sv_xmlcall.specs.Machine.{the_limits, Document, OfCall, OfReply, InParam, InReply, InFault, InMethod, Verdict, Read, NotRead, TooMany, Expecting, AtStart, AtDeclared, AtMethod, AtCalled, AtParams, AtParamEnd, AtParamsEnd, AtResponse, AtReplyParam, AtDone, AtValue, AtTextEnd, At, Chars, Prolog, at, begin_of, enter, leave, run, start, on_step, unless_many}
use Rattle.sv_xmlcall.specs.Running.{Halts, Closes}
use Rattle.sv_xmlcall.specs.Outcome.{Stops}
use Rattle.sv_letters.specs.declared.letters.Letters.TheVariants.{OfText}
use Rattle.sv_letters.specs.declared.letters.Awaits.{Awaits}
use Rattle.sv_letters.specs.declared.letters.Awaits.TheVariants.{Character}
use Rattle.sv_xmlcall.specs.declared.tag.Tag.{Tag}
use Rattle.sv_xmlcall.specs.declared.tag.Tag.TheVariants as tag
use Rattle.sv_xmlcall.specs.declared.stop.Stop.{Stop}
use Rattle.sv_xmlcall.specs.declared.stop.Stop.TheVariants as stop
use Rattle.sv_xmlcall.proofs.Words.{follow}
use Rattle.sv_xmlcall.proofs.Runs.{run_at, run_close, run_closing, run_shut, left_by}
use Rattle.sv_xmlcall.proofs.TextLaws.{at_text_end, run_text}
use Rattle.sv_xmlcall.proofs.StageLaws.{closes_text, shut_text, behind_content}

many_is : (left opened size : ℕ) (verdict : Verdict) → ltb 65536 opened ≡ true → verdict ≡ unless_many the_limits opened (NotRead left) → FaultIs (faulted (stop.At left) opened size) size verdict
many_is left opened size verdict e h = rw e (let g : verdict ≡ TooMany = rw e at h in g)

place_is : (left opened size : ℕ) (verdict : Verdict) → ltb 65536 opened ≡ false → verdict ≡ unless_many the_limits opened (NotRead left) → FaultIs (faulted (stop.At left) opened size) size verdict
place_is left opened size verdict e h = rw e (let g : verdict ≡ NotRead left = rw e at h in (left, (g, refl)))

-- where a text stops, as a fault
pub fault_is : (stop : Stop) (opened size : ℕ) (verdict : Verdict) → Halts stop opened verdict → FaultIs (faulted stop opened size) size verdict
fault_is (stop.At left) opened size verdict h = elim (cases_Bool (ltb 65536 opened)) [
  | inl e ↦ many_is left opened size verdict e h
  | inr e ↦ place_is left opened size verdict e h
]
fault_is stop.TooDeep opened size verdict h = h
fault_is stop.OutOfMemory opened size verdict h = tt

abbrev on_prolog : Document → Result (List ℕ) ℕ → Verdict
on_prolog document (Ok rest) = run the_limits (at (At (AtDeclared document)) [] 0) rest
on_prolog document (Err left) = unless_many the_limits 0 (NotRead left)

run_prolog : (document : Document) (question : Bool) (awaits : Awaits) (bs : List ℕ)
    → run the_limits (at (Prolog document question awaits) [] 0) bs ≡ on_prolog document (prolog_from question awaits bs)
run_prolog document question awaits [] = refl
run_prolog document question awaits (b ∷ bs) = elim (cases_Bool (question && eqb b 62)) [
  | inl e ↦ rw e refl
  | inr e ↦ elim (cases_Bool (allows OfText awaits b)) [
    | inl f ↦ rw (e, f) (run_prolog document (eqb b 63) (after OfText awaits b) bs)
    | inr f ↦ rw (e, f) refl
  ]
]

abbrev inside : Document → Expecting
inside OfCall = AtMethod
inside OfReply = AtResponse

abbrev pub on_document : Document → Result (List ℕ) ℕ → Verdict
on_document document (Ok rest) = run the_limits (at (At (inside document)) [] 0) rest
on_document document (Err left) = unless_many the_limits 0 (NotRead left)

abbrev Behind : Expecting → Tag → ℕ → List ℕ → Verdict
Behind place t count rest =
    on_step (enter the_limits place t [] count) (λ s. run the_limits s rest) (unless_many the_limits count (NotRead (suc (length rest))))

declared_call : (t : Tag) (rest : List ℕ) → Behind (AtDeclared OfCall) t 0 rest ≡ on_document OfCall (Ok rest)
declared_call tag.Declaration rest = refl
declared_call any rest = refl

declared_follows_call : (r : Result (Tag × List ℕ) ℕ) → follow the_limits (AtDeclared OfCall) [] 0 r ≡ on_document OfCall (r >>= (λ r. Ok r.1))
declared_follows_call (Ok r) = declared_call r.0 r.1
declared_follows_call (Err left) = refl

prolog_follows_call : (r : Result (List ℕ) ℕ) → on_prolog OfCall r ≡ on_document OfCall (r >>= (λ rest. tag_behind (begin_of OfCall ∷ []) rest >>= (λ r. Ok r.1)))
prolog_follows_call (Ok rest) = run_at (AtDeclared OfCall) [] 0 rest tt ∙ declared_follows_call (tag_behind (begin_of OfCall ∷ []) rest)
prolog_follows_call (Err left) = refl

start_call : (t : Tag) (rest : List ℕ) → Behind (AtStart OfCall) t 0 rest ≡ on_document OfCall (document_of (begin_of OfCall) t rest)
start_call tag.Declaration rest = run_prolog OfCall false Character rest ∙ prolog_follows_call (prolog_from false Character rest)
start_call any rest = refl

start_follows_call : (r : Result (Tag × List ℕ) ℕ) → follow the_limits (AtStart OfCall) [] 0 r ≡ on_document OfCall (r >>= (λ r. document_of (begin_of OfCall) r.0 r.1))
start_follows_call (Ok r) = start_call r.0 r.1
start_follows_call (Err left) = refl

run_document_call : (bs : List ℕ) → run the_limits (start OfCall) bs ≡ on_document OfCall (document_at (begin_of OfCall) bs)
unfolding document_at
run_document_call bs = run_at (AtStart OfCall) [] 0 bs tt ∙ start_follows_call (tag_behind (tag.Declaration ∷ begin_of OfCall ∷ []) bs)

declared_reply : (t : Tag) (rest : List ℕ) → Behind (AtDeclared OfReply) t 0 rest ≡ on_document OfReply (Ok rest)
declared_reply tag.Declaration rest = refl
declared_reply any rest = refl

declared_follows_reply : (r : Result (Tag × List ℕ) ℕ) → follow the_limits (AtDeclared OfReply) [] 0 r ≡ on_document OfReply (r >>= (λ r. Ok r.1))
declared_follows_reply (Ok r) = declared_reply r.0 r.1
declared_follows_reply (Err left) = refl

prolog_follows_reply : (r : Result (List ℕ) ℕ) → on_prolog OfReply r ≡ on_document OfReply (r >>= (λ rest. tag_behind (begin_of OfReply ∷ []) rest >>= (λ r. Ok r.1)))
prolog_follows_reply (Ok rest) = run_at (AtDeclared OfReply) [] 0 rest tt ∙ declared_follows_reply (tag_behind (begin_of OfReply ∷ []) rest)
prolog_follows_reply (Err left) = refl

start_reply : (t : Tag) (rest : List ℕ) → Behind (AtStart OfReply) t 0 rest ≡ on_document OfReply (document_of (begin_of OfReply) t rest)
start_reply tag.Declaration rest = run_prolog OfReply false Character rest ∙ prolog_follows_reply (prolog_from false Character rest)
start_reply any rest = refl

start_follows_reply : (r : Result (Tag × List ℕ) ℕ) → follow the_limits (AtStart OfReply) [] 0 r ≡ on_document OfReply (r >>= (λ r. document_of (begin_of OfReply) r.0 r.1))
start_follows_reply (Ok r) = start_reply r.0 r.1
start_follows_reply (Err left) = refl

run_document_reply : (bs : List ℕ) → run the_limits (start OfReply) bs ≡ on_document OfReply (document_at (begin_of OfReply) bs)
unfolding document_at
run_document_reply bs = run_at (AtStart OfReply) [] 0 bs tt ∙ start_follows_reply (tag_behind (tag.Declaration ∷ begin_of OfReply ∷ []) bs)

method_tag : (t : Tag) (rest : List ℕ) → Behind AtMethod t 0 rest ≡ run the_limits (at (Chars InMethod [] Character) [] 0) rest
method_tag tag.Declaration rest = refl
method_tag any rest = refl

name_end : (v rest : List ℕ) → at_text_end InMethod [] 0 (Ok (v, rest)) ≡ behind_content InMethod [] 0 (name_at v rest)
unfolding shut_at
name_end [] rest = refl
name_end (x ∷ v) rest =
    run_shut (AtTextEnd InMethod (x ∷ v)) tag.EndMethodName [] 0 rest (closes_text InMethod (x ∷ v))
    ∙ shut_text InMethod (x ∷ v) [] 0 (close_behind (tag_at (tag.EndMethodName ∷ []) rest))

name_ends : (r : Result (List ℕ × List ℕ) ℕ) → at_text_end InMethod [] 0 r ≡ behind_content InMethod [] 0 (r >>= (λ r. name_at r.0 r.1))
name_ends (Ok r) = name_end r.0 r.1
name_ends (Err left) = refl

method_follows : (r : Result (Tag × List ℕ) ℕ) → follow the_limits AtMethod [] 0 r ≡ behind_content InMethod [] 0 (r >>= (λ r. method_at r.1))
unfolding method_at
method_follows (Ok r) = method_tag r.0 r.1 ∙ run_text InMethod [] [] 0 r.1 ∙ name_ends (text_at [] r.1)
method_follows (Err left) = refl

head_follows : (r : Result (List ℕ) ℕ) → on_document OfCall r ≡ behind_content InMethod [] 0 (r >>= (λ rest. tag_behind (tag.MethodName ∷ []) rest >>= (λ r. method_at r.1)))
head_follows (Ok rest) = run_at AtMethod [] 0 rest tt ∙ method_follows (tag_behind (tag.MethodName ∷ []) rest)
head_follows (Err left) = refl

-- a call up to its method's name
pub run_head : (bs : List ℕ) → run the_limits (start OfCall) bs ≡ behind_content InMethod [] 0 (head_at bs)
unfolding head_at
run_head bs = run_document_call bs ∙ head_follows (document_at tag.MethodCall bs)

abbrev pub a_call : List ℕ → Trees → Spelled
a_call method params = ACall (record { method = method; params = params })

abbrev pub on_begun : List ℕ → ℕ → Result (Bool × List ℕ) ℕ → Verdict
on_begun method count (Ok (true, rest)) = run the_limits (at (At (AtParams method no_tree)) [] count) rest
on_begun method count (Ok (false, rest)) = run the_limits (at (At (AtDone (a_call method no_tree))) [] count) rest
on_begun method count (Err left) = unless_many the_limits count (NotRead left)

begun_end : (method : List ℕ) (count : ℕ) (r : Result (List ℕ) ℕ) → left_by (AtParamsEnd method no_tree) [] count r ≡ on_begun method count (ended_by r)
begun_end method count (Ok rest) = refl
begun_end method count (Err left) = refl

begun_close : (method : List ℕ) (count : ℕ) (r : Result (List ℕ) ℕ) → left_by (AtCalled method) [] count r ≡ on_begun method count (ended_by r)
begun_close method count (Ok rest) = refl
begun_close method count (Err left) = refl

pub closes_params : (method : List ℕ) (params : Trees) → Closes (AtParamsEnd method params) tag.EndMethodCall
closes_params method params = record { only = refl; goes_on = tt; shut = λ frames count. refl }

begun_tag : (method : List ℕ) (count : ℕ) (t : Tag) (rest : List ℕ) → Behind (AtCalled method) t count rest ≡ on_begun method count (begun_of t rest)
begun_tag method count tag.Params rest = refl
begun_tag method count tag.NoParams rest =
    run_closing (AtParamsEnd method no_tree) tag.EndMethodCall [] count rest (closes_params method no_tree) ∙ begun_end method count (closing_at (tag.EndMethodCall ∷ []) rest)
begun_tag method count tag.Declaration rest = run_close (AtCalled method) [] count rest ∙ begun_close method count (close_at rest)
begun_tag method count any rest = run_close (AtCalled method) [] count rest ∙ begun_close method count (close_at rest)

begun_follows : (method : List ℕ) (count : ℕ) (r : Result (Tag × List ℕ) ℕ) → follow the_limits (AtCalled method) [] count r ≡ on_begun method count (r >>= (λ r. begun_of r.0 r.1))
begun_follows method count (Ok r) = begun_tag method count r.0 r.1
begun_follows method count (Err left) = refl

pub run_begun : (method : List ℕ) (count : ℕ) (bs : List ℕ) → run the_limits (at (At (AtCalled method)) [] count) bs ≡ on_begun method count (begun_at bs)
unfolding begun_at
run_begun method count bs = run_at (AtCalled method) [] count bs tt ∙ begun_follows method count (tag_behind (tag.Params ∷ tag.NoParams ∷ tag.EndMethodCall ∷ []) bs)

abbrev pub on_param : List ℕ → Trees → ℕ → Result (Bool × List ℕ) ℕ → Verdict
on_param method before count (Ok (true, rest)) = run the_limits (at (At AtValue) (InParam method before ∷ []) count) rest
on_param method before count (Ok (false, rest)) = run the_limits (at (At (AtDone (a_call method before))) [] count) rest
on_param method before count (Err left) = unless_many the_limits count (NotRead left)

params_end : (method : List ℕ) (before : Trees) (count : ℕ) (r : Result (List ℕ) ℕ) → left_by (AtParamsEnd method before) [] count r ≡ on_param method before count (ended_by r)
params_end method before count (Ok rest) = refl
params_end method before count (Err left) = refl

params_close : (method : List ℕ) (before : Trees) (count : ℕ) (r : Result (List ℕ) ℕ)
    → left_by (AtParams method before) [] count r ≡ on_param method before count (r >>= (λ rest. ended_by (closing_at (tag.EndMethodCall ∷ []) rest)))
params_close method before count (Ok rest) =
    run_closing (AtParamsEnd method before) tag.EndMethodCall [] count rest (closes_params method before) ∙ params_end method before count (closing_at (tag.EndMethodCall ∷ []) rest)
params_close method before count (Err left) = refl

param_tag : (method : List ℕ) (before : Trees) (count : ℕ) (t : Tag) (rest : List ℕ) → Behind (AtParams method before) t count rest ≡ on_param method before count (param_of t rest)
param_tag method before count tag.Param rest = refl
param_tag method before count any rest = run_close (AtParams method before) [] count rest ∙ params_close method before count (close_at rest)

param_follows : (method : List ℕ) (before : Trees) (count : ℕ) (r : Result (Tag × List ℕ) ℕ) → follow the_limits (AtParams method before) [] count r ≡ on_param method before count (r >>= (λ r. param_of r.0 r.1))
param_follows method before count (Ok r) = param_tag method before count r.0 r.1
param_follows method before count (Err left) = refl

pub run_param : (method : List ℕ) (before : Trees) (count : ℕ) (bs : List ℕ) → run the_limits (at (At (AtParams method before)) [] count) bs ≡ on_param method before count (param_at bs)
unfolding param_at
run_param method before count bs = run_at (AtParams method before) [] count bs tt ∙ param_follows method before count (tag_behind (tag.Param ∷ tag.EndParams ∷ []) bs)

pub closes_param : (method : List ℕ) (before : Trees) → Closes (AtParamEnd method before) tag.EndParam
closes_param method before = record { only = refl; goes_on = tt; shut = λ frames count. refl }

abbrev pub on_answer : Result (Bool × List ℕ) ℕ → Verdict
on_answer (Ok (true, rest)) = run the_limits (at (At AtValue) (InReply ∷ []) 0) rest
on_answer (Ok (false, rest)) = run the_limits (at (At AtValue) (InFault ∷ []) 0) rest
on_answer (Err left) = unless_many the_limits 0 (NotRead left)

reply_tag : (t : Tag) (rest : List ℕ) → Behind AtReplyParam t 0 rest ≡ on_answer (Ok (true, rest))
reply_tag tag.Declaration rest = refl
reply_tag any rest = refl

reply_follows : (r : Result (Tag × List ℕ) ℕ) → follow the_limits AtReplyParam [] 0 r ≡ on_answer (r >>= (λ r. Ok (true, r.1)))
reply_follows (Ok r) = reply_tag r.0 r.1
reply_follows (Err left) = refl

answer_tag : (t : Tag) (rest : List ℕ) → Behind AtResponse t 0 rest ≡ on_answer (answer_of t rest)
answer_tag tag.Params rest = run_at AtReplyParam [] 0 rest tt ∙ reply_follows (tag_behind (tag.Param ∷ []) rest)
answer_tag any rest = refl

answer_follows : (r : Result (Tag × List ℕ) ℕ) → follow the_limits AtResponse [] 0 r ≡ on_answer (r >>= (λ r. answer_of r.0 r.1))
answer_follows (Ok r) = answer_tag r.0 r.1
answer_follows (Err left) = refl

response_follows : (r : Result (List ℕ) ℕ) → on_document OfReply r ≡ on_answer (r >>= (λ rest. tag_behind (tag.Params ∷ tag.Fault ∷ []) rest >>= (λ r. answer_of r.0 r.1)))
response_follows (Ok rest) = run_at AtResponse [] 0 rest tt ∙ answer_follows (tag_behind (tag.Params ∷ tag.Fault ∷ []) rest)
response_follows (Err left) = refl

-- a reply up to its value
pub run_answer : (bs : List ℕ) → run the_limits (start OfReply) bs ≡ on_answer (answer_at bs)
unfolding answer_at
run_answer bs = run_document_reply bs ∙ response_follows (document_at tag.MethodResponse bs)

abbrev pub on_done : Spelled → ℕ → Result (Unit {0}) ℕ → Verdict
on_done spelled count (Ok u) = unless_many the_limits count (Read spelled)
on_done spelled count (Err left) = unless_many the_limits count (NotRead left)

pub run_done : (spelled : Spelled) (count : ℕ) (bs : List ℕ) → run the_limits (at (At (AtDone spelled)) [] count) bs ≡ on_done spelled count (end_at bs)
run_done spelled count [] = refl
run_done spelled count (b ∷ bs) = elim (cases_Bool (is_white b)) [
  | inl e ↦ rw e (run_done spelled count bs)
  | inr e ↦ rw e refl
]

-- a reader that stops, of what the text goes on with
pub halts_with : {Y : Type 0} (on : Result Y ℕ → Verdict) (count : ℕ) (verdict : Verdict) (read : Result Y ℕ) (stop : Stop)
    → ((left : ℕ) → on (Err left) ≡ unless_many the_limits count (NotRead left)) → verdict ≡ on read → Stops stop read → Halts stop count verdict
halts_with on count verdict read (stop.At left) f e s = e ∙ ap on s ∙ f left
halts_with on count verdict read stop.TooDeep f e s = absurd s
halts_with on count verdict read stop.OutOfMemory f e s = tt

pub halts_from : (count : ℕ) (one two : Verdict) (stop : Stop) → one ≡ two → Halts stop count two → Halts stop count one
halts_from count one two stop e h = subst (λ (x : Verdict). Halts stop count x) (sym e) h

pub comes_from : {X : Type 0} (one two : Verdict) (count : ℕ) (shown : X → Spelled) (r : Result X Stop) → one ≡ two → Comes two count shown r → Comes one count shown r
comes_from one two count shown (Ok x) e h = e ∙ h
comes_from one two count shown (Err stop) e h = halts_from count one two stop e h

pub head_halts : (stop : Stop) (bs : List ℕ) → Stops stop (head_at bs) → Halts stop 0 (run the_limits (start OfCall) bs)
head_halts stop bs s = halts_with (behind_content InMethod [] 0) 0 (run the_limits (start OfCall) bs) (head_at bs) stop (λ left. refl) (run_head bs) s

pub head_goes : {X : Type 0} (bs method rest : List ℕ) (count : ℕ) (shown : X → Spelled) (r : Result X Stop) → head_at bs ≡ Ok (method, rest)
    → Comes (run the_limits (at (At (AtCalled method)) [] 0) rest) count shown r → Comes (run the_limits (start OfCall) bs) count shown r
head_goes bs method rest count shown r e h =
    comes_from (run the_limits (start OfCall) bs) (run the_limits (at (At (AtCalled method)) [] 0) rest) count shown r (run_head bs ∙ ap (behind_content InMethod [] 0) e) h

pub answer_halts : (stop : Stop) (bs : List ℕ) → Stops stop (answer_at bs) → Halts stop 0 (run the_limits (start OfReply) bs)
answer_halts stop bs s = halts_with on_answer 0 (run the_limits (start OfReply) bs) (answer_at bs) stop (λ left. refl) (run_answer bs) s

pub answer_value : {X : Type 0} (bs rest : List ℕ) (count : ℕ) (shown : X → Spelled) (r : Result X Stop) → answer_at bs ≡ Ok (true, rest)
    → Comes (run the_limits (at (At AtValue) (InReply ∷ []) 0) rest) count shown r → Comes (run the_limits (start OfReply) bs) count shown r
answer_value bs rest count shown r e h =
    comes_from (run the_limits (start OfReply) bs) (run the_limits (at (At AtValue) (InReply ∷ []) 0) rest) count shown r (run_answer bs ∙ ap on_answer e) h

pub answer_fault : {X : Type 0} (bs rest : List ℕ) (count : ℕ) (shown : X → Spelled) (r : Result X Stop) → answer_at bs ≡ Ok (false, rest)
    → Comes (run the_limits (at (At AtValue) (InFault ∷ []) 0) rest) count shown r → Comes (run the_limits (start OfReply) bs) count shown r
answer_fault bs rest count shown r e h =
    comes_from (run the_limits (start OfReply) bs) (run the_limits (at (At AtValue) (InFault ∷ []) 0) rest) count shown r (run_answer bs ∙ ap on_answer e) h

pub done_halts : (spelled : Spelled) (count : ℕ) (one : Verdict) (rest : List ℕ) (stop : Stop) → one ≡ run the_limits (at (At (AtDone spelled)) [] count) rest → Stops stop (end_at rest) → Halts stop count one
done_halts spelled count one rest stop e s = halts_with (on_done spelled count) count one (end_at rest) stop (λ left. refl) (e ∙ run_done spelled count rest) s

pub done_goes : (spelled : Spelled) (count : ℕ) (one : Verdict) (rest : List ℕ) → one ≡ run the_limits (at (At (AtDone spelled)) [] count) rest → end_at rest ≡ Ok tt → one ≡ unless_many the_limits count (Read spelled)
done_goes spelled count one rest e s = e ∙ run_done spelled count rest ∙ ap (on_done spelled count) s

pub begun_halts : (method : List ℕ) (count : ℕ) (bs : List ℕ) (stop : Stop) → Stops stop (begun_at bs) → Halts stop count (run the_limits (at (At (AtCalled method)) [] count) bs)
begun_halts method count bs stop s =
    halts_with (on_begun method count) count (run the_limits (at (At (AtCalled method)) [] count) bs) (begun_at bs) stop (λ left. refl) (run_begun method count bs) s

pub begun_none : (method : List ℕ) (count : ℕ) (bs rest : List ℕ) → begun_at bs ≡ Ok (false, rest)
    → run the_limits (at (At (AtCalled method)) [] count) bs ≡ run the_limits (at (At (AtDone (a_call method no_tree))) [] count) rest
begun_none method count bs rest e = run_begun method count bs ∙ ap (on_begun method count) e

pub begun_some : {X : Type 0} (method : List ℕ) (before : ℕ) (bs rest : List ℕ) (count : ℕ) (params : X → Trees) (behind : X → List ℕ) (r : Result X Stop) → begun_at bs ≡ Ok (true, rest)
    → ReadsFurther method before rest count params behind r → ReadsParams method before bs count params behind r
begun_some method before bs rest count params behind (Ok x) e h = run_begun method before bs ∙ ap (on_begun method before) e ∙ h
begun_some method before bs rest count params behind (Err stop) e h =
    halts_from count (run the_limits (at (At (AtCalled method)) [] before) bs) (run the_limits (at (At (AtParams method no_tree)) [] before) rest) stop (run_begun method before bs ∙ ap (on_begun method before) e) h

pub param_halts : (method : List ℕ) (before : Trees) (count : ℕ) (bs : List ℕ) (one : Verdict) (stop : Stop)
    → run the_limits (at (At (AtParams method before)) [] count) bs ≡ one → Stops stop (param_at bs) → Halts stop count one
param_halts method before count bs one stop e s = halts_with (on_param method before count) count one (param_at bs) stop (λ left. refl) (sym e ∙ run_param method before count bs) s

pub param_none : (method : List ℕ) (before : Trees) (count : ℕ) (bs rest : List ℕ) (one : Verdict)
    → run the_limits (at (At (AtParams method before)) [] count) bs ≡ one → param_at bs ≡ Ok (false, rest) → one ≡ run the_limits (at (At (AtDone (a_call method before))) [] count) rest
param_none method before count bs rest one e s = sym e ∙ run_param method before count bs ∙ ap (on_param method before count) s

pub param_some : (method : List ℕ) (before : Trees) (count : ℕ) (bs rest : List ℕ) (one : Verdict)
    → run the_limits (at (At (AtParams method before)) [] count) bs ≡ one → param_at bs ≡ Ok (true, rest) → one ≡ run the_limits (at (At AtValue) (InParam method before ∷ []) count) rest
param_some method before count bs rest one e s = sym e ∙ run_param method before count bs ∙ ap (on_param method before count) s

-- a closing tag that is read, and one that isn't
pub closing_goes : (place : Expecting) (t : Tag) (count : ℕ) (bs rest : List ℕ) → Closes place t → closing_at (t ∷ []) bs ≡ Ok rest
    → run the_limits (at (At place) [] count) bs ≡ run the_limits (leave the_limits place [] count) rest
closing_goes place t count bs rest c e = run_closing place t [] count bs c ∙ ap (left_by place [] count) e

pub closing_halts : (place : Expecting) (t : Tag) (count : ℕ) (bs : List ℕ) (one : Verdict) (stop : Stop) → Closes place t → one ≡ run the_limits (at (At place) [] count) bs
    → Stops stop (closing_at (t ∷ []) bs) → Halts stop count one
closing_halts place t count bs one stop c e s =
    halts_with (left_by place [] count) count one (closing_at (t ∷ []) bs) stop (λ left. refl) (e ∙ run_closing place t [] count bs c) s

pub with_flag : (read : Result (Bool × List ℕ) ℕ) (flag flag2 : Bool) (rest : List ℕ) → read ≡ Ok (flag, rest) → flag ≡ flag2 → read ≡ Ok (flag2, rest)
with_flag read flag flag2 rest e f = e ∙ ap (λ (x : Bool). Ok (x, rest)) f
