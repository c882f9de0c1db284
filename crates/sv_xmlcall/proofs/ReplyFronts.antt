-- Where reading is refused within a reply, some spelled text begins with the bytes before: its parts, and how they end.
use Rattle.std.proofs.Common.{◌≡◌, ℕ, suc, ◌≤◌, true, eqb, ltb, List, [], ◌∷◌, ◌++◌, length, Option, Some, None, inl, inr, refl, sym, ap, ◌∙◌, subst, append_assoc, append-nil}
use Rattle.std.proofs.lemmas.Bool.{cases_Bool, ltb-false}
use Rattle.sv_xmlcall.specs.Tags.{spelling}
use Rattle.sv_xmlcall.specs.Spelled.{AReply, is_white, fault_of}
use Rattle.sv_xmlcall.specs.Trees.{Tree, Reply, Returns}
use Rattle.sv_xmlcall.specs.Spells.{IsWhite, Ending, IsEnding, printed_end, printed_value, value_of, ValueText, IsValue}
use Rattle.sv_xmlcall.specs.SpelledTexts.{HeadText, printed_head, IsHead, ParamText, IsParam, printed_param, AnswerText, Answer, Fault, IsAnswer, printed_answer, answer_of, ReplyText, IsReply, printed_reply}
use Rattle.sv_xmlcall.specs.Beginnings.{FaultText, IsFaultText, printed_fault, BeginsReply}
use Rattle.sv_xmlcall.specs.Machine.{Limits, Expecting, Frame, Control, State, Step, Go, Bad, Deep, AtReplyParamsEnd, AtFaultEnd, AtResponseEnd, AtDone, NotRead, TooMany, At, Within, Close, Stuck, at, run, next_of, next, on_step, unless_many, enter, leave, within, going_on, words_of, tags_of, after_fault, whole_fault}
use Rattle.sv_xmlcall.specs.declared.tag.Tag.{Tag}
use Rattle.sv_xmlcall.specs.declared.tag.Tag.TheVariants as tag
use Rattle.sv_xmlcall.proofs.ValuePassing.{count_behind, held}
use Rattle.sv_xmlcall.proofs.CallsBack.{few_values, fault_back, fault_kept}
use Rattle.sv_xmlcall.proofs.RefusedLaws.{unless_left, not_deep, not_many}
use Rattle.sv_xmlcall.proofs.Fronts.{IsFront, front_on, front_behind, Good, good_here, good_to}
use Rattle.sv_xmlcall.proofs.TextFronts.{end_front}
use Rattle.sv_xmlcall.proofs.FormFronts.{good_one}
use Rattle.sv_xmlcall.proofs.ValueFronts.{plain_end}
use Rattle.sv_xmlcall.proofs.NestedFronts.{on_two}
use Rattle.sv_xmlcall.proofs.CallFronts.{done_front}

-- a place after which no value is opened
abbrev IsLast : Expecting → Type 0
IsLast (AtFaultEnd reply) = Unit {0}
IsLast (AtResponseEnd reply) = Unit {0}
IsLast (AtDone spelled) = Unit {0}
IsLast place = ⊥

abbrev IsEnd : Control → Type 0
IsEnd (At place) = IsLast place
IsEnd (Within place words) = IsLast place
IsEnd (Close place) = IsLast place
IsEnd Stuck = Unit {0}
IsEnd control = ⊥

-- a step after which the count is the same
abbrev Counts : ℕ → Step → Type 0
Counts count (Go s) = IsEnd s.control × (s.count ≡ count)
Counts count Bad = Unit {0}
Counts count Deep = Unit {0}

enter_counts : (limits : Limits) (place : Expecting) (t : Tag) (frames : List Frame) (count : ℕ) → IsLast place → Counts count (enter limits place t frames count)
enter_counts limits (AtFaultEnd reply) t frames count l = (tt, refl)
enter_counts limits (AtResponseEnd reply) t frames count l = (tt, refl)
enter_counts limits (AtDone spelled) t frames count l = (tt, refl)
enter_counts limits place t frames count l = absurd l

leave_counts : (limits : Limits) (place : Expecting) (frames : List Frame) (count : ℕ) → IsLast place → Counts count (Go (leave limits place frames count))
leave_counts limits (AtFaultEnd reply) frames count l = (tt, refl)
leave_counts limits (AtResponseEnd reply) frames count l = (tt, refl)
leave_counts limits (AtDone spelled) frames count l = (tt, refl)
leave_counts limits place frames count l = absurd l

within_counts : (limits : Limits) (place : Expecting) (words : List (List ℕ × Tag)) (frames : List Frame) (count : ℕ) → IsLast place → Counts count (within limits place words frames count)
within_counts limits place [] frames count l = tt
within_counts limits place (([], t) ∷ words) frames count l = enter_counts limits place t frames count l
within_counts limits place ((w ∷ ws, t) ∷ words) frames count l = (l, refl)

next_counts : (limits : Limits) (control : Control) (frames : List Frame) (count b : ℕ) → IsEnd control → Counts count (next_of limits control frames count b)
next_counts limits (At place) frames count b l = elim (cases_Bool (is_white b)) [
  | inl w ↦ rw w (l, refl)
  | inr w ↦ rw w (within_counts limits place (going_on b (words_of (tags_of place))) frames count l)
]
next_counts limits (Within place words) frames count b l = within_counts limits place (going_on b words) frames count l
next_counts limits (Close place) frames count b l = elim (cases_Bool (is_white b)) [
  | inl w ↦ rw w (l, refl)
  | inr w ↦ elim (cases_Bool (eqb b 62)) [
    | inl c ↦ rw (w, c) (leave_counts limits place frames count l)
    | inr c ↦ rw (w, c) tt
  ]
]
next_counts limits Stuck frames count b l = tt
next_counts limits control frames count b l = absurd l

many_step : (limits : Limits) (step : Step) (count : ℕ) (bs : List ℕ) (left : ℕ) → ltb limits.values count ≡ true → Counts count step
    → ((s : State) → IsEnd s.control → ltb limits.values s.count ≡ true → run limits s bs ≡ NotRead left → ⊥)
    → on_step step (λ s. run limits s bs) (unless_many limits count (NotRead (suc (length bs)))) ≡ NotRead left → ⊥
many_step limits (Go s) count bs left m c again e = again s c.0 (ap (ltb limits.values) c.1 ∙ m) e
many_step limits Bad count bs left m c again e = let f : TooMany ≡ NotRead left = rw m at e in not_many left f
many_step limits Deep count bs left m c again e = not_deep left e

many_end : (limits : Limits) (bs : List ℕ) (s : State) (left : ℕ) → IsEnd s.control → ltb limits.values s.count ≡ true → run limits s bs ≡ NotRead left → ⊥
many_end limits [] s left l m e = let f : TooMany ≡ NotRead left = rw m at e in not_many left f
many_end limits (b ∷ bs) s left l m e =
    many_step limits (next limits s b) s.count bs left m (next_counts limits s.control s.frames s.count b l) (λ t k n f. many_end limits bs t left k n f) e

-- where the end of a fault is refused, the values before are not too many
few_end : (limits : Limits) (reply : Reply) (count : ℕ) (bs : List ℕ) (left : ℕ) → run limits (at (At (AtFaultEnd reply)) [] count) bs ≡ NotRead left → count ≤ limits.values
few_end limits reply count bs left e = elim (cases_Bool (ltb limits.values count)) [
  | inl m ↦ absurd (many_end limits bs (at (At (AtFaultEnd reply)) [] count) left tt m e)
  | inr m ↦ ltb-false limits.values count m
]

-- each right text of a reply gives its prefixes
reply_begins : (reply : ReplyText) → IsReply reply → (g : List ℕ) → IsFront g (printed_reply reply) → BeginsReply g
reply_begins reply r g f = inl (record { rest = f.0; reply = answer_of reply.answer; spells = record { text = reply; right = r; printed = sym f.1; means = refl } })

-- each right reply up to the end of the value of a fault gives its prefixes
pub fault_begins : (fault : FaultText) → IsFaultText fault → (g : List ℕ) → IsFront g (printed_fault fault) → BeginsReply g
fault_begins fault r g f = inr (record { rest = f.0; text = fault; right = r; printed = sym f.1 })

-- a reply up to its params or its fault
abbrev pub replied : HeadText → List ℕ
replied head = printed_head head ++ spelling tag.MethodResponse

abbrev reply_with : HeadText → AnswerText → Ending → List ℕ → ReplyText
reply_with head answer ending after = record { head = head; answer = answer; ending = ending; after = after }

is_reply : (head : HeadText) (answer : AnswerText) (ending : Ending) (after : List ℕ) → IsHead head → IsAnswer answer → IsEnding ending → IsWhite after → IsReply (reply_with head answer ending after)
is_reply head answer ending after h r x w = record { head = h; answer = r; ending = x; after = w }

-- what a reply holds begins it
pub answer_begins : (head : HeadText) → IsHead head → (answer : AnswerText) → IsAnswer answer → (g : List ℕ) → IsFront g (printed_answer answer) → BeginsReply (replied head ++ g)
answer_begins head h answer r g f =
    reply_begins (reply_with head answer plain_end []) (is_reply head answer plain_end [] h r (refl, refl) refl) (replied head ++ g)
    (on_two (replied head ++ g) (replied head ++ printed_answer answer) (printed_end tag.EndMethodResponse plain_end) [] (front_behind (replied head) g (printed_answer answer) f))

-- after what a reply holds
response_end_front : (limits : Limits) (head : HeadText) → IsHead head → (answer : AnswerText) → IsAnswer answer → (reply : Reply) (count : ℕ) (rest : List ℕ) (left : ℕ)
    → run limits (at (At (AtResponseEnd reply)) [] count) rest ≡ NotRead left → Good (λ g. BeginsReply (replied head ++ (printed_answer answer ++ g))) rest left
response_end_front limits head h answer r reply count rest left e =
    let c = replied head ++ printed_answer answer in
    good_one BeginsReply (replied head) (printed_answer answer) rest left
    (end_front limits (AtResponseEnd reply) tag.EndMethodResponse [] count rest left (λ g. BeginsReply (c ++ g)) (record { only = refl; goes_on = tt; shut = λ frames count. refl })
    (λ ending x g f.
    reply_begins (reply_with head answer ending []) (is_reply head answer ending [] h r x refl) (c ++ g)
    (front_on (c ++ g) (c ++ printed_end tag.EndMethodResponse ending) [] (front_behind c g (printed_end tag.EndMethodResponse ending) f)))
    (λ ending x last q f.
    good_one BeginsReply c (printed_end tag.EndMethodResponse ending) last left
    (done_front limits count (AReply reply) last left (λ g. BeginsReply (c ++ printed_end tag.EndMethodResponse ending ++ g))
    (λ after w.
    reply_begins (reply_with head answer ending after) (is_reply head answer ending after h r x w) (c ++ printed_end tag.EndMethodResponse ending ++ after)
    ([], append-nil (c ++ printed_end tag.EndMethodResponse ending ++ after)))
    f))
    e)

params_parts : (c u p e g : List ℕ) → c ++ (u ++ p ++ e ++ g) ≡ c ++ (u ++ (p ++ (e ++ g)))
params_parts c u p e g = simp append_assoc refl

-- after the param of a reply
pub params_end_front : (limits : Limits) (head : HeadText) → IsHead head → (gap : List ℕ) → IsWhite gap → (param : ParamText) → IsParam param → (value : Tree) (count : ℕ) (rest : List ℕ) (left : ℕ)
    → run limits (at (At (AtReplyParamsEnd value)) [] count) rest ≡ NotRead left → Good (λ g. BeginsReply (replied head ++ (gap ++ spelling tag.Params ++ (printed_param param ++ g)))) rest left
params_end_front limits head h gap w param r value count rest left e =
    let c = replied head in
    let u = gap ++ spelling tag.Params in
    let p = printed_param param in
    end_front limits (AtReplyParamsEnd value) tag.EndParams [] count rest left (λ g. BeginsReply (c ++ (u ++ (p ++ g)))) (record { only = refl; goes_on = tt; shut = λ frames count. refl })
    (λ ending x g f.
    subst (λ (y : List ℕ). BeginsReply (c ++ y)) (append_assoc u p g)
    (answer_begins head h (Answer gap param ending) (w, r, x) (u ++ p ++ g) (front_behind (u ++ p) g (printed_end tag.EndParams ending) f)))
    (λ ending x last q f.
    let ep = printed_end tag.EndParams ending in
    good_to (λ g. BeginsReply (c ++ (u ++ p ++ ep ++ g))) (λ g. BeginsReply (c ++ (u ++ (p ++ (ep ++ g))))) last left (λ g y. subst BeginsReply (params_parts c u p ep g) y)
    (response_end_front limits head h (Answer gap param ending) (w, r, x) (Returns value) count last left f))
    e

-- after a value that is no fault's
stuck_left : (limits : Limits) (count : ℕ) (bs : List ℕ) (left : ℕ) → run limits (at Stuck [] count) bs ≡ NotRead left → length bs ≡ left
stuck_left limits count [] left e = (unless_left limits count 0 left e).1
stuck_left limits count (b ∷ bs) left e = (unless_left limits count (suc (length bs)) left e).1

fault_ends : (c gap s g2 v : List ℕ) → c ++ gap ++ s ++ g2 ++ v ≡ c ++ (gap ++ s ++ g2 ++ v ++ [])
fault_ends c gap s g2 v = simp append_assoc (simp append-nil refl)

-- after the value of a fault, by what of a fault it is
pub fault_end_front : (limits : Limits) (head : HeadText) → IsHead head → (gap g2 : List ℕ) → IsWhite gap → IsWhite g2 → (value : ValueText) → IsValue value → (rest : List ℕ) (left : ℕ) (fault : Option Reply)
    → whole_fault limits (count_behind limits (value_of value) 0) (held limits (value_of value) 0) ≡ fault
    → run limits (after_fault fault [] (count_behind limits (value_of value) 0)) rest ≡ NotRead left
    → Good (λ g. BeginsReply (replied head ++ (gap ++ spelling tag.Fault ++ g2 ++ printed_value value ++ g))) rest left
fault_end_front limits head h gap g2 w v value r rest left (Some reply) is e =
    let c = replied head in
    let b = gap ++ spelling tag.Fault ++ g2 ++ printed_value value in
    let count = count_behind limits (value_of value) 0 in
    let keeps = fault_kept limits count (held limits (value_of value) 0) reply is in
    let whole = few_values limits (value_of value) (few_end limits reply count rest left e) keeps.0 in
    let f = fault_back (value_of value) reply (ap fault_of (sym whole) ∙ keeps.1) in
    end_front limits (AtFaultEnd reply) tag.EndFault [] count rest left (λ g. BeginsReply (c ++ (b ++ g))) (record { only = refl; goes_on = tt; shut = λ frames count. refl })
    (λ ending x g q. answer_begins head h (Fault gap g2 value f.number f.content ending) (w, v, r, f.is, x) (b ++ g) (front_behind b g (printed_end tag.EndFault ending) q))
    (λ ending x last p q.
    good_one (λ g. BeginsReply (c ++ g)) b (printed_end tag.EndFault ending) last left
    (response_end_front limits head h (Fault gap g2 value f.number f.content ending) (w, v, r, f.is, x) reply count last left q))
    e
fault_end_front limits head h gap g2 w v value r rest left None is e =
    let c = replied head in
    let b = gap ++ spelling tag.Fault ++ g2 ++ printed_value value in
    good_here (λ g. BeginsReply (c ++ (b ++ g))) rest left (stuck_left limits (count_behind limits (value_of value) 0) rest left e)
    (subst BeginsReply (fault_ends c gap (spelling tag.Fault) g2 (printed_value value))
    (fault_begins (record { head = head; before = gap; before_value = g2; value = value }) (h, w, v, r) (c ++ gap ++ spelling tag.Fault ++ g2 ++ printed_value value)
    ([], append-nil (c ++ gap ++ spelling tag.Fault ++ g2 ++ printed_value value))))
