-- Where reading is refused within a reply, some spelled text begins with the bytes before: the reply around its value.
use Rattle.std.proofs.Common.{◌≡◌, ℕ, List, [], ◌∷◌, ◌++◌, inl, inr, refl, sym, subst, append_assoc}
use Rattle.sv_xmlcall.specs.Tags.{spelling}
use Rattle.sv_xmlcall.specs.Spells.{IsWhite, printed_end, printed_value, value_of, Empty}
use Rattle.sv_xmlcall.specs.SpelledTexts.{HeadText, printed_head, IsHead, ParamText, IsParam, printed_param, Answer}
use Rattle.sv_xmlcall.specs.Beginnings.{BeginsReply}
use Rattle.sv_xmlcall.specs.Machine.{Limits, OfReply, AtResponse, AtReplyParam, AtReplyParamEnd, AtValue, InReply, InFault, NotRead, At, at, run, enter, start, tags_of, whole_fault}
use Rattle.sv_xmlcall.specs.declared.tag.Tag.{Tag}
use Rattle.sv_xmlcall.specs.declared.tag.Tag.TheVariants as tag
use Rattle.sv_xmlcall.proofs.ValuePassing.{count_behind, held}
use Rattle.sv_xmlcall.proofs.TagsBack.{IsOneOf, only_one}
use Rattle.sv_xmlcall.proofs.Fronts.{IsFront, front_on, front_behind, front_to, Good, good_to, Halts, ahead_front}
use Rattle.sv_xmlcall.proofs.TextFronts.{end_front}
use Rattle.sv_xmlcall.proofs.FormFronts.{front_two, good_one}
use Rattle.sv_xmlcall.proofs.ValueFronts.{plain_end}
use Rattle.sv_xmlcall.proofs.NestedFronts.{on_two, on_three, value_front}
use Rattle.sv_xmlcall.proofs.CallFronts.{head_front, param_of}
use Rattle.sv_xmlcall.proofs.ReplyFronts.{fault_begins, replied, answer_begins, params_end_front, fault_end_front}

param_begins : (head : HeadText) → IsHead head → (gap : List ℕ) → IsWhite gap → (param : ParamText) → IsParam param → (g : List ℕ) → IsFront g (printed_param param) → BeginsReply (replied head ++ (gap ++ spelling tag.Params ++ g))
param_begins head h gap w param r g f =
    let u = gap ++ spelling tag.Params in
    answer_begins head h (Answer gap param plain_end) (w, r, (refl, refl)) (u ++ g)
    (front_on (u ++ g) (u ++ printed_param param) (printed_end tag.EndParams plain_end) (front_behind u g (printed_param param) f))

value_parts : (a g2 v g : List ℕ) → a ++ g2 ++ v ++ g ≡ a ++ (g2 ++ (v ++ g))
value_parts a g2 v g = simp append_assoc refl

-- before the value of a reply's param
param_value_front : (limits : Limits) (head : HeadText) → IsHead head → (gap : List ℕ) → IsWhite gap → (g1 : List ℕ) → IsWhite g1 → (rest : List ℕ) (left : ℕ)
    → run limits (at (At AtValue) (InReply ∷ []) 0) rest ≡ NotRead left → Good (λ g. BeginsReply (replied head ++ (gap ++ spelling tag.Params ++ (g1 ++ spelling tag.Param ++ g)))) rest left
param_value_front limits head h gap w g1 v rest left e =
    let P : List ℕ → Type 0 = λ g. BeginsReply (replied head ++ (gap ++ spelling tag.Params ++ g)) in
    let a = g1 ++ spelling tag.Param in
    value_front limits (InReply ∷ []) 0 rest left (λ g. P (a ++ g))
    (λ g2 v2 value r g f.
    subst P (append_assoc a g2 g)
    (param_begins head h gap w (param_of g1 g2 value plain_end) (v, v2, r, (refl, refl)) (a ++ g2 ++ g)
    (front_on (a ++ g2 ++ g) (a ++ g2 ++ printed_value value) (printed_end tag.EndParam plain_end) (front_behind (a ++ g2) g (printed_value value) f))))
    (λ g2 v2 tail q value r behind q2 e2.
    let b = a ++ g2 ++ printed_value value in
    let count = count_behind limits (value_of value) 0 in
    let returned = held limits (value_of value) 0 in
    good_to (λ g. P (b ++ g)) (λ g. P (a ++ (g2 ++ (printed_value value ++ g)))) behind left (λ g y. subst P (value_parts a g2 (printed_value value) g) y)
    (end_front limits (AtReplyParamEnd returned) tag.EndParam [] count behind left (λ g. P (b ++ g)) (record { only = refl; goes_on = tt; shut = λ frames count. refl })
    (λ ending x g f. param_begins head h gap w (param_of g1 g2 value ending) (v, v2, r, x) (b ++ g) (front_behind b g (printed_end tag.EndParam ending) f))
    (λ ending x last q3 e3.
    good_one P b (printed_end tag.EndParam ending) last left
    (params_end_front limits head h gap w (param_of g1 g2 value ending) (v, v2, r, x) returned count last left e3))
    e2))
    e

abbrev ParamHalts : Limits → Tag → List ℕ → ℕ → Type 0
ParamHalts limits t rest left = Halts limits (enter limits AtReplyParam t [] 0) 0 rest left

-- before the param of a reply
param_front : (limits : Limits) (head : HeadText) → IsHead head → (gap : List ℕ) → IsWhite gap → (rest : List ℕ) (left : ℕ)
    → run limits (at (At AtReplyParam) [] 0) rest ≡ NotRead left → Good (λ g. BeginsReply (replied head ++ (gap ++ spelling tag.Params ++ g))) rest left
param_front limits head h gap w rest left e =
    let P : List ℕ → Type 0 = λ g. BeginsReply (replied head ++ (gap ++ spelling tag.Params ++ g)) in
    ahead_front limits AtReplyParam [] 0 rest left P tt (tag.Param, inl refl)
    (λ g1 v t i g f.
    let is = only_one t tag.Param (tags_of AtReplyParam) refl i in
    param_begins head h gap w (param_of g1 [] Empty plain_end) (v, refl, tt, (refl, refl)) (g1 ++ g)
    (on_three (g1 ++ g) (g1 ++ spelling tag.Param) [] (spelling tag.NoValue) (printed_end tag.EndParam plain_end) (front_behind g1 g (spelling tag.Param) (subst (λ (x : Tag). IsFront g (spelling x)) is f))))
    (λ g1 v t last i p j.
    let is = only_one t tag.Param (tags_of AtReplyParam) refl i in
    subst (λ (x : Tag). Good (λ g. P (g1 ++ spelling x ++ g)) last left) (sym is)
    (param_value_front limits head h gap w g1 v last left (subst (λ (x : Tag). ParamHalts limits x last left) is j)))
    e

fault_begin_parts : (c gap s g2 v : List ℕ) → c ++ (gap ++ s ++ (g2 ++ v)) ≡ c ++ gap ++ s ++ g2 ++ v
fault_begin_parts c gap s g2 v = simp append_assoc refl

fault_value_parts : (c u g2 v g : List ℕ) → c ++ (u ++ g2 ++ v ++ g) ≡ c ++ (u ++ (g2 ++ (v ++ g)))
fault_value_parts c u g2 v g = simp append_assoc refl

-- before the value of a fault
fault_front : (limits : Limits) (head : HeadText) → IsHead head → (gap : List ℕ) → IsWhite gap → (rest : List ℕ) (left : ℕ)
    → run limits (at (At AtValue) (InFault ∷ []) 0) rest ≡ NotRead left → Good (λ g. BeginsReply (replied head ++ (gap ++ spelling tag.Fault ++ g))) rest left
fault_front limits head h gap w rest left e =
    let c = replied head in
    let u = gap ++ spelling tag.Fault in
    value_front limits (InFault ∷ []) 0 rest left (λ g. BeginsReply (c ++ (u ++ g)))
    (λ g2 v value r g f.
    fault_begins (record { head = head; before = gap; before_value = g2; value = value }) (h, w, v, r) (c ++ (u ++ (g2 ++ g)))
    (front_to (c ++ (u ++ (g2 ++ g))) (c ++ (u ++ (g2 ++ printed_value value))) (c ++ gap ++ spelling tag.Fault ++ g2 ++ printed_value value)
    (front_behind c (u ++ (g2 ++ g)) (u ++ (g2 ++ printed_value value)) (front_behind u (g2 ++ g) (g2 ++ printed_value value) (front_behind g2 g (printed_value value) f)))
    (fault_begin_parts c gap (spelling tag.Fault) g2 (printed_value value))))
    (λ g2 v tail q value r behind q2 e2.
    good_to (λ g. BeginsReply (c ++ (u ++ g2 ++ printed_value value ++ g))) (λ g. BeginsReply (c ++ (u ++ (g2 ++ (printed_value value ++ g))))) behind left
    (λ g y. subst BeginsReply (fault_value_parts c u g2 (printed_value value) g) y)
    (fault_end_front limits head h gap g2 w v value r behind left (whole_fault limits (count_behind limits (value_of value) 0) (held limits (value_of value) 0)) refl e2))
    e

abbrev ResponseHalts : Limits → Tag → List ℕ → ℕ → Type 0
ResponseHalts limits t rest left = Halts limits (enter limits AtResponse t [] 0) 0 rest left

response_begins : (head : HeadText) → IsHead head → (gap : List ℕ) → IsWhite gap → (t : Tag) → IsOneOf t (tags_of AtResponse) → (g : List ℕ) → IsFront g (spelling t) → BeginsReply (replied head ++ (gap ++ g))
response_begins head h gap w t (inl is) g f =
    let param = param_of [] [] Empty plain_end in
    answer_begins head h (Answer gap param plain_end) (w, (refl, refl, tt, (refl, refl)), (refl, refl)) (gap ++ g)
    (on_two (gap ++ g) (gap ++ spelling tag.Params) (printed_param param) (printed_end tag.EndParams plain_end) (front_behind gap g (spelling tag.Params) (subst (λ (x : Tag). IsFront g (spelling x)) is f)))
response_begins head h gap w t (inr (inl is)) g f =
    let c = replied head in
    fault_begins (record { head = head; before = gap; before_value = []; value = Empty }) (h, w, refl, tt) (c ++ (gap ++ g))
    (on_two (c ++ (gap ++ g)) (c ++ gap ++ spelling tag.Fault) [] (spelling tag.NoValue)
    (front_two c (gap ++ g) gap (spelling tag.Fault) (front_behind gap g (spelling tag.Fault) (subst (λ (x : Tag). IsFront g (spelling x)) is f))))
response_begins head h gap w t (inr (inr o)) g f = absurd o

response_goes : (limits : Limits) (head : HeadText) → IsHead head → (left : ℕ) (gap : List ℕ) → IsWhite gap → (t : Tag) (rest : List ℕ) → IsOneOf t (tags_of AtResponse) → ResponseHalts limits t rest left
    → Good (λ g. BeginsReply (replied head ++ (gap ++ spelling t ++ g))) rest left
response_goes limits head h left gap w t rest (inl is) j =
    subst (λ (x : Tag). Good (λ g. BeginsReply (replied head ++ (gap ++ spelling x ++ g))) rest left) (sym is)
    (param_front limits head h gap w rest left (subst (λ (x : Tag). ResponseHalts limits x rest left) is j))
response_goes limits head h left gap w t rest (inr (inl is)) j =
    subst (λ (x : Tag). Good (λ g. BeginsReply (replied head ++ (gap ++ spelling x ++ g))) rest left) (sym is)
    (fault_front limits head h gap w rest left (subst (λ (x : Tag). ResponseHalts limits x rest left) is j))
response_goes limits head h left gap w t rest (inr (inr o)) j = absurd o

-- after the opening tag of a reply
response_front : (limits : Limits) (head : HeadText) (rest : List ℕ) (left : ℕ) → IsHead head → run limits (at (At AtResponse) [] 0) rest ≡ NotRead left
    → Good (λ g. BeginsReply (printed_head head ++ spelling tag.MethodResponse ++ g)) rest left
response_front limits head rest left h e =
    ahead_front limits AtResponse [] 0 rest left (λ g. BeginsReply (replied head ++ g)) tt (tag.Params, inl refl)
    (λ gap w t i g f. response_begins head h gap w t i g f)
    (λ gap w t last i p j. response_goes limits head h left gap w t last i j)
    e

-- a prefix of what stands before a reply's first tag, or of that tag
head_begins : (head : HeadText) → IsHead head → (g : List ℕ) → IsFront g (printed_head head ++ spelling tag.MethodResponse) → BeginsReply g
head_begins head h g f =
    fault_begins (record { head = head; before = []; before_value = []; value = Empty }) (h, refl, refl, tt) g
    (on_two g (replied head ++ [] ++ spelling tag.Fault) [] (spelling tag.NoValue) (on_two g (replied head) [] (spelling tag.Fault) f))

-- where reading is refused, some spelled reply begins with the bytes before, or they are those of a reply up to the end of the value of a fault
pub good_reply : (limits : Limits) (bs : List ℕ) (left : ℕ) → run limits (start OfReply) bs ≡ NotRead left → Good BeginsReply bs left
good_reply limits bs left e = head_front limits OfReply bs left BeginsReply head_begins (λ head h rest f. response_front limits head rest left h f) e
