-- Where reading is refused within a call, some spelled text begins with the bytes before: the call around its values.
use Rattle.std.proofs.Common.{◌≡◌, ◌≢◌, ℕ, zero, suc, ◌<◌, ◌≤◌, List, [], ◌∷◌, ◌++◌, length, inl, inr, refl, sym, ap, ◌∙◌, subst, arith, append_assoc, append-nil, le_refl}
use Rattle.sv_xmlcall.specs.Tags.{spelling}
use Rattle.sv_xmlcall.specs.Spelled.{Spelled, ACall}
use Rattle.sv_xmlcall.specs.Trees.{Trees, no_tree}
use Rattle.sv_xmlcall.specs.Spells.{IsWhite, Plain, printed_text, text_of, Ending, IsEnding, printed_shut, printed_end, printed_value, value_of, Empty}
use Rattle.sv_xmlcall.specs.SpelledTexts.{HeadText, printed_head, IsHead, ParamText, AreParams, printed_each, values_of, ParamsText, Without, NoParams, Params, ArePossible, printed_params}
use Rattle.sv_xmlcall.specs.Beginnings.{BeginsCall}
use Rattle.sv_xmlcall.specs.Machine.{Limits, OfCall, AtMethod, AtCalled, AtParams, AtParamEnd, AtParamsEnd, AtDone, AtValue, InMethod, InParam, NotRead, At, at, run, enter, kept, start, tags_of}
use Rattle.sv_xmlcall.specs.declared.tag.Tag.{Tag}
use Rattle.sv_xmlcall.specs.declared.tag.Tag.TheVariants as tag
use Rattle.sv_xmlcall.proofs.ValuePassing.{count_behind, count_behind_values, held, held_values}
use Rattle.sv_xmlcall.proofs.TagsBack.{IsOneOf, only_one}
use Rattle.sv_xmlcall.proofs.ValuesBack.{value_shorter}
use Rattle.sv_xmlcall.proofs.NestedBack.{ahead_shorter, behind_shorter}
use Rattle.sv_xmlcall.proofs.CallsBack.{named_back}
use Rattle.sv_xmlcall.proofs.Fronts.{IsFront, front_on, front_behind, Good, good_to, Halts, ahead_front}
use Rattle.sv_xmlcall.proofs.TextFronts.{end_front, closes_front, end_begins}
use Rattle.sv_xmlcall.proofs.NumberFronts.{text_front, an_a}
use Rattle.sv_xmlcall.proofs.FormFronts.{front_two, good_one, good_two}
use Rattle.sv_xmlcall.proofs.ValueFronts.{plain_end}
use Rattle.sv_xmlcall.proofs.NestedFronts.{on_two, on_three, on_five, on_seven, value_front}
use Rattle.sv_xmlcall.proofs.CallFronts.{head_front, done_front, param_of, call_begins, Start, IsStart, started, call_with, is_call}

-- the end of a call after its params
abbrev EndFails : Start → ParamsText → Type 0
EndFails s params = (ending : Ending) → IsEnding ending → (g : List ℕ) → IsFront g (printed_end tag.EndMethodCall ending) → BeginsCall (started s ++ printed_params params ++ g)

end_fails : (s : Start) (params : ParamsText) → IsStart s → ArePossible params → EndFails s params
end_fails s params i p = λ ending x g f.
    let c = started s ++ printed_params params in
    call_begins (call_with s params ending []) (is_call s params ending [] i p x refl) (c ++ g) (front_on (c ++ g) (c ++ printed_end tag.EndMethodCall ending) [] (front_behind c g (printed_end tag.EndMethodCall ending) f))

end_goes : (limits : Limits) (s : Start) (params : ParamsText) (count : ℕ) (spelled : Spelled) (left : ℕ) → IsStart s → ArePossible params → (ending : Ending) → IsEnding ending → (rest : List ℕ)
    → run limits (at (At (AtDone spelled)) [] count) rest ≡ NotRead left → Good (λ g. BeginsCall (started s ++ printed_params params ++ (printed_end tag.EndMethodCall ending ++ g))) rest left
end_goes limits s params count spelled left i p ending x rest e =
    let c = started s ++ printed_params params in
    good_one BeginsCall c (printed_end tag.EndMethodCall ending) rest left
    (done_front limits count spelled rest left (λ g. BeginsCall (c ++ printed_end tag.EndMethodCall ending ++ g))
    (λ after w. call_begins (call_with s params ending after) (is_call s params ending after i p x w) (c ++ printed_end tag.EndMethodCall ending ++ after) ([], append-nil (c ++ printed_end tag.EndMethodCall ending ++ after)))
    e)

-- after the params of a call, where they are whole
behind_params : (limits : Limits) (s : Start) (params : ParamsText) (method : List ℕ) (values : Trees) (count : ℕ) (rest : List ℕ) (left : ℕ) → IsStart s → ArePossible params
    → run limits (at (At (AtParamsEnd method values)) [] count) rest ≡ NotRead left → Good (λ g. BeginsCall (started s ++ printed_params params ++ g)) rest left
behind_params limits s params method values count rest left i p e =
    end_front limits (AtParamsEnd method values) tag.EndMethodCall [] count rest left (λ g. BeginsCall (started s ++ printed_params params ++ g)) (record { only = refl; goes_on = tt; shut = λ frames count. refl })
    (end_fails s params i p)
    (λ ending x last q f. end_goes limits s params count (ACall (record { method = method; params = values })) left i p ending x last f)
    e

abbrev EachFronts : (List ℕ → Type 0) → Type 0
EachFronts P = (params : List ParamText) → AreParams params → (ending : Ending) → IsEnding ending → (g : List ℕ) → IsFront g (printed_each params ++ printed_end tag.EndParams ending) → P g

abbrev EachBehind : Limits → List ℕ → Trees → ℕ → List ℕ → ℕ → (List ℕ → Type 0) → Type 0
EachBehind limits method before count bs left P = (params : List ParamText) → AreParams params → (ending : Ending) → IsEnding ending → (rest : List ℕ)
    → run limits (at (At (AtParamsEnd method (held_values limits (values_of params) before count))) [] (count_behind_values limits (values_of params) count)) rest ≡ NotRead left
    → Good (λ g. P (printed_each params ++ printed_end tag.EndParams ending ++ g)) rest left

abbrev AgainEach : Limits → List ℕ → List ℕ → ℕ → Type 1
AgainEach limits method bs left = (before : Trees) (count : ℕ) (rest : List ℕ) (P : List ℕ → Type 0) → length rest < length bs → EachFronts P → EachBehind limits method before count rest left P
    → run limits (at (At (AtParams method before)) [] count) rest ≡ NotRead left → Good P rest left

param_front : (limits : Limits) (method : List ℕ) (before : Trees) (count : ℕ) (bs rest : List ℕ) (left : ℕ) (P : List ℕ → Type 0) → EachFronts P → EachBehind limits method before count bs left P
    → (gap : List ℕ) → IsWhite gap → bs ≡ gap ++ spelling tag.Param ++ rest → AgainEach limits method bs left
    → run limits (at (At AtValue) (InParam method before ∷ []) count) rest ≡ NotRead left → Good (λ g. P (gap ++ spelling tag.Param ++ g)) rest left
param_front limits method before count bs rest left P fail more gap w p again e =
    let a = gap ++ spelling tag.Param in
    value_front limits (InParam method before ∷ []) count rest left (λ g. P (a ++ g))
    (λ g2 v value r g f.
    subst P (append_assoc a g2 g)
    (fail (param_of gap g2 value plain_end ∷ []) ((w, v, r, (refl, refl)), tt) plain_end (refl, refl) (a ++ g2 ++ g)
    (on_three (a ++ g2 ++ g) (a ++ g2 ++ printed_value value) (printed_end tag.EndParam plain_end) [] (printed_end tag.EndParams plain_end) (front_behind (a ++ g2) g (printed_value value) f))))
    (λ g2 v tail q value r behind q2 e2.
    let b = a ++ g2 ++ printed_value value in
    let k = count_behind limits (value_of value) count in
    let values = kept limits k before (held limits (value_of value) count) in
    good_to (λ g. P (b ++ g)) (λ g. P (a ++ (g2 ++ (printed_value value ++ g)))) behind left (λ g x. subst P (append_assoc (a ++ g2) (printed_value value) g ∙ append_assoc a g2 (printed_value value ++ g)) x)
    (end_front limits (AtParamEnd method values) tag.EndParam [] k behind left (λ g. P (b ++ g)) (record { only = refl; goes_on = tt; shut = λ frames count. refl })
    (λ ending x g f. fail (param_of gap g2 value ending ∷ []) ((w, v, r, x), tt) plain_end (refl, refl) (b ++ g)
    (on_two (b ++ g) (b ++ printed_end tag.EndParam ending) [] (printed_end tag.EndParams plain_end) (front_behind b g (printed_end tag.EndParam ending) f)))
    (λ ending x last q3 e3.
    let c = b ++ printed_end tag.EndParam ending in
    let shorter : length last < length bs =
    let s1 = ahead_shorter gap tag.Param rest bs p in
    let s2 = behind_shorter g2 tail rest q in
    let s3 = value_shorter value behind tail q2 in
    let s4 = behind_shorter (printed_end tag.EndParam ending) last behind q3 in omega arith in
    good_one P b (printed_end tag.EndParam ending) last left
    (again values k last (λ g. P (c ++ g)) shorter
    (λ params r2 ending2 y g f. fail (param_of gap g2 value ending ∷ params) ((w, v, r, x), r2) ending2 y (c ++ g) (front_two c g (printed_each params) (printed_end tag.EndParams ending2) f))
    (λ params r2 ending2 y end e4.
    good_two P c (printed_each params) (printed_end tag.EndParams ending2) end left
    (more (param_of gap g2 value ending ∷ params) ((w, v, r, x), r2) ending2 y end e4))
    e3))
    e2))
    e

abbrev ParamHalts : Limits → List ℕ → Trees → ℕ → Tag → List ℕ → ℕ → Type 0
ParamHalts limits method before count t rest left = Halts limits (enter limits (AtParams method before) t [] count) count rest left

each_begins : (method : List ℕ) (before : Trees) (P : List ℕ → Type 0) → EachFronts P → (gap : List ℕ) → IsWhite gap → (t : Tag) → IsOneOf t (tags_of (AtParams method before)) → (g : List ℕ) → IsFront g (spelling t) → P (gap ++ g)
each_begins method before P fail gap w t (inl is) g f =
    fail (param_of gap [] Empty plain_end ∷ []) ((w, refl, tt, (refl, refl)), tt) plain_end (refl, refl) (gap ++ g)
    (on_five (gap ++ g) (gap ++ spelling tag.Param) [] (spelling tag.NoValue) (printed_end tag.EndParam plain_end) [] (printed_end tag.EndParams plain_end) (front_behind gap g (spelling tag.Param) (subst (λ (x : Tag). IsFront g (spelling x)) is f)))
each_begins method before P fail gap w t (inr (inl is)) g f =
    fail [] tt (record { before = gap; inside = [] }) (w, refl) (gap ++ g) (end_begins tag.EndParams gap g (subst (λ (x : Tag). IsFront g (spelling x)) is f))
each_begins method before P fail gap w t (inr (inr o)) g f = absurd o

each_goes : (limits : Limits) (method : List ℕ) (before : Trees) (count : ℕ) (bs : List ℕ) (left : ℕ) (P : List ℕ → Type 0) → EachFronts P → EachBehind limits method before count bs left P → AgainEach limits method bs left
    → (gap : List ℕ) → IsWhite gap → (t : Tag) (rest : List ℕ) → IsOneOf t (tags_of (AtParams method before)) → bs ≡ gap ++ spelling t ++ rest → ParamHalts limits method before count t rest left
    → Good (λ g. P (gap ++ spelling t ++ g)) rest left
each_goes limits method before count bs left P fail more again gap w t rest (inl is) p h =
    subst (λ (x : Tag). Good (λ g. P (gap ++ spelling x ++ g)) rest left) (sym is)
    (param_front limits method before count bs rest left P fail more gap w (p ∙ ap (λ (x : Tag). gap ++ spelling x ++ rest) is) again (subst (λ (x : Tag). ParamHalts limits method before count x rest left) is h))
each_goes limits method before count bs left P fail more again gap w t rest (inr (inl is)) p h =
    subst (λ (x : Tag). Good (λ g. P (gap ++ spelling x ++ g)) rest left) (sym is)
    (closes_front limits (AtParams method before) tag.EndParams [] count gap rest bs left P w (p ∙ ap (λ (x : Tag). gap ++ spelling x ++ rest) is)
    (λ ending x g f. fail [] tt ending x g f) (λ ending x last q e. more [] tt ending x last e)
    (subst (λ (x : Tag). ParamHalts limits method before count x rest left) is h))
each_goes limits method before count bs left P fail more again gap w t rest (inr (inr o)) p h = absurd o

each_front : (fuel : ℕ) (limits : Limits) (method : List ℕ) (before : Trees) (count : ℕ) (bs : List ℕ) (left : ℕ) (P : List ℕ → Type 0) → suc (length bs) ≤ fuel → EachFronts P → EachBehind limits method before count bs left P
    → run limits (at (At (AtParams method before)) [] count) bs ≡ NotRead left → Good P bs left
each_front zero limits method before count bs left P l fail more e = absurd (omega arith)
each_front (suc fuel) limits method before count bs left P l fail more e =
    ahead_front limits (AtParams method before) [] count bs left P tt (tag.Param, inl refl)
    (λ gap w t i g f. each_begins method before P fail gap w t i g f)
    (λ gap w t rest i p h. each_goes limits method before count bs left P fail more
    (λ before count rest Q s fail more e. each_front fuel limits method before count rest left Q (omega arith) fail more e) gap w t rest i p h)
    e

abbrev CalledHalts : Limits → List ℕ → Tag → List ℕ → ℕ → Type 0
CalledHalts limits method t rest left = Halts limits (enter limits (AtCalled method) t [] 0) 0 rest left

params_begin : (s : Start) → IsStart s → (method : List ℕ) (gap : List ℕ) → IsWhite gap → (t : Tag) → IsOneOf t (tags_of (AtCalled method)) → (g : List ℕ) → IsFront g (spelling t) → BeginsCall (started s ++ (gap ++ g))
params_begin s i method gap w t (inl is) g f =
    let params = Params gap [] plain_end in
    call_begins (call_with s params plain_end []) (is_call s params plain_end [] i (w, tt, (refl, refl)) (refl, refl) refl) (started s ++ (gap ++ g))
    (on_two (started s ++ (gap ++ g)) (started s ++ printed_params params) (printed_end tag.EndMethodCall plain_end) []
    (front_behind (started s) (gap ++ g) (printed_params params) (on_two (gap ++ g) (gap ++ spelling tag.Params) [] (printed_end tag.EndParams plain_end) (front_behind gap g (spelling tag.Params) (subst (λ (x : Tag). IsFront g (spelling x)) is f)))))
params_begin s i method gap w t (inr (inl is)) g f =
    let params = NoParams gap in
    call_begins (call_with s params plain_end []) (is_call s params plain_end [] i w (refl, refl) refl) (started s ++ (gap ++ g))
    (on_two (started s ++ (gap ++ g)) (started s ++ printed_params params) (printed_end tag.EndMethodCall plain_end) []
    (front_behind (started s) (gap ++ g) (printed_params params) (front_behind gap g (spelling tag.NoParams) (subst (λ (x : Tag). IsFront g (spelling x)) is f))))
params_begin s i method gap w t (inr (inr (inl is))) g f =
    subst (λ (x : List ℕ). BeginsCall (x ++ (gap ++ g))) (append-nil (started s))
    (end_fails s Without i tt (record { before = gap; inside = [] }) (w, refl) (gap ++ g) (end_begins tag.EndMethodCall gap g (subst (λ (x : Tag). IsFront g (spelling x)) is f)))
params_begin s i method gap w t (inr (inr (inr o))) g f = absurd o

printed_whole : (a b e n g : List ℕ) → a ++ (b ++ e ++ n) ++ g ≡ a ++ (b ++ (e ++ n ++ g))
printed_whole a b e n g = simp append_assoc refl

params_go : (limits : Limits) (s : Start) → IsStart s → (method : List ℕ) (bs : List ℕ) (left : ℕ) (gap : List ℕ) → IsWhite gap → (t : Tag) (rest : List ℕ) → IsOneOf t (tags_of (AtCalled method)) → bs ≡ gap ++ spelling t ++ rest
    → CalledHalts limits method t rest left → Good (λ g. BeginsCall (started s ++ (gap ++ spelling t ++ g))) rest left
params_go limits s i method bs left gap w t rest (inl is) p h =
    let b = gap ++ spelling tag.Params in
    subst (λ (x : Tag). Good (λ g. BeginsCall (started s ++ (gap ++ spelling x ++ g))) rest left) (sym is)
    (each_front (suc (length rest)) limits method no_tree 0 rest left (λ g. BeginsCall (started s ++ (b ++ g))) (le_refl (suc (length rest)))
    (λ params r ending x g f.
    let all = Params gap params ending in
    call_begins (call_with s all plain_end []) (is_call s all plain_end [] i (w, r, x) (refl, refl) refl) (started s ++ (b ++ g))
    (on_two (started s ++ (b ++ g)) (started s ++ printed_params all) (printed_end tag.EndMethodCall plain_end) []
    (front_behind (started s) (b ++ g) (printed_params all) (front_two b g (printed_each params) (printed_end tag.EndParams ending) f))))
    (λ params r ending x last e.
    let all = Params gap params ending in
    good_to (λ g. BeginsCall (started s ++ printed_params all ++ g)) (λ g. BeginsCall (started s ++ (b ++ (printed_each params ++ printed_end tag.EndParams ending ++ g)))) last left
    (λ g y. subst BeginsCall (printed_whole (started s) b (printed_each params) (printed_end tag.EndParams ending) g) y)
    (behind_params limits s all method (held_values limits (values_of params) no_tree 0) (count_behind_values limits (values_of params) 0) last left i (w, r, x) e))
    (subst (λ (x : Tag). CalledHalts limits method x rest left) is h))
params_go limits s i method bs left gap w t rest (inr (inl is)) p h =
    subst (λ (x : Tag). Good (λ g. BeginsCall (started s ++ (gap ++ spelling x ++ g))) rest left) (sym is)
    (good_to (λ g. BeginsCall (started s ++ printed_params (NoParams gap) ++ g)) (λ g. BeginsCall (started s ++ (gap ++ spelling tag.NoParams ++ g))) rest left
    (λ g y. subst BeginsCall (append_assoc (started s) (gap ++ spelling tag.NoParams) g) y)
    (behind_params limits s (NoParams gap) method no_tree 0 rest left i w (subst (λ (x : Tag). CalledHalts limits method x rest left) is h)))
params_go limits s i method bs left gap w t rest (inr (inr (inl is))) p h =
    subst (λ (x : Tag). Good (λ g. BeginsCall (started s ++ (gap ++ spelling x ++ g))) rest left) (sym is)
    (closes_front limits (AtCalled method) tag.EndMethodCall [] 0 gap rest bs left (λ g. BeginsCall (started s ++ g)) w (p ∙ ap (λ (x : Tag). gap ++ spelling x ++ rest) is)
    (λ ending x g f. subst (λ (y : List ℕ). BeginsCall (y ++ g)) (append-nil (started s)) (end_fails s Without i tt ending x g f))
    (λ ending x last q e. subst (λ (y : List ℕ). Good (λ g. BeginsCall (y ++ (printed_end tag.EndMethodCall ending ++ g))) last left) (append-nil (started s))
    (end_goes limits s Without 0 (ACall (record { method = method; params = no_tree })) left i tt ending x last e))
    (subst (λ (x : Tag). CalledHalts limits method x rest left) is h))
params_go limits s i method bs left gap w t rest (inr (inr (inr o))) p h = absurd o

-- after the name of a method
pub params_front : (limits : Limits) (s : Start) → IsStart s → (method : List ℕ) (bs : List ℕ) (left : ℕ) → run limits (at (At (AtCalled method)) [] 0) bs ≡ NotRead left → Good (λ g. BeginsCall (started s ++ g)) bs left
params_front limits s i method bs left e =
    ahead_front limits (AtCalled method) [] 0 bs left (λ g. BeginsCall (started s ++ g)) tt (tag.Params, inl refl)
    (λ gap w t j g f. params_begin s i method gap w t j g f)
    (λ gap w t rest j p h. params_go limits s i method bs left gap w t rest j p h)
    e

-- a call of a method named a
abbrev short : HeadText → List ℕ → Start
short head before_name = record { head = head; before_name = before_name; name = Plain 97 ∷ []; inside = [] }

not_none : (Plain 97 ∷ []) ≢ []
not_none e = no_list e
  where
    no_list : (Plain 97 ∷ []) ≡ [] → ⊥
    no_list e = cc e

is_short : (head : HeadText) (before_name : List ℕ) → IsHead head → IsWhite before_name → IsStart (short head before_name)
is_short head before_name h w = record { head = h; before_name = w; letters = an_a; named = not_none; inside = refl }

-- after the opening tag of a call
pub method_front : (limits : Limits) (head : HeadText) (rest : List ℕ) (left : ℕ) → IsHead head → run limits (at (At AtMethod) [] 0) rest ≡ NotRead left
    → Good (λ g. BeginsCall (printed_head head ++ spelling tag.MethodCall ++ g)) rest left
method_front limits head rest left h e =
    let a = printed_head head ++ spelling tag.MethodCall in
    ahead_front limits AtMethod [] 0 rest left (λ g. BeginsCall (a ++ g)) tt (tag.MethodName, inl refl)
    (λ bn w t i g f.
    let is = only_one t tag.MethodName (tags_of AtMethod) refl i in
    let s = short head bn in
    subst BeginsCall (append_assoc a bn g)
    (call_begins (call_with s Without plain_end []) (is_call s Without plain_end [] (is_short head bn h w) tt (refl, refl) refl) (a ++ bn ++ g)
    (on_five (a ++ bn ++ g) (a ++ bn ++ spelling tag.MethodName) (printed_text s.name) (printed_shut tag.EndMethodName []) [] (printed_end tag.EndMethodCall plain_end) []
    (front_behind (a ++ bn) g (spelling tag.MethodName) (subst (λ (x : Tag). IsFront g (spelling x)) is f)))))
    (λ bn w t rest1 i q j.
    let is = only_one t tag.MethodName (tags_of AtMethod) refl i in
    let b = a ++ bn ++ spelling tag.MethodName in
    good_two BeginsCall a bn (spelling t) rest1 left
    (subst (λ (x : Tag). Good (λ g. BeginsCall (a ++ bn ++ spelling x ++ g)) rest1 left) (sym is)
    (text_front (suc (length rest1)) limits InMethod [] [] 0 rest1 left (λ g. BeginsCall (b ++ g)) (le_refl (suc (length rest1)))
    (λ letters r inside k m g f.
    let s : Start = record { head = head; before_name = bn; name = letters; inside = inside } in
    let right : IsStart s = record { head = h; before_name = w; letters = r; named = named_back letters m; inside = k } in
    call_begins (call_with s Without plain_end []) (is_call s Without plain_end [] right tt (refl, refl) refl) (b ++ g)
    (on_three (b ++ g) (b ++ printed_text letters ++ printed_shut tag.EndMethodName inside) [] (printed_end tag.EndMethodCall plain_end) [] (front_two b g (printed_text letters) (printed_shut tag.EndMethodName inside) f)))
    (λ letters r inside k rest2 m q2 e2.
    let s : Start = record { head = head; before_name = bn; name = letters; inside = inside } in
    let right : IsStart s = record { head = h; before_name = w; letters = r; named = named_back letters m; inside = k } in
    good_two BeginsCall b (printed_text letters) (printed_shut tag.EndMethodName inside) rest2 left (params_front limits s right (text_of letters) rest2 left e2))
    (subst (λ (x : Tag). Halts limits (enter limits AtMethod x [] 0) 0 rest1 left) is j))))
    e

-- a prefix of what stands before a call's first tag, or of that tag
head_begins : (head : HeadText) → IsHead head → (g : List ℕ) → IsFront g (printed_head head ++ spelling tag.MethodCall) → BeginsCall g
head_begins head h g f =
    let s = short head [] in
    call_begins (call_with s Without plain_end []) (is_call s Without plain_end [] (is_short head [] h refl) tt (refl, refl) refl) g
    (on_seven g (printed_head head ++ spelling tag.MethodCall) [] (spelling tag.MethodName) (printed_text s.name) (printed_shut tag.EndMethodName []) [] (printed_end tag.EndMethodCall plain_end) [] f)

-- where reading is refused, some spelled call begins with the bytes before
pub good_call : (limits : Limits) (bs : List ℕ) (left : ℕ) → run limits (start OfCall) bs ≡ NotRead left → Good BeginsCall bs left
good_call limits bs left e = head_front limits OfCall bs left BeginsCall head_begins (λ head h rest f. method_front limits head rest left h f) e
