-- What is read within the limits, beside what is read without: after a whole tag, and after the end of a closing tag.
use Rattle.std.proofs.Common.{◌≡◌, ℕ, suc, ◌-◌, ◌≤◌, min, Bool, true, false, leb, List, [], ◌∷◌, ◌++◌, length, Option, Some, None, inl, inr, refl, sym, ap, ◌∙◌, subst, arith, codes, if◌then◌else◌}
use Rattle.std.proofs.lemmas.Bool.{cases_lt, le-leb, lt-leb}
use Rattle.sv_xmlcall.specs.Tags.{spelling}
use Rattle.sv_xmlcall.specs.Trees.{Tree, Trees, Members, text, other, structure, array, no_tree, Reply, Returns}
use Rattle.sv_xmlcall.specs.Trees.{integer as integer_tree, truth as truth_tree}
use Rattle.sv_xmlcall.specs.Spelled.{ACall, AReply, snoc, snoc_member, fault_of}
use Rattle.sv_xmlcall.specs.Openings.{opened, deepest}
use Rattle.sv_xmlcall.specs.Machine.{Limits, the_limits, Frame, InParam, InReply, InFault, InArray, InMember, Content, InMethod, InName, InString, InDouble, InDate, InBase, InBare, Expecting, AtStart, AtDeclared, AtMethod, AtCalled, AtParams, AtParamEnd, AtParamsEnd, AtResponse, AtReplyParam, AtReplyParamEnd, AtReplyParamsEnd, AtFaultEnd, AtResponseEnd, AtDone, AtValue, AtForm, AtFormEnd, AtData, AtItems, AtArrayEnd, AtMembers, AtName, AtMemberEnd, AtTextEnd, AtIntegerEnd, AtTruthEnd, AtEntity, Control, At, Within, Close, Chars, Hash, Numeral, Opened, Digits, TruthDigit, Prolog, Stuck, State, Step, Go, Deep, Verdict, TooDeep, at, goes, enter, leave, run, kept, kept_member, whole_fault, after_fault, after_value, counted, open_value, empty_value, tags_of, words_of}
use Rattle.sv_xmlcall.specs.declared.tag.Tag.{Tag}
use Rattle.sv_xmlcall.specs.declared.tag.Tag.TheVariants as tag
use Rattle.sv_xmlcall.proofs.TagsBack.{IsOneOf}
use Rattle.sv_xmlcall.proofs.OpeningLaws.{is_still, still_opened, still_deepest}
use Rattle.sv_xmlcall.proofs.Measures.{far, capped, Measured, Judged, behind, measured_to, measured_word, measured_opening}

-- the frames of a value and of those around it
abbrev pub IsStack : List Frame → Type 0
IsStack [] = ⊥
IsStack (InParam method before ∷ below) = below ≡ []
IsStack (InReply ∷ below) = below ≡ []
IsStack (InFault ∷ below) = below ≡ []
IsStack (InArray before ∷ below) = IsStack below
IsStack (InMember before name ∷ below) = IsStack below

-- outside of values, before or after one, and in one, where so many are open
abbrev pub Outside : List Frame → ℕ → Type 0
Outside frames around = (frames ≡ []) × (around ≡ 0)

abbrev pub Beside : List Frame → ℕ → Type 0
Beside frames around = IsStack frames × (suc around ≡ length frames)

abbrev pub Inside : List Frame → ℕ → Type 0
Inside frames around = IsStack frames × (around ≡ length frames)

abbrev pub in_content : Content → List Frame → ℕ → Type 0
in_content InMethod frames around = Outside frames around
in_content (InName before) frames around = Inside frames around
in_content any frames around = Inside frames around

abbrev pub in_place : Expecting → List Frame → ℕ → Type 0
in_place (AtStart document) frames around = ⊥
in_place AtValue frames around = Beside frames around
in_place (AtDeclared document) frames around = Outside frames around
in_place AtMethod frames around = Outside frames around
in_place (AtCalled method) frames around = Outside frames around
in_place (AtParams method before) frames around = Outside frames around
in_place (AtParamEnd method before) frames around = Outside frames around
in_place (AtParamsEnd method params) frames around = Outside frames around
in_place AtResponse frames around = Outside frames around
in_place AtReplyParam frames around = Outside frames around
in_place (AtReplyParamEnd value) frames around = Outside frames around
in_place (AtReplyParamsEnd value) frames around = Outside frames around
in_place (AtFaultEnd reply) frames around = Outside frames around
in_place (AtResponseEnd reply) frames around = Outside frames around
in_place (AtDone spelled) frames around = Outside frames around
in_place (AtForm white) frames around = Inside frames around
in_place (AtFormEnd value) frames around = Inside frames around
in_place AtData frames around = Inside frames around
in_place (AtItems items) frames around = Inside frames around
in_place (AtArrayEnd items) frames around = Inside frames around
in_place (AtMembers members) frames around = Inside frames around
in_place (AtName members) frames around = Inside frames around
in_place (AtMemberEnd members) frames around = Inside frames around
in_place (AtIntegerEnd short number) frames around = Inside frames around
in_place (AtTruthEnd b) frames around = Inside frames around
in_place (AtTextEnd content bytes) frames around = in_content content frames around
in_place (AtEntity content bytes) frames around = in_content content frames around

abbrev pub closing : Expecting → List Frame → ℕ → Type 0
closing (AtForm white) frames around = Beside frames around
closing (AtFormEnd value) frames around = Beside frames around
closing (AtTextEnd InBare bytes) frames around = Beside frames around
closing (AtTextEnd content bytes) frames around = in_content content frames around
closing (AtStart document) frames around = ⊥
closing AtValue frames around = ⊥
closing (AtEntity content bytes) frames around = ⊥
closing (AtDeclared document) frames around = ⊥
closing AtMethod frames around = ⊥
closing AtResponse frames around = ⊥
closing AtReplyParam frames around = ⊥
closing (AtDone spelled) frames around = ⊥
closing AtData frames around = ⊥
closing (AtName members) frames around = ⊥
closing (AtCalled method) frames around = Outside frames around
closing (AtParams method before) frames around = Outside frames around
closing (AtParamEnd method before) frames around = Outside frames around
closing (AtParamsEnd method params) frames around = Outside frames around
closing (AtReplyParamEnd value) frames around = Outside frames around
closing (AtReplyParamsEnd value) frames around = Outside frames around
closing (AtFaultEnd reply) frames around = Outside frames around
closing (AtResponseEnd reply) frames around = Outside frames around
closing (AtItems items) frames around = Inside frames around
closing (AtArrayEnd items) frames around = Inside frames around
closing (AtMembers members) frames around = Inside frames around
closing (AtMemberEnd members) frames around = Inside frames around
closing (AtIntegerEnd short number) frames around = Inside frames around
closing (AtTruthEnd b) frames around = Inside frames around

abbrev pub Stands : Control → List Frame → ℕ → Type 0
Stands (At place) frames around = in_place place frames around
Stands (Within place words) frames around = in_place place frames around × (words ≡ words_of (tags_of place))
Stands (Close place) frames around = closing place frames around
Stands (Chars content bytes awaits) frames around = in_content content frames around
Stands (Hash content bytes) frames around = in_content content frames around
Stands (Numeral content bytes hex seen n) frames around = in_content content frames around
Stands (Opened white) frames around = Inside frames around
Stands (Digits short negative sign n) frames around = Inside frames around
Stands TruthDigit frames around = Inside frames around
Stands (Prolog document question awaits) frames around = ⊥
Stands Stuck frames around = Unit {0}

pub some_frame : (frames : List Frame) → IsStack frames → 1 ≤ length frames
some_frame [] s = absurd s
some_frame (frame ∷ below) s = omega arith

capped_leb : (count : ℕ) → leb (capped count) 65536 ≡ leb count 65536
capped_leb count = elim (cases_lt 65536 count) [
  | inl h ↦ rw (lt-leb count 65536 h, lt-leb (min count 65537) 65536 (omega arith)) refl
  | inr h ↦ rw (le-leb count 65536 h, le-leb (min count 65537) 65536 (omega arith)) refl
]

kept_same : (n count : ℕ) (before : Trees) (value : Tree) → kept the_limits (capped count) before value ≡ kept (far n) count before value
kept_same n count before value = ap (λ (c : Bool). if c then snoc before value else before) (capped_leb count)

kept_member_same : (n count : ℕ) (before : Members) (name : List ℕ) (value : Tree) → kept_member the_limits (capped count) before name value ≡ kept_member (far n) count before name value
kept_member_same n count before name value = ap (λ (c : Bool). if c then snoc_member before name value else before) (capped_leb count)

whole_same : (n count : ℕ) (value : Tree) → whole_fault the_limits (capped count) value ≡ whole_fault (far n) count value
whole_same n count value = ap (λ (c : Bool). if c then fault_of value else None) (capped_leb count)

-- two states that differ in their counts alone
pub record Beyond (n : ℕ) (far_off near : State) (frames : List Frame) (count around : ℕ) : Type 0 where
  pub control : Control
  pub frames2 : List Frame
  pub far_is : far_off ≡ at control frames2 count
  pub near_is : near ≡ at control frames2 (capped count)
  pub few : length frames2 ≤ suc (length frames)
  pub stands : Stands control frames2 around

abbrev fault_control : Option Reply → Control
fault_control (Some reply) = At (AtFaultEnd reply)
fault_control None = Stuck

fault_is : (o : Option Reply) (frames : List Frame) (count : ℕ) → after_fault o frames count ≡ at (fault_control o) frames count
fault_is (Some reply) frames count = refl
fault_is None frames count = refl

fault_stands : (o : Option Reply) (frames : List Frame) (around : ℕ) → Outside frames around → Stands (fault_control o) frames around
fault_stands (Some reply) frames around s = s
fault_stands None frames around s = tt

below_none : (frame : Frame) (below : List Frame) (around : ℕ) → below ≡ [] → suc around ≡ length (frame ∷ below) → Outside below around
below_none frame below around b e = let l = ap length b in (b, omega arith)

-- after a whole value
pub beyond_value : (n : ℕ) (value : Tree) (frames : List Frame) (count around : ℕ) → Beside frames around
    → Beyond n (after_value (far n) value frames count) (after_value the_limits value frames (capped count)) frames count around
beyond_value n value [] count around s = absurd s.0
beyond_value n value (InParam method before ∷ below) count around s = record {
  control = At (AtParamEnd method (kept (far n) count before value));
  frames2 = below;
  far_is = refl;
  near_is = ap (λ (v : Trees). at (At (AtParamEnd method v)) below (capped count)) (kept_same n count before value);
  few = omega arith;
  stands = below_none (InParam method before) below around s.0 s.1;
}
beyond_value n value (InReply ∷ below) count around s = record {
  control = At (AtReplyParamEnd value);
  frames2 = below;
  far_is = refl;
  near_is = refl;
  few = omega arith;
  stands = below_none InReply below around s.0 s.1;
}
beyond_value n value (InFault ∷ below) count around s =
    let o = whole_fault (far n) count value in
    record {
      control = fault_control o;
      frames2 = below;
      far_is = fault_is o below count;
      near_is = ap (λ (x : Option Reply). after_fault x below (capped count)) (whole_same n count value) ∙ fault_is o below (capped count);
      few = omega arith;
      stands = fault_stands o below around (below_none InFault below around s.0 s.1);
    }
beyond_value n value (InArray before ∷ below) count around s = record {
  control = At (AtItems (kept (far n) count before value));
  frames2 = below;
  far_is = refl;
  near_is = ap (λ (v : Trees). at (At (AtItems v)) below (capped count)) (kept_same n count before value);
  few = omega arith;
  stands = (s.0, let e = s.1 in omega arith);
}
beyond_value n value (InMember before name ∷ below) count around s = record {
  control = At (AtMemberEnd (kept_member (far n) count before name value));
  frames2 = below;
  far_is = refl;
  near_is = ap (λ (v : Members). at (At (AtMemberEnd v)) below (capped count)) (kept_member_same n count before name value);
  few = omega arith;
  stands = (s.0, let e = s.1 in omega arith);
}

beyond_to : (n : ℕ) (control : Control) (frames : List Frame) (count around : ℕ) → Stands control frames around → Beyond n (at control frames count) (at control frames (capped count)) frames count around
beyond_to n control frames count around s = record { control = control; frames2 = frames; far_is = refl; near_is = refl; few = omega arith; stands = s }

abbrev Left : ℕ → Expecting → List Frame → ℕ → ℕ → Type 0
Left n place frames count around = Beyond n (leave (far n) place frames count) (leave the_limits place frames (capped count)) frames count around

text_left : (n : ℕ) (content : Content) (bytes : List ℕ) (frames : List Frame) (count around : ℕ) → closing (AtTextEnd content bytes) frames around → Left n (AtTextEnd content bytes) frames count around
text_left n InMethod bytes frames count around s = beyond_to n (At (AtCalled bytes)) frames count around s
text_left n (InName before) bytes frames count around s = record {
  control = At AtValue;
  frames2 = InMember before bytes ∷ frames;
  far_is = refl;
  near_is = refl;
  few = omega arith;
  stands = (s.0, ap suc s.1);
}
text_left n InString bytes frames count around s = beyond_to n (At (AtFormEnd (text bytes))) frames count around s
text_left n InDouble bytes frames count around s = beyond_to n (At (AtFormEnd (other (codes "double") bytes))) frames count around s
text_left n InDate bytes frames count around s = beyond_to n (At (AtFormEnd (other (codes "dateTime.iso8601") bytes))) frames count around s
text_left n InBase bytes frames count around s = beyond_to n (At (AtFormEnd (other (codes "base64") bytes))) frames count around s
text_left n InBare bytes frames count around s = beyond_value n (text bytes) frames count around s

-- after the end of a closing tag
pub left_behind : (n : ℕ) (place : Expecting) (frames : List Frame) (count around : ℕ) → closing place frames around → Left n place frames count around
left_behind n (AtStart document) frames count around s = absurd s
left_behind n AtValue frames count around s = absurd s
left_behind n (AtEntity content bytes) frames count around s = absurd s
left_behind n (AtDeclared document) frames count around s = absurd s
left_behind n AtMethod frames count around s = absurd s
left_behind n AtResponse frames count around s = absurd s
left_behind n AtReplyParam frames count around s = absurd s
left_behind n (AtDone spelled) frames count around s = absurd s
left_behind n AtData frames count around s = absurd s
left_behind n (AtName members) frames count around s = absurd s
left_behind n (AtCalled method) frames count around s = beyond_to n (At (AtDone (ACall (record { method = method; params = no_tree })))) frames count around s
left_behind n (AtParams method before) frames count around s = beyond_to n (At (AtParamsEnd method before)) frames count around s
left_behind n (AtParamEnd method before) frames count around s = beyond_to n (At (AtParams method before)) frames count around s
left_behind n (AtParamsEnd method params) frames count around s = beyond_to n (At (AtDone (ACall (record { method = method; params = params })))) frames count around s
left_behind n (AtReplyParamEnd value) frames count around s = beyond_to n (At (AtReplyParamsEnd value)) frames count around s
left_behind n (AtReplyParamsEnd value) frames count around s = beyond_to n (At (AtResponseEnd (Returns value))) frames count around s
left_behind n (AtFaultEnd reply) frames count around s = beyond_to n (At (AtResponseEnd reply)) frames count around s
left_behind n (AtResponseEnd reply) frames count around s = beyond_to n (At (AtDone (AReply reply))) frames count around s
left_behind n (AtItems items) frames count around s = beyond_to n (At (AtArrayEnd items)) frames count around s
left_behind n (AtArrayEnd items) frames count around s = beyond_to n (At (AtFormEnd (array items))) frames count around s
left_behind n (AtMembers members) frames count around s = beyond_to n (At (AtFormEnd (structure members))) frames count around s
left_behind n (AtMemberEnd members) frames count around s = beyond_to n (At (AtMembers members)) frames count around s
left_behind n (AtIntegerEnd short number) frames count around s = beyond_to n (At (AtFormEnd (integer_tree number))) frames count around s
left_behind n (AtTruthEnd b) frames count around s = beyond_to n (At (AtFormEnd (truth_tree b))) frames count around s
left_behind n (AtForm white) frames count around s = beyond_value n (text white) frames count around s
left_behind n (AtFormEnd value) frames count around s = beyond_value n value frames count around s
left_behind n (AtTextEnd content bytes) frames count around s = text_left n content bytes frames count around s

-- before a tag and what follows it
pub record Spot : Type 0 where
  pub size : ℕ
  pub place : Expecting
  pub frames : List Frame
  pub count : ℕ
  pub around : ℕ
  pub rest : List ℕ

abbrev pub spot : ℕ → Expecting → List Frame → ℕ → ℕ → List ℕ → Spot
spot size place frames count around rest = record { size = size; place = place; frames = frames; count = count; around = around; rest = rest }

abbrev pub step_far : Spot → Tag → Step
step_far s t = enter (far s.size) s.place t s.frames s.count

abbrev pub step_near : Spot → Tag → Step
step_near s t = enter the_limits s.place t s.frames (capped s.count)

-- what is come to after a whole tag
abbrev pub Entered : Spot → Tag → Type 0
Entered s t = Measured (behind (far s.size) (step_far s t) s.count s.rest) (behind the_limits (step_near s t) (capped s.count) s.rest) s.around s.count (spelling t ++ s.rest)

-- what holds of the bytes after a tag, in whatever state
abbrev pub Again : Spot → Type 0
Again s = (control : Control) (frames2 : List Frame) (count2 around : ℕ) → length frames2 ≤ suc (length s.frames) → count2 ≤ suc s.count → Stands control frames2 around → Judged s.size control frames2 count2 around s.rest

to_tag : (s : Spot) (t u : Tag) → t ≡ u → Entered s u → Entered s t
to_tag s t u is e = subst (λ (x : Tag). Entered s x) (sym is) e

-- a tag that opens no value
quiet : (s : Spot) → Again s → (t u : Tag) → t ≡ u → (control : Control) (frames2 : List Frame) (around2 : ℕ) → length frames2 ≤ suc (length s.frames)
    → ((limits : Limits) (count : ℕ) → enter limits s.place u s.frames count ≡ goes control frames2 count)
    → ((g : List ℕ) → deepest s.around (spelling u ++ g) ≡ deepest around2 g) → ((g : List ℕ) → opened (spelling u ++ g) ≡ opened g) → Stands control frames2 around2
    → Entered s t
quiet s again t u is control frames2 around2 l e d o h =
    to_tag s t u is
    (measured_word _ _ s.around around2 s.count (spelling u) s.rest d o
    (measured_to _ _ _ _ around2 s.count s.rest (ap (λ (x : Step). behind (far s.size) x s.count s.rest) (e (far s.size) s.count))
    (ap (λ (x : Step). behind the_limits x (capped s.count) s.rest) (e the_limits (capped s.count)))
    (again control frames2 s.count around2 l (omega arith) h)))

-- a tag that is none of a value
pub pushes : (s : Spot) → Again s → (t u : Tag) → t ≡ u → (control : Control) (frames2 : List Frame) → length frames2 ≤ suc (length s.frames)
    → ((limits : Limits) (count : ℕ) → enter limits s.place u s.frames count ≡ goes control frames2 count) → is_still (spelling u) ≡ true → Stands control frames2 s.around
    → Entered s t
pushes s again t u is control frames2 l e q h = quiet s again t u is control frames2 s.around l e (λ g. still_deepest s.around (spelling u) g q) (λ g. still_opened (spelling u) g q) h

pub still : (s : Spot) → Again s → (t u : Tag) → t ≡ u → (control : Control) → ((limits : Limits) (count : ℕ) → enter limits s.place u s.frames count ≡ goes control s.frames count)
    → is_still (spelling u) ≡ true → Stands control s.frames s.around
    → Entered s t
still s again t u is control e q h = pushes s again t u is control s.frames (omega arith) e q h

-- the closing tag of a value
pub shutting : (s : Spot) → Again s → (t : Tag) → t ≡ tag.EndValue → ((limits : Limits) (count : ℕ) → enter limits s.place tag.EndValue s.frames count ≡ goes (Close s.place) s.frames count)
    → ((around : ℕ) → Beside s.frames around → closing s.place s.frames around) → Inside s.frames s.around
    → Entered s t
shutting s again t is e c i =
    let l = some_frame s.frames i.0 in
    let k = i.1 in
    quiet s again t tag.EndValue is (Close s.place) s.frames (s.around - 1) (omega arith) e (λ g. refl) (λ g. refl) (c (s.around - 1) (i.0, omega arith))

far_opens : (n : ℕ) (step : Step) (frames : List Frame) → length frames ≤ n → (if leb (length frames) n then step else Deep) ≡ step
far_opens n step frames l = rw (le-leb (length frames) n l) refl

far_counted : (n count : ℕ) → count ≤ n → counted (far n) count ≡ suc count
far_counted n count l = rw (le-leb count n l) refl

near_counted : (count : ℕ) → counted the_limits (capped count) ≡ capped (suc count)
near_counted count = elim (cases_lt 65536 count) [
  | inl h ↦ rw (lt-leb (min count 65537) 65536 (omega arith)) (omega arith)
  | inr h ↦ rw (le-leb (min count 65537) 65536 (omega arith)) (omega arith)
]

chosen : (c : Bool) (step : Step) (count : ℕ) (rest : List ℕ) (near : Verdict) → behind the_limits step count rest ≡ near → behind the_limits (if c then step else Deep) count rest ≡ (if c then near else TooDeep)
chosen true step count rest near e = e
chosen false step count rest near e = refl

-- `<value>` and `<value/>`
opens : (n : ℕ) (frames : List Frame) (count around : ℕ) (rest : List ℕ) → length frames ≤ n → count ≤ n → suc around ≡ length frames → Judged n (Opened []) frames (suc count) (suc around) rest
    → Measured (behind (far n) (open_value (far n) frames count) count rest) (behind the_limits (open_value the_limits frames (capped count)) (capped count) rest) around count (spelling tag.Value ++ rest)
opens n frames count around rest l c s m =
    measured_to _ _ _ _ around count (spelling tag.Value ++ rest)
    (ap (λ (x : Step). behind (far n) x count rest) (far_opens n (goes (Opened []) frames (counted (far n) count)) frames l) ∙ ap (λ (k : ℕ). run (far n) (at (Opened []) frames k) rest) (far_counted n count c))
    refl
    (measured_opening _ _ _ around (suc around) count (spelling tag.Value) rest (λ g. refl) (λ g. refl)
    (chosen (leb (length frames) 32) (goes (Opened []) frames (counted the_limits (capped count))) (capped count) rest (run the_limits (at (Opened []) frames (capped (suc count))) rest)
    (ap (λ (k : ℕ). run the_limits (at (Opened []) frames k) rest) (near_counted count))
    ∙ ap (λ (k : ℕ). if leb k 32 then run the_limits (at (Opened []) frames (capped (suc count))) rest else TooDeep) (sym s))
    m)

empties : (n : ℕ) (frames : List Frame) (count around : ℕ) (rest : List ℕ) → length frames ≤ n → count ≤ n → suc around ≡ length frames
    → (b : Beyond n (after_value (far n) (text []) frames (suc count)) (after_value the_limits (text []) frames (capped (suc count))) frames (suc count) around) → Judged n b.control b.frames2 (suc count) around rest
    → Measured (behind (far n) (empty_value (far n) frames count) count rest) (behind the_limits (empty_value the_limits frames (capped count)) (capped count) rest) around count (spelling tag.NoValue ++ rest)
empties n frames count around rest l c s b m =
    measured_to _ _ _ _ around count (spelling tag.NoValue ++ rest)
    (ap (λ (x : Step). behind (far n) x count rest) (far_opens n (Go (after_value (far n) (text []) frames (counted (far n) count))) frames l)
    ∙ ap (λ (k : ℕ). run (far n) (after_value (far n) (text []) frames k) rest) (far_counted n count c) ∙ ap (λ (x : State). run (far n) x rest) b.far_is)
    refl
    (measured_opening _ _ _ around around count (spelling tag.NoValue) rest (λ g. refl) (λ g. refl)
    (chosen (leb (length frames) 32) (Go (after_value the_limits (text []) frames (counted the_limits (capped count)))) (capped count) rest (run the_limits (at b.control b.frames2 (capped (suc count))) rest)
    (ap (λ (k : ℕ). run the_limits (after_value the_limits (text []) frames k) rest) (near_counted count) ∙ ap (λ (x : State). run the_limits x rest) b.near_is)
    ∙ ap (λ (k : ℕ). if leb k 32 then run the_limits (at b.control b.frames2 (capped (suc count))) rest else TooDeep) (sym s))
    m)

-- before a value
pub value_entered : (n : ℕ) (frames : List Frame) (count around : ℕ) (rest : List ℕ) → length frames ≤ n → count ≤ n → Beside frames around → Again (spot n AtValue frames count around rest)
    → (t : Tag) → IsOneOf t (tags_of AtValue) → Entered (spot n AtValue frames count around rest) t
value_entered n frames count around rest l c b again t (inl is) =
    to_tag (spot n AtValue frames count around rest) t tag.Value is (opens n frames count around rest l c b.1 (again (Opened []) frames (suc count) (suc around) (omega arith) (omega arith) (b.0, b.1)))
value_entered n frames count around rest l c b again t (inr (inl is)) =
    let v = beyond_value n (text []) frames (suc count) around b in
    to_tag (spot n AtValue frames count around rest) t tag.NoValue is (empties n frames count around rest l c b.1 v (again v.control v.frames2 (suc count) around v.few (omega arith) v.stands))
value_entered n frames count around rest l c b again t (inr (inr o)) = absurd o

abbrev beyond_item : (n : ℕ) (items : Trees) (frames : List Frame) (count around : ℕ) → Inside frames around
    → Beyond n (after_value (far n) (text []) (InArray items ∷ frames) (suc count)) (after_value the_limits (text []) (InArray items ∷ frames) (capped (suc count))) (InArray items ∷ frames) (suc count) around
beyond_item n items frames count around i = record {
  control = At (AtItems (kept (far n) (suc count) items (text [])));
  frames2 = frames;
  far_is = refl;
  near_is = ap (λ (v : Trees). at (At (AtItems v)) frames (capped (suc count))) (kept_same n (suc count) items (text []));
  few = omega arith;
  stands = i;
}

-- before a further value of an array
pub item_entered : (n : ℕ) (items : Trees) (frames : List Frame) (count around : ℕ) (rest : List ℕ) → suc (length frames) ≤ n → count ≤ n → Inside frames around → Again (spot n (AtItems items) frames count around rest)
    → (t : Tag) → IsOneOf t (tags_of (AtItems items)) → Entered (spot n (AtItems items) frames count around rest) t
item_entered n items frames count around rest l c i again t (inl is) =
    to_tag (spot n (AtItems items) frames count around rest) t tag.Value is
    (opens n (InArray items ∷ frames) count around rest l c (ap suc i.1) (again (Opened []) (InArray items ∷ frames) (suc count) (suc around) (omega arith) (omega arith) (i.0, ap suc i.1)))
item_entered n items frames count around rest l c i again t (inr (inl is)) =
    to_tag (spot n (AtItems items) frames count around rest) t tag.NoValue is
    (empties n (InArray items ∷ frames) count around rest l c (ap suc i.1) (beyond_item n items frames count around i)
    (again (At (AtItems (kept (far n) (suc count) items (text [])))) frames (suc count) around (omega arith) (omega arith) i))
item_entered n items frames count around rest l c i again t (inr (inr (inl is))) =
    still (spot n (AtItems items) frames count around rest) again t tag.EndData is (Close (AtItems items)) (λ limits count. refl) refl i
item_entered n items frames count around rest l c i again t (inr (inr (inr o))) = absurd o
