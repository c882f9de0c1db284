-- What a text comes to from before a tag, and from the end of a closing tag.
use Rattle.std.proofs.Common.{◌≡◌, ℕ, suc, true, false, eqb, List, [], ◌∷◌, length, Result, Ok, Err, inl, inr, refl, sym, ap, ◌∙◌}
use Rattle.std.proofs.lemmas.Bool.{cases_Bool}
use Rattle.sv_xmlcall.specs.Tags.{spelling, word_at, or_later, tag_at}
use Rattle.sv_xmlcall.specs.Spelled.{is_white}
use Rattle.sv_xmlcall.specs.Atoms.{skip_white, tag_behind, close_at, close_behind, closing_at}
use Rattle.sv_xmlcall.specs.Machine.{the_limits, OfCall, OfReply, Expecting, AtStart, AtDeclared, AtMethod, AtCalled, AtParams, AtParamEnd, AtParamsEnd, AtResponse, AtReplyParam, AtReplyParamEnd, AtReplyParamsEnd, AtFaultEnd, AtResponseEnd, AtDone, AtValue, AtForm, AtFormEnd, AtData, AtItems, AtArrayEnd, AtMembers, AtName, AtMemberEnd, AtTextEnd, AtIntegerEnd, AtTruthEnd, AtEntity, Content, InMethod, InName, Frame, State, Step, Verdict, NotRead, At, Within, Close, at, tags_of, words_of, leave, run, on_step, unless_many}
use Rattle.sv_xmlcall.specs.declared.tag.Tag.{Tag}
use Rattle.sv_xmlcall.specs.Outcome.{Gives}
use Rattle.sv_xmlcall.specs.Running.{IsOpen, Closes, Goes}
use Rattle.sv_xmlcall.specs.declared.stop.Stop.{Stop}
use Rattle.sv_xmlcall.specs.declared.stop.Stop.TheVariants as stop
use Rattle.sv_xmlcall.proofs.Words.{tag_words, parted, nonempty, nothing_left, run_within, follow}

pub record Fit (tags : List Tag) : Type 0 where
  pub full : nonempty (words_of tags) ≡ true
  pub apart : parted (words_of tags) ≡ true

fit_end : (content : Content) (bytes : List ℕ) → Fit (tags_of (AtTextEnd content bytes))
fit_end InMethod bytes = record { full = refl; apart = refl }
fit_end (InName before) bytes = record { full = refl; apart = refl }
fit_end any bytes = record { full = refl; apart = refl }

pub fit : (place : Expecting) → Fit (tags_of place)
fit (AtStart OfCall) = record { full = refl; apart = refl }
fit (AtStart OfReply) = record { full = refl; apart = refl }
fit (AtDeclared OfCall) = record { full = refl; apart = refl }
fit (AtDeclared OfReply) = record { full = refl; apart = refl }
fit AtMethod = record { full = refl; apart = refl }
fit (AtCalled method) = record { full = refl; apart = refl }
fit (AtParams method before) = record { full = refl; apart = refl }
fit (AtParamEnd method before) = record { full = refl; apart = refl }
fit (AtParamsEnd method params) = record { full = refl; apart = refl }
fit AtResponse = record { full = refl; apart = refl }
fit AtReplyParam = record { full = refl; apart = refl }
fit (AtReplyParamEnd value) = record { full = refl; apart = refl }
fit (AtReplyParamsEnd value) = record { full = refl; apart = refl }
fit (AtFaultEnd reply) = record { full = refl; apart = refl }
fit (AtResponseEnd reply) = record { full = refl; apart = refl }
fit (AtDone spelled) = record { full = refl; apart = refl }
fit AtValue = record { full = refl; apart = refl }
fit (AtForm white) = record { full = refl; apart = refl }
fit (AtFormEnd value) = record { full = refl; apart = refl }
fit AtData = record { full = refl; apart = refl }
fit (AtItems items) = record { full = refl; apart = refl }
fit (AtArrayEnd items) = record { full = refl; apart = refl }
fit (AtMembers members) = record { full = refl; apart = refl }
fit (AtName members) = record { full = refl; apart = refl }
fit (AtMemberEnd members) = record { full = refl; apart = refl }
fit (AtTextEnd content bytes) = fit_end content bytes
fit (AtIntegerEnd true n) = record { full = refl; apart = refl }
fit (AtIntegerEnd false n) = record { full = refl; apart = refl }
fit (AtTruthEnd b) = record { full = refl; apart = refl }
fit (AtEntity content bytes) = record { full = refl; apart = refl }

-- inside a tag of which nothing is read
pub run_tag : (place : Expecting) (frames : List Frame) (count : ℕ) (bs : List ℕ)
    → run the_limits (at (Within place (words_of (tags_of place))) frames count) bs ≡ follow the_limits place frames count (tag_at (tags_of place) bs)
run_tag place frames count bs =
    let f = fit place in
    run_within the_limits place frames count bs (words_of (tags_of place)) f.full f.apart
    ∙ ap (follow the_limits place frames count) (sym (tag_words (tags_of place) (length bs) bs))

ends : (place : Expecting) (frames : List Frame) (count : ℕ) → IsOpen place
    → run the_limits (at (At place) frames count) [] ≡ unless_many the_limits count (NotRead 0)
ends (AtDone spelled) frames count o = absurd o
ends (AtStart document) frames count o = refl
ends (AtDeclared document) frames count o = refl
ends AtMethod frames count o = refl
ends (AtCalled method) frames count o = refl
ends (AtParams method before) frames count o = refl
ends (AtParamEnd method before) frames count o = refl
ends (AtParamsEnd method params) frames count o = refl
ends AtResponse frames count o = refl
ends AtReplyParam frames count o = refl
ends (AtReplyParamEnd value) frames count o = refl
ends (AtReplyParamsEnd value) frames count o = refl
ends (AtFaultEnd reply) frames count o = refl
ends (AtResponseEnd reply) frames count o = refl
ends AtValue frames count o = refl
ends (AtForm white) frames count o = refl
ends (AtFormEnd value) frames count o = refl
ends AtData frames count o = refl
ends (AtItems items) frames count o = refl
ends (AtArrayEnd items) frames count o = refl
ends (AtMembers members) frames count o = refl
ends (AtName members) frames count o = refl
ends (AtMemberEnd members) frames count o = refl
ends (AtTextEnd content bytes) frames count o = refl
ends (AtIntegerEnd short n) frames count o = refl
ends (AtTruthEnd b) frames count o = refl
ends (AtEntity content bytes) frames count o = refl

-- before a tag
pub run_at : (place : Expecting) (frames : List Frame) (count : ℕ) (bs : List ℕ) → IsOpen place
    → run the_limits (at (At place) frames count) bs ≡ follow the_limits place frames count (tag_behind (tags_of place) bs)
run_at place frames count [] o =
    ends place frames count o
    ∙ ap (follow the_limits place frames count) (sym (tag_words (tags_of place) 0 [] ∙ nothing_left (words_of (tags_of place)) (fit place).full))
run_at place frames count (b ∷ bs) o = elim (cases_Bool (is_white b)) [
  | inl white ↦ rw white (run_at place frames count bs o)
  | inr other ↦ rw other (run_tag place frames count (b ∷ bs))
]

abbrev pub left_by : Expecting → List Frame → ℕ → Result (List ℕ) ℕ → Verdict
left_by place frames count (Ok rest) = run the_limits (leave the_limits place frames count) rest
left_by place frames count (Err left) = unless_many the_limits count (NotRead left)

-- at the end of a closing tag
pub run_close : (place : Expecting) (frames : List Frame) (count : ℕ) (bs : List ℕ)
    → run the_limits (at (Close place) frames count) bs ≡ left_by place frames count (close_at bs)
run_close place frames count [] = refl
run_close place frames count (b ∷ bs) = elim (cases_Bool (is_white b)) [
  | inl white ↦ rw white (run_close place frames count bs)
  | inr other ↦ elim (cases_Bool (eqb b 62)) [
    | inl e ↦ rw (other, e) refl
    | inr e ↦ rw (other, e) refl
  ]
]

follow_closing : (place : Expecting) (t : Tag) (frames : List Frame) (count : ℕ) (bs : List ℕ) (w : Result (List ℕ) ℕ) → Closes place t
    → follow the_limits place frames count (or_later t (λ l. Err l) (length bs) w) ≡ left_by place frames count (close_behind (or_later t (λ l. Err l) (length bs) w))
follow_closing place t frames count bs (Ok rest) c =
    ap (λ (s : Step). on_step s (λ s. run the_limits s rest) (unless_many the_limits count (NotRead (suc (length rest))))) (c.shut frames count)
    ∙ run_close place frames count rest
follow_closing place t frames count bs (Err left) c = refl

-- before a closing tag
pub run_closing : (place : Expecting) (t : Tag) (frames : List Frame) (count : ℕ) (bs : List ℕ) → Closes place t
    → run the_limits (at (At place) frames count) bs ≡ left_by place frames count (closing_at (t ∷ []) bs)
run_closing place t frames count bs c =
    run_at place frames count bs c.goes_on
    ∙ ap (λ (tags : List Tag). follow the_limits place frames count (tag_behind tags bs)) c.only
    ∙ follow_closing place t frames count (skip_white bs) (word_at (spelling t) (skip_white bs)) c

-- inside a closing tag of which nothing is read
pub run_shut : (place : Expecting) (t : Tag) (frames : List Frame) (count : ℕ) (bs : List ℕ) → Closes place t
    → run the_limits (at (Within place (words_of (tags_of place))) frames count) bs ≡ left_by place frames count (close_behind (tag_at (t ∷ []) bs))
run_shut place t frames count bs c =
    run_tag place frames count bs
    ∙ ap (λ (tags : List Tag). follow the_limits place frames count (tag_at tags bs)) c.only
    ∙ follow_closing place t frames count bs (word_at (spelling t) bs) c

goes_left : {X : Type 0} (rest : X → List ℕ) (place : Expecting) (frames : List Frame) (count : ℕ) (bs : List ℕ) (state : State) (read : Result (List ℕ) ℕ) (r : Result X Stop)
    → run the_limits state bs ≡ left_by place frames count read → Gives rest r read
    → Goes state bs (λ x. leave the_limits place frames count) rest count r
goes_left rest place frames count bs state read (Ok x) e g = e ∙ ap (left_by place frames count) g
goes_left rest place frames count bs state read (Err (stop.At left)) e g = e ∙ ap (left_by place frames count) g
goes_left rest place frames count bs state read (Err stop.TooDeep) e g = absurd g
goes_left rest place frames count bs state read (Err stop.OutOfMemory) e g = tt

pub goes_closing : {X : Type 0} (rest : X → List ℕ) (place : Expecting) (t : Tag) (frames : List Frame) (count : ℕ) (bs : List ℕ) (r : Result X Stop)
    → Closes place t → Gives rest r (closing_at (t ∷ []) bs) → Goes (at (At place) frames count) bs (λ x. leave the_limits place frames count) rest count r
goes_closing rest place t frames count bs r c g = goes_left rest place frames count bs (at (At place) frames count) (closing_at (t ∷ []) bs) r (run_closing place t frames count bs c) g

pub goes_shut : {X : Type 0} (rest : X → List ℕ) (place : Expecting) (t : Tag) (frames : List Frame) (count : ℕ) (bs : List ℕ) (r : Result X Stop)
    → Closes place t → Gives rest r (close_behind (tag_at (t ∷ []) bs))
    → Goes (at (Within place (words_of (tags_of place))) frames count) bs (λ x. leave the_limits place frames count) rest count r
goes_shut rest place t frames count bs r c g =
    goes_left rest place frames count bs (at (Within place (words_of (tags_of place))) frames count) (close_behind (tag_at (t ∷ []) bs)) r (run_shut place t frames count bs c) g

pub goes_close : {X : Type 0} (rest : X → List ℕ) (place : Expecting) (frames : List Frame) (count : ℕ) (bs : List ℕ) (r : Result X Stop)
    → Gives rest r (close_at bs) → Goes (at (Close place) frames count) bs (λ x. leave the_limits place frames count) rest count r
goes_close rest place frames count bs r g = goes_left rest place frames count bs (at (Close place) frames count) (close_at bs) r (run_close place frames count bs) g
