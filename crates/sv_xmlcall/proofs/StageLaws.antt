-- What is read at a stage is what the reading byte by byte goes on with.
use Rattle.std.proofs.Common.{◌≡◌, ℤ, ℕ, suc, ◌+◌, ◌-◌, ◌*◌, Bool, true, false, eqb, leb, List, [], ◌∷◌, ◌++◌, length, Result, Ok, Err, inl, inr, refl, sym, ap, ◌∙◌, subst, append_assoc, append-nil}
use Rattle.std.specs.Prelude.{codes}
use Rattle.std.proofs.lemmas.Bool.{cases_Bool, eqb-true}
use Rattle.std.specs.Char.{is_ascii_digit}
use Rattle.sv_xmlcall.specs.Trees.{Tree, Trees, Members, integer, truth, text, other, structure, array, no_tree}
use Rattle.sv_xmlcall.specs.Spelled.{is_white, signed}
use Rattle.sv_xmlcall.specs.Tags.{tag_at}
use Rattle.sv_xmlcall.specs.Atoms.{skip_white, tag_behind, close_at, close_behind, closing_at}
use Rattle.sv_xmlcall.specs.Reading.{◌>>=◌, piece_at, text_at, shut_at, content_at, size_from, size_at, integer_at, truth_at}
use Rattle.sv_xmlcall.specs.Machine.{the_limits, Frame, Content, InName, InString, InDouble, InDate, InBase, InBare, State, Step, Go, Deep, Verdict, NotRead, TooDeep, Expecting, AtValue, AtForm, AtFormEnd, AtData, AtItems, AtArrayEnd, AtMembers, AtName, AtMemberEnd, AtTextEnd, AtIntegerEnd, AtTruthEnd, At, Within, Close, Chars, Digits, TruthDigit, Sign, Fresh, Signed, Counted, at, tags_of, words_of, end_of, end_of_integer, enter, after_text, run, on_step, unless_many, may_end, most_of}
use Rattle.sv_xmlcall.specs.Machine.{Opened as behind_value}
use Rattle.sv_xmlcall.specs.Running.{Closes, Halts}
use Rattle.sv_xmlcall.specs.Outcome.{Stops, Gives}
use Rattle.sv_xmlcall.specs.declared.nested.Settled.{Settled}
use Rattle.sv_xmlcall.specs.Stages.{Standing, Before, Opened, Formed, Data, Items, Further, Ended, Turning, On, Opening, Named, Whole, is_empty_tag, white_of, bare_at, forms, form_of, typed_at, behind_white, opened_at, formed_at, array_end_at, data_of, item_of, member_of, ended_at, stage_at}
use Rattle.sv_xmlcall.specs.Turns.{stand, turned, Settles}
use Rattle.sv_letters.specs.declared.letters.Awaits.TheVariants.{Character}
use Rattle.sv_xmlcall.specs.declared.tag.Tag.{Tag}
use Rattle.sv_xmlcall.specs.declared.tag.Tag.TheVariants as tag
use Rattle.sv_xmlcall.specs.declared.stop.Stop.{Stop}
use Rattle.sv_xmlcall.specs.declared.stop.Stop.TheVariants as stop
use Rattle.sv_xmlcall.proofs.Words.{follow}
use Rattle.sv_xmlcall.proofs.Runs.{run_tag, run_at, run_close, run_closing, run_shut, left_by}
use Rattle.sv_xmlcall.proofs.TextLaws.{at_text_end, run_text}

pub closes_text : (content : Content) (bytes : List ℕ) → Closes (AtTextEnd content bytes) (end_of content)
closes_text content bytes = record { only = refl; goes_on = tt; shut = λ frames count. refl }

closes_integer : (short : Bool) (n : ℤ) → Closes (AtIntegerEnd short n) (end_of_integer short)
closes_integer short n = record { only = refl; goes_on = tt; shut = λ frames count. refl }

-- a text and its closing tag
abbrev pub behind_content : Content → List Frame → ℕ → Result (List ℕ × List ℕ) ℕ → Verdict
behind_content content frames count (Ok r) = run the_limits (after_text the_limits content r.0 frames count) r.1
behind_content content frames count (Err left) = unless_many the_limits count (NotRead left)

abbrev pub FreeEnd : Content → Type 0
FreeEnd content = (bytes : List ℕ) → may_end content bytes ≡ true

pub shut_text : (content : Content) (v : List ℕ) (frames : List Frame) (count : ℕ) (r : Result (List ℕ) ℕ)
    → left_by (AtTextEnd content v) frames count r ≡ behind_content content frames count (r >>= (λ rest. Ok (v, rest)))
shut_text content v frames count (Ok rest) = refl
shut_text content v frames count (Err left) = refl

pub end_text : (content : Content) (frames : List Frame) (count : ℕ) (r : Result (List ℕ × List ℕ) ℕ) → FreeEnd content
    → at_text_end content frames count r ≡ behind_content content frames count (r >>= (λ r. shut_at (end_of content) r.1 >>= (λ rest. Ok (r.0, rest))))
unfolding shut_at
end_text content frames count (Ok r) free =
    rw (free r.0) (run_shut (AtTextEnd content r.0) (end_of content) frames count r.1 (closes_text content r.0)
    ∙ shut_text content r.0 frames count (close_behind (tag_at (end_of content ∷ []) r.1)))
end_text content frames count (Err left) free = refl

pub run_content : (content : Content) (frames : List Frame) (count : ℕ) (bs : List ℕ) → FreeEnd content
    → run the_limits (at (Chars content [] Character) frames count) bs ≡ behind_content content frames count (content_at (end_of content) bs)
unfolding content_at
run_content content frames count bs free = run_text content [] frames count bs ∙ end_text content frames count (text_at [] bs) free

-- an integer
abbrev at_integer_end : Bool → Bool → List Frame → ℕ → Result (ℕ × List ℕ) ℕ → Verdict
at_integer_end short negative frames count (Ok r) =
    run the_limits (at (Within (AtIntegerEnd short (signed negative r.0)) (words_of (tags_of (AtIntegerEnd short (signed negative r.0))))) frames count) r.1
at_integer_end short negative frames count (Err left) = unless_many the_limits count (NotRead left)

abbrev sign_of : Bool → Sign
sign_of true = Counted
sign_of false = Signed

no_digit : (short negative seen : Bool) (n : ℕ) (frames : List Frame) (count b : ℕ) (bs : List ℕ) → is_ascii_digit b ≡ false
    → run the_limits (at (Digits short negative (sign_of seen) n) frames count) (b ∷ bs) ≡ at_integer_end short negative frames count (size_from negative seen n (b ∷ bs))
no_digit short negative true n frames count b bs d = rw d refl
no_digit short negative false n frames count b bs d = rw d refl

run_size : (short negative seen : Bool) (n : ℕ) (frames : List Frame) (count : ℕ) (bs : List ℕ)
    → run the_limits (at (Digits short negative (sign_of seen) n) frames count) bs ≡ at_integer_end short negative frames count (size_from negative seen n bs)
run_size short negative seen n frames count [] = refl
run_size short negative seen n frames count (b ∷ bs) = elim (cases_Bool (is_ascii_digit b)) [
  | inl d ↦ elim (cases_Bool (leb (n * 10 + (b - 48)) (most_of negative))) [
    | inl e ↦ rw (d, e) (run_size short negative true (n * 10 + (b - 48)) frames count bs)
    | inr e ↦ rw (d, e) refl
  ]
  | inr d ↦ no_digit short negative seen n frames count b bs d
]

fresh : (short : Bool) (frames : List Frame) (count b : ℕ) (bs : List ℕ) → eqb b 45 ≡ false → eqb b 43 ≡ false
    → run the_limits (at (Digits short false Fresh 0) frames count) (b ∷ bs) ≡ at_integer_end short false frames count (size_from false false 0 (b ∷ bs))
fresh short frames count b bs e f = elim (cases_Bool (is_ascii_digit b)) [
  | inl d ↦ elim (cases_Bool (leb (0 * 10 + (b - 48)) (most_of false))) [
    | inl g ↦ rw (d, g) (run_size short false true (0 * 10 + (b - 48)) frames count bs)
    | inr g ↦ rw (d, g) refl
  ]
  | inr d ↦ rw (d, e, f) refl
]

abbrev behind_integer : Bool → List Frame → ℕ → Result (ℤ × List ℕ) ℕ → Verdict
behind_integer short frames count (Ok r) = run the_limits (at (At (AtFormEnd (integer r.0))) frames count) r.1
behind_integer short frames count (Err left) = unless_many the_limits count (NotRead left)

shut_integer : (short : Bool) (n : ℤ) (frames : List Frame) (count : ℕ) (r : Result (List ℕ) ℕ)
    → left_by (AtIntegerEnd short n) frames count r ≡ behind_integer short frames count (r >>= (λ rest. Ok (n, rest)))
shut_integer short n frames count (Ok rest) = refl
shut_integer short n frames count (Err left) = refl

abbrev Size : Bool × (ℕ × List ℕ) → Result (Bool × (ℕ × List ℕ)) ℕ
Size r = Ok r

end_integer : (short negative : Bool) (frames : List Frame) (count : ℕ) (r : Result (ℕ × List ℕ) ℕ)
    → at_integer_end short negative frames count r
    ≡ behind_integer short frames count ((r >>= (λ r. Size (negative, r))) >>= (λ r. shut_at (end_of_integer short) r.1.1 >>= (λ rest. Ok (signed r.0 r.1.0, rest))))
unfolding shut_at
end_integer short negative frames count (Ok r) =
    run_shut (AtIntegerEnd short (signed negative r.0)) (end_of_integer short) frames count r.1 (closes_integer short (signed negative r.0))
    ∙ shut_integer short (signed negative r.0) frames count (close_behind (tag_at (end_of_integer short ∷ []) r.1))
end_integer short negative frames count (Err left) = refl

size_plain : (b : ℕ) (bs : List ℕ) → eqb b 45 ≡ false → eqb b 43 ≡ false → size_at (b ∷ bs) ≡ (size_from false false 0 (b ∷ bs) >>= (λ r. Size (false, r)))
size_plain b bs e f = rw (e, f) refl

abbrev RunsInteger : Bool → List Frame → ℕ → List ℕ → Type 0
RunsInteger short frames count bs =
    run the_limits (at (Digits short false Fresh 0) frames count) bs ≡ behind_integer short frames count (integer_at (end_of_integer short) bs)

run_integer : (short : Bool) (frames : List Frame) (count : ℕ) (bs : List ℕ)
    → run the_limits (at (Digits short false Fresh 0) frames count) bs ≡ behind_integer short frames count (integer_at (end_of_integer short) bs)
unfolding integer_at
run_integer short frames count [] = refl
run_integer short frames count (b ∷ bs) = elim (cases_Bool (eqb b 45)) [
  | inl e ↦ subst (λ (x : ℕ). RunsInteger short frames count (x ∷ bs)) (sym (eqb-true b 45 e)) (run_size short true false 0 frames count bs ∙ end_integer short true frames count (size_from true false 0 bs))
  | inr e ↦ elim (cases_Bool (eqb b 43)) [
    | inl f ↦ subst (λ (x : ℕ). RunsInteger short frames count (x ∷ bs)) (sym (eqb-true b 43 f)) (run_size short false false 0 frames count bs ∙ end_integer short false frames count (size_from false false 0 bs))
    | inr f ↦ fresh short frames count b bs e f ∙ end_integer short false frames count (size_from false false 0 (b ∷ bs)) ∙ ap (λ (q : Result (Bool × (ℕ × List ℕ)) ℕ). behind_integer short frames count (q >>= (λ r. shut_at (end_of_integer short) r.1.1 >>= (λ rest. Ok (signed r.0 r.1.0, rest))))) (sym (size_plain b bs e f))
  ]
]

-- a boolean
abbrev behind_truth : List Frame → ℕ → Result (Bool × List ℕ) ℕ → Verdict
behind_truth frames count (Ok r) = run the_limits (at (At (AtFormEnd (truth r.0))) frames count) r.1
behind_truth frames count (Err left) = unless_many the_limits count (NotRead left)

shut_truth : (b : Bool) (frames : List Frame) (count : ℕ) (r : Result (List ℕ) ℕ) → left_by (AtTruthEnd b) frames count r ≡ behind_truth frames count (r >>= (λ rest. Ok (b, rest)))
shut_truth b frames count (Ok rest) = refl
shut_truth b frames count (Err left) = refl

end_truth : (b : Bool) (frames : List Frame) (count : ℕ) (bs : List ℕ)
    → run the_limits (at (Within (AtTruthEnd b) (words_of (tags_of (AtTruthEnd b)))) frames count) bs ≡ behind_truth frames count (shut_at tag.EndBoolean bs >>= (λ rest. Ok (b, rest)))
unfolding shut_at
end_truth b frames count bs =
    run_shut (AtTruthEnd b) tag.EndBoolean frames count bs (record { only = refl; goes_on = tt; shut = λ frames count. refl })
    ∙ shut_truth b frames count (close_behind (tag_at (tag.EndBoolean ∷ []) bs))

run_truth : (frames : List Frame) (count : ℕ) (bs : List ℕ) → run the_limits (at TruthDigit frames count) bs ≡ behind_truth frames count (truth_at bs)
unfolding truth_at
run_truth frames count [] = refl
run_truth frames count (b ∷ bs) = elim (cases_Bool (eqb b 48)) [
  | inl e ↦ rw e (end_truth false frames count bs)
  | inr e ↦ elim (cases_Bool (eqb b 49)) [
    | inl f ↦ rw (e, f) (end_truth true frames count bs)
    | inr f ↦ rw (e, f) refl
  ]
]

-- after a turn
abbrev pub on_turn : List Frame → ℕ → Result (Turning × List ℕ) ℕ → Verdict
on_turn frames count (Ok r) = on_step (turned r.0 frames count) (λ s. run the_limits s r.1) (unless_many the_limits count (NotRead (suc (length r.1))))
on_turn frames count (Err left) = unless_many the_limits count (NotRead left)

abbrev Behind : Expecting → Tag → List Frame → ℕ → List ℕ → Verdict
Behind place t frames count rest =
    on_step (enter the_limits place t frames count) (λ s. run the_limits s rest) (unless_many the_limits count (NotRead (suc (length rest))))

before_tag : (frames : List Frame) (count : ℕ) (t : Tag) (rest : List ℕ) → Behind AtValue t frames count rest ≡ on_turn frames count (Ok (Opening (is_empty_tag t), rest))
before_tag frames count tag.Declaration rest = refl
before_tag frames count any rest = refl

before_follows : (frames : List Frame) (count : ℕ) (r : Result (Tag × List ℕ) ℕ) → follow the_limits AtValue frames count r ≡ on_turn frames count (r >>= (λ r. Ok (Opening (is_empty_tag r.0), r.1)))
before_follows frames count (Ok r) = before_tag frames count r.0 r.1
before_follows frames count (Err left) = refl

formed_left : (value : Tree) (frames : List Frame) (count : ℕ) (r : Result (List ℕ) ℕ) → left_by (AtFormEnd value) frames count r ≡ on_turn frames count (r >>= (λ rest. Ok (Whole value, rest)))
formed_left value frames count (Ok rest) = refl
formed_left value frames count (Err left) = refl

run_formed : (value : Tree) (frames : List Frame) (count : ℕ) (bs : List ℕ) → run the_limits (at (At (AtFormEnd value)) frames count) bs ≡ on_turn frames count (formed_at value bs)
run_formed value frames count bs =
    run_closing (AtFormEnd value) tag.EndValue frames count bs (record { only = refl; goes_on = tt; shut = λ frames count. refl })
    ∙ formed_left value frames count (closing_at (tag.EndValue ∷ []) bs)

array_left : (items : Trees) (frames : List Frame) (count : ℕ) (r : Result (List ℕ) ℕ) → left_by (AtArrayEnd items) frames count r ≡ on_turn frames count (r >>= (λ rest. Ok (On (Formed (array items)), rest)))
array_left items frames count (Ok rest) = refl
array_left items frames count (Err left) = refl

run_array_end : (items : Trees) (frames : List Frame) (count : ℕ) (bs : List ℕ) → run the_limits (at (At (AtArrayEnd items)) frames count) bs ≡ on_turn frames count (array_end_at items bs)
run_array_end items frames count bs =
    run_closing (AtArrayEnd items) tag.EndArray frames count bs (record { only = refl; goes_on = tt; shut = λ frames count. refl })
    ∙ array_left items frames count (closing_at (tag.EndArray ∷ []) bs)

data_tag : (frames : List Frame) (count : ℕ) (t : Tag) (rest : List ℕ) → Behind AtData t frames count rest ≡ on_turn frames count (data_of t rest)
data_tag frames count tag.Data rest = refl
data_tag frames count any rest = run_array_end no_tree frames count rest

data_follows : (frames : List Frame) (count : ℕ) (r : Result (Tag × List ℕ) ℕ) → follow the_limits AtData frames count r ≡ on_turn frames count (r >>= (λ r. data_of r.0 r.1))
data_follows frames count (Ok r) = data_tag frames count r.0 r.1
data_follows frames count (Err left) = refl

items_left : (items : Trees) (frames : List Frame) (count : ℕ) (r : Result (List ℕ) ℕ) → left_by (AtItems items) frames count r ≡ on_turn frames count (r >>= (λ rest. array_end_at items rest))
items_left items frames count (Ok rest) = run_array_end items frames count rest
items_left items frames count (Err left) = refl

items_close : (items : Trees) (frames : List Frame) (count : ℕ) (rest : List ℕ) → run the_limits (at (Close (AtItems items)) frames count) rest ≡ on_turn frames count (close_at rest >>= (λ rest. array_end_at items rest))
items_close items frames count rest = run_close (AtItems items) frames count rest ∙ items_left items frames count (close_at rest)

items_tag : (items : Trees) (frames : List Frame) (count : ℕ) (t : Tag) (rest : List ℕ) → Behind (AtItems items) t frames count rest ≡ on_turn frames count (item_of items t rest)
items_tag items frames count tag.Value rest = refl
items_tag items frames count tag.NoValue rest = refl
items_tag items frames count any rest = items_close items frames count rest

items_follows : (items : Trees) (frames : List Frame) (count : ℕ) (r : Result (Tag × List ℕ) ℕ) → follow the_limits (AtItems items) frames count r ≡ on_turn frames count (r >>= (λ r. item_of items r.0 r.1))
items_follows items frames count (Ok r) = items_tag items frames count r.0 r.1
items_follows items frames count (Err left) = refl

members_left : (members : Members) (frames : List Frame) (count : ℕ) (r : Result (List ℕ) ℕ) → left_by (AtMembers members) frames count r ≡ on_turn frames count (r >>= (λ rest. Ok (On (Formed (structure members)), rest)))
members_left members frames count (Ok rest) = refl
members_left members frames count (Err left) = refl

members_close : (members : Members) (frames : List Frame) (count : ℕ) (rest : List ℕ) → run the_limits (at (Close (AtMembers members)) frames count) rest ≡ on_turn frames count (close_at rest >>= (λ rest. Ok (On (Formed (structure members)), rest)))
members_close members frames count rest = run_close (AtMembers members) frames count rest ∙ members_left members frames count (close_at rest)

named_left : (members : Members) (frames : List Frame) (count : ℕ) (r : Result (List ℕ × List ℕ) ℕ) → behind_content (InName members) frames count r ≡ on_turn frames count (r >>= (λ name. Ok (Named members name.0, name.1)))
named_left members frames count (Ok r) = refl
named_left members frames count (Err left) = refl

name_tag : (members : Members) (frames : List Frame) (count : ℕ) (t : Tag) (rest : List ℕ) → Behind (AtName members) t frames count rest ≡ run the_limits (at (Chars (InName members) [] Character) frames count) rest
name_tag members frames count tag.Declaration rest = refl
name_tag members frames count any rest = refl

name_follows : (members : Members) (frames : List Frame) (count : ℕ) (r : Result (Tag × List ℕ) ℕ)
    → follow the_limits (AtName members) frames count r ≡ on_turn frames count (r >>= (λ r. content_at tag.EndName r.1 >>= (λ name. Ok (Named members name.0, name.1))))
name_follows members frames count (Ok r) =
    name_tag members frames count r.0 r.1
    ∙ run_content (InName members) frames count r.1 (λ bytes. refl)
    ∙ named_left members frames count (content_at tag.EndName r.1)
name_follows members frames count (Err left) = refl

members_tag : (members : Members) (frames : List Frame) (count : ℕ) (t : Tag) (rest : List ℕ) → Behind (AtMembers members) t frames count rest ≡ on_turn frames count (member_of members t rest)
members_tag members frames count tag.Member rest = run_at (AtName members) frames count rest tt ∙ name_follows members frames count (tag_behind (tag.Name ∷ []) rest)
members_tag members frames count any rest = members_close members frames count rest

members_follows : (members : Members) (frames : List Frame) (count : ℕ) (r : Result (Tag × List ℕ) ℕ) → follow the_limits (AtMembers members) frames count r ≡ on_turn frames count (r >>= (λ r. member_of members r.0 r.1))
members_follows members frames count (Ok r) = members_tag members frames count r.0 r.1
members_follows members frames count (Err left) = refl

ended_left : (members : Members) (frames : List Frame) (count : ℕ) (r : Result (List ℕ) ℕ) → left_by (AtMemberEnd members) frames count r ≡ on_turn frames count (r >>= (λ rest. Ok (On (Further members), rest)))
ended_left members frames count (Ok rest) = refl
ended_left members frames count (Err left) = refl

run_ended : (members : Members) (frames : List Frame) (count : ℕ) (bs : List ℕ) → run the_limits (at (At (AtMemberEnd members)) frames count) bs ≡ on_turn frames count (ended_at members bs)
run_ended members frames count bs =
    run_closing (AtMemberEnd members) tag.EndMember frames count bs (record { only = refl; goes_on = tt; shut = λ frames count. refl })
    ∙ ended_left members frames count (closing_at (tag.EndMember ∷ []) bs)

text_turn : (frames : List Frame) (count : ℕ) (r : Result (List ℕ × List ℕ) ℕ) → behind_content InString frames count r ≡ on_turn frames count (r >>= (λ r. Ok (On (Formed (text r.0)), r.1)))
text_turn frames count (Ok r) = refl
text_turn frames count (Err left) = refl

double_turn : (frames : List Frame) (count : ℕ) (r : Result (List ℕ × List ℕ) ℕ) → behind_content InDouble frames count r ≡ on_turn frames count (r >>= (λ r. Ok (On (Formed (other (codes "double") r.0)), r.1)))
double_turn frames count (Ok r) = refl
double_turn frames count (Err left) = refl

date_turn : (frames : List Frame) (count : ℕ) (r : Result (List ℕ × List ℕ) ℕ) → behind_content InDate frames count r ≡ on_turn frames count (r >>= (λ r. Ok (On (Formed (other (codes "dateTime.iso8601") r.0)), r.1)))
date_turn frames count (Ok r) = refl
date_turn frames count (Err left) = refl

base_turn : (frames : List Frame) (count : ℕ) (r : Result (List ℕ × List ℕ) ℕ) → behind_content InBase frames count r ≡ on_turn frames count (r >>= (λ r. Ok (On (Formed (other (codes "base64") r.0)), r.1)))
base_turn frames count (Ok r) = refl
base_turn frames count (Err left) = refl

integer_turn : (short : Bool) (frames : List Frame) (count : ℕ) (r : Result (ℤ × List ℕ) ℕ) → behind_integer short frames count r ≡ on_turn frames count (r >>= (λ r. Ok (On (Formed (integer r.0)), r.1)))
integer_turn short frames count (Ok r) = refl
integer_turn short frames count (Err left) = refl

truth_turn : (frames : List Frame) (count : ℕ) (r : Result (Bool × List ℕ) ℕ) → behind_truth frames count r ≡ on_turn frames count (r >>= (λ r. Ok (On (Formed (truth r.0)), r.1)))
truth_turn frames count (Ok r) = refl
truth_turn frames count (Err left) = refl

white_left : (white : List ℕ) (frames : List Frame) (count : ℕ) (r : Result (List ℕ) ℕ) → left_by (AtForm white) frames count r ≡ on_turn frames count (r >>= (λ rest. Ok (Whole (text white), rest)))
white_left white frames count (Ok rest) = refl
white_left white frames count (Err left) = refl

form_close : (white : List ℕ) (frames : List Frame) (count : ℕ) (rest : List ℕ) → run the_limits (at (Close (AtForm white)) frames count) rest ≡ on_turn frames count (close_at rest >>= (λ rest. Ok (Whole (text white), rest)))
form_close white frames count rest = run_close (AtForm white) frames count rest ∙ white_left white frames count (close_at rest)

form_tag : (white : List ℕ) (frames : List Frame) (count : ℕ) (t : Tag) (rest : List ℕ) → Behind (AtForm white) t frames count rest ≡ on_turn frames count (form_of white t rest)
form_tag white frames count tag.I4 rest = run_integer true frames count rest ∙ integer_turn true frames count (integer_at tag.EndI4 rest)
form_tag white frames count tag.Int rest = run_integer false frames count rest ∙ integer_turn false frames count (integer_at tag.EndInt rest)
form_tag white frames count tag.Boolean rest = run_truth frames count rest ∙ truth_turn frames count (truth_at rest)
form_tag white frames count tag.String rest = run_content InString frames count rest (λ bytes. refl) ∙ text_turn frames count (content_at tag.EndString rest)
form_tag white frames count tag.NoString rest = refl
form_tag white frames count tag.Double rest = run_content InDouble frames count rest (λ bytes. refl) ∙ double_turn frames count (content_at tag.EndDouble rest)
form_tag white frames count tag.DateTime rest = run_content InDate frames count rest (λ bytes. refl) ∙ date_turn frames count (content_at tag.EndDateTime rest)
form_tag white frames count tag.Base64 rest = run_content InBase frames count rest (λ bytes. refl) ∙ base_turn frames count (content_at tag.EndBase64 rest)
form_tag white frames count tag.Struct rest = refl
form_tag white frames count tag.NoMembers rest = refl
form_tag white frames count tag.Array rest = refl
form_tag white frames count any rest = form_close white frames count rest

form_follows : (white : List ℕ) (frames : List Frame) (count : ℕ) (r : Result (Tag × List ℕ) ℕ) → follow the_limits (AtForm white) frames count r ≡ on_turn frames count (r >>= (λ r. form_of white r.0 r.1))
form_follows white frames count (Ok r) = form_tag white frames count r.0 r.1
form_follows white frames count (Err left) = refl

bare_shut : (v : List ℕ) (frames : List Frame) (count : ℕ) (r : Result (List ℕ) ℕ)
    → behind_content InBare frames count (r >>= (λ rest. Ok (v, rest))) ≡ on_turn frames count (r >>= (λ rest. Ok (Whole (text v), rest)))
bare_shut v frames count (Ok rest) = refl
bare_shut v frames count (Err left) = refl

bare_turn : (frames : List Frame) (count : ℕ) (r : Result (List ℕ × List ℕ) ℕ)
    → behind_content InBare frames count (r >>= (λ r. shut_at tag.EndValue r.1 >>= (λ rest. Ok (r.0, rest))))
    ≡ on_turn frames count (r >>= (λ r. shut_at tag.EndValue r.1 >>= (λ rest. Ok (Whole (text r.0), rest))))
bare_turn frames count (Ok r) = bare_shut r.0 frames count (shut_at tag.EndValue r.1)
bare_turn frames count (Err left) = refl

run_bare : (white : List ℕ) (frames : List Frame) (count : ℕ) (bs : List ℕ) → run the_limits (at (Chars InBare white Character) frames count) bs ≡ on_turn frames count (bare_at white bs)
run_bare white frames count bs =
    run_text InBare white frames count bs ∙ end_text InBare frames count (text_at white bs) (λ bytes. refl) ∙ bare_turn frames count (text_at white bs)

run_typed : (white : List ℕ) (frames : List Frame) (count : ℕ) (bs : List ℕ)
    → run the_limits (at (Within (AtForm white) (words_of (tags_of (AtForm white)))) frames count) bs ≡ on_turn frames count (typed_at white bs)
run_typed white frames count bs = run_tag (AtForm white) frames count bs ∙ form_follows white frames count (tag_at forms bs)

typed_step : (white : List ℕ) (frames : List Frame) (count b : ℕ) (bs : List ℕ) → is_white b ≡ false → eqb b 60 ≡ true
    → run the_limits (at (behind_value white) frames count) (b ∷ bs) ≡ run the_limits (at (Within (AtForm white) (words_of (tags_of (AtForm white)))) frames count) (b ∷ bs)
typed_step white frames count b bs w e = rw (w, e) refl

typed_turn : (white : List ℕ) (frames : List Frame) (count b : ℕ) (bs : List ℕ) → eqb b 60 ≡ true
    → on_turn frames count (typed_at white (b ∷ bs)) ≡ on_turn frames count (behind_white white (b ∷ bs))
typed_turn white frames count b bs e = rw e refl

plain_step : (white : List ℕ) (frames : List Frame) (count b : ℕ) (bs : List ℕ) → is_white b ≡ false → eqb b 60 ≡ false
    → run the_limits (at (behind_value white) frames count) (b ∷ bs) ≡ run the_limits (at (Chars InBare white Character) frames count) (b ∷ bs)
plain_step white frames count b bs w e = rw (w, e) refl

plain_turn : (white : List ℕ) (frames : List Frame) (count b : ℕ) (bs : List ℕ) → eqb b 60 ≡ false
    → on_turn frames count (bare_at white (b ∷ bs)) ≡ on_turn frames count (behind_white white (b ∷ bs))
plain_turn white frames count b bs e = rw e refl

plain_behind : (white : List ℕ) (frames : List Frame) (count b : ℕ) (bs : List ℕ) → is_white b ≡ false → eqb b 60 ≡ false
    → run the_limits (at (behind_value white) frames count) (b ∷ bs) ≡ on_turn frames count (behind_white white (b ∷ bs))
plain_behind white frames count b bs w e = plain_step white frames count b bs w e ∙ run_bare white frames count (b ∷ bs) ∙ plain_turn white frames count b bs e

opened_white : (white : List ℕ) (frames : List Frame) (count b : ℕ) (bs : List ℕ) → is_white b ≡ false
    → run the_limits (at (behind_value white) frames count) (b ∷ bs) ≡ on_turn frames count (behind_white (white ++ []) (b ∷ bs))
    → run the_limits (at (behind_value white) frames count) (b ∷ bs) ≡ on_turn frames count (behind_white (white ++ white_of (b ∷ bs)) (skip_white (b ∷ bs)))
opened_white white frames count b bs w e = e ∙ rw w refl

run_behind : (white : List ℕ) (frames : List Frame) (count b : ℕ) (bs : List ℕ) → is_white b ≡ false
    → run the_limits (at (behind_value white) frames count) (b ∷ bs) ≡ on_turn frames count (behind_white white (b ∷ bs))
run_behind white frames count b bs w = elim (cases_Bool (eqb b 60)) [
  | inl e ↦ typed_step white frames count b bs w e ∙ run_typed white frames count (b ∷ bs) ∙ typed_turn white frames count b bs e
  | inr e ↦ plain_behind white frames count b bs w e
]

run_opened : (white : List ℕ) (frames : List Frame) (count : ℕ) (bs : List ℕ)
    → run the_limits (at (behind_value white) frames count) bs ≡ on_turn frames count (behind_white (white ++ white_of bs) (skip_white bs))
unfolding text_at piece_at
run_opened white frames count [] = refl
run_opened white frames count (b ∷ bs) = elim (cases_Bool (is_white b)) [
  | inl w ↦
      rw w (run_opened (white ++ b ∷ []) frames count bs ∙ ap (λ (x : List ℕ). on_turn frames count (behind_white x (skip_white bs))) (append_assoc white (b ∷ []) (white_of bs)))
  | inr w ↦
      let all : on_turn frames count (behind_white white (b ∷ bs)) ≡ on_turn frames count (behind_white (white ++ []) (b ∷ bs)) = ap (λ (x : List ℕ). on_turn frames count (behind_white x (b ∷ bs))) (sym (append-nil white)) in
      opened_white white frames count b bs w (run_behind white frames count b bs w ∙ all)
]

-- what is read at a stage is what the text goes on with
pub run_stage : (standing : Standing) (frames : List Frame) (count : ℕ) (bs : List ℕ) → run the_limits (stand standing frames count) bs ≡ on_turn frames count (stage_at standing bs)
unfolding opened_at
run_stage Before frames count bs = run_at AtValue frames count bs tt ∙ before_follows frames count (tag_behind (tag.Value ∷ tag.NoValue ∷ []) bs)
run_stage Opened frames count bs = run_opened [] frames count bs
run_stage (Formed value) frames count bs = run_formed value frames count bs
run_stage Data frames count bs = run_at AtData frames count bs tt ∙ data_follows frames count (tag_behind (tag.Data ∷ tag.NoData ∷ []) bs)
run_stage (Items items) frames count bs = run_at (AtItems items) frames count bs tt ∙ items_follows items frames count (tag_behind (tag.Value ∷ tag.NoValue ∷ tag.EndData ∷ []) bs)
run_stage (Further members) frames count bs = run_at (AtMembers members) frames count bs tt ∙ members_follows members frames count (tag_behind (tag.Member ∷ tag.EndStruct ∷ []) bs)
run_stage (Ended members) frames count bs = run_ended members frames count bs

-- where reading stops at a stage
pub stage_halts : (standing : Standing) (frames : List Frame) (count : ℕ) (bs : List ℕ) (verdict : Verdict) (stop : Stop)
    → run the_limits (stand standing frames count) bs ≡ verdict → Stops stop (stage_at standing bs) → Halts stop count verdict
stage_halts standing frames count bs verdict (stop.At left) r s = sym r ∙ run_stage standing frames count bs ∙ ap (on_turn frames count) s
stage_halts standing frames count bs verdict stop.TooDeep r s = absurd s
stage_halts standing frames count bs verdict stop.OutOfMemory r s = tt

-- where it goes on
pub stage_goes : (standing : Standing) (frames : List Frame) (count : ℕ) (bs : List ℕ) (verdict : Verdict) (turn : Turning) (rest : List ℕ) (state : State)
    → run the_limits (stand standing frames count) bs ≡ verdict → stage_at standing bs ≡ Ok (turn, rest) → turned turn frames count ≡ Go state
    → run the_limits state rest ≡ verdict
stage_goes standing frames count bs verdict turn rest state r e t =
    sym (sym r ∙ run_stage standing frames count bs ∙ ap (on_turn frames count) e
    ∙ ap (λ (q : Step). on_step q (λ s. run the_limits s rest) (unless_many the_limits count (NotRead (suc (length rest))))) t)

pub stage_deep : (standing : Standing) (frames : List Frame) (count : ℕ) (bs : List ℕ) (verdict : Verdict) (turn : Turning) (rest : List ℕ)
    → run the_limits (stand standing frames count) bs ≡ verdict → stage_at standing bs ≡ Ok (turn, rest) → turned turn frames count ≡ Deep → verdict ≡ TooDeep
stage_deep standing frames count bs verdict turn rest r e t =
    sym r ∙ run_stage standing frames count bs ∙ ap (on_turn frames count) e
    ∙ ap (λ (q : Step). on_step q (λ s. run the_limits s rest) (unless_many the_limits count (NotRead (suc (length rest))))) t

pub settle_halts : (before : Frame → Step) (behind : Frame → Settled → State) (frame : Frame) (count : ℕ) (verdict : Verdict) (stop : Stop)
    → Settles before behind (Err stop) → (before frame ≡ Deep → verdict ≡ TooDeep) → Halts stop count verdict
settle_halts before behind frame count verdict (stop.At left) s d = absurd s
settle_halts before behind frame count verdict stop.TooDeep s d = d (s frame)
settle_halts before behind frame count verdict stop.OutOfMemory s d = tt

pub opened_gives : {X : Type 0} (shown : X → Turning × List ℕ) (r : Result X Stop) (white rest bs : List ℕ) → white ≡ white_of bs → rest ≡ skip_white bs
    → Gives shown r (behind_white white rest) → Gives shown r (opened_at bs)
unfolding opened_at
opened_gives shown r white rest bs w e g =
    subst (λ (x : List ℕ). Gives shown r (behind_white (white_of bs) x)) e (subst (λ (x : List ℕ). Gives shown r (behind_white x rest)) w g)
