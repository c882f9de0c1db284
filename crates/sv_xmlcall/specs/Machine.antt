-- The reading of a text byte by byte: what a text goes on with after each of its prefixes.
use Rattle.std.specs.Prelude.{ℕ, suc, ◌+◌, ◌-◌, ◌*◌, ◌^◌, List, [], ◌∷◌, ◌++◌, length, map, Bool}
use Rattle.std.specs.Prelude.{true, false, ◌&&◌, ◌||◌, not, nat_lt, nat_le, ◌==◌, if◌then◌else◌}
use Rattle.std.specs.Prelude.{Option, Some, None, ℤ, codes}
use Rattle.std.specs.Char.{encode_utf8, is_ascii_digit}
use Rattle.sv_base.specs.Ascii.{ampersand, digit_zero, double_quote, greater_sign, hyphen}
use Rattle.sv_base.specs.Ascii.{less_sign, plus_sign, question_mark, semicolon, single_quote}
use Rattle.sv_xmlcall.specs.Trees.{Tree, Trees, Members, integer, truth, text, other, structure}
use Rattle.sv_xmlcall.specs.Trees.{array, no_tree, no_member, Reply, Returns}
use Rattle.sv_letters.specs.Letters.{is_allowed, allows, after}
use Rattle.sv_xmlcall.specs.Tags.{spelling}
use Rattle.sv_letters.specs.declared.letters.Letters.TheVariants.{OfText, OfXml}
use Rattle.sv_letters.specs.declared.letters.Awaits.{Awaits}
use Rattle.sv_letters.specs.declared.letters.Awaits.TheVariants.{Character}
use Rattle.sv_xmlcall.specs.declared.tag.Tag.{Tag}
use Rattle.sv_xmlcall.specs.declared.tag.Tag.TheVariants as tag
use Rattle.sv_xmlcall.specs.Spelled.{Spelled, ACall, AReply, snoc, snoc_member, fault_of, is_white}
use Rattle.sv_xmlcall.specs.Spelled.{signed}

-- the most values that may stand one inside the other, that a text may open, and that are kept of
-- it
pub record Limits : Type 0 where
  pub nesting : ℕ
  pub values : ℕ
  pub keeping : ℕ

-- the limits of the readers: 32 deep, 65,536 values, and all of these are kept
abbrev pub the_limits : Limits
the_limits = record { nesting = 32; values = 65536; keeping = 65536 }

-- what a text is read as, a methodCall or a methodResponse
pub data Document : Type 0 where
  OfCall : Document
  OfReply : Document

-- what a value stands in: a param of a call after others, a param of a reply, a fault, an array
-- after other values, a member after others
pub data Frame : Type 0 where
  InParam : (method : List ℕ) (before : Trees) → Frame
  InReply : Frame
  InFault : Frame
  InArray : (before : Trees) → Frame
  InMember : (before : Members) (name : List ℕ) → Frame

-- what a text is the content of
pub data Content : Type 0 where
  InMethod : Content
  InName : (before : Members) → Content
  InString : Content
  InDouble : Content
  InDate : Content
  InBase : Content
  InBare : Content

-- a place before a tag
pub data Expecting : Type 0 where
  AtStart : Document → Expecting
  AtDeclared : Document → Expecting
  AtMethod : Expecting
  AtCalled : (method : List ℕ) → Expecting
  AtParams : (method : List ℕ) (before : Trees) → Expecting
  AtParamEnd : (method : List ℕ) (before : Trees) → Expecting
  AtParamsEnd : (method : List ℕ) (params : Trees) → Expecting
  AtResponse : Expecting
  AtReplyParam : Expecting
  AtReplyParamEnd : Tree → Expecting
  AtReplyParamsEnd : Tree → Expecting
  AtFaultEnd : Reply → Expecting
  AtResponseEnd : Reply → Expecting
  AtDone : Spelled → Expecting
  AtValue : Expecting
  AtForm : (white : List ℕ) → Expecting
  AtFormEnd : Tree → Expecting
  AtData : Expecting
  AtItems : Trees → Expecting
  AtArrayEnd : Trees → Expecting
  AtMembers : Members → Expecting
  AtName : Members → Expecting
  AtMemberEnd : Members → Expecting
  AtTextEnd : Content → List ℕ → Expecting
  AtIntegerEnd : (short : Bool) → ℤ → Expecting
  AtTruthEnd : Bool → Expecting
  AtEntity : Content → List ℕ → Expecting

-- how far an integer is read: nothing of it, its sign, at least one digit
pub data Sign : Type 0 where
  Fresh : Sign
  Signed : Sign
  Counted : Sign

-- where a text is read: white space or a tag; inside a tag; at the end of a closing tag; characters
-- of a text; after `&#`; the number of an entity; after `<value>`; digits; a boolean; the
-- declaration; where no text goes on
pub data Control : Type 0 where
  At : Expecting → Control
  Within : Expecting → List (List ℕ × Tag) → Control
  Close : Expecting → Control
  Chars : Content → List ℕ → Awaits → Control
  Hash : Content → List ℕ → Control
  Numeral : Content → List ℕ → (hex : Bool) → (seen : Bool) → ℕ → Control
  Opened : (white : List ℕ) → Control
  Digits : (short : Bool) → (negative : Bool) → Sign → ℕ → Control
  TruthDigit : Control
  Prolog : Document → (question : Bool) → Awaits → Control
  Stuck : Control

-- how far a text is read: where it stands, what each open value stands in, the innermost first, and
-- how many values were opened
pub record State : Type 0 where
  pub control : Control
  pub frames : List Frame
  pub count : ℕ

-- what a byte leads to: a state, nothing as it may not stand there, or a value that is too deep
pub data Step : Type 0 where
  Go : State → Step
  Bad : Step
  Deep : Step

-- the state of these three
abbrev pub at : Control → List Frame → ℕ → State
at control frames count = record { control = control; frames = frames; count = count }

-- the step to the state of these three
abbrev pub goes : Control → List Frame → ℕ → Step
goes control frames count = Go (at control frames count)

-- the closing tag of the element that a text is the content of
abbrev pub end_of : Content → Tag
end_of InMethod = tag.EndMethodName
end_of (InName before) = tag.EndName
end_of InString = tag.EndString
end_of InDouble = tag.EndDouble
end_of InDate = tag.EndDateTime
end_of InBase = tag.EndBase64
end_of InBare = tag.EndValue

-- the closing tag of an integer, of `<i4>` or of `<int>`
abbrev pub end_of_integer : Bool → Tag
end_of_integer true = tag.EndI4
end_of_integer false = tag.EndInt

-- the opening tag of the outermost element
abbrev pub begin_of : Document → Tag
begin_of OfCall = tag.MethodCall
begin_of OfReply = tag.MethodResponse

-- the tags that may stand at a place
abbrev pub tags_of : Expecting → List Tag
tags_of (AtStart document) = tag.Declaration ∷ begin_of document ∷ []
tags_of (AtDeclared document) = begin_of document ∷ []
tags_of AtMethod = tag.MethodName ∷ []
tags_of (AtCalled method) = tag.Params ∷ tag.NoParams ∷ tag.EndMethodCall ∷ []
tags_of (AtParams method before) = tag.Param ∷ tag.EndParams ∷ []
tags_of (AtParamEnd method before) = tag.EndParam ∷ []
tags_of (AtParamsEnd method params) = tag.EndMethodCall ∷ []
tags_of AtResponse = tag.Params ∷ tag.Fault ∷ []
tags_of AtReplyParam = tag.Param ∷ []
tags_of (AtReplyParamEnd value) = tag.EndParam ∷ []
tags_of (AtReplyParamsEnd value) = tag.EndParams ∷ []
tags_of (AtFaultEnd reply) = tag.EndFault ∷ []
tags_of (AtResponseEnd reply) = tag.EndMethodResponse ∷ []
tags_of (AtDone spelled) = []
tags_of AtValue = tag.Value ∷ tag.NoValue ∷ []
tags_of (AtForm white) =
    tag.I4 ∷ tag.Int ∷ tag.Boolean ∷ tag.String ∷ tag.NoString ∷ tag.Double ∷ tag.DateTime
    ∷ tag.Base64
    ∷ tag.Struct ∷ tag.NoMembers ∷ tag.Array ∷ tag.EndValue ∷ []
tags_of (AtFormEnd value) = tag.EndValue ∷ []
tags_of AtData = tag.Data ∷ tag.NoData ∷ []
tags_of (AtItems items) = tag.Value ∷ tag.NoValue ∷ tag.EndData ∷ []
tags_of (AtArrayEnd items) = tag.EndArray ∷ []
tags_of (AtMembers members) = tag.Member ∷ tag.EndStruct ∷ []
tags_of (AtName members) = tag.Name ∷ []
tags_of (AtMemberEnd members) = tag.EndMember ∷ []
tags_of (AtTextEnd content bytes) = end_of content ∷ []
tags_of (AtIntegerEnd short n) = end_of_integer short ∷ []
tags_of (AtTruthEnd b) = tag.EndBoolean ∷ []
tags_of (AtEntity content bytes) =
    tag.Ampersand ∷ tag.Less ∷ tag.Greater ∷ tag.Quote ∷ tag.Apostrophe ∷ tag.Numbered ∷ []

-- no value is kept beyond the most that are kept
abbrev pub kept : Limits → ℕ → Trees → Tree → Trees
kept limits count before value = if nat_le count limits.keeping then snoc before value else before

-- no member is kept beyond the most that are kept
abbrev pub kept_member : Limits → ℕ → Members → List ℕ → Tree → Members
kept_member limits count before name value =
    if nat_le count limits.keeping then snoc_member before name value else before

-- after the value of a fault; no text goes on after another value there
abbrev pub after_fault : Option Reply → List Frame → ℕ → State
after_fault (Some reply) frames count = at (At (AtFaultEnd reply)) frames count
after_fault None frames count = at Stuck frames count

-- a value of which not all is kept is no fault's
abbrev pub whole_fault : Limits → ℕ → Tree → Option Reply
whole_fault limits count value = if nat_le count limits.keeping then fault_of value else None

-- after a whole value
abbrev pub after_value : Limits → Tree → List Frame → ℕ → State
after_value limits value [] count = at Stuck [] count
after_value limits value (InParam method before ∷ frames) count =
    at (At (AtParamEnd method (kept limits count before value))) frames count
after_value limits value (InReply ∷ frames) count = at (At (AtReplyParamEnd value)) frames count
after_value limits value (InFault ∷ frames) count =
    after_fault (whole_fault limits count value) frames count
after_value limits value (InArray before ∷ frames) count =
    at (At (AtItems (kept limits count before value))) frames count
after_value limits value (InMember before name ∷ frames) count =
    at (At (AtMemberEnd (kept_member limits count before name value))) frames count

-- after the closing tag of a text
abbrev pub after_text : Limits → Content → List ℕ → List Frame → ℕ → State
after_text limits InMethod bytes frames count = at (At (AtCalled bytes)) frames count
after_text limits (InName before) bytes frames count =
    at (At AtValue) (InMember before bytes ∷ frames) count
after_text limits InString bytes frames count = at (At (AtFormEnd (text bytes))) frames count
after_text limits InDouble bytes frames count =
    at (At (AtFormEnd (other (codes "double") bytes))) frames count
after_text limits InDate bytes frames count =
    at (At (AtFormEnd (other (codes "dateTime.iso8601") bytes))) frames count
after_text limits InBase bytes frames count =
    at (At (AtFormEnd (other (codes "base64") bytes))) frames count
after_text limits InBare bytes frames count = after_value limits (text bytes) frames count

-- the count of values stops one above the most
abbrev pub counted : Limits → ℕ → ℕ
counted limits count = if nat_le count limits.values then suc count else count

-- after `<value>`
abbrev pub open_value : Limits → List Frame → ℕ → Step
open_value limits frames count =
    if nat_le (length frames) limits.nesting then goes (Opened []) frames (counted limits count)
    else Deep

-- after `<value/>`, which is the empty string
abbrev pub empty_value : Limits → List Frame → ℕ → Step
empty_value limits frames count =
    if nat_le (length frames) limits.nesting
    then Go (after_value limits (text []) frames (counted limits count)) else Deep

-- after a tag of a place
abbrev pub enter : Limits → Expecting → Tag → List Frame → ℕ → Step
enter limits (AtStart document) tag.Declaration frames count =
    goes (Prolog document false Character) frames count
enter limits (AtStart OfCall) entered frames count = goes (At AtMethod) frames count
enter limits (AtStart OfReply) entered frames count = goes (At AtResponse) frames count
enter limits (AtDeclared OfCall) entered frames count = goes (At AtMethod) frames count
enter limits (AtDeclared OfReply) entered frames count = goes (At AtResponse) frames count
enter limits AtMethod entered frames count = goes (Chars InMethod [] Character) frames count
enter limits (AtCalled method) tag.Params frames count =
    goes (At (AtParams method no_tree)) frames count
enter limits (AtCalled method) tag.NoParams frames count =
    goes (At (AtParamsEnd method no_tree)) frames count
enter limits (AtParams method before) tag.Param frames count =
    goes (At AtValue) (InParam method before ∷ frames) count
enter limits AtResponse tag.Params frames count = goes (At AtReplyParam) frames count
enter limits AtResponse entered frames count = goes (At AtValue) (InFault ∷ frames) count
enter limits AtReplyParam entered frames count = goes (At AtValue) (InReply ∷ frames) count
enter limits AtValue tag.Value frames count = open_value limits frames count
enter limits AtValue entered frames count = empty_value limits frames count
enter limits (AtForm white) tag.I4 frames count = goes (Digits true false Fresh 0) frames count
enter limits (AtForm white) tag.Int frames count = goes (Digits false false Fresh 0) frames count
enter limits (AtForm white) tag.Boolean frames count = goes TruthDigit frames count
enter limits (AtForm white) tag.String frames count =
    goes (Chars InString [] Character) frames count
enter limits (AtForm white) tag.NoString frames count = goes (At (AtFormEnd (text []))) frames count
enter limits (AtForm white) tag.Double frames count =
    goes (Chars InDouble [] Character) frames count
enter limits (AtForm white) tag.DateTime frames count =
    goes (Chars InDate [] Character) frames count
enter limits (AtForm white) tag.Base64 frames count = goes (Chars InBase [] Character) frames count
enter limits (AtForm white) tag.Struct frames count = goes (At (AtMembers no_member)) frames count
enter limits (AtForm white) tag.NoMembers frames count =
    goes (At (AtFormEnd (structure no_member))) frames count
enter limits (AtForm white) tag.Array frames count = goes (At AtData) frames count
enter limits AtData tag.Data frames count = goes (At (AtItems no_tree)) frames count
enter limits AtData entered frames count = goes (At (AtArrayEnd no_tree)) frames count
enter limits (AtItems items) tag.Value frames count =
    open_value limits (InArray items ∷ frames) count
enter limits (AtItems items) tag.NoValue frames count =
    empty_value limits (InArray items ∷ frames) count
enter limits (AtMembers members) tag.Member frames count = goes (At (AtName members)) frames count
enter limits (AtName members) entered frames count =
    goes (Chars (InName members) [] Character) frames count
enter limits (AtEntity content bytes) tag.Ampersand frames count =
    goes (Chars content (bytes ++ ampersand ∷ []) Character) frames count
enter limits (AtEntity content bytes) tag.Less frames count =
    goes (Chars content (bytes ++ less_sign ∷ []) Character) frames count
enter limits (AtEntity content bytes) tag.Greater frames count =
    goes (Chars content (bytes ++ greater_sign ∷ []) Character) frames count
enter limits (AtEntity content bytes) tag.Quote frames count =
    goes (Chars content (bytes ++ double_quote ∷ []) Character) frames count
enter limits (AtEntity content bytes) tag.Apostrophe frames count =
    goes (Chars content (bytes ++ single_quote ∷ []) Character) frames count
enter limits (AtEntity content bytes) entered frames count = goes (Hash content bytes) frames count
enter limits place closing frames count = goes (Close place) frames count

-- after the closing tag of a place
abbrev pub leave : Limits → Expecting → List Frame → ℕ → State
leave limits (AtCalled method) frames count =
    at (At (AtDone (ACall (record { method = method; params = no_tree })))) frames count
leave limits (AtParams method before) frames count =
    at (At (AtParamsEnd method before)) frames count
leave limits (AtParamEnd method before) frames count = at (At (AtParams method before)) frames count
leave limits (AtParamsEnd method params) frames count =
    at (At (AtDone (ACall (record { method = method; params = params })))) frames count
leave limits (AtReplyParamEnd value) frames count = at (At (AtReplyParamsEnd value)) frames count
leave limits (AtReplyParamsEnd value) frames count =
    at (At (AtResponseEnd (Returns value))) frames count
leave limits (AtFaultEnd reply) frames count = at (At (AtResponseEnd reply)) frames count
leave limits (AtResponseEnd reply) frames count = at (At (AtDone (AReply reply))) frames count
leave limits (AtForm white) frames count = after_value limits (text white) frames count
leave limits (AtFormEnd value) frames count = after_value limits value frames count
leave limits (AtItems items) frames count = at (At (AtArrayEnd items)) frames count
leave limits (AtArrayEnd items) frames count = at (At (AtFormEnd (array items))) frames count
leave limits (AtMembers members) frames count = at (At (AtFormEnd (structure members))) frames count
leave limits (AtMemberEnd members) frames count = at (At (AtMembers members)) frames count
leave limits (AtTextEnd content bytes) frames count = after_text limits content bytes frames count
leave limits (AtIntegerEnd short n) frames count = at (At (AtFormEnd (integer n))) frames count
leave limits (AtTruthEnd b) frames count = at (At (AtFormEnd (truth b))) frames count
leave limits place frames count = at Stuck frames count

-- the words of tags
abbrev pub words_of : List Tag → List (List ℕ × Tag)
words_of tags = map (λ t. (spelling t, t)) tags

-- those of the words that go on with this byte, what is left of each
abbrev pub going_on : ℕ → List (List ℕ × Tag) → List (List ℕ × Tag)
going_on b [] = []
going_on b (([], t) ∷ words) = going_on b words
going_on b ((w ∷ ws, t) ∷ words) = if b == w then (ws, t) ∷ going_on b words else going_on b words

-- with these words left: none, one that is whole, or others
abbrev pub within : Limits → Expecting → List (List ℕ × Tag) → List Frame → ℕ → Step
within limits place [] frames count = Bad
within limits place (([], t) ∷ words) frames count = enter limits place t frames count
within limits place ((w ∷ ws, t) ∷ words) frames count =
    goes (Within place ((w ∷ ws, t) ∷ words)) frames count

-- in or before a tag of a place
abbrev pub in_tag : Limits → Expecting → List (List ℕ × Tag) → List Frame → ℕ → ℕ → Step
in_tag limits place words frames count b = within limits place (going_on b words) frames count

-- there are no bytes
abbrev pub is_empty : List ℕ → Bool
is_empty [] = true
is_empty (b ∷ bs) = false

-- a method's name is not empty
abbrev pub may_end : Content → List ℕ → Bool
may_end InMethod bytes = not (is_empty bytes)
may_end content bytes = true

-- no character of UTF-8 is begun that has not ended
abbrev pub is_between : Awaits → Bool
is_between Character = true
is_between awaits = false

-- in a text: the `<` of its closing tag, the `&` of an entity, or a byte of a character that XML
-- allows
abbrev pub in_chars : Limits → Content → List ℕ → Awaits → List Frame → ℕ → ℕ → Step
in_chars limits content bytes awaits frames count b =
    if b == less_sign then
    if is_between awaits && may_end content bytes
    then in_tag limits (AtTextEnd content bytes) (words_of (tags_of (AtTextEnd content bytes)))
    frames count b
    else Bad
    else if b == ampersand then
    if is_between awaits
    then in_tag limits (AtEntity content bytes) (words_of (tags_of (AtEntity content bytes))) frames
    count b
    else Bad
    else if allows OfXml awaits b
    then goes (Chars content (bytes ++ b ∷ []) (after OfXml awaits b)) frames count
    else Bad

-- a hexadecimal digit, of either case
abbrev pub is_hex_digit : ℕ → Bool
is_hex_digit b = is_ascii_digit b || (nat_le 65 b && nat_le b 70) || (nat_le 97 b && nat_le b 102)

-- a digit of a character reference, hexadecimal or decimal (XML 1.0, production 66)
abbrev pub is_digit : Bool → ℕ → Bool
is_digit true b = is_hex_digit b
is_digit false b = is_ascii_digit b

-- the value of a digit
abbrev pub digit_value : ℕ → ℕ
digit_value b = if nat_le b 57 then b - 48 else if nat_le b 70 then b - 55 else b - 87

-- the base of a character reference, hexadecimal or decimal
abbrev pub base_of : Bool → ℕ
base_of true = 16
base_of false = 10

-- the number with this digit at its end
abbrev pub longer : Bool → ℕ → ℕ → ℕ
longer hex n b = n * base_of hex + digit_value b

-- in a character reference: a digit, up to 10FFFF, or the `;` after the number of a character that
-- XML allows
abbrev pub in_numeral : Content → List ℕ → Bool → Bool → ℕ → List Frame → ℕ → ℕ → Step
in_numeral content bytes hex seen n frames count b =
    if is_digit hex b then
    if nat_le (longer hex n b) 1114111
    then goes (Numeral content bytes hex true (longer hex n b)) frames count else Bad
    else if (b == semicolon) && seen && is_allowed n
    then goes (Chars content (bytes ++ encode_utf8 n) Character) frames count
    else Bad

-- after `&#`: the `x` of hexadecimal digits, or a decimal digit
abbrev pub in_hash : Content → List ℕ → List Frame → ℕ → ℕ → Step
in_hash content bytes frames count b =
    if b == 120 then goes (Numeral content bytes true false 0) frames count
    else in_numeral content bytes false false 0 frames count b

-- the largest size of an integer of 64 bits, negative or not
abbrev pub most_of : Bool → ℕ
most_of true = 2 ^ 63
most_of false = 2 ^ 63 - 1

-- in an integer, a byte that is no digit: a sign before all digits, or the closing tag after them
abbrev pub in_sign : Limits → Bool → Bool → Sign → ℕ → List Frame → ℕ → ℕ → Step
in_sign limits short negative Fresh n frames count b =
    if b == hyphen then goes (Digits short true Signed n) frames count
    else if b == plus_sign then goes (Digits short false Signed n) frames count
    else Bad
in_sign limits short negative Signed n frames count b = Bad
in_sign limits short negative Counted n frames count b =
    in_tag limits (AtIntegerEnd short (signed negative n))
    (words_of (tags_of (AtIntegerEnd short (signed negative n)))) frames count b

-- in an integer: a digit, within 64 bits, or another byte
abbrev pub in_digits : Limits → Bool → Bool → Sign → ℕ → List Frame → ℕ → ℕ → Step
in_digits limits short negative sign n frames count b =
    if is_ascii_digit b then
    if nat_le (n * 10 + (b - 48)) (most_of negative)
    then goes (Digits short negative Counted (n * 10 + (b - 48))) frames count else Bad
    else in_sign limits short negative sign n frames count b

-- after `<value>` and white space: more of it, a tag, or a bare text that begins with it
abbrev pub in_opened : Limits → List ℕ → List Frame → ℕ → ℕ → Step
in_opened limits white frames count b =
    if is_white b then goes (Opened (white ++ b ∷ [])) frames count
    else if b == less_sign
    then in_tag limits (AtForm white) (words_of (tags_of (AtForm white))) frames count b
    else in_chars limits InBare white Character frames count b

-- in the declaration, which ends at its first `?>`
abbrev pub in_prolog : Document → Bool → Awaits → List Frame → ℕ → ℕ → Step
in_prolog document question awaits frames count b =
    if question && (b == greater_sign) then goes (At (AtDeclared document)) frames count
    else if allows OfText awaits b
    then goes (Prolog document (b == question_mark) (after OfText awaits b)) frames count
    else Bad

-- `0` or `1`
abbrev pub in_truth : List Frame → ℕ → ℕ → Step
in_truth frames count b =
    if b == digit_zero
    then goes (Within (AtTruthEnd false) (words_of (tags_of (AtTruthEnd false)))) frames count
    else if b == 49
    then goes (Within (AtTruthEnd true) (words_of (tags_of (AtTruthEnd true)))) frames count
    else Bad

-- what a byte leads to at each place of a text
abbrev pub next_of : Limits → Control → List Frame → ℕ → ℕ → Step
next_of limits (At place) frames count b =
    if is_white b then goes (At place) frames count
    else in_tag limits place (words_of (tags_of place)) frames count b
next_of limits (Within place words) frames count b = in_tag limits place words frames count b
next_of limits (Close place) frames count b =
    if is_white b then goes (Close place) frames count else if b == greater_sign
    then Go (leave limits place frames count) else Bad
next_of limits (Chars content bytes awaits) frames count b =
    in_chars limits content bytes awaits frames count b
next_of limits (Hash content bytes) frames count b = in_hash content bytes frames count b
next_of limits (Numeral content bytes hex seen n) frames count b =
    in_numeral content bytes hex seen n frames count b
next_of limits (Opened white) frames count b = in_opened limits white frames count b
next_of limits (Digits short negative sign n) frames count b =
    in_digits limits short negative sign n frames count b
next_of limits TruthDigit frames count b = in_truth frames count b
next_of limits (Prolog document question awaits) frames count b =
    in_prolog document question awaits frames count b
next_of limits Stuck frames count b = Bad

-- what a byte leads to from a state
abbrev pub next : Limits → State → ℕ → Step
next limits state b = next_of limits state.control state.frames state.count b

-- what a text comes to: it is read, or refused, where so many bytes are left
pub data Verdict : Type 0 where
  Read : Spelled → Verdict
  NotRead : (left : ℕ) → Verdict
  TooMany : Verdict
  TooDeep : Verdict

-- the verdict, unless too many values were opened
abbrev pub unless_many : Limits → ℕ → Verdict → Verdict
unless_many limits count verdict = if nat_lt limits.values count then TooMany else verdict

-- the verdict where the bytes end: only a whole text is read
abbrev pub finished : Control → Verdict
finished (At (AtDone spelled)) = Read spelled
finished control = NotRead 0

-- the verdict after a step: of the next state, of a bad byte, or of a value that stands too deep
abbrev pub on_step : Step → (State → Verdict) → Verdict → Verdict
on_step (Go state) on bad = on state
on_step Bad on bad = bad
on_step Deep on bad = TooDeep

-- the verdict on these bytes, read from a state on
abbrev pub run : Limits → State → List ℕ → Verdict
run limits state [] = unless_many limits state.count (finished state.control)
run limits state (b ∷ bs) =
    on_step (next limits state b) (λ state. run limits state bs)
    (unless_many limits state.count (NotRead (suc (length bs))))

-- before the first byte
abbrev pub start : Document → State
start document = at (At (AtStart document)) [] 0
