-- What a whole text spells: the layouts of calls and replies, which of them are right, what each
-- prints and means.
use Rattle.std.specs.Prelude.{◌≡◌, ◌≢◌, ℕ, List, [], ◌∷◌, ◌++◌, ◌⊎◌, codes, IsUtf8, ⊤, ℤ}
use Rattle.sv_xmlcall.specs.Tags.{spelling}
use Rattle.sv_xmlcall.specs.Trees.{Tree, Trees, integer, text, structure, no_tree, tree, no_member}
use Rattle.sv_xmlcall.specs.Trees.{member, CallTree, Reply, Returns, Faults}
use Rattle.sv_xmlcall.specs.Spelled.{Spelled, ACall, AReply}
use Rattle.sv_xmlcall.specs.Spells.{Letter, AreLetters, printed_text, text_of, IsWhite, Ending}
use Rattle.sv_xmlcall.specs.Spells.{IsEnding, printed_shut, printed_end, ValueText, printed_value}
use Rattle.sv_xmlcall.specs.Spells.{value_of, IsValue}
use Rattle.sv_xmlcall.specs.declared.tag.Tag.TheVariants as tag

-- what stands before the outermost element: white space, with or without a declaration in it
pub data HeadText : Type 0 where
  NoDeclaration : (before : List ℕ) → HeadText
  Declared : (before declared after : List ℕ) → HeadText

-- the bytes of what stands before the outermost element
abbrev pub printed_head : HeadText → List ℕ
printed_head (NoDeclaration before) = before
printed_head (Declared before declared after) =
    before ++ spelling tag.Declaration ++ declared ++ codes "?>" ++ after

-- the declaration is any text of UTF-8 without `?>`
abbrev pub IsHead : HeadText → Type 0
IsHead (NoDeclaration before) = IsWhite before
IsHead (Declared before declared after) =
    IsWhite before × IsUtf8 declared
    × ((front back : List ℕ) → declared ≢ front ++ codes "?>" ++ back) × IsWhite after

-- a param: white space, `<param>`, white space, the value, and the closing tag
pub record ParamText : Type 0 where
  pub before : List ℕ
  pub before_value : List ℕ
  pub value : ValueText
  pub ending : Ending

-- a param is right where its white space and its value are
abbrev pub IsParam : ParamText → Type 0
IsParam param =
    IsWhite param.before × IsWhite param.before_value × IsValue param.value × IsEnding param.ending

-- the bytes of a param
abbrev pub printed_param : ParamText → List ℕ
printed_param param =
    param.before ++ spelling tag.Param ++ param.before_value ++ printed_value param.value
    ++ printed_end tag.EndParam param.ending

-- all these params are right
abbrev pub AreParams : List ParamText → Type 0
AreParams [] = ⊤
AreParams (param ∷ params) = IsParam param × AreParams params

-- the bytes of these params
abbrev pub printed_each : List ParamText → List ℕ
printed_each [] = []
printed_each (param ∷ params) = printed_param param ++ printed_each params

-- the values of these params
abbrev pub values_of : List ParamText → Trees
values_of [] = no_tree
values_of (param ∷ params) = tree (value_of param.value) (values_of params)

-- the params of a call: left out, `<params/>`, or between `<params>` and its closing tag
pub data ParamsText : Type 0 where
  Without : ParamsText
  NoParams : (before : List ℕ) → ParamsText
  Params : (before : List ℕ) → List ParamText → Ending → ParamsText

-- the params of a call are right
abbrev pub ArePossible : ParamsText → Type 0
ArePossible Without = ⊤
ArePossible (NoParams before) = IsWhite before
ArePossible (Params before params ending) = IsWhite before × AreParams params × IsEnding ending

-- the bytes of the params of a call
abbrev pub printed_params : ParamsText → List ℕ
printed_params Without = []
printed_params (NoParams before) = before ++ spelling tag.NoParams
printed_params (Params before params ending) =
    before ++ spelling tag.Params ++ printed_each params ++ printed_end tag.EndParams ending

-- the values of the params of a call
abbrev pub params_of : ParamsText → Trees
params_of Without = no_tree
params_of (NoParams before) = no_tree
params_of (Params before params ending) = values_of params

-- a call: `<methodCall>`, the method's name, in whose closing tag there may be white space
-- `inside`, and the params
pub record CallText : Type 0 where
  pub head : HeadText
  pub before_name : List ℕ
  pub name : List Letter
  pub inside : List ℕ
  pub params : ParamsText
  pub ending : Ending
  pub after : List ℕ

-- a method's name is not empty
pub record IsCall (call : CallText) : Type 0 where
  pub head : IsHead call.head
  pub before_name : IsWhite call.before_name
  pub letters : AreLetters call.name
  pub named : call.name ≢ []
  pub inside : IsWhite call.inside
  pub params : ArePossible call.params
  pub ending : IsEnding call.ending
  pub after : IsWhite call.after

-- the bytes of a call
abbrev pub printed_call : CallText → List ℕ
printed_call call =
    printed_head call.head ++ spelling tag.MethodCall ++ call.before_name ++ spelling tag.MethodName
    ++ printed_text call.name
    ++ printed_shut tag.EndMethodName call.inside ++ printed_params call.params
    ++ printed_end tag.EndMethodCall call.ending ++ call.after

-- the call that is meant
abbrev pub call_of : CallText → CallTree
call_of call = record { method = text_of call.name; params = params_of call.params }

-- a reply: one param, or a fault
pub data AnswerText : Type 0 where
  Answer : (before : List ℕ) → ParamText → (of_params : Ending) → AnswerText
  Fault : (before before_value : List ℕ) → ValueText → (number : ℤ) (content : List ℕ)
      → (of_fault : Ending) → AnswerText

-- the name of the member of a fault that is an integer
abbrev pub code_name : List ℕ
code_name = codes "faultCode"

-- the name of the member of a fault that is a string
abbrev pub string_name : List ℕ
string_name = codes "faultString"

-- the value of a fault: a struct of exactly the members faultCode and faultString, in either order
abbrev pub IsFault : Tree → ℤ → List ℕ → Type 0
IsFault value number content =
    (value ≡ structure
    (member code_name (integer number) (member string_name (text content) no_member)))
    ⊎
    (value ≡ structure
    (member string_name (text content) (member code_name (integer number) no_member)))

-- the answer is right; the value of a fault is that of its number and its text
abbrev pub IsAnswer : AnswerText → Type 0
IsAnswer (Answer before param of_params) = IsWhite before × IsParam param × IsEnding of_params
IsAnswer (Fault before before_value value number content of_fault) =
    IsWhite before × IsWhite before_value × IsValue value × IsFault (value_of value) number content
    × IsEnding of_fault

-- the bytes of the answer
abbrev pub printed_answer : AnswerText → List ℕ
printed_answer (Answer before param of_params) =
    before ++ spelling tag.Params ++ printed_param param ++ printed_end tag.EndParams of_params
printed_answer (Fault before before_value value number content of_fault) =
    before ++ spelling tag.Fault ++ before_value ++ printed_value value
    ++ printed_end tag.EndFault of_fault

-- the reply that is meant
abbrev pub answer_of : AnswerText → Reply
answer_of (Answer before param of_params) = Returns (value_of param.value)
answer_of (Fault before before_value value number content of_fault) = Faults number content

-- a reply: `<methodResponse>`, the answer, and the closing tag
pub record ReplyText : Type 0 where
  pub head : HeadText
  pub answer : AnswerText
  pub ending : Ending
  pub after : List ℕ

-- a reply is right where its parts are
pub record IsReply (reply : ReplyText) : Type 0 where
  pub head : IsHead reply.head
  pub answer : IsAnswer reply.answer
  pub ending : IsEnding reply.ending
  pub after : IsWhite reply.after

-- the bytes of a reply
abbrev pub printed_reply : ReplyText → List ℕ
printed_reply reply =
    printed_head reply.head ++ spelling tag.MethodResponse ++ printed_answer reply.answer
    ++ printed_end tag.EndMethodResponse reply.ending ++ reply.after

-- the bytes spell this call: a right layout prints them and means it
pub record SpellsCall (bytes : List ℕ) (call : CallTree) : Type 0 where
  pub text : CallText
  pub right : IsCall text
  pub printed : printed_call text ≡ bytes
  pub means : call_of text ≡ call

-- the bytes spell this reply: a right layout prints them and means it
pub record SpellsReply (bytes : List ℕ) (reply : Reply) : Type 0 where
  pub text : ReplyText
  pub right : IsReply text
  pub printed : printed_reply text ≡ bytes
  pub means : answer_of text.answer ≡ reply

-- the bytes spell a call or a reply
abbrev pub Spells : List ℕ → Spelled → Type 0
Spells bytes (ACall call) = SpellsCall bytes call
Spells bytes (AReply reply) = SpellsReply bytes reply
