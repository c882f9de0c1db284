-- What is read within the limits, beside what is read without: after each tag of each place.
use Rattle.std.proofs.Common.{ℕ, suc, ◌≤◌, Bool, true, false, List, [], ◌∷◌, ◌++◌, length, ℤ, inl, inr, refl, sym, ap, ◌∙◌, arith}
use Rattle.sv_xmlcall.specs.Trees.{Tree, Trees, Members, text, structure, no_tree, no_member, Reply}
use Rattle.sv_xmlcall.specs.Machine.{OfCall, OfReply, Frame, InParam, InReply, InFault, Content, InMethod, InName, InString, InDouble, InDate, InBase, InBare, Expecting, AtStart, AtDeclared, AtMethod, AtCalled, AtParams, AtParamEnd, AtParamsEnd, AtResponse, AtReplyParam, AtReplyParamEnd, AtReplyParamsEnd, AtFaultEnd, AtResponseEnd, AtDone, AtValue, AtForm, AtFormEnd, AtData, AtItems, AtArrayEnd, AtMembers, AtName, AtMemberEnd, AtTextEnd, AtIntegerEnd, AtTruthEnd, AtEntity, Fresh, At, Close, Chars, Hash, Digits, TruthDigit, tags_of}
use Rattle.sv_letters.specs.declared.letters.Awaits.TheVariants.{Character}
use Rattle.sv_xmlcall.specs.declared.tag.Tag.{Tag}
use Rattle.sv_xmlcall.specs.declared.tag.Tag.TheVariants as tag
use Rattle.sv_xmlcall.proofs.TagsBack.{IsOneOf}
use Rattle.sv_xmlcall.proofs.MeasuredTags.{Outside, Inside, in_content, in_place, spot, Entered, Again, pushes, still, shutting, value_entered, item_entered}

declared_call_entered : (n : ℕ) (frames : List Frame) (count around : ℕ) (rest : List ℕ) → Outside frames around → Again (spot n (AtDeclared OfCall) frames count around rest) → (t : Tag) → IsOneOf t (tags_of (AtDeclared OfCall)) → Entered (spot n (AtDeclared OfCall) frames count around rest) t
declared_call_entered n frames count around rest s again t (inl is) = still (spot n (AtDeclared OfCall) frames count around rest) again t tag.MethodCall is (At AtMethod) (λ limits count. refl) refl s
declared_call_entered n frames count around rest s again t (inr o) = absurd o

declared_reply_entered : (n : ℕ) (frames : List Frame) (count around : ℕ) (rest : List ℕ) → Outside frames around → Again (spot n (AtDeclared OfReply) frames count around rest) → (t : Tag) → IsOneOf t (tags_of (AtDeclared OfReply)) → Entered (spot n (AtDeclared OfReply) frames count around rest) t
declared_reply_entered n frames count around rest s again t (inl is) = still (spot n (AtDeclared OfReply) frames count around rest) again t tag.MethodResponse is (At AtResponse) (λ limits count. refl) refl s
declared_reply_entered n frames count around rest s again t (inr o) = absurd o

method_entered : (n : ℕ) (frames : List Frame) (count around : ℕ) (rest : List ℕ) → Outside frames around → Again (spot n AtMethod frames count around rest) → (t : Tag) → IsOneOf t (tags_of AtMethod) → Entered (spot n AtMethod frames count around rest) t
method_entered n frames count around rest s again t (inl is) = still (spot n AtMethod frames count around rest) again t tag.MethodName is (Chars InMethod [] Character) (λ limits count. refl) refl s
method_entered n frames count around rest s again t (inr o) = absurd o

called_entered : (n : ℕ) (method : List ℕ) (frames : List Frame) (count around : ℕ) (rest : List ℕ) → Outside frames around → Again (spot n (AtCalled method) frames count around rest) → (t : Tag) → IsOneOf t (tags_of (AtCalled method)) → Entered (spot n (AtCalled method) frames count around rest) t
called_entered n method frames count around rest s again t (inl is) = still (spot n (AtCalled method) frames count around rest) again t tag.Params is (At (AtParams method no_tree)) (λ limits count. refl) refl s
called_entered n method frames count around rest s again t (inr (inl is)) = still (spot n (AtCalled method) frames count around rest) again t tag.NoParams is (At (AtParamsEnd method no_tree)) (λ limits count. refl) refl s
called_entered n method frames count around rest s again t (inr (inr (inl is))) = still (spot n (AtCalled method) frames count around rest) again t tag.EndMethodCall is (Close (AtCalled method)) (λ limits count. refl) refl s
called_entered n method frames count around rest s again t (inr (inr (inr o))) = absurd o

params_entered : (n : ℕ) (method : List ℕ) (before : Trees) (frames : List Frame) (count around : ℕ) (rest : List ℕ) → Outside frames around → Again (spot n (AtParams method before) frames count around rest) → (t : Tag) → IsOneOf t (tags_of (AtParams method before)) → Entered (spot n (AtParams method before) frames count around rest) t
params_entered n method before frames count around rest s again t (inl is) =
    pushes (spot n (AtParams method before) frames count around rest) again t tag.Param is (At AtValue) (InParam method before ∷ frames) (omega arith) (λ limits count. refl) refl (s.0, ap suc (s.1 ∙ sym (ap length s.0)))
params_entered n method before frames count around rest s again t (inr (inl is)) = still (spot n (AtParams method before) frames count around rest) again t tag.EndParams is (Close (AtParams method before)) (λ limits count. refl) refl s
params_entered n method before frames count around rest s again t (inr (inr o)) = absurd o

param_end_entered : (n : ℕ) (method : List ℕ) (before : Trees) (frames : List Frame) (count around : ℕ) (rest : List ℕ) → Outside frames around → Again (spot n (AtParamEnd method before) frames count around rest) → (t : Tag) → IsOneOf t (tags_of (AtParamEnd method before)) → Entered (spot n (AtParamEnd method before) frames count around rest) t
param_end_entered n method before frames count around rest s again t (inl is) = still (spot n (AtParamEnd method before) frames count around rest) again t tag.EndParam is (Close (AtParamEnd method before)) (λ limits count. refl) refl s
param_end_entered n method before frames count around rest s again t (inr o) = absurd o

params_end_entered : (n : ℕ) (method : List ℕ) (params : Trees) (frames : List Frame) (count around : ℕ) (rest : List ℕ) → Outside frames around → Again (spot n (AtParamsEnd method params) frames count around rest) → (t : Tag) → IsOneOf t (tags_of (AtParamsEnd method params)) → Entered (spot n (AtParamsEnd method params) frames count around rest) t
params_end_entered n method params frames count around rest s again t (inl is) = still (spot n (AtParamsEnd method params) frames count around rest) again t tag.EndMethodCall is (Close (AtParamsEnd method params)) (λ limits count. refl) refl s
params_end_entered n method params frames count around rest s again t (inr o) = absurd o

response_entered : (n : ℕ) (frames : List Frame) (count around : ℕ) (rest : List ℕ) → Outside frames around → Again (spot n AtResponse frames count around rest) → (t : Tag) → IsOneOf t (tags_of AtResponse) → Entered (spot n AtResponse frames count around rest) t
response_entered n frames count around rest s again t (inl is) = still (spot n AtResponse frames count around rest) again t tag.Params is (At AtReplyParam) (λ limits count. refl) refl s
response_entered n frames count around rest s again t (inr (inl is)) =
    pushes (spot n AtResponse frames count around rest) again t tag.Fault is (At AtValue) (InFault ∷ frames) (omega arith) (λ limits count. refl) refl (s.0, ap suc (s.1 ∙ sym (ap length s.0)))
response_entered n frames count around rest s again t (inr (inr o)) = absurd o

reply_param_entered : (n : ℕ) (frames : List Frame) (count around : ℕ) (rest : List ℕ) → Outside frames around → Again (spot n AtReplyParam frames count around rest) → (t : Tag) → IsOneOf t (tags_of AtReplyParam) → Entered (spot n AtReplyParam frames count around rest) t
reply_param_entered n frames count around rest s again t (inl is) =
    pushes (spot n AtReplyParam frames count around rest) again t tag.Param is (At AtValue) (InReply ∷ frames) (omega arith) (λ limits count. refl) refl (s.0, ap suc (s.1 ∙ sym (ap length s.0)))
reply_param_entered n frames count around rest s again t (inr o) = absurd o

reply_param_end_entered : (n : ℕ) (value : Tree) (frames : List Frame) (count around : ℕ) (rest : List ℕ) → Outside frames around → Again (spot n (AtReplyParamEnd value) frames count around rest) → (t : Tag) → IsOneOf t (tags_of (AtReplyParamEnd value)) → Entered (spot n (AtReplyParamEnd value) frames count around rest) t
reply_param_end_entered n value frames count around rest s again t (inl is) = still (spot n (AtReplyParamEnd value) frames count around rest) again t tag.EndParam is (Close (AtReplyParamEnd value)) (λ limits count. refl) refl s
reply_param_end_entered n value frames count around rest s again t (inr o) = absurd o

reply_params_end_entered : (n : ℕ) (value : Tree) (frames : List Frame) (count around : ℕ) (rest : List ℕ) → Outside frames around → Again (spot n (AtReplyParamsEnd value) frames count around rest) → (t : Tag) → IsOneOf t (tags_of (AtReplyParamsEnd value)) → Entered (spot n (AtReplyParamsEnd value) frames count around rest) t
reply_params_end_entered n value frames count around rest s again t (inl is) = still (spot n (AtReplyParamsEnd value) frames count around rest) again t tag.EndParams is (Close (AtReplyParamsEnd value)) (λ limits count. refl) refl s
reply_params_end_entered n value frames count around rest s again t (inr o) = absurd o

fault_end_entered : (n : ℕ) (reply : Reply) (frames : List Frame) (count around : ℕ) (rest : List ℕ) → Outside frames around → Again (spot n (AtFaultEnd reply) frames count around rest) → (t : Tag) → IsOneOf t (tags_of (AtFaultEnd reply)) → Entered (spot n (AtFaultEnd reply) frames count around rest) t
fault_end_entered n reply frames count around rest s again t (inl is) = still (spot n (AtFaultEnd reply) frames count around rest) again t tag.EndFault is (Close (AtFaultEnd reply)) (λ limits count. refl) refl s
fault_end_entered n reply frames count around rest s again t (inr o) = absurd o

response_end_entered : (n : ℕ) (reply : Reply) (frames : List Frame) (count around : ℕ) (rest : List ℕ) → Outside frames around → Again (spot n (AtResponseEnd reply) frames count around rest) → (t : Tag) → IsOneOf t (tags_of (AtResponseEnd reply)) → Entered (spot n (AtResponseEnd reply) frames count around rest) t
response_end_entered n reply frames count around rest s again t (inl is) = still (spot n (AtResponseEnd reply) frames count around rest) again t tag.EndMethodResponse is (Close (AtResponseEnd reply)) (λ limits count. refl) refl s
response_end_entered n reply frames count around rest s again t (inr o) = absurd o

form_entered : (n : ℕ) (white : List ℕ) (frames : List Frame) (count around : ℕ) (rest : List ℕ) → Inside frames around → Again (spot n (AtForm white) frames count around rest) → (t : Tag) → IsOneOf t (tags_of (AtForm white)) → Entered (spot n (AtForm white) frames count around rest) t
form_entered n white frames count around rest s again t (inl is) = still (spot n (AtForm white) frames count around rest) again t tag.I4 is (Digits true false Fresh 0) (λ limits count. refl) refl s
form_entered n white frames count around rest s again t (inr (inl is)) = still (spot n (AtForm white) frames count around rest) again t tag.Int is (Digits false false Fresh 0) (λ limits count. refl) refl s
form_entered n white frames count around rest s again t (inr (inr (inl is))) = still (spot n (AtForm white) frames count around rest) again t tag.Boolean is (TruthDigit) (λ limits count. refl) refl s
form_entered n white frames count around rest s again t (inr (inr (inr (inl is)))) = still (spot n (AtForm white) frames count around rest) again t tag.String is (Chars InString [] Character) (λ limits count. refl) refl s
form_entered n white frames count around rest s again t (inr (inr (inr (inr (inl is))))) = still (spot n (AtForm white) frames count around rest) again t tag.NoString is (At (AtFormEnd (text []))) (λ limits count. refl) refl s
form_entered n white frames count around rest s again t (inr (inr (inr (inr (inr (inl is)))))) = still (spot n (AtForm white) frames count around rest) again t tag.Double is (Chars InDouble [] Character) (λ limits count. refl) refl s
form_entered n white frames count around rest s again t (inr (inr (inr (inr (inr (inr (inl is))))))) = still (spot n (AtForm white) frames count around rest) again t tag.DateTime is (Chars InDate [] Character) (λ limits count. refl) refl s
form_entered n white frames count around rest s again t (inr (inr (inr (inr (inr (inr (inr (inl is)))))))) = still (spot n (AtForm white) frames count around rest) again t tag.Base64 is (Chars InBase [] Character) (λ limits count. refl) refl s
form_entered n white frames count around rest s again t (inr (inr (inr (inr (inr (inr (inr (inr (inl is))))))))) = still (spot n (AtForm white) frames count around rest) again t tag.Struct is (At (AtMembers no_member)) (λ limits count. refl) refl s
form_entered n white frames count around rest s again t (inr (inr (inr (inr (inr (inr (inr (inr (inr (inl is)))))))))) = still (spot n (AtForm white) frames count around rest) again t tag.NoMembers is (At (AtFormEnd (structure no_member))) (λ limits count. refl) refl s
form_entered n white frames count around rest s again t (inr (inr (inr (inr (inr (inr (inr (inr (inr (inr (inl is))))))))))) = still (spot n (AtForm white) frames count around rest) again t tag.Array is (At AtData) (λ limits count. refl) refl s
form_entered n white frames count around rest s again t (inr (inr (inr (inr (inr (inr (inr (inr (inr (inr (inr (inl is)))))))))))) = shutting (spot n (AtForm white) frames count around rest) again t is (λ limits count. refl) (λ around b. b) s
form_entered n white frames count around rest s again t (inr (inr (inr (inr (inr (inr (inr (inr (inr (inr (inr (inr o)))))))))))) = absurd o

form_end_entered : (n : ℕ) (value : Tree) (frames : List Frame) (count around : ℕ) (rest : List ℕ) → Inside frames around → Again (spot n (AtFormEnd value) frames count around rest) → (t : Tag) → IsOneOf t (tags_of (AtFormEnd value)) → Entered (spot n (AtFormEnd value) frames count around rest) t
form_end_entered n value frames count around rest s again t (inl is) = shutting (spot n (AtFormEnd value) frames count around rest) again t is (λ limits count. refl) (λ around b. b) s
form_end_entered n value frames count around rest s again t (inr o) = absurd o

data_entered : (n : ℕ) (frames : List Frame) (count around : ℕ) (rest : List ℕ) → Inside frames around → Again (spot n AtData frames count around rest) → (t : Tag) → IsOneOf t (tags_of AtData) → Entered (spot n AtData frames count around rest) t
data_entered n frames count around rest s again t (inl is) = still (spot n AtData frames count around rest) again t tag.Data is (At (AtItems no_tree)) (λ limits count. refl) refl s
data_entered n frames count around rest s again t (inr (inl is)) = still (spot n AtData frames count around rest) again t tag.NoData is (At (AtArrayEnd no_tree)) (λ limits count. refl) refl s
data_entered n frames count around rest s again t (inr (inr o)) = absurd o

array_end_entered : (n : ℕ) (items : Trees) (frames : List Frame) (count around : ℕ) (rest : List ℕ) → Inside frames around → Again (spot n (AtArrayEnd items) frames count around rest) → (t : Tag) → IsOneOf t (tags_of (AtArrayEnd items)) → Entered (spot n (AtArrayEnd items) frames count around rest) t
array_end_entered n items frames count around rest s again t (inl is) = still (spot n (AtArrayEnd items) frames count around rest) again t tag.EndArray is (Close (AtArrayEnd items)) (λ limits count. refl) refl s
array_end_entered n items frames count around rest s again t (inr o) = absurd o

members_entered : (n : ℕ) (members : Members) (frames : List Frame) (count around : ℕ) (rest : List ℕ) → Inside frames around → Again (spot n (AtMembers members) frames count around rest) → (t : Tag) → IsOneOf t (tags_of (AtMembers members)) → Entered (spot n (AtMembers members) frames count around rest) t
members_entered n members frames count around rest s again t (inl is) = still (spot n (AtMembers members) frames count around rest) again t tag.Member is (At (AtName members)) (λ limits count. refl) refl s
members_entered n members frames count around rest s again t (inr (inl is)) = still (spot n (AtMembers members) frames count around rest) again t tag.EndStruct is (Close (AtMembers members)) (λ limits count. refl) refl s
members_entered n members frames count around rest s again t (inr (inr o)) = absurd o

name_entered : (n : ℕ) (members : Members) (frames : List Frame) (count around : ℕ) (rest : List ℕ) → Inside frames around → Again (spot n (AtName members) frames count around rest) → (t : Tag) → IsOneOf t (tags_of (AtName members)) → Entered (spot n (AtName members) frames count around rest) t
name_entered n members frames count around rest s again t (inl is) = still (spot n (AtName members) frames count around rest) again t tag.Name is (Chars (InName members) [] Character) (λ limits count. refl) refl s
name_entered n members frames count around rest s again t (inr o) = absurd o

member_end_entered : (n : ℕ) (members : Members) (frames : List Frame) (count around : ℕ) (rest : List ℕ) → Inside frames around → Again (spot n (AtMemberEnd members) frames count around rest) → (t : Tag) → IsOneOf t (tags_of (AtMemberEnd members)) → Entered (spot n (AtMemberEnd members) frames count around rest) t
member_end_entered n members frames count around rest s again t (inl is) = still (spot n (AtMemberEnd members) frames count around rest) again t tag.EndMember is (Close (AtMemberEnd members)) (λ limits count. refl) refl s
member_end_entered n members frames count around rest s again t (inr o) = absurd o

short_end_entered : (n : ℕ) (number : ℤ) (frames : List Frame) (count around : ℕ) (rest : List ℕ) → Inside frames around → Again (spot n (AtIntegerEnd true number) frames count around rest) → (t : Tag) → IsOneOf t (tags_of (AtIntegerEnd true number)) → Entered (spot n (AtIntegerEnd true number) frames count around rest) t
short_end_entered n number frames count around rest s again t (inl is) = still (spot n (AtIntegerEnd true number) frames count around rest) again t tag.EndI4 is (Close (AtIntegerEnd true number)) (λ limits count. refl) refl s
short_end_entered n number frames count around rest s again t (inr o) = absurd o

integer_end_entered : (n : ℕ) (number : ℤ) (frames : List Frame) (count around : ℕ) (rest : List ℕ) → Inside frames around → Again (spot n (AtIntegerEnd false number) frames count around rest) → (t : Tag) → IsOneOf t (tags_of (AtIntegerEnd false number)) → Entered (spot n (AtIntegerEnd false number) frames count around rest) t
integer_end_entered n number frames count around rest s again t (inl is) = still (spot n (AtIntegerEnd false number) frames count around rest) again t tag.EndInt is (Close (AtIntegerEnd false number)) (λ limits count. refl) refl s
integer_end_entered n number frames count around rest s again t (inr o) = absurd o

truth_end_entered : (n : ℕ) (b : Bool) (frames : List Frame) (count around : ℕ) (rest : List ℕ) → Inside frames around → Again (spot n (AtTruthEnd b) frames count around rest) → (t : Tag) → IsOneOf t (tags_of (AtTruthEnd b)) → Entered (spot n (AtTruthEnd b) frames count around rest) t
truth_end_entered n b frames count around rest s again t (inl is) = still (spot n (AtTruthEnd b) frames count around rest) again t tag.EndBoolean is (Close (AtTruthEnd b)) (λ limits count. refl) refl s
truth_end_entered n b frames count around rest s again t (inr o) = absurd o

method_text_entered : (n : ℕ) (bytes : List ℕ) (frames : List Frame) (count around : ℕ) (rest : List ℕ) → Outside frames around → Again (spot n (AtTextEnd InMethod bytes) frames count around rest) → (t : Tag) → IsOneOf t (tags_of (AtTextEnd InMethod bytes)) → Entered (spot n (AtTextEnd InMethod bytes) frames count around rest) t
method_text_entered n bytes frames count around rest s again t (inl is) = still (spot n (AtTextEnd InMethod bytes) frames count around rest) again t tag.EndMethodName is (Close (AtTextEnd InMethod bytes)) (λ limits count. refl) refl s
method_text_entered n bytes frames count around rest s again t (inr o) = absurd o

string_text_entered : (n : ℕ) (bytes : List ℕ) (frames : List Frame) (count around : ℕ) (rest : List ℕ) → Inside frames around → Again (spot n (AtTextEnd InString bytes) frames count around rest) → (t : Tag) → IsOneOf t (tags_of (AtTextEnd InString bytes)) → Entered (spot n (AtTextEnd InString bytes) frames count around rest) t
string_text_entered n bytes frames count around rest s again t (inl is) = still (spot n (AtTextEnd InString bytes) frames count around rest) again t tag.EndString is (Close (AtTextEnd InString bytes)) (λ limits count. refl) refl s
string_text_entered n bytes frames count around rest s again t (inr o) = absurd o

double_text_entered : (n : ℕ) (bytes : List ℕ) (frames : List Frame) (count around : ℕ) (rest : List ℕ) → Inside frames around → Again (spot n (AtTextEnd InDouble bytes) frames count around rest) → (t : Tag) → IsOneOf t (tags_of (AtTextEnd InDouble bytes)) → Entered (spot n (AtTextEnd InDouble bytes) frames count around rest) t
double_text_entered n bytes frames count around rest s again t (inl is) = still (spot n (AtTextEnd InDouble bytes) frames count around rest) again t tag.EndDouble is (Close (AtTextEnd InDouble bytes)) (λ limits count. refl) refl s
double_text_entered n bytes frames count around rest s again t (inr o) = absurd o

date_text_entered : (n : ℕ) (bytes : List ℕ) (frames : List Frame) (count around : ℕ) (rest : List ℕ) → Inside frames around → Again (spot n (AtTextEnd InDate bytes) frames count around rest) → (t : Tag) → IsOneOf t (tags_of (AtTextEnd InDate bytes)) → Entered (spot n (AtTextEnd InDate bytes) frames count around rest) t
date_text_entered n bytes frames count around rest s again t (inl is) = still (spot n (AtTextEnd InDate bytes) frames count around rest) again t tag.EndDateTime is (Close (AtTextEnd InDate bytes)) (λ limits count. refl) refl s
date_text_entered n bytes frames count around rest s again t (inr o) = absurd o

base_text_entered : (n : ℕ) (bytes : List ℕ) (frames : List Frame) (count around : ℕ) (rest : List ℕ) → Inside frames around → Again (spot n (AtTextEnd InBase bytes) frames count around rest) → (t : Tag) → IsOneOf t (tags_of (AtTextEnd InBase bytes)) → Entered (spot n (AtTextEnd InBase bytes) frames count around rest) t
base_text_entered n bytes frames count around rest s again t (inl is) = still (spot n (AtTextEnd InBase bytes) frames count around rest) again t tag.EndBase64 is (Close (AtTextEnd InBase bytes)) (λ limits count. refl) refl s
base_text_entered n bytes frames count around rest s again t (inr o) = absurd o

name_text_entered : (n : ℕ) (before : Members) (bytes : List ℕ) (frames : List Frame) (count around : ℕ) (rest : List ℕ) → Inside frames around → Again (spot n (AtTextEnd (InName before) bytes) frames count around rest) → (t : Tag) → IsOneOf t (tags_of (AtTextEnd (InName before) bytes)) → Entered (spot n (AtTextEnd (InName before) bytes) frames count around rest) t
name_text_entered n before bytes frames count around rest s again t (inl is) = still (spot n (AtTextEnd (InName before) bytes) frames count around rest) again t tag.EndName is (Close (AtTextEnd (InName before) bytes)) (λ limits count. refl) refl s
name_text_entered n before bytes frames count around rest s again t (inr o) = absurd o

bare_text_entered : (n : ℕ) (bytes : List ℕ) (frames : List Frame) (count around : ℕ) (rest : List ℕ) → Inside frames around → Again (spot n (AtTextEnd InBare bytes) frames count around rest) → (t : Tag) → IsOneOf t (tags_of (AtTextEnd InBare bytes)) → Entered (spot n (AtTextEnd InBare bytes) frames count around rest) t
bare_text_entered n bytes frames count around rest s again t (inl is) = shutting (spot n (AtTextEnd InBare bytes) frames count around rest) again t is (λ limits count. refl) (λ around b. b) s
bare_text_entered n bytes frames count around rest s again t (inr o) = absurd o

entity_entered : (n : ℕ) (content : Content) (bytes : List ℕ) (frames : List Frame) (count around : ℕ) (rest : List ℕ) → in_content content frames around → Again (spot n (AtEntity content bytes) frames count around rest) → (t : Tag) → IsOneOf t (tags_of (AtEntity content bytes)) → Entered (spot n (AtEntity content bytes) frames count around rest) t
entity_entered n content bytes frames count around rest s again t (inl is) = still (spot n (AtEntity content bytes) frames count around rest) again t tag.Ampersand is (Chars content (bytes ++ 38 ∷ []) Character) (λ limits count. refl) refl s
entity_entered n content bytes frames count around rest s again t (inr (inl is)) = still (spot n (AtEntity content bytes) frames count around rest) again t tag.Less is (Chars content (bytes ++ 60 ∷ []) Character) (λ limits count. refl) refl s
entity_entered n content bytes frames count around rest s again t (inr (inr (inl is))) = still (spot n (AtEntity content bytes) frames count around rest) again t tag.Greater is (Chars content (bytes ++ 62 ∷ []) Character) (λ limits count. refl) refl s
entity_entered n content bytes frames count around rest s again t (inr (inr (inr (inl is)))) = still (spot n (AtEntity content bytes) frames count around rest) again t tag.Quote is (Chars content (bytes ++ 34 ∷ []) Character) (λ limits count. refl) refl s
entity_entered n content bytes frames count around rest s again t (inr (inr (inr (inr (inl is))))) = still (spot n (AtEntity content bytes) frames count around rest) again t tag.Apostrophe is (Chars content (bytes ++ 39 ∷ []) Character) (λ limits count. refl) refl s
entity_entered n content bytes frames count around rest s again t (inr (inr (inr (inr (inr (inl is)))))) = still (spot n (AtEntity content bytes) frames count around rest) again t tag.Numbered is (Hash content bytes) (λ limits count. refl) refl s
entity_entered n content bytes frames count around rest s again t (inr (inr (inr (inr (inr (inr o)))))) = absurd o

-- at whatever place a tag is read
pub tag_entered : (n : ℕ) (place : Expecting) (frames : List Frame) (count around : ℕ) (rest : List ℕ) → suc (length frames) ≤ n → count ≤ n → in_place place frames around → Again (spot n place frames count around rest)
    → (t : Tag) → IsOneOf t (tags_of place) → Entered (spot n place frames count around rest) t
tag_entered n (AtStart document) frames count around rest l c s again t i = absurd s
tag_entered n (AtDone spelled) frames count around rest l c s again t i = absurd i
tag_entered n AtValue frames count around rest l c s again t i = value_entered n frames count around rest (omega arith) c s again t i
tag_entered n (AtItems items) frames count around rest l c s again t i = item_entered n items frames count around rest l c s again t i
tag_entered n (AtDeclared OfCall) frames count around rest l c s again t i = declared_call_entered n frames count around rest s again t i
tag_entered n (AtDeclared OfReply) frames count around rest l c s again t i = declared_reply_entered n frames count around rest s again t i
tag_entered n AtMethod frames count around rest l c s again t i = method_entered n frames count around rest s again t i
tag_entered n (AtCalled method) frames count around rest l c s again t i = called_entered n method frames count around rest s again t i
tag_entered n (AtParams method before) frames count around rest l c s again t i = params_entered n method before frames count around rest s again t i
tag_entered n (AtParamEnd method before) frames count around rest l c s again t i = param_end_entered n method before frames count around rest s again t i
tag_entered n (AtParamsEnd method params) frames count around rest l c s again t i = params_end_entered n method params frames count around rest s again t i
tag_entered n AtResponse frames count around rest l c s again t i = response_entered n frames count around rest s again t i
tag_entered n AtReplyParam frames count around rest l c s again t i = reply_param_entered n frames count around rest s again t i
tag_entered n (AtReplyParamEnd value) frames count around rest l c s again t i = reply_param_end_entered n value frames count around rest s again t i
tag_entered n (AtReplyParamsEnd value) frames count around rest l c s again t i = reply_params_end_entered n value frames count around rest s again t i
tag_entered n (AtFaultEnd reply) frames count around rest l c s again t i = fault_end_entered n reply frames count around rest s again t i
tag_entered n (AtResponseEnd reply) frames count around rest l c s again t i = response_end_entered n reply frames count around rest s again t i
tag_entered n (AtForm white) frames count around rest l c s again t i = form_entered n white frames count around rest s again t i
tag_entered n (AtFormEnd value) frames count around rest l c s again t i = form_end_entered n value frames count around rest s again t i
tag_entered n AtData frames count around rest l c s again t i = data_entered n frames count around rest s again t i
tag_entered n (AtArrayEnd items) frames count around rest l c s again t i = array_end_entered n items frames count around rest s again t i
tag_entered n (AtMembers members) frames count around rest l c s again t i = members_entered n members frames count around rest s again t i
tag_entered n (AtName members) frames count around rest l c s again t i = name_entered n members frames count around rest s again t i
tag_entered n (AtMemberEnd members) frames count around rest l c s again t i = member_end_entered n members frames count around rest s again t i
tag_entered n (AtIntegerEnd true number) frames count around rest l c s again t i = short_end_entered n number frames count around rest s again t i
tag_entered n (AtIntegerEnd false number) frames count around rest l c s again t i = integer_end_entered n number frames count around rest s again t i
tag_entered n (AtTruthEnd b) frames count around rest l c s again t i = truth_end_entered n b frames count around rest s again t i
tag_entered n (AtTextEnd InMethod bytes) frames count around rest l c s again t i = method_text_entered n bytes frames count around rest s again t i
tag_entered n (AtTextEnd (InName before) bytes) frames count around rest l c s again t i = name_text_entered n before bytes frames count around rest s again t i
tag_entered n (AtTextEnd InString bytes) frames count around rest l c s again t i = string_text_entered n bytes frames count around rest s again t i
tag_entered n (AtTextEnd InDouble bytes) frames count around rest l c s again t i = double_text_entered n bytes frames count around rest s again t i
tag_entered n (AtTextEnd InDate bytes) frames count around rest l c s again t i = date_text_entered n bytes frames count around rest s again t i
tag_entered n (AtTextEnd InBase bytes) frames count around rest l c s again t i = base_text_entered n bytes frames count around rest s again t i
tag_entered n (AtTextEnd InBare bytes) frames count around rest l c s again t i = bare_text_entered n bytes frames count around rest s again t i
tag_entered n (AtEntity content bytes) frames count around rest l c s again t i = entity_entered n content bytes frames count around rest s again t i
