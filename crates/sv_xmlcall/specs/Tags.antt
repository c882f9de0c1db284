-- The tags and entities of XML-RPC, those of closing tags without the `>` at their end.
use Rattle.std.specs.Prelude.{ℕ, suc, List, [], ◌∷◌, length, ◌==◌, if◌then◌else◌, Result, Ok, Err}
use Rattle.std.specs.Prelude.{min, codes}
use Rattle.sv_xmlcall.specs.declared.tag.Tag.{Tag}
use Rattle.sv_xmlcall.specs.declared.tag.Tag.TheVariants.{Declaration, MethodCall, MethodName}
use Rattle.sv_xmlcall.specs.declared.tag.Tag.TheVariants.{MethodResponse, Params, NoParams, Param}
use Rattle.sv_xmlcall.specs.declared.tag.Tag.TheVariants.{Fault, Value, NoValue, I4, Int, Boolean}
use Rattle.sv_xmlcall.specs.declared.tag.Tag.TheVariants.{String, NoString, Double, DateTime}
use Rattle.sv_xmlcall.specs.declared.tag.Tag.TheVariants.{Base64, Struct, NoMembers, Member, Name}
use Rattle.sv_xmlcall.specs.declared.tag.Tag.TheVariants.{Array, Data, NoData, EndMethodCall}
use Rattle.sv_xmlcall.specs.declared.tag.Tag.TheVariants.{EndMethodName, EndMethodResponse}
use Rattle.sv_xmlcall.specs.declared.tag.Tag.TheVariants.{EndParams, EndParam, EndFault, EndValue}
use Rattle.sv_xmlcall.specs.declared.tag.Tag.TheVariants.{EndI4, EndInt, EndBoolean, EndString}
use Rattle.sv_xmlcall.specs.declared.tag.Tag.TheVariants.{EndDouble, EndDateTime, EndBase64}
use Rattle.sv_xmlcall.specs.declared.tag.Tag.TheVariants.{EndStruct, EndMember, EndName, EndArray}
use Rattle.sv_xmlcall.specs.declared.tag.Tag.TheVariants.{EndData, Ampersand, Less, Greater, Quote}
use Rattle.sv_xmlcall.specs.declared.tag.Tag.TheVariants.{Apostrophe, Numbered}

-- the bytes of each tag and entity
abbrev pub spelling : Tag → List ℕ
spelling Declaration = codes "<?xml"
spelling MethodCall = codes "<methodCall>"
spelling MethodName = codes "<methodName>"
spelling MethodResponse = codes "<methodResponse>"
spelling Params = codes "<params>"
spelling NoParams = codes "<params/>"
spelling Param = codes "<param>"
spelling Fault = codes "<fault>"
spelling Value = codes "<value>"
spelling NoValue = codes "<value/>"
spelling I4 = codes "<i4>"
spelling Int = codes "<int>"
spelling Boolean = codes "<boolean>"
spelling String = codes "<string>"
spelling NoString = codes "<string/>"
spelling Double = codes "<double>"
spelling DateTime = codes "<dateTime.iso8601>"
spelling Base64 = codes "<base64>"
spelling Struct = codes "<struct>"
spelling NoMembers = codes "<struct/>"
spelling Member = codes "<member>"
spelling Name = codes "<name>"
spelling Array = codes "<array>"
spelling Data = codes "<data>"
spelling NoData = codes "<data/>"
spelling EndMethodCall = codes "</methodCall"
spelling EndMethodName = codes "</methodName"
spelling EndMethodResponse = codes "</methodResponse"
spelling EndParams = codes "</params"
spelling EndParam = codes "</param"
spelling EndFault = codes "</fault"
spelling EndValue = codes "</value"
spelling EndI4 = codes "</i4"
spelling EndInt = codes "</int"
spelling EndBoolean = codes "</boolean"
spelling EndString = codes "</string"
spelling EndDouble = codes "</double"
spelling EndDateTime = codes "</dateTime.iso8601"
spelling EndBase64 = codes "</base64"
spelling EndStruct = codes "</struct"
spelling EndMember = codes "</member"
spelling EndName = codes "</name"
spelling EndArray = codes "</array"
spelling EndData = codes "</data"
spelling Ampersand = codes "&amp;"
spelling Less = codes "&lt;"
spelling Greater = codes "&gt;"
spelling Quote = codes "&quot;"
spelling Apostrophe = codes "&apos;"
spelling Numbered = codes "&#"

-- what follows a word, or the number of bytes that are left where it breaks off
abbrev pub word_at : List ℕ → List ℕ → Result (List ℕ) ℕ
word_at [] bs = Ok bs
word_at (w ∷ ws) [] = Err 0
word_at (w ∷ ws) (b ∷ bs) = if b == w then word_at ws bs else Err (suc (length bs))

-- this tag if it was read, else what the others give; the fewest bytes left so far are handed on
abbrev pub or_later : Tag → (ℕ → Result (Tag × List ℕ) ℕ) → ℕ → Result (List ℕ) ℕ
    → Result (Tag × List ℕ) ℕ
or_later tag others least (Ok rest) = Ok (tag, rest)
or_later tag others least (Err left) = others (min least left)

-- one of these tags and what follows it; the fewest bytes that the tags before left are handed on
abbrev pub tag_from : List Tag → ℕ → List ℕ → Result (Tag × List ℕ) ℕ
tag_from [] least bs = Err least
tag_from (tag ∷ tags) least bs =
    or_later tag (λ least. tag_from tags least bs) least (word_at (spelling tag) bs)

-- one of these tags and what follows it; where none stands here, the bad byte is the first that
-- goes on with none of them
abbrev pub tag_at : List Tag → List ℕ → Result (Tag × List ℕ) ℕ
tag_at tags bs = tag_from tags (length bs) bs
