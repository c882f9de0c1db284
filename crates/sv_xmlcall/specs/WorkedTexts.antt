-- Texts that were worked out by hand: a call that asks for the version, in three spellings, and the
-- reply.
use Rattle.std.specs.Prelude.{ℕ, List, codes}
use Rattle.sv_xmlcall.specs.Trees.{text, no_tree, CallTree, Reply, Returns}

-- the call of supervisor.getAPIVersion, which has no params
abbrev pub version_call : CallTree
version_call = record { method = codes "supervisor.getAPIVersion"; params = no_tree }

-- that call without a declaration and without `<params>`
abbrev pub plain_call : List ℕ
plain_call = codes "<methodCall><methodName>supervisor.getAPIVersion</methodName></methodCall>"

-- that call with a declaration, line feeds between its tags, and no param between `<params>` and
-- `</params>`
abbrev pub declared_call : List ℕ
declared_call =
    codes "<?xml version='1.0'?>\n<methodCall>\n<methodName>supervisor.getAPIVersion</methodName>\n<params>\n</params>\n</methodCall>\n"

-- that call with `<params/>`
abbrev pub call_without_params : List ℕ
call_without_params =
    codes "<methodCall><methodName>supervisor.getAPIVersion</methodName><params/></methodCall>"

-- the reply to it, the string 3.0
abbrev pub version_reply : Reply
version_reply = Returns (text (codes "3.0"))

-- the text that is written for this reply
abbrev pub version_text : List ℕ
version_text =
    codes "<?xml version='1.0'?><methodResponse><params><param><value><string>3.0</string></value></param></params></methodResponse>"

-- a prefix that opens three values, of which the second and the third stand in the first
abbrev pub three_values : List ℕ
three_values = codes "<param><value><array><data><value/> <value><i4>1</i4></value></data>"

-- a prefix whose only tag of a value stands in the declaration
abbrev pub value_declared : List ℕ
value_declared = codes " <?xml <value>?><methodCall>"
