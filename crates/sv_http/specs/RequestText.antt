-- The text of the client's request (RFC 9112, sections 3 to 6; RFC 7617, the scheme Basic).
use Rattle.std.specs.Prelude.{◌==◌, ℕ, List, [], ◌∷◌, ◌++◌, length, codes, if◌then◌else◌}
use Rattle.base64.specs.GeneralPurpose.{encode_of}
use Rattle.base64.specs.Engines.{standard}
use Rattle.sv_base.specs.Ascii.{colon}
use Rattle.sv_http.specs.ReplyText.{line, length_line}

-- who asks, where the username isn't empty
abbrev pub credentials : List ℕ → List ℕ → List ℕ
credentials username password =
    if length username == 0 then []
    else line (codes "Authorization: Basic " ++ encode_of standard (username ++ colon ∷ password))

-- a call: the request line, the field lines, the empty line and the body (RFC 9112, section 2.1)
abbrev pub request_text : List ℕ → List ℕ → List ℕ → List ℕ → List ℕ
request_text body host username password =
    line (codes "POST /RPC2 HTTP/1.1") ++ line (codes "Host: " ++ host)
    ++ line (codes "Content-Type: text/xml")
    ++ length_line (length body) ++ credentials username password ++ line [] ++ body
