-- The text of a reply (RFC 9112, sections 4 and 6; RFC 9110, section 15).
use Rattle.std.specs.Prelude.{ℕ, List, [], ◌∷◌, ◌++◌, Bool, true, false, length, codes, decimal}
use Rattle.sv_base.specs.Ascii.{space}
use Rattle.sv_http.specs.declared.status.Refusal.TheVariants.{BadRequest, Unauthorized, NotFound}
use Rattle.sv_http.specs.declared.status.Refusal.TheVariants.{MethodNotAllowed, LengthRequired}
use Rattle.sv_http.specs.declared.status.Refusal.TheVariants.{ContentTooLarge, HeadTooLarge}
use Rattle.sv_http.specs.declared.status.Status.{Status}
use Rattle.sv_http.specs.declared.status.Status.TheVariants.{Ok, Bad}

-- the status code (RFC 9110, section 15; RFC 6585, section 5)
abbrev pub number_of : Status → ℕ
number_of Ok = 200
number_of (Bad BadRequest) = 400
number_of (Bad Unauthorized) = 401
number_of (Bad NotFound) = 404
number_of (Bad MethodNotAllowed) = 405
number_of (Bad LengthRequired) = 411
number_of (Bad ContentTooLarge) = 413
number_of (Bad HeadTooLarge) = 431

-- the reason phrase of the status line
abbrev pub reason_of : Status → List ℕ
reason_of Ok = codes "OK"
reason_of (Bad BadRequest) = codes "Bad Request"
reason_of (Bad Unauthorized) = codes "Unauthorized"
reason_of (Bad NotFound) = codes "Not Found"
reason_of (Bad MethodNotAllowed) = codes "Method Not Allowed"
reason_of (Bad LengthRequired) = codes "Length Required"
reason_of (Bad ContentTooLarge) = codes "Content Too Large"
reason_of (Bad HeadTooLarge) = codes "Request Header Fields Too Large"

-- a line, which CR LF ends
abbrev pub line : List ℕ → List ℕ
line text = text ++ codes "\r\n"

-- the challenge of a 401 (RFC 9110, section 11.6.1)
abbrev pub challenge : Status → List ℕ
challenge (Bad Unauthorized) = line (codes "WWW-Authenticate: Basic realm=\"default\"")
challenge status = []

-- the field that says that the link closes after the reply (RFC 9112, section 9.6)
abbrev pub closing : Bool → List ℕ
closing true = line (codes "Connection: close")
closing false = []

-- the status line (RFC 9112, section 4)
abbrev pub status_line : Status → List ℕ
status_line status =
    line (codes "HTTP/1.1 " ++ decimal (number_of status) ++ space ∷ reason_of status)

-- the field that gives the length of the body (RFC 9112, section 6.2)
abbrev pub length_line : ℕ → List ℕ
length_line length = line (codes "Content-Length: " ++ decimal length)

-- a reply: the status line, the field lines, the empty line and the body (RFC 9112, section 2.1)
abbrev pub reply_text : Status → List ℕ → Bool → List ℕ
reply_text status body close =
    status_line status ++ line (codes "Content-Type: text/xml") ++ length_line (length body)
    ++ challenge status ++ closing close ++ line [] ++ body
