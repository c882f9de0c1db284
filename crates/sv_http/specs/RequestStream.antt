-- The requests of a link's stream (RFC 9112, sections 2 to 6): the one list of asks whose texts,
-- joined with a rest, are the stream, where no ask begins the rest, and where nothing follows a
-- refusal.
use Rattle.std.specs.Prelude.{◌≡◌, ◌==◌, ◌||◌, ◌&&◌, ◌⊎◌, ◌≤◌, ◌+◌, ℕ, List, [], ◌∷◌, ◌++◌, Bool}
use Rattle.std.specs.Prelude.{true, false, length, codes, Option, None, Some, option_map}
use Rattle.std.specs.Prelude.{if◌then◌else◌}
use Rattle.std.specs.List.{list_all}
use Rattle.sv_base.specs.Ascii.{carriage_return, line_feed}
use Rattle.sv_http.specs.AskTable.{Judged}
use Rattle.sv_http.specs.declared.ask.Ask.{Ask}
use Rattle.sv_http.specs.declared.ask.Ask.TheVariants.{Call, Bad}
use Rattle.sv_http.specs.declared.guard.Guard.{Guard}
use Rattle.sv_http.specs.declared.status.Refusal.TheVariants.{HeadTooLarge}
use Rattle.sv_http.specs.declared.head.Ruling.TheVariants.{Refused, Takes}

-- the most bytes of a head
abbrev pub head_limit : ℕ
head_limit = 16384

-- the bytes begin with this text
abbrev pub begins : List ℕ → List ℕ → Bool
begins [] bytes = true
begins (byte ∷ text) [] = false
begins (byte ∷ text) (other ∷ bytes) = other == byte && begins text bytes

-- how many bytes there are up to and with the first empty line: a line feed, then a line feed or CR
-- LF
abbrev pub head_length : List ℕ → Option ℕ
head_length [] = None
head_length (byte ∷ bytes) =
    if begins (codes "\n\n") (byte ∷ bytes) then Some 2
    else if begins (codes "\n\r\n") (byte ∷ bytes) then Some 3
    else option_map (λ size. 1 + size) (head_length bytes)

-- CR or LF
abbrev pub ends_line : ℕ → Bool
ends_line byte = byte == carriage_return || byte == line_feed

-- there are bytes, and the first is neither CR nor LF
abbrev pub is_begun : List ℕ → Bool
is_begun [] = false
is_begun (byte ∷ bytes) = if ends_line byte then false else true

-- a whole head
abbrev pub IsHead : List ℕ → Type 0
IsHead head = (head_length head ≡ Some (length head)) × (length head ≤ head_limit)

-- as many bytes as a head may have, and no empty line among them
abbrev pub IsTooLong : List ℕ → Type 0
IsTooLong head = (head_length head ≡ None) × (length head ≡ head_limit)

-- what a head and the body after it ask
abbrev pub Asks : Guard → List ℕ → List ℕ → Ask → Type 0
Asks guard head body (Call bytes close) =
    IsHead head × Judged guard head (Takes (length body) close) × (bytes ≡ body)
Asks guard head body (Bad refusal) =
    (body ≡ [])
    ×
    ((IsHead head × Judged guard head (Refused refusal))
    ⊎ (IsTooLong head × (refusal ≡ HeadTooLarge)))

-- the text of an ask: CR and LF that are dropped, a head, and a body
pub record IsAsk (guard : Guard) (text : List ℕ) (ask : Ask) : Type 0 where
  pub dropped : List ℕ
  pub head : List ℕ
  pub body : List ℕ
  pub text_is : text ≡ dropped ++ head ++ body
  pub dropped_is : list_all ends_line dropped ≡ true
  pub begun : is_begun head ≡ true
  pub asks : Asks guard head body ask

-- no ask begins these bytes
abbrev pub BeginsNoAsk : Guard → List ℕ → Type 0
BeginsNoAsk guard bytes =
    (text rest : List ℕ) (ask : Ask) → bytes ≡ text ++ rest → IsAsk guard text ask → ⊥

-- the asks of a whole stream
abbrev pub AreAsks : Guard → List ℕ → List Ask → Type 0
AreAsks guard stream [] = BeginsNoAsk guard stream
AreAsks guard stream (Call body close ∷ asks) =
    (text : List ℕ) × (rest : List ℕ) × (stream ≡ text ++ rest) × IsAsk guard text (Call body close)
    × AreAsks guard rest asks
AreAsks guard stream (Bad refusal ∷ asks) =
    (text : List ℕ) × (rest : List ℕ) × (stream ≡ text ++ rest) × IsAsk guard text (Bad refusal)
    × (asks ≡ [])
