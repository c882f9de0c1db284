-- The talk of an event listener (the manual's chapter on events, "Event Listener States"): the
-- bytes that it says, with a mark where an event was sent to it, and the cut of that talk into what
-- it says.
use Rattle.std.specs.Prelude.{◌≡◌, ◌≢◌, ◌≤◌, ◌⊎◌, ⊤, ℕ, List, [], ◌∷◌, ◌++◌, length}
use Rattle.std.specs.Prelude.{map, codes, true}
use Rattle.std.specs.List.{flat_map, list_all}
use Rattle.std.specs.Char.{is_ascii_digit}
use Rattle.sv_base.specs.Ascii.{line_feed}
use Rattle.sv_base.specs.SizeText.{number_of}
use Rattle.sv_pipes.specs.declared.tokens.TalkState.{TalkState}
use Rattle.sv_pipes.specs.declared.tokens.TalkState.TheVariants as state
use Rattle.sv_pipes.specs.declared.tokens.Token.{Token}
use Rattle.sv_pipes.specs.declared.tokens.Token.TheVariants as token

-- one place of a talk: a byte that the listener says, or the mark of an event
pub data Mark : Type 0 where
  Byte : (byte : ℕ) → Mark
  Sent : Mark

-- bytes that are said one after the other
abbrev pub said : List ℕ → List Mark
said bytes = map Byte bytes

-- the parts of a cut
pub data Phrase : Type 0 where
  Ready : Phrase
  Event : Phrase
  Result : (digits body : List ℕ) → Phrase

-- the most bytes of a result
abbrev pub result_limit : ℕ
result_limit = 1048576

-- one to seven digits, which write the length of a result
pub record IsLength (digits : List ℕ) (number : ℕ) : Type 0 where
  pub decimal : list_all is_ascii_digit digits ≡ true
  pub least : 1 ≤ length digits
  pub most : length digits ≤ 7
  pub number_is : number_of 0 digits ≡ number
  pub limit : number ≤ result_limit

-- how a result is said: its length, a line feed and its bytes
abbrev pub result_text : List ℕ → List ℕ → List ℕ
result_text digits body = codes "RESULT " ++ digits ++ line_feed ∷ body

-- how each part stands in the talk
abbrev pub spelled : Phrase → List Mark
spelled Ready = said (codes "READY\n")
spelled Event = Sent ∷ []
spelled (Result digits body) = said (result_text digits body)

-- how all parts stand in it
abbrev pub talk_of : List Phrase → List Mark
talk_of phrases = flat_map spelled phrases

-- what comes next in each state, and the state after it
abbrev pub Leads : TalkState → Phrase → TalkState → Type 0
Leads state.Acknowledged Ready state.Ready = ⊤
Leads state.Ready Event state.Busy = ⊤
Leads state.Busy (Result digits body) state.Acknowledged = IsLength digits (length body)
Leads from phrase to = ⊥

-- the parts lead from one state to another
abbrev pub IsRound : TalkState → List Phrase → TalkState → Type 0
IsRound from [] to = from ≡ to
IsRound from (phrase ∷ phrases) to =
    (next : TalkState) × Leads from phrase next × IsRound next phrases to

-- the bytes that a listener may say next, as a whole
abbrev pub IsSaid : TalkState → List ℕ → Type 0
IsSaid state.Acknowledged bytes = bytes ≡ codes "READY\n"
IsSaid state.Busy bytes =
    (digits : List ℕ) × (body : List ℕ) × IsLength digits (length body)
    × (bytes ≡ result_text digits body)
IsSaid other bytes = ⊥

-- nothing, or some bytes of what may be said next, but not all of them
abbrev pub IsBegun : TalkState → List ℕ → Type 0
IsBegun from rest = (rest ≡ []) ⊎ ((more : List ℕ) × (more ≢ []) × IsSaid from (rest ++ more))

-- a byte that can't go on after these
abbrev pub IsOutside : TalkState → List ℕ → ℕ → Type 0
IsOutside from rest byte = (more : List ℕ) → IsSaid from (rest ++ byte ∷ more) → ⊥

-- what the parts of a cut tell
abbrev pub told_by : Phrase → List Token
told_by Ready = token.Ready ∷ []
told_by Event = []
told_by (Result digits body) = token.Result body ∷ []

-- what all parts tell
abbrev pub tokens_of : List Phrase → List Token
tokens_of phrases = flat_map told_by phrases

-- a talk that is cut up to a rest, which goes on
pub record GoesOn (talk : List Mark) (tokens : List Token) (to : TalkState)
    (rest : List ℕ) : Type 0 where
  pub phrases : List Phrase
  pub cut : talk ≡ talk_of phrases ++ said rest
  pub round : IsRound state.Acknowledged phrases to
  pub begun : IsBegun to rest
  pub tokens_are : tokens ≡ tokens_of phrases

-- a talk that is cut up to the first byte that can't go on, whatever comes after it
pub record IsLost (talk : List Mark) (tokens : List Token) : Type 0 where
  pub phrases : List Phrase
  pub to : TalkState
  pub rest : List ℕ
  pub byte : ℕ
  pub behind : List Mark
  pub cut : talk ≡ talk_of phrases ++ said rest ++ Byte byte ∷ behind
  pub round : IsRound state.Acknowledged phrases to
  pub begun : IsBegun to rest
  pub outside : IsOutside to rest byte
  pub tokens_are : tokens ≡ tokens_of phrases ++ token.Wrong ∷ []

-- the cut of a whole talk and how many of its bytes aren't decided yet: those of the rest, and none
-- where it is lost
abbrev pub IsUndecided : List Mark → List Token → TalkState → ℕ → Type 0
IsUndecided talk tokens state.Unknown count = IsLost talk tokens × (count ≡ 0)
IsUndecided talk tokens to count =
    (rest : List ℕ) × GoesOn talk tokens to rest × (count ≡ length rest)

-- the cut of a whole talk: its tokens, and the state in which it leaves the listener
abbrev pub IsCut : List Mark → List Token → TalkState → Type 0
IsCut talk tokens state.Unknown = IsLost talk tokens
IsCut talk tokens to = (rest : List ℕ) × GoesOn talk tokens to rest
