-- How far a listener's talk has come: what is kept of its undecided bytes, and what one more byte
-- makes of it.
use Rattle.std.specs.Prelude.{◌≡◌, ◌≤◌, ◌<◌, ◌+◌, ◌-◌, ◌*◌, ℕ, List, [], ◌∷◌, ◌++◌, length, take}
use Rattle.std.specs.Prelude.{get_or, codes, Bool, true, ◌&&◌, ◌==◌, nat_lt, nat_le, if◌then◌else◌}
use Rattle.std.specs.List.{list_all}
use Rattle.std.specs.Char.{is_ascii_digit}
use Rattle.sv_base.specs.Ascii.{line_feed}
use Rattle.sv_pipes.specs.Talk.{Mark, GoesOn, IsLost, IsLength, result_limit}
use Rattle.sv_base.specs.SizeText.{number_of}
use Rattle.sv_pipes.specs.declared.talk.TalkProgress.{TalkProgress}
use Rattle.sv_pipes.specs.declared.talk.TalkProgress.TheVariants as place
use Rattle.sv_pipes.specs.declared.talk.ListenerTalk.{ListenerTalk}
use Rattle.sv_pipes.specs.declared.tokens.TalkState.{TalkState}
use Rattle.sv_pipes.specs.declared.tokens.TalkState.TheVariants as state
use Rattle.sv_pipes.specs.declared.tokens.Token.{Token}
use Rattle.sv_pipes.specs.declared.tokens.Token.TheVariants as token

-- how a listener says that it is ready
abbrev pub ready_line : List ℕ
ready_line = codes "READY\n"

-- how a result begins
abbrev pub result_word : List ℕ
result_word = codes "RESULT "

-- the state of a listener at a place
abbrev pub state_of : TalkProgress → TalkState
state_of (place.Greeting count) = state.Acknowledged
state_of place.Idle = state.Ready
state_of (place.Word count) = state.Busy
state_of (place.Length count number) = state.Busy
state_of (place.Body count number) = state.Busy
state_of place.Lost = state.Unknown
state_of place.Broken = state.Unknown

-- how many undecided bytes were said at a place, where these of a result are kept
abbrev pub undecided_at : TalkProgress → List ℕ → ℕ
undecided_at (place.Greeting count) held = count
undecided_at (place.Word count) held = count
undecided_at (place.Length count number) held = 7 + count
undecided_at (place.Body count number) held = 8 + count + length held
undecided_at at held = 0

-- which undecided bytes a place stands for
abbrev pub IsKept : TalkProgress → List ℕ → List ℕ → Type 0
IsKept (place.Greeting count) held rest = (rest ≡ take count ready_line) × (count < 6) × (held ≡ [])
IsKept place.Idle held rest = (rest ≡ []) × (held ≡ [])
IsKept (place.Word count) held rest = (rest ≡ take count result_word) × (count < 7) × (held ≡ [])
IsKept (place.Length count number) held rest =
    (digits : List ℕ) × (rest ≡ result_word ++ digits) × (list_all is_ascii_digit digits ≡ true)
    × (length digits ≡ count) × (number_of 0 digits ≡ number) × (count ≤ 7)
    × (number ≤ result_limit) × (held ≡ [])
IsKept (place.Body count number) held rest =
    (digits : List ℕ) × (rest ≡ result_word ++ digits ++ line_feed ∷ held) × IsLength digits number
    × (length held < number) × (length digits ≡ count)
IsKept at held rest = ⊥

-- the place and the bytes held stand for a talk whose cut gave these tokens
abbrev pub Stands : TalkProgress → List ℕ → List Mark → List Token → Type 0
Stands place.Lost held talk tokens = IsLost talk tokens
Stands at held talk tokens =
    (rest : List ℕ) × GoesOn talk tokens (state_of at) rest × IsKept at held rest

-- the value stands for a talk whose cut gave these tokens
abbrev pub StandsFor : ListenerTalk → List Mark → List Token → Type 0
StandsFor value talk tokens = Stands value.place value.held.items talk tokens

-- memory was refused, so the value stands for no talk
abbrev pub IsBroken : ListenerTalk → Type 0
IsBroken value = value.place ≡ place.Broken

-- the state that a value gives
abbrev pub state_in : ListenerTalk → TalkState
state_in value = state_of value.place

-- a place, the bytes held, and the tokens told so far
pub record Told : Type 0 where
  pub place : TalkProgress
  pub held : List ℕ
  pub tokens : List Token

-- the place and the bytes of a value, with the tokens so far
abbrev pub shown : ListenerTalk → List Token → Told
shown value tokens = record { place = value.place; held = value.held.items; tokens = tokens }

-- the same of bare values
abbrev pub goes : TalkProgress → List ℕ → List Token → Told
goes to held tokens = record { place = to; held = held; tokens = tokens }

-- whether a word goes on with this byte, when so many of its bytes were said
abbrev pub is_next : List ℕ → ℕ → ℕ → Bool
is_next word count byte = nat_lt count (length word) && get_or word count 0 == byte

-- the talk can't go on
abbrev pub lost : List ℕ → List Token → Told
lost held tokens = goes place.Lost held (tokens ++ token.Wrong ∷ [])

-- one more byte of READY
abbrev pub after_greeting : ℕ → ℕ → List ℕ → List Token → Told
after_greeting count byte held tokens =
    if is_next ready_line count byte
    then (if count == length ready_line - 1 then goes place.Idle held (tokens ++ token.Ready ∷ [])
    else goes (place.Greeting (count + 1)) held tokens)
    else lost held tokens

-- one more byte of the word before a result's length
abbrev pub after_word : ℕ → ℕ → List ℕ → List Token → Told
after_word count byte held tokens =
    if is_next result_word count byte
    then (if count == length result_word - 1 then goes (place.Length 0 0) held tokens
    else goes (place.Word (count + 1)) held tokens)
    else lost held tokens

-- one more digit of the length, with the number that is then written
abbrev pub after_digit : ℕ → ℕ → List ℕ → List Token → Told
after_digit count number held tokens =
    if nat_lt count 7 && nat_le number result_limit
    then goes (place.Length (count + 1) number) held tokens
    else lost held tokens

-- the line feed after the length
abbrev pub after_length : ℕ → ℕ → List ℕ → List Token → Told
after_length count number held tokens =
    if nat_lt 0 count
    then (if number == 0 then goes (place.Greeting 0) held (tokens ++ token.Result [] ∷ [])
    else goes (place.Body count number) held tokens)
    else lost held tokens

-- one more byte of the body, which has then these bytes
abbrev pub after_body : ℕ → ℕ → List ℕ → List Token → Told
after_body count number body tokens =
    if nat_lt (length body) number
    then goes (place.Body count number) body tokens
    else goes (place.Greeting 0) [] (tokens ++ token.Result body ∷ [])

-- what one more byte makes of it
abbrev pub step : TalkProgress → ℕ → List ℕ → List Token → Told
step (place.Greeting count) byte held tokens = after_greeting count byte held tokens
step place.Idle byte held tokens = lost held tokens
step (place.Word count) byte held tokens = after_word count byte held tokens
step (place.Length count number) byte held tokens =
    if is_ascii_digit byte then after_digit count (10 * number + (byte - 48)) held tokens
    else (if byte == line_feed then after_length count number held tokens else lost held tokens)
step (place.Body count number) byte held tokens = after_body count number (held ++ byte ∷ []) tokens
step at byte held tokens = goes at held tokens

-- what further bytes make of it
abbrev pub steps : Told → List ℕ → Told
steps told [] = told
steps told (byte ∷ bytes) = steps (step told.place byte told.held told.tokens) bytes
