-- What the calls of a reader do to the talk that it stands for.
use Rattle.std.specs.Prelude.{◌≡◌, ◌++◌, ◌∷◌, ℕ, List, []}
use Rattle.sv_pipes.specs.Talk.{Mark, IsCut, IsUndecided, said}
use Rattle.sv_pipes.specs.Talk.Mark.{Sent}
use Rattle.sv_pipes.specs.TalkCut.{talk_tokens, talk_state, undecided_of}
use Rattle.sv_pipes.specs.TalkPlaces.{StandsFor, state_in}
use Rattle.sv_pipes.specs.declared.talk.ListenerTalk.{ListenerTalk}
use Rattle.sv_pipes.specs.declared.tokens.TalkState.{TalkState}
use Rattle.sv_pipes.specs.declared.tokens.Token.{Token}

-- the piece is said, and these tokens are told
abbrev pub Feeds : ListenerTalk → List ℕ → List Token → ListenerTalk → Type 0
Feeds old piece told new =
    (talk : List Mark) (tokens : List Token) → StandsFor old talk tokens
    → StandsFor new (talk ++ said piece) (tokens ++ told)

-- they are what is new in the tokens of the whole talk
abbrev pub Tells : ListenerTalk → List ℕ → List Token → Type 0
Tells old piece told =
    (talk : List Mark) (tokens : List Token) → StandsFor old talk tokens
    → tokens ++ told ≡ talk_tokens (talk ++ said piece)

-- an event is sent
abbrev pub Sends : ListenerTalk → ListenerTalk → Type 0
Sends old new =
    (talk : List Mark) (tokens : List Token) → StandsFor old talk tokens
    → StandsFor new (talk ++ Sent ∷ []) tokens

-- the talk has this cut
abbrev pub HasCut : ListenerTalk → TalkState → Type 0
HasCut value state =
    (talk : List Mark) (tokens : List Token) → StandsFor value talk tokens → IsCut talk tokens state

-- these are the tokens and the state of the whole talk
abbrev pub IsRead : ListenerTalk → TalkState → Type 0
IsRead value state =
    (talk : List Mark) (tokens : List Token) → StandsFor value talk tokens
    → (tokens ≡ talk_tokens talk) × (state ≡ talk_state talk)

-- by the cut of the talk so many bytes aren't decided yet
abbrev pub HasUndecided : ListenerTalk → ℕ → Type 0
HasUndecided value count =
    (talk : List Mark) (tokens : List Token) → StandsFor value talk tokens
    → IsUndecided talk tokens (state_in value) count

-- so many bytes of the whole talk aren't decided yet
abbrev pub Holds : ListenerTalk → ℕ → Type 0
Holds value count =
    (talk : List Mark) (tokens : List Token) → StandsFor value talk tokens
    → count ≡ undecided_of talk

-- there is no talk that the value stands for
abbrev pub StandsForNone : ListenerTalk → Type 0
StandsForNone value = (talk : List Mark) (tokens : List Token) → StandsFor value talk tokens → ⊥
