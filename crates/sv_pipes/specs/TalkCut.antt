-- The cut of a whole talk, as a function: it is read mark by mark, from a listener that said
-- nothing.
use Rattle.std.specs.Prelude.{◌≡◌, ◌++◌, ◌∷◌, ℕ, List, []}
use Rattle.sv_pipes.specs.Talk.{Mark}
use Rattle.sv_pipes.specs.Talk.Mark.{Byte, Sent}
use Rattle.sv_pipes.specs.TalkPlaces.{Told, goes, state_of, step, undecided_at}
use Rattle.sv_pipes.specs.declared.talk.TalkProgress.{TalkProgress}
use Rattle.sv_pipes.specs.declared.talk.TalkProgress.TheVariants as place
use Rattle.sv_pipes.specs.declared.tokens.TalkState.{TalkState}
use Rattle.sv_pipes.specs.declared.tokens.TalkState.TheVariants as state
use Rattle.sv_pipes.specs.declared.tokens.Token.{Token}

-- an event is sent to a listener that waits for one, and elsewhere it changes nothing
abbrev pub after_event : TalkProgress → TalkProgress
after_event place.Idle = place.Word 0
after_event at = at

-- what one more mark makes of it
abbrev pub after_mark : Told → Mark → Told
after_mark told (Byte byte) = step told.place byte told.held told.tokens
after_mark told Sent = goes (after_event told.place) told.held told.tokens

-- what further marks make of it
abbrev pub after_marks : Told → List Mark → Told
after_marks told [] = told
after_marks told (mark ∷ marks) = after_marks (after_mark told mark) marks

-- what a whole talk tells
unfoldable pub told_of : List Mark → Told
told_of talk = after_marks (goes (place.Greeting 0) [] []) talk

-- the tokens of a whole talk
abbrev pub talk_tokens : List Mark → List Token
talk_tokens talk = (told_of talk).tokens

-- the state in which a whole talk leaves the listener
abbrev pub talk_state : List Mark → TalkState
talk_state talk = state_of (told_of talk).place

-- how many bytes of a whole talk aren't decided yet
abbrev pub undecided_of : List Mark → ℕ
undecided_of talk = undecided_at (told_of talk).place (told_of talk).held

-- events were sent where the listener waited for one
abbrev pub IsAttended : List Mark → Type 0
IsAttended talk =
    (front back : List Mark) → talk ≡ front ++ Sent ∷ back → talk_state front ≡ state.Ready
