-- How many bytes of a talk and of a captured stream aren't decided yet.
use Rattle.std.proofs.Common.{◌≡◌, ◌+◌, ◌<◌, ℕ, List, ◌++◌, ◌∷◌, length, take, refl, ap, sym, ◌∙◌, subst, arith, length-append}
use Rattle.sv_pipes.proofs.Awaited.{length_take}
use Rattle.sv_pipes.proofs.OneStream.{one_cut}
use Rattle.sv_pipes.proofs.OneTalk.{one_talk, one_rest}
use Rattle.sv_pipes.proofs.StreamReading.{stream_cut}
use Rattle.sv_pipes.proofs.TalkReading.{cut_read}
use Rattle.sv_pipes.specs.CaptureCut.{Decided, awaited, begin_token, end_token}
use Rattle.sv_pipes.specs.CapturePlaces.{IsKept, Stands as StandsAt}
use Rattle.sv_pipes.specs.StreamCut.{cut_of, undecided_on, undecided_of as undecided_of_stream}
use Rattle.sv_pipes.specs.Talk.{Mark, IsCut, IsUndecided}
use Rattle.sv_pipes.specs.TalkCut.{told_of, undecided_of}
use Rattle.sv_pipes.specs.TalkPlaces.{Stands, ready_line, result_word, state_of, undecided_at}
use Rattle.sv_pipes.specs.declared.parts.Side.{Side}
use Rattle.sv_pipes.specs.declared.parts.Side.TheVariants.{Outside, Inside}
use Rattle.sv_pipes.specs.declared.talk.TalkProgress.{TalkProgress}
use Rattle.sv_pipes.specs.declared.talk.TalkProgress.TheVariants as place
use Rattle.sv_pipes.specs.declared.tokens.TalkState.{TalkState}
use Rattle.sv_pipes.specs.declared.tokens.TalkState.TheVariants as state
use Rattle.sv_pipes.specs.declared.tokens.Token.{Token}

-- a talk

undecided_cut : (talk : List Mark) (tokens : List Token) (at : TalkState) (count : ℕ) → IsUndecided talk tokens at count → IsCut talk tokens at
undecided_cut talk tokens state.Acknowledged count is = (is.0, is.1)
undecided_cut talk tokens state.Ready count is = (is.0, is.1)
undecided_cut talk tokens state.Busy count is = (is.0, is.1)
undecided_cut talk tokens state.Unknown count is = is.0

same_number : (talk : List Mark) (tokens others : List Token) (at : TalkState) (count number : ℕ) → IsUndecided talk tokens at count
    → IsUndecided talk others at number → count ≡ number
same_number talk tokens others state.Acknowledged count number one two =
    one.2 ∙ one_rest talk tokens others state.Acknowledged state.Acknowledged one.0 two.0 one.1 two.1 ∙ sym two.2
same_number talk tokens others state.Ready count number one two =
    one.2 ∙ one_rest talk tokens others state.Ready state.Ready one.0 two.0 one.1 two.1 ∙ sym two.2
same_number talk tokens others state.Busy count number one two =
    one.2 ∙ one_rest talk tokens others state.Busy state.Busy one.0 two.0 one.1 two.1 ∙ sym two.2
same_number talk tokens others state.Unknown count number one two = one.1 ∙ sym two.1

one_number : (talk : List Mark) (tokens others : List Token) (at also : TalkState) (count number : ℕ) → IsUndecided talk tokens at count
    → IsUndecided talk others also number → count ≡ number
one_number talk tokens others at also count number one two =
    let same = one_talk talk tokens others at also (undecided_cut talk tokens at count one) (undecided_cut talk others also number two) in
    same_number talk tokens others at count number one (subst (λ (s : TalkState). IsUndecided talk others s number) (sym same.1) two)

-- a reader in a place was told a talk of which so many bytes aren't decided
pub stands_undecided : (at : TalkProgress) (held : List ℕ) (talk : List Mark) (tokens : List Token) → Stands at held talk tokens
    → IsUndecided talk tokens (state_of at) (undecided_at at held)
stands_undecided (place.Greeting count) held talk tokens stands =
    let size = length_take ready_line count (omega (arith, stands.2.1)) in
    (stands.0, stands.1, sym size ∙ ap length (sym stands.2.0))
stands_undecided place.Idle held talk tokens stands = (stands.0, stands.1, ap length (sym stands.2.0))
stands_undecided (place.Word count) held talk tokens stands =
    let size = length_take result_word count (omega (arith, stands.2.1)) in
    (stands.0, stands.1, sym size ∙ ap length (sym stands.2.0))
stands_undecided (place.Length count number) held talk tokens stands =
    let kept = stands.2 in
    (stands.0, stands.1, omega (arith, ap length kept.1, length-append result_word kept.0, kept.3))
stands_undecided (place.Body count number) held talk tokens stands =
    let kept = stands.2 in
    (stands.0, stands.1, omega (arith, ap length kept.1, length-append (result_word ++ kept.0) (10 ∷ held), length-append result_word kept.0, kept.4))
stands_undecided place.Lost held talk tokens stands = (stands, refl)
stands_undecided place.Broken held talk tokens stands = absurd stands.2

-- and the function of the whole talk gives their number
pub number_is : (talk : List Mark) (tokens : List Token) (at : TalkState) (count : ℕ) → IsUndecided talk tokens at count
    → count ≡ undecided_of talk
number_is talk tokens at count is =
    let told = told_of talk in
    one_number talk tokens told.tokens at (state_of told.place) count (undecided_at told.place told.held) is
    (stands_undecided told.place told.held talk told.tokens (cut_read talk tokens at (undecided_cut talk tokens at count is)))

pub stands_number : (at : TalkProgress) (held : List ℕ) (talk : List Mark) (tokens : List Token) → Stands at held talk tokens
    → undecided_at at held ≡ undecided_of talk
stands_number at held talk tokens stands =
    number_is talk tokens (state_of at) (undecided_at at held) (stands_undecided at held talk tokens stands)

-- a captured stream

kept_number : (limit : ℕ) (side : Side) (matched : ℕ) (body shown : List ℕ) → matched < length (awaited side) → IsKept limit side shown body
    → length body + matched ≡ undecided_on limit side shown (take matched (awaited side))
kept_number limit Outside matched body shown within kept =
    omega (arith, ap length kept, length_take begin_token matched (omega (arith, within)))
kept_number limit Inside matched body shown within kept =
    omega (arith, ap length kept, length_take end_token matched (omega (arith, within)))

pub stream_number : (limit : ℕ) (side : Side) (matched : ℕ) (body stream : List ℕ) (decided : List Decided)
    → StandsAt limit side matched body stream decided → length body + matched ≡ undecided_of_stream limit stream
stream_number limit side matched body stream decided stands =
    let whole = cut_of limit stream in
    let held : List ℕ = take matched (awaited side) in
    let same = one_cut limit stream decided whole.decided side whole.side stands.0 whole.shown held whole.held stands.1 (stream_cut limit stream) in
    kept_number limit side matched body stands.0 stands.2 stands.3
    ∙ ap (λ s. undecided_on limit s stands.0 held) same.side_is
    ∙ ap (λ shown. undecided_on limit whole.side shown held) same.shown_is
    ∙ ap (λ tail. undecided_on limit whole.side whole.shown tail) same.held_is
