-- The talk that is kept of a run.
use Rattle.std.proofs.Common.{◌≡◌, ℕ, List, [], ◌∷◌, ◌++◌, Some, Bool, true, false, refl, sym, ◌∙◌}
use Rattle.std.proofs.Math.Seq.{drop-append_seam}
use Rattle.sv_pipes.specs.Talk.{Mark, said}
use Rattle.sv_pipes.specs.Talk.Mark.{Sent}
use Rattle.sv_pipes.specs.TalkCalls.{Feeds, IsRead, Sends, Tells}
use Rattle.sv_pipes.specs.TalkCut.{after_mark, after_marks, talk_state, talk_tokens, told_of}
use Rattle.sv_pipes.specs.TalkPlaces.{StandsFor, Told, state_in}
use Rattle.sv_pipes.specs.declared.talk.ListenerTalk.{ListenerTalk}
use Rattle.sv_pipes.specs.declared.tokens.TalkState.TheVariants as state
use Rattle.sv_pipes.specs.declared.tokens.Token.{Token}
use Rattle.sv_runs.specs.RunBook.{RunRecord, gets, is_listening, new_run, tokens_more}
use Rattle.sv_runs.specs.StandsFor.{IsHeard, Keeps}
use Rattle.sv_runs.specs.declared.open_run.OpenRun.{OpenRun}

mark_tells_nothing : (told : Told) (talk : List Mark) → (after_marks told (talk ++ Sent ∷ [])).tokens ≡ (after_marks told talk).tokens
mark_tells_nothing told [] = refl
mark_tells_nothing told (mark ∷ marks) = mark_tells_nothing (after_mark told mark) marks

sent_tells_nothing : (talk : List Mark) → talk_tokens (talk ++ Sent ∷ []) ≡ talk_tokens talk
unfolding told_of
sent_tells_nothing talk = mark_tells_nothing _ talk

-- nothing was said yet
begun_stands : (x : ListenerTalk) → StandsFor x [] [] → StandsFor x [] (talk_tokens [])
unfolding told_of
begun_stands x stands = stands

-- the talk after an event was sent
pub sent_stands : (x y : ListenerTalk) (talk : List Mark) → Sends x y → StandsFor x talk (talk_tokens talk)
    → StandsFor y (talk ++ Sent ∷ []) (talk_tokens (talk ++ Sent ∷ []))
sent_stands x y talk sends stands = rw (sent_tells_nothing talk) (sends talk (talk_tokens talk) stands)

-- the talk after a piece was said, and what that tells
pub fed_stands : (x y : ListenerTalk) (talk : List Mark) (piece : List ℕ) (told : List Token) → Feeds x piece told y → Tells x piece told
    → StandsFor x talk (talk_tokens talk) → StandsFor y (talk ++ said piece) (talk_tokens (talk ++ said piece))
fed_stands x y talk piece told feeds tells stands =
    rw (← tells talk (talk_tokens talk) stands) (feeds talk (talk_tokens talk) stands)

pub fed_tells : (x : ListenerTalk) (talk : List Mark) (piece : List ℕ) (told : List Token) → Tells x piece told
    → StandsFor x talk (talk_tokens talk) → told ≡ tokens_more talk piece
fed_tells x talk piece told tells stands =
    rw (← tells talk (talk_tokens talk) stands) (sym (drop-append_seam (talk_tokens talk) told))

-- what is kept of a run that waited for an event, after one was sent
pub sent_keeps : (x : OpenRun) (v w : ListenerTalk) (r : RunRecord) → x.talk ≡ Some v → state_in v ≡ state.Ready → IsRead v (state_in v)
    → Sends v w → Keeps x r → Keeps (record x { talk = Some w }) (gets r)
sent_keeps x v w r is ready read sends k = by_test (is_listening r) refl (rw is at k.talk) where
  by_test : (b : Bool) → is_listening r ≡ b → IsHeard (Some v) r.talk b → Keeps (record x { talk = Some w }) (gets r)
  by_test false e heard = absurd heard
  by_test true e stands =
      let waits_now : talk_state r.talk ≡ state.Ready = sym (read r.talk (talk_tokens r.talk) stands).1 ∙ ready in
      rw (e, waits_now) (record {
        child = k.child;
        pid = k.pid;
        ended = k.ended;
        out_ended = k.out_ended;
        err_ended = k.err_ended;
        talk = rw e (sent_stands v w r.talk sends stands);
      })

-- what is kept of a listener's run that begins
pub new_keeps : (x : OpenRun) (v : ListenerTalk) (number child pid : ℕ) (is_listener : Bool) → is_listener ≡ true → StandsFor v [] []
    → x ≡ record { child = child; pid = pid; ended = false; out_ended = false; err_ended = false; talk = Some v }
    → Keeps x (new_run number child pid is_listener)
new_keeps x v number child pid is_listener is stands made = rw (made, is) (record {
  child = refl;
  pid = refl;
  ended = refl;
  out_ended = refl;
  err_ended = refl;
  talk = begun_stands v stands;
})
