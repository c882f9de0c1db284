-- Events with their verdicts, results among tokens, and events that can be heard: lists that grow.
use Rattle.std.proofs.Common.{◌≡◌, ◌++◌, ℕ, List, [], ◌∷◌, length, map, drop, refl, ap, sym, ◌∙◌, arith, append-nil}
use Rattle.sv_listener.specs.declared.handler.Verdict.{Verdict}
use Rattle.sv_listener.specs.declared.handler.Verdict.TheVariants as verdict
use Rattle.sv_listener_laws.proofs.Envelopes.{AllCan, CanBeHeard}
use Rattle.sv_listener_laws.specs.InStep.{result_body, results_in, with_fail, with_ok}
use Rattle.sv_pipes.specs.declared.tokens.Token.{Token}
use Rattle.sv_pipes.specs.declared.tokens.Token.TheVariants as token
use Rattle.sv_pool.specs.declared.taken.Taken.{Taken}

-- ---- events with verdicts

pub with_ok_more : (done : List Taken) (settled : List Verdict) (more : List Taken) (others : List Verdict) → length settled ≡ length done
    → with_ok (done ++ more) (settled ++ others) ≡ with_ok done settled ++ with_ok more others
with_ok_more [] [] more others same = refl
with_ok_more [] (v ∷ settled) more others same = absurd (omega (arith, same))
with_ok_more (taken ∷ done) [] more others same = absurd (omega (arith, same))
with_ok_more (taken ∷ done) (verdict.Ok ∷ settled) more others same =
    ap (λ (l : List Taken). taken ∷ l) (with_ok_more done settled more others (omega (arith, same)))
with_ok_more (taken ∷ done) (verdict.Fail ∷ settled) more others same = with_ok_more done settled more others (omega (arith, same))

pub with_fail_more : (done : List Taken) (settled : List Verdict) (more : List Taken) (others : List Verdict) → length settled ≡ length done
    → with_fail (done ++ more) (settled ++ others) ≡ with_fail done settled ++ with_fail more others
with_fail_more [] [] more others same = refl
with_fail_more [] (v ∷ settled) more others same = absurd (omega (arith, same))
with_fail_more (taken ∷ done) [] more others same = absurd (omega (arith, same))
with_fail_more (taken ∷ done) (verdict.Ok ∷ settled) more others same = with_fail_more done settled more others (omega (arith, same))
with_fail_more (taken ∷ done) (verdict.Fail ∷ settled) more others same =
    ap (λ (l : List Taken). taken ∷ l) (with_fail_more done settled more others (omega (arith, same)))

-- events after those with verdicts change nothing
pub ok_front : (done : List Taken) (settled : List Verdict) (more : List Taken) → length settled ≡ length done → with_ok (done ++ more) settled ≡ with_ok done settled
ok_front done settled more same =
    ap (λ (l : List Verdict). with_ok (done ++ more) l) (sym (append-nil settled)) ∙ with_ok_more done settled more [] same
    ∙ ap (λ (l : List Taken). with_ok done settled ++ l) (no_ok more) ∙ append-nil (with_ok done settled)
  where
    no_ok : (events : List Taken) → with_ok events [] ≡ []
    no_ok [] = refl
    no_ok (taken ∷ events) = refl

pub fail_front : (done : List Taken) (settled : List Verdict) (more : List Taken) → length settled ≡ length done → with_fail (done ++ more) settled ≡ with_fail done settled
fail_front done settled more same =
    ap (λ (l : List Verdict). with_fail (done ++ more) l) (sym (append-nil settled)) ∙ with_fail_more done settled more [] same
    ∙ ap (λ (l : List Taken). with_fail done settled ++ l) (no_fail more) ∙ append-nil (with_fail done settled)
  where
    no_fail : (events : List Taken) → with_fail events [] ≡ []
    no_fail [] = refl
    no_fail (taken ∷ events) = refl

-- ---- results

pub results_append : (tokens more : List Token) → results_in (tokens ++ more) ≡ results_in tokens ++ results_in more
results_append [] more = refl
results_append (token.Ready ∷ tokens) more = results_append tokens more
results_append (token.Result body ∷ tokens) more = ap (λ (l : List (List ℕ)). body ∷ l) (results_append tokens more)
results_append (token.Wrong ∷ tokens) more = results_append tokens more

pub bodies_append : (settled others : List Verdict) → map result_body (settled ++ others) ≡ map result_body settled ++ map result_body others
bodies_append [] others = refl
bodies_append (v ∷ settled) others = ap (λ (l : List (List ℕ)). result_body v ∷ l) (bodies_append settled others)

-- one result more, whatever stands after it
pub results_more : (tokens new : List Token) (settled : List Verdict) (v : Verdict) → results_in tokens ≡ map result_body settled
    → results_in new ≡ result_body v ∷ [] → results_in (tokens ++ new) ≡ map result_body (settled ++ v ∷ [])
results_more tokens new settled v was one =
    results_append tokens new ∙ ap (λ (l : List (List ℕ)). l ++ results_in new) was ∙ ap (λ (l : List (List ℕ)). map result_body settled ++ l) one
    ∙ sym (bodies_append settled (v ∷ []))

-- ---- events that can be heard

pub can_append : (events more : List Taken) → AllCan events → AllCan more → AllCan (events ++ more)
can_append [] more can also = also
can_append (taken ∷ events) more can also = (can.0, can_append events more can.1 also)

pub can_front : (events more : List Taken) → AllCan (events ++ more) → AllCan events
can_front [] more can = tt
can_front (taken ∷ events) more can = (can.0, can_front events more can.1)

pub can_last : (events : List Taken) (last : Taken) → AllCan (events ++ last ∷ []) → CanBeHeard last
can_last [] last can = can.0
can_last (taken ∷ events) last can = can_last events last can.1

pub can_drop : (events : List Taken) → AllCan events → AllCan (drop 1 events)
can_drop [] can = tt
can_drop (taken ∷ events) can = can.1
