-- Between two states of a sink: the lines of a crash reporter, event by event.
use Rattle.std.proofs.Common.{◌≡◌, ◌+◌, ◌++◌, ℕ, List, [], ◌∷◌, Option, length, length-append}
use Rattle.std.proofs.Common.{append_assoc, ap, sym, ◌∙◌, subst, refl}
use Rattle.std.proofs.KnownBytes.{Appends-trans, Appends-nil}
use Rattle.std.proofs.Math.Nat.{add_left_cancel}
use Rattle.std.specs.Io.KnownBytes.{Appends}
use Rattle.sv_listener.specs.CrashLines.{AreOk, Reported, crash_in, crash_lines, line_for}
use Rattle.sv_listener.specs.declared.events.Heard.{Heard}
use Rattle.sv_listener.specs.declared.handler.Verdict.{Verdict}
use Rattle.sv_listener.specs.declared.handler.Verdict.TheVariants as verdict
use Rattle.sv_out.specs.Written.{AppendsFront}

-- the lines of two lists
lines_append : (events more : List Heard) → crash_lines (events ++ more) ≡ crash_lines events
    ++ crash_lines more
lines_append [] more = refl
lines_append (event ∷ events) more =
    ap (λ (text : List ℕ). line_for (crash_in event) ++ text) (lines_append events more)
    ∙ sym (append_assoc (line_for (crash_in event)) (crash_lines events) (crash_lines more))

-- the verdicts of two lists
all_ok : (verdicts others : List Verdict) → AreOk verdicts → AreOk others
    → AreOk (verdicts ++ others)
all_ok [] others are more = more
all_ok (verdict.Ok ∷ verdicts) others are more = all_ok verdicts others are more
all_ok (verdict.Fail ∷ verdicts) others are more = absurd are

-- a prefix of a text after a whole one
lines_behind : (a b c : Option (List ℕ)) (text more : List ℕ) → Appends a b text
    → AppendsFront b c more → AppendsFront a c (text ++ more)
lines_behind a b c text more wrote part = record {
  front = text ++ part.front;
  rest = part.rest;
  parts = ap (λ (t : List ℕ). text ++ t) part.parts ∙ sym (append_assoc text part.front part.rest);
  appends = Appends-trans a b c text part.front wrote part.appends;
}

-- no event, and nothing was written
pub reported_none : (a : Option (List ℕ)) → Reported a a [] []
reported_none a = record {
  done = tt;
  whole = λ _. Appends-nil a;
  part = record { front = []; rest = []; parts = refl; appends = Appends-nil a };
}

-- what comes after has as many verdicts as events, where all together has
others_same : (events more : List Heard) (verdicts others : List Verdict)
    → length verdicts ≡ length events
    → length (verdicts ++ others) ≡ length (events ++ more) → length others ≡ length more
others_same events more verdicts others each same =
    add_left_cancel (length verdicts)
    (sym (length-append verdicts others) ∙ same ∙ length-append events more ∙ ap
    (λ (n : ℕ). n + length more) (sym each))

-- further events come after those that have their verdicts
pub reported_further : (a b c : Option (List ℕ)) (events more : List Heard)
    (verdicts others : List Verdict)
    → length verdicts ≡ length events → Reported a b events verdicts → Reported b c more others
    → Reported a c (events ++ more) (verdicts ++ others)
reported_further a b c events more verdicts others each one two =
    let P : List ℕ → Type 0 = λ text. Appends a c text in
    let Q : List ℕ → Type 0 = λ text. AppendsFront a c text in
    record {
      done = all_ok verdicts others one.done two.done;
      whole = λ same.
          subst P (sym (lines_append events more))
          (Appends-trans a b c (crash_lines events) (crash_lines more) (one.whole each)
          (two.whole (others_same events more verdicts others each same)));
      part =
          subst Q (sym (lines_append events more))
          (lines_behind a b c (crash_lines events) (crash_lines more) (one.whole each) two.part);
    }
