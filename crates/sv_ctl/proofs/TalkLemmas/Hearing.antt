-- The hearing of an input, piece by piece.
use Rattle.std.proofs.Common.{◌≡◌, ◌≢◌, ◌⊎◌, ◌+◌, ◌-◌, ◌≤◌, ◌++◌, ℕ, List, [], Option, Result, Ok, Err, refl, sym, arith, append_assoc, append-nil, codes, inl, inr, length, length-append, subst}
use Rattle.std.proofs.KnownBytes.{Consumes-kept, Consumes-nil, Consumes-trans}
use Rattle.std.specs.Io.KnownBytes.{Consumes, IsAtEnd, Keeps}
use Rattle.std.specs.Prelude.{IsErr}
use Rattle.sv_commands.specs.declared.status.Status.{Status}
use Rattle.sv_commands.specs.declared.status.Status.TheVariants.{Done}
use Rattle.sv_ctl.specs.Talk.Conversation.{InputEnd, end_said, heard_said, last_line, lines_from, lines_said, prompt, stops}
use Rattle.sv_ctl.specs.Talk.Conversation.InputEnd.{Whole, Failing}
use Rattle.sv_ctl.specs.Talk.Doings.{Comes, Goes, Prints}
use Rattle.sv_ctl.specs.Talk.Hearings.{Hears, HearsOn, IsHeard, Talks, TalksOn, most_bytes}
use Rattle.sv_ctl.specs.declared.talk.course.Course.{Course}
use Rattle.sv_ctl.specs.declared.talk.course.Course.TheVariants.{On, Broken, Quit, Lost, NoMemory, Unprinted}
use Rattle.sv_ctl.specs.declared.talk.server.Server.{Server}
use Rattle.sv_out.specs.declared.connection.Exchange.{Exchange}
use Rattle.sv_out.specs.declared.failed.Failed.{Failed}
use Rattle.sv_ctl.proofs.TalkLemmas.Calls.{comes_off, went_on}
use Rattle.sv_ctl.proofs.TalkLemmas.Doings.{goes_comes, nothing_done}

-- nothing was heard yet
pub hears_first : (server : Server) (told : Option (List Exchange)) (left written : Option (List ℕ)) (status : Status)
    → HearsOn server told told left left written written status [] status most_bytes
hears_first server told left written status = record {
  heard = [];
  taken = Consumes-nil left;
  size = refl;
  goes = λ end rest. nothing_done server told written (heard_said server.client.url end (lines_from end [] rest) status);
}

-- what comes of the next piece, where such a rest and such an end follow
pub hears_next : (server : Server) (before mid after : Option (List Exchange)) (old now new : Option (List ℕ)) (url : List ℕ)
    (heard piece held kept : List ℕ) (first status : Status) (course : Course) (end : InputEnd) (rest : List ℕ)
    → ((e : InputEnd) (r : List ℕ) → Goes server before mid old now (heard_said url e (lines_from e [] (heard ++ r)) first)
    (heard_said url e (lines_from e held r) status))
    → ((e : InputEnd) (r : List ℕ) → Comes server mid after now new (heard_said url e (lines_from e held (piece ++ r)) status)
    (heard_said url e (lines_from e kept r)) course)
    → Comes server before after old new (heard_said url end (lines_from end [] ((heard ++ piece) ++ rest)) first)
    (heard_said url end (lines_from end kept rest)) course
hears_next server before mid after old now new url heard piece held kept first status course end rest goes comes =
    subst (λ (bytes : List ℕ). Comes server before after old new (heard_said url end (lines_from end [] bytes) first)
    (heard_said url end (lines_from end kept rest)) course)
    (sym (append_assoc heard piece rest))
    (goes_comes server before mid after old now new
    (heard_said url end (lines_from end [] (heard ++ (piece ++ rest))) first)
    (heard_said url end (lines_from end held (piece ++ rest)) status)
    (heard_said url end (lines_from end kept rest)) course (goes end (piece ++ rest)) (comes end rest))

-- a piece was worked off, and it goes on
pub hears_on : (server : Server) (before mid after : Option (List Exchange)) (left mid_left new_left : Option (List ℕ))
    (old now new : Option (List ℕ)) (first status so_far : Status) (held kept piece : List ℕ) (room count : ℕ) (course : Course)
    → HearsOn server before mid left mid_left old now first held status room
    → Consumes mid_left new_left piece → length piece ≡ count → count ≤ room
    → ((e : InputEnd) (r : List ℕ) → Comes server mid after now new
    (heard_said server.client.url e (lines_from e held (piece ++ r)) status) (heard_said server.client.url e (lines_from e kept r)) course)
    → course ≡ On so_far → HearsOn server before after left new_left old new first kept so_far (room - count)
hears_on server before mid after left mid_left new_left old now new first status so_far held kept piece room count course hears
    taken sized within come is = record {
      heard = hears.heard ++ piece;
      taken = Consumes-trans left mid_left new_left hears.heard piece hears.taken taken;
      size = omega (arith, length-append hears.heard piece, hears.size, sized, within);
      goes = λ end rest. went_on server before after old new
          (heard_said server.client.url end (lines_from end [] ((hears.heard ++ piece) ++ rest)) first)
          (heard_said server.client.url end (lines_from end kept rest)) course so_far is
          (hears_next server before mid after old now new server.client.url hears.heard piece held kept first status course end rest
          hears.goes come);
    }

heard_off : (heard : List ℕ) (left : Option (List ℕ)) (course : Course) → ((so_far : Status) → course ≢ On so_far)
    → IsHeard heard left course
heard_off heard left (On so_far) off = absurd (off so_far refl)
heard_off heard left Broken off = tt
heard_off heard left (Quit so_far) off = tt
heard_off heard left Lost off = tt
heard_off heard left NoMemory off = tt
heard_off heard left Unprinted off = tt

-- a piece ended it
pub hears_off : (server : Server) (before mid after : Option (List Exchange)) (left mid_left new_left : Option (List ℕ))
    (old now new : Option (List ℕ)) (first status : Status) (held kept piece : List ℕ) (room : ℕ) (course : Course)
    → HearsOn server before mid left mid_left old now first held status room
    → Consumes mid_left new_left piece
    → ((e : InputEnd) (r : List ℕ) → Comes server mid after now new
    (heard_said server.client.url e (lines_from e held (piece ++ r)) status) (heard_said server.client.url e (lines_from e kept r)) course)
    → ((so_far : Status) → course ≢ On so_far) → Hears server before after left new_left old new first (Ok course)
hears_off server before mid after left mid_left new_left old now new first status held kept piece room course hears taken come off =
    record {
      heard = hears.heard ++ piece;
      end = Whole;
      taken = Consumes-trans left mid_left new_left hears.heard piece hears.taken taken;
      reaches = (
        comes_off server before after old new (heard_said server.client.url Whole (lines_from Whole [] (hears.heard ++ piece)) first)
            (heard_said server.client.url Whole (lines_from Whole kept [])) stops course off
            (subst (λ (bytes : List ℕ). Comes server before after old new
            (heard_said server.client.url Whole (lines_from Whole [] bytes) first) (heard_said server.client.url Whole (lines_from Whole kept [])) course)
            (append-nil (hears.heard ++ piece))
            (hears_next server before mid after old now new server.client.url hears.heard piece held kept first status course Whole []
            hears.goes come)),
        heard_off (hears.heard ++ piece) new_left course off,
      );
    }

heard_whole : (heard : List ℕ) (left : Option (List ℕ)) (course : Course) → IsAtEnd left ⊎ (length heard ≡ most_bytes)
    → IsHeard heard left course
heard_whole heard left (On so_far) is = is
heard_whole heard left Broken is = tt
heard_whole heard left (Quit so_far) is = tt
heard_whole heard left Lost is = tt
heard_whole heard left NoMemory is = tt
heard_whole heard left Unprinted is = tt

-- what is held is a line at the end
pub hears_whole : (server : Server) (before mid after : Option (List Exchange)) (left mid_left new_left : Option (List ℕ))
    (old now new : Option (List ℕ)) (first status : Status) (held : List ℕ) (room : ℕ) (course : Course)
    → HearsOn server before mid left mid_left old now first held status room
    → Consumes mid_left new_left [] → IsAtEnd new_left ⊎ (room ≡ 0)
    → Comes server mid after now new (heard_said server.client.url Whole (last_line Whole held) status) stops course
    → Hears server before after left new_left old new first (Ok course)
hears_whole server before mid after left mid_left new_left old now new first status held room course hears taken over come = record {
  heard = hears.heard;
  end = Whole;
  taken = subst (λ (bytes : List ℕ). Consumes left new_left bytes) (append-nil hears.heard)
      (Consumes-trans left mid_left new_left hears.heard [] hears.taken taken);
  reaches = (
    goes_comes server before mid after old now new (heard_said server.client.url Whole (lines_from Whole [] hears.heard) first)
        (heard_said server.client.url Whole (last_line Whole held) status) stops course
        (subst (λ (bytes : List ℕ). Goes server before mid old now (heard_said server.client.url Whole (lines_from Whole [] bytes) first)
        (heard_said server.client.url Whole (last_line Whole held) status))
        (append-nil hears.heard) (hears.goes Whole []))
        come,
    heard_whole hears.heard new_left course (elim over [
      | inl end ↦ inl end
      | inr none ↦ inr (omega (arith, hears.size, none))
    ]),
  );
}

-- the input failed
pub hears_failing : (server : Server) (before mid : Option (List Exchange)) (left mid_left new_left : Option (List ℕ))
    (old now : Option (List ℕ)) (first status : Status) (held : List ℕ) (room : ℕ) (failed : Failed)
    → HearsOn server before mid left mid_left old now first held status room
    → Keeps mid_left new_left → Hears server before mid left new_left old now first (Err failed)
hears_failing server before mid left mid_left new_left old now first status held room failed hears kept = record {
  heard = hears.heard;
  end = Failing;
  taken = Consumes-kept left mid_left new_left hears.heard hears.taken kept;
  reaches = subst (λ (bytes : List ℕ). Goes server before mid old now
      (heard_said server.client.url Failing (lines_from Failing [] bytes) first) (end_said Failing Done))
      (append-nil hears.heard) (hears.goes Failing []);
}

-- the same, of whatever failure is answered
pub hears_failed : (server : Server) (before mid : Option (List Exchange)) (left mid_left new_left : Option (List ℕ))
    (old now : Option (List ℕ)) (first status : Status) (held : List ℕ) (room : ℕ) (result : Result Course Failed)
    → IsErr result → HearsOn server before mid left mid_left old now first held status room
    → Keeps mid_left new_left → Hears server before mid left new_left old now first result
hears_failed server before mid left mid_left new_left old now first status held room (Ok course) is hears kept = absurd cc
hears_failed server before mid left mid_left new_left old now first status held room (Err failed) is hears kept =
    hears_failing server before mid left mid_left new_left old now first status held room failed hears kept

-- ---- the first prompt, and the failure of the input

pub told_on : (server : Server) (before after : Option (List Exchange)) (left left_after : Option (List ℕ))
    (old new : Option (List ℕ)) (status : Status) (course : Course)
    → Hears server before after left left_after old new status (Ok course)
    → TalksOn server before after left left_after old new status course
told_on server before after left left_after old new status course hears = record {
  heard = hears.heard;
  end = hears.end;
  taken = hears.taken;
  comes = hears.reaches.0;
  whole = hears.reaches.1;
}

pub told_failing : (server : Server) (before after : Option (List Exchange)) (left left_after : Option (List ℕ))
    (old now new : Option (List ℕ)) (status : Status) (failed : Failed) (course : Course)
    → Hears server before after left left_after old now status (Err failed)
    → Prints now new (codes "Error: the input failed\n") Lost course → ((so_far : Status) → course ≢ On so_far)
    → TalksOn server before after left left_after old new status course
told_failing server before after left left_after old now new status failed course hears prints off = record {
  heard = hears.heard;
  end = Failing;
  taken = hears.taken;
  comes = goes_comes server before after after old now new
      (heard_said server.client.url Failing (lines_from Failing [] hears.heard) status) (end_said Failing Done) stops course
      hears.reaches (prints server after stops);
  whole = heard_off hears.heard left_after course off;
}

pub talks : (server : Server) (before after : Option (List Exchange)) (left left_after : Option (List ℕ))
    (old now new : Option (List ℕ)) (first : Course) (so_far : Status) (course : Course) → first ≡ On so_far
    → Prints old now prompt (On Done) first → so_far ≡ Done
    → TalksOn server before after left left_after now new so_far course
    → Talks server before after left left_after old new course
talks server before after left left_after old now new first so_far course is prints done told = record {
  heard = told.heard;
  end = told.end;
  taken = told.taken;
  comes = goes_comes server before before after old now new (lines_said server.client.url told.end told.heard)
      (heard_said server.client.url told.end (lines_from told.end [] told.heard) so_far) stops course
      (went_on server before before old now (lines_said server.client.url told.end told.heard)
      (heard_said server.client.url told.end (lines_from told.end [] told.heard)) first so_far is
      (prints server before (heard_said server.client.url told.end (lines_from told.end [] told.heard))))
      told.comes;
  whole = told.whole;
}

-- the prompt wasn't printed
pub talks_off : (server : Server) (told : Option (List Exchange)) (left old new : Option (List ℕ)) (course : Course)
    → Prints old new prompt (On Done) course → ((so_far : Status) → course ≢ On so_far)
    → Talks server told told left left old new course
talks_off server told left old new course prints off = record {
  heard = [];
  end = Whole;
  taken = Consumes-nil left;
  comes = comes_off server told told old new (lines_said server.client.url Whole [])
      (heard_said server.client.url Whole (lines_from Whole [] [])) stops course off
      (prints server told (heard_said server.client.url Whole (lines_from Whole [] [])));
  whole = heard_off [] left course off;
}
