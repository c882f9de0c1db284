-- The answers of a daemon whose log has told bytes at each poll.
use Rattle.std.specs.Prelude.{◌≡◌, ◌≤◌, ◌++◌, ◌∷◌, ℕ, pos, List, [], Option, Some, None, Ok, Err}
use Rattle.std.specs.Prelude.{drop, length, take}
use Rattle.std.specs.List.{flat_map}
use Rattle.sv_follow.specs.Follower.{after, length_of, offset_of}
use Rattle.sv_follow.specs.Printed.{printed}
use Rattle.sv_follow.specs.Seen.{Sight, seen}
use Rattle.sv_follow.specs.Tails.{sent, tail_of}
use Rattle.sv_follow.specs.declared.follower.Follower.{Follower}
use Rattle.sv_follow.specs.declared.follower.Shown.{Shown}
use Rattle.sv_follow.specs.declared.tails.Tail.{Tail}
use Rattle.sv_logs.specs.Spans.{has_missed, tail_part}
use Rattle.sv_logs.specs.declared.spans.Span.{Span}
use Rattle.sv_ctl.specs.Talk.Answers.{Answer}
use Rattle.sv_ctl.specs.Talk.Conversation.{Talk, having}
use Rattle.sv_xmlcall.specs.Characters.{log_text}
use Rattle.sv_xmlcall.specs.Trees.{CallTree, view}
use Rattle.sv_xmlcall.specs.declared.call.Answered.TheVariants as answered

-- the bytes of a part of a file
abbrev pub part_of : Span → List ℕ → List ℕ
part_of span bytes = take span.length (drop span.start bytes)

-- what a tail method answers from this offset on, for this length, of a log of these bytes
abbrev pub tail_at : ℕ → ℕ → List ℕ → Tail
tail_at offset count bytes = record {
  text = log_text (part_of (tail_part (length bytes) (pos offset) (pos count)) bytes);
  size = length bytes;
  overflow = has_missed (length bytes) (pos offset) (pos count);
}

-- what the next poll of a reader is answered
abbrev pub tail_for : Follower → List ℕ → Tail
tail_for follower bytes =
    tail_at (sent (offset_of follower.next)) (sent (length_of follower.next)) bytes

-- what an answer tells of a log
abbrev pub tail_in : Answer → Option Tail
tail_in (Ok (answered.Value value)) = tail_of (view value)
tail_in (Ok (answered.Fault number content)) = None
tail_in (Err fault) = None

-- a log whose size can be told
abbrev pub IsTellable : List ℕ → Type 0
IsTellable bytes = length bytes ≤ 9223372036854775807

-- the answers are those of a log that has these bytes, poll by poll
abbrev pub AreTold : Follower → List (List ℕ) → List Answer → Type 0
AreTold follower [] [] = Unit {0}
AreTold follower [] (answer ∷ answers) = ⊥
AreTold follower (bytes ∷ polls) [] = ⊥
AreTold follower (bytes ∷ polls) (answer ∷ answers) =
    IsTellable bytes × (tail_in answer ≡ Some (tail_for follower bytes))
    × AreTold (after follower (length bytes)) polls answers

-- what is shown of what is seen: its bytes as a text
abbrev pub shown_of : Sight → Shown
shown_of sight =
    record { text = log_text sight.bytes; lost = sight.lost; rotated = sight.rotated }

-- what is printed of what is seen at these polls
abbrev pub followed : List (List ℕ) → List ℕ
followed polls = flat_map (λ sight. printed (shown_of sight)) (seen polls)

-- a conversation over these answers, and then others, begins with this text
pub record Begins (talk : Talk) (answers : List Answer) (text : List ℕ) : Type 0 where
  pub calls : List CallTree
  pub left : Talk
  pub same : (more : List Answer) → talk (answers ++ more) ≡ having calls text (left more)
