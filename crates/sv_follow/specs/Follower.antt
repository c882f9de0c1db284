-- Where a reader stands that follows a log: what its next call asks for, and what it shows of the
-- answer.
use Rattle.std.specs.Prelude.{◌-◌, ℕ, List, [], Bool, true, false, nat_lt, if◌then◌else◌}
use Rattle.sv_follow.specs.declared.follower.Follower.{Follower}
use Rattle.sv_follow.specs.declared.follower.NextPoll.{NextPoll}
use Rattle.sv_follow.specs.declared.follower.NextPoll.TheVariants.{First, From, Anew}
use Rattle.sv_follow.specs.declared.follower.Shown.{Shown}

-- the first poll shows the last so many bytes
abbrev pub first_bytes : ℕ
first_bytes = 1600

-- a further poll shows at most so many
abbrev pub most_bytes : ℕ
most_bytes = 65536

-- a reader that has made no poll yet
abbrev pub first : Follower
first = record { next = First }

-- where the next poll begins: at the size that the poll before told, or at the log's beginning
abbrev pub offset_of : NextPoll → ℕ
offset_of First = 0
offset_of (From size) = size
offset_of Anew = 0

-- how many bytes it asks for
abbrev pub length_of : NextPoll → ℕ
length_of First = first_bytes
length_of (From size) = most_bytes
length_of Anew = most_bytes

-- the offset and the length of the next call
abbrev pub asked : Follower → ℕ × ℕ
asked follower = (offset_of follower.next, length_of follower.next)

-- a log of this size is shorter than it was at the poll before
abbrev pub is_rotated : NextPoll → ℕ → Bool
is_rotated next size = nat_lt size (offset_of next)

-- where the poll after this one begins, whose log has this size
abbrev pub next_after : NextPoll → ℕ → NextPoll
next_after next size = if is_rotated next size then Anew else From size

-- where the reader stands after an answer that told this size
abbrev pub after : Follower → ℕ → Follower
after follower size = record { next = next_after follower.next size }

-- how many bytes were appended that an answer doesn't have; the first poll isn't to show all
abbrev pub lost_before : NextPoll → ℕ → Bool → ℕ
lost_before First size overflow = 0
lost_before (From offset) size overflow = if overflow then size - offset - most_bytes else 0
lost_before Anew size overflow = if overflow then size - most_bytes else 0

-- what a poll shows whose answer has this text, this size of the log, and the word that more bytes
-- than were asked for were appended
abbrev pub shown_by : NextPoll → List ℕ → ℕ → Bool → Shown
shown_by next text size overflow =
    if is_rotated next size then record { text = []; lost = 0; rotated = true }
    else record { text = text; lost = lost_before next size overflow; rotated = false }

-- the same of a reader
abbrev pub shown : Follower → List ℕ → ℕ → Bool → Shown
shown follower text size overflow = shown_by follower.next text size overflow

-- the poll before found the log rotated
abbrev pub begins_anew : NextPoll → Bool
begins_anew Anew = true
begins_anew next = false

-- the same of a reader
abbrev pub is_anew : Follower → Bool
is_anew follower = begins_anew follower.next
