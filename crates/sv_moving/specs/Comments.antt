-- Where a comment begins in a line, in Supervisor's reading.
use Rattle.std.specs.Prelude.{◌==◌, ◌+◌, ℕ, List, [], ◌∷◌, Bool, true, ◌&&◌, Option, Some, None}
use Rattle.std.specs.Prelude.{min, nat_lt, take, if◌then◌else◌}
use Rattle.sv_base.specs.Ascii.{number_sign, semicolon}
use Rattle.sv_moving.specs.Spaces.{is_space, trimmed}

-- whether this is such a mark and counts: it begins the line or stands behind white space
abbrev pub counts : ℕ → Bool → ℕ → Bool
counts mark behind c = (c == mark) && behind

-- how many such marks there are, with this character behind so many
abbrev pub rank_after : ℕ → ℕ → ℕ → ℕ
rank_after mark c rank = if c == mark then rank + 1 else rank

-- the first such mark that counts, told by how many such marks stand before it, and its place
abbrev pub mark_from : ℕ → ℕ → ℕ → Bool → List ℕ → Option (ℕ × ℕ)
mark_from mark rank place behind [] = None
mark_from mark rank place behind (c ∷ cs) =
    if counts mark behind c then Some (rank, place)
    else mark_from mark (rank_after mark c rank) (place + 1) (is_space c) cs

-- the first such mark of the line that counts
abbrev pub first_mark : ℕ → List ℕ → Option (ℕ × ℕ)
first_mark mark line = mark_from mark 0 0 true line

-- of two marks the one with fewer of its own kind before it, and of two with as many the left one
abbrev pub earlier : Option (ℕ × ℕ) → Option (ℕ × ℕ) → Option ℕ
earlier None None = None
earlier (Some one) None = Some one.1
earlier None (Some other) = Some other.1
earlier (Some one) (Some other) =
    if nat_lt one.0 other.0 then Some one.1
    else if nat_lt other.0 one.0 then Some other.1
    else Some (min one.1 other.1)

-- where the comment of a line begins
abbrev pub comment_in : List ℕ → Option ℕ
comment_in line = earlier (first_mark semicolon line) (first_mark number_sign line)

-- what stands before a comment; all of it where there is none
abbrev pub before : Option ℕ → List ℕ → List ℕ
before None line = line
before (Some place) line = take place line

-- the line without its comment and the white space round it
abbrev pub content_of : List ℕ → List ℕ
content_of line = trimmed (before (comment_in line) line)
