-- The lines on standard error, without their line feed.
use Rattle.std.specs.Prelude.{ℕ, ◌++◌, List, codes}
use Rattle.std.specs.Fmt.{decimal}

-- a log takes no pieces
abbrev pub lost_line : List ℕ → List ℕ → List ℕ
lost_line log reason =
    codes "log " ++ log ++ codes ": cannot write: " ++ reason
    ++ codes "; what is written there is lost until it can be"

-- a log takes pieces again
abbrev pub again_line : List ℕ → ℕ → List ℕ
again_line log bytes =
    codes "log " ++ log ++ codes ": written again, " ++ decimal bytes ++ codes " bytes were lost"

-- a log on standard output, where the journal is
abbrev pub redirected_line : List ℕ → List ℕ
redirected_line log =
    codes "log " ++ log
    ++ codes ": the journal is on standard output; what is written there goes to standard error"

-- a log can't be given its backup's name
abbrev pub unrotated_line : List ℕ → List ℕ → List ℕ
unrotated_line log reason =
    codes "log " ++ log ++ codes ": cannot be rotated: " ++ reason
    ++ codes "; it grows until it can be"
