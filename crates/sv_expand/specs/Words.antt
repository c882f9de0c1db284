-- A command's words, as a text is read from left to right (the manual's chapter on the
-- configuration file, `command`).
use Rattle.std.specs.Prelude.{◌==◌, ℕ, List, [], ◌∷◌, ◌++◌, Bool, ◌||◌, Option, Some, None}
use Rattle.std.specs.Prelude.{encode_utf8, if◌then◌else◌}
use Rattle.std.specs.Str.{chars}
use Rattle.sv_base.specs.Ascii.{backslash, double_quote, line_feed, single_quote, space, tab}
use Rattle.sv_expand.specs.declared.split.WordsProgress.{WordsProgress}
use Rattle.sv_expand.specs.declared.split.WordsProgress.TheVariants.{Between, Bare, Kept, Single}
use Rattle.sv_expand.specs.declared.split.WordsProgress.TheVariants.{Double}
use Rattle.sv_expand.specs.declared.split.WordsProgress.TheVariants.{DoubleKept}

-- what was read so far: the words that are over, the word that goes on, and where that leaves us
pub record Reached : Type 0 where
  pub words : List (List ℕ)
  pub word : List ℕ
  pub place : WordsProgress

-- spaces, tabs and line feeds part words
abbrev pub parts_words : ℕ → Bool
parts_words c = (c == space) || ((c == tab) || (c == line_feed))

-- before the first character
abbrev pub at_start : Reached
at_start = record { words = []; word = []; place = Between }

-- the same, at another place of the scan
abbrev pub moved : WordsProgress → Reached → Reached
moved place reached = record reached { place = place }

-- the word gets one more character
abbrev pub with_char : WordsProgress → ℕ → Reached → Reached
with_char place c reached = record reached { word = reached.word ++ encode_utf8 c; place = place }

-- the word is over
abbrev pub ended : Reached → Reached
ended reached = record { words = reached.words ++ reached.word ∷ []; word = []; place = Between }

-- outside quotes a quote opens a quoted part, a backslash keeps the next character, others stand
-- for themselves
abbrev pub outside : ℕ → Reached → Reached
outside c reached =
    if c == single_quote then moved Single reached
    else if c == double_quote then moved Double reached
    else if c == backslash then moved Kept reached
    else with_char Bare c reached

-- after a backslash in double quotes: only the quote and the backslash drop it
abbrev pub kept_in_quotes : ℕ → Reached → Reached
kept_in_quotes c reached =
    if (c == double_quote) || (c == backslash) then with_char Double c reached
    else with_char Double c (with_char Double 92 reached)

-- a character more, by where it stands
abbrev pub after_at : WordsProgress → ℕ → Reached → Reached
after_at Between c reached = if parts_words c then reached else outside c reached
after_at Bare c reached = if parts_words c then ended reached else outside c reached
after_at Kept c reached = with_char Bare c reached
after_at Single c reached =
    if c == single_quote then moved Bare reached else with_char Single c reached
after_at Double c reached =
    if c == double_quote then moved Bare reached
    else if c == backslash then moved DoubleKept reached
    else with_char Double c reached
after_at DoubleKept c reached = kept_in_quotes c reached

-- the same, by where the reading has come
abbrev pub after : ℕ → Reached → Reached
after c reached = after_at reached.place c reached

-- the characters in turn
abbrev pub after_all : List ℕ → Reached → Reached
after_all [] reached = reached
after_all (c ∷ cs) reached = after_all cs (after c reached)

-- the words where the text ends: none in quotes, nor after a backslash
abbrev pub closed_at : WordsProgress → Reached → Option (List (List ℕ))
closed_at Between reached = Some reached.words
closed_at Bare reached = Some (reached.words ++ reached.word ∷ [])
closed_at place reached = None

-- the same, by where the reading has come
abbrev pub closed : Reached → Option (List (List ℕ))
closed reached = closed_at reached.place reached

-- the words of a text, or none where a quote isn't closed or a backslash ends it
abbrev pub words_of : List ℕ → Option (List (List ℕ))
words_of text = closed (after_all (chars text) at_start)
