-- The words for yes and no in a configuration (the manual's chapter on configuration).
use Rattle.std.specs.Prelude.{◌≡◌, List, ℕ, Bool, true, false, ◌||◌, ◌⊎◌, codes, Option, Some, None}
use Rattle.std.specs.Prelude.{if◌then◌else◌}
use Rattle.std.specs.Str.{bytes_eq, str_to_ascii_lowercase}

-- the text is one of the four words for this answer, in any case of letters
abbrev pub SpellsTruth : List ℕ → Bool → Type 0
SpellsTruth text true =
    (str_to_ascii_lowercase text ≡ codes "yes")
    ⊎ (str_to_ascii_lowercase text ≡ codes "true")
    ⊎ (str_to_ascii_lowercase text ≡ codes "on")
    ⊎ (str_to_ascii_lowercase text ≡ codes "1")
SpellsTruth text false =
    (str_to_ascii_lowercase text ≡ codes "no")
    ⊎ (str_to_ascii_lowercase text ≡ codes "false")
    ⊎ (str_to_ascii_lowercase text ≡ codes "off")
    ⊎ (str_to_ascii_lowercase text ≡ codes "0")

-- the text in lower case is a word for yes
abbrev pub is_true_word : List ℕ → Bool
is_true_word lower =
    bytes_eq lower (codes "yes") || bytes_eq lower (codes "true") || bytes_eq lower (codes "on")
    || bytes_eq lower (codes "1")

-- the text in lower case is a word for no
abbrev pub is_false_word : List ℕ → Bool
is_false_word lower =
    bytes_eq lower (codes "no") || bytes_eq lower (codes "false") || bytes_eq lower (codes "off")
    || bytes_eq lower (codes "0")

-- the answer that a text in lower case gives
abbrev pub truth_word : List ℕ → Option Bool
truth_word lower =
    if is_true_word lower then Some true else (if is_false_word lower then Some false else None)
