-- What the readers of tags give: what follows, or the number of bytes that are left at the first
-- bad one.
use Rattle.std.specs.Prelude.{ℕ, suc, List, [], ◌∷◌, length, ◌==◌, if◌then◌else◌, Result, Ok, Err}
use Rattle.sv_base.specs.Ascii.{greater_sign}
use Rattle.sv_xmlcall.specs.declared.tag.Tag.{Tag}
use Rattle.sv_xmlcall.specs.Spelled.{is_white}
use Rattle.sv_xmlcall.specs.Tags.{tag_at}

-- what follows the white space at the front
abbrev pub skip_white : List ℕ → List ℕ
skip_white [] = []
skip_white (b ∷ bs) = if is_white b then skip_white bs else b ∷ bs

-- one of these tags, white space before it, and what follows it
abbrev pub tag_behind : List Tag → List ℕ → Result (Tag × List ℕ) ℕ
tag_behind tags bs = tag_at tags (skip_white bs)

-- what follows the `>` that stands here
abbrev pub bracket_at : List ℕ → Result (List ℕ) ℕ
bracket_at [] = Err 0
bracket_at (b ∷ bs) = if b == greater_sign then Ok bs else Err (suc (length bs))

-- the end of a closing tag
abbrev pub close_at : List ℕ → Result (List ℕ) ℕ
close_at bs = bracket_at (skip_white bs)

-- the end of the closing tag that was read up to its `>`
abbrev pub close_behind : Result (Tag × List ℕ) ℕ → Result (List ℕ) ℕ
close_behind (Ok r) = close_at r.1
close_behind (Err left) = Err left

-- a closing tag, whole
abbrev pub closing_at : List Tag → List ℕ → Result (List ℕ) ℕ
closing_at tags bs = close_behind (tag_behind tags bs)
