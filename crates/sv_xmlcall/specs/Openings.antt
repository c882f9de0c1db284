-- The values that a prefix of a text opens: its whole tags `<value>` and `<value/>` outside the
-- declaration.
use Rattle.std.specs.Prelude.{ℕ, suc, ◌-◌, max, List, [], ◌∷◌, Bool, true, false, ◌&&◌, ◌||◌, ◌==◌}
use Rattle.std.specs.Prelude.{if◌then◌else◌}
use Rattle.sv_base.specs.Ascii.{greater_sign, question_mark}
use Rattle.sv_xmlcall.specs.Tags.{spelling}
use Rattle.sv_xmlcall.specs.Atoms.{skip_white}
use Rattle.sv_xmlcall.specs.declared.tag.Tag.TheVariants as tag

-- the bytes begin with this word
abbrev pub begins : List ℕ → List ℕ → Bool
begins [] bs = true
begins (w ∷ ws) [] = false
begins (w ∷ ws) (b ∷ bs) = (b == w) && begins ws bs

-- how many values are opened
abbrev pub opened : List ℕ → ℕ
opened [] = 0
opened (b ∷ bs) =
    if begins (spelling tag.Value) (b ∷ bs) || begins (spelling tag.NoValue) (b ∷ bs)
    then suc (opened bs) else opened bs

-- the most values that stand one inside the other where one is opened, itself among them, so many
-- standing around the whole
abbrev pub deepest : ℕ → List ℕ → ℕ
deepest around [] = 0
deepest around (b ∷ bs) =
    if begins (spelling tag.Value) (b ∷ bs) then max (suc around) (deepest (suc around) bs)
    else if begins (spelling tag.NoValue) (b ∷ bs) then max (suc around) (deepest around bs)
    else if begins (spelling tag.EndValue) (b ∷ bs) then deepest (around - 1) bs
    else deepest around bs

-- what is after the `?>` of a declaration, whose last byte before may be a question mark; nothing
-- where it does not end
abbrev pub behind_mark : Bool → List ℕ → List ℕ
behind_mark question [] = []
behind_mark question (b ∷ bs) =
    if question && (b == greater_sign) then bs else behind_mark (b == question_mark) bs

-- what stands outside the declaration
abbrev pub outside : List ℕ → List ℕ
outside bytes =
    if begins (spelling tag.Declaration) (skip_white bytes)
    then behind_mark false (skip_white bytes) else bytes

-- how many values a prefix opens
abbrev pub amount_in : List ℕ → ℕ
amount_in front = opened (outside front)

-- the most values that stand one inside the other where a prefix opens one
abbrev pub depth_in : List ℕ → ℕ
depth_in front = deepest 0 (outside front)
