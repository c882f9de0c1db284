-- Where a text is cut.
use Rattle.std.specs.Prelude.{ℕ, List, Option, Some, None, length, nat_lt, if◌then◌else◌}
use Rattle.std.specs.List.{before_first, after_first, position_or_len}
use Rattle.sv_ctl.specs.Talk.Conversation.{is_space}

-- what stands before and after the first space, where there is one
abbrev pub parted : List ℕ → Option (List ℕ × List ℕ)
parted text =
    if nat_lt (position_or_len is_space text) (length text)
    then Some (before_first is_space text, after_first is_space text) else None
