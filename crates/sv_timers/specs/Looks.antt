-- Which children were looked at, and how often one was.
use Rattle.std.specs.Prelude.{◌≡◌, ◌+◌, ◌≤◌, ◌++◌, ℕ, List, length}
use Rattle.sv_base.specs.declared.ids.ChildId.{ChildId}
use Rattle.sv_timers.specs.declared.looked.Looked.{Looked}

-- these children were looked at, in this order, where there was room for them; and none was looked
-- at twice
pub record LooksAt {A : Type 0} (room : A → ℕ) (looked : A → List ChildId) (looks : A → ℕ)
    (old new : A)
    (children : List ChildId) : Type 0 where
  pub same_room : room new ≡ room old
  pub given : length (looked old) + length children ≤ room old → looked new ≡ looked old ++ children
  pub count : looks new ≤ looks old + length children

-- how many children a list has room for
abbrev pub room_of : Looked → ℕ
room_of list = list.room

-- the children in a list
abbrev pub looked_of : Looked → List ChildId
looked_of list = list.children.items

-- how often one was looked at
abbrev pub looks_of : Looked → ℕ
looks_of list = list.looks
