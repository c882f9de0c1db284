-- Lists that were put together item by item.
use Rattle.std.specs.Prelude.{◌≡◌, ℕ, List}
use Rattle.sv_lane.specs.Order.{items_of, of_seat, posted_by}

module _ {T : Type 0} where
  -- the items of these lists and no others, each once, those of each list in their order
  abbrev pub Interleaves : List (List T) → List T → Type 0
  Interleaves lists all =
      (seated : List (ℕ × T)) × (items_of seated ≡ all)
      × ((k : ℕ) → of_seat k seated ≡ posted_by lists k)
