-- The first of some parts, and the others, as plain data.
use Rattle.std.proofs.Common.{◌≡◌, List, drop, map, slice_get}
use Rattle.std.proofs.lemmas.List.{drop-map}
use Rattle.std.proofs.lemmas.Option.{slice_get-map}
use Rattle.std.specs.Option.{option_map}
use Rattle.sv_multi.specs.Views.{part_view}
use Rattle.sv_multi.specs.declared.part.Part.{Part}

pub first_part : (parts : List Part) → slice_get (map part_view parts) 0 ≡ option_map part_view (slice_get parts 0)
first_part parts = slice_get-map part_view parts 0

pub other_parts : (parts : List Part) → drop 1 (map part_view parts) ≡ map part_view (drop 1 parts)
other_parts parts = drop-map part_view 1 parts
