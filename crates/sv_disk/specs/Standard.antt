-- The names of the daemon's own streams.
use Rattle.std.specs.Prelude.{ℕ, List, Option, None, Some, codes, ◌||◌, if◌then◌else◌, Bool}
use Rattle.std.specs.Str.{bytes_eq}
use Rattle.sv_disk.specs.declared.standard.Standard.{Standard}
use Rattle.sv_disk.specs.declared.standard.Standard.TheVariants.{Out, Err}

-- the names of standard output
abbrev pub is_out : List ℕ → Bool
is_out name =
    bytes_eq name (codes "/dev/stdout")
    || bytes_eq name (codes "/dev/fd/1")
    || bytes_eq name (codes "/proc/self/fd/1")

-- the names of standard error
abbrev pub is_err : List ℕ → Bool
is_err name =
    bytes_eq name (codes "/dev/stderr")
    || bytes_eq name (codes "/dev/fd/2")
    || bytes_eq name (codes "/proc/self/fd/2")

-- the stream that has this name for every process
abbrev pub standard_named : List ℕ → Option Standard
standard_named name = if is_out name then Some Out else if is_err name then Some Err else None

-- the stream that has this name in the folder of its process
abbrev pub descriptor_named : List ℕ → Option Standard
descriptor_named name =
    if bytes_eq name (codes "fd/1") then Some Out
    else if bytes_eq name (codes "fd/2") then Some Err
    else None
