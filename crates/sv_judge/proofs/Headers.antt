-- A line of a header has no place after `go`.
use Rattle.std.proofs.Common.{◌≡◌, refl}
use Rattle.sv_core.specs.MachineState.{Model}
use Rattle.sv_journal.specs.declared.header.Header.{Header}
use Rattle.sv_journal.specs.declared.header.Header.TheVariants as header_is
use Rattle.sv_judge.specs.JournalPlaces.{heads}
use Rattle.sv_judge.specs.JournalPlaces.Stage.{Running}
use Rattle.sv_judge.specs.JournalPlaces.Verdict.{BadLine}

pub no_header_behind_go : (m : Model) (header : Header) → heads (Running m) header ≡ BadLine
no_header_behind_go m (header_is.Journal version) = refl
no_header_behind_go m (header_is.Program program) = refl
no_header_behind_go m (header_is.Host name) = refl
no_header_behind_go m (header_is.Here here) = refl
no_header_behind_go m (header_is.Pid pid) = refl
no_header_behind_go m (header_is.Env name value) = refl
no_header_behind_go m (header_is.Size file size) = refl
no_header_behind_go m (header_is.Conf text) = refl
no_header_behind_go m (header_is.Include name more) = refl
no_header_behind_go m (header_is.Go start) = refl
