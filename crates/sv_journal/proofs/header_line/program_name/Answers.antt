use Rattle.sv_journal.proofs.Names.{name_read}
use Rattle.sv_journal.proofs.header_line.program_name.Goals as goal

pub unwrap-requires : goal.unwrap-requires
unwrap-requires c = c.new.ensures.valid.1 (name_read c.args.bytes.now c.in-Ok.name c.in-Ok.rest.now c.in-Ok.ensures)
