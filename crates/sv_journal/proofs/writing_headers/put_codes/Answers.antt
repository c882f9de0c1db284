use Rattle.std.specs.Prelude.{string_bytes}
use Rattle.sv_journal.proofs.Commas.{codes_written}
use Rattle.sv_journal.proofs.writing_headers.put_codes.Goals as goal

pub returns : goal.returns
returns c =
    codes_written c.put_others.result (string_bytes c.args.line.now) (string_bytes c.put_number.new.line) (string_bytes c.put_others.new.line) c.args.codes.now c.from.result
    c.in-len1-up.len_at_least c.from.ensures c.in_ok-put_number.ensures c.put_others.ensures
