use Rattle.sv_journal.proofs.writing_headers.put_header.Goals as goal

pub returns-in-Journal : goal.returns-in-Journal
returns-in-Journal c = rw (c.in-Journal.is, ← c.get.ensures.value, ← c.from.ensures) c.put_counted.ensures
