use Rattle.sv_ini.proofs.LineCuts.{sections_from, fault_from}
use Rattle.sv_ini.proofs.sections.sections_of_text.Goals as goal

pub returns-in_ok-into_sections-in-Ok-clause-read : goal.returns-in_ok-into_sections-in-Ok-clause-read
returns-in_ok-into_sections-in-Ok-clause-read c =
    sections_from c.args.text.now c.in-Ok.reading c.in_ok-into_sections-in-Ok.field-0.items c.requires c.utf8.text
    c.in-Ok.ensures.read c.in_ok-into_sections-in-Ok.ensures

pub returns-in-Err-clause-fault : goal.returns-in-Err-clause-fault
returns-in-Err-clause-fault c = fault_from c.in-Err.fault c.args.text.now c.requires c.utf8.text c.in-Err.ensures.fault
