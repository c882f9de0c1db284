use Rattle.sv_methods.proofs.rows.text_row.Goals as goal

pub returns-in-MethodSignature : goal.returns-in-MethodSignature
returns-in-MethodSignature c = rw c.in-MethodSignature.is c.signature_named.ensures
