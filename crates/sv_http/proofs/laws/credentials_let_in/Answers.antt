use Rattle.sv_http.proofs.Credentials.{is_basic, are_credentials, let_in}
use Rattle.sv_http.proofs.laws.credentials_let_in.Goals as goal

pub returns-clause-basic : goal.returns-clause-basic
returns-clause-basic c guard value opened = is_basic guard value opened

pub returns-clause-only : goal.returns-clause-only
returns-clause-only c guard text bytes opened = are_credentials guard text bytes opened

pub returns-clause-every : goal.returns-clause-every
returns-clause-every c guard given bytes is = let_in guard given bytes is
