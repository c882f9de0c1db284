use Rattle.std.proofs.Common.{[], ◌++◌, refl, arith, codes}
use Rattle.sv_xmlcall.specs.Beginnings.{BeginsCall}
use Rattle.sv_xmlcall.specs.Machine.{the_limits, OfCall}
use Rattle.sv_xmlcall.specs.Called.{called, replied}
use Rattle.sv_xmlcall.specs.Written.{opening, closing}
use Rattle.sv_xmlcall.specs.WorkedTexts.{plain_call, declared_call, call_without_params, version_call}
use Rattle.sv_xmlcall.proofs.CallsBack.{call_back}
use Rattle.sv_xmlcall.proofs.JudgedLaws.{is_longest, call_goes}
use Rattle.sv_xmlcall.proofs.laws.worked_texts.Goals as goal

pub returns-clause-plain : goal.returns-clause-plain
returns-clause-plain c = call_back the_limits plain_call version_call (omega arith) refl

pub returns-clause-declared : goal.returns-clause-declared
returns-clause-declared c = call_back the_limits declared_call version_call (omega arith) refl

pub returns-clause-without : goal.returns-clause-without
returns-clause-without c = call_back the_limits call_without_params version_call (omega arith) refl

pub returns-clause-good : goal.returns-clause-good
returns-clause-good c =
    is_longest the_limits OfCall BeginsCall (plain_call ++ codes " x") (plain_call ++ codes " ") (codes "x") (call_goes the_limits) refl
    (record { rest = []; call = version_call; spells = call_back the_limits (plain_call ++ codes " ") version_call (omega arith) refl }) refl

pub returns-clause-written : goal.returns-clause-written
unfolding opening closing
returns-clause-written c = refl

pub returns-clause-is_call : goal.returns-clause-is_call
unfolding called
returns-clause-is_call c = refl

pub returns-clause-is_none : goal.returns-clause-is_none
unfolding called
returns-clause-is_none c = refl

pub returns-clause-is_reply : goal.returns-clause-is_reply
unfolding replied
returns-clause-is_reply c = refl
