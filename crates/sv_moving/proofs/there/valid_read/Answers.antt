use Rattle.std.proofs.Common.{◌≡◌, List, subst, sym}
use Rattle.std.specs.Prelude.{Result, Ok, IfOk, IfErr}
use Rattle.sv_moving.specs.declared.refusal.Refusal.{Refusal}
use Rattle.sv_moving.specs.declared.sections.Section.{Section}
use Rattle.sv_moving.specs.There.{IsRefusal}
use Rattle.sv_moving.proofs.Texts.{valid_text}
use Rattle.sv_moving.proofs.there.valid_read.Goals as goal

pub returns-clause-read : goal.returns-clause-read
returns-clause-read c =
    subst (λ (r : Result (List Section) Refusal). IfOk c.end.result (λ next. r ≡ Ok next))
    (sym (valid_text c.args.number c.args.text.now c.args.sections c.begin-reader.result c.read_text.new.reader c.utf8.text
    c.begin-reader.ensures c.in_ok-read_text.ensures)) c.end.ensures.read

pub returns-clause-refusal : goal.returns-clause-refusal
returns-clause-refusal c =
    subst (λ (r : Result (List Section) Refusal). IfErr c.end.result (λ refusal. IsRefusal refusal r))
    (sym (valid_text c.args.number c.args.text.now c.args.sections c.begin-reader.result c.read_text.new.reader c.utf8.text
    c.begin-reader.ensures c.in_ok-read_text.ensures)) c.end.ensures.refusal
