use Rattle.std.proofs.Common.{◌∙◌, sym, ap, arith}
use Rattle.std.specs.Prelude.{option_copied}
use Rattle.httparse.specs.Borrowed.{HoldsSomeRequest}
use Rattle.sv_http.proofs.Rulings.{completed, short_head, many_fields, fields_count, whole_head}
use Rattle.sv_http.proofs.head.judge.Goals as goal
use Rattle.sv_http.proofs.head.judge.Goals.{then-length-head-via-then-length-head, then-length-head-via-else-length-head+then-fields-gt-FIELD_LIMIT}

pub returns-then-length-head : goal.returns-then-length-head
returns-then-length-head c =
    let some : HoldsSomeRequest c.args.head.now c.parse.new.self c.in-Ok-Complete.length
    = completed (HoldsSomeRequest c.args.head.now c.parse.new.self) c.in-Ok-Complete.field-0 c.in-Ok-Complete.length c.in-Ok-Complete.field-0-is c.in-Ok-Complete.ensures.complete in
    elim c.then-length-head.branch [
      | then-length-head-via-then-length-head w ↦ short_head c.args.guard.now c.args.head.now c.in-Ok-Complete.length some.0 some.1.reads some.1.len_is w.if-length-head.true
      | then-length-head-via-else-length-head+then-fields-gt-FIELD_LIMIT w ↦ many_fields c.args.guard.now c.args.head.now _ some.0 some.1.reads
          (omega (arith, w.if-fields-gt-FIELD_LIMIT.true, fields_count c.parse.new.self.headers.now some.0 some.1.fields))
    ]

pub returns : goal.returns
returns c =
    let some : HoldsSomeRequest c.args.head.now c.parse.new.self c.in-Ok-Complete.length
    = completed (HoldsSomeRequest c.args.head.now c.parse.new.self) c.in-Ok-Complete.field-0 c.in-Ok-Complete.length c.in-Ok-Complete.field-0-is c.in-Ok-Complete.ensures.complete in
    whole_head c.args.guard.now c.args.head.now c.in-Some-Some-Some.method.now c.in-Some-Some-Some.target.now c.in-Ok-Complete.length
    c.in-Some-Some-Some.minor c.parse.new.self.headers.now some.0 c.rule.result some.1.reads c.if-length-head.false some.1.fields
    c.if-fields-gt-FIELD_LIMIT.false (sym (ap option_copied c.in-Some-Some-Some.is-0) ∙ some.1.method)
    (sym (ap option_copied c.in-Some-Some-Some.is-1) ∙ some.1.path) (sym c.in-Some-Some-Some.is-2 ∙ some.1.version) c.rule.ensures
