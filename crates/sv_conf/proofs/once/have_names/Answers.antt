use Rattle.std.proofs.Common.{◌∙◌, ◌||◌, ◌+◌, ◌-◌, ℕ, false, ap, sym, arith}
use Rattle.std.specs.HashSet.{contains_text}
use Rattle.std.specs.Result.{result_ok}
use Rattle.std.specs.Str.{bytes_eq}
use Rattle.sv_conf.proofs.OneName.{none_named, named_twice, named_once}
use Rattle.sv_conf.specs.Once.{have_names}
use Rattle.sv_expand.specs.declared.names.Names.{Names}
use Rattle.sv_keys.specs.KnownNames.{with_process}
use Rattle.sv_keys.specs.ProgramNames.{name_of}
use Rattle.sv_keys.specs.Rows.{row}
use Rattle.sv_keys.specs.declared.key.Key.TheVariants.{ProcessName}
use Rattle.sv_conf.proofs.once.have_names.Goals as goal

pub returns-in_default : goal.returns-in_default
returns-in_default c =
    sym (none_named c.args.program.now c.args.keys.now c.loop-left.known c.args.count (λ name. contains_text c.loop-left.seen name) c.loop-left.process c.loop-left.left
    (omega (arith, c.loop-left-test.true))
    (sym c.in_default.is ∙ c.in_ok-name.ensures ∙ ap (λ (n : Names). result_ok (row ProcessName name_of c.args.program.now c.args.keys.now n))
    (c.in_ok-names.ensures ∙ ap (λ (n : ℕ). with_process c.loop-left.known n c.loop-left.process) c.get.ensures.value)))
    ∙ c.loop-left.invariant.same
    ∙ ap (λ (first : ℕ). have_names c.args.program.now c.args.keys.now c.args.pairs c.args.count (λ _. false) first c.get-left.result) c.get-process.ensures.value
    ∙ ap (λ (left : ℕ). have_names c.args.program.now c.args.keys.now c.args.pairs c.args.count (λ _. false) c.args.start left) c.get-left.ensures.value

pub returns-then-contains : goal.returns-then-contains
returns-then-contains c =
    sym (named_twice c.args.program.now c.args.keys.now c.loop-left.known c.args.count (λ name. contains_text c.loop-left.seen name) c.loop-left.process c.loop-left.left
    c.in-Some.name (omega (arith, c.loop-left-test.true))
    (sym c.in-Some.is ∙ c.in_ok-name.ensures ∙ ap (λ (n : Names). result_ok (row ProcessName name_of c.args.program.now c.args.keys.now n))
    (c.in_ok-names.ensures ∙ ap (λ (n : ℕ). with_process c.loop-left.known n c.loop-left.process) c.get.ensures.value))
    (ap (λ name. contains_text c.loop-left.seen name) (sym c.as_str.ensures) ∙ sym c.contains.ensures ∙ c.if-contains.true))
    ∙ c.loop-left.invariant.same
    ∙ ap (λ (first : ℕ). have_names c.args.program.now c.args.keys.now c.args.pairs c.args.count (λ _. false) first c.get-left.result) c.get-process.ensures.value
    ∙ ap (λ (left : ℕ). have_names c.args.program.now c.args.keys.now c.args.pairs c.args.count (λ _. false) c.args.start left) c.get-left.ensures.value

pub loop-left-preserved : goal.loop-left-preserved
loop-left-preserved c = record {
  same = ap (λ (names : Names). have_names c.args.program.now c.args.keys.now names.pairs c.args.count (λ name. contains_text c.add_name.new.names name) (c.loop-left.process + 1) (c.loop-left.left - 1))
      c.in_ok-names.ensures
      ∙ named_once c.args.program.now c.args.keys.now c.loop-left.known c.args.count (λ name. contains_text c.loop-left.seen name) c.loop-left.process c.loop-left.left
      c.in-Some.name (λ name. contains_text c.add_name.new.names name) (omega (arith, c.loop-left-test.true))
      (sym c.in-Some.is ∙ c.in_ok-name.ensures ∙ ap (λ (n : Names). result_ok (row ProcessName name_of c.args.program.now c.args.keys.now n))
      (c.in_ok-names.ensures ∙ ap (λ (n : ℕ). with_process c.loop-left.known n c.loop-left.process) c.get.ensures.value))
      (ap (λ name. contains_text c.loop-left.seen name) (sym c.as_str.ensures) ∙ sym c.contains.ensures ∙ c.if-contains.false)
      (λ other. c.in_ok-add_name.ensures other ∙ ap (λ name. bytes_eq name other || contains_text c.loop-left.seen other) c.as_str-in-loop-left.ensures)
      ∙ c.loop-left.invariant.same;
  few = omega (arith, c.loop-left.invariant.few, c.loop-left-test.true);
}
