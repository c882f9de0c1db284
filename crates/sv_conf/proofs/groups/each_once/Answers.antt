use Rattle.std.proofs.Common.{◌∙◌, ◌||◌, ℕ, List, [], Err, ap, sym}
use Rattle.std.specs.HashSet.{contains_text}
use Rattle.std.specs.Str.{bytes_eq}
use Rattle.sv_base.specs.declared.spec.GroupSpec.{GroupSpec}
use Rattle.sv_base.specs.declared.spec.Spec.{Spec}
use Rattle.sv_conf.proofs.EachOnce.{named_twice, process_twice, goes_on}
use Rattle.sv_conf.proofs.Repeats.{seen_more}
use Rattle.sv_sections.proofs.Folds.{count_more, dropped_more, parted}
use Rattle.sv_conf.specs.Duplicates.{first_twice}
use Rattle.sv_sections.specs.declared.fault.ConfFault.TheVariants.{TwiceNamed}
use Rattle.sv_conf.proofs.groups.each_once.Goals as goal

pub returns-then-contains-clause-fault : goal.returns-then-contains-clause-fault
returns-then-contains-clause-fault c =
    named_twice c.args.groups.now c.loop-left.left.now c.loop-left.place c.group-item.result c.in-len1-up.len_at_least c.group-item.is c.loop-left.invariant.same
    (sym (c.loop-left.invariant.seen c.group-item.result.name)
    ∙ ap (λ name. contains_text c.loop-left.names name) (sym c.as_str-name.ensures) ∙ sym c.contains.ensures ∙ c.if-contains.true)
    ∙ ap (λ (name : List ℕ). Err (TwiceNamed name)) (sym c.in_ok-clone.ensures.cases)

pub returns-in-Some-clause-fault : goal.returns-in-Some-clause-fault
returns-in-Some-clause-fault c =
    process_twice c.args.groups.now c.loop-left.left.now c.loop-left.place c.group-item.result c.in-len1-up.len_at_least c.group-item.is c.loop-left.invariant.same c.in-Some.name.now
    (sym (c.loop-left.invariant.seen c.group-item.result.name)
    ∙ ap (λ name. contains_text c.loop-left.names name) (sym c.as_str-name.ensures) ∙ sym c.contains.ensures ∙ c.if-contains.false)
    (ap (λ (members : List Spec). first_twice [] members) (sym c.as_slice.ensures) ∙ sym (rw c.in-Some.is at c.in_ok-name.ensures))
    ∙ ap (λ (name : List ℕ). Err (TwiceNamed name)) (sym c.in_ok-clone-2.ensures.cases)

pub loop-left-preserved : goal.loop-left-preserved
loop-left-preserved c =
    let there = sym (parted c.loop-left.left.now c.group-item.result c.in-len1-up.len_at_least c.group-item.is) ∙ c.loop-left.invariant.rest in
    record {
      same = goes_on c.args.groups.now c.loop-left.left.now c.loop-left.place c.group-item.result c.in-len1-up.len_at_least c.group-item.is c.loop-left.invariant.same c.loop-left.invariant.rest
          (sym (c.loop-left.invariant.seen c.group-item.result.name)
          ∙ ap (λ name. contains_text c.loop-left.names name) (sym c.as_str-name.ensures) ∙ sym c.contains.ensures ∙ c.if-contains.false)
          (ap (λ (members : List Spec). first_twice [] members) (sym c.as_slice.ensures) ∙ sym (rw c.in_default-2.is at c.in_ok-name.ensures));
      seen = seen_more (λ (g : GroupSpec). g.name) c.args.groups.now c.loop-left.place c.group-item.result _ (contains_text c.loop-left.names) (contains_text c.add_name.new.names) there
          c.loop-left.invariant.seen
          (λ other. c.in_ok-add_name.ensures other ∙ ap (λ name. bytes_eq name other || contains_text c.loop-left.names other) c.as_str-name.ensures);
      rest = dropped_more c.args.groups.now c.loop-left.place c.group-item.result _ there;
      few = count_more c.args.groups.now c.loop-left.left.now c.loop-left.place c.in-len1-up.len_at_least c.loop-left.invariant.few;
    }
