use Rattle.std.proofs.Common.{◌∙◌, ◌||◌, ap, sym}
use Rattle.std.specs.HashSet.{contains_text}
use Rattle.std.specs.Str.{bytes_eq}
use Rattle.sv_base.specs.declared.spec.Spec.{Spec}
use Rattle.sv_conf.proofs.Repeats.{seen_more, found, goes_on}
use Rattle.sv_sections.proofs.Folds.{count_more, dropped_more, parted}
use Rattle.sv_conf.proofs.duplicates.first_of_many.Goals as goal

pub returns-then-contains : goal.returns-then-contains
returns-then-contains c =
    found c.args.members.now c.loop-left.left.now c.loop-left.place c.member-item.result c.in-len1-up.len_at_least c.member-item.is c.loop-left.invariant.same
    (sym (c.loop-left.invariant.seen c.member-item.result.name) ∙ ap (λ name. contains_text c.loop-left.names name) (sym c.as_str-name.ensures) ∙ sym c.contains.ensures ∙ c.if-contains.true)

pub loop-left-preserved : goal.loop-left-preserved
loop-left-preserved c =
    let there = sym (parted c.loop-left.left.now c.member-item.result c.in-len1-up.len_at_least c.member-item.is) ∙ c.loop-left.invariant.rest in
    record {
      same = goes_on c.args.members.now c.loop-left.left.now c.loop-left.place c.member-item.result c.in-len1-up.len_at_least c.member-item.is c.loop-left.invariant.rest
          c.loop-left.invariant.same (sym (c.loop-left.invariant.seen c.member-item.result.name)
          ∙ ap (λ name. contains_text c.loop-left.names name) (sym c.as_str-name.ensures) ∙ sym c.contains.ensures ∙ c.if-contains.false);
      seen = seen_more (λ (m : Spec). m.name) c.args.members.now c.loop-left.place c.member-item.result _ (contains_text c.loop-left.names) (contains_text c.add_name.new.names) there
          c.loop-left.invariant.seen
          (λ other. c.in_ok-add_name.ensures other ∙ ap (λ name. bytes_eq name other || contains_text c.loop-left.names other) c.as_str-name.ensures);
      rest = dropped_more c.args.members.now c.loop-left.place c.member-item.result _ there;
      few = count_more c.args.members.now c.loop-left.left.now c.loop-left.place c.in-len1-up.len_at_least c.loop-left.invariant.few;
    }
