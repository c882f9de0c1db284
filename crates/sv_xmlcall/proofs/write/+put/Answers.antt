use Rattle.std.proofs.Common.{◌++◌, List, ℕ, codes, ap, ◌∙◌}
use Rattle.sv_xmlcall.specs.Trees.{view}
use Rattle.sv_xmlcall.specs.Written.{escaped, opening, closing, written_form}
use Rattle.sv_xmlcall.proofs.WriteLaws.{written_between, written_member}
use Rattle.sv_xmlcall.proofs.write.+put.Goals as goal

pub put_member-returns : goal.put_member-returns
put_member-returns t c =
    written_member c.args.out.now.items c.extend_from_slice-3.new.self.items c.extend_from_slice.new.self.items c.put_text.new.out.items c.extend_from_slice-2.new.self.items c.put_form.new.out.items
    (escaped c.args.name.now) (written_form (view c.args.value.now)) c.in_ok-extend_from_slice.ensures.items
    (c.in_ok-put_text.ensures ∙ ap (λ (x : List ℕ). c.extend_from_slice.new.self.items ++ escaped x) c.as_str.ensures) c.in_ok-extend_from_slice-2.ensures.items c.in_ok-put_form.ensures
    c.in_ok-extend_from_slice-3.ensures.items

pub put_value-returns : goal.put_value-returns
unfolding opening closing
put_value-returns t c =
    written_between c.args.out.now.items c.extend_from_slice-2.new.self.items c.extend_from_slice.new.self.items c.put_form.new.out.items (codes "<value>") (written_form (view c.args.value.now)) (codes "</value>")
    c.in_ok-extend_from_slice.ensures.items c.in_ok-put_form.ensures c.in_ok-extend_from_slice-2.ensures.items
