use Rattle.std.proofs.Common.{◌≡◌, Some, None, List, rules, ap, sym, ◌∙◌, slice_get, drop, ◌+◌}
use Rattle.sv_base.specs.declared.ids.LinkId.{LinkId}
use Rattle.sv_core.proofs.Left.{asking_of_none, serving_none, serving_some, stays_at, went_on}
use Rattle.sv_core.proofs.Served.{all_done, all_next}
use Rattle.sv_core.proofs.Shown.{at_same}
use Rattle.sv_core.specs.Left.{asking_of, serving}
use Rattle.sv_core.specs.Serving.{serves_all}
use Rattle.sv_core.specs.World.{World}
use Rattle.sv_core.specs.declared.place.Serving.{Serving}
use Rattle.sv_links.specs.LinkBook.{left_at}
use Rattle.sv_core.proofs.machine.Machine.serve_all.Goals as goal

pub loop-link-preserved : goal.loop-link-preserved
loop-link-preserved c = record {
  kept = search rules;
  goes = λ older w k s.
      let at = c.loop-link.invariant.goes older w k s in
      let link = c.in-Some.link in
      let next = c.loop-link.next in
      let links = c.args.links.items in
      let is : slice_get links next ≡ Some link =
      ap (λ (ls : List LinkId). slice_get ls next) (sym c.as_slice.ensures.value) ∙ sym c.link_at.ensures ∙ c.in-Some.is in
      let count : c.left-left.result ≡ left_at link at.world.links =
      c.left-left.ensures at.shows.links at.shows.links_kept ∙ sym (ap (λ (v : World). left_at link v.links) at.shows.is) in
      went_on (asking_of link) (asking_of_none link) c.serve_from.new.self older _ _ (λ v. serves_all (drop (next + 1) links) v k) c.in-None.is
      (at_same c.serve_from.new.self older _ _ _ (at.is ∙ all_next links next link c.left-left.result at.world k is count)
      (c.in_ok-serve_from.ensures.serves older at.world (λ v. serves_all (drop (next + 1) links) v k) at.shows));
}

pub returns-in-Some-2-clause-serves : goal.returns-in-Some-2-clause-serves
returns-in-Some-2-clause-serves c = λ older w k s.
    let at = c.loop-link.invariant.goes older w k s in
    let link = c.in-Some.link in
    let next = c.loop-link.next in
    let links = c.args.links.items in
    let is : slice_get links next ≡ Some link =
    ap (λ (ls : List LinkId). slice_get ls next) (sym c.as_slice.ensures.value) ∙ sym c.link_at.ensures ∙ c.in-Some.is in
    let count : c.left-left.result ≡ left_at link at.world.links =
    c.left-left.ensures at.shows.links at.shows.links_kept ∙ sym (ap (λ (v : World). left_at link v.links) at.shows.is) in
    let p : Serving = record { links = c.args.links; next = next + 1; link = link; asking = c.in-Some-2.asking } in
    stays_at (asking_of link) c.serve_from.new.self older _ _ c.in-Some-2.asking (λ v. serves_all (drop (next + 1) links) v k) (serving (Some p) k)
    (λ v. sym (serving_some p k v)) c.in-Some-2.is
    (at_same c.serve_from.new.self older _ _ _ (at.is ∙ all_next links next link c.left-left.result at.world k is count)
    (c.in_ok-serve_from.ensures.serves older at.world (λ v. serves_all (drop (next + 1) links) v k) at.shows))

pub returns-clause-serves : goal.returns-clause-serves
returns-clause-serves c = λ older w k s.
    let at = c.loop-link.invariant.goes older w k s in
    let next = c.loop-link.next in
    let links = c.args.links.items in
    let none : slice_get links next ≡ None =
    ap (λ (ls : List LinkId). slice_get ls next) (sym c.as_slice.ensures.value) ∙ sym c.link_at.ensures ∙ c.in_default.is in
    record { world = at.world; shows = at.shows; is = at.is ∙ all_done links next at.world k none ∙ sym (serving_none k at.world) }
