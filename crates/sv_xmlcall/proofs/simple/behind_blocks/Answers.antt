use Rattle.std.proofs.Common.{◌≡◌, true, take, sym, ap, ◌∙◌, arith}
use Rattle.std.specs.List.{list_all}
use Rattle.sv_xmlcall.specs.Simple.{is_simple, behind_run}
use Rattle.sv_xmlcall.proofs.SimpleLaws.{behind_block}
use Rattle.sv_xmlcall.proofs.simple.behind_blocks.Goals as goal

pub loop-rest-preserved : goal.loop-rest-preserved
loop-rest-preserved c =
    let rest = c.loop-rest.rest.now in
    let all : list_all is_simple (take c.args.size rest) ≡ true = ap (list_all is_simple) (sym c.split_at.ensures.front) ∙ sym c.are_simple.ensures ∙ c.if-not-are_simple.false in
    record {
      read = ap behind_run c.split_at.ensures.back ∙ behind_block c.args.size rest all ∙ c.loop-rest.invariant.read;
      shorter = omega (arith, c.split_at.ensures.back_len, c.loop-rest.invariant.shorter);
    }
