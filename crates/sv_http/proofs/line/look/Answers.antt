use Rattle.std.proofs.Common.{◌+◌, ◌++◌, ℕ, take, sym, ap, subst}
use Rattle.sv_http.specs.ReaderPlaces.{IsSearched, IsFound}
use Rattle.sv_http.proofs.Heads.{looked_more}
use Rattle.sv_http.proofs.line.look.Goals as goal

pub returns-in-None-clause-searched : goal.returns-in-None-clause-searched
returns-in-None-clause-searched c = λ earlier searched.
    subst (λ (count : ℕ). IsFound (earlier ++ take (count + 1) c.args.bytes.now)) (sym c.loop-byte.invariant.count)
    (looked_more c.args.bytes.now c.loop-byte.byte-index c.args.line c.loop-byte.at _ c.loop-byte-test.true
    (c.in-None.ensures) c.loop-byte.invariant.searched earlier searched)

pub loop-byte-preserved : goal.loop-byte-preserved
loop-byte-preserved c = record {
  count = ap (λ count. count + 1) c.loop-byte.invariant.count;
  searched = looked_more c.args.bytes.now c.loop-byte.byte-index c.args.line c.loop-byte.at _ c.loop-byte-test.true
      (c.in-Some.ensures) c.loop-byte.invariant.searched;
}

pub returns-clause-searched : goal.returns-clause-searched
returns-clause-searched c = λ earlier searched.
    subst (λ (count : ℕ). IsSearched (earlier ++ take count c.args.bytes.now) c.loop-byte.at) (sym c.loop-byte.invariant.count)
    (c.loop-byte.invariant.searched earlier searched)
