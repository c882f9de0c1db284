use Rattle.std.proofs.Common.{◌≡◌, ◌++◌, List, ℕ, take}
use Rattle.sv_http.specs.ReaderPlaces.{IsSearched}
use Rattle.sv_http.proofs.line.look.Given as goal

abbrev pub invariant-loop-byte : goal.invariant-loop-byte
invariant-loop-byte l = record {
  count : l.count ≡ l.byte-index;
  searched : (earlier : List ℕ) → IsSearched earlier l.fn.line → IsSearched (earlier ++ take l.byte-index l.bytes) l.at;
}
