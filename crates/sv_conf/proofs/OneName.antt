-- One process more: its name ends the search, or its name is its own.
use Rattle.std.proofs.Common.{◌≡◌, ◌+◌, ◌-◌, ◌<◌, ℕ, zero, suc, List, Bool, true, false, ◌||◌, refl, sym, arith}
use Rattle.std.proofs.Math.Path.{fun_ext}
use Rattle.std.specs.Prelude.{Some, None, Result, Ok, Err}
use Rattle.std.specs.Result.{result_ok}
use Rattle.std.specs.Str.{bytes_eq}
use Rattle.sv_conf.specs.Once.{with_name, then_new, have_names}
use Rattle.sv_keys.specs.KeyTable.{Keys}
use Rattle.sv_keys.specs.KnownNames.{with_process}
use Rattle.sv_keys.specs.ProgramNames.{name_of}
use Rattle.sv_keys.specs.Rows.{row}
use Rattle.sv_keys.specs.declared.judged.KeyFault.{KeyFault}
use Rattle.sv_keys.specs.declared.key.Key.TheVariants.{ProcessName}

unnamed : (named : Result (List ℕ) KeyFault) (has : List ℕ → Bool) (more : (List ℕ → Bool) → Bool) → None ≡ result_ok named → then_new named has more ≡ false
unnamed (Ok name) has more e = cc
unnamed (Err fault) has more e = refl

twice : (named : Result (List ℕ) KeyFault) (name : List ℕ) (has : List ℕ → Bool) (more : (List ℕ → Bool) → Bool) → Some name ≡ result_ok named → has name ≡ true
    → then_new named has more ≡ false
twice (Ok other) name has more e there = rw (same other name e, there) refl
  where
    same : (other name : List ℕ) → Some name ≡ Some other → other ≡ name
    same other name e = cc
twice (Err fault) name has more e there = cc

new_name : (named : Result (List ℕ) KeyFault) (name : List ℕ) (has : List ℕ → Bool) (more : (List ℕ → Bool) → Bool) → Some name ≡ result_ok named → has name ≡ false
    → then_new named has more ≡ more (with_name has name)
new_name (Ok other) name has more e there = rw (same other name e, there) refl
  where
    same : (other name : List ℕ) → Some name ≡ Some other → other ≡ name
    same other name e = cc
new_name (Err fault) name has more e there = cc

module _ (program : List ℕ) (keys pairs : Keys) (count : ℕ) (has : List ℕ → Bool) (process : ℕ) where
  abbrev named_at : Result (List ℕ) KeyFault
  named_at = row ProcessName name_of program keys (with_process pairs count process)

  pub none_named : (left : ℕ) → 0 < left → None ≡ result_ok (row ProcessName name_of program keys (with_process pairs count process)) → have_names program keys pairs count has process left ≡ false
  none_named zero some e = absurd (omega (arith, some))
  none_named (suc left) some e = unnamed named_at has (λ now. have_names program keys pairs count now (process + 1) left) e

  pub named_twice : (left : ℕ) (name : List ℕ) → 0 < left → Some name ≡ result_ok (row ProcessName name_of program keys (with_process pairs count process)) → has name ≡ true
      → have_names program keys pairs count has process left ≡ false
  named_twice zero name some e there = absurd (omega (arith, some))
  named_twice (suc left) name some e there = twice named_at name has (λ now. have_names program keys pairs count now (process + 1) left) e there

  pub named_once : (left : ℕ) (name : List ℕ) (now : List ℕ → Bool) → 0 < left → Some name ≡ result_ok (row ProcessName name_of program keys (with_process pairs count process)) → has name ≡ false
      → ((other : List ℕ) → now other ≡ (bytes_eq name other || has other))
      → have_names program keys pairs count now (process + 1) (left - 1) ≡ have_names program keys pairs count has process left
  named_once zero name now some e there adds = absurd (omega (arith, some))
  named_once (suc left) name now some e there adds =
      let all : now ≡ with_name has name = fun_ext adds in
      let less : suc left - 1 ≡ left = omega arith in
      rw (less, all) (sym (new_name named_at name has (λ now. have_names program keys pairs count now (process + 1) left) e there))
