-- Which orders can still be named as failed, from one input to the next.
use Rattle.std.proofs.Common.{◌≡◌, ℕ, List, [], ◌∷◌, ◌++◌, Option, Some, None, Bool, true, false, ◌&&◌, length, drop, refl, sym, ap, ◌∙◌, ◌+◌, ◌-◌, ◌≤◌, ◌%◌, ◌^◌, arith}
use Rattle.std.specs.Prelude.{map, nat_lt}
use Rattle.std.proofs.Math.Nat.{mod-add-mod}
use Rattle.std.proofs.Math.Seq.{drop-append_seam}
use Rattle.std.proofs.lemmas.List.{drop-append-le, length-append, length-drop, length-map, map-append}
use Rattle.sv_core.specs.Failure.{failure_of}
use Rattle.sv_core.specs.StandsFor.{Names, is_above}
use Rattle.sv_core.specs.declared.numbers.Numbers.{Numbers}
use Rattle.sv_out.specs.declared.order.Order.{Order}

-- an input that isn't a failed order: only its own orders can be named after it
pub names_fresh : (x y : Numbers) (since : ℕ) (named : List ℕ) (behind : ℕ) (older given : List Order)
    → Names x since named older
    → behind ≡ length older
    → y.first ≡ (x.first + length x.failures.items) % 2 ^ 64
    → y.failures.items ≡ map failure_of given
    → y.last ≡ None
    → Names y behind [] (older ++ given)
names_fresh x y since named behind older given names is first failures last =
    let size : length x.failures.items ≡ length older - since =
    ap length names.failures ∙ length-map (drop since older) failure_of ∙ length-drop since older in
    let within : since ≤ length older = names.within in
    let all : since + (length older - since) ≡ length older = omega (arith, within) in
    let added : length (older ++ given) ≡ length older + length given = length-append older given in
    record {
      within = omega (arith, is, added);
      first = rw (is, first, names.first, size) (mod-add-mod since (2 ^ 64) (length older - since) ∙ ap (λ n. n % 2 ^ 64) all);
      failures = failures ∙ rw is (ap (map failure_of) (sym (drop-append_seam older given)));
      above = λ number. rw last refl;
    }

lower : (last number other : ℕ) → nat_lt last number ≡ true → (nat_lt number other && nat_lt last other) ≡ nat_lt number other
lower last number other is = grind arith

still_above : (last : Option ℕ) (number other : ℕ) → is_above last number ≡ true → (nat_lt number other && is_above last other) ≡ nat_lt number other
still_above None number other is = with_true (nat_lt number other) where
  with_true : (b : Bool) → (b && true) ≡ b
  with_true true = refl
  with_true false = refl
still_above (Some last) number other is = lower last number other is

-- a failed order: only what is above it can be named after it
pub names_failed : (x y : Numbers) (since : ℕ) (named : List ℕ) (number : ℕ) (older given : List Order)
    → Names x since named older
    → is_above x.last number ≡ true
    → y.first ≡ x.first
    → y.failures.items ≡ x.failures.items ++ map failure_of given
    → y.last ≡ Some number
    → Names y since (number ∷ named) (older ++ given)
names_failed x y since named number older given names is first failures last =
    let within : since ≤ length older = names.within in
    let added : length (older ++ given) ≡ length older + length given = length-append older given in
    record {
      within = omega (arith, within, added);
      first = first ∙ names.first;
      failures = rw (failures, names.failures, drop-append-le since older given within) (sym (map-append failure_of (drop since older) given));
      above = λ other. rw (last, names.above other) (still_above x.last number other is);
    }
