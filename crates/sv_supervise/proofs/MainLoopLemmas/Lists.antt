-- What is told before and after two calls, one after the other.
use Rattle.std.proofs.Common.{◌≡◌, ℕ, List, [], ◌∷◌, ◌++◌, Option, None, Some, Result, Ok, Err, OnErr, refl, sym, ap, ◌∙◌, subst, append_assoc, append-nil}
use Rattle.std.specs.Prelude.{option_map}
use Rattle.std.specs.Io.KnownBytes.{Appends}
use Rattle.std.proofs.KnownBytes.{Appends-trans}
use Rattle.sv_out.specs.declared.input.Input.{Input}
use Rattle.sv_out.specs.declared.order.Order.{Order}
use Rattle.sv_outside.specs.Worlds.{given_more}
use Rattle.sv_outside.specs.declared.world.NextFault.{NextFault}
use Rattle.sv_supervise.specs.MainLoop.Telling.{Told, Went, grown, led}

pub grown_more : {A : Type 0} (a b : List A) (o : Option (List A)) → grown (a ++ b) o ≡ grown b (grown a o)
grown_more a b None = refl
grown_more a b (Some x) = ap Some (sym (append_assoc x a b))

pub grown_none : {A : Type 0} (o : Option (List A)) → o ≡ grown [] o
grown_none None = refl
grown_none (Some x) = ap Some (sym (append-nil x))

pub led_more : {A : Type 0} (a b : List A) (o : Option (List A)) → led (a ++ b) o ≡ led a (led b o)
led_more a b None = refl
led_more a b (Some x) = ap Some (append_assoc a b x)

pub led_none : {A : Type 0} (o : Option (List A)) → o ≡ led [] o
led_none None = refl
led_none (Some x) = refl

pub went_more : (old mid new : Told) (is js : List Input) (os ps : List Order) (x y : List ℕ) → Went old mid is os x → Went mid new js ps y → Went old new (is ++ js) (os ++ ps) (x ++ y)
went_more old mid new is js os ps x y p q = record {
  given = q.given ∙ ap (grown js) p.given ∙ sym (grown_more is js old.given);
  left = p.left ∙ ap (led is) q.left ∙ sym (led_more is js new.left);
  handed = q.handed ∙ ap (grown ps) p.handed ∙ sym (grown_more os ps old.handed);
  written = Appends-trans old.journal mid.journal new.journal x y p.written q.written;
}

pub went_is : (old new : Told) (is js : List Input) (os ps : List Order) (x y : List ℕ) → is ≡ js → os ≡ ps → x ≡ y → Went old new is os x → Went old new js ps y
went_is old new is js os ps x y a b c p = record {
  given = p.given ∙ ap (λ l. grown l old.given) a;
  left = p.left ∙ ap (λ l. led l new.left) a;
  handed = p.handed ∙ ap (λ l. grown l old.handed) b;
  written = subst (λ l. Appends old.journal new.journal l) c p.written;
}

pub on_err : {A E : Type 0} (result : Result A E) (P : Type 0) → P → OnErr result P
on_err (Ok value) P holds = tt
on_err (Err error) P holds = holds

-- the inputs given after a call that gave none
pub given_same : (fault : NextFault) (o : Option (List Input)) → option_map (given_more (Err fault)) o ≡ o
given_same fault None = refl
given_same fault (Some inputs) = refl

-- and after one that gave an input
pub given_one : (input : Input) (o : Option (List Input)) → option_map (given_more (Ok input)) o ≡ grown (input ∷ []) o
given_one input None = refl
given_one input (Some inputs) = refl

pub led_one : (input : Input) (o : Option (List Input)) → option_map (λ inputs. input ∷ inputs) o ≡ led (input ∷ []) o
led_one input None = refl
led_one input (Some inputs) = refl
