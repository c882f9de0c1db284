-- What one note comes to.
use Rattle.std.proofs.Common.{◌≡◌, ◌-◌, ◌^◌, ◌∙◌, ℕ, Option, None, Some, Result, Ok, Err, ap, refl, subst, sym}
use Rattle.std.proofs.lemmas.Bool.{eq-eqb}
use Rattle.std.specs.Option.{ForSome}
use Rattle.sv_base.specs.declared.state.Side.{Side}
use Rattle.sv_jobs.specs.declared.notes.Note.{Note}
use Rattle.sv_jobs.specs.declared.notes.Note.TheVariants as notes
use Rattle.sv_parts.specs.declared.links.live_links.LiveLinks.{LiveLinks}
use Rattle.sv_out.specs.declared.input.Input.{Input}
use Rattle.sv_out.specs.declared.input.Input.TheVariants as inputs
use Rattle.sv_threads.specs.Hearing.{CountsLink, HearsNote, IsTold, KeepsLinks, count_after, stamped}
use Rattle.sv_threads.specs.Opening.{IsSilent, Opened, OpensAt}

pub is_told : (note shown : Note) (next : Option ℕ) (count at : ℕ) (result given : Input) → ForSome next (λ told. at ≡ told) → note ≡ shown
    → result ≡ given → stamped at count shown ≡ Some given → IsTold note next count result
is_told note shown next count at result given moment is gives told = record {
  at = at;
  moment = moment;
  told = ap (λ (n : Note). stamped at count n) is ∙ told ∙ ap Some (sym gives);
}

opened_as : (K : Type 0) (side : Side) (next : Option ℕ) (old new : LiveLinks K) (input : Input) → Opened K side next old new input
    → IsTold (notes.Open side) next old.count input
opened_as K side next old new input opened = record {
  at = opened.at;
  moment = opened.moment;
  told = ap (λ (n : ℕ). Some (inputs.Open opened.at (record { 0 = n }) side)) (sym opened.numbered.number) ∙ ap Some (sym opened.told);
}

hears : (K E : Type 0) (side : Side) (next : Option ℕ) (old new : LiveLinks K) (result : Result (Option Input) E)
    → OpensAt {K = K} {E = E} side next old new result → HearsNote {E = E} (notes.Open side) next old.count result
hears K E side next old new (Ok (Some input)) opened = opened_as K side next old new input opened
hears K E side next old new (Ok None) opened = eq-eqb old.count (2 ^ 32 - 1) opened.0
hears K E side next old new (Err error) opened = refl

pub hears_open : (K E : Type 0) (note : Note) (side : Side) (next : Option ℕ) (old new : LiveLinks K) (result : Result (Option Input) E)
    → note ≡ notes.Open side → OpensAt {K = K} {E = E} side next old new result → HearsNote {E = E} note next old.count result
hears_open K E note side next old new result is opened =
    subst (λ (n : Note). HearsNote {E = E} n next old.count result) (sym is) (hears K E side next old new result opened)

-- an input that opens no link leaves the links as they are
pub keeps : (K : Type 0) (links : LiveLinks K) (result given : Input) → result ≡ given → count_after given links.count ≡ links.count
    → CountsLink result links links
keeps K links result given is same = record {
  count = sym same ∙ ap (λ (i : Input). count_after i links.count) (sym is);
  lives = refl;
  lost = refl;
}

pub keeps_open : (K E : Type 0) (side : Side) (next : Option ℕ) (old new : LiveLinks K) (result : Result (Option Input) E)
    → OpensAt {K = K} {E = E} side next old new result → KeepsLinks {K = K} {E = E} result old new
keeps_open K E side next old new (Ok (Some input)) opened =
    record {
      count = opened.numbered.count ∙ ap (λ (i : Input). count_after i old.count) (sym opened.told);
      lives = opened.numbered.lives;
      lost = opened.numbered.lost;
    }
keeps_open K E side next old new (Ok None) opened = opened.1
keeps_open K E side next old new (Err error) opened =
    record {
      count = ap (λ (l : LiveLinks K). l.count) opened.0;
      lives = ap (λ (l : LiveLinks K). l.lives) opened.0;
      lost = ap (λ (l : LiveLinks K). l.lost) opened.0;
    }

pub kept_some : (K E : Type 0) (given : Option Input) (input : Input) (old new : LiveLinks K) → given ≡ Some input
    → KeepsLinks {K = K} {E = E} (Ok given) old new → CountsLink input old new
kept_some K E given input old new is keeps = subst (λ (g : Option Input). KeepsLinks {K = K} {E = E} (Ok g) old new) is keeps

pub kept_none : (K E : Type 0) (given : Option Input) (old new : LiveLinks K) → given ≡ None
    → KeepsLinks {K = K} {E = E} (Ok given) old new → new ≡ old
kept_none K E given old new is keeps = subst (λ (g : Option Input). KeepsLinks {K = K} {E = E} (Ok g) old new) is keeps

pub silent : (E : Type 0) (given : Option Input) → given ≡ None → IsSilent {E = E} (Ok given)
silent E given is = subst (λ (g : Option Input). IsSilent {E = E} (Ok g)) (sym is) tt
