-- A link whose job was kept.
use Rattle.std.proofs.Common.{◌≡◌, ◌++◌, ◌∷◌, ◌∙◌, ℕ, Bool, true, false, List, [], Option, Some, Ok, ap, remove, subst, sym}
use Rattle.sv_base.specs.declared.ids.LinkId.{LinkId}
use Rattle.sv_jobs.specs.declared.notes.LinkWord.{LinkWord}
use Rattle.sv_lane.specs.Ends.{posted}
use Rattle.sv_lane.specs.declared.poster.Poster.{Poster}
use Rattle.sv_parts.specs.Links.Links.{waiting_at}
use Rattle.sv_parts.specs.declared.links.life.LinkLife.{LinkLife}
use Rattle.sv_parts.specs.declared.links.live_links.LiveLinks.{LiveLinks}
use Rattle.sv_parts.specs.Links.Starting.{Begins, Starts, StartsAt}
use Rattle.sv_outside.specs.Gates.{kept_more}
use Rattle.sv_outside.specs.declared.jobs.JobWord.{JobWord}
use Rattle.sv_outside.specs.declared.jobs.JobWord.TheVariants.{Link}

begins : (link : LinkId) (old reserved new : List LinkLife) (life : LinkLife) (words : Poster LinkWord)
    → life ≡ record { link = link; words = words; unwritten = 0; failed = false } → posted words ≡ [] → reserved ≡ old → new ≡ reserved ++ life ∷ []
    → Begins link old new
begins link old reserved new life words is none same pushed = record {
  life = life;
  last = pushed ∙ ap (λ (l : List LinkLife). l ++ life ∷ []) same;
  link_is = ap (λ (l : LinkLife). l.link) is;
  none = ap (λ (l : LinkLife). posted l.words) is ∙ none;
  unwritten = ap (λ (l : LinkLife). l.unwritten) is;
  failed = ap (λ (l : LinkLife). l.failed) is;
}

pub started : (K E : Type 0) (link : LinkId) (old new : LiveLinks K) (kept kept_after : Option (List JobWord)) (is_kept : Bool) (place : ℕ)
    (reserved : List LinkLife) (life : LinkLife) (words : Poster LinkWord)
    → Some place ≡ waiting_at link.0 old.waiting.items → is_kept ≡ true → kept_after ≡ kept_more (Link link) is_kept kept
    → new.count ≡ old.count → new.waiting.items ≡ remove old.waiting.items place
    → life ≡ record { link = link; words = words; unwritten = 0; failed = false } → posted words ≡ [] → reserved ≡ old.lives.items
    → new.lives.items ≡ reserved ++ life ∷ [] → new.lost.items ≡ old.lost.items
    → Starts {K = K} {E = E} link old new kept kept_after (Ok is_kept)
started K E link old new kept kept_after is_kept place reserved life words found is told count waiting life_is none same pushed lost =
    subst (λ (b : Bool). Starts {K = K} {E = E} link old new kept kept_after (Ok b)) (sym is)
    (subst (λ (o : Option ℕ). StartsAt {K = K} {E = E} o link old new kept kept_after (Ok true)) found (record {
      job = subst (λ (b : Bool). kept_after ≡ kept_more (Link link) b kept) is told;
      count = count;
      waiting = waiting;
      lives = begins link old.lives.items reserved new.lives.items life words life_is none same pushed;
      lost = lost;
    }))
