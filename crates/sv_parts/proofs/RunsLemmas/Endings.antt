-- What became of the jobs of a run that was started.
use Rattle.std.proofs.Common.{◌≡◌, ◌++◌, ◌∷◌, ◌∙◌, ℕ, Bool, true, false, List, [], Option, Ok, ap, refl, subst, take}
use Rattle.std.proofs.Math.Seq.{take-length}
use Rattle.sv_base.specs.declared.ids.Run.{Run}
use Rattle.sv_base.specs.declared.signal.Signal.TheVariants as signals
use Rattle.sv_jobs.specs.declared.notes.StdinWord.{StdinWord}
use Rattle.sv_lane.specs.Ends.{posted}
use Rattle.sv_lane.specs.declared.poster.Poster.{Poster}
use Rattle.sv_out.specs.declared.order.SpawnOrder.{SpawnOrder}
use Rattle.sv_outside.specs.Spawning.{with_one}
use Rattle.sv_outside.specs.declared.jobs.JobWord.{JobWord}
use Rattle.sv_outside.specs.declared.spawner.Asked.{Asked}
use Rattle.sv_outside.specs.declared.spawner.Asked.TheVariants.{Kill, Spawn}
use Rattle.sv_parts.specs.declared.runs.life.Life.{Life}
use Rattle.sv_parts.specs.Runs.JobWords.{Starts, grown, words_of_run}
use Rattle.sv_parts.specs.Runs.Spawned.{Begins, StopsShort}

all_kept : (words : List JobWord) (a b : Option (List JobWord)) → Starts words true a b → b ≡ grown words a
all_kept words a b starts =
    starts.kept ∙ ap (λ (n : ℕ). grown (take n words) a) (starts.whole refl) ∙ ap (λ (l : List JobWord). grown l a) (take-length words)

pub whole : (run : Run) (words : List JobWord) (all : Bool) (a b : Option (List JobWord)) → all ≡ true → words ≡ words_of_run run
    → Starts words all a b → b ≡ grown (words_of_run run) a
whole run words all a b is same starts =
    subst (λ (l : List JobWord). b ≡ grown l a) same (all_kept words a b (subst (λ (k : Bool). Starts words k a b) is starts))

pub begins : (run : Run) (pid : ℕ) (old reserved new : List Life) (life : Life) (words : Poster StdinWord)
    → life ≡ record { run = run; pid = pid; words = words; unwritten = 0; closed = false } → posted words ≡ [] → reserved ≡ old
    → new ≡ reserved ++ life ∷ [] → Begins run pid old new
begins run pid old reserved new life words is none same pushed = record {
  life = life;
  last = pushed ∙ ap (λ (l : List Life). l ++ life ∷ []) same;
  run_is = ap (λ (l : Life). l.run) is;
  pid_is = ap (λ (l : Life). l.pid) is;
  none = ap (λ (l : Life). posted l.words) is ∙ none;
  unwritten = ap (λ (l : Life). l.unwritten) is;
  closed = ap (λ (l : Life). l.closed) is;
}

stopped_so : (order : SpawnOrder) (a b : Option (List JobWord)) (pid : ℕ) (sent : Bool) (asked started after : Option (List Asked))
    → started ≡ with_one (Spawn order (Ok pid)) asked → after ≡ with_one (Kill pid signals.Kill false sent) started
    → Starts (words_of_run order.run) false a b → StopsShort order asked after a b
stopped_so order a b pid sent asked started after first then starts = record {
  pid = pid;
  sent = sent;
  count = starts.count;
  asks = then ∙ ap (λ (o : Option (List Asked)). with_one (Kill pid signals.Kill false sent) o) first;
  few = starts.short refl;
  jobs = starts.kept;
}

pub stopped : (order : SpawnOrder) (words : List JobWord) (all : Bool) (a b : Option (List JobWord)) (pid : ℕ) (sent : Bool)
    (asked started after : Option (List Asked)) → all ≡ false → words ≡ words_of_run order.run → Starts words all a b
    → started ≡ with_one (Spawn order (Ok pid)) asked → after ≡ with_one (Kill pid signals.Kill false sent) started
    → StopsShort order asked after a b
stopped order words all a b pid sent asked started after is same starts first then =
    stopped_so order a b pid sent asked started after first then
    (subst (λ (l : List JobWord). Starts l false a b) same (subst (λ (k : Bool). Starts words k a b) is starts))
