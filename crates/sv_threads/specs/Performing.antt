-- What an order comes to.
use Rattle.std.specs.Prelude.{◌≡◌, ◌+◌, ◌%◌, ◌^◌, ◌++◌, ◌∷◌, ℕ, List, [], Option, Result, Ok, Err}
use Rattle.sv_base.specs.declared.ids.LinkId.{LinkId}
use Rattle.sv_parts.specs.Files.Asking.{Clears, IsUnanswered, Lists, Parts as PartsOfFile, Sizes}
use Rattle.sv_parts.specs.Files.Writing.{IsUnwritten, Writes as WritesFile}
use Rattle.sv_parts.specs.declared.files.asking.FileAnswer.{FileAnswer}
use Rattle.sv_outside.specs.declared.handing.Handed.{Handed}
use Rattle.sv_outside.specs.declared.handing.Handed.TheVariants.{Done, Failed}
use Rattle.sv_parts.specs.Links.Closing.{Closes}
use Rattle.sv_parts.specs.declared.links.live_links.LiveLinks.{LiveLinks}
use Rattle.sv_out.specs.Faults.{RisesWhere, counted}
use Rattle.sv_out.specs.Files.{Files, appended, emptied, shifted}
use Rattle.sv_out.specs.declared.order.Order.{Order}
use Rattle.sv_out.specs.declared.order.Order.TheVariants as orders
use Rattle.sv_out.specs.declared.order.SpawnOrder.{SpawnOrder}
use Rattle.sv_outside.specs.declared.jobs.JobWord.{JobWord}
use Rattle.sv_outside.specs.declared.spawner.Asked.{Asked}
use Rattle.sv_parts.specs.Runs.Killing.{IsUnsent, Kills}
use Rattle.sv_parts.specs.Runs.Writing.{Writes}
use Rattle.sv_parts.specs.declared.runs.life.Life.{Life}
use Rattle.sv_parts.specs.Runs.Spawned.{IsNoThread, IsRefused, Spawns}
use Rattle.sv_parts.specs.declared.runs.spawning.SpawnAnswer.{SpawnAnswer}
use Rattle.sv_threads.specs.Answers.{AnswersFile, AnswersSpawn}
use Rattle.sv_threads.specs.LinkWords.{StartsAndAsks, StartsAndSends}
use Rattle.sv_threads.specs.declared.answers.Answer.{Answer}

-- what orders change: what the spawner was asked for, the jobs that the gate kept, and the files of
-- the shelf, each with its count of faults; the runs; the links; and the answer to the question
-- that stands
pub record Parts (K : Type 0) : Type 0 where
  pub spawner : Option (List Asked) × ℕ
  pub gate : Option (List JobWord) × ℕ
  pub shelf : Option Files × ℕ
  pub lives : List Life
  pub links : LiveLinks K
  pub answer : Option Answer

module _ {K E : Type 0} where
  -- a program is asked for; it is refused only where the spawner's count rose, and has no thread
  -- only where the gate's
  pub record SpawnsAndAnswers (order : SpawnOrder) (old new : Parts K) (result : Result Handed E)
      : Type 0 where
    pub given : Result SpawnAnswer E
    pub spawns : Spawns order given old.spawner.0 new.spawner.0 old.gate.0 new.gate.0 old.lives
        new.lives
    pub refused : RisesWhere old.spawner.1 new.spawner.1 (IsRefused given)
    pub no_thread : RisesWhere old.gate.1 new.gate.1 (IsNoThread given)
    pub answers : AnswersSpawn given old.answer new.answer result
    pub others : new ≡ record old
        { spawner = new.spawner; gate = new.gate; lives = new.lives; answer = new.answer }

  -- the shelf is asked, and answers so; there is no answer only where its count rose
  pub record AsksAndAnswers (Gives : Result FileAnswer E → Type 0) (old new : Parts K)
      (result : Result Handed E) : Type 0 where
    pub given : Result FileAnswer E
    pub gives : Gives given
    pub cause : RisesWhere old.shelf.1 new.shelf.1 (IsUnanswered given)
    pub answers : AnswersFile given old.answer new.answer result
    pub others : new ≡ record old { shelf = new.shelf; answer = new.answer }

  -- the shelf is asked for something, and its files stay
  abbrev pub LooksAndAnswers : (Result FileAnswer E → Type 0) → Parts K → Parts K → Result Handed E
      → Type 0
  LooksAndAnswers Gives old new result =
      AsksAndAnswers Gives old new result × (new.shelf.0 ≡ old.shelf.0)

  -- the shelf's files are changed so; the order fails only where its count rose
  abbrev pub ChangesFiles : (Files → Files) → Parts K → Parts K → Result Handed E → Type 0
  ChangesFiles change old new result =
      WritesFile old.shelf.0 new.shelf.0 change result
      × RisesWhere old.shelf.1 new.shelf.1 (IsUnwritten result)
      × (new ≡ record old { shelf = new.shelf })

  -- a link is closed
  abbrev pub ClosesLink : LinkId → Parts K → Parts K → Result Handed E → Type 0
  ClosesLink link old new (Ok handed) =
      Closes link.0 old.links.lost.items old.links.waiting.items new.links.waiting.items
      old.links.lives.items new.links.lives.items handed
      × (new.links ≡ record old.links { lives = new.links.lives; waiting = new.links.waiting })
      × (new ≡ record old { links = new.links })
  ClosesLink link old new (Err error) = ⊥

  -- each order changes its own part, and no other
  abbrev pub HandsOn : Order → Parts K → Parts K → Result Handed E → Type 0
  HandsOn (orders.State group name from to) old new result = (result ≡ Ok Done) × (new ≡ old)
  HandsOn (orders.Dropped pool serial poolserial) old new result = (result ≡ Ok Done) × (new ≡ old)
  HandsOn (orders.Spawn order) old new result = SpawnsAndAnswers order old new result
  HandsOn (orders.Kill run signal group) old new result =
      Kills run.0 signal group old.lives result old.spawner.0 new.spawner.0
      × RisesWhere old.spawner.1 new.spawner.1 (IsUnsent result)
      × (new ≡ record old { spawner = new.spawner })
  HandsOn (orders.Stdin run bytes) old new result =
      Writes run.0 bytes old.lives new.lives result × (new ≡ record old { lives = new.lives })
  HandsOn (orders.Append file bytes) old new result =
      ChangesFiles (appended file bytes) old new result
  HandsOn (orders.Shift from to) old new result = ChangesFiles (shifted from to) old new result
  HandsOn (orders.Fresh file) old new result = ChangesFiles (emptied file) old new result
  HandsOn (orders.ReadFile file start length) old new result =
      LooksAndAnswers (PartsOfFile old.shelf.0 file start length) old new result
  HandsOn (orders.ClearFile file) old new result =
      AsksAndAnswers (Clears old.shelf.0 new.shelf.0 file) old new result
  HandsOn (orders.Names pattern) old new result =
      LooksAndAnswers (Lists old.shelf.0 pattern) old new result
  HandsOn (orders.Size file) old new result =
      LooksAndAnswers (Sizes old.shelf.0 file) old new result
  HandsOn (orders.Send link bytes) old new result =
      StartsAndSends link bytes old.links new.links old.gate new.gate result
      × (new ≡ record old { gate = new.gate; links = new.links })
  HandsOn (orders.More link) old new result =
      StartsAndAsks link old.links new.links old.gate new.gate result
      × (new ≡ record old { gate = new.gate; links = new.links })
  HandsOn (orders.Close link) old new result = ClosesLink link old new result
  HandsOn orders.Halt old new result = (result ≡ Ok Done) × (new ≡ old)

-- the number of the next order, those of the orders that failed and aren't told yet, and how many
-- failed
pub record Count : Type 0 where
  pub number : ℕ
  pub failures : List ℕ
  pub faults : ℕ

-- an order that failed is counted and its number kept, and no other
abbrev pub Keeps : {E : Type 0} → Result Handed E → Count → Count → Type 0
Keeps (Ok Done) old new = new ≡ record old { number = (old.number + 1) % 2 ^ 64 }
Keeps (Ok Failed) old new = new ≡ record {
  number = (old.number + 1) % 2 ^ 64;
  failures = old.failures ++ old.number ∷ [];
  faults = counted old.faults;
}
Keeps (Err error) old new = ⊥

-- where memory was refused nothing is counted
abbrev pub Counts : {A E : Type 0} → Result Handed E → Count → Count → Result A E → Type 0
Counts given old new (Ok done) = Keeps given old new
Counts given old new (Err error) = new ≡ old

-- an order is handed to its part, and counted where it failed
pub record HandsOver {K A E : Type 0} (order : Order) (old new : Parts K) (before now : Count)
    (result : Result A E) : Type 0 where
  pub given : Result Handed E
  pub hands : HandsOn order old new given
  pub counts : Counts given before now result
