-- What questions come to, put together.
use Rattle.std.proofs.Common.{◌≡◌, Result, subst, sym}
use Rattle.sv_parts.specs.Files.Asking.{IsUnanswered}
use Rattle.sv_parts.specs.declared.files.asking.FileAnswer.{FileAnswer}
use Rattle.sv_outside.specs.declared.handing.Handed.{Handed}
use Rattle.sv_out.specs.Faults.{RisesWhere}
use Rattle.sv_out.specs.declared.order.Order.{Order}
use Rattle.sv_out.specs.declared.order.Order.TheVariants as orders
use Rattle.sv_out.specs.declared.order.SpawnOrder.{SpawnOrder}
use Rattle.sv_parts.specs.Runs.Spawned.{IsNoThread, IsRefused, Spawns}
use Rattle.sv_parts.specs.declared.runs.spawning.SpawnAnswer.{SpawnAnswer}
use Rattle.sv_threads.specs.Answers.{AnswersFile, AnswersSpawn}
use Rattle.sv_threads.specs.Performing.{AsksAndAnswers, HandsOn, Parts, SpawnsAndAnswers}

module _ (K E : Type 0) (old new : Parts K) (result : Result Handed E) where
  pub spawned : (order : SpawnOrder) (given : Result SpawnAnswer E)
      → Spawns order given old.spawner.0 new.spawner.0 old.gate.0 new.gate.0 old.lives new.lives
      → RisesWhere old.spawner.1 new.spawner.1 (IsRefused given)
      → RisesWhere old.gate.1 new.gate.1 (IsNoThread given)
      → AnswersSpawn given old.answer new.answer result
      → new ≡ record old { spawner = new.spawner; gate = new.gate; lives = new.lives; answer = new.answer }
      → SpawnsAndAnswers order old new result
  spawned order given spawns refused no_thread answers others =
      record { given = given; spawns = spawns; refused = refused; no_thread = no_thread; answers = answers; others = others }

  pub asked : (Gives : Result FileAnswer E → Type 0) (given : Result FileAnswer E)
      → Gives given
      → RisesWhere old.shelf.1 new.shelf.1 (IsUnanswered given)
      → AnswersFile given old.answer new.answer result
      → new ≡ record old { shelf = new.shelf; answer = new.answer }
      → AsksAndAnswers Gives old new result
  asked Gives given gives cause answers others =
      record { given = given; gives = gives; cause = cause; answers = answers; others = others }

  pub hands_spawn : (order : Order) (spawn : SpawnOrder) → order ≡ orders.Spawn spawn → SpawnsAndAnswers spawn old new result
      → HandsOn order old new result
  hands_spawn order spawn is spawns = subst (λ (o : Order). HandsOn o old new result) (sym is) spawns
