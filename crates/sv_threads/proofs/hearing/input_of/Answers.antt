use Rattle.std.proofs.Common.{refl}
use Rattle.sv_threads.proofs.Notes.{hears_open, is_told, keeps, keeps_open}
use Rattle.sv_threads.proofs.hearing.input_of.Goals as goal
use Rattle.sv_threads.proofs.hearing.input_of.Goals.{in-Tick, in-Exit, in-Out, in-OutEnd, in-Piece, in-LinkEnd, in-Signal, in-Start, in-Stop}

pub returns-in-Open-clause-hears : goal.returns-in-Open-clause-hears
returns-in-Open-clause-hears g c = hears_open _ _ _ _ _ _ _ _ c.in-Open.is c.open.ensures.opens

pub returns-in-Open-clause-links : goal.returns-in-Open-clause-links
returns-in-Open-clause-links g c = keeps_open _ _ _ _ _ _ _ c.open.ensures.opens

pub returns-clause-hears : goal.returns-clause-hears
returns-clause-hears g c = elim c.match-note.branch [
  | in-Tick w ↦ is_told _ _ _ _ _ _ _ w.now.ensures.told w.in-Tick.is w.result-is refl
  | in-Exit w ↦ is_told _ _ _ _ _ _ _ w.now-in-Exit.ensures.told w.in-Exit.is w.result-is refl
  | in-Out w ↦ is_told _ _ _ _ _ _ _ w.now-in-Out.ensures.told w.in-Out.is w.result-is refl
  | in-OutEnd w ↦ is_told _ _ _ _ _ _ _ w.now-in-OutEnd.ensures.told w.in-OutEnd.is w.result-is refl
  | in-Piece w ↦ is_told _ _ _ _ _ _ _ w.now-in-Piece.ensures.told w.in-Piece.is w.result-is refl
  | in-LinkEnd w ↦ is_told _ _ _ _ _ _ _ w.now-in-LinkEnd.ensures.told w.in-LinkEnd.is w.result-is refl
  | in-Signal w ↦ is_told _ _ _ _ _ _ _ w.now-in-Signal.ensures.told w.in-Signal.is w.result-is refl
  | in-Start w ↦ is_told _ _ _ _ _ _ _ w.now-in-Start.ensures.told w.in-Start.is w.result-is refl
  | in-Stop w ↦ is_told _ _ _ _ _ _ _ w.now-in-Stop.ensures.told w.in-Stop.is w.result-is refl
]

pub returns-clause-links : goal.returns-clause-links
returns-clause-links g c = elim c.match-note.branch [
  | in-Tick w ↦ keeps _ _ _ _ w.result-is refl
  | in-Exit w ↦ keeps _ _ _ _ w.result-is refl
  | in-Out w ↦ keeps _ _ _ _ w.result-is refl
  | in-OutEnd w ↦ keeps _ _ _ _ w.result-is refl
  | in-Piece w ↦ keeps _ _ _ _ w.result-is refl
  | in-LinkEnd w ↦ keeps _ _ _ _ w.result-is refl
  | in-Signal w ↦ keeps _ _ _ _ w.result-is refl
  | in-Start w ↦ keeps _ _ _ _ w.result-is refl
  | in-Stop w ↦ keeps _ _ _ _ w.result-is refl
]
