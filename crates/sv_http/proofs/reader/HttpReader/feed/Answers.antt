use Rattle.std.proofs.Common.{◌≡◌, ◌∙◌, ◌++◌, List, sym, ap, subst, append-nil}
use Rattle.sv_http.proofs.Advances.{stands_asks}
use Rattle.sv_http.proofs.AskReading.{asks_are}
use Rattle.sv_http.proofs.Streams.{asks_unique}
use Rattle.sv_http.specs.ReaderPlaces.{Stands}
use Rattle.sv_http.specs.declared.ask.Ask.{Ask}
use Rattle.sv_http.proofs.reader.HttpReader.feed.Goals as goal

pub returns-in-Ok-clause-asks : goal.returns-in-Ok-clause-asks
returns-in-Ok-clause-asks c = λ stream asks stands.
    let none : asks ≡ asks ++ c.new-asks.result.items = sym (ap (λ told. asks ++ told) c.new-asks.ensures.items ∙ append-nil asks) in
    stands_asks c.args.self.now.guard c.take_all.new.self.place c.take_all.new.self.head.items c.take_all.new.self.body.items
    (stream ++ c.args.piece.now) (asks ++ c.take_all.new.asks.items)
    (c.in-Ok.ensures.advances stream asks
    (subst (λ (told : List Ask). Stands c.args.self.now.guard c.args.self.now.place c.args.self.now.head.items c.args.self.now.body.items stream told) none stands))

pub returns-in-Ok-clause-read : goal.returns-in-Ok-clause-read
returns-in-Ok-clause-read c = λ stream asks stands.
    asks_unique c.args.self.now.guard (stream ++ c.args.piece.now) (asks ++ c.take_all.new.asks.items) _
    (returns-in-Ok-clause-asks c stream asks stands) (asks_are c.args.self.now.guard (stream ++ c.args.piece.now))
