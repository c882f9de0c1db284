use Rattle.std.proofs.Common.{Some, None, sym}
use Rattle.sv_core.proofs.Left.{asking_none, asking_of_none, asking_of_some, goes_after, made_at, stays_at}
use Rattle.sv_core.specs.Left.{asking, asking_of}
use Rattle.sv_core.specs.Serving.{gives_more}
use Rattle.sv_core.proofs.machine.Machine.serve_left.Goals as goal

pub returns-in-Some-clause-serves : goal.returns-in-Some-clause-serves
returns-in-Some-clause-serves c = λ older w k s.
    let link = c.args.link in
    let p = c.in-Some.asking in
    stays_at (asking link) c.serve_asks.new.self older _ _ p (λ v. k (gives_more c.args.link v)) (asking_of link (Some p) k)
    (λ v. sym (asking_of_some link p k v)) c.in-Some.is (c.in_ok-asking.ensures.serves older w (λ v. k (gives_more c.args.link v)) s)

pub returns-in_ok-give_more-in-None-clause-serves : goal.returns-in_ok-give_more-in-None-clause-serves
returns-in_ok-give_more-in-None-clause-serves c = λ older w k s.
    let link = c.args.link in
    let at = c.in_ok-asking.ensures.serves older w (λ v. k (gives_more c.args.link v)) s in
    goes_after (asking link) (asking_none link) c.serve_asks.new.self c.give_more.new.self older _ _ (λ v. k (gives_more c.args.link v)) (asking_of link None k) c.in-None.is at
    (made_at c.give_more.new.self older (gives_more link at.world) k (asking_of link None k) (asking_of_none link k)
    (c.in_ok-give_more-in-None.ensures.gives older at.world at.shows))
