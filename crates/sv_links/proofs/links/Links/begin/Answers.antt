use Rattle.std.proofs.Common.{◌+◌, refl}
use Rattle.sv_links.proofs.Opened.{refused_stands, served_stands}
use Rattle.sv_links.proofs.links.Links.begin.Goals as goal

pub returns-in_ok-insert-clause-kept : goal.returns-in_ok-insert-clause-kept
returns-in_ok-insert-clause-kept c book s next =
    let x = c.args.self.now in
    served_stands x (record { kept = c.insert.new.self; open_count = x.open_count + 1; opened = c.args.link.0 }) book c.args.link c.args.guard c.new.result
    c.if-self-lt-LINK_LIMIT.true c.in_ok-insert.ensures.updates c.new.ensures refl refl s next

pub returns-else-self-lt-LINK_LIMIT-clause-kept : goal.returns-else-self-lt-LINK_LIMIT-clause-kept
returns-else-self-lt-LINK_LIMIT-clause-kept c book s next =
    let x = c.args.self.now in
    refused_stands x (record { kept = x.kept; open_count = x.open_count; opened = c.args.link.0 }) book c.args.link c.args.guard
    c.if-self-lt-LINK_LIMIT.false refl refl refl s next
