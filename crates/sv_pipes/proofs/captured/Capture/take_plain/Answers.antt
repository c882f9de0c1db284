use Rattle.sv_pipes.proofs.PlainBytes.{plain_inside_at, plain_outside_at}
use Rattle.sv_pipes.proofs.captured.Capture.take_plain.Goals as goal

pub returns-in_ok-extend_from_slice-in-Outside-clause-steps : goal.returns-in_ok-extend_from_slice-in-Outside-clause-steps
returns-in_ok-extend_from_slice-in-Outside-clause-steps c = λ parts.
    let me = c.args.self.now in
    plain_outside_at me.limit me.side me.matched c.args.plain.now me.body.items parts c.args.logged.now.items
    c.extend_from_slice.new.self.items c.in-Outside.is c.requires.apart c.requires.plain
    c.in_ok-extend_from_slice-in-Outside.ensures.items

pub returns-in_ok-keep-in-Inside-clause-steps : goal.returns-in_ok-keep-in-Inside-clause-steps
returns-in_ok-keep-in-Inside-clause-steps c = λ parts.
    let me = c.args.self.now in
    plain_inside_at me.limit me.side me.matched c.args.plain.now me.body.items c.keep.new.body.items parts c.args.logged.now.items
    c.in-Inside.is c.requires.apart c.requires.plain c.in_ok-keep-in-Inside.ensures.kept
