use Rattle.std.proofs.Common.{sym, ◌∙◌, length}
use Rattle.sv_world_tests.proofs.Last.{last_of}
use Rattle.sv_world_tests.proofs.board_tests.a_read_after_its_ticket.Goals as goal

pub learn-requires : goal.learn-requires
learn-requires g c =
    let at = last_of c.pop.new.self.items c.in_ok-writer.readers.items c.in-Some.reader c.in-Some.ensures.items in
    c.in_ok-ticket.ensures.ticket ∙ c.in_ok-ticket.ensures.same ∙ c.in_ok-report.ensures.same ∙ sym (c.in_ok-writer.ensures.readers (length c.pop.new.self.items) c.in-Some.reader at).0
