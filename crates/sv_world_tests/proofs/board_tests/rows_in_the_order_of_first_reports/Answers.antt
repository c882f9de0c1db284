use Rattle.std.proofs.Common.{sym, ◌∙◌, length}
use Rattle.sv_world_tests.proofs.Last.{last_of}
use Rattle.sv_world_tests.proofs.board_tests.rows_in_the_order_of_first_reports.Goals as goal

pub learn-requires : goal.learn-requires
learn-requires g c =
    let at = last_of c.pop.new.self.items c.in_ok-writer.readers.items c.in-Some.reader c.in-Some.ensures.items in
    c.in_ok-ticket.ensures.ticket ∙ c.in_ok-ticket.ensures.same ∙ c.in_ok-report-3.ensures.same ∙ c.in_ok-report-2.ensures.same ∙ c.in_ok-report.ensures.same ∙ sym (c.in_ok-writer.ensures.readers (length c.pop.new.self.items) c.in-Some.reader at).0
