use Rattle.sv_events.proofs.Lines.{before_line_feed, after_line_feed, head_is_one_line}
use Rattle.sv_events.specs.EventText.{envelope_head}
use Rattle.sv_events.proofs.event.first_line_feed_ends_the_head.Goals as goal

pub returns : goal.returns
returns c = record {
  head = λ server pool poolserial event one two small serial length.
      before_line_feed (envelope_head server pool poolserial event) event.body (head_is_one_line server pool poolserial event one two small serial length);
  body = λ server pool poolserial event one two small serial length.
      after_line_feed (envelope_head server pool poolserial event) event.body (head_is_one_line server pool poolserial event one two small serial length);
}
