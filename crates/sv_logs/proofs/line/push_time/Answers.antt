use Rattle.std.proofs.Common.{append_assoc}
use Rattle.sv_logs.proofs.line.push_time.Goals as goal

pub returns : goal.returns
returns c =
    rw (c.in_ok-extend_from_slice-2.ensures.items, c.three_digits.ensures, c.in_ok-push.ensures.items, c.in_ok-push_two-2.ensures, c.in_ok-push_two.ensures, c.in_ok-extend_from_slice.ensures.items, c.two_digits.ensures)
    (simp append_assoc)
