use Rattle.std.proofs.Common.{false, true, refl}
use Rattle.sv_links.proofs.Readings.{new_reads}
use Rattle.sv_links.proofs.open_link.OpenLink.new.Goals as goal

pub returns : goal.returns
returns c =
    new_reads (record { reader = c.new.result; waiting = c.new-2.result; is_fed = false; has_more = true }) c.args.guard c.new.ensures.stands
    c.new.ensures.guard c.new-2.ensures.items refl refl
