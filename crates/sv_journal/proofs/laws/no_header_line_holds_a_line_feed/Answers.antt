use Rattle.sv_journal.proofs.NoLineFeed.{plain_header}
use Rattle.sv_journal.proofs.laws.no_header_line_holds_a_line_feed.Goals as goal

-- src/laws.rt:25:1
pub returns : goal.returns
returns c h fits = plain_header h fits
