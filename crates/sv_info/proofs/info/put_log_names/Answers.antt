use Rattle.sv_info.proofs.MemberLaws.{three_more}
use Rattle.sv_info.proofs.info.put_log_names.Goals as goal

pub returns : goal.returns
returns c = three_more _ _ _ _ _ _ _ c.in_ok-put_log.ensures c.in_ok-put_log-2.ensures c.in_ok-put_log-3.ensures
