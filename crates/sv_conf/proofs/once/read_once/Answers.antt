use Rattle.sv_conf.proofs.NamesOnce.{read_result}
use Rattle.sv_conf.proofs.once.read_once.Goals as goal

pub returns : goal.returns
returns c = read_result c.args.host.now c.args.listener c.args.program.now c.args.keys.now c.in_ok-pairs.pairs c.settings_once.result c.in_ok-pairs.ensures c.settings_once.ensures
