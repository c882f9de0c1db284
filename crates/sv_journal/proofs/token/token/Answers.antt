use Rattle.sv_journal.proofs.TokenLaws.{token_utf8}
use Rattle.sv_journal.proofs.token.token.Goals as goal

pub text_of-requires : goal.text_of-requires
text_of-requires c = token_utf8 c.args.letters c.args.bytes.now c.in-Ok.value.items c.in-Ok.rest.now c.requires c.in-Ok.ensures
