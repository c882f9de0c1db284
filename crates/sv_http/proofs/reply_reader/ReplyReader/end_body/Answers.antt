use Rattle.std.proofs.Common.{◌≡◌, ◌<◌, length, ap, arith, inr}
use Rattle.sv_http.proofs.ReplyReading.{over_never, short_no_reply}
use Rattle.sv_http.proofs.reply_reader.ReplyReader.end_body.Goals as goal

pub returns-then-length-size-clause-answers : goal.returns-then-length-size-clause-answers
returns-then-length-size-clause-answers c = λ stream begins.
    let same : length c.as_slice-length.result.now ≡ length c.args.self.now.held.items = ap (λ bytes. length bytes) c.as_slice-length.ensures.value in
    let short : length c.args.self.now.held.items < c.args.size = omega (arith, same, c.if-length-size.true) in (
      short_no_reply stream c.args.status c.args.size c.args.self.now.held.items begins short,
      inr (c.args.status, c.args.size, c.args.self.now.held.items, begins, short),
    )

pub returns-then-size-length-clause-answers : goal.returns-then-size-length-clause-answers
returns-then-size-length-clause-answers c = λ stream begins.
    let same : length c.as_slice-length.result.now ≡ length c.args.self.now.held.items = ap (λ bytes. length bytes) c.as_slice-length.ensures.value in
    over_never stream c.args.status c.args.size c.args.self.now.held.items begins (omega (arith, same, c.if-size-length.true))
