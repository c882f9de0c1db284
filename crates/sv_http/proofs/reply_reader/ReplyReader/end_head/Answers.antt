use Rattle.std.proofs.Common.{◌≡◌, length, ap, arith, inl}
use Rattle.sv_http.proofs.ReplyReading.{long_never}
use Rattle.sv_http.proofs.reply_reader.ReplyReader.end_head.Goals as goal

pub returns-in-Never-clause-answers : goal.returns-in-Never-clause-answers
returns-in-Never-clause-answers c = rw (← c.as_slice.ensures.value) c.in-Never.ensures

pub returns-in-Unfinished-clause-answers : goal.returns-in-Unfinished-clause-answers
returns-in-Unfinished-clause-answers c =
    let same : length c.as_slice-in-Unfinished-1.result.now ≡ length c.args.self.now.held.items = ap (λ bytes. length bytes) c.as_slice-in-Unfinished-1.ensures.value in
    let first : length c.as_slice.result.now ≡ length c.args.self.now.held.items = ap (λ bytes. length bytes) c.as_slice.ensures.value in
    rw (← c.as_slice.ensures.value) (c.in-Unfinished.ensures.0, inl (c.in-Unfinished.ensures.1, omega (arith, same, first, c.if-as_slice-lt-HEAD_LIMIT.true)))

pub returns-in-Unfinished-2-clause-answers : goal.returns-in-Unfinished-2-clause-answers
returns-in-Unfinished-2-clause-answers c =
    let same : length c.as_slice-in-Unfinished-1.result.now ≡ length c.args.self.now.held.items = ap (λ bytes. length bytes) c.as_slice-in-Unfinished-1.ensures.value in
    let first : length c.as_slice.result.now ≡ length c.args.self.now.held.items = ap (λ bytes. length bytes) c.as_slice.ensures.value in
    rw (← c.as_slice.ensures.value) (long_never c.as_slice.result.now c.in-Unfinished-2.ensures.2 (omega (arith, same, first, c.if-as_slice-lt-HEAD_LIMIT.false)))
