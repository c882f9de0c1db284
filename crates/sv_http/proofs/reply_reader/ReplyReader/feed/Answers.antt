use Rattle.sv_http.proofs.reply_reader.ReplyReader.feed.Goals as goal

pub returns-in-Err-NotAReply-clause-answers : goal.returns-in-Err-NotAReply-clause-answers
returns-in-Err-NotAReply-clause-answers c = λ stream stands.
    let all = rw c.in-Err-NotAReply.field-0-is at c.in-Err-NotAReply.ensures in all.answers stream stands
