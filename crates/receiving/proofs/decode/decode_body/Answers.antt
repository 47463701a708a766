-- `decode_body` meets its contract. Reading answers a message or a refusal, and each arm makes of it what `call_of_reading` does.
use Rattle.std.proofs.Common.{sym, ◌∙◌}
use Rattle.receiving.proofs.decode.decode_body.Goals as goal

pub returns-in-Ok : goal.returns-in-Ok
returns-in-Ok c = λ v. rw (sym c.read_message-reading.ensures.same ∙ c.in-Ok.is) (c.decode_message.ensures v)

pub returns-in-Err : goal.returns-in-Err
returns-in-Err c = λ v. rw (sym c.read_message-reading.ensures.same ∙ c.in-Err.is, c.refuse_message.ensures)
