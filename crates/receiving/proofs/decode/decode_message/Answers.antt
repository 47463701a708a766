-- `decode_message` meets its contract. Each arm of the match is the row of `call_of_message` for that message, so each is shown by computing
-- it.
use Rattle.session.specs.Steps.{call_of_message}
use Rattle.receiving.proofs.decode.decode_message.Goals as goal

pub returns-in-Start : goal.returns-in-Start
unfolding call_of_message
returns-in-Start c = λ v. rw c.in-Start.is

pub returns-in-StartAck : goal.returns-in-StartAck
unfolding call_of_message
returns-in-StartAck c = λ v. rw (c.in-StartAck.is, c.refuse_message.ensures)

pub returns-in-Stop : goal.returns-in-Stop
unfolding call_of_message
returns-in-Stop c = λ v. rw c.in-Stop.is

pub returns-in-StopAck : goal.returns-in-StopAck
unfolding call_of_message
returns-in-StopAck c = λ v. rw (c.in-StopAck.is, c.refuse_message-in-StopAck.ensures)

pub returns-in-TmplData : goal.returns-in-TmplData
unfolding call_of_message
returns-in-TmplData c = λ v. rw (c.in-TmplData.is, c.refuse_message-in-TmplData.ensures)

pub returns-in-FinalTmplDataAck : goal.returns-in-FinalTmplDataAck
unfolding call_of_message
returns-in-FinalTmplDataAck c = λ v. rw c.in-FinalTmplDataAck.is

pub returns-in-StartNegotiate : goal.returns-in-StartNegotiate
unfolding call_of_message
returns-in-StartNegotiate c = λ v. rw c.in-StartNegotiate.is

pub returns-in-StartNegotiateAck : goal.returns-in-StartNegotiateAck
unfolding call_of_message
returns-in-StartNegotiateAck c = λ v. rw (c.in-StartNegotiateAck.is, c.refuse_message-in-StartNegotiateAck.ensures)

pub returns-in-Data : goal.returns-in-Data
unfolding call_of_message
returns-in-Data c = λ v. rw (c.in-Data.is, c.refuse_message-in-Data.ensures)

pub returns-in-DataAck : goal.returns-in-DataAck
unfolding call_of_message
returns-in-DataAck c = λ v. rw c.in-DataAck.is
