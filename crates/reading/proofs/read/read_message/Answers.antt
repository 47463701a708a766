-- `read_message` meets its contract: the header's refusal is the message's, and where there is none its body is read.
use Rattle.octets.proofs.Judging.{answered}
use Rattle.messages.proofs.Messages.{read_handed_on}
use Rattle.messages.proofs.RoundTrip.{reading_number}
use Rattle.reading.proofs.read.read_message.Goals as goal

pub returns-in_err-check_header : goal.returns-in_err-check_header
returns-in_err-check_header c = answered (reading_number _) (read_handed_on _ c.in_err-check_header.ensures c.from_residual.ensures.1)

pub returns : goal.returns
returns c = answered (reading_number _) c.read_body.ensures
