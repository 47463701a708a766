-- `read_other` meets its contract: the body's refusal is answered; else the fields are read by the message's number.
use mathlib.Core.Path.{sym}
use Rattle.octets.specs.Answers.{judged}
use Rattle.octets.proofs.Judging.{judged_ok}
use Rattle.headers.proofs.Headers.{passed_on}
use Rattle.ipdr.specs.Messages.{read_body}
use Rattle.ipdr_reading.proofs.read.read_other.Goals as goal

pub returns-in_err-check_body : goal.returns-in_err-check_body
unfolding read_body
returns-in_err-check_body c = passed_on _ tt _ c.in_err-check_body.ensures c.from_residual.ensures.1

pub returns : goal.returns
unfolding judged read_body
returns c = rw (judged_ok _ tt (sym c.in_ok-check_body.ensures), ← c.get.ensures, ← c.content_of.ensures)
