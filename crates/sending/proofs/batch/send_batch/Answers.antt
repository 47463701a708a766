-- `send_batch` meets its contract. Where no message is asked for, or the first call is refused before the output is looked at, the definition
-- sends nothing either. Else there is a record to send and somebody to send it to, which is what `send_records` requires.
use Rattle.std.proofs.Common.{sym, ◌∙◌, length}
use Rattle.octets.proofs.Judging.{judged_ok}
use Rattle.sending.proofs.Sends.{send_facts}
use Rattle.sending.proofs.Batches.{none_asked, none_sent, with_number}
use Rattle.sending.proofs.batch.send_batch.Goals as goal

pub returns-then-limit-eq0 : goal.returns-then-limit-eq0
returns-then-limit-eq0 c =
    let a = c.args in
    with_number a.limit (length a.out.now) a.s a.store.now
    (rw c.if-limit-eq0.true (none_asked a.s a.store.now a.out.now c.check_usable-answer.ensures))

pub send_records-requires : goal.send_records-requires
send_records-requires c =
    let a = c.args in
    send_facts a.s a.store.now (judged_ok _ (tt {0}) (sym c.check_send-answer.ensures ∙ c.in-Ok.is))

pub returns-in-Err : goal.returns-in-Err
returns-in-Err c =
    let a = c.args in
    with_number a.limit (length a.out.now) a.s a.store.now
    (none_sent a.limit a.s a.store.now a.out.now c.if-limit-eq0.false c.check_send-answer.ensures c.in-Err.is)

pub returns-in-Ok : goal.returns-in-Ok
returns-in-Ok c = let a = c.args in with_number a.limit (length a.out.now) a.s a.store.now c.send_records.ensures
