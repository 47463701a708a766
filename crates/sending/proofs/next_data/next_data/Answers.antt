-- `next_data` meets its contract. A refusal leaves what came. Where there is a record to send and a server to send it to, only the output's
-- length can refuse it.
use Rattle.std.proofs.Common.{sym, ◌∙◌}
use Rattle.octets.proofs.Judging.{judged_ok, handed_on}
use Rattle.soundness.proofs.Parts.{active_below}
use Rattle.sending.proofs.Sends.{send_facts, sent_few, next_err, short_output, next_short, next_done}
use Rattle.sending.proofs.next_data.next_data.Goals as goal

pub returns-in_err-check_send : goal.returns-in_err-check_send
returns-in_err-check_send c =
    let a = c.args in
    rw (handed_on c.from_residual.ensures.1) (next_err a.s a.store.now a.out.now (sym c.check_send.ensures ∙ c.in_err-check_send.was))

pub write_next-requires : goal.write_next-requires
write_next-requires c =
    let a = c.args in
    (send_facts a.s a.store.now (judged_ok _ (tt {0}) (sym c.check_send.ensures ∙ c.in_ok-check_send.was)), c.record_start-at.ensures)

pub returns-in-Err : goal.returns-in-Err
returns-in-Err c =
    let a = c.args in
    let f = send_facts a.s a.store.now (judged_ok _ (tt {0}) (sym c.check_send.ensures ∙ c.in_ok-check_send.was)) in
    let d = short_output a.s a.store.now a.out.now _ _ _ f c.write_next.ensures c.in-Err.is in
    next_short a.s a.store.now a.out.now _ _ _ f c.write_next.ensures c.in-Err.is _ (cc d.0)

pub mark_sent-requires : goal.mark_sent-requires
mark_sent-requires c =
    let a = c.args in
    let f = send_facts a.s a.store.now (judged_ok _ (tt {0}) (sym c.check_send.ensures ∙ c.in_ok-check_send.was)) in
    (sent_few a.s a.store.now f, active_below a.s f.is_sound)

pub returns : goal.returns
returns c =
    let a = c.args in
    let f = send_facts a.s a.store.now (judged_ok _ (tt {0}) (sym c.check_send.ensures ∙ c.in_ok-check_send.was)) in
    next_done a.s a.store.now a.out.now _ _ _ _ f c.write_next.ensures c.in-Ok.is c.mark_sent.ensures
