-- `acknowledge` meets its contract. A refusal leaves what came. An accepted one names records that were reached, and so are held; they are
-- released.
use Rattle.std.proofs.Common.{sym, ◌∙◌, arith}
use Rattle.octets.proofs.Judging.{judged_ok, handed_on}
use Rattle.wire.specs.Replies.{crane}
use Rattle.session.proofs.SoundFacts.{sound_facts}
use Rattle.queue.proofs.Rings.{start_inside}
use Rattle.receiving.proofs.Acks.{named_ok, ack_sound, ack_few, ack_done, ack_refused}
use Rattle.receiving.proofs.acknowledge.acknowledge.Goals as goal

pub returns-in_err-n : goal.returns-in_err-n
returns-in_err-n c =
    let a = c.args in
    rw (handed_on c.from_residual.ensures.1)
    (ack_refused crane a.v a.dsn a.config a.s (sym c.released_by.ensures ∙ c.in_err-n.was))

pub acknowledge_delivery-s-requires : goal.acknowledge_delivery-s-requires
acknowledge_delivery-s-requires c =
    let a = c.args in
    let e = sym c.released_by.ensures ∙ c.in_ok-n.was in
    rw (← named_ok _ e) (ack_few crane a.v a.dsn a.config a.s (judged_ok _ _ e)).0

pub release-requires : goal.release-requires
release-requires c =
    let a = c.args in
    let e = sym c.released_by.ensures ∙ c.in_ok-n.was in
    let f = ack_few crane a.v a.dsn a.config a.s (judged_ok _ _ e) in
    rw (← named_ok _ e) (f.1.0, omega (arith, f.1.0, f.1.1))

pub returns : goal.returns
returns c =
    let a = c.args in
    let e = sym c.released_by.ensures ∙ c.in_ok-n.was in
    let z = judged_ok _ _ e in
    let inside = (sound_facts a.s (ack_sound crane a.v a.dsn a.config a.s z)).numbers.inside in
    rw (← named_ok _ e)
    (ack_done crane a.v a.dsn a.config a.s z (rw (named_ok _ e) c.acknowledge_delivery-s.ensures) (rw (named_ok _ e) c.release.ensures)
    (rw (named_ok _ e) (c.record_start.ensures ∙ start_inside a.s.capacity a.s.start a.s.queue.lengths _ inside)))
