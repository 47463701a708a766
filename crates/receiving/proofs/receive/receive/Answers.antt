-- `receive` meets its contract. The octets are decoded to a DATA ACK or a transition, which is the call that the definition makes of them.
-- Each arm's call has this function's contract for that call; a DATA ACK leaves the output as it was.
use Rattle.std.proofs.Common.{sym, ap, ◌∙◌}
use Rattle.receiving.specs.Requests.{call_of_request}
use Rattle.receiving.proofs.Acks.{ack_wrote}
use Rattle.wire.specs.Replies.{crane}
use Rattle.receiving.proofs.receive.receive.Goals as goal

pub returns-in-Ack : goal.returns-in-Ack
returns-in-Ack c =
    let v = c.args.v in
    rw (sym (c.decode-request.ensures v) ∙ ap (call_of_request v) c.in-Ack.is)
    (ack_wrote crane _ _ _ _ _ _ _ c.acknowledge.ensures)

pub returns-in-Move : goal.returns-in-Move
returns-in-Move c =
    let v = c.args.v in
    rw (sym (c.decode-request.ensures v)
    ∙ ap (call_of_request v) c.in-Move.is)
    c.move_server.ensures
