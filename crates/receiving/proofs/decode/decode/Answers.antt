-- `decode` meets its contract. The header is judged first, then the session, then the message number, in the order of `form_answer`. Where
-- all pass, reading the message alone gives what is left, its body, and the call that it makes.
use Rattle.std.proofs.Common.{sym, ◌∙◌}
use Rattle.receiving.proofs.Received.{request_refused, request_session, request_number, request_body}
use Rattle.receiving.proofs.decode.decode.Goals as goal

pub returns-then-h-p : goal.returns-then-h-p
returns-then-h-p c =
    λ v. rw c.refuse_message.ensures
    (request_session _ v _ _
    (sym c.read_header-header.ensures.same
    ∙ c.in-Ok.is) c.if-h-p.true)

pub returns-then-not-is_received : goal.returns-then-not-is_received
returns-then-not-is_received c = λ v.
    rw c.refuse_message-then-not-is_received.ensures
    (request_number _ v _ _
    (sym c.read_header-header.ensures.same
    ∙ c.in-Ok.is) c.if-h-p.false
    (sym c.is_received.ensures ∙ c.if-not-is_received.true))

pub returns-else-not-is_received : goal.returns-else-not-is_received
returns-else-not-is_received c = λ v.
    c.decode_body.ensures v
    ∙ request_body _ v _ _ (sym c.read_header-header.ensures.same
    ∙ c.in-Ok.is) c.if-h-p.false
    (sym c.is_received.ensures ∙ c.if-not-is_received.false)

pub returns-in-Err : goal.returns-in-Err
returns-in-Err c =
    λ v. rw c.refuse_message-in-Err.ensures
    (request_refused _ v _ _ (rw c.in-Err.is at c.read_header-header.ensures.number)
    (sym c.read_header-header.ensures.same ∙ c.in-Err.is))
