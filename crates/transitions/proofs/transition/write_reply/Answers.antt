-- `write_reply` meets its contract. The message of the transition is written whole, which only the output's length can refuse, since an
-- offered table is sound; a transition without one writes nothing, which fits any output.
use Rattle.transitions.proofs.Moves.{reply_placed, reply_none}
use Rattle.transitions.proofs.transition.write_reply.Goals as goal

pub returns-in-Some : goal.returns-in-Some
returns-in-Some c =
    let a = c.args in
    let q = c.reply_of-reply in
    let w = c.write_message.ensures in
    reply_placed a.p a.table.now a.out.now a.m q.result _ _ _ q.ensures c.in-Some.is c.requires (w.0.same, w.1)

pub returns-in-None : goal.returns-in-None
returns-in-None c =
    let a = c.args in
    let q = c.reply_of-reply in
    reply_none a.p a.table.now a.out.now a.m q.result q.ensures c.in-None.is
