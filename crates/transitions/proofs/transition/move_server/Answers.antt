-- `move_server` meets its contract, refusal by refusal: 1, 2, the transition's own, and 12 where its message does not fit. What is refused
-- changes nothing. Else the message that was written is the definition's, and the choice is made anew.
use mathlib.Core.Path.{sym, ◌∙◌}
use mathlib.Core.Bool.{false}
use lib.ListN.{length}
use Rattle.wire.specs.Replies.{crane}
use Rattle.octets.proofs.Judging.{judged_ok, handed_on}
use Rattle.transitions.specs.Moves.{transition_of}
use Rattle.transitions.proofs.Changes.{moved}
use Rattle.transitions.proofs.Moves.{any_table, early_fits, early_roomed, move_err, move_short, fitted, unfitted}
use Rattle.transitions.proofs.transition.move_server.Goals as goal

pub returns-in_err-check_move : goal.returns-in_err-check_move
returns-in_err-check_move c =
    let a = c.args in
    rw (handed_on c.from_residual.ensures.1)
    (move_err a.v a.m a.table.now a.out.now a.s (sym c.check_move.ensures ∙ c.in_err-check_move.was))

pub write_reply-requires : goal.write_reply-requires
write_reply-requires c =
    let a = c.args in
    let e = judged_ok _ (tt {0}) (sym c.check_move.ensures ∙ c.in_ok-check_move.was) in
    early_fits (length a.out.now) a.v (transition_of a.table.now a.m) a.s e

pub returns-in-Err : goal.returns-in-Err
returns-in-Err c =
    let a = c.args in
    let e = judged_ok _ (tt {0}) (sym c.check_move.ensures ∙ c.in_ok-check_move.was) in
    let f = unfitted _ _ _ _ _ c.write_reply.ensures c.in-Err.is in
    move_short a.v a.m a.table.now a.out.now a.s e f _ (cc f.number)

pub returns : goal.returns
returns c =
    let a = c.args in
    let t = transition_of a.table.now a.m in
    let e = judged_ok _ (tt {0}) (sym c.check_move.ensures ∙ c.in_ok-check_move.was) in
    let f = fitted _ _ _ _ _ c.write_reply.ensures c.in-Ok.is in
    rw (c.apply.ensures, c.settle_change-change.ensures, c.move_delivery.ensures, any_table a.v a.m a.table.now a.s.delivery.servers)
    (moved crane (length a.out.now) a.v t a.s a.out.now _ _ (early_roomed (length a.out.now) a.v t a.s e false f.fits) f.many f.left)
