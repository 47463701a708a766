-- `send_batch`: what a batch answers is what the definition has after it.
use Rattle.sessions.specs.Sessions.{Progress, progress}
use Rattle.sessions.proofs.Turns.{batch_after}
use Rattle.sessions.proofs.send_batch.Goals as goal

pub returns : goal.returns
returns c =
    let a = c.args in
    let q : Progress = progress a.state.now a.store.now a.out.now a.total in
    rw (c.add.ensures, c.answer_number.ensures)
    (batch_after q a.limit c.send_batch-left.result _ c.send_batch-left.ensures.0 c.send_batch-left.ensures.1.0
    c.send_batch-left.ensures.1.1)
