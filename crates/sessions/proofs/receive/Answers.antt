-- `receive`: what receiving answers is what the definition has after it, whatever the store.
use Rattle.std.proofs.Common.{refl}
use Rattle.session.specs.InOctets.{Receive}
use Rattle.sessions.specs.Sessions.{Progress, progress}
use Rattle.sessions.proofs.Turns.{wrote_after}
use Rattle.sessions.proofs.receive.Goals as goal

pub returns : goal.returns
returns c store =
    let a = c.args in
    let q : Progress = progress a.state.now store a.out.now a.total in
    rw (c.take_wrote.ensures.state, c.take_wrote.ensures.sum)
    (wrote_after q (Receive a.server a.message.now a.out.now) c.receive-left.result _ refl c.receive-left.ensures.0
    c.receive-left.ensures.1)
