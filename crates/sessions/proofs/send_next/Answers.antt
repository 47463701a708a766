-- `send_next`: what next data answers is what the definition has after it.
use Rattle.std.proofs.Common.{refl}
use Rattle.session.specs.InOctets.{NextData}
use Rattle.sessions.specs.Sessions.{Progress, progress}
use Rattle.sessions.proofs.Turns.{wrote_after}
use Rattle.sessions.proofs.send_next.Goals as goal

pub returns : goal.returns
returns c =
    let a = c.args in
    let q : Progress = progress a.state.now a.store.now a.out.now a.total in
    rw (c.take_wrote.ensures.state, c.take_wrote.ensures.sum)
    (wrote_after q (NextData a.out.now) c.next_data-left.result _ refl c.next_data-left.ensures.0 c.next_data-left.ensures.1)
