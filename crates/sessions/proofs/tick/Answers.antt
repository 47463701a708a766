-- `tick`: what a tick answers is what the definition has after it, whatever the store and the output.
use Rattle.std.proofs.Common.{[], refl}
use Rattle.session.specs.InOctets.{Tick}
use Rattle.sessions.specs.Sessions.{Progress, progress}
use Rattle.sessions.proofs.Turns.{tick_writes_nothing, stepped_after}
use Rattle.sessions.proofs.tick.Goals as goal

pub returns : goal.returns
returns c store out =
    let a = c.args in
    let q : Progress = progress a.state.now store out a.total in
    rw (c.take_stepped.ensures.state, c.take_stepped.ensures.sum)
    (stepped_after q Tick c.tick-left.result _ (tick_writes_nothing 0 a.state.now []) c.tick-left.ensures refl)
