-- `put_record`: what a put answers is what the definition has after it, whatever the output.
use Rattle.session.specs.InOctets.{Put}
use Rattle.sessions.specs.Sessions.{Progress, progress}
use Rattle.sessions.proofs.Turns.{put_writes_nothing, stepped_after}
use Rattle.sessions.proofs.put_record.Goals as goal

pub returns : goal.returns
returns c out =
    let a = c.args in
    let q : Progress = progress a.state.now a.store.now out a.total in
    rw (c.take_stepped.ensures.state, c.take_stepped.ensures.sum)
    (stepped_after q (Put a.table.now a.id a.r.now) c.put-left.result _
    (put_writes_nothing a.table.now 0 a.id a.r.now a.state.now a.store.now) c.put-left.ensures.0 c.put-left.ensures.1)
