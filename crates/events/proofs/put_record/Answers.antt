-- `put_record` meets its contract: it takes the ID and the record that the body has, and what put ensures is the call's outcome.
use Rattle.session.specs.InOctets.{Put}
use Rattle.events.proofs.Events.{stepped_gives, put_silent}
use Rattle.events.proofs.put_record.Goals as goal

pub returns : goal.returns
returns c out =
    let a = c.args in
    rw (c.take_stepped.ensures, ← c.get-id.ensures, ← c.record_of.ensures)
    (stepped_gives _ _ out _ (Put a.table.now c.get-id.result c.record_of.result.now) _
    (put_silent a.s.now a.store.now a.table.now c.get-id.result c.record_of.result.now) c.put-stepped.ensures.0 c.put-stepped.ensures.1)
