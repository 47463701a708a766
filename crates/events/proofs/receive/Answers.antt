-- `receive` meets its contract, whatever the store is.
use mathlib.Core.Path.{refl}
use Rattle.session.specs.InOctets.{Receive}
use Rattle.events.proofs.Events.{wrote_gives}
use Rattle.events.proofs.receive.Goals as goal

pub returns : goal.returns
returns c store =
    let a = c.args in
    rw c.take_wrote.ensures
    (wrote_gives _ store a.out.now _ (Receive a.server a.message.now a.out.now) _ c.receive-wrote.ensures.0 c.receive-wrote.ensures.1 refl)
