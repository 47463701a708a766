-- `send_next` meets its contract.
use mathlib.Core.Path.{refl}
use Rattle.session.specs.InOctets.{NextData}
use Rattle.events.proofs.Events.{wrote_gives}
use Rattle.events.proofs.send_next.Goals as goal

pub returns : goal.returns
returns c =
    let a = c.args in
    rw c.take_wrote.ensures
    (wrote_gives _ a.store.now a.out.now _ (NextData a.out.now) _ c.next_data-wrote.ensures.0 c.next_data-wrote.ensures.1 refl)
