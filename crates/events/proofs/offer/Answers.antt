-- `offer` meets its contract, whatever the store is.
use mathlib.Core.Path.{refl}
use Rattle.session.specs.InOctets.{OfferTemplates}
use Rattle.events.proofs.Events.{wrote_gives}
use Rattle.events.proofs.offer.Goals as goal

pub returns : goal.returns
returns c store =
    let a = c.args in
    rw c.take_wrote.ensures
    (wrote_gives _ store a.out.now _ (OfferTemplates a.server a.table.now a.out.now) _ c.offer_templates-wrote.ensures.0
    c.offer_templates-wrote.ensures.1 refl)
