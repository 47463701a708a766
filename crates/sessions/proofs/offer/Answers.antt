-- `offer`: what an offer answers is what the definition has after it, whatever the store.
use Rattle.std.proofs.Common.{refl, rules}
use Rattle.session.specs.InOctets.{OfferTemplates}
use Rattle.sessions.specs.Sessions.{Progress, progress}
use Rattle.sessions.proofs.Turns.{wrote_after}
use Rattle.sessions.proofs.offer.Goals as goal

pub returns : goal.returns
returns c store =
    let a = c.args in
    let q : Progress = progress a.state.now store a.out.now a.total in
    rw (c.take_wrote.ensures.state, c.take_wrote.ensures.sum)
    (wrote_after q (OfferTemplates a.server a.table.now a.out.now) _ _ refl (search rules) (search rules))
