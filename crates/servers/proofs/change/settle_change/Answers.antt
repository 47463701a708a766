-- `settle_change` meets its contract. One choice is made, and whether it differs from the active server decides both the delivery and S, as
-- in `settle` and `changed`.
use Rattle.session.specs.Servers.{changed, settle}
use Rattle.session.proofs.SoundFacts.{active_eq}
use Rattle.servers.proofs.change.settle_change.Goals as goal

pub returns : goal.returns
unfolding settle changed
returns c = rw (c.settle_delivery-delivery.ensures, c.eq-same.ensures, active_eq, c.choose_server-choice.ensures)
