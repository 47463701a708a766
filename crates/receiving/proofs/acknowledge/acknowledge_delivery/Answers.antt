-- `acknowledge_delivery` meets its contract, by whether n is 0. The saturating subtraction is that of the definition, and n is at most
-- reached, so the other does not go below 0.
use Rattle.std.proofs.Common.{eq-eqb, ne_eqb}
use Rattle.session.specs.Servers.{acknowledged}
use Rattle.receiving.proofs.acknowledge.acknowledge_delivery.Goals as goal

pub returns-then-n-eq0 : goal.returns-then-n-eq0
unfolding acknowledged
returns-then-n-eq0 c = rw (eq-eqb c.args.n 0 c.if-n-eq0.true)

pub returns : goal.returns
unfolding acknowledged
returns c = rw (ne_eqb c.args.n 0 c.if-n-eq0.false, c.saturating_sub.ensures)
