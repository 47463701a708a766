-- `move_servers` meets its contract. Each arm of the match is the row of `transition` for that move, by the contract of its one call.
use Rattle.session.specs.Servers.{transition}
use Rattle.transitions.proofs.transition.move_servers.Goals as goal

pub returns-in-Start : goal.returns-in-Start
unfolding transition
returns-in-Start c = rw c.in-Start.is c.with_phase.ensures

pub returns-in-Stop : goal.returns-in-Stop
unfolding transition
returns-in-Stop c = rw c.in-Stop.is c.with_phase-in-Stop.ensures

pub returns-in-Negotiate : goal.returns-in-Negotiate
unfolding transition
returns-in-Negotiate c = rw c.in-Negotiate.is c.restart_servers.ensures

pub returns-in-Offer : goal.returns-in-Offer
unfolding transition
returns-in-Offer c = rw c.in-Offer.is c.with_phase-in-Offer.ensures

pub returns-in-Down : goal.returns-in-Down
unfolding transition
returns-in-Down c = rw c.in-Down.is c.with_phase-in-Down.ensures

pub returns-in-Agree : goal.returns-in-Agree
unfolding transition
returns-in-Agree c = rw c.in-Agree.is c.with_phase-in-Agree.ensures

pub returns-in-Malformed : goal.returns-in-Malformed
unfolding transition
returns-in-Malformed c = rw c.in-Malformed.is
