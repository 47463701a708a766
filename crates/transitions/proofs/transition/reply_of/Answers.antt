-- `reply_of` meets its contract: each arm makes the message that the definition has for its transition, or none.
use Rattle.transitions.proofs.transition.reply_of.Goals as goal

pub returns-in-Start : goal.returns-in-Start
returns-in-Start c = rw c.in-Start.is

pub returns-in-Stop : goal.returns-in-Stop
returns-in-Stop c = rw c.in-Stop.is

pub returns-in-Negotiate : goal.returns-in-Negotiate
returns-in-Negotiate c = rw c.in-Negotiate.is

pub returns-in-Offer : goal.returns-in-Offer
returns-in-Offer c = rw c.in-Offer.is
