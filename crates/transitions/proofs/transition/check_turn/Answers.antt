-- `check_turn` meets its contract. Each arm of the match is the row of `turn_checks` for that move: no refusal, one, or the contract of the
-- call that judges it.
use mathlib.Core.Path.{refl, sym}
use Rattle.octets.specs.Answers.{judged}
use Rattle.session.proofs.StepLaws.{judged_refusal}
use Rattle.transitions.proofs.transition.check_turn.Goals as goal

pub returns-in-Start : goal.returns-in-Start
unfolding judged
returns-in-Start c = rw c.in-Start.is refl

pub returns-in-Stop : goal.returns-in-Stop
unfolding judged
returns-in-Stop c = rw c.in-Stop.is refl

pub returns-in-Negotiate : goal.returns-in-Negotiate
returns-in-Negotiate c = rw c.in-Negotiate.is c.check_negotiate.ensures

pub returns-in-Offer : goal.returns-in-Offer
returns-in-Offer c = rw c.in-Offer.is c.check_offer.ensures

pub returns-in-Down : goal.returns-in-Down
unfolding judged
returns-in-Down c = rw c.in-Down.is refl

pub returns-in-Agree : goal.returns-in-Agree
returns-in-Agree c = rw c.in-Agree.is c.check_agree.ensures

pub returns-in-Malformed : goal.returns-in-Malformed
returns-in-Malformed c = rw c.in-Malformed.is (sym (judged_refusal (tt {0}) c.in-Malformed.refusal))
