-- `check_offer` meets its contract. It makes the two tests of the definition in their order, so each return follows from the tests on the
-- way to it.
use mathlib.Core.Path.{refl, sym, ◌∙◌}
use Rattle.octets.specs.Answers.{judged, refusal_of}
use Rattle.transitions.proofs.transition.check_offer.Goals as goal

pub returns-then-not-is_sessions : goal.returns-then-not-is_sessions
unfolding judged refusal_of
returns-then-not-is_sessions c = rw (sym c.is_sessions.ensures ∙ c.if-not-is_sessions.true) refl

pub returns-then-not-can_offer : goal.returns-then-not-can_offer
unfolding judged refusal_of
returns-then-not-can_offer c =
    let e = sym c.is_sessions.ensures ∙ c.if-not-is_sessions.false in
    rw (e, sym c.can_offer.ensures ∙ c.if-not-can_offer.true) refl

pub returns : goal.returns
unfolding judged
returns c =
    let e = sym c.is_sessions.ensures ∙ c.if-not-is_sessions.false in
    rw (e, sym c.can_offer.ensures ∙ c.if-not-can_offer.false) refl
