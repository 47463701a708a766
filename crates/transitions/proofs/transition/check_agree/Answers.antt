-- `check_agree` meets its contract. It makes the two tests of the definition in their order, so each return follows from the tests on the
-- way to it.
use borrow.Author.Tests.{eq-eqb, ne_eqb}
use mathlib.Core.Path.{refl, sym, ◌∙◌}
use Rattle.octets.specs.Answers.{judged, refusal_of}
use Rattle.transitions.proofs.transition.check_agree.Goals as goal

pub returns-then-not-is_offered : goal.returns-then-not-is_offered
unfolding judged refusal_of
returns-then-not-is_offered c = rw (sym c.is_offered.ensures ∙ c.if-not-is_offered.true) refl

pub returns-then-config-p : goal.returns-then-config-p
unfolding judged refusal_of
returns-then-config-p c =
    let e = sym c.is_offered.ensures ∙ c.if-not-is_offered.false in
    rw (e, ne_eqb _ _ c.if-config-p.true) refl

pub returns : goal.returns
unfolding judged
returns c =
    let e = sym c.is_offered.ensures ∙ c.if-not-is_offered.false in
    rw (e, eq-eqb _ _ c.if-config-p.false) refl
