-- `check_negotiate` meets its contract, by its one test.
use mathlib.Core.Path.{refl, sym, ◌∙◌}
use Rattle.octets.specs.Answers.{judged, refusal_of}
use Rattle.transitions.proofs.transition.check_negotiate.Goals as goal

pub returns-then-is_closed : goal.returns-then-is_closed
unfolding judged refusal_of
returns-then-is_closed c = rw (sym c.is_closed.ensures ∙ c.if-is_closed.true) refl

pub returns : goal.returns
unfolding judged
returns c = rw (sym c.is_closed.ensures ∙ c.if-is_closed.false) refl
