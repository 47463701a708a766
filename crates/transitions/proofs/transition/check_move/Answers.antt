-- `check_move` meets its contract. It makes the definition's tests in their order, and the turn's own behind them.
use mathlib.Core.Path.{refl, sym, ◌∙◌}
use borrow.Author.Tests.{le-leb, lt-leb}
use Rattle.octets.specs.Answers.{judged, refusal_of}
use Rattle.transitions.proofs.transition.check_move.Goals as goal

pub returns-then-not-is_sound : goal.returns-then-not-is_sound
unfolding judged refusal_of
returns-then-not-is_sound c = rw (sym c.is_sound.ensures ∙ c.if-not-is_sound.true) refl

pub returns-then-s-v : goal.returns-then-s-v
unfolding judged refusal_of
returns-then-s-v c = rw (sym c.is_sound.ensures ∙ c.if-not-is_sound.false, le-leb _ c.args.v c.if-s-v.true) refl

pub returns : goal.returns
returns c =
    rw (sym c.is_sound.ensures ∙ c.if-not-is_sound.false, lt-leb _ c.args.v c.if-s-v.false)
    (rw c.phase_at.ensures at c.check_turn.ensures)
