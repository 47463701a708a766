-- `run_clock` meets its contract. Its tests are those of the definition, in their order. The timer is below the duration, so that one more
-- tick fits.
use borrow.Author.Tests.{eq-eqb, ne_eqb, le-ltb, lt-ltb}
use Rattle.ticking.proofs.tick.run_clock.Goals as goal

pub returns-then-d-p : goal.returns-then-d-p
returns-then-d-p c = rw (lt-ltb _ _ c.if-d-p.true)

pub returns-then-timer-p : goal.returns-then-timer-p
returns-then-timer-p c = rw (le-ltb _ _ c.if-d-p.false, eq-eqb _ _ c.if-timer-p.true)

pub returns : goal.returns
returns c = rw (le-ltb _ _ c.if-d-p.false, ne_eqb _ _ c.if-timer-p.false)
