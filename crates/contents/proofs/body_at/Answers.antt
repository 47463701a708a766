-- `body_at`: one body more, by the definition.
use mathlib.Core.Path.{refl}
use native.Mathlib.Numerals.{add-one}
use native.Mathlib.Omega.{arith}
use Rattle.contents.specs.Tape.{body_at}
use Rattle.contents.proofs.body_at.Goals as goal

pub loop-k-init : goal.loop-k-init
unfolding body_at
loop-k-init c = (omega arith, rw (c.contents_at-at.ensures, c.event_count.ensures) refl)

pub loop-k-preserved : goal.loop-k-preserved
unfolding body_at
loop-k-preserved c = (omega arith, rw add-one (rw (c.loop-k.invariant.1, c.body_length.ensures) refl))
