-- `store_length` meets its contract: it is the number in the body of event 0, and one more. The sum does not wrap, since the number has 16
-- bits.
use mathlib.Core.Path.{refl}
use Rattle.events.proofs.store_length.Goals as goal

pub returns : goal.returns
returns c = rw (c.get.ensures, c.body.ensures) refl
