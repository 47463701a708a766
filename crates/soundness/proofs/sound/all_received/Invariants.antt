-- `all_received` meets its contract. The loop's invariant: the server is in what the sets passed have in common where it is in each of
-- them. It is in the set that the loop starts with, which has all.
use mathlib.Core.Path.{◌≡◌}
use lib.ListN.{get_or}
use Rattle.octets.specs.Each.{every}
use Rattle.session.specs.Queue.{has}
use Rattle.soundness.proofs.sound.all_received.Given as goal

abbrev pub invariant-loop-i : goal.invariant-loop-i
invariant-loop-i l = has l.common l.v ≡ every l.i (λ j. has (get_or l.receivers j 0) l.v)
