-- `shift` meets its contract. The loop's invariant: the first i entries are moved, and the others are 0. When all that can be moved are,
-- the last n are the zeros that the array began with.
use Rattle.session.proofs.Arrays.{Moved}
use Rattle.receiving.proofs.release.shift.Given as goal

abbrev pub invariant-loop-i : goal.invariant-loop-i
invariant-loop-i l = Moved l.entries 64 l.n l.i l.moved
