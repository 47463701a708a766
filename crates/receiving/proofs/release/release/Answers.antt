-- `release` meets its contract. A release of no record leaves each array as it is, since nothing is dropped and nothing appended; any
-- other is done array by array.
use Rattle.std.proofs.Common.{sym}
use Rattle.session.specs.Queue.{drop_front}
use Rattle.receiving.proofs.Acks.{dropped_none}
use Rattle.receiving.proofs.release.release.Goals as goal

pub returns-then-n-eq0 : goal.returns-then-n-eq0
returns-then-n-eq0 c = rw c.if-n-eq0.true (sym (dropped_none _))

pub returns : goal.returns
unfolding drop_front
returns c = rw (c.shift-q.ensures, c.shift-q-2.ensures, c.shift-q-3.ensures)
