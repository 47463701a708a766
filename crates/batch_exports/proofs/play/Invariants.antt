-- `play` meets its contract. The loop's invariant: the calls stand where the events passed have brought them. At the end the events before
-- both ends are passed.
use Rattle.std.proofs.Common.{◌≡◌, ◌-◌, ◌≤◌}
use Rattle.events.specs.Events.{settled}
use Rattle.batch_exports.specs.Calls.{progress, uncalled, played}
use Rattle.batch_exports.proofs.play.Given as goal

abbrev pub invariant-loop-i : goal.invariant-loop-i
invariant-loop-i l =
    (l.from ≤ l.i)
    × ((l.i - l.from ≤ l.i-end - l.from)
    × (progress (settled l.s l.last) l.store l.out
    ≡ played l.tape l.from (l.i - l.from) (progress (uncalled l.initial.s) l.initial.store l.initial.out)))
