-- `play` meets its contract. The loop's invariant: the session stands where the events passed have brought it. Each arm makes the call of
-- one kind of event, whose contract says what the definition has after that event.
use Rattle.std.proofs.Common.{◌≡◌}
use Rattle.sessions.specs.Sessions.{progress, played}
use Rattle.sessions.proofs.play.Given as goal

abbrev pub invariant-loop-i : goal.invariant-loop-i
invariant-loop-i l =
    progress l.state l.store l.out l.total
    ≡ played (record { table = l.table; template = l.id; octets = l.r; events = l.events }) l.i
    (progress l.initial.state l.initial.store l.initial.out l.initial.total)
