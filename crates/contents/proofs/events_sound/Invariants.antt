-- `events_sound`: the events passed are sound.
use mathlib.Core.Path.{◌≡◌}
use mathlib.Core.Bool.{true}
use Rattle.octets.specs.Each.{every}
use Rattle.contents.specs.Tape.{event_sound}
use Rattle.contents.proofs.events_sound.Given as goal

abbrev pub invariant-loop-i : goal.invariant-loop-i
invariant-loop-i l = every l.i (event_sound l.tape) ≡ true
