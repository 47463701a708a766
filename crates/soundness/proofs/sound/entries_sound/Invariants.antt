-- `entries_sound` meets its contract. The loop's invariant: ok says whether the entries passed are in their limits.
use mathlib.Core.Path.{◌≡◌}
use Rattle.octets.specs.Each.{every}
use Rattle.session.specs.Sound.{entry_sound}
use Rattle.soundness.proofs.sound.entries_sound.Given as goal

abbrev pub invariant-loop-i : goal.invariant-loop-i
invariant-loop-i l = l.ok ≡ every l.i (entry_sound l.servers l.q.lengths l.q.receivers)
