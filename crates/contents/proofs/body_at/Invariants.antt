-- `body_at`: at is where the body of event k begins, and is small enough that no sum wraps.
use mathlib.Core.Path.{◌≡◌}
use Prim.Native.Nat.{◌+◌, ◌*◌, ◌≤◌}
use Rattle.contents.specs.Tape.{body_at}
use Rattle.contents.proofs.body_at.Given as goal

abbrev pub invariant-loop-k : goal.invariant-loop-k
invariant-loop-k l = (l.at ≤ 300000 + 65535 * l.k) × (l.at ≡ body_at l.tape l.k)
