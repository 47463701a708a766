-- `octets_to` meets its contract. The loop's invariant: sum is that of the entries passed, each below 65,536, so that 64 of them fit.
use mathlib.Core.Path.{◌≡◌}
use Prim.Native.Nat.{◌*◌, ◌≤◌}
use lib.ListN.{take}
use Rattle.session.specs.Queue.{sum_of}
use Rattle.queue.proofs.octets_to.Given as goal

abbrev pub invariant-loop-length : goal.invariant-loop-length
invariant-loop-length l = (l.sum ≡ sum_of (take l.length-index l.lengths)) × (l.sum ≤ 65535 * l.length-index)
