-- `write_hex` meets its contract. The loop's invariant is what is left to do: storing the digits of the octets not yet written gives the
-- whole.
use mathlib.Core.Path.{◌≡◌}
use Prim.Native.Nat.{◌+◌, ◌*◌, ◌-◌, ◌≤◌}
use lib.ListN.{length, drop}
use lib.Seq.{sets}
use Rattle.lines.specs.Lines.{hex}
use Rattle.lines.proofs.write_hex.Given as goal

abbrev pub invariant-loop-i : goal.invariant-loop-i
invariant-loop-i l =
    (l.i ≤ length l.octets) × ((length l.text ≡ length l.initial.text) × (sets l.text (l.at + 2 * l.i) (hex (drop l.i l.octets)) ≡ sets l.initial.text l.at (hex l.octets)))

abbrev pub decreases-loop-i : goal.decreases-loop-i
decreases-loop-i l = length l.octets - l.i
