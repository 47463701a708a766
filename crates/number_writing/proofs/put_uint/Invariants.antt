-- `put_uint` meets its contract. The loop's invariant is what is left to do: storing the octets of what is left of the number, beside those
-- already stored, gives the whole number in either order.
use mathlib.Core.Path.{◌≡◌}
use Prim.Native.Nat.{◌-◌}
use lib.ListN.{length}
use lib.Seq.{sets}
use Rattle.numbers.specs.Numbers.{octets_in}
use Rattle.numbers.proofs.Numbers.{high_at}
use Rattle.number_writing.proofs.put_uint.Given as goal

abbrev pub invariant-loop-i : goal.invariant-loop-i
invariant-loop-i l =
    (length l.out ≡ length l.initial.out)
    × (sets l.out (high_at l.order l.at (l.w - l.i)) (octets_in l.order l.i l.n) ≡ sets l.initial.out l.at (octets_in l.order l.w l.v))
