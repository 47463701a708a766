-- `first_zero` meets its contract. The loop's invariant: the first zero, if any, is not before p.
use mathlib.Core.Path.{◌≡◌}
use Prim.Native.Nat.{◌-◌}
use lib.Dec.{eqb}
use lib.ListN.{length, get_or}
use Rattle.octets.specs.Each.{first_from}
use Rattle.records.proofs.record.first_zero.Given as goal

abbrev pub invariant-loop-p : goal.invariant-loop-p
invariant-loop-p l = first_from l.p (length l.r - l.p) (λ q. eqb (get_or l.r q 0) 0) ≡ first_from l.at (length l.r - l.at) (λ q. eqb (get_or l.r q 0) 0)
