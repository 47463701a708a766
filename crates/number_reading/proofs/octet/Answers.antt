-- `octet` meets its contract: past the end stands 0.
use mathlib.Core.Path.{sym}
use Prim.Native.Nat.{◌+◌}
use native.Mathlib.Omega.{arith}
use lib.ListN.{get_or-eq_default}
use Rattle.number_reading.proofs.octet.Goals as goal

pub returns-then-saturating_sub-i : goal.returns-then-saturating_sub-i
returns-then-saturating_sub-i c =
    let a = c.args in
    sym (get_or-eq_default a.s.now 0 {n = a.at + a.i} (omega arith))
