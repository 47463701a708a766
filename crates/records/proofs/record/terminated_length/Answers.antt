-- `terminated_length` meets its contract: the string ends with the first zero, where the record has one.
use native.Mathlib.Omega.{arith}
use Prim.Native.Nat.{◌-◌}
use lib.Dec.{eqb}
use lib.ListN.{length, get_or}
use borrow.Author.Tests.{le-ltb, lt-ltb}
use Rattle.octets.proofs.Each.{first_least}
use Rattle.records.specs.Record.{terminated_length}
use Rattle.records.proofs.record.terminated_length.Goals as goal

pub overflow_sub-result : goal.overflow_sub-result
overflow_sub-result c =
    let a = c.args in
    let r = a.r.now in
    omega (arith, first_least a.at (length r - a.at) (λ q. eqb (get_or r q 0) 0))

pub returns-then-p-r : goal.returns-then-p-r
unfolding terminated_length
returns-then-p-r c = rw (← c.first_zero-p.ensures, lt-ltb _ _ c.if-p-r.true)

pub returns : goal.returns
unfolding terminated_length
returns c = rw (← c.first_zero-p.ensures, le-ltb _ _ c.if-p-r.false)
